-- What a line of a dialogue asks for, given its bytes. (Own.)
use Rattle.std.specs.Prelude.{ℕ, List, [], ◌∷◌, if◌then◌else◌, ◌==◌, Some, None, codes, bytes_eq, Option, option_map}
use Rattle.std.specs.Prelude.{option_and_then}
use Rattle.std.specs.{List.slice_split, Option.option_or}
use Rattle.im_types.specs.Types.{Waiter, Command, Asks, Confirm}
use Rattle.im_script.specs.Grammar.{is_line, number_up_to, span_in, words_of}
use Rattle.im_script.specs.{Lines.action_of, Places.action_op}
use Rattle.im_dialogue.specs.{Backups.backup_name_of, declared.asking.Question.Question}
use Rattle.im_dialogue.specs.declared.asking.Question.TheVariants.{About, Backup, Count, Look, Quit, Room, Serve, Turn}
use Rattle.im_dialogue.specs.declared.asking.Question.TheVariants.{Window}
use Rattle.im_dialogue.specs.declared.look.Look.TheVariants.{Block, Blocks, Cell, Cells, Collect, Elements, Entry, Help}
use Rattle.im_dialogue.specs.declared.look.Look.TheVariants.{Stat, Waiting}

-- an element's number
abbrev pub element_of : List ℕ → Option ℕ
element_of word = number_up_to 65535 word

-- a number of a request
abbrev pub request_number_of : List ℕ → Option ℕ
request_number_of word = number_up_to 18446744073709551615 word

-- an element and a number, given the parts of a word between its dots
abbrev pub waiter_by : List (List ℕ) → Option Waiter
waiter_by (element ∷ number ∷ []) =
    option_and_then (λ e. option_map (λ n. record { element = e; number = n }) (request_number_of number))
    (element_of element)
waiter_by _ = None

-- E.N
abbrev pub waiter_named : List ℕ → Option Waiter
waiter_named word = waiter_by (slice_split (λ byte. byte == 46) word)

-- room, turn, count, about, stat, blocks, elements, waiting, help or quit
abbrev pub asked_by_one : List ℕ → Option Question
asked_by_one word = if bytes_eq word (codes "room") then Some Room
    else (if bytes_eq word (codes "turn") then Some Turn
    else (if bytes_eq word (codes "count") then Some Count
    else (if bytes_eq word (codes "about") then Some About
    else (if bytes_eq word (codes "stat") then Some (Look Stat)
    else (if bytes_eq word (codes "blocks") then Some (Look Blocks)
    else (if bytes_eq word (codes "elements") then Some (Look Elements)
    else (if bytes_eq word (codes "waiting") then Some (Look Waiting)
    else (if bytes_eq word (codes "help") then Some (Look Help)
    else (if bytes_eq word (codes "quit") then Some Quit else None)))))))))

-- collect E.N, entry E.N, window E, backup NAME, cells A-B, cell A or block A
abbrev pub asked_by_two : List ℕ → List ℕ → Option Question
asked_by_two word what = if bytes_eq word (codes "collect") then option_map (λ w. Look (Collect w)) (waiter_named what)
    else (if bytes_eq word (codes "entry") then option_map (λ w. Look (Entry w)) (waiter_named what)
    else (if bytes_eq word (codes "window") then option_map Window (element_of what)
    else (if bytes_eq word (codes "backup") then option_map Backup (backup_name_of what)
    else (if bytes_eq word (codes "cells") then option_map (λ s. Look (Cells s.0 s.1)) (span_in what)
    else (if bytes_eq word (codes "cell") then option_map (λ a. Look (Cell a)) (number_up_to 4294967295 what)
    else (if bytes_eq word (codes "block") then option_map (λ a. Look (Block a)) (number_up_to 4294967295 what)
    else None))))))

-- confirm E UPTO
abbrev pub asked_by_three : List ℕ → List ℕ → List ℕ → Option Question
asked_by_three word element upto = if bytes_eq word (codes "confirm")
    then option_and_then (λ e. option_map (λ n. Serve (Confirm e n)) (request_number_of upto)) (element_of element)
    else None

-- E.N and a request of a script, with addresses alone
abbrev pub asked_by_request : List ℕ → List (List ℕ) → Option Question
asked_by_request first rest =
    option_and_then (λ who. option_map
    (λ op. Serve (Asks (record { element = who.element; number = who.number; op = op })))
    (option_and_then (action_op []) (action_of [] rest)))
    (waiter_named first)

-- what a line asks for, given its words
abbrev pub asked_in : List (List ℕ) → Option Question
asked_in (word ∷ []) = asked_by_one word
asked_in (word ∷ what ∷ []) = asked_by_two word what
asked_in (word ∷ first ∷ second ∷ []) =
    option_or (asked_by_three word first second) (asked_by_request word (first ∷ second ∷ []))
asked_in (word ∷ first ∷ second ∷ third ∷ []) = asked_by_request word (first ∷ second ∷ third ∷ [])
asked_in _ = None

-- what a line asks for, which has to be ASCII and not too long; none if it isn't in the grammar
abbrev pub asked_of : List ℕ → Option Question
asked_of line = if is_line line then asked_in (words_of line) else None

-- the command that is asked for, if it is one
abbrev pub question_command : Option Question → Option Command
question_command (Some (Serve command)) = Some command
question_command asked = None
