-- Lists of calls with answers that one memory could have given in this order. (Own.)
use Rattle.std.specs.Prelude.{◌≡◌, List, [], ◌∷◌, Ok, Err, Result}
use Rattle.im_types.specs.{Contents.Contents, Step.step, Window.ask}
use Rattle.im_types.specs.declared.commands.Call.{Call, TheVariants.Collect, TheVariants.Command as Commands}
use Rattle.im_types.specs.declared.commands.{Line.Line, Outcome.Outcome, Outcome.TheVariants.Entry as Tells}
use Rattle.im_types.specs.declared.{operations.Entry.Entry, refusals.Refusal.Refusal}

-- an entry that was asked for, as an outcome
abbrev pub told : Result Entry Refusal → Result Outcome Refusal
told (Ok entry) = Ok (Tells entry)
told (Err refusal) = Err refusal

-- a memory's answer to a call
abbrev pub answer_to : Contents → Call → Result Outcome Refusal
answer_to m (Commands command) = (step m command).answer
answer_to m (Collect element number) = told (ask m.windows (record { element = element; number = number }))

-- the memory after a call
abbrev pub contents_after : Contents → Call → Contents
contents_after m (Commands command) = (step m command).contents
contents_after m (Collect element number) = m

-- each line has the answer of the memory after the lines before it
abbrev pub IsLegal : Contents → List Line → Type 0
IsLegal m [] = Unit {0}
IsLegal m (line ∷ lines) = (line.answer ≡ answer_to m line.call) × IsLegal (contents_after m line.call) lines

-- the memory after a trace
abbrev pub end_of : Contents → List Line → Contents
end_of m [] = m
end_of m (line ∷ lines) = end_of (contents_after m line.call) lines
