-- What those that watch are told of commands, before these act.
use Rattle.std.proofs.Common.{◌≡◌, ℕ, zero, suc, ◌+◌, ◌<◌, Bool, true, false, not, ◌&&◌, List, [], ◌∷◌, ◌++◌, length}
use Rattle.std.proofs.Common.{get_or, take, drop, is_none, if◌then◌else◌, Some, None, Ok, Err, Option, Result, sym}
use Rattle.std.proofs.Common.{refl, ap, ◌∙◌, subst, append_assoc, append-nil, arith, length-append}
use Rattle.std.{proofs.Math.Seq.drop-cons, specs.List.list_any}
use Rattle.im_types.specs.Types.{Op, Kept as KeptEntry, I, M, Alloc, Release, Reset, Fetch, Store, Take, Put, Request}
use Rattle.im_types.specs.Types.{Command, Outcome, Asks, Confirm, Refusal, Contents, kept_for, IsMemory, address_of}
use Rattle.im_types.specs.Types.{store, put, act, asker, is_accepted}
use Rattle.{im_laws.proofs.Tests.and_both, im_laws.proofs.Tests.true_false, im_groups.specs.Commands.answer_with}
use Rattle.im_front.specs.{declared.AskedCommand.AskedCommand, Lists.commands_asked}
use Rattle.im_dialogue.proofs.ReachLemmas.{cell_after, none_after, resumed_here, told_accepted}
use Rattle.im_dialogue.{proofs.WatchLemmas.quiet_resumes, specs.declared.answers.LineAnswer.LineAnswer}
use Rattle.im_dialogue.specs.Firsts.{asks_for, is_first, may_reach}
use Rattle.im_dialogue.specs.Together.{GroupStart, later_texts, memory_between, places_between, TellsWatchers}
use Rattle.im_dialogue.specs.Together.{TellWatchers}
use Rattle.im_dialogue.specs.Watching.{answers_nobody, nows_text, resumed_by, told_with, watch_text}
use Rattle.im_dialogue.specs.declared.answers.LineAnswer.TheVariants as answer

-- ---- one command

pub told_nothing : (given : LineAnswer) → told_with given [] ≡ []
told_nothing (answer.Served c (Ok outcome)) = refl
told_nothing (answer.Served c (Err refusal)) = refl
told_nothing (answer.Looked look) = refl
told_nothing (answer.Window element result) = refl
told_nothing (answer.Room room) = refl
told_nothing (answer.Turned done) = refl
told_nothing (answer.Count count) = refl
told_nothing (answer.About about) = refl
told_nothing (answer.Backup name kept) = refl
told_nothing (answer.Wrong number fault) = refl

-- nobody is told behind the answer of such a command
quiet_tells : (watch : Bool) (m : Contents) (c : Command) (a : Result Outcome Refusal)
    → (watch ≡ true → answers_nobody c ≡ true)
    → watch_text watch m (answer.Served c a) ≡ []
quiet_tells watch m c (Err refusal) quiet = refl
quiet_tells false m c (Ok outcome) quiet = refl
quiet_tells true m (Confirm element upto) (Ok outcome) quiet = refl
quiet_tells true m (Asks r) (Ok outcome) quiet = by_test (is_accepted m (Asks r))
  where
    by_test : (b : Bool) → nows_text (if b then (act m.cells (asker r) r.op).resumed else []) ≡ []
    by_test true = ap nows_text (quiet_resumes m.cells (asker r) r.op (quiet refl))
    by_test false = refl

pub told_quiet : (watch : Bool) (b : GroupStart) (ahead : List Command) (c : Command) (text : List ℕ) → text ≡ []
    → (watch ≡ true → answers_nobody c ≡ true) → TellsWatchers watch b ahead c text
told_quiet watch b ahead c text none quiet = λ outcome is.
    ap (λ (t : List ℕ). told_with (answer.Served c outcome) t) none ∙ told_nothing (answer.Served c outcome)
    ∙ sym (quiet_tells watch (memory_between b ahead) c outcome quiet)

not_not : (x : Bool) → x ≡ not (not x)
not_not true = refl
not_not false = refl

is_nothing : (o : Option KeptEntry) → is_none o ≡ true → o ≡ None
is_nothing None e = refl
is_nothing (Some k) e = absurd (true_false (sym e))

module _ (cells elements : ℕ) (b : GroupStart) (is : IsMemory cells elements b.memory) (ahead : List Command)
    (r : Request) (first : is_first b.memory ahead r ≡ true) where
  abbrev there : Contents
  there = memory_between b ahead

  firsts : (is_none (kept_for b.memory.windows (asker r)) && not (list_any (asks_for (asker r)) ahead) ≡ true)
      × (not (list_any (may_reach (address_of r.op)) ahead) ≡ true)
  firsts = and_both (is_none (kept_for b.memory.windows (asker r)) && not (list_any (asks_for (asker r)) ahead))
      (not (list_any (may_reach (address_of r.op)) ahead)) first

  none_kept : kept_for there.windows (asker r) ≡ None
  none_kept =
      let both = and_both (is_none (kept_for b.memory.windows (asker r))) (not (list_any (asks_for (asker r)) ahead))
      firsts.0 in
      none_after cells elements b.memory b.places ahead (asker r) is
      (not_not (list_any (asks_for (asker r)) ahead) ∙ ap not both.1)
      (is_nothing (kept_for b.memory.windows (asker r)) both.0)

  unreached : (a : ℕ) → address_of r.op ≡ a → list_any (may_reach a) ahead ≡ false
  unreached a same = ap (λ (x : ℕ). list_any (may_reach x) ahead) (sym same)
      ∙ not_not (list_any (may_reach (address_of r.op)) ahead) ∙ ap not firsts.1

  same_resumed : (op : Op) → r.op ≡ op
      → (act there.cells (asker r) op).resumed ≡ (act b.memory.cells (asker r) op).resumed
  same_resumed (Alloc kind n) e = quiet_resumes there.cells (asker r) (Alloc kind n) refl
      ∙ sym (quiet_resumes b.memory.cells (asker r) (Alloc kind n) refl)
  same_resumed (Release a) e = quiet_resumes there.cells (asker r) (Release a) refl
      ∙ sym (quiet_resumes b.memory.cells (asker r) (Release a) refl)
  same_resumed (Reset a) e = quiet_resumes there.cells (asker r) (Reset a) refl
      ∙ sym (quiet_resumes b.memory.cells (asker r) (Reset a) refl)
  same_resumed (Fetch a) e = quiet_resumes there.cells (asker r) (Fetch a) refl
      ∙ sym (quiet_resumes b.memory.cells (asker r) (Fetch a) refl)
  same_resumed (Take a) e = quiet_resumes there.cells (asker r) (Take a) refl
      ∙ sym (quiet_resumes b.memory.cells (asker r) (Take a) refl)
  same_resumed (Store a v) e = resumed_here I (store v) b.memory.cells there.cells a
      (cell_after cells elements b.memory b.places ahead a is (unreached a (ap address_of e)))
  same_resumed (Put a v) e = resumed_here M (put v) b.memory.cells there.cells a
      (cell_after cells elements b.memory b.places ahead a is (unreached a (ap address_of e)))

  pub told_first : (text : List ℕ) → text ≡ nows_text (act b.memory.cells (asker r) r.op).resumed
      → TellsWatchers true b ahead (Asks r) text
  told_first text same = λ outcome of. by_outcome outcome of
    where
      by_outcome : (outcome : Result Outcome Refusal) → outcome ≡ answer_with there (places_between b ahead) (Asks r)
          → told_with (answer.Served (Asks r) outcome) text ≡ watch_text true there (answer.Served (Asks r) outcome)
      by_outcome (Err refusal) of = refl
      by_outcome (Ok o) of = same
          ∙ ap nows_text (sym (same_resumed r.op refl))
          ∙ ap (λ (t : Bool). nows_text (if t then (act there.cells (asker r) r.op).resumed else []))
          (sym (told_accepted there (places_between b ahead) r o none_kept (sym of)))

-- with no member ahead
pub told_alone : (b : GroupStart) (c : Command) (text : List ℕ) → text ≡ nows_text (resumed_by b.memory c)
    → TellsWatchers true b [] c text
told_alone b c text same = λ outcome of. by_outcome outcome
  where
    by_outcome : (outcome : Result Outcome Refusal)
        → told_with (answer.Served c outcome) text ≡ watch_text true b.memory (answer.Served c outcome)
    by_outcome (Err refusal) = refl
    by_outcome (Ok o) = same

-- ---- all of them

-- nobody watches
pub tell_nobody : (b : GroupStart) (ahead cs : List Command) → TellWatchers false b ahead cs []
tell_nobody b ahead [] = tt
tell_nobody b ahead (c ∷ cs) = (
  told_quiet false b ahead c [] refl (λ w. absurd (true_false (sym w))),
  tell_nobody b (ahead ++ c ∷ []) cs,
)

module _ (watch : Bool) (b : GroupStart) where
  -- one command more
  pub tell_more : (ahead cs : List Command) (texts : List (List ℕ)) (c : Command) (text : List ℕ)
      → length texts ≡ length cs → TellWatchers watch b ahead cs texts → TellsWatchers watch b (ahead ++ cs) c text
      → TellWatchers watch b ahead (cs ++ c ∷ []) (texts ++ text ∷ [])
  tell_more ahead [] [] c text same are is =
      (subst (λ (l : List Command). TellsWatchers watch b l c text) (append-nil ahead) is, tt)
  tell_more ahead [] (t ∷ texts) c text same are is = absurd (omega (arith, same))
  tell_more ahead (d ∷ cs) [] c text same are is = absurd (omega (arith, same))
  tell_more ahead (d ∷ cs) (t ∷ texts) c text same are is = (
    are.0,
    tell_more (ahead ++ d ∷ []) cs texts c text (omega (arith, same)) are.1
        (subst (λ (l : List Command). TellsWatchers watch b l c text) (sym (append_assoc ahead (d ∷ []) cs)) is),
  )

  -- the first of them
  pub tell_first : (n : ℕ) (ahead cs : List Command) (texts : List (List ℕ)) → TellWatchers watch b ahead cs texts
      → TellWatchers watch b ahead (take n cs) texts
  tell_first zero ahead cs texts are = tt
  tell_first (suc n) ahead [] texts are = tt
  tell_first (suc n) ahead (c ∷ cs) texts are =
      (are.0, tell_first n (ahead ++ c ∷ []) cs (later_texts texts) are.1)

pub told_next : (b : GroupStart) (ahead held now : List Command) (texts is : List (List ℕ)) (c : Command)
    (text : List ℕ) → held ≡ ahead → now ≡ ahead ++ c ∷ [] → is ≡ texts ++ text ∷ [] → length texts ≡ length ahead
    → TellWatchers true b [] ahead texts → TellsWatchers true b held c text → TellWatchers true b [] now is
told_next b ahead held now texts is c text same next more many told known =
    subst (λ (l : List Command). TellWatchers true b [] l is) (sym next)
    (subst (λ (l : List (List ℕ)). TellWatchers true b [] (ahead ++ c ∷ []) l) (sym more)
    (tell_more true b [] ahead texts c text many told
    (subst (λ (l : List Command). TellsWatchers true b l c text) same known)))

pub one_longer : {T : Type 0} (xs now : List T) (x : T) → now ≡ xs ++ x ∷ [] → length now ≡ suc (length xs)
one_longer xs now x is = let same = ap (λ (l : List _). length l) is in let long = length-append xs (x ∷ []) in
    omega (arith, same, long)

-- no command is ahead
pub no_command : (ahead : List Command) → length ahead ≡ 0 → ahead ≡ []
no_command [] none = refl
no_command (c ∷ ahead) none = absurd (omega (arith, none))

-- the commands that are ahead are the first that were asked
pub first_asked : (ahead all rest : List Command) → ahead ++ rest ≡ all → take (length ahead) all ≡ ahead
first_asked ahead all rest is = ap (take (length ahead)) (sym is) ∙ front ahead
  where
    front : (xs : List Command) → take (length xs) (xs ++ rest) ≡ xs
    front [] = refl
    front (x ∷ xs) = ap (λ (l : List Command). x ∷ l) (front xs)

pub ahead_next : (asked : List AskedCommand) (i : ℕ) (d : AskedCommand) (ahead now : List Command) → i < length asked
    → ahead ++ commands_asked (drop i asked) ≡ commands_asked asked → now ≡ ahead ++ (get_or asked i d).command ∷ []
    → now ++ commands_asked (drop (i + 1) asked) ≡ commands_asked asked
ahead_next asked i d ahead now within all is =
    let next : suc i ≡ i + 1 = omega arith in
    ap (λ (l : List Command). l ++ commands_asked (drop (i + 1) asked)) is
    ∙ append_assoc ahead ((get_or asked i d).command ∷ []) (commands_asked (drop (i + 1) asked))
    ∙ ap (λ (n : ℕ). ahead ++ ((get_or asked i d).command ∷ commands_asked (drop n asked))) (sym next)
    ∙ ap (λ (l : List AskedCommand). ahead ++ commands_asked l) (sym (drop-cons asked i d within))
    ∙ all
