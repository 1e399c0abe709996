-- Each accepted request has an entry in the end, and an answer stays.
use Rattle.std.proofs.Common.{◌≡◌, ℕ, List, [], ◌∷◌, ◌++◌, IsSomeAnd, Some, None, Option, option_map, sym, refl, ap}
use Rattle.std.proofs.Common.{◌∙◌, subst}
use Rattle.std.specs.List.{AllByRecursion}
use Rattle.im_types.specs.Types.{Entry, Waiter, Kept, Waiting, Answered, Command, Contents, kept_for, empty_contents}
use Rattle.im_types.specs.Types.{WaitingAgrees, asker, step, events, latest, last_kept}
use Rattle.im_histories.proofs.{AllLives.empty-sound, EndEntry.ends-answered, ListLemmas.all_map, NewEntry.own_entry}
use Rattle.im_histories.proofs.OneStep.{Asked, IsSound, Silent, sound-step, Takes, takes_command}
use Rattle.im_histories.specs.Entries.{EntryLaw, MayBecome}

-- where something was kept, something is the last that was kept
kept_before : (m : Contents) (commands : List Command) (who : Waiter) (k : Kept) → (last : Kept)
    × (last_kept m commands who (Some k) ≡ Some last)
kept_before m [] who k = by_kept (kept_for m.windows who)
  where
    by_kept : (o : Option Kept) → (last : Kept) × (latest o (Some k) ≡ Some last)
    by_kept None = (k, refl)
    by_kept (Some now) = (now, refl)
kept_before m (command ∷ commands) who k = by_kept (kept_for m.windows who)
    (kept_before (step m command).contents commands who)
  where
    by_kept : (o : Option Kept)
        → ((k : Kept) → (last : Kept) × (last_kept (step m command).contents commands who (Some k) ≡ Some last))
        → (last : Kept) × (last_kept (step m command).contents commands who (latest o (Some k)) ≡ Some last)
    by_kept None rest_of = rest_of k
    by_kept (Some now) rest_of = rest_of now

kept_now : (m : Contents) (commands : List Command) (who : Waiter) (k : Kept) (before : Option Kept)
    → kept_for m.windows who ≡ Some k
    → (last : Kept) × (last_kept m commands who before ≡ Some last)
kept_now m [] who k before is = (k, ap (λ o. latest o before) is)
kept_now m (command ∷ commands) who k before is =
    let rest_of = kept_before (step m command).contents commands who k in
    (rest_of.0, ap (λ o. last_kept (step m command).contents commands who (latest o before)) is ∙ rest_of.1)

-- the last entry that is kept came from this one
abbrev CameFrom : Contents → List Command → Waiter → Entry → Type 0
CameFrom m commands who entry = (before : Option Kept)
    → IsSomeAnd (option_map (λ kept. kept.entry) (last_kept m commands who before)) (MayBecome entry)

came_from : (m : Contents) (commands : List Command) (who : Waiter) (k : Kept) (entry : Entry) → WaitingAgrees m
    → kept_for m.windows who ≡ Some k
    → k.entry ≡ entry → CameFrom m commands who entry
came_from m commands who k Waiting agrees is same before =
    let last = kept_now m commands who k before is in subst
    (λ o. IsSomeAnd (option_map (λ (kept : Kept). kept.entry) o) (MayBecome Waiting)) (sym last.1) tt
came_from m commands who k (Answered reply) agrees is same before =
    subst (λ o. IsSomeAnd o (MayBecome (Answered reply)))
    (sym (ends-answered m commands who k reply agrees is same before)) refl

each_entry : (commands : List Command) (m : Contents) → IsSound m
    → AllByRecursion (λ event. CameFrom m commands (asker event.request) event.entry) (events m commands)
each_entry [] m sound = tt
each_entry (command ∷ commands) m sound = by_takes (takes_command m command)
    (all_map _ _ (events (step m command).contents commands)
    (λ event from before. from (latest (kept_for m.windows (asker event.request)) before))
    (each_entry commands (step m command).contents (sound-step m command sound)))
  where
    by_takes : Takes m command
        → AllByRecursion (λ event. CameFrom m (command ∷ commands) (asker event.request) event.entry)
        (events (step m command).contents commands)
        → AllByRecursion (λ event. CameFrom m (command ∷ commands) (asker event.request) event.entry)
        (events m (command ∷ commands))
    by_takes (Silent none same) all =
        subst (λ es. AllByRecursion (λ event. CameFrom m (command ∷ commands) (asker event.request) event.entry)
        (es ++ events (step m command).contents commands)) (sym none) all
    by_takes (Asked r new one is) all =
        let kept = ap (λ (c : Contents). kept_for c.windows (asker r)) is ∙ own_entry m sound.agrees r new in
        subst (λ es. AllByRecursion (λ event. CameFrom m (command ∷ commands) (asker event.request) event.entry)
        (es ++ events (step m command).contents commands)) (sym one) (
          λ before. came_from (step m command).contents commands (asker r) _ _
              (sound-step m command sound).agrees kept refl (latest (kept_for m.windows (asker r)) before),
          all,
        )

pub every_entry_law : (cells elements : ℕ) (commands : List Command) → EntryLaw (empty_contents cells elements) commands
every_entry_law cells elements commands =
    all_map _ _ (events (empty_contents cells elements) commands) (λ event from. from None)
    (each_entry commands (empty_contents cells elements) (empty-sound cells elements))
