-- A group that is sent again, by the laws of steps.
use Rattle.std.proofs.Common.{◌≡◌, ℕ, zero, suc, ◌<◌, Bool, true, false, ◌&&◌, ◌⊎◌, List, [], ◌∷◌, ◌++◌, length}
use Rattle.std.proofs.Common.{if◌then◌else◌, nat_lt, ◌==◌, Ok, Err, sym, refl, ap, ◌∙◌, subst, inl, inr, ⊎_elim, arith}
use Rattle.std.proofs.lemmas.Bool.Decides.{nat_tests}
use Rattle.im_types.specs.Types.{Entry, Request, Command, Asks, Tells, Served, Forgotten, JournalFull, Device, Contents}
use Rattle.im_types.specs.Types.{WaitingAgrees, Stepped, asker, step, is_accepted, after, is_put, with_request}
use Rattle.im_types.specs.Types.{answer_of, reached_by_one, puts_of, Reached}
use Rattle.im_laws.specs.Entries.{IsRefused, IsToldAgainOrForgotten}
use Rattle.im_laws.specs.{Requests.after_request, Requests.IsAnswered, Windows.IsForgotten}
use Rattle.im_engine.specs.Groups.{all_refused, answers_in, group_put, GroupAnswered, reached_in}
use Rattle.im_engine.specs.State.{EngineState}
use Rattle.im_promise.proofs.Sent.{bool_cases}
use Rattle.im_promise.specs.{Again.IsSaidAgain, Groups.AreSaidAgain, Groups.AreTold, Groups.GroupSaidAgain}

-- ---- one member

room_test : (n : ℕ) → (((n == 0) ≡ true) × (nat_lt 0 n ≡ false)) ⊎ (((n == 0) ≡ false) × (nat_lt 0 n ≡ true))
room_test zero = inl (refl, refl)
room_test (suc n) = inr (grind (arith, nat_tests), grind (arith, nat_tests))

-- the command that a member puts into the journal
abbrev put_by : Reached → Request → List Command
put_by s r = if is_put s r then Asks r ∷ [] else []

one_more : (s : Reached) (r : Request) → (reached_by_one s r).contents ≡ after s.contents (put_by s r)
one_more s r = by_test (is_put s r)
  where
    by_test : (p : Bool) → (if p then with_request s r else s).contents
        ≡ after s.contents (if p then Asks r ∷ [] else [])
    by_test true = refl
    by_test false = refl

one_first : (s : Reached) (r : Request) (rest : List Command)
    → after s.contents (put_by s r ++ rest) ≡ after (reached_by_one s r).contents rest
one_first s r rest = by_test (is_put s r)
  where
    by_test : (p : Bool) → after s.contents ((if p then Asks r ∷ [] else []) ++ rest)
        ≡ after (if p then with_request s r else s).contents rest
    by_test true = refl
    by_test false = refl

-- a request that isn't new
not_new : (s : Reached) (r : Request) → is_accepted s.contents (Asks r) ≡ false
    → (answer_of s r ≡ (step s.contents (Asks r)).answer) × (is_put s r ≡ false)
not_new s r old = (
  ap (λ (b : Bool). if b && (s.room == 0) then Err JournalFull else (step s.contents (Asks r)).answer) old,
  ap
      (λ (b : Bool). b && nat_lt 0 s.room) old,
)

-- a member that was told an entry: it was answered so, and it acted unless it wasn't new
pub record HasActed (s : Reached) (r : Request) (entry : Entry) : Type 0 where
  pub answered : IsAnswered s.contents r entry
  pub contents : (reached_by_one s r).contents ≡ after_request s.contents r

acted : (s : Reached) (r : Request) (entry : Entry)
    → (is_accepted s.contents (Asks r) ≡ false → (step s.contents (Asks r)).contents ≡ s.contents)
    → answer_of s r ≡ Ok (Tells entry) → HasActed s r entry
acted s r entry unaccepted is = ⊎_elim
    (λ new. ⊎_elim
    (λ full.
    let a : answer_of s r ≡ Err JournalFull =
    ap (λ (b : Bool). if b && (s.room == 0) then Err JournalFull else (step s.contents (Asks r)).answer) new ∙ ap
    (λ (b : Bool). if b then Err JournalFull else (step s.contents (Asks r)).answer) full.0 in
    let no : Ok (Tells entry) ≡ Err JournalFull = sym is ∙ a in
    absurd (cc))
    (λ room.
    let a : answer_of s r ≡ (step s.contents (Asks r)).answer =
    ap (λ (b : Bool). if b && (s.room == 0) then Err JournalFull else (step s.contents (Asks r)).answer) new ∙ ap
    (λ (b : Bool). if b then Err JournalFull else (step s.contents (Asks r)).answer) room.0 in
    let p : is_put s r ≡ true = ap (λ (b : Bool). b && nat_lt 0 s.room) new ∙ room.1 in
    record { answered = sym a ∙ is; contents = ap (λ (b : Bool). (if b then with_request s r else s).contents) p })
    (room_test s.room))
    (λ old.
    let it = not_new s r old in
    record {
      answered = sym it.0 ∙ is;
      contents = ap (λ (b : Bool). (if b then with_request s r else s).contents) it.1 ∙ sym (unaccepted old);
    })
    (bool_cases (is_accepted s.contents (Asks r)))

-- ---- all members

module _ (told : (m : Contents) (r : Request) (entry : Entry) (commands : List Command) → WaitingAgrees m
    → IsAnswered m r entry → IsToldAgainOrForgotten (after (after_request m r) commands) r entry)
    (refused : (m : Contents) (r : Request) → IsForgotten m.windows (asker r) → IsRefused m r Forgotten)
    (unaccepted : (m : Contents) (command : Command) → is_accepted m command ≡ false → (step m command).contents ≡ m)
    (unchanged : (m : Contents) (command : Command) → (step m command).contents ≡ m → is_accepted m command ≡ false)
    (join : (m : Contents) (earlier later : List Command) → after m (earlier ++ later) ≡ after (after m earlier) later)
    (m0 : Contents) (agrees : (commands : List Command) → WaitingAgrees (after m0 commands)) where
  said_here : (now : Reached) (r : Request) (entry : Entry) → IsToldAgainOrForgotten now.contents r entry
      → IsSaidAgain now.contents r entry (answer_of now r) × (is_put now r ≡ false)
  said_here now r entry it = ⊎_elim
      (λ gone.
      let is = refused now.contents r gone in
      let old = not_new now r (unchanged now.contents (Asks r) (ap (λ (s : Stepped). s.contents) is)) in
      (inl (gone, old.0 ∙ ap (λ (s : Stepped). s.answer) is), old.1))
      (λ kept.
      let old = not_new now r (unchanged now.contents (Asks r) (ap (λ (s : Stepped). s.contents) kept.told)) in
      (inr (kept.entry, kept.since, old.0 ∙ ap (λ (s : Stepped). s.answer) kept.told), old.1))
      it

  pub said_again : (before now : Reached) (members : List Request) (earlier between : List Command)
      → before.contents ≡ after m0 earlier → now.contents ≡ after (after before.contents (puts_of before members)) between
      → AreSaidAgain before now members
  said_again before now [] earlier between from is = tt
  said_again before now (r ∷ rs) earlier between from is =
      let acted_on : Reached = reached_by_one before r in
      let rest : List Command = puts_of acted_on rs in
      let here : now.contents ≡ after (after acted_on.contents rest) between =
      is ∙ ap (λ (m : Contents). after m between) (one_first before r rest) in
      let since : acted_on.contents ≡ after m0 (earlier ++ put_by before r) =
      one_more before r ∙ ap (λ (m : Contents). after m (put_by before r)) from ∙ sym
      (join m0 earlier (put_by before r)) in
      let next : (reached_by_one now r).contents ≡ after (after acted_on.contents rest) (between ++ put_by now r) =
      one_more now r ∙ ap (λ (m : Contents). after m (put_by now r)) here ∙ sym
      (join (after acted_on.contents rest) between (put_by now r)) in (
        (λ entry was.
            let it = acted before r entry (unaccepted before.contents (Asks r)) was in
            let place : now.contents ≡ after (after_request before.contents r) (rest ++ between) =
            here ∙ ap (λ (m : Contents). after (after m rest) between) it.contents ∙ sym
            (join (after_request before.contents r) rest between) in
            let again : IsToldAgainOrForgotten now.contents r entry =
            subst (λ (m : Contents). IsToldAgainOrForgotten m r entry) (sym place)
            (told before.contents r entry (rest ++ between)
            (subst WaitingAgrees (sym from) (agrees earlier)) it.answered) in
            said_here now r entry again),
        said_again acted_on (reached_by_one now r) rs (earlier ++ put_by before r) (between ++ put_by now r) since next,
      )

-- where all were told, none is put again
none_put : (before now : Reached) (members : List Request) → AreTold before members → AreSaidAgain before now members
    → puts_of now members ≡ []
none_put before now [] was again = refl
none_put before now (r ∷ rs) was again =
    ap (λ (b : Bool). (if b then Asks r ∷ [] else []) ++ puts_of (reached_by_one now r) rs)
    (again.0 was.0.0 was.0.1).1 ∙ none_put (reached_by_one before r) (reached_by_one now r) rs was.1 again.1

pub group_again : {D : Type 0} (before : Reached) (old new : EngineState D) (members : List Request)
    (answers : List Served) → old.failed ≡ false → GroupAnswered old members answers new
    → AreSaidAgain before (reached_in old) members → GroupSaidAgain before old members answers new
group_again before old new members answers f it again = record {
  answered = by_put (group_put old members) refl;
  again = again;
  still = λ was. it.none f (none_put before (reached_in old) members was again);
}
  where
    by_put : (put : List Command) → group_put old members ≡ put
        → (answers ≡ answers_in old members)
        ⊎ ((answers ≡ all_refused Device members) × (0 < length (group_put old members)))
    by_put [] none = inl (it.none f none).0
    by_put (command ∷ commands) some =
        let many : 0 < length (group_put old members) = omega (arith, ap length some) in
        ⊎_elim (λ done. inl done.0) (λ failed. inr (failed.0, many)) (it.put f many)
