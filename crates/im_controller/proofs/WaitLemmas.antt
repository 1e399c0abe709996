-- What a port that awaits an answer is told, unless it waits or is stalled.
use Rattle.std.proofs.Common.{◌≡◌, ℕ, ◌<◌, ◌≤◌, Bool, true, false, ◌≢◌, ◌⊎◌, List, length, Some, Ok, Err, Result, sym}
use Rattle.std.proofs.Common.{refl, ap, ◌∙◌, subst, inl, inr}
use Rattle.im_types.specs.Types.{Entry, Waiting, Answered, Line, Refusal, Failed, TraceFull, Stalled, Contents, end_of}
use Rattle.im_laws.proofs.Tests.{below_or_from, true_false}
use Rattle.im_trace.specs.{Lines.LineCounts, Log.FoundState}
use Rattle.im_queue.specs.declared.{Ask.Ask, Ask.TheVariants.Go, Ask.TheVariants.Wait, ServerState.TheVariants.Active}
use Rattle.im_queue.specs.Servers.{are_stuck, entry_under, is_answered}
use Rattle.im_controller.specs.{Lends.BeginsWait, Lends.Looks, Lends.with_server_at, State.SharedState}
use Rattle.im_controller.specs.Waits.{found_entry, IsAwaited, IsAwaitedAt, StallsAt, TellsWhy}

ok-err : (x : Entry) (r : Refusal) → ◌≡◌ {A = Result Entry Refusal} (Ok x) (Err r) → ⊥
ok-err x r e = cc

err-found : (f : Result FoundState Refusal) (r : Refusal) → found_entry f ≡ Err r → f ≡ Err r
err-found (Ok found) r is = absurd (ok-err found.entry r is)
err-found (Err q) r is = let same : q ≡ r = cc in ap Err same

module _ {D : Type 0} (marks : Line → Bool) (s s1 s2 : SharedState D) (e n : ℕ) (t t' : LineCounts)
    (f : Result FoundState Refusal) (l : Looks marks s1 t e n (found_entry f) s2 t') where
  abbrev entry : Result Entry Refusal
  entry = entry_under s.session.engine.memory e n

  abbrev looks : s1 ≡ with_server_at s e Active → Looks marks (with_server_at s e Active) t e n (found_entry f) s2 t'
  looks is = subst (λ (u : SharedState D). Looks marks u t e n (found_entry f) s2 t') is l

  finds-dead : s1 ≡ with_server_at s e Active → s.session.engine.failed ≡ true → TellsWhy s e n (Some f)
  finds-dead is dead = record {
    dead = λ _. ap Some (err-found f Failed ((looks is).dead dead).0);
    stalled = λ alive. absurd (true_false (sym dead ∙ alive));
    waits = λ alive. absurd (true_false (sym dead ∙ alive));
    full = λ alive. absurd (true_false (sym dead ∙ alive));
    found = λ alive. absurd (true_false (sym dead ∙ alive));
  }

  finds-alive : s1 ≡ with_server_at s e Active → s.session.engine.failed ≡ false → entry ≢ Ok Waiting
      → TellsWhy s e n (Some f)
  finds-alive is alive ready = record {
    dead = λ dead. absurd (true_false (sym dead ∙ alive));
    stalled = λ _ waits. absurd (ready waits);
    waits = λ _ waits. absurd (ready waits);
    full = λ _ _ over. ap Some (err-found f TraceFull ((looks is).full alive over).0);
    found = λ _ _ room. ap Some ((looks is).found alive room).0;
  }

  module _ (a : Result Ask Refusal) (b : BeginsWait s e n a s1) (goes : a ≢ Ok Wait) (told : a ≢ Err Stalled) where
    by-stuck : s.session.engine.failed ≡ false → entry ≡ Ok Waiting → (stuck : Bool)
        → are_stuck s.session.engine.memory e 0 s.servers ≡ stuck → TellsWhy s e n (Some f)
    by-stuck alive waits true stuck = absurd (told (b.stalled alive waits stuck).0)
    by-stuck alive waits false stuck = absurd (goes (b.waits alive waits stuck).0)

    by-entry : s.session.engine.failed ≡ false → (x : Result Entry Refusal) → entry ≡ x → TellsWhy s e n (Some f)
    by-entry alive (Err r) is = finds-alive (b.refused r alive is).1 alive (λ waits. ok-err Waiting r (sym waits ∙ is))
    by-entry alive (Ok (Answered reply)) is =
        finds-alive (b.ready alive (ap is_answered is)).1 alive
        (λ waits. true_false (sym (ap is_answered is) ∙ ap is_answered waits))
    by-entry alive (Ok Waiting) is = by-stuck alive is (are_stuck s.session.engine.memory e 0 s.servers) refl

    by-life : (failed : Bool) → s.session.engine.failed ≡ failed → TellsWhy s e n (Some f)
    by-life true dead = finds-dead (b.dead dead).1 dead
    by-life false alive = by-entry alive entry refl

    pub finds-told : TellsWhy s e n (Some f)
    finds-told = by-life s.session.engine.failed refl

pub go-waits : ◌≢◌ {A = Result Ask Refusal} (Ok Go) (Ok Wait)
go-waits e = cc

pub go-stalled : ◌≢◌ {A = Result Ask Refusal} (Ok Go) (Err Stalled)
go-stalled e = cc

pub err-waits : (r : Refusal) → ◌≢◌ {A = Result Ask Refusal} (Err r) (Ok Wait)
err-waits r e = cc

-- a refusal that isn't Stalled
pub other-stalled : (r : Refusal) → r ≢ Stalled → ◌≢◌ {A = Result Ask Refusal} (Err r) (Err Stalled)
other-stalled r other e = let same : r ≡ Stalled = cc in other same

-- what is told a port that awaited an answer, of either kind
pub awaited_at : (m : Contents) (seen : List Line) (e n : ℕ) (f : Result FoundState Refusal) → IsAwaited f
    → StallsAt m seen e n f → IsAwaitedAt m seen e n f
awaited_at m seen e n (Ok found) is stalls = is
awaited_at m seen e n (Err r) is stalls = stalls

not-stalled : (r q : Refusal) → q ≢ Stalled → ◌≡◌ {A = Result Entry Refusal} (Err r) (Err q) → r ≡ Stalled → ⊥
not-stalled r q other is same = let it : q ≡ Stalled = cc in other it

failed-other : Failed ≢ Stalled
failed-other e = cc

full-other : TraceFull ≢ Stalled
full-other e = cc

module _ {D : Type 0} (m : Contents) (seen : List Line) (s1 : SharedState D) (e n : ℕ) where
  -- an entry that is refused isn't answered
  refused-entry : (s2 : SharedState D) (r : Refusal) → end_of m seen ≡ s2.session.engine.memory
      → s2.session ≡ s1.session
      → ◌≡◌ {A = Result Entry Refusal} (Err r) (entry_under s1.session.engine.memory e n)
      → is_answered (entry_under (end_of m seen) e n) ≡ false
  refused-entry s2 r end same is =
      ap (λ k. is_answered (entry_under k e n)) end ∙ ap (λ k. is_answered (entry_under k.engine.memory e n)) same
      ∙ ap is_answered (sym is)

  module _ (marks : Line → Bool) (s2 : SharedState D) (t t' : LineCounts)
      (end : end_of m seen ≡ s2.session.engine.memory) where
    err-room : (r : Refusal) → Looks marks s1 t e n (Err r) s2 t' → r ≡ Stalled → s1.session.engine.failed ≡ false
        → (length s1.log.trace < s1.log.limit) ⊎ (s1.log.limit ≤ length s1.log.trace)
        → is_answered (entry_under (end_of m seen) e n) ≡ false
    err-room r l stalled alive (inl room) =
        let it = l.found alive room in refused-entry s2 r end it.2 it.0
    err-room r l stalled alive (inr over) = absurd (not-stalled r TraceFull full-other (l.full alive over).0 stalled)

    err-life : (r : Refusal) → Looks marks s1 t e n (Err r) s2 t' → r ≡ Stalled → (failed : Bool)
        → s1.session.engine.failed ≡ failed → is_answered (entry_under (end_of m seen) e n) ≡ false
    err-life r l stalled true dead = absurd (not-stalled r Failed failed-other (l.dead dead).0 stalled)
    err-life r l stalled false alive =
        err-room r l stalled alive (below_or_from (length s1.log.trace) s1.log.limit)

    -- a collect is refused otherwise
    pub looks-stalls : (f : Result FoundState Refusal) → Looks marks s1 t e n (found_entry f) s2 t'
        → StallsAt m seen e n f
    looks-stalls (Ok found) l = tt
    looks-stalls (Err r) l = λ stalled. err-life r l stalled s1.session.engine.failed refl

stalled-failed : ◌≢◌ {A = Result Ask Refusal} (Err Stalled) (Err Failed)
stalled-failed e = cc

stalled-ok : (a : Ask) → ◌≢◌ {A = Result Ask Refusal} (Err Stalled) (Ok a)
stalled-ok a e = cc

module _ {D : Type 0} (s s1 : SharedState D) (e n : ℕ) (b : BeginsWait s e n (Err Stalled) s1) where
  abbrev under : SharedState D → Result Entry Refusal
  under u = entry_under u.session.engine.memory e n

  same-under : s1 ≡ with_server_at s e Active → is_answered (under s) ≡ false → is_answered (under s1) ≡ false
  same-under is not = ap (λ u. is_answered (under u)) is ∙ not

  stuck-wait : s.session.engine.failed ≡ false → under s ≡ Ok Waiting → (stuck : Bool)
      → are_stuck s.session.engine.memory e 0 s.servers ≡ stuck → is_answered (under s1) ≡ false
  stuck-wait alive waits true stuck = same-under (b.stalled alive waits stuck).1 (ap is_answered waits)
  stuck-wait alive waits false stuck = absurd (stalled-ok Wait (b.waits alive waits stuck).0)

  stuck-entry : s.session.engine.failed ≡ false → (x : Result Entry Refusal) → under s ≡ x
      → is_answered (under s1) ≡ false
  stuck-entry alive (Err r) is = same-under (b.refused r alive is).1 (ap is_answered is)
  stuck-entry alive (Ok (Answered reply)) is = absurd (stalled-ok Go (b.ready alive (ap is_answered is)).0)
  stuck-entry alive (Ok Waiting) is = stuck-wait alive is (are_stuck s.session.engine.memory e 0 s.servers) refl

  stuck-life : (failed : Bool) → s.session.engine.failed ≡ failed → is_answered (under s1) ≡ false
  stuck-life true dead = absurd (stalled-failed (b.dead dead).0)
  stuck-life false alive = stuck-entry alive (under s) refl

-- who is told so may not wait for an answered entry
pub stall-waits : {D : Type 0} (m : Contents) (seen : List Line) (s s1 : SharedState D) (e n : ℕ) (r : Refusal)
    → BeginsWait s e n (Err r) s1 → end_of m seen ≡ s1.session.engine.memory → StallsAt m seen e n (Err r)
stall-waits m seen s s1 e n r b end = λ stalled.
    ap (λ k. is_answered (entry_under k e n)) end
    ∙ stuck-life s s1 e n (subst (λ (q : Refusal). BeginsWait s e n (Err q) s1) stalled b) s.session.engine.failed refl
