-- What the list of a call does to a caller's file.
use Rattle.std.proofs.Common.{◌≡◌, ℕ, zero, suc, Bool, true, false, ◌⊎◌, List, [], length, take, if◌then◌else◌, Ok, Err}
use Rattle.std.proofs.Common.{Result, sym, refl, ap, ◌∙◌, subst, inl, inr, ⊎_elim, arith}
use Rattle.std.proofs.lemmas.Bool.{false≢true}
use Rattle.im_types.specs.Types.{Command, Outcome, Served, Refusal, Device, Failed, NoMemory, WrongLength, is_accepted}
use Rattle.im_disk.proofs.SinceLemmas.{leaves_now, left_now, left_synced, only_now}
use Rattle.im_disk.specs.{Moment.Faults, Moment.Left, Moment.Moment, Moment.synced, Since.Leaves, Since.LeavesNow}
use Rattle.im_checkpoint.specs.declared.TurnDone.{TurnDone}
use Rattle.im_engine.specs.Answered.{Answered, is_device, SweepAnswered, TurnAnswered, TurnTaken}
use Rattle.im_engine.specs.{Chain.Advances, State.EngineState, State.IsFirstFault, State.MeansState}
use Rattle.im_listed.{proofs.NumberLemmas.told_same, specs.History.given, specs.Numbers.told_number}
use Rattle.im_listed.specs.Image.{begun_in, Carries, ImageState, IsFaultOf, IsWant, tells_device}
use Rattle.im_listed.specs.Listing.{Accounts, carried, LeftOnTheWay, Listing, over, with_no_steps}

-- what is known after a call, of the engine as it began
pub record Facts (s : EngineState Listing) (new : ImageState) (P : EngineState Listing → List ℕ → Type 0) : Type 0 where
  pub same : new.lost ≡ false
      → told_number new.engine.disk.failed new.engine.disk.begun ≡ told_number s.disk.failed s.disk.begun
  pub leaves : Leaves s.disk.now new.engine.disk.now s.disk.past new.engine.disk.past (P s)
  pub start : LeavesNow s.disk.now (P s)
  pub account : Accounts new.engine.disk
  pub means : new.lost ≡ false → LeavesNow new.engine.disk.now (MeansState new.engine)

no_way : (m : Moment) (P : List ℕ → Type 0) → LeavesNow m P → LeftOnTheWay m [] P
no_way m P start zero file le left = start file left
no_way m P start (suc many) file le left = absurd (omega arith)

the_way : (m : Moment) (d : Listing) (P : List ℕ → Type 0) → m ≡ d.begun → Accounts d → Leaves m d.now [] d.past P
    → LeavesNow m P → LeftOnTheWay m d.steps P
the_way m d P e account leaves start many file le left =
    let since = account.way many file le (subst (λ (b : Moment). Left (carried b (take many d.steps)) file) e left) in
    ⊎_elim
    (λ early. start file (only_now m [] file early))
    (λ p. p)
    (leaves.each 0 file (omega arith) since)

way_of : (lost : Bool) (m : Moment) (d : Listing) (P : List ℕ → Type 0) → (lost ≡ false → m ≡ d.begun) → Accounts d
    → Leaves m d.now [] d.past P → LeavesNow m P → LeftOnTheWay m (if lost then [] else d.steps) P
way_of true m d P e account leaves start = no_way m P start
way_of false m d P e account leaves start = the_way m d P (e refl) account leaves start

ends_of : (lost : Bool) (m : Moment) (d : Listing) → (lost ≡ false → m ≡ d.begun) → Accounts d → lost ≡ false → d.now
    ≡ carried m (if lost then [] else d.steps)
ends_of true m d e account is = absurd (false≢true (sym is))
ends_of false m d e account is = account.ends ∙ ap (λ (b : Moment). carried b d.steps) (sym (e is))

carries : (old new : ImageState) (P : EngineState Listing → List ℕ → Type 0) → Facts (begun_in old) new P
    → Carries old.engine.disk.now new (P (begun_in old))
carries old new P f =
    let here : new.lost ≡ false → old.engine.disk.now
    ≡ new.engine.disk.begun =
    λ is. told_same old.engine.disk.failed new.engine.disk.failed old.engine.disk.now new.engine.disk.begun
    (sym (f.same is)) in
    record {
      ends = ends_of new.lost old.engine.disk.now new.engine.disk here f.account;
      way = way_of new.lost old.engine.disk.now new.engine.disk (P (begun_in old)) here f.account f.leaves f.start;
      means = f.means;
    }

pub carries_on : (old new : ImageState) (P : EngineState Listing → List ℕ → Type 0) (s : EngineState Listing) → s
    ≡ begun_in old → Facts s new P → Carries old.engine.disk.now new (P (begun_in old))
carries_on old new P s e f = carries old new P (subst (λ (t : EngineState Listing). Facts t new P) e f)

pub begun_with : (bytes : List ℕ) (d start : Listing) → (start.failed ≡ false) × (start.begun ≡ given bytes)
    → told_number d.failed d.begun ≡ told_number start.failed start.begun → Accounts d
    → d.now ≡ carried (given bytes) d.steps
begun_with bytes d start e same account =
    let lives = e.0 in
    let began = e.1 in
    let there : told_number d.failed d.begun ≡ told_number false (given bytes) =
    same ∙ (λ i. told_number (lives i) (began i)) in
    account.ends ∙ ap (λ (b : Moment). carried b d.steps) (told_same d.failed false d.begun (given bytes) there)

-- bytes that are all on the disk stay over an opening
pub same_bytes : (bytes : List ℕ) (start d : Listing) → start.now ≡ synced (given bytes)
    → Leaves start.now d.now start.past d.past (Left start.now) → d.now.bytes ≡ bytes
same_bytes bytes start d is leaves =
    let left : Left start.now d.now.bytes = ⊎_elim (λ p. p) (λ p. p)
    (leaves_now start.now d.now start.past d.past (Left start.now) leaves d.now.bytes (left_now d.now)) in
    left_synced (given bytes) d.now.bytes (subst (λ (m : Moment). Left m d.now.bytes) is left)

-- what is read of them is what they themselves are
pub own_fault : (bytes : List ℕ) (e : Refusal) (start d : Listing) → start.now ≡ synced (given bytes)
    → Leaves start.now d.now start.past d.past (Left start.now) → (e ≡ NoMemory) ⊎ (e ≡ Device)
    ⊎ (Unit {0} → LeavesNow d.now (IsFirstFault e)) → IsFaultOf bytes e
own_fault bytes e start d is leaves why =
    ⊎_elim (λ none. inl none)
    (λ other. inr (⊎_elim (λ failed. inl failed)
    (λ found. inr (subst (IsFirstFault e) (same_bytes bytes start d is leaves) (found tt d.now.bytes (left_now d.now))))
    other)) why

-- a disk over as many bytes as an image has hasn't the wrong length
pub right_length : (bytes : List ℕ) (n : ℕ) (e : Refusal) (start : Listing) → start ≡ over bytes → length bytes ≡ n
    → (e ≡ WrongLength) ⊎ (e ≡ NoMemory) ⊎ (e ≡ Device) → (e ≡ WrongLength → length start.now.bytes ≡ n → ⊥) → IsWant e
right_length bytes n e start is size why wrong =
    ⊎_elim (λ w. absurd (wrong w (ap (λ (d : Listing). length d.now.bytes) is ∙ size))) (λ want. want) why

alive_by : (accepted : Bool) (room : ℕ) (s new : EngineState Listing) (command : Command)
    (answer : Result Outcome Refusal) → is_accepted s.memory command ≡ accepted → s.room ≡ room
    → Answered s command answer new → s.failed ≡ false → tells_device answer ≡ false → new.failed ≡ false
alive_by false room s new command answer is e a f calm = ap (λ (t : EngineState Listing). t.failed)
    (a.unaccepted f is).1 ∙ f
alive_by true zero s new command answer is e a f calm = ap (λ (t : EngineState Listing). t.failed) (a.full f is e).1 ∙ f
alive_by true (suc n) s new command answer is e a f calm = ⊎_elim
    (λ l. ap (λ (t : EngineState Listing). t.failed) l.1 ∙ f)
    (λ r. absurd (false≢true (sym calm ∙ ap (λ (x : Result Outcome Refusal). tells_device x) r.0)))
    (a.put f is (omega arith))

pub alive_after : (s new : EngineState Listing) (command : Command) (answer : Result Outcome Refusal)
    → Answered s command answer new → s.failed ≡ false → tells_device answer ≡ false → new.failed ≡ false
alive_after s new command answer a f calm = alive_by
    (is_accepted s.memory command) s.room s new command answer refl refl a f calm

pub steady_after : (answer : Result Outcome Refusal) (old new : ℕ) → Faults (λ e. Unit {0}) answer old new
    → tells_device answer ≡ false → new ≡ old
steady_after (Ok outcome) old new f calm = f
steady_after (Err refusal) old new f calm = f.2 (λ e. false≢true (sym calm ∙ ap (λ (x : Refusal). is_device x) e))

abbrev tells_ok : {A E : Type 0} → Result A E → Bool
tells_ok (Ok a) = true
tells_ok (Err e) = false

pub steady_turn : (s new : EngineState Listing) (answer : Result TurnDone Refusal) (before after : ℕ)
    → TurnAnswered s answer new → Faults (λ e. Unit {0}) answer before after → s.failed ≡ false → new.failed ≡ false
    → after ≡ before
steady_turn s new (Ok done) before after a f alive on = f
steady_turn s new (Err refusal) before after a f alive on = ⊎_elim
    (λ (l : (done : TurnDone) × (Err refusal ≡ Ok done) × TurnTaken s done new). absurd
    (false≢true (ap (λ (r : Result TurnDone Refusal). tells_ok r) l.1)))
    (λ r. absurd (false≢true (sym on ∙ ap (λ (t : EngineState Listing). t.failed) r.1)))
    (a.alive alive)

pub steady_sweep : (s new : EngineState Listing) (most : ℕ) (answer : Result ℕ Refusal) (before after : ℕ)
    → SweepAnswered s most answer new → Faults (λ e. Unit {0}) answer before after → s.failed ≡ false
    → new.failed ≡ false → after ≡ before
steady_sweep s new most (Ok swept) before after a f alive on = f
steady_sweep s new most (Err refusal) before after a f alive on = ⊎_elim
    (λ l. absurd (false≢true (ap (λ (r : Result ℕ Refusal). tells_ok r) l.0)))
    (λ r. absurd (false≢true (sym on ∙ ap (λ (t : EngineState Listing). t.failed) r.1)))
    (a.alive alive)

pub steady_advance : (s new : EngineState Listing) (next : List Command) (answer : Result ℕ Refusal)
    (answers : List Served) (before after : ℕ) → Advances s next answer answers new
    → Faults (λ e. (e ≡ Failed) ⊎ (e ≡ Device)) answer before after → s.failed ≡ false → new.failed ≡ false
    → after ≡ before
steady_advance s new next (Ok many) answers before after a f alive on = f
steady_advance s new next (Err refusal) answers before after a f alive on = ⊎_elim
    (λ l. absurd (false≢true (ap (λ (r : Result ℕ Refusal). tells_ok r) l.1)))
    (λ r. absurd (false≢true (sym on ∙ ap (λ (t : EngineState Listing). t.failed) r.2)))
    (a.alive alive)

pub start_of : (e s : EngineState Listing) → s ≡ record e { disk = with_no_steps e.disk }
    → LeavesNow e.disk.now (MeansState e) → LeavesNow s.disk.now (MeansState s)
start_of e s is means = subst (λ (t : EngineState Listing). LeavesNow t.disk.now (MeansState t)) (sym is) means
