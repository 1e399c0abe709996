-- The members of a group that are lent: they are still a group, and the refusals of the others leave no line.
use Rattle.std.proofs.Common.{◌≡◌, ℕ, zero, suc, ◌+◌, ◌<◌, ◌≤◌, Bool, true, false, ◌≢◌, List, [], ◌∷◌, ◌++◌, map}
use Rattle.std.proofs.Common.{length, get_or, drop, if◌then◌else◌, nat_lt, ◌==◌, slice_get, Some, None, Err, Option}
use Rattle.std.proofs.Common.{Result, sym, refl, ap, ◌∙◌, subst, ⊎_elim, append_assoc, append-nil, arith, length-append}
use Rattle.std.proofs.{lemmas.Bool.Decides.nat_tests, lemmas.List.drop_all, Math.Seq.drop-cons}
use Rattle.std.specs.List.{AllByRecursion}
use Rattle.im_types.specs.Types.{Request, Command, Outcome, Line, Commands, Served, Refusal, Failed, TraceFull}
use Rattle.im_types.specs.Types.{Contents}
use Rattle.{im_laws.proofs.Tests.true_false, im_session.specs.Serving.served_answer, im_glass.specs.Panes.PaneView}
use Rattle.im_groups.specs.Commands.{places, places_behind, takes_place}
use Rattle.im_engine.specs.{Commands.each_refused, State.EngineState}
use Rattle.im_trace.specs.Lines.{leaves_line, left_lines, line_of, times_of}
use Rattle.im_trace.specs.Log.{GoesOnAt, LogState, sender_of, TimedLog, with_unclaimed}
use Rattle.im_queue.specs.Members.{are_joined, AreFreeFor, AreOfOthers, AreOneOfEach, AreSureBehind, IsCut, IsSure}
use Rattle.im_controller.proofs.{Keeping.free_after, Keeping.free_other, SureLemmas.sure-behind}
use Rattle.im_controller.proofs.PlannedLemmas.{keeps-line, on-command}
use Rattle.im_controller.proofs.PutLemmas.{left-none, lines_all, refused-lines, taken-none}
use Rattle.im_controller.specs.Admitted.{Admits, AreVerdicts, free_lines, is_asked, is_off, IsVerdict, lent_of}
use Rattle.im_controller.specs.Admitted.{places_after, places_with, with_refused}
use Rattle.im_controller.specs.{Groups.changes_put_all, Groups.MembersAnswered, Lends.changes_put}
use Rattle.im_controller.specs.Planned.{AreOnPlan, has_command, KeepsTo, StartsBy}

-- ---- a verdict

same_some : {e f : Refusal} → Some e ≡ Some f → e ≡ f
same_some is = cc

none_some : {e : Refusal} → None ≡ Some e → ⊥
none_some is = absurd (cc)

-- a member that is lent isn't off the plan
verdict-on : (off takes : Bool) → IsVerdict off takes None → off ≡ false
verdict-on true takes it = absurd (none_some (it.off_plan refl))
verdict-on false takes it = refl

-- a member's refusal leaves no line
pub verdict-lineless : (off takes : Bool) (e : Refusal) → IsVerdict off takes (Some e) → leaves_line (Err e) ≡ false
verdict-lineless true takes e it = ap (λ (x : Refusal). leaves_line (Err x)) (same_some (it.off_plan refl))
verdict-lineless false true e it = ⊎_elim
    (λ none. absurd (none_some (sym none)))
    (λ some. ap (λ (x : Refusal). leaves_line (Err x)) (same_some some))
    (it.placed refl refl)
verdict-lineless false false e it = absurd (none_some (sym (it.unplaced refl refl)))

-- ---- those that are lent

module _ (P : Command → Type 0) where
  lent-all : (vs : List (Option Refusal)) (rs : List Command) → AllByRecursion P rs → AllByRecursion P (lent_of vs rs)
  lent-all [] rs all = tt
  lent-all (v ∷ vs) [] all = tt
  lent-all (None ∷ vs) (r ∷ rs) all = (all.0, lent-all vs rs all.1)
  lent-all (Some e ∷ vs) (r ∷ rs) all = lent-all vs rs all.1

lent-apart : (vs : List (Option Refusal)) (rs : List Command) → AreOneOfEach rs → AreOneOfEach (lent_of vs rs)
lent-apart [] rs apart = tt
lent-apart (v ∷ vs) [] apart = tt
lent-apart (None ∷ vs) (r ∷ rs) apart = (
  lent-all (λ (c : Command). sender_of r ≢ sender_of c) vs rs apart.0,
  lent-apart vs rs apart.1,
)
lent-apart (Some e ∷ vs) (r ∷ rs) apart = lent-apart vs rs apart.1

lent-cut : (vs : List (Option Refusal)) (rs : List Command) → IsCut rs → IsCut (lent_of vs rs)
lent-cut [] rs cut = tt
lent-cut (v ∷ vs) [] cut = tt
lent-cut (None ∷ vs) (r ∷ rs) cut = (
  lent-all (λ (c : Command). are_joined r c ≡ true) vs rs cut.0,
  lent-cut vs rs cut.1,
)
lent-cut (Some e ∷ vs) (r ∷ rs) cut = lent-cut vs rs cut.1

lent-sure : (m : Contents) (vs : List (Option Refusal)) (rs : List Command) → AreSureBehind m rs
    → AreSureBehind m (lent_of vs rs)
lent-sure m [] rs sure = tt
lent-sure m (v ∷ vs) [] sure = tt
lent-sure m (None ∷ vs) (r ∷ rs) sure = lent-all (IsSure m) vs rs sure
lent-sure m (Some e ∷ vs) (r ∷ rs) sure = sure-behind m (lent_of vs rs) (lent-all (IsSure m) vs rs sure)

lent-few : (vs : List (Option Refusal)) (rs : List Command) → length (lent_of vs rs) ≤ length rs
lent-few [] rs = omega arith
lent-few (v ∷ vs) [] = omega arith
lent-few (None ∷ vs) (r ∷ rs) = omega (arith, lent-few vs rs)
lent-few (Some e ∷ vs) (r ∷ rs) = omega (arith, lent-few vs rs)

has-of : (b : Bool) → (if b then false else true) ≡ false → b ≡ true
has-of true is = refl
has-of false is = absurd (true_false is)

-- the plan has them, if it is asked
lent-planned : (n m : Contents) (plan : Option (List Request)) (left : ℕ) (vs : List (Option Refusal))
    (rs : List Command) → StartsBy n plan → AreVerdicts plan true m left vs rs → AreOnPlan plan (lent_of vs rs)
lent-planned n m plan left [] rs starts judged = tt
lent-planned n m plan left (v ∷ vs) [] starts judged = tt
lent-planned n m plan left (None ∷ vs) (r ∷ rs) starts judged = (
  on-command n plan r starts
      (has-of (has_command plan r) (verdict-on (is_off plan true r) (takes_place m left r) judged.0)),
  lent-planned n m plan (places_behind m left r) vs rs starts judged.1,
)
lent-planned n m plan left (Some e ∷ vs) (r ∷ rs) starts judged = lent-planned n m plan left vs rs starts judged.1

-- if the plan isn't asked and there is no place, all are lent
lent-each : (m : Contents) (plan : Option (List Request)) (left : ℕ) (vs : List (Option Refusal))
    (rs : List Command) → left ≡ 0 → AreVerdicts plan false m left vs rs → lent_of vs rs ≡ rs
lent-each m plan left [] rs none judged = sym judged
lent-each m plan left (v ∷ vs) [] none judged = refl
lent-each m plan left (None ∷ vs) (r ∷ rs) none judged = ap (λ l. r ∷ l)
    (lent-each m plan (places_behind m left r) vs rs (ap (λ n. places_behind m n r) none ∙ left-none m r) judged.1)
lent-each m plan left (Some e ∷ vs) (r ∷ rs) none judged = absurd
    (none_some (sym (judged.0.unplaced refl (ap (λ n. takes_place m n r) none ∙ taken-none m r))))

-- ---- the log with the refusals of the others

lineless-trace : (l : LogState) (r : Command) (e : Refusal) → leaves_line (Err e) ≡ false
    → (with_unclaimed l r (Err e)).trace ≡ l.trace
lineless-trace l r e none = ap (λ b. l.trace ++ (if b then line_of (Commands r) (Err e) ∷ [] else [])) none
    ∙ append-nil l.trace

refused-trace : (m : Contents) (plan : Option (List Request)) (asked : Bool) (left : ℕ) (l : LogState)
    (vs : List (Option Refusal)) (rs : List Command) → AreVerdicts plan asked m left vs rs
    → (with_refused l vs rs).trace ≡ l.trace
refused-trace m plan asked left l [] rs judged = refl
refused-trace m plan asked left l (v ∷ vs) [] judged = refl
refused-trace m plan asked left l (None ∷ vs) (r ∷ rs) judged =
    refused-trace m plan asked (places_behind m left r) l vs rs judged.1
refused-trace m plan asked left l (Some e ∷ vs) (r ∷ rs) judged =
    refused-trace m plan asked left (with_unclaimed l r (Err e)) vs rs judged.1
    ∙ lineless-trace l r e (verdict-lineless (is_off plan asked r) (takes_place m left r) e judged.0)

refused-limit : (l : LogState) (vs : List (Option Refusal)) (rs : List Command)
    → (with_refused l vs rs).limit ≡ l.limit
refused-limit l [] rs = refl
refused-limit l (v ∷ vs) [] = refl
refused-limit l (None ∷ vs) (r ∷ rs) = refused-limit l vs rs
refused-limit l (Some e ∷ vs) (r ∷ rs) = refused-limit (with_unclaimed l r (Err e)) vs rs

refused-other : (l : LogState) (vs : List (Option Refusal)) (rs : List Command) (element : ℕ) → AreOfOthers element rs
    → slice_get l.places element ≡ Some None → slice_get (with_refused l vs rs).places element ≡ Some None
refused-other l [] rs element others free = free
refused-other l (v ∷ vs) [] element others free = free
refused-other l (None ∷ vs) (r ∷ rs) element others free = refused-other l vs rs element others.1 free
refused-other l (Some e ∷ vs) (r ∷ rs) element others free =
    refused-other (with_unclaimed l r (Err e)) vs rs element others.1
    (free_other l.places (sender_of r) element _ (λ same. others.0 (sym same)) free)

refused-free : (l : LogState) (vs : List (Option Refusal)) (rs : List Command) → AreOneOfEach rs
    → AreFreeFor l.places rs → AreFreeFor (with_refused l vs rs).places (lent_of vs rs)
refused-free l [] rs apart free = tt
refused-free l (v ∷ vs) [] apart free = tt
refused-free l (None ∷ vs) (r ∷ rs) apart free = (
  refused-other l vs rs (sender_of r) apart.0 free.0,
  refused-free l vs rs apart.1 free.1,
)
refused-free l (Some e ∷ vs) (r ∷ rs) apart free = refused-free (with_unclaimed l r (Err e)) vs rs apart.1
    (free_after l.places (sender_of r) _ rs apart.0 free.1)

-- ---- a group, by whom the engine is lent to

module _ {D : Type 0} (e : EngineState D) (room : ℕ) where
  asked-is : e.failed ≡ false → 0 < room → is_asked e room ≡ true
  asked-is alive some =
      let lt : nat_lt 0 room ≡ true = grind (arith, nat_tests) in
      ap (λ b. if b then false else nat_lt 0 room) alive ∙ lt

  unasked-none : is_asked e room ≡ false → places_with e room ≡ 0
  unasked-none un = by_test e.failed un
    where
      by_room : nat_lt 0 room ≡ false → (room == 0) ≡ true
      by_room none = grind (arith, nat_tests)

      by_test : (b : Bool) → (if b then false else nat_lt 0 room) ≡ false
          → (if b then 0 else if room == 0 then 0 else places e.count e.room) ≡ 0
      by_test true un = refl
      by_test false un = ap (λ b. if b then 0 else places e.count e.room) (by_room un)

module _ {D : Type 0} (plan : Option (List Request)) (e : EngineState D) (l : LogState) (members lent : List Command)
    (l' : LogState) (it : Admits plan e l members lent l') where
  pub admit-cut : IsCut members → IsCut lent
  admit-cut cut = subst IsCut (sym it.lent_is) (lent-cut it.verdicts members cut)

  pub admit-apart : AreOneOfEach members → AreOneOfEach lent
  admit-apart apart = subst AreOneOfEach (sym it.lent_is) (lent-apart it.verdicts members apart)

  pub admit-sure : AreSureBehind e.memory members → AreSureBehind e.memory lent
  admit-sure sure = subst (λ (rs : List Command). AreSureBehind e.memory rs) (sym it.lent_is)
      (lent-sure e.memory it.verdicts members sure)

  pub admit-few : length lent ≤ length members
  admit-few = omega (arith, ap length it.lent_is, lent-few it.verdicts members)

  pub admit-free : AreOneOfEach members → AreFreeFor l.places members → AreFreeFor l'.places lent
  admit-free apart free =
      subst (λ (k : LogState). AreFreeFor k.places lent) (sym it.log)
      (subst (λ (rs : List Command). AreFreeFor (with_refused l it.verdicts members).places rs) (sym it.lent_is)
      (refused-free l it.verdicts members apart free))

  pub admit-trace : l'.trace ≡ l.trace
  admit-trace = ap (λ (k : LogState). k.trace) it.log
      ∙ refused-trace e.memory plan (is_asked e (free_lines l)) (places_with e (free_lines l)) l it.verdicts members
      it.judged

  pub admit-limit : l'.limit ≡ l.limit
  admit-limit = ap (λ (k : LogState). k.limit) it.log ∙ refused-limit l it.verdicts members

  pub admit-planned : (m : Contents) → StartsBy m plan → e.failed ≡ false → 0 < free_lines l → AreOnPlan plan lent
  admit-planned m starts alive some =
      subst (λ (rs : List Command). AreOnPlan plan rs) (sym it.lent_is)
      (lent-planned m e.memory plan (places_with e (free_lines l)) it.verdicts members starts
      (subst (λ (b : Bool). AreVerdicts plan b e.memory (places_with e (free_lines l)) it.verdicts members)
      (asked-is e (free_lines l) alive some) it.judged))

  pub admit-all : is_asked e (free_lines l) ≡ false → lent ≡ members
  admit-all un = it.lent_is ∙ lent-each e.memory plan (places_with e (free_lines l)) it.verdicts members
      (unasked-none e (free_lines l) un)
      (subst (λ (b : Bool). AreVerdicts plan b e.memory (places_with e (free_lines l)) it.verdicts members) un
      it.judged)

-- ---- one member after another

-- what was judged so far, after which all is as from the start
pub record Admitting (plan : Option (List Request)) (asked : Bool) (m : Contents) (left0 : ℕ) (rs0 : List Command)
    (l0 : TimedLog) (p0 : PaneView) (left : ℕ) (rs lent : List Command) (l : TimedLog) (p : PaneView) : Type 0 where
  pub verdicts : List (Option Refusal)
  pub judged : (vs : List (Option Refusal)) → AreVerdicts plan asked m left vs rs
      → AreVerdicts plan asked m left0 (verdicts ++ vs) rs0
  pub chosen : (vs : List (Option Refusal)) → lent ++ lent_of vs rs ≡ lent_of (verdicts ++ vs) rs0
  pub log : (vs : List (Option Refusal)) → with_refused l.state vs rs ≡ with_refused l0.state (verdicts ++ vs) rs0
  pub times : l.times ≡ l0.times
  pub puts : (qs : List Command) → p.ahead ++ changes_put_all m left qs
      ≡ p0.ahead ++ changes_put_all m left0 (lent ++ qs)
  pub pane : p ≡ record p0 { ahead = p.ahead }
  pub few : length lent + length rs ≤ length rs0
  pub apart : AreOneOfEach rs
  pub free : AreFreeFor l.state.places rs

-- no line more, and no time more
no_more : {X : Type 0} (xs more : List X) → xs ≡ xs ++ more → more ≡ []
no_more xs [] is = refl
no_more xs (x ∷ more) is = absurd (omega (arith, ap length is, length-append xs (x ∷ more)))

still : (time : ℕ) (old new : TimedLog) → GoesOnAt time old new → new.state.trace ≡ old.state.trace
    → new.times ≡ old.times
still time old new goes same = goes.times
    ∙ ap (λ ls. old.times ++ times_of time ls) (no_more old.state.trace goes.more (sym same ∙ goes.lines))
    ∙ append-nil old.times

module _ (plan : Option (List Request)) (asked : Bool) (m : Contents) (left0 : ℕ) (rs0 : List Command)
    (l0 : TimedLog) (p0 : PaneView) where
  pub admitting-start : AreOneOfEach rs0 → AreFreeFor l0.state.places rs0
      → Admitting plan asked m left0 rs0 l0 p0 left0 rs0 [] l0 p0
  admitting-start apart free = record {
    verdicts = [];
    judged = λ vs judged. judged;
    chosen = λ vs. refl;
    log = λ vs. refl;
    times = refl;
    puts = λ qs. refl;
    pane = refl;
    few = omega arith;
    apart = apart;
    free = free;
  }

  -- the next member
  pub admitting-cons : (left : ℕ) (lent : List Command) (l : TimedLog) (p : PaneView) (i : ℕ) (d : Command)
      → i < length rs0 → Admitting plan asked m left0 rs0 l0 p0 left (drop i rs0) lent l p
      → Admitting plan asked m left0 rs0 l0 p0 left (get_or rs0 i d ∷ drop (i + 1) rs0) lent l p
  admitting-cons left lent l p i d within k =
      let next : suc i ≡ i + 1 = omega arith in
      subst (λ (rs : List Command). Admitting plan asked m left0 rs0 l0 p0 left rs lent l p)
      (drop-cons rs0 i d within ∙ ap (λ n. get_or rs0 i d ∷ drop n rs0) next) k

  module _ (left : ℕ) (r : Command) (rs lent : List Command) (l : TimedLog) (p : PaneView)
      (k : Admitting plan asked m left0 rs0 l0 p0 left (r ∷ rs) lent l p) where
    one-more : (v : Option Refusal) (vs : List (Option Refusal)) → k.verdicts ++ v ∷ vs ≡ (k.verdicts ++ v ∷ []) ++ vs
    one-more v vs = sym (append_assoc k.verdicts (v ∷ []) vs)

    judged-more : (v : Option Refusal) → IsVerdict (is_off plan asked r) (takes_place m left r) v
        → (vs : List (Option Refusal)) → AreVerdicts plan asked m (places_after m left r v) vs rs
        → AreVerdicts plan asked m left0 ((k.verdicts ++ v ∷ []) ++ vs) rs0
    judged-more v verdict vs judged = subst (λ (us : List (Option Refusal)). AreVerdicts plan asked m left0 us rs0)
        (one-more v vs) (k.judged (v ∷ vs) (verdict, judged))

    -- it is lent
    pub admitting-lent : IsVerdict (is_off plan asked r) (takes_place m left r) None → (now : ℕ)
        → now ≡ places_behind m left r → (q : PaneView) → q ≡ record p { ahead = p.ahead ++ changes_put m left r }
        → Admitting plan asked m left0 rs0 l0 p0 now rs (lent ++ r ∷ []) l q
    admitting-lent verdict now is q put =
        let ahead : q.ahead ≡ p.ahead ++ changes_put m left r = ap (λ (v : PaneView). v.ahead) put in
        record {
          verdicts = k.verdicts ++ None ∷ [];
          judged = λ vs judged. judged-more None verdict vs
              (subst (λ (n : ℕ). AreVerdicts plan asked m n vs rs) is judged);
          chosen = λ vs. append_assoc lent (r ∷ []) (lent_of vs rs) ∙ k.chosen (None ∷ vs)
              ∙ ap (λ us. lent_of us rs0) (one-more None vs);
          log = λ vs. k.log (None ∷ vs) ∙ ap (λ us. with_refused l0.state us rs0) (one-more None vs);
          times = k.times;
          puts = λ qs. ap (λ xs. xs ++ changes_put_all m now qs) ahead
              ∙ ap (λ n. (p.ahead ++ changes_put m left r) ++ changes_put_all m n qs) is
              ∙ append_assoc p.ahead (changes_put m left r) (changes_put_all m (places_behind m left r) qs)
              ∙ k.puts (r ∷ qs)
              ∙ ap (λ cs. p0.ahead ++ changes_put_all m left0 cs) (sym (append_assoc lent (r ∷ []) qs));
          pane = put ∙ ap (λ (v : PaneView). record v { ahead = p.ahead ++ changes_put m left r }) k.pane
              ∙ ap (λ xs. record p0 { ahead = xs }) (sym ahead);
          few = omega (arith, k.few, length-append lent (r ∷ []));
          apart = k.apart.1;
          free = k.free.1;
        }

    -- it is refused
    pub admitting-refused : (e : Refusal) → IsVerdict (is_off plan asked r) (takes_place m left r) (Some e)
        → (time : ℕ) (now : TimedLog) → now.state ≡ with_unclaimed l.state r (Err e) → GoesOnAt time l now
        → (q : PaneView) → q ≡ p → Admitting plan asked m left0 rs0 l0 p0 left rs lent now q
    admitting-refused e verdict time now is goes q same =
        let lineless = verdict-lineless (is_off plan asked r) (takes_place m left r) e verdict in
        let trace = ap (λ (s : LogState). s.trace) is ∙ lineless-trace l.state r e lineless in
        subst (λ (v : PaneView). Admitting plan asked m left0 rs0 l0 p0 left rs lent now v) (sym same) (record {
          verdicts = k.verdicts ++ Some e ∷ [];
          judged = judged-more (Some e) verdict;
          chosen = λ vs. k.chosen (Some e ∷ vs) ∙ ap (λ us. lent_of us rs0) (one-more (Some e) vs);
          log = λ vs. ap (λ (s : LogState). with_refused s vs rs) is ∙ k.log (Some e ∷ vs)
              ∙ ap (λ us. with_refused l0.state us rs0) (one-more (Some e) vs);
          times = still time l now goes trace ∙ k.times;
          puts = k.puts;
          pane = k.pane;
          few = omega (arith, k.few);
          apart = k.apart.1;
          free = subst (λ (s : LogState). AreFreeFor s.places rs) (sym is)
              (free_after l.state.places (sender_of r) _ rs k.apart.0 k.free.1);
        })

  -- all were judged
  module _ (left : ℕ) (lent : List Command) (l : TimedLog) (p : PaneView) (i : ℕ) (past : length rs0 ≤ i)
      (k : Admitting plan asked m left0 rs0 l0 p0 left (drop i rs0) lent l p) where
    pub admitting-ahead : {D : Type 0} (e : EngineState D) → m ≡ e.memory → left0 ≡ places_with e (free_lines l0.state)
        → p ≡ record p0 { ahead = p0.ahead ++ changes_put_all e.memory (places_with e (free_lines l0.state)) lent }
    admitting-ahead e memory first = k.pane ∙ ap (λ xs. record p0 { ahead = xs })
        (sym (append-nil p.ahead) ∙ k.puts [] ∙ ap (λ cs. p0.ahead ++ changes_put_all m left0 cs) (append-nil lent)
        ∙ ap (λ (n : Contents). p0.ahead ++ changes_put_all n left0 lent) memory
        ∙ ap (λ (n : ℕ). p0.ahead ++ changes_put_all e.memory n lent) first)

    pub admitting-end : {D : Type 0} (e : EngineState D) → m ≡ e.memory → asked ≡ is_asked e (free_lines l0.state)
        → left0 ≡ places_with e (free_lines l0.state) → Admits plan e l0.state rs0 lent l.state
    admitting-end e memory test first = record {
      verdicts = k.verdicts;
      judged = subst (λ (n : ℕ). AreVerdicts plan (is_asked e (free_lines l0.state)) e.memory n k.verdicts rs0) first
          (subst (λ (b : Bool). AreVerdicts plan b e.memory left0 k.verdicts rs0) test
          (subst (λ (n : Contents). AreVerdicts plan asked n left0 k.verdicts rs0) memory
          (subst (λ (us : List (Option Refusal)). AreVerdicts plan asked m left0 us rs0) (append-nil k.verdicts)
          (k.judged [] (drop_all i rs0 past)))));
      lent_is = sym (append-nil lent) ∙ k.chosen [] ∙ ap (λ us. lent_of us rs0) (append-nil k.verdicts);
      log = k.log [] ∙ ap (λ us. with_refused l0.state us rs0) (append-nil k.verdicts);
    }

-- ---- the trace of a group

module _ (m : Contents) (plan : Option (List Request)) where
  keeps-none : (trace more : List Line) → KeepsTo m plan trace → more ≡ [] → KeepsTo m plan (trace ++ more)
  keeps-none trace more k none = subst (λ (ls : List Line). KeepsTo m plan ls)
      (sym (ap (λ ls. trace ++ ls) none ∙ append-nil trace)) k

  keeps-all : (trace : List Line) (rs : List Command) (xs : List (Result Outcome Refusal)) → KeepsTo m plan trace
      → AreOnPlan plan rs → KeepsTo m plan (trace ++ lines_all rs xs)
  keeps-all trace [] xs k on = keeps-none trace [] k refl
  keeps-all trace (r ∷ rs) [] k on = keeps-none trace [] k refl
  keeps-all trace (r ∷ rs) (x ∷ xs) k on =
      subst (λ (ls : List Line). KeepsTo m plan ls)
      (append_assoc trace (left_lines (Commands r) x) (lines_all rs xs))
      (keeps-all (trace ++ left_lines (Commands r) x) rs xs
      (keeps-line m trace (Commands r) x plan k on.0) on.1)

  -- of members that were answered
  module _ {D : Type 0} (e f : EngineState D) (rs : List Command) (ss : List Served) (trace : List Line)
      (k : KeepsTo m plan trace) where
    keeps-alike : (refusal : Refusal) → leaves_line (Err refusal) ≡ false → ss ≡ each_refused refusal rs
        → KeepsTo m plan (trace ++ lines_all rs (map served_answer ss))
    keeps-alike refusal lineless alike = keeps-none trace (lines_all rs (map served_answer ss)) k
        (ap (λ ts. lines_all rs (map served_answer ts)) alike ∙ refused-lines refusal lineless rs)

    keeps_by : (b : Bool) (room n : ℕ) → e.failed ≡ b → room ≡ n → MembersAnswered e room rs ss f
        → (e.failed ≡ false → 0 < room → AreOnPlan plan rs)
        → KeepsTo m plan (trace ++ lines_all rs (map served_answer ss))
    keeps_by true room n dead is a on = keeps-alike Failed refl ((a.dead dead).dead dead).0
    keeps_by false room zero alive is a on = keeps-alike TraceFull refl (a.full alive is).0
    keeps_by false room (suc n) alive is a on = keeps-all trace rs (map served_answer ss) k
        (on alive (omega (arith, is)))

    pub keeps-members : (room : ℕ) → MembersAnswered e room rs ss f
        → (e.failed ≡ false → 0 < room → AreOnPlan plan rs)
        → KeepsTo m plan (trace ++ lines_all rs (map served_answer ss))
    keeps-members room a on = keeps_by e.failed room room refl refl a on
