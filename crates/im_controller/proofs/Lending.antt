-- A group that is lent, and what is shown then.
use Rattle.std.proofs.Common.{◌≡◌, ℕ, ◌+◌, ◌<◌, ◌≤◌, Bool, true, false, List, [], ◌++◌, map, length, Option, sym, refl}
use Rattle.std.proofs.Common.{ap, ◌∙◌, subst, ⊎_elim, arith}
use Rattle.im_types.specs.Types.{Request, Command, Served, Contents, WaitingAgrees, end_of, changes_of, shown_by}
use Rattle.{im_laws.proofs.Tests.true_false, im_disk.specs.declared.Disk.Ghosts, im_engine.specs.State.EngineState}
use Rattle.{im_glass.specs.Panes.PaneView, im_trace.specs.Log.LogState}
use Rattle.im_session.specs.{Keeping.KeepsPut, Keeping.MakesFewCalls, Serving.served_answer}
use Rattle.im_queue.specs.Members.{AreFreeFor, AreOneOfEach, AreSureBehind, IsCut}
use Rattle.im_controller.proofs.AdmitLemmas.{admit-all, admit-apart, admit-cut, admit-few, admit-free, admit-limit}
use Rattle.im_controller.proofs.AdmitLemmas.{admit-planned, admit-sure, admit-trace}
use Rattle.im_controller.proofs.GroupLemmas.{Fits, members-fit, members-room}
use Rattle.im_controller.proofs.PutLemmas.{all-trace, GroupShows, lines_all, members-shown}
use Rattle.im_controller.proofs.ShownLemmas.{pane-shows, shown-grows}
use Rattle.im_controller.specs.Admitted.{Admits, free_lines, places_with}
use Rattle.im_controller.specs.Groups.{AreAnswersTo, changes_put_all, LendsGroup, lines_left, MembersAnswered}
use Rattle.im_controller.specs.Groups.{MembersPut, with_all_unclaimed}
use Rattle.im_controller.specs.{Planned.AreOnPlan, Planned.StartsBy, State.SharedState}

-- a group that was lent: what was asked of it, and what became of it
pub record Group {D : Type 0} (plan : Option (List Request)) (s : SharedState D) (f : EngineState D)
    (refused : LogState) (members lent : List Command) (ss : List Served) (room : ℕ) : Type 0 where
  pub admits : Admits plan s.session.engine s.log members lent refused
  pub answered : MembersAnswered s.session.engine room lent ss f
  pub room_is : room ≡ free_lines s.log
  pub within : length s.log.trace ≤ s.log.limit
  pub agrees : WaitingAgrees s.session.engine.memory
  pub cut : IsCut members
  pub apart : AreOneOfEach members
  pub sure : AreSureBehind s.session.engine.memory members
  pub free : AreFreeFor s.log.places members
  pub enough : length s.log.trace < s.log.limit → length s.log.trace + length members ≤ s.log.limit

-- from what is called, of an engine that was looked at
pub group-is : {D : Type 0} (plan p : Option (List Request)) (s t : SharedState D) (x f : EngineState D) (n : Contents)
    (refused : LogState) (members slice lent : List Command) (ss : List Served) (room : ℕ) → s ≡ t
    → x ≡ s.session.engine → Admits p x s.log slice lent refused → p ≡ plan → slice ≡ members
    → MembersAnswered s.session.engine room lent ss f → room ≡ free_lines s.log → length s.log.trace ≤ s.log.limit
    → n ≡ x.memory → WaitingAgrees n → IsCut members → AreOneOfEach members
    → AreSureBehind t.session.engine.memory members → AreFreeFor t.log.places members
    → (length t.log.trace < t.log.limit → length t.log.trace + length members ≤ t.log.limit)
    → Group plan s f refused members lent ss room
group-is {D = D} plan p s t x f n refused members slice lent ss room same looked admits planned all answered is within
    memory agrees cut apart sure free enough = record {
      admits = subst (λ (q : Option (List Request)). Admits q s.session.engine s.log members lent refused) planned
          (subst (λ (rs : List Command). Admits p s.session.engine s.log rs lent refused) all
          (subst (λ (y : EngineState D). Admits p y s.log slice lent refused) looked admits));
      answered = answered;
      room_is = is;
      within = within;
      agrees = subst WaitingAgrees (memory ∙ ap (λ (y : EngineState D). y.memory) looked) agrees;
      cut = cut;
      apart = apart;
      sure = subst (λ (u : SharedState D). AreSureBehind u.session.engine.memory members) (sym same) sure;
      free = subst (λ (u : SharedState D). AreFreeFor u.log.places members) (sym same) free;
      enough = subst (λ (u : SharedState D). length u.log.trace < u.log.limit
          → length u.log.trace + length members ≤ u.log.limit) (sym same) enough;
    }

module _ {D : Type 0} (plan : Option (List Request)) (s : SharedState D) (f : EngineState D) (refused : LogState)
    (members lent : List Command) (ss : List Served) (room : ℕ)
    (it : Group plan s f refused members lent ss room) where
  abbrev e : EngineState D
  e = s.session.engine

  pub group-fits : Fits e.memory lent ss f.memory
  group-fits = members-fit e f lent ss room it.answered

  pub group-trace : refused.trace ≡ s.log.trace
  group-trace = admit-trace plan e s.log members lent refused it.admits

  -- the log with the refusals ends in the same memory
  pub group-ends : (m : Contents) → end_of m s.log.trace ≡ e.memory → end_of m refused.trace ≡ e.memory
  group-ends m ends = ap (end_of m) group-trace ∙ ends

  -- what it asks of the answers
  pub record KeepsLent (m : Contents) : Type 0 where
    pub whole : length ss ≡ length lent
    pub are_so : AreAnswersTo (end_of m refused.trace) lent (map served_answer ss)
    pub apart : AreOneOfEach lent
    pub free : AreFreeFor refused.places lent
    pub room_for : length refused.trace + lines_left (map served_answer ss) ≤ refused.limit

  pub group-keeps : (m : Contents) → end_of m s.log.trace ≡ e.memory → KeepsLent m
  group-keeps m ends =
      let lines = ap length group-trace in
      let limit = admit-limit plan e s.log members lent refused it.admits in
      let few = admit-few plan e s.log members lent refused it.admits in
      record {
        whole = group-fits.whole;
        are_so = subst (λ (n : Contents). AreAnswersTo n lent (map served_answer ss)) (sym (group-ends m ends))
            group-fits.are_so;
        apart = admit-apart plan e s.log members lent refused it.admits it.apart;
        free = admit-free plan e s.log members lent refused it.admits it.apart it.free;
        room_for = ⊎_elim
            (λ none. omega (arith, none, lines, limit, it.within))
            (λ some. omega
            (arith, some.1, few, lines, limit, it.enough (omega (arith, some.0, it.room_is))))
            (members-room e f lent ss room it.answered);
      }

  pub group-planned : (m : Contents) → StartsBy m plan → e.failed ≡ false → 0 < room → AreOnPlan plan lent
  group-planned m starts alive some = admit-planned plan e s.log members lent refused it.admits m starts alive
      (omega (arith, some, it.room_is))

  shows-lent : GroupShows e.memory (lines_all lent (map served_answer ss))
      (changes_put_all e.memory (places_with e room) lent) f.failed
  shows-lent = members-shown e f lent ss it.agrees (admit-cut plan e s.log members lent refused it.admits it.cut)
      (admit-apart plan e s.log members lent refused it.admits it.apart)
      (admit-sure plan e s.log members lent refused it.admits it.sure) room it.answered

  was-alive : (b : Bool) → e.failed ≡ b → f.failed ≡ false → e.failed ≡ false
  was-alive false is alive = is
  was-alive true is alive = absurd
      (true_false (sym is ∙ (sym (ap (λ (x : EngineState D). x.failed) ((it.answered.dead is).dead is).1) ∙ alive)))

  -- what the pane shows then, and what was put ahead
  pub record GroupPane (m : Contents) (p r : PaneView) : Type 0 where
    pub shown_is : r.shown ≡ shown_by m (with_all_unclaimed refused lent (map served_answer ss)).trace
    pub ahead : f.failed ≡ false → r.ahead ≡ []
    pub cells : r.cells ≡ p.cells
    pub alive : f.failed ≡ false → r.shown ≡ p.shown ++ changes_put_all e.memory (places_with e (free_lines s.log)) lent
    pub dead : f.failed ≡ true → r.shown ≡ p.shown

  pub group-pane : (m : Contents) (p q r : PaneView) (failed : Bool)
      → end_of m s.log.trace ≡ e.memory → p.shown ≡ shown_by m s.log.trace → (e.failed ≡ false → p.ahead ≡ [])
      → q ≡ record p { ahead = p.ahead ++ changes_put_all e.memory (places_with e (free_lines s.log)) lent }
      → failed ≡ f.failed → (failed ≡ false → r ≡ record q { shown = q.shown ++ q.ahead; ahead = [] })
      → (failed ≡ true → r ≡ q) → GroupPane m p r
  group-pane m p q r failed ends shown none put is all hidden =
      let lines = lines_all lent (map served_answer ss) in
      let now = ap (λ n. changes_put_all e.memory (places_with e n) lent) it.room_is in
      let pane = pane-shows p q r (changes_put_all e.memory (places_with e (free_lines s.log)) lent)
      (changes_of e.memory lines) put
      failed (λ living. none (was-alive e.failed refl (sym is ∙ living))) all hidden
      (λ living. sym now ∙ shows-lent.alive (sym is ∙ living)) (λ dead. shows-lent.dead (sym is ∙ dead)) in
      record {
        shown_is = pane.is ∙ shown-grows m e.memory refused.trace lines p.shown _ (group-ends m ends)
            (shown ∙ ap (shown_by m) (sym group-trace)) refl
            ∙ ap (shown_by m) (sym (all-trace refused lent (map served_answer ss)));
        ahead = λ living. pane.ahead (is ∙ living);
        cells = pane.cells;
        alive = λ living. pane.is ∙ ap (λ xs. p.shown ++ xs) (sym (shows-lent.alive living) ∙ now);
        dead = λ dead. ap (λ (v : PaneView). v.shown) (hidden (is ∙ dead)) ∙ ap (λ (v : PaneView). v.shown) put;
      }

  -- a group, as its clause has it
  pub lends-group : (disk : Ghosts D) (s' : SharedState D) → s'.session.engine ≡ f
      → MembersPut s.session room lent s'.session → KeepsPut disk s.session s'.session
      → MakesFewCalls disk s.session lent s'.session
      → s'.log ≡ with_all_unclaimed refused lent (map served_answer ss) → s'.servers ≡ s.servers
      → (f.failed ≡ false
      → s'.shown ≡ s.shown ++ changes_put_all e.memory (places_with e (free_lines s.log)) lent)
      → (f.failed ≡ true → s'.shown ≡ s.shown) → LendsGroup disk plan s members s'
  lends-group disk s' now put keeps few log servers shown hidden = record {
    lent = lent;
    refused = refused;
    admits = it.admits;
    all = admit-all plan e s.log members lent refused it.admits;
    answers = ss;
    answered = subst (λ (x : EngineState D). MembersAnswered e (free_lines s.log) lent ss x) (sym now)
        (subst (λ (n : ℕ). MembersAnswered e n lent ss f) it.room_is it.answered);
    put = subst (λ (n : ℕ). MembersPut s.session n lent s'.session) it.room_is put;
    log = log;
    servers = servers;
    shown = λ alive. shown (sym (failed-of now) ∙ alive);
    hidden = λ dead. hidden (sym (failed-of now) ∙ dead);
    keeps = keeps;
    few = few;
  }
    where
      failed-of : {x y : EngineState D} → x ≡ y → x.failed ≡ y.failed
      failed-of same = ap (λ (x : EngineState D). x.failed) same
