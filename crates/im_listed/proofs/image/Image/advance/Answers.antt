use Rattle.std.proofs.Common.{◌≡◌, ℕ, false, List, length, IfOk, sym, ap, ◌∙◌, subst, inl, arith}
use Rattle.{im_types.specs.Types.Command, im_types.specs.Types.Served, im_front.specs.Lists.answers_told}
use Rattle.im_engine.specs.{Chain.Advances, Chain.TakesNext, Commands.after_commands}
use Rattle.im_engine.specs.State.{EngineState, MeansEither}
use Rattle.im_listed.proofs.ImageLemmas.{carries_on, start_of, steady_advance}
use Rattle.im_listed.proofs.OrderLemmas.{chain_first, enough_asked, told_all, told_first}
use Rattle.im_listed.specs.{Asking.next_group, Listing.Listing, Numbers.told_number}
use Rattle.im_listed.specs.Image.{begun_in, ImageState, PutsAhead}
use Rattle.im_listed.proofs.image.Image.advance.Goals as goal

pub tell-requires-clause-asked : goal.tell-requires-clause-asked
tell-requires-clause-asked c =
    let s = c.empty_list.new.self in
    let emptied = c.empty_list.ensures.emptied in
    let on : c.self.inside.engine.failed ≡ false = c.self.invariant.works c.if-self.false in
    let here : s.failed ≡ false = ap (λ (t : EngineState Listing). t.failed) emptied ∙ on in
    let many = told_all s c.advance-answer.new.self _ c.advance-answer.result c.advance-answer.new.served.items
    c.advance-answer.ensures.answered here in
    let same = ap (λ (t : EngineState Listing). length t.ahead) emptied in
    let enough = enough_asked c.self.inside.engine.ahead c.self.inside.asks c.self.invariant.first in
    omega (arith, many, same, enough, ap (λ (l : List Served). length l) c.as_slice.ensures.value)

pub invariant_of-self : goal.invariant_of-self
invariant_of-self c =
    let s = c.empty_list.new.self in
    let emptied = c.empty_list.ensures.emptied in
    let on : c.self.inside.engine.failed ≡ false = c.self.invariant.works c.if-self.false in
    let here : s.failed ≡ false = ap (λ (t : EngineState Listing). t.failed) emptied ∙ on in
    record {
      works = λ is. sym c.known-self-inside-2.ensures.failed ∙ is;
      first = chain_first c.self.inside.engine s c.advance-answer.new.self c.self.inside.asks c.tell.new.self
          c.tell.new.told.items c.advance-answer.new.served.items c.next_group-next.result.items c.advance-answer.result
          emptied here c.self.invariant.first c.tell.ensures.order (c.tell.ensures.answers ∙ c.as_slice.ensures.value)
          (c.next_group-next.ensures ∙ sym (ap (λ (i : ImageState). next_group i) c.self.view_is))
          c.advance-answer.ensures.answered;
    }

pub returns-clause-told : goal.returns-clause-told
returns-clause-told c = λ alive.
    let s = c.empty_list.new.self in
    let e = c.self.inside.engine in
    let emptied = c.empty_list.ensures.emptied in
    let on : e.failed ≡ false = c.self.invariant.works c.if-self.false in
    let here : s.failed ≡ false = ap (λ (t : EngineState Listing). t.failed) emptied ∙ on in
    let same : s ≡ begun_in c.args.self.now = emptied ∙ ap (λ (i : ImageState). begun_in i) c.self.view_is in
    let new : ImageState = record {
      engine = c.advance-answer.new.self;
      lost = c.known-self-inside-2.result;
      asked = c.tell.new.self;
    } in
    let calm : new.lost ≡ false → new.engine.failed ≡ false = λ is. sym c.known-self-inside-2.ensures.failed ∙ is in
    let next = c.next_group-next.result.items in
    let answers = c.advance-answer.new.served.items in
    let runs = c.advance-answer.ensures.runs in
    let now = c.args.self.now in
    let told = c.tell.new.told.items in
    let are : answers_told told ≡ answers = c.tell.ensures.answers ∙ c.as_slice.ensures.value in
    let each : length answers ≡ length e.ahead =
    told_all s new.engine next c.advance-answer.result answers c.advance-answer.ensures.answered here
    ∙ ap (λ (t : EngineState Listing). length t.ahead) emptied in
    let puts : PutsAhead now next c.advance-answer.result answers new =
    record {
      answered = subst (λ (t : EngineState Listing). Advances t next c.advance-answer.result answers new.engine) same
          c.advance-answer.ensures.answered;
      takes = subst (λ (t : EngineState Listing). IfOk c.advance-answer.result (TakesNext t next new.engine)) same
          c.advance-answer.ensures.takes;
      carried = carries_on now new
          (λ (t : EngineState Listing) (file : List ℕ). MeansEither t (after_commands t t.ahead) file) s same (record {
            same = λ is. steady_advance s new.engine next c.advance-answer.result answers
                (told_number s.disk.failed s.disk.begun)
                (told_number new.engine.disk.failed new.engine.disk.begun)
                c.advance-answer.ensures.answered runs.faults here (calm is);
            leaves = runs.leaves tt here;
            start = λ file left. inl (start_of e s emptied (c.known-self-inside.ensures.means on) file left);
            account = c.known-self-inside-2.ensures.account;
            means = λ is. c.known-self-inside-2.ensures.means (calm is);
          });
    } in
    record {
      order = sym (ap (λ (i : ImageState). i.asked) c.self.view_is) ∙ c.tell.ensures.order;
      acted = told_first e.ahead c.self.inside.asks new.asked told answers c.self.invariant.first c.tell.ensures.order
          are each ∙ ap (λ (i : ImageState). i.engine.ahead) c.self.view_is;
      puts = subst (λ (l : List Command). PutsAhead now l c.advance-answer.result (answers_told told) new)
          c.next_group-next.ensures
          (subst (λ (l : List Served). PutsAhead now next c.advance-answer.result l new) (sym are) puts);
    }
