use Rattle.std.proofs.Common.{◌≡◌, min, false, List, [], length, take, ◌==◌, sym, refl, ap, ◌∙◌, subst, arith}
use Rattle.{im_types.specs.Types.Command, im_types.specs.Types.Served, im_groups.specs.Commands.places}
use Rattle.im_laws.proofs.Tests.{and_both, eq_by_test}
use Rattle.im_engine.specs.{Commands.answers_in_turn, State.EngineState}
use Rattle.im_front.specs.Lists.{answers_told, asks_told, commands_asked}
use Rattle.im_listed.proofs.OrderLemmas.{alone, answered_stays, AreFirst, none_ahead}
use Rattle.im_listed.specs.{Image.begun_in, Image.ImageState, Listing.Listing}
use Rattle.im_listed.proofs.image.Image.answer_first.Goals as goal

pub tell-requires-clause-asked : goal.tell-requires-clause-asked
tell-requires-clause-asked c =
    omega (
      arith,
      c.serve_commands.ensures.begins.within,
      c.group-first.ensures.count,
      ap (λ (l : List Served). length l) c.as_slice.ensures.value,
    )

pub invariant_of-self : goal.invariant_of-self
invariant_of-self c =
    let s = c.empty_list.new.self in
    let old = c.args.self.now in
    let new = c.serve_commands.new.self in
    let same : s ≡ begun_in old =
    c.empty_list.ensures.emptied ∙ ap (λ (i : ImageState). begun_in i) c.self.view_is in
    let tests = and_both (length old.engine.ahead == 0) (places old.engine.count old.engine.room == 0)
    c.requires.full in
    let none : places s.count s.room ≡ 0 =
    ap (λ (t : EngineState Listing). places t.count t.room) same
    ∙ eq_by_test (places old.engine.count old.engine.room) 0 tests.1 in
    let here : s.failed ≡ false = ap (λ (t : EngineState Listing). t.failed) same ∙ c.requires.works in
    let stays = answered_stays s new _ c.serve_commands.new.served.items none here c.serve_commands.ensures.answered in
    let is : new ≡ begun_in old = stays.1 ∙ same in
    let ahead : new.ahead ≡ [] =
    ap (λ (t : EngineState Listing). t.ahead) is ∙ none_ahead old.engine.ahead tests.0 in
    record {
      works = λ alive. ap (λ (t : EngineState Listing). t.failed) is ∙ c.requires.works;
      first = subst (λ (l : List Command). AreFirst l c.tell.new.self) (sym ahead) refl;
    }

pub returns : goal.returns
returns c =
    let s = c.empty_list.new.self in
    let old = c.args.self.now in
    let new = c.serve_commands.new.self in
    let asks = c.self.inside.asks in
    let first = c.group-first.result.items in
    let answers = c.serve_commands.new.served.items in
    let told = c.tell.new.told.items in
    let same : s ≡ begun_in old =
    c.empty_list.ensures.emptied ∙ ap (λ (i : ImageState). begun_in i) c.self.view_is in
    let tests = and_both (length old.engine.ahead == 0) (places old.engine.count old.engine.room == 0)
    c.requires.full in
    let none : places s.count s.room ≡ 0 =
    ap (λ (t : EngineState Listing). places t.count t.room) same
    ∙ eq_by_test (places old.engine.count old.engine.room) 0 tests.1 in
    let here : s.failed ≡ false = ap (λ (t : EngineState Listing). t.failed) same ∙ c.requires.works in
    let stays = answered_stays s new (take (length answers) first) answers none here
    c.serve_commands.ensures.answered in
    let are : answers_told told ≡ answers = c.tell.ensures.answers ∙ c.as_slice.ensures.value in
    let it = alone _ _ first asks c.tell.new.self told answers c.group-first.ensures.first c.group-first.ensures.count
    c.serve_commands.ensures.begins c.tell.ensures.order are in
    let engine : new ≡ begun_in old = stays.1 ∙ same in
    let lost = ap (λ (i : ImageState). i.lost) c.self.view_is in
    record {
      answered = record {
        order = sym (ap (λ (i : ImageState). i.asked) c.self.view_is) ∙ c.tell.ensures.order;
        some = it.one ∙ ap (λ (i : ImageState). min 1 (length i.asked)) c.self.view_is;
        answers = are ∙ stays.0
            ∙ ap (λ (l : List Command). answers_in_turn s l) (it.served ∙ sym it.commands)
            ∙ ap (λ (t : EngineState Listing). answers_in_turn t (commands_asked (asks_told told))) same;
        same = λ i. record { engine = engine i; lost = lost i; asked = c.tell.new.self };
      };
    }
