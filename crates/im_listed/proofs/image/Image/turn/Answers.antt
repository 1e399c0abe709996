use Rattle.std.proofs.Common.{◌≡◌, ℕ, false, List, sym, ap, ◌∙◌}
use Rattle.im_engine.specs.State.{EngineState, MeansState}
use Rattle.im_listed.proofs.ImageLemmas.{carries_on, start_of, steady_turn}
use Rattle.im_listed.proofs.OrderLemmas.{kept_first, turn_ahead}
use Rattle.im_listed.specs.{Image.begun_in, Image.ImageState, Listing.Listing, Numbers.told_number}

pub invariant_of-self : Rattle.im_listed.proofs.image.Image.turn.Goals.invariant_of-self
invariant_of-self c =
    let s = c.empty_list.new.self in
    let new = c.turn-answer.new.self in
    let emptied = c.empty_list.ensures.emptied in
    let on : c.self.inside.engine.failed ≡ false = c.self.invariant.works c.if-self.false in
    let here : s.failed ≡ false = ap (λ (t : EngineState Listing). t.failed) emptied ∙ on in
    record {
      works = λ is. sym c.known-self-inside-2.ensures.failed ∙ is;
      first = kept_first c.self.inside.engine s new c.self.inside.asks emptied
          (turn_ahead s new c.turn-answer.result c.turn-answer.ensures.answered here) c.self.invariant.first;
    }

pub returns-clause-carried : Rattle.im_listed.proofs.image.Image.turn.Goals.returns-clause-carried
returns-clause-carried c = λ alive.
    let s = c.empty_list.new.self in
    let e = c.self.inside.engine in
    let on : e.failed ≡ false = c.self.invariant.works c.if-self.false in
    let here : s.failed ≡ false = ap (λ (t : EngineState Listing). t.failed) c.empty_list.ensures.emptied ∙ on in
    let new : ImageState = record {
      engine = c.turn-answer.new.self;
      lost = c.known-self-inside-2.result;
      asked = c.self.inside.asks;
    } in
    let calm : new.lost ≡ false → new.engine.failed ≡ false = λ is. sym c.known-self-inside-2.ensures.failed ∙ is in
    carries_on c.args.self.now new (λ (t : EngineState Listing) (file : List ℕ). MeansState t file) s
    (c.empty_list.ensures.emptied ∙ ap (λ (i : ImageState). begun_in i) c.self.view_is) (record {
      same = λ is. steady_turn s new.engine c.turn-answer.result (told_number s.disk.failed s.disk.begun)
          (told_number new.engine.disk.failed new.engine.disk.begun)
          c.turn-answer.ensures.answered c.turn-answer.ensures.faults here (calm is);
      leaves = c.turn-answer.ensures.leaves tt here;
      start = start_of e s c.empty_list.ensures.emptied (c.known-self-inside.ensures.means on);
      account = c.known-self-inside-2.ensures.account;
      means = λ is. c.known-self-inside-2.ensures.means (calm is);
    })
