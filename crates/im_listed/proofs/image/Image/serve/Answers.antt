use Rattle.std.proofs.Common.{◌≡◌, ℕ, false, List, sym, ap, ◌∙◌, inl}
use Rattle.im_engine.specs.State.{EngineState, MeansEither, with_command}
use Rattle.im_listed.proofs.ImageLemmas.{alive_after, carries_on, start_of, steady_after}
use Rattle.im_listed.proofs.OrderLemmas.{kept_first, served_ahead}
use Rattle.im_listed.specs.{Image.begun_in, Image.ImageState, Image.tells_device, Listing.Listing, Numbers.told_number}
use Rattle.im_listed.proofs.image.Image.serve.Goals as goal

pub invariant_of-self : goal.invariant_of-self
invariant_of-self c =
    let s = c.empty_list.new.self in
    let emptied = c.empty_list.ensures.emptied in
    let on : c.self.inside.engine.failed ≡ false = c.self.invariant.works c.if-self.false in
    let here : s.failed ≡ false = ap (λ (t : EngineState Listing). t.failed) emptied ∙ on in
    let answered = c.serve-answer.ensures.answered in
    record {
      works = λ is. alive_after s c.serve-answer.new.self c.args.command.now c.serve-answer.result answered here
          (sym c.tells_device-self-inside.ensures ∙ is);
      first = kept_first c.self.inside.engine s c.serve-answer.new.self c.self.inside.asks emptied
          (served_ahead s c.serve-answer.new.self c.args.command.now c.serve-answer.result answered here)
          c.self.invariant.first;
    }

pub returns-clause-carried : goal.returns-clause-carried
returns-clause-carried c = λ alive.
    let s = c.empty_list.new.self in
    let e = c.self.inside.engine in
    let on : e.failed ≡ false = c.self.invariant.works c.if-self.false in
    let here : s.failed ≡ false = ap (λ (t : EngineState Listing). t.failed) c.empty_list.ensures.emptied ∙ on in
    let new : ImageState = record {
      engine = c.serve-answer.new.self;
      lost = c.tells_device-self-inside.result;
      asked = c.self.inside.asks;
    } in
    let calm : new.lost ≡ false → tells_device c.serve-answer.result
    ≡ false = λ is. sym c.tells_device-self-inside.ensures ∙ is in
    carries_on c.args.self.now new
    (λ (t : EngineState Listing) (file : List ℕ). MeansEither t (with_command t c.args.command.now) file) s
    (c.empty_list.ensures.emptied ∙ ap (λ (i : ImageState). begun_in i) c.self.view_is) (record {
      same = λ is. steady_after c.serve-answer.result (told_number s.disk.failed s.disk.begun)
          (told_number new.engine.disk.failed new.engine.disk.begun) c.serve-answer.ensures.faults (calm is);
      leaves = c.serve-answer.ensures.leaves tt here;
      start = λ file left. inl
          (start_of e s c.empty_list.ensures.emptied (c.known-self-inside.ensures.means on) file left);
      account = c.known-self-inside-2.ensures.account;
      means = λ is. c.known-self-inside-2.ensures.means
          (alive_after s new.engine c.args.command.now c.serve-answer.result c.serve-answer.ensures.answered here
          (calm is));
    })
