use Rattle.std.proofs.Common.{◌≡◌, ℕ, false, List, length, take, sym, ap, ◌∙◌, subst, inl}
use Rattle.{im_groups.specs.Ahead.ServesPrefix, im_engine.specs.State.EngineState, im_engine.specs.State.MeansEither}
use Rattle.im_engine.specs.Commands.{after_commands, commands_put, CommandsAnswered}
use Rattle.im_listed.proofs.ImageLemmas.{carries_on, start_of}
use Rattle.im_listed.proofs.OrderLemmas.{group_ahead, kept_first}
use Rattle.im_listed.specs.{Image.begun_in, Image.ImageState, Listing.Listing}

pub invariant_of-self : Rattle.im_listed.proofs.image.Image.serve_commands.Goals.invariant_of-self
invariant_of-self c =
    let s = c.empty_list.new.self in
    let new = c.serve_commands.new.self in
    let answers = c.serve_commands.new.served.items in
    let emptied = c.empty_list.ensures.emptied in
    let on : c.self.inside.engine.failed ≡ false = c.self.invariant.works c.if-self.false in
    let here : s.failed ≡ false = ap (λ (t : EngineState Listing). t.failed) emptied ∙ on in
    record {
      works = λ is. sym c.known-self-inside-2.ensures.failed ∙ is;
      first = kept_first c.self.inside.engine s new c.self.inside.asks emptied
          (group_ahead s new (take (length answers) c.args.members.now.items) answers
          c.serve_commands.ensures.answered here)
          c.self.invariant.first;
    }

pub returns-clause-served : Rattle.im_listed.proofs.image.Image.serve_commands.Goals.returns-clause-served
returns-clause-served c = λ alive.
    let s = c.empty_list.new.self in
    let e = c.self.inside.engine in
    let on : e.failed ≡ false = c.self.invariant.works c.if-self.false in
    let here : s.failed ≡ false = ap (λ (t : EngineState Listing). t.failed) c.empty_list.ensures.emptied ∙ on in
    let emptied = c.empty_list.ensures.emptied in
    let same : s ≡ begun_in c.args.self.now = emptied ∙ ap (λ (i : ImageState). begun_in i) c.self.view_is in
    let new : ImageState = record {
      engine = c.serve_commands.new.self;
      lost = c.known-self-inside-2.result;
      asked = c.self.inside.asks;
    } in
    let calm : new.lost ≡ false → new.engine.failed ≡ false = λ is. sym c.known-self-inside-2.ensures.failed ∙ is in
    let all = c.args.members.now.items in
    let answers = c.serve_commands.new.served.items in
    let served = take (length answers) all in
    let runs = c.serve_commands.ensures.runs in
    record {
      begins = subst
          (λ (t : EngineState Listing). ServesPrefix t.memory (commands_put t served) all (length answers)) same
          c.serve_commands.ensures.begins;
      answered = subst (λ (t : EngineState Listing). CommandsAnswered t served answers new.engine) same
          c.serve_commands.ensures.answered;
      carried = carries_on c.args.self.now new
          (λ (t : EngineState Listing) (file : List ℕ). MeansEither t (after_commands t served) file) s same (record {
            same = λ is. runs.faults.steady (calm is ∙ sym here);
            leaves = runs.leaves tt here;
            start = λ file left. inl
                (start_of e s c.empty_list.ensures.emptied (c.known-self-inside.ensures.means on) file left);
            account = c.known-self-inside-2.ensures.account;
            means = λ is. c.known-self-inside-2.ensures.means (calm is);
          });
    }
