use Rattle.std.proofs.Common.{◌≡◌, List, subst}
use Rattle.{im_types.specs.Types.Command, im_engine.specs.Commands.CommandsAnswered}
use Rattle.im_session.specs.{Keeping.MakesFewCalls, Serving.served_together}
use Rattle.im_controller.proofs.SureLemmas.{all-served}
use Rattle.im_controller.proofs.groups.serve_each.Goals as goal

pub returns-clause-answered : goal.returns-clause-answered
returns-clause-answered g c =
    let s = c.args.session.now in let done = c.serve_commands_kept in let cs = c.args.members.now.items in
    let all = all-served s.engine.memory _ cs _ c.requires.sure done.ensures.begins in
    subst (λ (l : List Command). CommandsAnswered s.engine l done.new.served.items done.new.self.engine) all
    done.ensures.answered

pub returns-clause-put : goal.returns-clause-put
returns-clause-put g c =
    let s = c.args.session.now in let done = c.serve_commands_kept in let cs = c.args.members.now.items in
    let all = all-served s.engine.memory _ cs _ c.requires.sure done.ensures.begins in
    subst (λ (l : List Command). done.new.self ≡ served_together s l done.new.self.engine) all done.ensures.put

pub returns-clause-few : goal.returns-clause-few
returns-clause-few g c =
    let s = c.args.session.now in let done = c.serve_commands_kept in let cs = c.args.members.now.items in
    let all = all-served s.engine.memory _ cs _ c.requires.sure done.ensures.begins in
    subst (λ (l : List Command). MakesFewCalls g.D.Disk s l done.new.self) all done.ensures.few
