use Rattle.std.proofs.Common.{rules}
use Rattle.im_serving.proofs.SendLemmas.{is_beginning}
use Rattle.im_serving.proofs.sender.send_each.Goals as goal

pub returns-in-Err-clause-contents : goal.returns-in-Err-clause-contents
returns-in-Err-clause-contents g c = is_beginning c.loop-intent.intent-index c.args.intents.now c.send.new.self.items
    (search rules)

pub returns-clause-contents : goal.returns-clause-contents
returns-clause-contents g c = is_beginning c.loop-intent.intent-index c.args.intents.now _ c.loop-intent.invariant.1
