use Rattle.std.proofs.Common.{Bool, sym, ap}
use Rattle.im_engine.specs.Chain.{laid_of}
use Rattle.im_engine.proofs.ahead.GroupAhead.put.Goals as goal

pub returns-then-self : goal.returns-then-self
returns-then-self c = let a = c.args.self.now in
    ap (λ (b : Bool). laid_of b a.members.items a.commands.items) (sym c.if-self.true)

pub returns : goal.returns
returns c = let a = c.args.self.now in
    ap (λ (b : Bool). laid_of b a.members.items a.commands.items) (sym c.if-self.false)
