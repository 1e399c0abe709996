use Rattle.std.proofs.Common.{ℕ, ◌+◌, List, refl, ◌∙◌, subst, arith}
use Rattle.im_serial.proofs.NamedLemmas.{named_more, named_none, named_until}
use Rattle.im_serial.specs.{Had.left_of, Named.AreNamed}
use Rattle.im_serial.proofs.naming.Earlier.name_all.Goals as goal

pub loop-number-init : goal.loop-number-init
loop-number-init g c = (
  refl,
  named_none c.args.memory.now.contents (left_of c.args.self.now.last.items c.args.numbers.0) c.args.numbers.0
      c.args.numbers.1 c.args.self.now.named,
)

pub loop-number-preserved : goal.loop-number-preserved
loop-number-preserved g c =
    let m = c.args.memory.now.contents in
    let element = c.args.numbers.0 in
    let l = c.loop-number in
    let n = c.name_kept in (
      n.ensures.last ∙ l.invariant.0,
      named_more m (left_of c.args.self.now.last.items element) element c.args.numbers.1 l.number l.self.named
          n.new.self.named l.invariant.1
          (subst (λ (xs : List ℕ). AreNamed m (left_of xs element) element l.number (l.number + 1) n.new.self.named)
          l.invariant.0 n.ensures.named) n.ensures.kept,
    )

pub returns : goal.returns
returns g c = record {
  named = named_until c.args.memory.now.contents (left_of c.args.self.now.last.items c.args.numbers.0)
      c.args.numbers.0 c.args.numbers.1 c.loop-number.number c.args.numbers.2 c.loop-number.self.named
      (omega (arith, c.loop-number-test.false)) c.loop-number.invariant.1;
}
