use Rattle.std.proofs.Common.{arith}
use Rattle.im_holes.proofs.Taking.{IsRoom-is, taken-cells, taken-holes}
use Rattle.im_holes.proofs.holes.take_at.Goals as goal

pub cut-requires-clause-inside : goal.cut-requires-clause-inside
cut-requires-clause-inside c = (IsRoom-is c.args.begins.now c.args.tags.now c.args.nodes.now c.args.base c.args.n
    c.requires.holes c.requires.some c.requires.room).inside

pub returns-clause-holes : goal.returns-clause-holes
returns-clause-holes c =
    let r = IsRoom-is c.args.begins.now c.args.tags.now c.args.nodes.now c.args.base c.args.n c.requires.holes
    c.requires.some c.requires.room in
    taken-holes c.args.begins.now c.cut.new.begins c.args.tags.now c.cut.new.tags c.args.nodes.now c.args.base c.args.n
    c.requires.holes c.requires.some c.requires.room c.cut.ensures.marks c.cut.ensures.tags c.renew_two.new.nodes _
    (λ less. omega (arith, c.min-rest.ensures, r.inside, c.cut.auto.tags))
    c.renew_two.ensures

pub returns-clause-taken : goal.returns-clause-taken
returns-clause-taken c =
    taken-cells c.args.begins.now c.cut.new.begins c.args.tags.now c.cut.new.tags c.args.nodes.now c.args.base c.args.n
    c.requires.holes c.requires.some c.requires.room c.cut.ensures.marks c.cut.ensures.tags
