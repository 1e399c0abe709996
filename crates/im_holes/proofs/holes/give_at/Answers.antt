use Rattle.std.proofs.Common.{length, arith}
use Rattle.im_holes.proofs.Giving.{given-cells, given-holes, held-inside, upto}
use Rattle.im_holes.proofs.holes.give_at.Goals as goal

pub front_of-from-requires-clause-inside : goal.front_of-from-requires-clause-inside
front_of-from-requires-clause-inside c = let i = held-inside c.args.begins.now c.args.tags.now c.args.nodes.now
    c.args.base c.args.n c.requires.holes c.requires.some c.requires.held in omega arith

pub behind_of-to-requires-clause-inside : goal.behind_of-to-requires-clause-inside
behind_of-to-requires-clause-inside c = held-inside c.args.begins.now c.args.tags.now c.args.nodes.now
    c.args.base c.args.n c.requires.holes c.requires.some c.requires.held

pub join-requires-clause-inside : goal.join-requires-clause-inside
join-requires-clause-inside c = upto c.args.begins.now c.args.begins.now c.args.tags.now c.args.tags.now
    c.args.nodes.now
    c.args.base c.args.n c.front_of-from.result c.behind_of-to.result c.requires.holes c.requires.some c.requires.held
    c.front_of-from.ensures c.behind_of-to.ensures

pub renew_two-requires-clause-first : goal.renew_two-requires-clause-first
renew_two-requires-clause-first c = let i = held-inside c.args.begins.now c.args.tags.now c.args.nodes.now
    c.args.base c.args.n c.requires.holes c.requires.some c.requires.held in
    omega (arith, c.requires.some, c.front_of-from.ensures.upto, c.requires.holes.inside)

-- both leaves are there
pub renew_two-requires-clause-second_few : goal.renew_two-requires-clause-second_few
renew_two-requires-clause-second_few c =
    let i = held-inside c.args.begins.now c.args.tags.now c.args.nodes.now c.args.base c.args.n c.requires.holes
    c.requires.some c.requires.held in
    let u = upto c.args.begins.now c.args.begins.now c.args.tags.now c.args.tags.now c.args.nodes.now
    c.args.base c.args.n c.front_of-from.result c.behind_of-to.result c.requires.holes c.requires.some c.requires.held
    c.front_of-from.ensures c.behind_of-to.ensures in
    let o = c.other_end-other.ensures.inside (length c.args.tags.now)
    (omega (arith, c.requires.some, c.front_of-from.ensures.upto)) u in
    omega (arith, o, c.requires.holes.few)

pub renew_two-requires-clause-second : goal.renew_two-requires-clause-second
renew_two-requires-clause-second c =
    let i = held-inside c.args.begins.now c.args.tags.now c.args.nodes.now c.args.base c.args.n c.requires.holes
    c.requires.some c.requires.held in
    let u = upto c.args.begins.now c.args.begins.now c.args.tags.now c.args.tags.now c.args.nodes.now
    c.args.base c.args.n c.front_of-from.result c.behind_of-to.result c.requires.holes c.requires.some c.requires.held
    c.front_of-from.ensures c.behind_of-to.ensures in
    let o = c.other_end-other.ensures.inside (length c.args.tags.now)
    (omega (arith, c.requires.some, c.front_of-from.ensures.upto)) u in
    omega (arith, o, c.requires.holes.inside)

pub returns-clause-holes : goal.returns-clause-holes
returns-clause-holes c =
    given-holes c.args.begins.now c.join.new.begins c.args.tags.now c.join.new.tags c.args.nodes.now
    c.args.base c.args.n c.front_of-from.result c.behind_of-to.result c.requires.holes c.requires.some c.requires.held
    c.front_of-from.ensures c.behind_of-to.ensures c.join.ensures.marks c.join.ensures.tags c.renew_two.new.nodes _
    c.other_end-other.ensures.joined
    c.renew_two.ensures

pub returns-clause-given : goal.returns-clause-given
returns-clause-given c =
    given-cells c.args.begins.now c.join.new.begins c.args.tags.now c.join.new.tags c.args.nodes.now
    c.args.base c.args.n c.front_of-from.result c.behind_of-to.result c.requires.holes c.requires.some c.requires.held
    c.front_of-from.ensures c.behind_of-to.ensures c.join.ensures.marks c.join.ensures.tags
