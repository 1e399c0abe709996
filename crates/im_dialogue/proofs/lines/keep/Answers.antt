use Rattle.std.proofs.Common.{arith, rules}
use Rattle.im_dialogue.{proofs.LineLemmas.added, proofs.LineLemmas.kept_all, specs.declared.lines.TheConstants.KEPT}

pub returns-then-part-room-clause-kept : Rattle.im_dialogue.proofs.lines.keep.Goals.returns-then-part-room-clause-kept
returns-then-part-room-clause-kept c =
    added c.extend_from_slice.result c.extend_from_slice.new.self.items c.args.line.now.items c.args.part.now _
    c.extend_from_slice.ensures.items
    (kept_all c.args.line.now.items c.args.part.now KEPT c.requires.few
    (first_of (omega arith, search rules, grind arith)))
