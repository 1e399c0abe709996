use Rattle.std.proofs.Common.{map, refl, ◌∙◌, arith}
use Rattle.im_types.specs.Types.{Asks}
use Rattle.im_engine.proofs.Members.{told_next}

pub loop-member-preserved : Rattle.im_engine.proofs.groups.commands_of.Goals.loop-member-preserved
loop-member-preserved c =
    rw c.push.ensures.items
    (told_next (map Asks) Asks (map Asks) c.loop-member.commands.items c.args.members.now c.loop-member.member-index _ _ (λ r l. refl) (omega arith) refl ∙ c.loop-member.invariant)
