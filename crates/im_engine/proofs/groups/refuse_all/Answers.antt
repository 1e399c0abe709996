use Rattle.std.proofs.Common.{map, refl, ◌∙◌, arith}
use Rattle.im_types.specs.Types.{Asks, Refused, no_request}
use Rattle.im_engine.proofs.Members.{told_next}

pub loop-member-preserved : Rattle.im_engine.proofs.groups.refuse_all.Goals.loop-member-preserved
loop-member-preserved c =
    rw c.push.ensures.items
    (told_next (map (λ _. Refused c.args.refusal)) (λ _. Refused c.args.refusal)
    (map (λ _. Refused c.args.refusal)) c.loop-member.served.items c.args.members.now c.loop-member._member-index (Asks no_request) (Refused c.args.refusal) (λ r l. refl) (omega arith) refl ∙ c.loop-member.invariant)
