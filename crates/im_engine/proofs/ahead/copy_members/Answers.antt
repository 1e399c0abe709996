use Rattle.std.proofs.Common.{length, ap, arith}
use Rattle.im_engine.proofs.Members.{put_all}

pub returns : Rattle.im_engine.proofs.ahead.copy_members.Goals.returns
returns c = put_all _ c.args.copies.now.items c.try_extend_from_slice-room.new.self.items c.args.members.now _
    c.try_extend_from_slice-room.ensures.variant
    (omega (arith, c.requires.fits, ap length c.requires.empty))
    c.try_extend_from_slice-room.ensures.ok c.requires.empty
