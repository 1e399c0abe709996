use Rattle.std.proofs.Common.{refl}

pub returns : Rattle.im_session.proofs.session.Session.of.Goals.returns
returns g c = rw (c.begin.ensures, c.of-before.ensures, c.disk.ensures) refl
