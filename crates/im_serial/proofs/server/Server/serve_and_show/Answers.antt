use Rattle.im_serial.proofs.ScriptedLemmas.{served_then}

pub returns-in-Ok : Rattle.im_serial.proofs.server.Server.serve_and_show.Goals.returns-in-Ok
returns-in-Ok g c = record { served = served_then c.show.result _ _ _ _ _ _ _ c.in-Ok.ensures.served.serves c.show.ensures.served }
