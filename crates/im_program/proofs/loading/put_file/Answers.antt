use Rattle.im_program.proofs.Loads.{is_put}
use Rattle.im_program.proofs.loading.put_file.Goals as goal

pub returns-in-Ok-clause-put : goal.returns-in-Ok-clause-put
returns-in-Ok-clause-put g c =
    is_put g.S.Start c.image_length-length.result c.in_ok-to.to c.in-Ok.to c.in_ok-to.ensures.found
    c.args.resized.now c.in-Ok.ensures.leaves c.in-Ok.ensures.laid

pub returns-in-Ok-clause-named : goal.returns-in-Ok-clause-named
returns-in-Ok-clause-named g c = λ honest. c.in_ok-to.ensures.named (c.in-Ok.ensures.leaves honest).0
