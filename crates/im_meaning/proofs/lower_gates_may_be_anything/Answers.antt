use Rattle.std.proofs.Common.{◌*◌, arith}
use Rattle.im_meaning.{proofs.Writes.write_lower_gate, specs.Images.other}

pub returns : Rattle.im_meaning.proofs.lower_gates_may_be_anything.Goals.returns
returns c = λ l h file next but some lower shown commands room it.
    write_lower_gate l h shown commands room file next (4096 * other h) 1 it but some
    (omega arith) (omega arith) (omega arith) lower
