use Rattle.std.proofs.Common.{arith}
use Rattle.im_meaning.proofs.Writes.{write_behind_closed_gate}

pub returns : Rattle.im_meaning.proofs.closed_headers_are_not_read.Goals.returns
returns c = λ l h file next at n but some lie closed shown commands room it.
    write_behind_closed_gate l h shown commands room file next at n it but some (omega (arith, lie.from)) lie.to
    lie.from closed
