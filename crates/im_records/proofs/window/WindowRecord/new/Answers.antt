use Rattle.std.proofs.Common.{arith}
use Rattle.im_types.specs.Types.{Waiting, Release, WINDOW}
use Rattle.im_records.proofs.SessionLemmas.{fit_copies}

pub invariant_of-result : Rattle.im_records.proofs.window.WindowRecord.new.Goals.invariant_of-result
invariant_of-result c = record {
  few = omega arith;
  fit = fit_copies WINDOW
      (record { op = Release 0; entry = Waiting }) (record { address = omega arith; value = omega arith }, tt);
}
