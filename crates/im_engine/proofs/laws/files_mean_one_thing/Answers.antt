use Rattle.im_engine.proofs.FilesMean.{means_one, no_fault_and_meaning, opens_one, reads_one}

pub returns : Rattle.im_engine.proofs.laws.files_mean_one_thing.Goals.returns
returns c = record {
  reads = reads_one;
  opens = opens_one;
  memory = λ file m n count other room more one two. means_one file m n count other room more one two;
  fault = λ file fault m count room is means. no_fault_and_meaning file fault m count room is means;
}
