use Rattle.im_engine.proofs.StepFaults.{step-no_device}

pub returns : Rattle.im_engine.proofs.laws.steps_tell_of_no_failure.Goals.returns
returns c = step-no_device
