use Rattle.std.proofs.Common.{refl, inl, inr}
use Rattle.im_types.specs.Types.{WrongLength}
use Rattle.im_image.proofs.{ImageStart.fault_of_beginning, ImageStart.good_beginning, VersionLemmas.header_may}
use Rattle.im_image.proofs.in_force.read_header.Goals as goal

pub returns-in-Ok-Some-clause-good : goal.returns-in-Ok-Some-clause-good
returns-in-Ok-Some-clause-good g c =
    let is = rw c.in-Ok-Some.field-0-is at c.in-Ok-Some.ensures.found in
    good_beginning c.header_of.result c.args.versions c.in-Ok-Some.beginning
    (g.D.Disk.now c.args.disk.now).bytes is c.header_of.ensures.good

pub returns-in-Ok-Some-clause-fault : goal.returns-in-Ok-Some-clause-fault
returns-in-Ok-Some-clause-fault g c =
    let is = rw c.in-Ok-Some.field-0-is at c.in-Ok-Some.ensures.found in
    fault_of_beginning c.header_of.result c.args.versions c.in-Ok-Some.beginning
    (g.D.Disk.now c.args.disk.now).bytes is c.header_of.ensures.fault

pub returns-in-Ok-None-clause-reads : goal.returns-in-Ok-None-clause-reads
returns-in-Ok-None-clause-reads g c = record {
  honest = c.in-Ok-None.ensures.reads.honest;
  reads = c.in-Ok-None.ensures.reads.reads;
  faults = (
    inr (header_may c.args.versions WrongLength (inl refl)),
    λ device. absurd (cc),
    λ other. c.in-Ok-None.ensures.reads.failures,
  );
}
