use Rattle.std.proofs.Common.{refl}
use Rattle.im_dialogue.proofs.DialogueLemmas.{same_start, was_opened}
use Rattle.im_dialogue.proofs.resting.open_with_slots.Goals as goal

pub returns-in-Ok-clause-begins : goal.returns-in-Ok-clause-begins
returns-in-Ok-clause-begins g c = let e = c.in-Ok.ensures in rw c.of.ensures (record {
  begins = refl;
  works = e.works;
  honest = λ h. c.len.ensures.honest (e.honest h);
  opened = λ h. let same = c.len.ensures.same (e.honest h) in
      was_opened g.D.Disk c.args.disk c.len.new.self c.in-Ok.engine same.0 same.1 (e.leaves h) (e.means h);
})

pub returns-in-Err-clause-leaves : goal.returns-in-Err-clause-leaves
returns-in-Err-clause-leaves g c = λ h. let e = c.in-Err.ensures in let same = c.len.ensures.same (e.honest h) in
    same_start (g.D.Disk.now c.args.disk) (g.D.Disk.now c.len.new.self) (g.D.Disk.now c.in-Err.refused.1)
    (g.D.Disk.past c.args.disk) (g.D.Disk.past c.len.new.self) (g.D.Disk.past c.in-Err.refused.1) same.0 same.1
    (e.leaves h)
