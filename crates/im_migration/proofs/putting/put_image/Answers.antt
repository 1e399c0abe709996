use Rattle.std.proofs.Common.{rules}
use Rattle.im_image.specs.Headers.{seen}
use Rattle.im_migration.{proofs.Blank.leaves_after, specs.Migration.BlankOrLaid}
use Rattle.im_migration.proofs.putting.put_image.Goals as goal

pub returns-in-Ok-clause-runs : goal.returns-in-Ok-clause-runs
returns-in-Ok-clause-runs g c = record {
  honest = search rules;
  kept = λ h2.
      let h1 = c.lay_down.ensures.runs.honest h2 in
      leaves_after (g.N.Disk.now c.args.new.now) (g.N.Disk.now c.find_place.new.new) (g.N.Disk.now c.lay_down.new.new)
      (g.N.Disk.past c.args.new.now) (g.N.Disk.past c.find_place.new.new) (g.N.Disk.past c.lay_down.new.new)
      (BlankOrLaid (seen c.args.header.now) c.args.memory.now.contents)
      (c.find_place.ensures.runs.kept h1) (c.lay_down.ensures.runs.kept h2).within;
  faults = search rules;
}

pub returns-in-Err-clause-runs : goal.returns-in-Err-clause-runs
returns-in-Err-clause-runs g c = record {
  honest = search rules;
  kept = λ h2.
      let h1 = c.lay_down.ensures.runs.honest h2 in
      leaves_after (g.N.Disk.now c.args.new.now) (g.N.Disk.now c.find_place.new.new) (g.N.Disk.now c.lay_down.new.new)
      (g.N.Disk.past c.args.new.now) (g.N.Disk.past c.find_place.new.new) (g.N.Disk.past c.lay_down.new.new)
      (BlankOrLaid (seen c.args.header.now) c.args.memory.now.contents)
      (c.find_place.ensures.runs.kept h1) (c.lay_down.ensures.runs.kept h2).within;
  faults = search rules;
}
