use Rattle.std.proofs.Common.{rules}
use Rattle.im_migration.proofs.Blank.{blank_write}

pub returns-clause-runs : Rattle.im_migration.proofs.laying.write_beside.Goals.returns-clause-runs
returns-clause-runs g c = record {
  honest = search rules;
  kept = λ h.
      blank_write g.N.Disk c.args.at _ c.args.new.now c.write_at.new.self c.requires.beside
      (c.requires.inside (c.write_at.ensures.honest h)) (c.write_at.ensures.moment h);
  failures = search rules;
}
