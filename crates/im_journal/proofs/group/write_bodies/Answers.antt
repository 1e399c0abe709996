use Rattle.std.proofs.Common.{◌≡◌, ℕ, suc, ◌+◌, ◌<◌, List, [], ◌∷◌, ◌++◌, length, get_or, take, refl, ap, ◌∙◌, arith}
use Rattle.std.proofs.Common.{length-take, take_all, rules}
use Rattle.std.proofs.Math.Seq.{take-suc}
use Rattle.im_types.specs.Types.{Command}
use Rattle.im_journal.{proofs.Spelling.counted_body, proofs.Spelling.spelled_long, specs.Holding.ring_at}
use Rattle.im_journal.proofs.Writing.{all_written, torn_leaves, writing_next, writing_start}
use Rattle.im_journal.proofs.group.write_bodies.Goals as goal

next_taken : (commands : List Command) (i : ℕ) (d : Command) → i < length commands → take (i + 1) commands
    ≡ take i commands ++ get_or commands i d ∷ []
next_taken commands i d low = let next : i + 1 ≡ suc i = omega arith in ap (λ (m : ℕ). take m commands) next
    ∙ take-suc commands i d low

pub loop-i-init : goal.loop-i-init
loop-i-init g c = record {
  honest = λ h. h;
  writing = λ h. writing_start g.D.Disk.now g.D.Disk.past (ring_at c.args.base c.args.slots) c.args.«from»
      (length c.args.commands.now) c.args.disk.now;
  failures = refl;
}

pub returns-in_err-write_at-clause-runs : goal.returns-in_err-write_at-clause-runs
returns-in_err-write_at-clause-runs g c = record {
  honest = search rules;
  leaves = λ h1.
      let h = c.write_at.ensures.honest h1 in
      let h0 = c.loop-i.invariant.honest h in
      let so_many : length (take c.loop-i.i c.args.commands.now)
      ≡ c.loop-i.i = omega (arith, length-take c.loop-i.i c.args.commands.now, c.loop-i-test.true) in
      torn_leaves g.D.Disk.now g.D.Disk.past (ring_at c.args.base c.args.slots) c.args.«from»
      (length c.args.commands.now) c.args.disk.now
      (take c.loop-i.i c.args.commands.now) c.loop-i.i so_many c.loop-i-test.true c.requires.fits.once_round
      c.requires.fits.ring.0 c.loop-i.disk
      (c.requires.inside h0) (c.loop-i.invariant.writing h) _
      (spelled_long _ _ _ _ c.spell_in.ensures.bytes) c.write_at.new.self (c.write_at.ensures.moment h1);
  calls = search rules;
  failures = search rules;
}

pub loop-i-preserved : goal.loop-i-preserved
loop-i-preserved g c = record {
  honest = λ h1. c.loop-i.invariant.honest (c.write_at.ensures.honest h1);
  writing = λ h1.
      let h = c.write_at.ensures.honest h1 in
      let h0 = c.loop-i.invariant.honest h in
      let tick = c.in_ok-write_at.ensures.tick h1 in
      let so_many : length (take c.loop-i.i c.args.commands.now)
      ≡ c.loop-i.i = omega (arith, length-take c.loop-i.i c.args.commands.now, c.loop-i-test.true) in
      writing_next g.D.Disk.now g.D.Disk.past (ring_at c.args.base c.args.slots) c.args.«from»
      (length c.args.commands.now) c.args.disk.now
      (take c.loop-i.i c.args.commands.now) c.loop-i.i so_many c.loop-i-test.true c.requires.fits.once_round
      c.requires.fits.ring.0 c.loop-i.disk
      (c.requires.inside h0) (c.loop-i.invariant.writing h) _
      (spelled_long _ _ _ _ c.spell_in.ensures.bytes) c.write_at.new.self
      _ c.spell_in.ensures.fits
      (counted_body _ _ _ _ _ _ c.spell_in.ensures.bytes c.count_at.ensures (omega arith)) tick.now
      (c.write_at.ensures.moment h1) tick.past
      (take (c.loop-i.i + 1) c.args.commands.now) (next_taken c.args.commands.now c.loop-i.i _ c.loop-i-test.true);
  failures = c.in_ok-write_at.ensures.failures ∙ c.loop-i.invariant.failures;
}

pub returns-clause-written : goal.returns-clause-written
returns-clause-written g c = λ h. all_written g.D.Disk.now g.D.Disk.past
    (ring_at c.args.base c.args.slots) c.args.«from» (length c.args.commands.now) c.args.commands.now
    (take c.loop-i.i c.args.commands.now) c.args.disk.now c.loop-i.disk refl
    (take_all c.loop-i.i c.args.commands.now (omega (arith, c.loop-i-test.false))) (c.loop-i.invariant.writing h)
