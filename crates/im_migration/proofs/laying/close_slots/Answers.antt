use Rattle.std.proofs.Common.{◌≡◌, ℕ, ◌+◌, List, [], ◌∷◌, length, sym, ap, ◌∙◌, subst, arith}
use Rattle.im_types.specs.Types.{layout_in_use, sizes_of, area_pages}
use Rattle.im_disk.proofs.OverlayLemmas.{length-overlaid}
use Rattle.im_migration.{proofs.Blank.blank_then, proofs.Laid.laid_slot, proofs.Laid.length_is, specs.Laying.IsLaid}
use Rattle.im_migration.proofs.laying.close_slots.Goals as goal

pub loop-slot-preserved : goal.loop-slot-preserved
loop-slot-preserved g c = record {
  honest = λ h. c.loop-slot.invariant.honest (c.write_beside.ensures.runs.honest h);
  laid = λ h r it.
      let s = sizes_of c.args.limits in
      let before = c.write_beside.ensures.runs.honest h in
      subst (λ (l : List ℕ). IsLaid s r (area_pages layout_in_use s) (c.loop-slot.slot + 1) l)
      (sym (c.in_ok-write_beside.ensures.written h))
      (laid_slot s r c.loop-slot.slot _ (g.N.Disk.now c.loop-slot.new).bytes
      (omega (arith, c.journal_at-at.ensures.at)) c.loop-slot-test.true (c.loop-slot.invariant.laid before r it));
  size = λ h.
      let before = c.write_beside.ensures.runs.honest h in
      ap (λ (l : List ℕ). length l) (c.in_ok-write_beside.ensures.written h)
      ∙ length-overlaid (g.N.Disk.now c.loop-slot.new).bytes _ (0 ∷ [])
      (omega (
        arith,
        c.journal_at-at.ensures.at,
        c.loop-slot-test.true,
        c.loop-slot.invariant.size before,
        length_is
            (sizes_of c.args.limits),
      )) ∙ c.loop-slot.invariant.size before;
  blank = λ h.
      blank_then g.N.Disk c.args.new.now c.loop-slot.new c.write_beside.new.new
      (c.loop-slot.invariant.blank (c.write_beside.ensures.runs.honest h)) (c.write_beside.ensures.runs.kept h);
  failures = c.in_ok-write_beside.ensures.runs.failures ∙ c.loop-slot.invariant.failures;
}

pub returns-clause-laid : goal.returns-clause-laid
returns-clause-laid g c = λ h r it.
    let s = sizes_of c.args.limits in
    let all : c.loop-slot.slot
    ≡ c.args.limits.slots = omega (arith, c.loop-slot-test.false, c.loop-slot.auto.slot-end) in
    subst (λ (n : ℕ). IsLaid s r (area_pages layout_in_use s) n (g.N.Disk.now c.loop-slot.new).bytes) all
    (c.loop-slot.invariant.laid h r it)
