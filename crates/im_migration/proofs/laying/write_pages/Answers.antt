use Rattle.std.proofs.Common.{◌≡◌, ℕ, ◌+◌, List, length, sym, ◌∙◌, subst, arith, rules}
use Rattle.im_types.specs.Types.{sizes_of}
use Rattle.im_migration.{proofs.Blank.blank_then, proofs.Laid.laid_page, specs.Laying.IsLaid}

pub loop-i-preserved : Rattle.im_migration.proofs.laying.write_pages.Goals.loop-i-preserved
loop-i-preserved g c = record {
  honest = λ h. c.loop-i.invariant.honest (c.write_beside.ensures.runs.honest h);
  laid = λ h.
      let s = sizes_of c.args.limits in
      let r = c.args.memory.now.records in
      let before = c.write_beside.ensures.runs.honest h in
      let long : length c.encode_page.new.page ≡ 4096 = search rules in
      subst (λ (l : List ℕ). IsLaid s r (c.loop-i.i + 1) 0 l) (sym (c.in_ok-write_beside.ensures.written h))
      (laid_page s r c.loop-i.i _ c.encode_page.new.page (g.N.Disk.now c.loop-i.new).bytes
      (omega (arith, c.area_at.ensures.at)) long
      (omega (arith, c.loop-i-test.true, c.area_pages-i-end.ensures.pages)) c.encode_page.ensures
      (c.loop-i.invariant.laid before));
  blank = λ h.
      blank_then g.N.Disk c.args.new.now c.loop-i.new c.write_beside.new.new
      (c.loop-i.invariant.blank (c.write_beside.ensures.runs.honest h)) (c.write_beside.ensures.runs.kept h);
  failures = c.in_ok-write_beside.ensures.runs.failures ∙ c.loop-i.invariant.failures;
}
