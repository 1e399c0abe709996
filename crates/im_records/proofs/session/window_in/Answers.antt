use Rattle.std.proofs.Common.{◌≡◌, ◌<◌, List, [], ◌∷◌, ◌++◌, length, slice_index, sym, ap, ◌∙◌, arith}
use Rattle.im_types.specs.Types.{Kept, Window, layout_of}
use Rattle.im_records.proofs.SessionLemmas.{base_is_read, count_is_read, none_within, one_longer, take_more}
use Rattle.im_records.proofs.SessionLemmas.{whole_window}
use Rattle.im_records.proofs.session.window_in.Goals as goal

pub returns-in_err-entry_past : goal.returns-in_err-entry_past
returns-in_err-entry_past c = λ w spells.
    let base : c.read_u64-base.result ≡ w.base = c.read_u64-base.ensures
    ∙ base_is_read (layout_of c.args.version) c.args.bytes.now w spells in
    let count : slice_index c.args.bytes.now 8
    ≡ length w.kept = count_is_read (layout_of c.args.version) c.args.bytes.now w spells in
    let here : c.loop-past.past < length w.kept = omega (arith, c.loop-past-test.true, count) in
    absurd (none_within w.kept c.loop-past.past here (sym c.in_err-entry_past.was ∙ c.entry_past.ensures w spells base))

pub loop-past-preserved : goal.loop-past-preserved
loop-past-preserved c = record {
  base = ap (λ (w : Window). w.base) c.push.ensures ∙ c.loop-past.invariant.base;
  many = one_longer c.push.new.self c.loop-past.window c.in_ok-entry_past.field-0 c.loop-past.past c.push.ensures c.loop-past.invariant.many;
  kept = λ w spells.
      let base : c.read_u64-base.result ≡ w.base = c.read_u64-base.ensures
      ∙ base_is_read (layout_of c.args.version) c.args.bytes.now w spells in
      ap (λ (v : Window). v.kept) c.push.ensures
      ∙ ap (λ (l : List Kept). l ++ c.in_ok-entry_past.field-0 ∷ []) (c.loop-past.invariant.kept w spells)
      ∙ take_more w.kept c.loop-past.past c.in_ok-entry_past.field-0
      (sym c.in_ok-entry_past.was ∙ c.entry_past.ensures w spells base);
}

pub returns : goal.returns
returns c = λ w spells.
    let base : c.read_u64-base.result ≡ w.base = c.read_u64-base.ensures
    ∙ base_is_read (layout_of c.args.version) c.args.bytes.now w spells in
    let count : slice_index c.args.bytes.now 8
    ≡ length w.kept = count_is_read (layout_of c.args.version) c.args.bytes.now w spells in
    whole_window c.loop-past.window w c.loop-past.past (c.loop-past.invariant.base ∙ base)
    (c.loop-past.invariant.kept w spells) (omega (arith, c.loop-past-test.false, count))
