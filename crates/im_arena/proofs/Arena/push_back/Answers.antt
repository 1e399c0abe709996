use Rattle.std.proofs.Common.{◌<◌, ◌≢◌, sym, ◌∙◌, subst, true≢false, arith}
use Rattle.std.proofs.lemmas.List.{with_items_is}
use Rattle.im_arena.{proofs.Frames.IsPushed-transferred, specs.Lists.free, specs.Table.count_of, specs.Table.spans_of}
use Rattle.im_arena.proofs.Views.{count-pushed, held-pushed, inside-held, some-free}
use Rattle.im_arena.proofs.Arena.push_back.Goals as goal

pub transfer-requires-clause-some : goal.transfer-requires-clause-some
transfer-requires-clause-some c =
    let some : free c.args.self.now.held ≢ 0 = λ none. true≢false
    (sym (c.is_full.ensures.1 none) ∙ c.if-is_full.false) in
    subst (λ ns. 0 < count_of (spans_of ns c.as_mut_slice-2.result.now) c.self.inside.lists)
    (sym c.as_mut_slice.ensures.value)
    (subst (λ rs. 0 < count_of (spans_of c.self.inside.nodes.items rs) c.self.inside.lists)
    (sym c.as_mut_slice-2.ensures.value) (some-free _ _ _ _ c.self.invariant (rw (← c.self.view_is) at some)))

pub invariant_of-self : goal.invariant_of-self
invariant_of-self c =
    let inside = inside-held _ _ _ _ c.self.invariant _ (rw (← c.self.view_is) at c.requires) in
    let t = rw (c.as_mut_slice.ensures.value, c.as_mut_slice-2.ensures.value) at c.transfer.ensures in
    let fewer = count-pushed _ _ _ _ c.self.invariant _ _ _ _ _ inside t in
    rw (
      with_items_is c.self.inside.nodes c.transfer.new.nodes
          (omega (arith, t.table)),
      with_items_is c.self.inside.rows c.transfer.new.rows (omega (arith, t.size)),
    )
    (record { sound = t.sound; size = t.size ∙ c.self.invariant.size; count = omega arith })

pub returns-clause-pushed : goal.returns-clause-pushed
returns-clause-pushed c = λ _.
    let inside = inside-held _ _ _ _ c.self.invariant _ (rw (← c.self.view_is) at c.requires) in
    let t = rw (c.as_mut_slice.ensures.value, c.as_mut_slice-2.ensures.value, c.with.ensures) at c.transfer.ensures in
    rw (
      with_items_is c.self.inside.nodes c.transfer.new.nodes
          (omega (arith, t.table)),
      with_items_is c.self.inside.rows c.transfer.new.rows
          (omega (arith, t.size)),
      ← c.self.view_is,
    )
    (held-pushed _ _ _ _ c.self.invariant _ _ _ _ _ inside t)

pub returns-clause-links : goal.returns-clause-links
returns-clause-links c = λ _.
    let inside = inside-held _ _ _ _ c.self.invariant _ (rw (← c.self.view_is) at c.requires) in
    let t = rw (c.as_mut_slice.ensures.value, c.as_mut_slice-2.ensures.value, c.with.ensures) at c.transfer.ensures in
    rw (
      with_items_is c.self.inside.nodes c.transfer.new.nodes
          (omega (arith, t.table)),
      with_items_is c.self.inside.rows c.transfer.new.rows
          (omega (arith, t.size)),
      ← c.self.view_is,
    )
    (IsPushed-transferred _ _ _ _ c.self.invariant _ _ _ _ _ inside t)
