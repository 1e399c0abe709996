use Rattle.std.proofs.Common.{◌<◌, slice_get, sym, ap, ◌∙◌, subst, arith}
use Rattle.std.proofs.lemmas.List.{with_items_is}
use Rattle.im_arena.{proofs.Frames.IsPopped-transferred, specs.Table.count_of, specs.Table.spans_of}
use Rattle.im_arena.proofs.Views.{count-popped, free-less, held-none, held-popped, inside-held, none-first, some-first}
use Rattle.im_arena.proofs.Arena.pop_front.Goals as goal

pub returns-then-index-clause-first : goal.returns-then-index-clause-first
returns-then-index-clause-first c =
    let inside = inside-held _ _ _ _ c.self.invariant _ (rw (← c.self.view_is) at c.requires) in
    rw (← c.self.view_is)
    (sym (ap (λ ws. slice_get ws 0)
    (none-first _ _ _ _ c.self.invariant _ c.index.result.now inside c.index.ensures (omega arith))))

pub returns-then-index-clause-rest : goal.returns-then-index-clause-rest
returns-then-index-clause-rest c =
    let inside = inside-held _ _ _ _ c.self.invariant _ (rw (← c.self.view_is) at c.requires) in
    rw (← c.self.view_is) (held-none _ _ _ _ c.self.invariant _ c.index.result.now inside c.index.ensures (omega arith))

pub transfer-waiter-requires-clause-some : goal.transfer-waiter-requires-clause-some
transfer-waiter-requires-clause-some c =
    let inside = inside-held _ _ _ _ c.self.invariant _ (rw (← c.self.view_is) at c.requires) in
    subst (λ ns. 0 < count_of (spans_of ns c.as_mut_slice-2.result.now) c.args.list) (sym c.as_mut_slice.ensures.value)
    (subst (λ rs. 0 < count_of (spans_of c.self.inside.nodes.items rs) c.args.list)
    (sym c.as_mut_slice-2.ensures.value)
    (some-first _ _ _ _ c.self.invariant _ c.index.result.now inside c.index.ensures (λ none. omega arith)))

pub overflow_add-self : goal.overflow_add-self
overflow_add-self c =
    let inside = inside-held _ _ _ _ c.self.invariant _ (rw (← c.self.view_is) at c.requires) in
    omega (
      arith,
      free-less _ _ _ _ c.self.invariant _ inside
          (some-first _ _ _ _ c.self.invariant _ c.index.result.now inside c.index.ensures
          (λ none. omega arith)),
      c.self.invariant.sound.chains.few,
    )

pub invariant_of-self : goal.invariant_of-self
invariant_of-self c =
    let inside = inside-held _ _ _ _ c.self.invariant _ (rw (← c.self.view_is) at c.requires) in
    let t = rw (c.as_mut_slice.ensures.value, c.as_mut_slice-2.ensures.value) at c.transfer-waiter.ensures in
    rw (
      with_items_is c.self.inside.nodes c.transfer-waiter.new.nodes
          (omega (arith, t.table)),
      with_items_is c.self.inside.rows c.transfer-waiter.new.rows (omega (arith, t.size)),
    )
    (record {
      sound = t.sound;
      size = t.size
          ∙ c.self.invariant.size;
      count = omega (arith, count-popped _ _ _ _ c.self.invariant _ _ _ _ _ inside t);
    })

pub returns-clause-rest : goal.returns-clause-rest
returns-clause-rest c =
    let inside = inside-held _ _ _ _ c.self.invariant _ (rw (← c.self.view_is) at c.requires) in
    let t = rw (c.as_mut_slice.ensures.value, c.as_mut_slice-2.ensures.value) at c.transfer-waiter.ensures in
    rw (
      with_items_is c.self.inside.nodes c.transfer-waiter.new.nodes
          (omega (arith, t.table)),
      with_items_is c.self.inside.rows c.transfer-waiter.new.rows
          (omega (arith, t.size)),
      ← c.self.view_is,
    )
    (held-popped _ _ _ _ c.self.invariant _ _ _ _ _ inside t)

pub returns-clause-links : goal.returns-clause-links
returns-clause-links c =
    let inside = inside-held _ _ _ _ c.self.invariant _ (rw (← c.self.view_is) at c.requires) in
    let t = rw (c.as_mut_slice.ensures.value, c.as_mut_slice-2.ensures.value) at c.transfer-waiter.ensures in
    rw (
      with_items_is c.self.inside.nodes c.transfer-waiter.new.nodes
          (omega (arith, t.table)),
      with_items_is c.self.inside.rows c.transfer-waiter.new.rows
          (omega (arith, t.size)),
      ← c.self.view_is,
    )
    (IsPopped-transferred _ _ _ _ c.self.invariant _ _ _ _ _ inside t)
