use Rattle.std.proofs.Common.{◌≡◌, ℕ, ◌<◌, ◌≤◌, List, [], ◌∷◌, ◌++◌, length, sym, ap, ◌∙◌, subst, append_assoc, arith}
use Rattle.std.proofs.Common.{length-append}
use Rattle.im_serving.proofs.ElementLemmas.{ended_length, ended_more}
use Rattle.im_serving.specs.Elements.{AreEnded, Asked, End}
use Rattle.im_serving.proofs.ending.end_all.Goals as goal

-- behind some and one more come the rest
one_more : (before rest all left : List Asked) (p : Asked) → before ++ rest ≡ all → rest ≡ p ∷ left
    → (before ++ p ∷ []) ++ left ≡ all
one_more before rest all left p is next = append_assoc before (p ∷ []) left
    ∙ ap (λ (l : List Asked). before ++ l) (sym next) ∙ is

has_room : (before rest all left : List Asked) (p : Asked) (done room : ℕ) → before ++ rest ≡ all → rest ≡ p ∷ left
    → done ≡ length before → length all ≤ room → done < room
has_room before rest all left p done room is next same fits =
    let sizes = length-append before rest in
    let whole = ap length is in
    let step = ap length next in
    omega (arith, sizes, whole, step, same, fits)

pub push_reserved-requires : goal.push_reserved-requires
push_reserved-requires g c =
    let it = c.loop-running.invariant in
    let fits : length c.args.all.items ≤ c.loop-running.done.cap = subst (λ (n : ℕ). length c.args.all.items ≤ n)
    (sym it.1) c.requires.room in
    let many : length c.loop-running.done.items
    ≡ length it.0.0 = ended_length g.K.Name.origin.memory g.K.Name.origin.marks it.0.0 c.loop-running.done.items
    it.0.1.1 in
    let same : c.loop-running.done.len ≡ length it.0.0 = omega (arith, many, c.loop-running.done.ok) in
    has_room it.0.0 c.loop-running.running-iterator.rest.items c.args.all.items c.next.new.self.rest.items
    c.in-Some.running c.loop-running.done.len c.loop-running.done.cap it.0.1.0 c.in-Some.ensures.steps.0 same fits

pub loop-running-preserved : goal.loop-running-preserved
loop-running-preserved g c =
    let it = c.loop-running.invariant in
    let more = ended_more g.K.Name.origin.memory g.K.Name.origin.marks it.0.0 c.loop-running.done.items
    c.in-Some.running c.end.result
    it.0.1.1
    c.end.ensures in (
      (
        it.0.0 ++ c.in-Some.running ∷ [],
        (
          one_more it.0.0 c.loop-running.running-iterator.rest.items c.args.all.items c.next.new.self.rest.items
              c.in-Some.running it.0.1.0 c.in-Some.ensures.steps.0,
          subst (λ (ends : List End). AreEnded g.K.Name.origin.memory g.K.Name.origin.marks
              (it.0.0 ++ c.in-Some.running ∷ []) ends)
              (sym c.push_reserved.ensures.items) more,
        ),
      ),
      c.push_reserved.ensures.capacity ∙ it.1,
    )
