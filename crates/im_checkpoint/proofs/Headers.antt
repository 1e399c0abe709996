-- The header in force, and the one that follows it.
use Rattle.std.proofs.Common.{◌≡◌, ℕ, zero, suc, ◌+◌, ◌-◌, ◌*◌, ◌<◌, ◌≤◌, Bool, true, ◌&&◌, ◌⊎◌, List, nat_le, ◌==◌}
use Rattle.std.proofs.Common.{refl, ap, ◌∙◌, subst, inl, inr, arith}
use Rattle.im_types.specs.Types.{LAST, AreLimits, layout_in_use, are_sizes, Header, header_in, is_header, header_place}
use Rattle.{im_types.proofs.Tests.and_both, im_laws.proofs.Tests.eq_by_test}
use Rattle.im_meaning.specs.Images.{Follows, InForce}
use Rattle.im_image.proofs.Headers.{le_is, le_true, same_itself, sizes_in_range}
use Rattle.im_checkpoint.specs.Turns.{next_header}

joined : (a b : Bool) → a ≡ true → b ≡ true → (a && b) ≡ true
joined a b first second = ap (λ (t : Bool). t && b) first ∙ second

-- the numbers of a header in force
pub record IsGood (h : Header) : Type 0 where
  pub version : h.version ≡ layout_in_use.version
  pub area : h.area ≤ 1
  pub from_one : 1 ≤ h.generation
  pub to_last : h.generation ≤ LAST
  pub count : h.count ≤ LAST
  pub sizes : are_sizes layout_in_use h.sizes ≡ true
  pub limits : AreLimits h.sizes.cells h.sizes.elements h.sizes.slots

pub good : (h : Header) (file : List ℕ) → InForce layout_in_use h file → IsGood h
good h file it =
    let spelled : is_header layout_in_use h.area (header_in (header_place h.area file))
    ≡ true = (and_both _ _ it.spelled).1 in
    let is : is_header layout_in_use h.area h
    ≡ true = subst (λ (x : Header). is_header layout_in_use h.area x ≡ true) it.fields spelled in
    let e = and_both _ (are_sizes layout_in_use h.sizes) is in
    let d = and_both _ (nat_le h.count LAST) e.0 in
    let c = and_both _ (nat_le h.generation LAST) d.0 in
    let b = and_both _ (nat_le 1 h.generation) c.0 in
    let a = and_both (h.version == layout_in_use.version) (h.area == h.area) b.0 in
    record {
      version = eq_by_test _ _ a.0;
      area = it.number;
      from_one = le_true _ _ b.1;
      to_last = le_true _ _ c.1;
      count = le_true _ _ d.1;
      sizes = e.1;
      limits = sizes_in_range 2 h.sizes e.1;
    }

-- the next header may take the place of the one in force
pub follows : (h : Header) (count : ℕ) → IsGood h → h.generation < LAST → count ≤ LAST
    → Follows layout_in_use h (next_header h count)
follows h count g later few = record {
  area = refl;
  later = omega arith;
  sizes = refl;
  fits = record {
    version = omega (arith, g.version);
    generation = omega (arith, later);
    count = omega (arith, few);
    cells = omega (arith, g.limits.few_cells);
    elements = omega (arith, g.limits.few_elements);
    slots = omega (arith, g.limits.few_slots);
  };
  good = joined _ (are_sizes layout_in_use h.sizes)
      (joined _ (nat_le count LAST) (joined _ (nat_le (h.generation + 1) LAST) (joined _ (nat_le 1 (h.generation + 1))
      (joined (h.version == layout_in_use.version) (1 - h.area == 1 - h.area) (same_itself _ _ g.version)
      (same_itself _ _ refl)) (le_is _ _ (omega arith))) (le_is _ _ (omega (arith, later))))
      (le_is _ _ few)) g.sizes;
}

-- where the other area lies

pub area_from : (bytes area : ℕ) → 8192 ≤ 8192 + bytes * area
area_from bytes area = omega arith

pub area_to : (bytes area : ℕ) → 8192 + bytes * (1 - area) + bytes ≤ 8192 + bytes * 2
area_to bytes zero = omega arith
area_to bytes (suc n) = by_zero (1 - suc n) (omega arith)
  where
    by_zero : (k : ℕ) → k ≡ 0 → 8192 + bytes * k + bytes ≤ 8192 + bytes * 2
    by_zero zero is = omega arith
    by_zero (suc k) is = absurd (omega (arith, is))

pub place_to : (area : ℕ) → 4096 * (1 - area) + 64 ≤ 8192
place_to area = omega arith

pub area_before : (bytes area : ℕ) → area ≤ 1 → 8192 + bytes * area + bytes ≤ 8192 + bytes * 2
area_before bytes zero low = omega arith
area_before bytes (suc zero) low = omega arith
area_before bytes (suc (suc n)) low = absurd (omega (arith, low))

-- one area lies before the other
pub area_apart : (bytes area : ℕ) → area ≤ 1 → (8192 + bytes * area + bytes ≤ 8192 + bytes * (1 - area))
    ⊎ (8192 + bytes * (1 - area) + bytes ≤ 8192 + bytes * area)
area_apart bytes zero low = inl (omega arith)
area_apart bytes (suc zero) low = inr (omega arith)
area_apart bytes (suc (suc n)) low = absurd (omega (arith, low))
