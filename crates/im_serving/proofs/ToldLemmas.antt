-- What is told of earlier scripts. (Own.)
use Rattle.std.proofs.Common.{◌≡◌, ℕ, suc, ◌+◌, ◌<◌, ◌≤◌, ◌⊎◌, List, [], ◌∷◌, ◌++◌, length, Some, None, Option, sym}
use Rattle.std.proofs.Common.{refl, ap, ◌∙◌, subst, ⊎_elim, append_assoc, append-nil, arith, length-append}
use Rattle.{im_types.specs.Types.Entry, im_types.specs.Types.Line, im_controller.specs.Lines.GoesOnTo}
use Rattle.im_trace.proofs.ChainLemmas.{prefix-trans}
use Rattle.im_serving.proofs.AnswerLemmas.{goes_has, goes_longer, stand_longer}
use Rattle.im_serving.specs.declared.{earlier.EarlierAnswer.EarlierAnswer, numbers.ServedNumbers.ServedNumbers}
use Rattle.im_serving.specs.{Earlier.answers_from, Earlier.ToldAlso, Serving.found_line, Serving.StandIn}
use Rattle.im_serving.specs.Told.{AreAnswersIn, AreSameNumbers, IsToldBelow, TellsEarlier, TellsNext}
use mathlib.Core.List.{IsPrefix}

-- ---- what someone was told

hears_none : (a : Option (List EarlierAnswer)) → ToldAlso a a []
hears_none None = tt
hears_none (Some x) = sym (append-nil x)

hears_then : (a b c : Option (List EarlierAnswer)) (xs ys : List EarlierAnswer) → ToldAlso a b xs → ToldAlso b c ys
    → ToldAlso a c (xs ++ ys)
hears_then None b c xs ys p q = tt
hears_then (Some x) None c xs ys p q = absurd p
hears_then (Some x) (Some y) None xs ys p q = absurd q
hears_then (Some x) (Some y) (Some z) xs ys p q =
    q ∙ ap (λ (l : List EarlierAnswer). l ++ ys) p ∙ append_assoc x xs ys

answers_more : (element number : ℕ) (xs ys : List Entry) → answers_from element number (xs ++ ys)
    ≡ answers_from element number xs ++ answers_from element (number + length xs) ys
answers_more element number [] ys =
    let same : number ≡ number + 0 = omega arith in
    ap (λ (n : ℕ). answers_from element n ys) same
answers_more element number (x ∷ xs) ys =
    let same : suc number + length xs ≡ number + length (x ∷ xs) = omega arith in
    let first : EarlierAnswer = record { element = element; number = number; entry = x } in
    ap (λ (l : List EarlierAnswer). first ∷ l) (answers_more element (suc number) xs ys
    ∙ ap (λ (n : ℕ). answers_from element (suc number) xs ++ answers_from element n ys) same)

-- ---- where it was found

found_later : (trace more : List Line) (element number : ℕ) (xs : List Entry) → IsPrefix trace more
    → AreAnswersIn trace element number xs → AreAnswersIn more element number xs
found_later trace more element number [] p it = tt
found_later trace more element number (x ∷ xs) p it = (
  it.0,
  (
    stand_longer (found_line element number x ∷ []) trace more p it.1.0,
    found_later trace more element (suc number) xs p it.1.1,
  ),
)

found_both : (trace : List Line) (element number : ℕ) (xs ys : List Entry) → AreAnswersIn trace element number xs
    → AreAnswersIn trace element (number + length xs) ys → AreAnswersIn trace element number (xs ++ ys)
found_both trace element number [] ys p q =
    let same : number + 0 ≡ number = omega arith in
    subst (λ (n : ℕ). AreAnswersIn trace element n ys) same q
found_both trace element number (x ∷ xs) ys p q =
    let same : number + length (x ∷ xs) ≡ suc number + length xs = omega arith in (
      p.0,
      (
        p.1.0,
        found_both trace element (suc number) xs ys p.1.1
            (subst (λ (n : ℕ). AreAnswersIn trace element n ys) same q),
      ),
    )

-- ---- a server's numbers

confirmed_as : (old new : ServedNumbers) → new.first ≡ old.first → new.base ≡ old.base → old.untold ≤ new.untold
    → IsToldBelow old.base old → IsToldBelow new.base new
confirmed_as old new first base more all number f b =
    let it : number < old.untold = all number (omega (arith, f, first)) (omega (arith, b, base)) in
    omega (arith, it, more)

pub untold_grows : (trace more : List Line) (element : ℕ) (old new : ServedNumbers)
    (was is : Option (List EarlierAnswer)) → TellsEarlier trace more element old new was is → old.untold ≤ new.untold
untold_grows trace more element old new was is t = let count = t.count in omega (arith, count)

pub tells_none : (trace : List Line) (element : ℕ) (s : ServedNumbers) (was : Option (List EarlierAnswer))
    → TellsEarlier trace trace element s s was was
tells_none trace element s was = record {
  longer = ([], append-nil trace);
  same = refl;
  entries = [];
  found = tt;
  count = omega arith;
  told = hears_none was;
  confirmed = λ it. it;
}

pub tells_then : (trace seen more : List Line) (element port : ℕ) (a b c : ServedNumbers)
    (x y z : Option (List EarlierAnswer)) → port ≡ element → TellsEarlier trace seen element a b x y
    → TellsEarlier seen more port b c y z → TellsEarlier trace more element a c x z
tells_then trace seen more element port a b c x y z port_is s t = record {
  longer = prefix-trans trace seen more s.longer t.longer;
  same = t.same ∙ s.same;
  entries = s.entries ++ t.entries;
  found = found_both more element a.untold s.entries t.entries
      (found_later seen more element a.untold s.entries t.longer s.found)
      (subst (λ (n : ℕ). AreAnswersIn more element n t.entries) s.count
      (subst (λ (e : ℕ). AreAnswersIn more e b.untold t.entries) port_is t.found));
  count =
      let long = length-append s.entries t.entries in
      let one = s.count in
      let two = t.count in
      omega (arith, long, one, two);
  told = subst (ToldAlso x z) (sym (answers_more a.element a.untold s.entries t.entries))
      (hears_then x y z _ _ s.told
      (subst (λ (n : ℕ). ToldAlso y z (answers_from a.element n t.entries)) s.count
      (subst (λ (e : ℕ). ToldAlso y z (answers_from e b.untold t.entries)) s.same t.told)));
  confirmed = λ it. t.confirmed (s.confirmed it);
}

-- nothing more is told, and the numbers are the same but for the requests of its own
pub tells_as : (trace seen more : List Line) (element : ℕ) (a b c : ServedNumbers) (x y : Option (List EarlierAnswer))
    → IsPrefix seen more → AreSameNumbers b c → TellsEarlier trace seen element a b x y
    → TellsEarlier trace more element a c x y
tells_as trace seen more element a b c x y p k s = record {
  longer = prefix-trans trace seen more s.longer p;
  same = k.element ∙ s.same;
  entries = s.entries;
  found = found_later seen more element a.untold s.entries p s.found;
  count = k.untold ∙ s.count;
  told = s.told;
  confirmed = λ it.
      let untold = k.untold in
      confirmed_as b c k.first k.base (omega (arith, untold)) (s.confirmed it);
}

pub tells_kept : (trace seen : List Line) (element : ℕ) (a b c : ServedNumbers) (x y : Option (List EarlierAnswer))
    → AreSameNumbers b c → TellsEarlier trace seen element a b x y → TellsEarlier trace seen element a c x y
tells_kept trace seen element a b c x y k s =
    tells_as trace seen seen element a b c x y ([], append-nil seen) k s

-- its entries up to there were confirmed
pub tells_confirmed : (trace seen more : List Line) (element upto : ℕ) (a b c : ServedNumbers)
    (x y : Option (List EarlierAnswer)) → IsPrefix seen more → c ≡ record b { base = upto } → IsToldBelow upto b
    → TellsEarlier trace seen element a b x y → TellsEarlier trace more element a c x y
tells_confirmed trace seen more element upto a b c x y p is all s = subst
    (λ (n : ServedNumbers). TellsEarlier trace more element a n x y) (sym is) (record {
      longer = prefix-trans trace seen more s.longer p;
      same = s.same;
      entries = s.entries;
      found = found_later seen more element a.untold s.entries p s.found;
      count = s.count;
      told = s.told;
      confirmed = λ it. all;
    })

-- what was found was told, if it was the next one
pub tells_next : (trace more : List Line) (element number : ℕ) (entry : Entry) (a b : ServedNumbers)
    (x y : Option (List EarlierAnswer)) → TellsNext number entry a b x y
    → GoesOnTo trace (found_line element number entry ∷ []) more → TellsEarlier trace more element a b x y
tells_next trace more element number entry a b x y t g = ⊎_elim
    (λ it.
    let same = it.0 in record {
      longer = goes_longer trace _ more g;
      same = t.element;
      entries = [];
      found = tt;
      count = omega (arith, same);
      told = subst (λ (z : Option (List EarlierAnswer)). ToldAlso x z []) (sym it.1) (hears_none x);
      confirmed = confirmed_as a b t.first t.base (omega (arith, same));
    })
    (λ it.
    let here = it.next in
    let next = it.untold in record {
      longer = goes_longer trace _ more g;
      same = t.element;
      entries = entry ∷ [];
      found = (
        it.answered,
        (
          subst (λ (n : ℕ). StandIn (found_line element n entry ∷ []) more) here
              (goes_has trace more (found_line element number entry) g),
          tt,
        ),
      );
      count = omega (arith, here, next);
      told = subst
          (λ (n : ℕ). ToldAlso x y (record { element = a.element; number = n; entry = entry } ∷ [])) here it.told;
      confirmed = confirmed_as a b t.first t.base (omega (arith, here, next));
    })
    t.told

-- ---- numbers that are the same

pub same_none : (s : ServedNumbers) → AreSameNumbers s s
same_none s = record { element = refl; first = refl; base = refl; untold = refl }

pub same_then : (a b c : ServedNumbers) → AreSameNumbers a b → AreSameNumbers b c → AreSameNumbers a c
same_then a b c p q = record {
  element = q.element ∙ p.element;
  first = q.first ∙ p.first;
  base = q.base ∙ p.base;
  untold = q.untold ∙ p.untold;
}
