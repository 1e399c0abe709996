-- Texts on their way to a writer. (Own.)
use Rattle.std.proofs.Common.{◌≡◌, ℕ, Bool, true, false, List, [], ◌∷◌, ◌++◌, length, take, drop, OnOk, IsOk, Some}
use Rattle.std.proofs.Common.{None, Ok, Err, Option, Result, sym, refl, ap, ◌∙◌, subst, append_assoc, append-nil}
use Rattle.std.proofs.Common.{take-append-drop}
use Rattle.std.proofs.KnownBytes.{Appends-nil, Appends-trans}
use Rattle.std.specs.Io.KnownBytes.{Appends, Keeps}
use Rattle.im_text.specs.{declared.batches.Batch.Batch, Printing.Batches, Printing.Begins}

-- ---- writers

-- nothing more is there
pub appends_kept : (a b c : Option (List ℕ)) (bs : List ℕ) → Appends a b bs → Keeps b c → Appends a c bs
appends_kept None b c bs p q = tt
appends_kept (Some x) None c bs p q = absurd p
appends_kept (Some x) (Some y) None bs p q = absurd q
appends_kept (Some x) (Some y) (Some z) bs p q = q ∙ p

-- ---- what is printed

-- a part of what was kept back is written
pub batches_written : (start was is : Option (List ℕ)) (before after : Batch) (n : ℕ) (text : List ℕ) → before.broken ≡ false → Appends was is (take n before.pending.items)
    → (after.broken ≡ false → after.pending.items ≡ drop n before.pending.items) → Batches start was before text → Batches start is after text
batches_written start was is before after n text works there left it =
    let pending = before.pending.items in
    record {
      written = it.written ++ take n pending;
      rest = drop n pending;
      split = it.split ∙ ap (λ xs. it.written ++ xs) (it.back works ∙ sym (take-append-drop n pending)) ∙ sym (append_assoc it.written (take n pending) (drop n pending));
      there = Appends-trans start was is it.written (take n pending) it.there there;
      back = λ still. sym (left still);
    }

-- all of it is written
pub batches_all : (start is : Option (List ℕ)) (batch : Batch) (text : List ℕ) → batch.broken ≡ false → batch.pending.items ≡ [] → Batches start is batch text → Appends start is text
batches_all start is batch text works none it =
    subst (Appends start is) (sym (it.split ∙ ap (λ xs. it.written ++ xs) (it.back works ∙ none) ∙ append-nil it.written)) it.there

pub take-prefix : {A : Type 0} (xs ys : List A) → take (length xs) (xs ++ ys) ≡ xs
take-prefix [] ys = refl
take-prefix (x ∷ xs) ys = ap (λ l. x ∷ l) (take-prefix xs ys)

pub take-all : {A : Type 0} (xs : List A) → take (length xs) xs ≡ xs
take-all [] = refl
take-all (x ∷ xs) = ap (λ l. x ∷ l) (take-all xs)

-- a prefix of it is written
pub batches_begin : (start is : Option (List ℕ)) (batch : Batch) (text : List ℕ) → Batches start is batch text → Begins start is text
batches_begin start is batch text it =
    (length it.written, subst (Appends start is) (sym (ap (take (length it.written)) it.split ∙ take-prefix it.written it.rest)) it.there)

-- nothing is printed yet
pub batches_none : (start : Option (List ℕ)) (batch : Batch) → batch.pending.items ≡ [] → Batches start start batch []
batches_none start batch none = record { written = []; rest = []; split = refl; there = Appends-nil start; back = λ works. sym none }

-- behind a text that was written
pub batches_after : (was mid is : Option (List ℕ)) (batch : Batch) (had text : List ℕ) → Appends was mid had → Batches mid is batch text → Batches was is batch (had ++ text)
batches_after was mid is batch had text first it = record {
  written = had ++ it.written;
  rest = it.rest;
  split = ap (λ (l : List ℕ). had ++ l) it.split ∙ sym (append_assoc had it.written it.rest);
  there = Appends-trans was mid is had it.written first it.there;
  back = it.back;
}

-- ---- results

pub on_ok_is : {T E : Type 0} (r : Result T E) (x : T) (P : Type 0) → OnOk r P → r ≡ Ok x → P
on_ok_is (Ok y) x P holds is = holds
on_ok_is (Err e) x P holds is = absurd (cc)

pub true_false : (b : Bool) → b ≡ true → b ≡ false → ⊥
true_false b t f = absurd (cc)

pub on_ok_by : {T E : Type 0} (r : Result T E) (P : Type 0) → OnOk r P → IsOk r → P
on_ok_by (Ok y) P holds ok = holds
on_ok_by (Err e) P holds ok = absurd (true_false false ok refl)

pub drop_all : (n : ℕ) (xs : List ℕ) → n ≡ length xs → drop n xs ≡ []
drop_all n xs is = ap (λ n. drop n xs) is ∙ whole xs
  where
    whole : (xs : List ℕ) → drop (length xs) xs ≡ []
    whole [] = refl
    whole (x ∷ xs) = whole xs
