-- Bytes that are repeated, and the records that they are.
use Rattle.std.proofs.Common.{◌≡◌, ℕ, zero, suc, ◌+◌, ◌*◌, List, [], ◌∷◌, ◌++◌, length, sym, refl, ap, ◌∙◌}
use Rattle.std.proofs.Common.{append_assoc, mul-zero, add-one, arith, length-append}
use Rattle.im_image.specs.Fresh.{repeated}

append_nil : (xs : List ℕ) → xs ++ [] ≡ xs
append_nil [] = refl
append_nil (x ∷ xs) = ap (λ (l : List ℕ). x ∷ l) (append_nil xs)

repeated-suc : (n : ℕ) (bytes : List ℕ) → repeated (suc n) bytes ≡ repeated n bytes ++ bytes
repeated-suc zero bytes = append_nil bytes
repeated-suc (suc n) bytes = ap (λ (l : List ℕ). bytes ++ l) (repeated-suc n bytes)
    ∙ sym (append_assoc bytes (repeated n bytes) bytes)

pub append-repeated : (n : ℕ) (start items bytes after : List ℕ) → items ≡ start ++ repeated n bytes → after
    ≡ items ++ bytes → after ≡ start ++ repeated (n + 1) bytes
append-repeated n start items bytes after so next =
    next
    ∙ ap (λ (l : List ℕ). l ++ bytes) so
    ∙ append_assoc start (repeated n bytes) bytes
    ∙ ap (λ (l : List ℕ). start ++ l) (sym (repeated-suc n bytes))
    ∙ ap (λ (k : ℕ). start ++ repeated k bytes) (sym (add-one n))

pub length-repeated : (n : ℕ) (bytes : List ℕ) → length (repeated n bytes) ≡ length bytes * n
length-repeated zero bytes = sym (mul-zero (length bytes))
length-repeated (suc n) bytes = length-append bytes (repeated n bytes)
    ∙ ap (λ (k : ℕ). length bytes + k) (length-repeated n bytes) ∙ sym (mul-suc' (length bytes) n)
  where
    mul-suc' : (a b : ℕ) → a * suc b ≡ a + a * b
    mul-suc' a b = grind arith

pub longer_repeated : (n count : ℕ) (items start bytes : List ℕ) → items ≡ start ++ repeated n bytes → n ≡ count
    → length items ≡ length start + length bytes * count
longer_repeated n count items start bytes so all =
    ap length so ∙ length-append start (repeated n bytes)
    ∙ ap (λ (k : ℕ). length start + k) (length-repeated n bytes)
    ∙ ap (λ (k : ℕ). length start + length bytes * k) all

pub ruleset pushes = (append-repeated, length-repeated)
