-- Records of a page are records of the part that the page is of.
use Rattle.std.proofs.Common.{◌≡◌, ℕ, zero, suc, ◌+◌, ◌-◌, ◌*◌, ◌/◌, ◌%◌, ◌<◌, ◌≤◌, ◌⊎◌, List, [], ◌∷◌, ◌++◌, length}
use Rattle.std.proofs.Common.{take, drop, sym, refl, ap, ◌∙◌, inl, inr, arith, length-drop, take-append-drop, take-take}
use Rattle.std.proofs.Common.{drop-drop}
use Rattle.std.proofs.lemmas.{Bool.cases_lt, List.drop-take, List.replicate-append-replicate}
use Rattle.std.proofs.Math.Nat.{div-add-mod, mod-lt, mul-le-mul_left, mul-sub, mul-suc, mul-zero}
use Rattle.im_types.specs.Types.{record_at, zeros}

pub record_is : (n i : ℕ) (bytes : List ℕ) → record_at n bytes i ≡ take n (drop (n * i) bytes)
record_is n i bytes = ap (λ (k : ℕ). take k (drop (n * i) bytes)) (size (n * i) n)
  where
    size : (a b : ℕ) → (a + b) - a ≡ b
    size a b = omega arith

-- n bytes a record, page bytes a page, of which m from record k of page i on; at is where it stands in the part
piece : (n page m at k i : ℕ) (part : List ℕ) → page ≡ n * k + m → n ≤ m → at ≡ page * i + n * k
    → take n (drop (n * k) (record_at page part i)) ≡ take n (drop at part)
piece n page m at k i part size room is =
    ap (λ (b : List ℕ). take n (drop (n * k) b)) (record_is page i part)
    ∙ ap (λ (s : ℕ). take n (drop (n * k) (take s (drop (page * i) part)))) size
    ∙ ap (λ (b : List ℕ). take n b) (drop-take (n * k) m (drop (page * i) part))
    ∙ take-take n m (drop (n * k) (drop (page * i) part)) room
    ∙ ap (λ (b : List ℕ). take n b) (drop-drop (n * k) (page * i) part)
    ∙ ap (λ (a : ℕ). take n (drop a part)) (sym is)

-- record k of page i, of pages with so many records of a size
pub of_page : (size per i k : ℕ) (part : List ℕ) → k < per → record_at size (record_at (size * per) part i) k
    ≡ record_at size part (per * i + k)
of_page size per i k part lt =
    record_is size k (record_at (size * per) part i)
    ∙ piece size (size * per) (size * per - size * k) (size * (per * i + k)) k i part (omega (arith, inside))
    (omega (arith, inside)) (at size per i k)
    ∙ sym (record_is size (per * i + k) part)
  where
    inside : size * k + size ≤ size * per
    inside = omega (arith, mul-suc size k, mul-le-mul_left {m = suc k} {n = per} size lt)

    at : (size per i k : ℕ) → size * (per * i + k) ≡ size * per * i + size * k
    at size per i k = grind arith

-- what stands at each place of each page stands at each place of the part
pub of_pages : (size per n : ℕ) (part : List ℕ) (f : ℕ → List ℕ) → 0 < per
    → ((i k : ℕ) → i < n → k < per → record_at size (record_at (size * per) part i) k ≡ f (per * i + k)) → (j : ℕ)
    → j < per * n → record_at size part j ≡ f j
of_pages size per n part f some has j lt =
    let at : per * (j / per) + j % per ≡ j = div-add-mod j per in
    let below : j % per < per = mod-lt j some in
    ap (λ (m : ℕ). record_at size part m) (sym at) ∙ sym (of_page size per (j / per) (j % per) part below)
    ∙ has (j / per) (j % per) (page_below at (cases_lt (j / per) n)) below ∙ ap f at
  where
    page_below : per * (j / per) + j % per ≡ j → (j / per < n) ⊎ (n ≤ j / per) → j / per < n
    page_below at (inl less) = less
    page_below at (inr more) = absurd (omega (arith, at, lt, mul-le-mul_left {m = n} {n = j / per} per more))

-- a record behind others
pub record_behind : (size m j : ℕ) (bytes : List ℕ) → record_at size (drop (size * m) bytes) j
    ≡ record_at size bytes (m + j)
record_behind size m j bytes =
    record_is size j (drop (size * m) bytes)
    ∙ ap (take size) (drop-drop (size * j) (size * m) bytes)
    ∙ ap (λ (k : ℕ). take size (drop k bytes)) (distribute size m j)
    ∙ sym (record_is size (m + j) bytes)
  where
    distribute : (a b c : ℕ) → a * b + a * c ≡ a * (b + c)
    distribute a b c = grind arith

no_bytes : (bytes : List ℕ) → length bytes ≡ 0 → bytes ≡ []
no_bytes [] e = refl
no_bytes (b ∷ bytes) e = absurd (omega arith)

-- bytes of which each record is zero
zero_records : (size m : ℕ) (bytes : List ℕ) → length bytes ≡ size * m
    → ((j : ℕ) → j < m → record_at size bytes j ≡ zeros size) → bytes ≡ zeros (size * m)
zero_records size zero bytes long each = no_bytes bytes (long ∙ mul-zero size) ∙ ap zeros (sym (mul-zero size))
zero_records size (suc m) bytes long each =
    sym (take-append-drop size bytes)
    ∙ ap (λ (l : List ℕ). l ++ drop size bytes) (first ∙ each 0 (omega arith))
    ∙ ap (λ (l : List ℕ). zeros size ++ l)
    (zero_records size m (drop size bytes)
    (length-drop size bytes ∙ less (length bytes) (size * m) size (long ∙ mul-suc size m))
    (λ j lt. behind j ∙ each (suc j) (omega arith)))
    ∙ replicate-append-replicate size (size * m) 0
    ∙ ap zeros (swap size (size * m) ∙ sym (mul-suc size m))
  where
    first : take size bytes ≡ record_at size bytes 0
    first = ap (λ (k : ℕ). take size (drop k bytes)) (sym (mul-zero size)) ∙ sym (record_is size 0 bytes)

    less : (a b c : ℕ) → a ≡ b + c → a - c ≡ b
    less a b c e = omega arith

    swap : (a b : ℕ) → a + b ≡ b + a
    swap a b = omega arith

    one : (k : ℕ) → k * 1 ≡ k
    one k = omega arith

    next : (k : ℕ) → 1 + k ≡ suc k
    next k = omega arith

    behind : (j : ℕ) → record_at size (drop size bytes) j ≡ record_at size bytes (suc j)
    behind j = ap (λ (k : ℕ). record_at size (drop k bytes) j) (sym (one size)) ∙ record_behind size 1 j bytes
        ∙ ap (λ (k : ℕ). record_at size bytes k) (next j)

-- behind so many records there are zeros, where each later record is zero
pub zeros_behind : (size count all : ℕ) (bytes : List ℕ) → count ≤ all → length bytes ≡ size * all
    → ((j : ℕ) → count ≤ j → j < all → record_at size bytes j ≡ zeros size) → drop (size * count) bytes
    ≡ zeros (length (drop (size * count) bytes))
zeros_behind size count all bytes few long each = rest ∙ ap zeros (sym left)
  where
    apart : (a b c : ℕ) → b ≤ c → a * c - a * b ≡ a * (c - b)
    apart a b c le = sym (mul-sub a c b)

    left : length (drop (size * count) bytes) ≡ size * (all - count)
    left = length-drop (size * count) bytes ∙ ap (λ (k : ℕ). k - size * count) long ∙ apart size count all few

    rest : drop (size * count) bytes ≡ zeros (size * (all - count))
    rest = zero_records size (all - count) (drop (size * count) bytes) left
        (λ j lt. record_behind size count j bytes ∙ each (count + j) (omega arith) (omega arith))
