-- A session record, place by place.
use Rattle.std.proofs.Common.{◌≡◌, ℕ, zero, suc, ◌+◌, ◌-◌, ◌*◌, ◌%◌, ◌<◌, ◌≤◌, List, [], ◌∷◌, ◌++◌, length, take, drop}
use Rattle.std.proofs.Common.{replicate, slice_get, slice_index, slice_range, Some, None, sym, refl, ap, ◌∙◌, subst}
use Rattle.std.proofs.Common.{append_assoc, append-nil, add-one, arith, length-append, take_all, drop-drop, take_at}
use Rattle.std.proofs.Common.{drop_at}
use Rattle.byteorder.specs.{Endian.little_bytes, Endian.little_number, Numbers.little_number-reads_back}
use Rattle.std.proofs.lemmas.List.{drop-replicate, length-replicate, replicate-append-replicate}
use Rattle.im_types.specs.Types.{Kept, LAST, Window, Version, One, Two, Layout, layout_of, session_record_bytes, zeros}
use Rattle.im_types.specs.Types.{place_bytes, FitsPlace, entry_at, places_from, session_bytes}
use Rattle.im_formats.{proofs.Places.read_place-spelled, specs.Reading.read_place}
use Rattle.im_formats.proofs.Sessions.{fits_at, place_of_session, ring_of_version}
use Rattle.im_records.proofs.Reading.{length-place, none_some, some_inj}
use Rattle.im_records.specs.{Entries.FitEntries, Entries.SpellsSession, Placed.placed}

-- the bytes of a page behind the head of a session record
abbrev pub behind_head : ℕ
behind_head = 4064

-- one place more
places-more : (n : ℕ) (w : Window) (start i : ℕ) → places_from n w start (replicate (suc i) 0)
    ≡ places_from n w start (replicate i 0) ++ place_bytes (entry_at n w (start + i))
places-more n w start zero = append-nil (place_bytes (entry_at n w start))
    ∙ ap (λ (k : ℕ). place_bytes (entry_at n w k)) (same start)
  where
    same : (k : ℕ) → k ≡ k + 0
    same k = omega arith
places-more n w start (suc i) =
    ap (λ (l : List ℕ). place_bytes (entry_at n w start) ++ l) (places-more n w (start + 1) i)
    ∙ sym (append_assoc (place_bytes (entry_at n w start)) (places_from n w (start + 1) (replicate i 0))
    (place_bytes (entry_at n w (start + 1 + i))))
    ∙ ap (λ (k : ℕ). (place_bytes (entry_at n w start) ++ places_from n w (start + 1) (replicate i 0)) ++ place_bytes
    (entry_at n w k)) (same start i)
  where
    same : (k m : ℕ) → k + 1 + m ≡ k + suc m
    same k m = omega arith

length-places : (n : ℕ) (w : Window) (start i : ℕ) → length (places_from n w start (replicate i 0)) ≡ 32 * i
length-places n w start zero = refl
length-places n w start (suc i) =
    length-append (place_bytes (entry_at n w start)) (places_from n w (start + 1) (replicate i 0))
    ∙ sums i (length-place (entry_at n w start)) (length-places n w (start + 1) i)
  where
    sums : {a b : ℕ} (m : ℕ) → a ≡ 32 → b ≡ 32 * m → a + b ≡ 32 * suc m
    sums m e f = omega arith

-- a part put behind others, where there are zeros
pub placed_behind : (front part bytes after : List ℕ) (at many : ℕ) → length front ≡ at → bytes ≡ front ++ zeros many
    → after ≡ placed at part bytes → after ≡ (front ++ part) ++ zeros (many - length part)
placed_behind front part bytes after at many long is put =
    put
    ∙ ap (placed at part) is
    ∙ ap (λ (l : List ℕ). l ++ part ++ drop (at + length part) (front ++ zeros many))
    (take_at front (zeros many) at long)
    ∙ ap (λ (l : List ℕ). front ++ part ++ l)
    (sym (drop-drop (length part) at (front ++ zeros many))
    ∙ ap (drop (length part)) (drop_at front (zeros many) at long)
    ∙ drop-replicate (length part) many 0)

pub place_more : (n : ℕ) (w : Window) (head before after part : List ℕ) (i : ℕ) → length head ≡ 32 → before
    ≡ head ++ places_from n w 0 (replicate i 0) ++ zeros (behind_head - 32 * i) → part ≡ place_bytes (entry_at n w i)
    → after ≡ placed (32 + 32 * i) part before → after
    ≡ head ++ places_from n w 0 (replicate (i + 1) 0) ++ zeros (behind_head - 32 * (i + 1))
place_more n w head before after part i long is spelled put =
    placed_behind front part before after (32 + 32 * i) (behind_head - 32 * i) front_long is put
    ∙ ap (λ (k : ℕ). (front ++ part) ++ zeros k) (left part_long)
    ∙ ap (λ (l : List ℕ). (front ++ l) ++ zeros (behind_head - 32 * (i + 1))) spelled
    ∙ ap (λ (l : List ℕ). l ++ zeros (behind_head - 32 * (i + 1)))
    (append_assoc head (places_from n w 0 (replicate i 0)) (place_bytes (entry_at n w i)))
    ∙ ap (λ (l : List ℕ). (head ++ l) ++ zeros (behind_head - 32 * (i + 1)))
    (ap (λ (k : ℕ). places_from n w 0 (replicate i 0) ++ place_bytes (entry_at n w k)) (sym (none_more i))
    ∙ sym (places-more n w 0 i) ∙ ap (λ (k : ℕ). places_from n w 0 (replicate k 0)) (next i))
  where
    front : List ℕ
    front = head ++ places_from n w 0 (replicate i 0)

    front_long : length front ≡ 32 + 32 * i
    front_long = length-append head (places_from n w 0 (replicate i 0)) ∙ both long (length-places n w 0 i)
      where
        both : {a b : ℕ} → a ≡ 32 → b ≡ 32 * i → a + b ≡ 32 + 32 * i
        both e f = omega arith

    part_long : length part ≡ 32
    part_long = ap length spelled ∙ length-place (entry_at n w i)

    left : {a : ℕ} → a ≡ 32 → behind_head - 32 * i - a ≡ behind_head - 32 * (i + 1)
    left e = omega arith

    none_more : (k : ℕ) → 0 + k ≡ k
    none_more k = omega arith

    next : (k : ℕ) → suc k ≡ k + 1
    next k = omega arith

-- all places, with zeros to the page's end, are a session record with zeros behind it
pub all_places : (l : Layout) (w : Window) (k : ℕ) → 1 ≤ l.window → l.window ≤ 64 → k ≡ l.window
    → (little_bytes 8 w.base ++ length w.kept ∷ zeros 23) ++ places_from l.window w 0 (replicate k 0) ++ zeros
    (behind_head - 32 * k) ≡ session_bytes l w ++ zeros (4096 - session_record_bytes l)
all_places l w k some few is =
    ap (λ (m : ℕ). (little_bytes 8 w.base ++ length w.kept ∷ zeros 23) ++ places_from l.window w 0
    (replicate m 0) ++ zeros (behind_head - 32 * m)) is
    ∙ ap (λ (z : List ℕ). front ++ z)
    (ap zeros (sums l.window some few)
    ∙ sym (replicate-append-replicate (32 * l.window - 32) (4096 - 64 * l.window) 0))
    ∙ sym (append_assoc front (zeros (32 * l.window - 32)) (zeros (4096 - 64 * l.window)))
  where
    front : List ℕ
    front = (little_bytes 8 w.base ++ length w.kept ∷ zeros 23) ++ places_from l.window w 0 (replicate l.window 0)

    sums : (n : ℕ) → 1 ≤ n → n ≤ 64 → behind_head - 32 * n ≡ (32 * n - 32) + (4096 - 64 * n)
    sums n one most = omega arith

-- reading
turn : (version : Version) (base past : ℕ) → past < (layout_of version).window
    → ((base % (layout_of version).window + past) % (layout_of version).window + (layout_of version).window - base %
    (layout_of version).window) % (layout_of version).window ≡ past
turn One base past lt = omega arith
turn Two base past lt = omega arith

piece : (bytes : List ℕ) (place : ℕ) → slice_range bytes (32 + 32 * place) (64 + 32 * place)
    ≡ take 32 (drop (32 * place) (drop 32 bytes))
piece bytes place = ap (λ (k : ℕ). take k (drop (32 + 32 * place) bytes)) (size place)
    ∙ ap (take 32) (sym (drop-drop (32 * place) 32 bytes))
  where
    size : (p : ℕ) → 64 + 32 * p - (32 + 32 * p) ≡ 32
    size p = omega arith

-- so many numbers past the base stands the entry
pub entry_is_read : (version : Version) (bytes : List ℕ) (w : Window) (base past place : ℕ)
    → past < (layout_of version).window → SpellsSession (layout_of version) bytes w → base ≡ w.base
    → place ≡ (base % (layout_of version).window + past) % (layout_of version).window
    → place < (layout_of version).window
    → read_place (slice_range bytes (32 + 32 * place) (64 + 32 * place)) ≡ Some (slice_get w.kept past)
entry_is_read version bytes w base past place lt spells is at below =
    ap read_place
    (piece bytes place
    ∙ ap (λ (l : List ℕ). take 32 (drop (32 * place) (drop 32 l))) spells.is
    ∙ place_of_session l (ring_of_version version) w place below
    ∙ ap (λ (k : ℕ). place_bytes (slice_get w.kept k))
    (ap (λ (b : ℕ). (place + l.window - b % l.window) % l.window) (sym is)
    ∙ ap (λ (p : ℕ). (p + l.window - base % l.window) % l.window) at ∙ turn version base past lt))
    ∙ read_place-spelled (slice_get w.kept past) (fits_at l (ring_of_version version) w spells.fits past)
  where
    l : Layout
    l = layout_of version

pub base_is_read : (l : Layout) (bytes : List ℕ) (w : Window) → SpellsSession l bytes w
    → little_number 8 (take 8 bytes) ≡ w.base
base_is_read l bytes w spells =
    let small : w.base ≤ LAST + 1 = spells.fits.base_to in
    ap (λ (l : List ℕ). little_number 8 (take 8 l)) spells.is ∙ little_number-reads_back 8 w.base [] (omega arith)

pub count_is_read : (l : Layout) (bytes : List ℕ) (w : Window) → SpellsSession l bytes w → slice_index bytes 8
    ≡ length w.kept
count_is_read l bytes w spells = ap (λ (l : List ℕ). slice_index l 8) spells.is

pub length-session : (l : Layout) → 1 ≤ l.window → (w : Window) → length (session_bytes l w) ≡ session_record_bytes l
length-session l some w = sums (length-append front (zeros (32 * l.window - 32))) (length-append head places)
    (length-places l.window w 0 l.window) (length-replicate (32 * l.window - 32) 0)
  where
    head : List ℕ
    head = little_bytes 8 w.base ++ length w.kept ∷ zeros 23

    places : List ℕ
    places = places_from l.window w 0 (replicate l.window 0)

    front : List ℕ
    front = head ++ places

    sums : {a b c d : ℕ} → a ≡ d + c → d ≡ 32 + b → b ≡ 32 * l.window → c ≡ 32 * l.window - 32 → a ≡ 64 * l.window
    sums e h f g = omega (arith, some)

-- a session record at the beginning of as many bytes as the largest one has
pub first_bytes : (l : Layout) → 1 ≤ l.window → (w : Window) (spelled : List ℕ) (many : ℕ) → spelled
    ≡ session_bytes l w ++ zeros many → take (session_record_bytes l) spelled ≡ session_bytes l w
first_bytes l some w spelled many is = ap (take (session_record_bytes l)) is
    ∙ take_at (session_bytes l w) (zeros many) (session_record_bytes l) (length-session l some w)

-- lists of entries
pub none_within : (xs : List Kept) (i : ℕ) → i < length xs → None ≡ slice_get xs i → ⊥
none_within [] i lt e = omega arith
none_within (x ∷ xs) zero lt e = none_some x e
none_within (x ∷ xs) (suc i) lt e = none_within xs i (omega arith) e

take_suc : (xs : List Kept) (i : ℕ) (k : Kept) → Some k ≡ slice_get xs i → take i xs ++ k ∷ [] ≡ take (suc i) xs
take_suc [] i k e = absurd (none_some k (sym e))
take_suc (x ∷ xs) zero k e = ap (λ (y : Kept). y ∷ []) (some_inj k x e)
take_suc (x ∷ xs) (suc i) k e = ap (λ (l : List Kept). x ∷ l) (take_suc xs i k e)

pub take_more : (xs : List Kept) (i : ℕ) (k : Kept) → Some k ≡ slice_get xs i → take i xs ++ k ∷ [] ≡ take (i + 1) xs
take_more xs i k e = take_suc xs i k e ∙ ap (λ (n : ℕ). take n xs) (sym (add-one i))

pub one_longer : (v w : Window) (k : Kept) (n : ℕ) → v ≡ record { base = w.base; kept = w.kept ++ k ∷ [] }
    → length w.kept ≡ n → length v.kept ≡ n + 1
one_longer v w k n pushed long = ap (λ (x : Window). length x.kept) pushed ∙ length-append w.kept (k ∷ [])
    ∙ ap (λ (m : ℕ). m + 1) long

pub whole_window : (v w : Window) (count : ℕ) → v.base ≡ w.base → v.kept ≡ take count w.kept → length w.kept ≤ count
    → Some v ≡ Some w
whole_window v w count base kept long =
    let all : v.kept ≡ w.kept = kept ∙ take_all count w.kept long in
    (λ i. Some (record { base = base i; kept = all i }))

-- many copies of an entry that fits
pub fit_copies : (n : ℕ) (k : Kept) → FitsPlace (Some k) → FitEntries (replicate n k)
fit_copies zero k fits i x at = absurd (none_some x at)
fit_copies (suc n) k fits zero x at = subst (λ (e : Kept). FitsPlace (Some e)) (some_inj k x at) fits
fit_copies (suc n) k fits (suc i) x at = fit_copies n k fits i x at

-- a ring has a place
pub has_place : (version : Version) → 1 ≤ (layout_of version).window
has_place One = omega arith
has_place Two = omega arith
