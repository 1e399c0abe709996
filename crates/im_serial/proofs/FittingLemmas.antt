-- A script is compared with what a memory has of it. (Own.)
use Rattle.std.proofs.Common.{◌≡◌, ℕ, ◌<◌, ◌≤◌, true, false, List, [], ◌∷◌, ◌++◌, length, slice_get, Some, None, Option}
use Rattle.std.proofs.Common.{sym, ap, ◌∙◌, subst, append_assoc, append-nil, Bor}
use Rattle.std.specs.Option.{option_map_or}
use Rattle.im_types.specs.Types.{Mismatch, Window, Contents}
use Rattle.im_script.specs.{declared.Said.Said, Script.Draft, Script.lines_of}
use Rattle.im_text.specs.declared.Reason.{Reason, TheVariants.Request}
use Rattle.im_serial.proofs.OnceLemmas.{line_wanted}
use Rattle.im_serial.specs.Asked.{said_at, Wanted, wanted_by, wanted_in}
use Rattle.im_serial.specs.{Fitting.Compared, Fitting.fits_from, Had.left_of, Had.met_all}

-- ---- lines

module _ (m : Contents) (all : List Wanted) (first start : List ℕ) (from : ℕ) (many bases : List ℕ) (end : ℕ) (d next :
    Draft) (said : Said) (text line : List ℕ) (behind : Option (Bor (List ℕ)))
    (lines : lines_of text ≡ line ∷ option_map_or (λ rest. lines_of rest.now) behind [])
    (read : said_at d line ≡ Some (next, said))
    (so_far : Compared m first start from all many bases end (wanted_in d (lines_of text))) where
  there : (rest : List Wanted) → wanted_in d (lines_of text) ++ rest ≡ wanted_by said ++ (option_map_or (λ rest.
      wanted_in next (lines_of rest.now)) behind [] ++ rest)
  there rest = ap (λ (l : List Wanted). l ++ rest) (line_wanted d next said text line behind lines read)
      ∙ append_assoc (wanted_by said) (option_map_or (λ rest. wanted_in next (lines_of rest.now)) behind []) rest

  pub line_compared : (later with_them : List ℕ) (end_then : ℕ) → Compared m many bases end (wanted_by said) later
      with_them end_then [] → Compared m first start from all later with_them end_then (option_map_or (λ rest. wanted_in
      next (lines_of rest.now)) behind [])
  line_compared later with_them end_then one = λ rest.
      let left = option_map_or (λ rest. wanted_in next (lines_of rest.now)) behind [] in (
        (so_far rest).0 ∙ ap (fits_from m many bases end) (there rest) ∙ (one (left ++ rest)).0,
        (so_far rest).1 ∙ ap (met_all many) (there rest) ∙ (one (left ++ rest)).1,
      )

  pub line_wrong : (reason : Reason) → ((rest : List Wanted) (e : ℕ) → reason ≡ Request e Mismatch → fits_from m many
      bases end (wanted_by said ++ rest) ≡ false) → (e : ℕ) → reason ≡ Request e Mismatch → fits_from m first start from
      all ≡ false
  line_wrong reason wrong e is =
      let left = option_map_or (λ rest. wanted_in next (lines_of rest.now)) behind [] in
      ap (fits_from m first start from) (sym (append-nil all)) ∙ (so_far []).0 ∙ ap (fits_from m many bases end) (there
      []) ∙ wrong (left ++ []) e is

pub compared_none : (F : Bor (List ℕ) → List Wanted) (m : Contents) (all : List Wanted) (first start : List ℕ) (from :
    ℕ)
    (many bases : List ℕ) (end : ℕ) (rest : Option (Bor (List ℕ))) → rest ≡ None
    → Compared m first start from all many bases end (option_map_or F rest [])
    → (fits_from m first start from all ≡ true) × (many ≡ met_all first all)
compared_none F m all first start from many bases end rest none it =
    let done = subst (λ (o : Option (Bor (List ℕ))). Compared m first start from all many bases end (option_map_or F o
    [])) none it in (
      ap (fits_from m first start from) (sym (append-nil all)) ∙ (done []).0,
      sym (ap (met_all first) (sym (append-nil all)) ∙ (done []).1),
    )

-- what holds of the rest holds of its text
of_text : (P : List Wanted → Type 0) (F : Bor (List ℕ) → List Wanted) (rest : Option (Bor (List ℕ)))
    (text : Bor (List ℕ)) → rest ≡ Some text → P (option_map_or F rest []) → P (F text)
of_text P F rest text some it = subst (λ (o : Option (Bor (List ℕ))). P (option_map_or F o [])) some it

pub compared_some : (F : Bor (List ℕ) → List Wanted) (m : Contents) (all : List Wanted) (first start : List ℕ) (from :
    ℕ)
    (many bases : List ℕ) (end : ℕ) (rest : Option (Bor (List ℕ))) (text : Bor (List ℕ)) → rest ≡ Some text
    → Compared m first start from all many bases end (option_map_or F rest [])
    → Compared m first start from all many bases end (F text)
compared_some F m all first start from many bases end rest text some it = of_text
    (Compared m first start from all many bases end) F rest text some it

-- ---- where windows begin

-- the windows of the first elements begin within the script
abbrev pub AreWithin : Contents → List ℕ → ℕ → Type 0
AreWithin m behind upto = (element : ℕ) (w : Window) → element < upto → slice_get m.windows element ≡ Some w
    → left_of behind element ≤ length w.kept
