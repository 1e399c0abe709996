-- What is told of the bytes of an area, and that it was written. (Own.)
use Rattle.std.proofs.Common.{◌≡◌, ℕ, suc, ◌+◌, ◌*◌, ◌≤◌, Bool, true, false, ◌⊎◌, ◌↔◌, List, [], ◌++◌, length, drop}
use Rattle.std.proofs.Common.{IfSome, if◌then◌else◌, OnOk, IsSome, nat_lt, Some, None, Ok, Err, Option, Result}
use Rattle.std.proofs.Common.{option_map, sym, refl, ap, ◌∙◌, subst, ap₂, inl, inr, append_assoc, append-nil, arith}
use Rattle.std.proofs.Common.{rules}
use Rattle.std.{proofs.lemmas.Bool.Decides.nat_tests, specs.Io.KnownBytes.Appends, specs.Option.option_or}
use Rattle.im_types.specs.Types.{Refusal, Device, NoMemory, Layout, layout_named, page_bytes, node_count, cell_pages}
use Rattle.im_types.specs.Types.{node_pages, Header, header_in, spells_header, header_place, layout_in, Reads}
use Rattle.im_text.specs.Texts.{texts_below}
use Rattle.im_dump.{proofs.WritingLemmas.joined, specs.Dump.head_lines, specs.Dump.last_line}
use Rattle.im_dump.specs.Salvage.{area_line, best_header, best_of, is_second_first, Salvages, spelled_header, TellsArea}
use Rattle.im_dump.specs.Salvage.{TellsFile, TellsWindow, TellsWindows, told_cell, told_node}

-- no window is told yet
pub none_told : (l : Layout) (part : List ℕ) (start : List ℕ)
    → (text : List ℕ) × TellsWindows l part 0 text × (start ≡ start ++ text)
unfolding TellsWindows
none_told l part start = ([], refl, sym (append-nil start))

-- one window more
told_more : (l : Layout) (part : List ℕ) (n : ℕ) (before more : List ℕ) → TellsWindows l part n before
    → TellsWindow l part n more → TellsWindows l part (suc n) (before ++ more)
unfolding TellsWindows
told_more l part n before more told one = (before, more, told, one, refl)

-- the same, written
pub one_told_more : (l : Layout) (part : List ℕ) (n : ℕ) (start was now : List ℕ)
    → ((text : List ℕ) × TellsWindows l part n text × (was ≡ start ++ text))
    → ((text : List ℕ) × TellsWindow l part n text × (now ≡ was ++ text))
    → (text : List ℕ) × TellsWindows l part (n + 1) text × (now ≡ start ++ text)
one_told_more l part n start was now (before, told, is) (more, one, added) =
    let next : suc n ≡ n + 1 = omega arith in (
      before ++ more,
      subst (λ (k : ℕ). TellsWindows l part k (before ++ more)) next (told_more l part n before more told one),
      added ∙ ap (λ xs. xs ++ more) is ∙ append_assoc start before more,
    )

-- the header that is found at the places is that of a file with room for them
pub best_found : (file zero one : List ℕ) (found : Option Header) → 8192 ≤ length file → zero ≡ header_place 0 file
    → one ≡ header_place 1 file → found ≡ best_of zero one → found ≡ best_header file
best_found file zero one found room is_zero is_one is =
    let long : nat_lt (length file) 8192 ≡ false = grind (arith, nat_tests) in
    is ∙ ap (λ zero. best_of zero one) is_zero ∙ ap (λ one. best_of (header_place 0 file) one) is_one
    ∙ sym (ap (λ test. if test then None else best_of (header_place 0 file) (header_place 1 file)) long)

no_some : (A : Type 0) → IsSome {T = A} None → ⊥
no_some A some = search rules

none_spelled : (test : Bool) (h : Header) → (test ≡ true → ⊥) → None ≡ (if test then Some h else None)
none_spelled true h never = absurd (never refl)
none_spelled false h never = refl

-- a header that was read is the one that is spelled
pub spelled_is : {H : Type 0} (see : H → Header) (number : ℕ) (bytes : List ℕ) (read : Option H)
    → IfSome read (λ h. see h ≡ header_in bytes)
    → (IsSome read ↔ (spells_header (layout_named (header_in bytes).version) number bytes ≡ true))
    → option_map see read ≡ spelled_header number bytes
spelled_is see number bytes (Some h) found only =
    ap Some found ∙ sym (ap (λ test. if test then Some (header_in bytes) else None) (only.0 refl))
spelled_is {H} see number bytes None found only =
    none_spelled _ (header_in bytes) (λ spelled. no_some H (only.1 spelled))

map_or : {A B : Type 0} (f : A → B) (x y : Option A)
    → option_map f (option_or x y) ≡ option_or (option_map f x) (option_map f y)
map_or f None y = refl
map_or f (Some x) y = refl

module _ {H : Type 0} (see : H → Header) (x y r : Option H) (zero one : List ℕ)
    (first : option_map see x ≡ spelled_header 0 zero) (second : option_map see y ≡ spelled_header 1 one) where
  -- the second of two headers comes first
  pub second_chosen : r ≡ option_or y x → is_second_first zero one ≡ true → option_map see r ≡ best_of zero one
  second_chosen is test =
      ap (option_map see) is ∙ map_or see y x ∙ ap₂ option_or second first
      ∙ sym (ap (λ test. if test then option_or (spelled_header 1 one) (spelled_header 0 zero)
      else option_or (spelled_header 0 zero) (spelled_header 1 one)) test)

  -- the first one does
  pub first_chosen : r ≡ option_or x y → is_second_first zero one ≡ false → option_map see r ≡ best_of zero one
  first_chosen is test =
      ap (option_map see) is ∙ map_or see x y ∙ ap₂ option_or first second
      ∙ sym (ap (λ test. if test then option_or (spelled_header 1 one) (spelled_header 0 zero)
      else option_or (spelled_header 0 zero) (spelled_header 1 one)) test)

-- ---- the whole

-- the parts of what an area says, written one after another
pub area_told : {T E : Type 0} (r : Result T E) (h : Header) (area : List ℕ) (l : Layout) (nodes windows : List ℕ)
    (many : ℕ) (start one two three four five six : List ℕ) → l ≡ layout_named h.version
    → nodes ≡ drop (page_bytes * cell_pages h.sizes) area → windows ≡ drop (page_bytes * node_pages l h.sizes) nodes
    → many ≡ node_count l h.sizes → one ≡ start ++ area_line h.area → two ≡ one ++ head_lines h.sizes h.count
    → three ≡ two ++ texts_below (told_cell area) h.sizes.cells → four ≡ three ++ texts_below (told_node nodes) many
    → ((text : List ℕ) × TellsWindows l windows h.sizes.elements text × (five ≡ four ++ text))
    → OnOk r (six ≡ five ++ last_line)
    → OnOk r ((text : List ℕ) × TellsArea h area text × (six ≡ start ++ text))
area_told (Ok x) h area l nodes windows many start one two three four five six layout at behind count i ii iii iv
    (text, told, v) vi =
    let s = h.sizes in
    let here = subst (λ (w : List ℕ). TellsWindows l w s.elements text) behind told in
    let there = subst (λ (n : List ℕ). TellsWindows l (drop (page_bytes * node_pages l s) n) s.elements text) at here in
    let told_so = subst (λ (k : Layout). TellsWindows k (drop (page_bytes * node_pages k s)
    (drop (page_bytes * cell_pages s) area)) s.elements text) layout there in
    let of_nodes : texts_below (told_node nodes) many
    ≡ texts_below (told_node (drop (page_bytes * cell_pages s) area)) (node_count (layout_named h.version) s)
    = ap₂ (λ (part : List ℕ) (n : ℕ). texts_below (told_node part) n) at
    (count ∙ ap (λ (k : Layout). node_count k s) layout) in
    let a = area_line h.area in
    let b = a ++ head_lines s h.count in
    let c = b ++ texts_below (told_cell area) s.cells in
    let part = drop (page_bytes * cell_pages s) area in
    let d = c ++ texts_below (told_node part) (node_count (layout_named h.version) s) in
    let e = d ++ text in (
      e ++ last_line,
      record { windows = text; told = told_so; is = refl },
      joined start e last_line (joined start d text (joined start c _ (joined start b _ (joined start a _ i ii) iii)
          (iv ∙ ap (λ xs. three ++ xs) of_nodes)) v) vi,
    )
area_told (Err x) h area l nodes windows many start one two three four five six layout at behind count i ii iii iv told
    vi = tt

-- what a fault is, if the disk is honest
fault_is : {A B R H : Type 0} → H → A ⊎ B ⊎ (H → R) → A ⊎ B ⊎ R
fault_is honest (inl a) = inl a
fault_is honest (inr (inl b)) = inr (inl b)
fault_is honest (inr (inr reads)) = inr (inr (reads honest))

-- a file was told of behind a refusal, whose bytes stayed
pub salvaged : {H : Type 0} (fault : Refusal) (file read : List ℕ) (was now : Option (List ℕ)) → H → read ≡ file
    → (fault ≡ NoMemory) ⊎ (fault ≡ Device) ⊎ (H → Reads (layout_in file) file (Err fault))
    → ((text : List ℕ) × TellsFile (best_header read) read text × Appends was now text) → Salvages file fault was now
salvaged fault file read was now honest same why (text, tells, added) = record {
  why = fault_is honest why;
  text = text;
  tells = subst (λ (file : List ℕ). TellsFile (best_header file) file text) same tells;
  added = added;
}
