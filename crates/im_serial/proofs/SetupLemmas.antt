-- The blocks of a setup on a new image stand one behind another; and a script's setup comes first. (Own.)
use Rattle.std.proofs.Common.{◌≡◌, ℕ, zero, suc, ◌+◌, Bool, true, false, ◌⊎◌, List, [], ◌∷◌, ◌++◌, replicate}
use Rattle.std.proofs.Common.{if◌then◌else◌, ◌==◌, slice_index_or, Some, None, Ok, Option, option_map, sym, refl, ap}
use Rattle.std.proofs.Common.{◌∙◌, subst, inl, inr, arith}
use Rattle.std.{proofs.lemmas.Bool.Decides.nat_tests, specs.Option.option_map_or, specs.Option.option_or}
use Rattle.im_types.specs.Types.{Kind, BadLength, Tells, Empty, Held, begins_free, place, fill, only_tells, allocate_at}
use Rattle.im_types.specs.Types.{allocate}
use Rattle.im_laws.proofs.Tests.{some_same, true_false}
use Rattle.im_script.specs.declared.{Action.TheVariants.Alloc, Place.Place, Said.Said, ScriptLine.ScriptLine}
use Rattle.im_script.specs.declared.Heard.{Heard, TheVariants.Glances, TheVariants.Says as Spoken}
use Rattle.im_script.specs.declared.Said.TheVariants.{Asks, Begins, Block, Nothing}
use Rattle.im_script.specs.declared.script.Stage.{Stage, TheVariants.Part, TheVariants.Setup, TheVariants.Start}
use Rattle.im_script.specs.Grammar.{is_line, number_up_to, words_of}
use Rattle.im_script.specs.Lines.{action_of, glanced, named_block, part_number, starts_setup}
use Rattle.im_script.specs.Script.{begun_part, Draft, glance_at, glance_of, line_after, line_at, line_says as said_in}
use Rattle.im_script.specs.Script.{lines_of, new_draft, words_after}
use Rattle.im_serial.specs.Asked.{base_told, said_at, said_by, Wanted, wanted_by, wanted_in, wanted_of}

-- ---- cells that are taken from the first on

module _ {X : Type 0} where
  -- no cell is in a block
  abbrev pub AreFree : List (Option X) → Type 0
  AreFree [] = Unit {0}
  AreFree (None ∷ cells) = AreFree cells
  AreFree (Some x ∷ cells) = ⊥

  -- the first ones are in blocks, and no others
  abbrev pub ArePacked : ℕ → List (Option X) → Type 0
  ArePacked zero cells = AreFree cells
  ArePacked (suc end) [] = ⊥
  ArePacked (suc end) (None ∷ cells) = ⊥
  ArePacked (suc end) (Some x ∷ cells) = ArePacked end cells

  free_less : (n : ℕ) (cells : List (Option X)) → begins_free (suc n) cells ≡ true → begins_free n cells ≡ true
  free_less zero cells e = refl
  free_less (suc n) [] e = absurd (true_false (sym e))
  free_less (suc n) (None ∷ cells) e = free_less n cells e
  free_less (suc n) (Some x ∷ cells) e = absurd (true_false (sym e))

  free_more : (n : ℕ) (cells : List (Option X)) → begins_free n cells ≡ true → begins_free n (None ∷ cells) ≡ true
  free_more zero cells e = refl
  free_more (suc n) cells e = free_less n cells e

  -- too few are left
  place_short : (n : ℕ) (cells : List (Option X)) → AreFree cells → begins_free n cells ≡ false
      → place (suc n) cells ≡ None
  place_short n [] free short = refl
  place_short n (Some x ∷ cells) free short = absurd free
  place_short n (None ∷ cells) free short = by_test (begins_free n cells) refl (place_short n cells free)
    where
      by_test : (b : Bool) → begins_free n cells ≡ b → (begins_free n cells ≡ false → place (suc n) cells ≡ None)
          → place (suc n) (None ∷ cells) ≡ None
      by_test true e further = absurd (true_false (sym (free_more n cells e) ∙ short))
      by_test false e further = ap (λ (b : Bool). if b then Some 0 else option_map suc (place (suc n) cells)) e
          ∙ ap (option_map suc) (further e)

  filled : (n : ℕ) (cells : List (Option X)) (x : X) → AreFree cells → begins_free n cells ≡ true
      → ArePacked n (fill cells 0 n (Some x))
  filled zero [] x free e = tt
  filled zero (c ∷ cells) x free e = free
  filled (suc n) [] x free e = absurd (true_false (sym e))
  filled (suc n) (None ∷ cells) x free e = filled n cells x free e
  filled (suc n) (Some y ∷ cells) x free e = absurd free

  -- the next block stands behind them
  packed : (n end : ℕ) (cells : List (Option X)) (x : X) (base : ℕ) → ArePacked end cells
      → place (suc n) cells ≡ Some base
      → (base ≡ end) × ArePacked (end + suc n) (fill cells base (suc n) (Some x))
  packed n zero [] x base it is = absurd (cc)
  packed n zero (Some y ∷ cells) x base it is = absurd it
  packed n zero (None ∷ cells) x base it is = by_test (begins_free n cells) refl is
    where
      by_test : (b : Bool) → begins_free n cells ≡ b → (if b then Some 0 else option_map suc (place (suc n) cells))
          ≡ Some base → (base ≡ 0) × ArePacked (0 + suc n) (fill (None ∷ cells) base (suc n) (Some x))
      by_test true e first =
          let same : 0 ≡ base = some_same 0 base first in
          let all : ArePacked (suc n) (fill (None ∷ cells) 0 (suc n) (Some x)) = filled n cells x it e in
          let length_is : suc n ≡ 0 + suc n = omega arith in (
            sym same,
            subst (λ (k : ℕ). ArePacked k (fill (None ∷ cells) base (suc n) (Some x))) length_is
                (subst (λ (k : ℕ). ArePacked (suc n) (fill (None ∷ cells) k (suc n) (Some x))) same all),
          )
      by_test false e first =
          let none : option_map suc (place (suc n) cells) ≡ None = ap (option_map suc) (place_short n cells it e) in
          absurd (cc)
  packed n (suc end) [] x base it is = absurd it
  packed n (suc end) (None ∷ cells) x base it is = absurd it
  packed n (suc end) (Some y ∷ cells) x base it is = by_place (λ at. packed n end cells x at it)
      (place (suc n) cells) refl is
    where
      by_place : ((at : ℕ) → place (suc n) cells ≡ Some at → (at ≡ end) × ArePacked (end + suc n) (fill cells at (suc n)
          (Some x)))
          → (o : Option ℕ) → place (suc n) cells ≡ o → option_map suc o ≡ Some base → (base ≡ suc end)
          × ArePacked (suc end + suc n) (fill (Some y ∷ cells) base (suc n) (Some x))
      by_place behind None e first = absurd (cc)
      by_place behind (Some at) e first =
          let same : suc at ≡ base = some_same (suc at) base first in
          let further = behind at e in
          let sum_is : suc (end + suc n) ≡ suc end + suc n = omega arith in (
            sym same ∙ ap suc further.0,
            subst (λ (k : ℕ). ArePacked (suc end + suc n) (fill (Some y ∷ cells) k (suc n) (Some x))) same
                (subst (λ (k : ℕ). ArePacked k (Some y ∷ fill cells at (suc n) (Some x))) sum_is further.1),
          )

pub free_all : (X : Type 0) (n : ℕ) → AreFree {X = X} (replicate n None)
free_all X zero = tt
free_all X (suc n) = free_all X n

-- a block that was made on such cells
pub allocated : (cells : List (Option Held)) (kind : Kind) (n end : ℕ) (more : List ℕ) → ArePacked end cells
    → base_told (Ok (Tells (allocate cells kind n).entry)) ≡ Some more
    → (more ≡ end ∷ []) × ArePacked (end + n) (allocate cells kind n).cells
allocated cells kind zero end more it told = absurd (by_test (0 == 0) (grind (arith, nat_tests)) told)
  where
    by_test : (b : Bool) → b ≡ true → base_told (Ok (Tells (if b then only_tells cells BadLength else allocate_at cells
        kind 0 (place 0 cells)).entry)) ≡ Some more → ⊥
    by_test true e told = cc
    by_test false e told = true_false (sym e)
allocated cells kind (suc n) end more it told = by_test (suc n == 0) (grind (arith, nat_tests)) told
  where
    by_place : (o : Option ℕ) → place (suc n) cells ≡ o → base_told (Ok (Tells (allocate_at cells kind (suc n)
        o).entry)) ≡ Some more → (more ≡ end ∷ []) × ArePacked (end + suc n) (allocate_at cells kind (suc n) o).cells
    by_place None e told = absurd (cc)
    by_place (Some base) e told =
        let all = packed n end cells (record {
          block = record { base = base; length = suc n; kind = kind };
          state = Empty [];
        }) base it e in
        let same : base ∷ [] ≡ more = some_same (base ∷ []) more told in
        (sym same ∙ ap (λ (b : ℕ). b ∷ []) all.0, all.1)

    by_test : (b : Bool) → b ≡ false → base_told (Ok (Tells (if b then only_tells cells BadLength else allocate_at cells
        kind (suc n) (place (suc n) cells)).entry)) ≡ Some more
        → (more ≡ end ∷ []) × ArePacked (end + suc n) (if b then only_tells cells BadLength else allocate_at cells kind
        (suc n) (place (suc n) cells)).cells
    by_test true e told = absurd (true_false e)
    by_test false e told = by_place (place (suc n) cells) refl told

-- it answers nobody else
pub allocated_alone : (cells : List (Option Held)) (kind : Kind) (n : ℕ) → (allocate cells kind n).resumed ≡ []
allocated_alone cells kind n = by_test (n == 0)
  where
    by_place : (o : Option ℕ) → (allocate_at cells kind n o).resumed ≡ []
    by_place None = refl
    by_place (Some base) = refl

    by_test : (b : Bool) → (if b then only_tells cells BadLength else allocate_at cells kind n (place n cells)).resumed
        ≡ []
    by_test true = refl
    by_test false = by_place (place n cells)

-- ---- the setup comes first

-- it makes a block of the setup
pub record IsBlock (w : Wanted) : Type 0 where
  pub element : w.element ≡ 0
  pub named : w.named ≡ true
  pub kind : Kind
  pub length : ℕ
  pub action : w.action ≡ Alloc kind length

-- none of these makes one
abbrev pub AreUnnamed : List Wanted → Type 0
AreUnnamed [] = Unit {0}
AreUnnamed (w ∷ wanted) = (w.named ≡ false) × AreUnnamed wanted

-- only the first ones do
abbrev pub HasSetup : List Wanted → Type 0
HasSetup [] = Unit {0}
HasSetup (w ∷ wanted) = (IsBlock w × HasSetup wanted) ⊎ AreUnnamed (w ∷ wanted)

-- what a line may say, by where it stands
abbrev Says : Stage → Draft × Said → Type 0
Says (Part k) (next, Nothing) = (later : ℕ) × (next.stage ≡ Part later)
Says (Part k) (next, Begins element) = (later : ℕ) × (next.stage ≡ Part later)
Says (Part k) (next, Asks line) = (later : ℕ) × (next.stage ≡ Part later)
Says (Part k) (next, Block b) = ⊥
Says Start (next, Asks line) = ⊥
Says Setup (next, Asks line) = ⊥
Says stage (next, said) = Unit {0}

mapped : {A B : Type 0} (P : B → Type 0) (f : A → B) (o : Option A) (y : B) → option_map f o ≡ Some y
    → ((x : A) → P (f x)) → P y
mapped P f None y is each = absurd (cc)
mapped P f (Some x) y is each = subst P (some_same (f x) y is) (each x)

module _ (d : Draft) where
  quiet : (s : Stage) → d.stage ≡ s → Says s (d, Nothing)
  quiet Start is = tt
  quiet Setup is = tt
  quiet (Part k) is = (k, is)

  begins : (s : Stage) (number : List ℕ) (said : Draft × Said) → begun_part d number ≡ Some said → Says s said
  begins s number said is = mapped (Says s) (λ (k : ℕ). (record d { stage = Part k }, Begins k)) (number_up_to 63
      number) said is (by_stage s)
    where
      by_stage : (s : Stage) (k : ℕ) → Says s (record d { stage = Part k }, Begins k)
      by_stage Start k = tt
      by_stage Setup k = tt
      by_stage (Part j) k = (k, refl)

  line_says : (s : Stage) → d.stage ≡ s → (words : List (List ℕ)) (said : Draft × Said) → line_at d s words ≡ Some said
      → Says s said
  line_says Start at words said is = by_test (starts_setup words) is
    where
      by_test : (b : Bool) → (if b then Some (record d { stage = Setup }, Nothing) else None) ≡ Some said
          → Says Start said
      by_test true is = subst (Says Start) (some_same (record d { stage = Setup }, Nothing) said is) tt
      by_test false is = absurd (cc)
  line_says Setup at words said is = mapped (Says Setup) (λ b. (record d { names = d.names ++ b.0 ∷ [] }, Block b.1))
      (named_block d.names words) said is (λ b. tt)
  line_says (Part k) at words said is = mapped (Says (Part k)) (λ a. (d, Asks (record { element = k; action = a })))
      (action_of d.names words) said is (λ a. (k, at))

  words_say : (s : Stage) → d.stage ≡ s → (words : List (List ℕ)) (said : Draft × Said) → words_after d words
      ≡ Some said → Says s said
  words_say s at [] said is = subst (Says s) (some_same (d, Nothing) said is) (quiet s at)
  words_say s at (word ∷ words) said is = by_test (slice_index_or word 0 0 == 35) is
    where
      by_number : (o : Option (List ℕ)) → option_map_or (begun_part d) o (line_at d d.stage (word ∷ words)) ≡ Some said
          → Says s said
      by_number None is = line_says s at (word ∷ words) said (ap (λ (x : Stage). line_at d x (word ∷ words)) (sym at)
          ∙ is)
      by_number (Some number) is = begins s number said is

      by_test : (b : Bool) → (if b then Some (d, Nothing) else line_after d (word ∷ words)) ≡ Some said → Says s said
      by_test true is = subst (Says s) (some_same (d, Nothing) said is) (quiet s at)
      by_test false is = by_number (part_number (word ∷ words)) is

  pub says : (s : Stage) → d.stage ≡ s → (line : List ℕ) (said : Draft × Said) → said_in d line ≡ Some said
      → Says s said
  says s at line said is = by_test (is_line line) is
    where
      by_test : (b : Bool) → (if b then words_after d (words_of line) else None) ≡ Some said → Says s said
      by_test true is = words_say s at (words_of line) said is
      by_test false is = absurd (cc)

  -- a glance says nothing of requests
  not_said : (line : List ℕ) (x : Said) → glance_of d line ≡ Some (Spoken x) → ⊥
  not_said line x is = by_test (is_line line) is
    where
      by_place : (k : ℕ) (o : Option Place) → option_map (Glances k) o ≡ Some (Spoken x) → ⊥
      by_place k None is = absurd (cc)
      by_place k (Some there) is = absurd (cc)

      by_stage : (s : Stage) → glance_at d s (words_of line) ≡ Some (Spoken x) → ⊥
      by_stage Start is = absurd (cc)
      by_stage Setup is = absurd (cc)
      by_stage (Part k) is = by_place k (glanced d.names (words_of line)) is

      by_test : (b : Bool) → (if b then glance_at d d.stage (words_of line) else None) ≡ Some (Spoken x) → ⊥
      by_test true is = by_stage d.stage is
      by_test false is = absurd (cc)

  pub says_at : (s : Stage) → d.stage ≡ s → (line : List ℕ) (said : Draft × Said) → said_at d line ≡ Some said
      → Says s said
  says_at s at line said is = by_glance (glance_of d line) refl is
    where
      by_line : (o : Option (Draft × Said)) → said_in d line ≡ o
          → option_map (λ (r : Draft × Heard). (r.0, said_by r.1)) (option_map (λ (r : Draft × Said). (r.0, Spoken r.1))
          o) ≡ Some said → Says s said
      by_line None e is = absurd (cc)
      by_line (Some (next, x)) e is = says s at line said (e ∙ is)

      by_glance : (g : Option Heard) → glance_of d line ≡ g → option_map
          (λ (r : Draft × Heard). (r.0, said_by r.1)) (option_or (option_map (λ (h : Heard). (d, h)) g) (option_map
          (λ (r : Draft × Said). (r.0, Spoken r.1)) (said_in d line))) ≡ Some said
          → Says s said
      by_glance None e is = by_line (said_in d line) refl is
      by_glance (Some (Glances k there)) e is = subst (Says s) (some_same (d, Nothing) said is) (quiet s at)
      by_glance (Some (Spoken x)) e is = absurd (not_said line x e)

-- behind the setup
unnamed_in : (lines : List (List ℕ)) (d : Draft) (k : ℕ) → d.stage ≡ Part k → AreUnnamed (wanted_in d lines)
unnamed_in [] d k at = tt
unnamed_in (line ∷ lines) d k at = by_line (unnamed_in lines) (said_at d line) refl
  where
    by_line : ((next : Draft) (later : ℕ) → next.stage ≡ Part later → AreUnnamed (wanted_in next lines))
        → (o : Option (Draft × Said)) → said_at d line ≡ o
        → AreUnnamed (option_map_or (λ r. wanted_by r.1 ++ wanted_in r.0 lines) o [])
    by_line behind None e = tt
    by_line behind (Some (next, Nothing)) e = let it = says_at d (Part k) at line (next, Nothing) e in
        behind next it.0 it.1
    by_line behind (Some (next, Begins element)) e = let it = says_at d (Part k) at line (next, Begins element) e in
        behind next it.0 it.1
    by_line behind (Some (next, Asks l)) e = let it = says_at d (Part k) at line (next, Asks l) e in
        (refl, behind next it.0 it.1)
    by_line behind (Some (next, Block b)) e = absurd (says_at d (Part k) at line (next, Block b) e)

unnamed_setup : (wanted : List Wanted) → AreUnnamed wanted → HasSetup wanted
unnamed_setup [] none = tt
unnamed_setup (w ∷ wanted) none = inr none

setup_in : (lines : List (List ℕ)) (d : Draft) → HasSetup (wanted_in d lines)
setup_in [] d = tt
setup_in (line ∷ lines) d = by_stage (setup_in lines) d.stage refl
  where
    by_early : ((next : Draft) → HasSetup (wanted_in next lines)) → (s : Stage) → d.stage ≡ s → ((next : Draft) (l :
        ScriptLine) → Says s (next, Asks l) → ⊥) → (o : Option (Draft × Said)) → said_at d line ≡ o
        → HasSetup (option_map_or (λ r. wanted_by r.1 ++ wanted_in r.0 lines) o [])
    by_early behind s at never None e = tt
    by_early behind s at never (Some (next, Nothing)) e = behind next
    by_early behind s at never (Some (next, Begins element)) e = behind next
    by_early behind s at never (Some (next, Asks l)) e = absurd (never next l (says_at d s at line (next, Asks l) e))
    by_early behind s at never (Some (next, Block b)) e = inl (
      record { element = refl; named = refl; kind = b.kind; length = b.length; action = refl },
      behind next,
    )

    by_stage : ((next : Draft) → HasSetup (wanted_in next lines)) → (s : Stage) → d.stage ≡ s
        → HasSetup (wanted_in d (line ∷ lines))
    by_stage behind Start at = by_early behind Start at (λ next l it. it) (said_at d line) refl
    by_stage behind Setup at = by_early behind Setup at (λ next l it. it) (said_at d line) refl
    by_stage behind (Part k) at = unnamed_setup (wanted_in d (line ∷ lines)) (unnamed_in (line ∷ lines) d k at)

-- of each script
pub setup_first : (text : List ℕ) → HasSetup (wanted_of text)
setup_first text = setup_in (lines_of text) new_draft
