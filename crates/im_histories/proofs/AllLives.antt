-- A law of each cell holds of all lives of blocks of its kind, from the empty memory on.
use Rattle.std.proofs.Common.{◌≡◌, ℕ, zero, suc, ◌+◌, ◌<◌, ◌≤◌, Bool, true, false, cond, ◌⊎◌, List, [], ◌∷◌, ◌++◌}
use Rattle.std.proofs.Common.{replicate, ◌==◌, Some, None, Option, option_map, sym, refl, ap, ◌∙◌, subst, inl, inr}
use Rattle.std.proofs.Common.{arith, get_or-set_same}
use Rattle.std.proofs.lemmas.{Bool.Decides.nat_tests, Option.IfSome_then, Option.none-some, Option.same_Some}
use Rattle.std.specs.List.{AllByRecursion}
use Rattle.im_types.specs.Types.{Kind, Op, Waiter, Block, Alloc, Release, Reset, Fetch, Store, Take, Put, BadLength}
use Rattle.im_types.specs.Types.{Request, Command, Empty, Held, Contents, held_at, block_at, empty_contents, place}
use Rattle.im_types.specs.Types.{Acted, only_tells, new_cell, allocate_at, allocate, emptied, act, asker, step, Event}
use Rattle.im_types.specs.Types.{events, releases, clears, until_end, Life, life_of, lives_by_reset, lives_from, lives}
use Rattle.im_types.specs.Types.{lawful_entry, EachAfter, IsLawfulLife}
use Rattle.{im_types.proofs.Tests.true_false, im_laws.proofs.Tests.or_right}
use Rattle.im_histories.proofs.{CellLaw.CellLaw, EndEntry.ends-later, ListLemmas.all_append, ListLemmas.all_map}
use Rattle.im_histories.proofs.CellStep.{Clears, Frees, Meets, meets, Passes, serve_op, Serves}
use Rattle.im_histories.proofs.Given.{empty-agrees, get_or-fill_in, held_at-within, place-fits}
use Rattle.im_histories.proofs.Life.{EndsAsSaid, IsAt, life_lawful}
use Rattle.im_histories.proofs.OneStep.{Asked, contents_of, event_for, IsSound, Silent, sound-step, Takes}
use Rattle.im_histories.proofs.OneStep.{takes_command}

abbrev blocks_of : Option Held → Option Block
blocks_of o = option_map (λ (held : Held). held.block) o

-- a cell of a new block, or of one that was emptied
abbrev fresh_cell : Kind → ℕ → ℕ → Held
fresh_cell k base n = record { block = record { base = base; length = n; kind = k }; state = Empty [] }

-- a cell that isn't released stays in its block
still : (a : ℕ) (held : Held) {who : Waiter} {op : Op} (cells : List (Option Held)) {acted : Acted} → held_at cells a
    ≡ Some held → Meets a held who op cells acted
    → releases held.block.base op acted.entry ≡ false → block_at acted.cells a ≡ Some held.block
still a held cells here (Passes other on at) stays = ap blocks_of at
still a held {who} {op} cells here (Serves mine on acts) stays =
    ap (λ (acted : Acted). block_at acted.cells a) acts
    ∙ ap blocks_of (get_or-set_same cells a
    (Some (record { block = held.block; state = (serve_op who op held.state).state })) None
    (held_at-within cells a held here))
still a held cells here (Frees gone nobody) stays = absurd (true_false (sym gone ∙ stays))
still a held cells here (Clears on cleared nobody at) stays = ap blocks_of at

-- a cell whose block was emptied is empty
cleared_at : (a : ℕ) (held : Held) {who : Waiter} {op : Op} (cells : List (Option Held)) {acted : Acted}
    → Meets a held who op cells acted
    → releases held.block.base op acted.entry ≡ false → clears held.block.base op acted.entry ≡ true
    → held_at acted.cells a ≡ emptied (Some held)
cleared_at a held {who} {op} cells {acted} (Passes other on at) stays cleared =
    absurd (true_false (sym cleared
    ∙ or_right (releases held.block.base op acted.entry) (clears held.block.base op acted.entry) on))
cleared_at a held {who} {op} cells {acted} (Serves mine on acts) stays cleared =
    absurd (true_false (sym cleared
    ∙ or_right (releases held.block.base op acted.entry) (clears held.block.base op acted.entry) on))
cleared_at a held cells (Frees gone nobody) stays cleared = absurd (true_false (sym gone ∙ stays))
cleared_at a held cells (Clears on cleared nobody at) stays now = at

module _ (kind : Kind) (law : (a : ℕ) → CellLaw kind a) where
  -- each request on a cell of the block has from m on in the end the entry that the laws say
  abbrev EndsLawfully : Contents → List Command → Life → Type 0
  EndsLawfully m commands life =
      (a : ℕ) → life.base ≤ a → a < life.base + life.cells
      → EachAfter (λ before event. EndsAsSaid life.kind a m commands life.requests before event) life.requests

  abbrev OfKind : (Life → Type 0) → Life → Type 0
  OfKind P life = life.kind ≡ kind → P life

  abbrev EachEndsLawfully : Contents → List Command → List Life → Type 0
  EachEndsLawfully m commands lives = AllByRecursion (OfKind (EndsLawfully m commands)) lives

  one_earlier : (m : Contents) (command : Command) (commands : List Command) (life : Life)
      → OfKind (EndsLawfully (step m command).contents commands) life
      → OfKind (EndsLawfully m (command ∷ commands)) life
  one_earlier m command commands life lawful same a lo hi before later x is =
      IfSome_then (lawful_entry life.kind a life.requests before x x.request.op) (lawful same a lo hi before later x is)
      (λ entry ends. ends-later m command commands (asker x.request) entry ends)

  each_earlier : (m : Contents) (command : Command) (commands : List Command) (lives : List Life)
      → EachEndsLawfully (step m command).contents commands lives
      → EachEndsLawfully m (command ∷ commands) lives
  each_earlier m command commands lives = all_map _ _ lives (one_earlier m command commands)

  -- a life that begins with cells that are all empty
  fresh : (commands : List Command) (m : Contents) → IsSound m → (k : Kind) (base n : ℕ)
      → ((a : ℕ) → base ≤ a → a < base + n → held_at m.cells a ≡ Some (fresh_cell k base n))
      → OfKind (EndsLawfully m commands) (life_of k base n (events m commands))
  fresh commands m sound k base n empty same a lo hi before later x split =
      let requests : List Event = until_end base (events m commands) in
      let is_at : IsAt kind a (law a) base m
      (fresh_cell k base n) [] = record {
        at = empty a lo hi;
        is_kind = same;
        is_base = refl;
        agrees =
            (law a).begins;
      } in
      subst (λ k. EndsAsSaid k a m commands requests before x) (sym same)
      ((life_lawful kind a (law a) base commands m
      (fresh_cell k base n) [] requests sound is_at refl).later before later x split)

  -- the lives of a block that begin with a reset
  module _ (k : Kind) (base n : ℕ) where
    abbrev block : Block
    block = record { base = base; length = n; kind = k }

    module _ (m : Contents) (command : Command) (commands : List Command) (sound : IsSound m)
        (there : block_at m.cells base ≡ Some block)
        (r : Request) (is : (step m command).contents ≡ contents_of m r (act m.cells (asker r) r.op)) where
      abbrev acted : Acted
      acted = act m.cells (asker r) r.op

      abbrev then_on : Contents
      then_on = (step m command).contents

      held_there : (a : ℕ) → block_at m.cells a ≡ Some block → (held : Held) × (held_at m.cells a ≡ Some held)
          × (held.block ≡ block)
      held_there a = by_held (held_at m.cells a) refl
        where
          by_held : (o : Option Held) → held_at m.cells a ≡ o → block_at m.cells a ≡ Some block → (held : Held)
              × (held_at m.cells a ≡ Some held) × (held.block ≡ block)
          by_held None at here = absurd (none-some block (sym (ap blocks_of at) ∙ here))
          by_held (Some held) at here = (held, at, same_Some held.block block (sym (ap blocks_of at) ∙ here))

      -- it stays, unless it is released
      stays_there : releases base r.op acted.entry ≡ false → block_at then_on.cells base ≡ Some block
      stays_there on =
          let h = held_there base there in
          ap (λ (c : Contents). block_at c.cells base) is
          ∙ still base h.0 m.cells h.1 (meets m.cells sound.blocks base h.0 h.1 (asker r) r.op)
          (ap (λ (b : Block). releases b.base r.op acted.entry) h.2 ∙ on) ∙ ap Some h.2

      -- its cells are empty, where they were emptied
      emptied_there : releases base r.op acted.entry ≡ false → clears base r.op acted.entry ≡ true → (a : ℕ)
          → base ≤ a → a < base + n
          → held_at then_on.cells a ≡ Some (fresh_cell k base n)
      emptied_there on cleared a lo hi =
          let h = held_there a (sound.blocks.whole base block there a lo hi) in
          ap (λ (c : Contents). held_at c.cells a) is
          ∙ cleared_at a h.0 m.cells (meets m.cells sound.blocks a h.0 h.1 (asker r) r.op)
          (ap (λ (b : Block). releases b.base r.op acted.entry) h.2 ∙ on)
          (ap (λ (b : Block). clears b.base r.op acted.entry) h.2 ∙ cleared)
          ∙ ap (λ (b : Block). Some (record { block = b; state = Empty [] })) h.2

      reset_or_not : EachEndsLawfully then_on commands (lives_by_reset k base n (events then_on commands))
          ⊎ (releases base r.op acted.entry ≡ true)
          → EachEndsLawfully m (command ∷ commands)
          (lives_by_reset k base n (event_for r acted ∷ events then_on commands))
      reset_or_not (inr gone) =
          subst (λ t. EachEndsLawfully m (command ∷ commands)
          (cond t [] (cond (clears base r.op acted.entry)
          (life_of k base n (events then_on commands) ∷ lives_by_reset k base n (events then_on commands))
          (lives_by_reset k base n (events then_on commands)))))
          (sym gone) tt
      reset_or_not (inl rest) = by_release (releases base r.op acted.entry) refl
        where
          further : EachEndsLawfully m (command ∷ commands) (lives_by_reset k base n (events then_on commands))
          further = each_earlier m command commands (lives_by_reset k base n (events then_on commands)) rest

          by_clear : releases base r.op acted.entry ≡ false → (t : Bool) → clears base r.op acted.entry ≡ t
              → EachEndsLawfully m (command ∷ commands)
              (cond t
              (life_of k base n (events then_on commands) ∷ lives_by_reset k base n (events then_on commands))
              (lives_by_reset k base n (events then_on commands)))
          by_clear on true e = (
            one_earlier m command commands (life_of k base n (events then_on commands))
                (fresh commands then_on (sound-step m command sound) k base n (emptied_there on e)),
            further,
          )
          by_clear on false e = further

          by_release : (t : Bool) → releases base r.op acted.entry ≡ t
              → EachEndsLawfully m (command ∷ commands)
              (cond t []
              (cond (clears base r.op acted.entry)
              (life_of k base n (events then_on commands) ∷ lives_by_reset k base n (events then_on commands))
              (lives_by_reset k base n (events then_on commands))))
          by_release true e = tt
          by_release false e = by_clear e (clears base r.op acted.entry) refl

    one_more : (command : Command) (commands : List Command) (m : Contents) (sound : IsSound m)
        → block_at m.cells base ≡ Some block
        → (block_at (step m command).contents.cells base ≡ Some block
        → EachEndsLawfully (step m command).contents commands
        (lives_by_reset k base n (events (step m command).contents commands)))
        → EachEndsLawfully m (command ∷ commands) (lives_by_reset k base n (events m (command ∷ commands)))
    one_more command commands m sound there further = by_takes (takes_command m command)
      where
        by_takes : Takes m command
            → EachEndsLawfully m (command ∷ commands) (lives_by_reset k base n (events m (command ∷ commands)))
        by_takes (Silent none same) =
            subst (λ es. EachEndsLawfully m (command ∷ commands)
            (lives_by_reset k base n (es ++ events (step m command).contents commands))) (sym none)
            (each_earlier m command commands (lives_by_reset k base n (events (step m command).contents commands))
            (further (ap (λ cells. block_at cells base) same ∙ there)))
        by_takes (Asked r new one is) =
            subst (λ es. EachEndsLawfully m (command ∷ commands)
            (lives_by_reset k base n (es ++ events (step m command).contents commands))) (sym one)
            (reset_or_not m command commands sound there r is
            (by_release (releases base r.op (act m.cells (asker r) r.op).entry) refl))
          where
            by_release : (t : Bool) → releases base r.op (act m.cells (asker r) r.op).entry ≡ t
                → EachEndsLawfully (step m command).contents commands
                (lives_by_reset k base n (events (step m command).contents commands))
                ⊎ (releases base r.op (act m.cells (asker r) r.op).entry ≡ true)
            by_release true e = inr e
            by_release false e = inl (further (stays_there m command commands sound there r is e))

    by_reset : (commands : List Command) (m : Contents) → IsSound m → block_at m.cells base ≡ Some block
        → EachEndsLawfully m commands (lives_by_reset k base n (events m commands))
    by_reset [] m sound there = tt
    by_reset (command ∷ commands) m sound there =
        one_more command commands m sound there
        (λ there'. by_reset commands (step m command).contents (sound-step m command sound) there')

  module _ (m : Contents) (command : Command) (commands : List Command) (sound : IsSound m) where
    abbrev next : Contents
    next = (step m command).contents

    -- the lives of a block that this command allocates
    born : (k : Kind) (base n : ℕ) → 1 ≤ n → place n m.cells ≡ Some base → next.cells
        ≡ (allocate_at m.cells k n (Some base)).cells
        → EachEndsLawfully m (command ∷ commands)
        (life_of k base n (events next commands) ∷ lives_by_reset k base n (events next commands))
    born k base n some placed is = each_earlier m command commands
        (life_of k base n (events next commands) ∷ lives_by_reset k base n (events next commands)) (
          fresh commands next (sound-step m command sound) k base n empty,
          by_reset k base n commands next (sound-step m command sound)
              (ap blocks_of (empty base (omega arith) (omega arith))),
        )
      where
        empty : (a : ℕ) → base ≤ a → a < base + n → held_at next.cells a ≡ Some (fresh_cell k base n)
        empty a lo hi =
            let fits = place-fits n m.cells base placed in
            ap (λ cells. held_at cells a) is ∙ get_or-fill_in m.cells base n (new_cell base n k) a lo hi (omega arith)

    allocated : (r : Request) (k : Kind) (n : ℕ) → next.cells ≡ (allocate m.cells k n).cells
        → EachEndsLawfully m (command ∷ commands)
        (lives_from (Alloc k n) (allocate m.cells k n).entry (events next commands))
    allocated r k n = by_test (n == 0) refl
      where
        by_place : 1 ≤ n → (o : Option ℕ) → place n m.cells ≡ o → next.cells ≡ (allocate_at m.cells k n o).cells
            → EachEndsLawfully m (command ∷ commands)
            (lives_from (Alloc k n) (allocate_at m.cells k n o).entry (events next commands))
        by_place some None placed is = tt
        by_place some (Some base) placed is = born k base n some placed is

        by_test : (t : Bool) → (n == 0) ≡ t → next.cells
            ≡ (cond t (only_tells m.cells BadLength) (allocate_at m.cells k n (place n m.cells))).cells
            → EachEndsLawfully m (command ∷ commands)
            (lives_from (Alloc k n)
            (cond t (only_tells m.cells BadLength) (allocate_at m.cells k n (place n m.cells))).entry
            (events next commands))
        by_test true e is = tt
        by_test false e is = by_place (grind (arith, nat_tests)) (place n m.cells) refl is

    begun : (r : Request) (op : Op) → next.cells ≡ (act m.cells (asker r) op).cells
        → EachEndsLawfully m (command ∷ commands)
        (lives_from op (act m.cells (asker r) op).entry (events next commands))
    begun r (Alloc k n) is = allocated r k n is
    begun r (Release b) is = tt
    begun r (Reset b) is = tt
    begun r (Fetch b) is = tt
    begun r (Store b v) is = tt
    begun r (Take b) is = tt
    begun r (Put b v) is = tt

  -- all lives of a run
  lives_lawful : (commands : List Command) (m : Contents) → IsSound m
      → EachEndsLawfully m commands (lives (events m commands))
  lives_lawful [] m sound = tt
  lives_lawful (command ∷ commands) m sound = by_takes (takes_command m command)
      (all_map _ _ (lives (events (step m command).contents commands)) (one_earlier m command commands)
      (lives_lawful commands (step m command).contents (sound-step m command sound)))
    where
      by_takes : Takes m command
          → EachEndsLawfully m (command ∷ commands) (lives (events (step m command).contents commands))
          → EachEndsLawfully m (command ∷ commands) (lives (events m (command ∷ commands)))
      by_takes (Silent none same) all =
          subst (λ es. EachEndsLawfully m (command ∷ commands)
          (lives (es ++ events (step m command).contents commands))) (sym none) all
      by_takes (Asked r new one is) all =
          subst (λ es. EachEndsLawfully m (command ∷ commands)
          (lives (es ++ events (step m command).contents commands))) (sym one)
          (all_append (OfKind (EndsLawfully m (command ∷ commands)))
          (lives_from r.op (act m.cells (asker r) r.op).entry (events (step m command).contents commands))
          (lives (events (step m command).contents commands))
          (begun m command commands sound r r.op (ap (λ (c : Contents). c.cells) is)) all)

  -- from the empty memory on
  lawful_from : (m : Contents) (commands : List Command) → IsSound m
      → AllByRecursion (OfKind (IsLawfulLife m commands)) (lives (events m commands))
  lawful_from m commands sound = all_map _ _ (lives (events m commands))
      (λ life lawful same a lo hi before later x is. IfSome_then
      (lawful_entry life.kind a life.requests before x x.request.op) (lawful same a lo hi before later x is)
      (λ entry ends. ends None))
      (lives_lawful commands m sound)

no_cell : (n a : ℕ) → held_at (replicate n None) a ≡ None
no_cell zero a = refl
no_cell (suc n) zero = refl
no_cell (suc n) (suc a) = no_cell n a

no_block : (n a : ℕ) (block : Block) → block_at (replicate n None) a ≡ Some block → ⊥
no_block n a block is = none-some block
    (sym (ap (λ (o : Option Held). option_map (λ (held : Held). held.block) o) (no_cell n a)) ∙ is)

pub empty-sound : (cells elements : ℕ) → IsSound (empty_contents cells elements)
unfolding empty_contents
empty-sound cells elements = record {
  blocks = record {
    within = λ a block is. absurd (no_block cells a block is);
    whole = λ a block is b lo hi. absurd
        (no_block cells a block is);
  };
  agrees = empty-agrees cells elements;
}

pub lawful_lives : (kind : Kind) → ((a : ℕ) → CellLaw kind a) → (cells elements : ℕ) (commands : List Command)
    → AllByRecursion (λ life. life.kind ≡ kind → IsLawfulLife (empty_contents cells elements) commands life)
    (lives (events (empty_contents cells elements) commands))
lawful_lives kind law cells elements commands = lawful_from kind law (empty_contents cells elements) commands
    (empty-sound cells elements)
