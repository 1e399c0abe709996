-- The setup of a script: its blocks, as its lines are read, and the bases of its names. (Own.)
use Rattle.std.proofs.Common.{◌≡◌, ℕ, true, List, [], ◌∷◌, ◌++◌, map, length, Some, None, Option, Result, sym, ap, ◌∙◌}
use Rattle.std.proofs.Common.{subst, Bor}
use Rattle.std.specs.Option.{option_map_or}
use Rattle.im_types.specs.Types.{Command, Contents, IsMemory}
use Rattle.im_session.specs.Kept.{SessionState}
use Rattle.im_script.specs.{declared.Heard.Heard, Script.Draft, Script.heard, Script.lines_of}
use Rattle.im_text.specs.{declared.Lines.Lines, declared.Waited.Waited, Said.PrintsOn, Said.who_of}
use Rattle.im_serial.proofs.ScriptedLemmas.{going_from, has_served, passes_refl, prints_on}
use Rattle.im_serial.specs.Asked.{bases_after, Course, Leads, standing, Wanted}
use Rattle.im_serial.specs.{declared.waits.Mark.Mark, Noted.AreNoted, Once.HasServedNothing}
use Rattle.im_serial.specs.Serving.{EndsAt, GoingAt, HasServed, output_of, Passes, ScriptServer, server_of}
use Rattle.im_run.proofs.OrdersLemmas.{line_heard}
use Rattle.im_run.specs.Orders.{bases_made, blocks_asked, blocks_of, line_blocks, lines_heard, Scope, SetsUp}
use Rattle.im_run.specs.Orders.{settled_past}

-- ---- the bases of its names

module _ (s : Scope) (m : Contents) (first : List ℕ) (is : first ≡ s.bases) where
  -- what the setup has to do
  abbrev pub setup_course : Course
  setup_course = record { first = first; wanted = blocks_asked s; earlier = [] }

  pub sets_up : (put : List Command) (left : List Wanted) → Leads m first (blocks_asked s) put left
      → SetsUp s m put left
  sets_up put left it = subst (λ (b : List ℕ). Leads m b (blocks_asked s) put left) is it

  pub names_made : (put : List Command) (bases : List ℕ) → bases_after m first (blocks_asked s) put ≡ bases
      → bases ≡ bases_made s m put
  names_made put bases it = sym it ∙ ap (λ (b : List ℕ). bases_after m b (blocks_asked s) put) is

-- ---- its blocks

-- the block that a line asks for, and those of the lines behind it
pub blocks_line : (before left : List ℕ) (d next : Draft) (h : Heard) (text line : List ℕ)
    (behind : Option (Bor (List ℕ))) → lines_of text ≡ line ∷ option_map_or (λ rest. lines_of rest.now) behind []
    → heard true d line ≡ Some (next, h) → left ≡ settled_past before h
    → blocks_of before (lines_heard d (lines_of text)) ≡ line_blocks before h
    ++ blocks_of left (option_map_or (λ r. lines_heard next (lines_of r.now)) behind [])
blocks_line before left d next h text line behind lines read settled =
    ap (blocks_of before) (line_heard d next h text line behind lines read)
    ∙ ap (λ (l : List ℕ). line_blocks before h
    ++ blocks_of l (option_map_or (λ r. lines_heard next (lines_of r.now)) behind [])) (sym settled)

module _ {D : Type 0} where
  -- what is served of a line that asks for no block
  pub unchanged : {T E : Type 0} (r : Result T E) (wanted : List Wanted) (bases : List ℕ) (s : ScriptServer D)
      → wanted ≡ [] → HasServed wanted bases bases r s s
  unchanged r wanted bases s none = subst (λ (l : List Wanted). HasServed l bases bases r s s) (sym none)
      (has_served r [] bases bases s s (passes_refl [] bases s))

  pub served_as : {T E : Type 0} (r : Result T E) (asked wanted : List Wanted) (before after : List ℕ)
      (old new : ScriptServer D) → asked ≡ wanted → HasServed wanted before after r old new
      → HasServed asked before after r old new
  served_as r asked wanted before after old new same it =
      subst (λ (l : List Wanted). HasServed l before after r old new) (sym same) it

  -- of lines that are the same, with the same settled
  pub passes_as : (was had : List ℕ) (script : List Heard) (before after : List ℕ) (old new : ScriptServer D)
      → was ≡ had → Passes (blocks_of was script) before [] after old new
      → Passes (blocks_of had script) before [] after old new
  passes_as was had script before after old new same it =
      subst (λ (h : List ℕ). Passes (blocks_of h script) before [] after old new) same it

  pub ends_as : (was had : List ℕ) (script : List Heard) (before : List ℕ) (old new : ScriptServer D)
      → was ≡ had → EndsAt (blocks_of was script) before old new
      → EndsAt (blocks_of had script) before old new
  ends_as was had script before old new same it =
      subst (λ (h : List ℕ). EndsAt (blocks_of h script) before old new) same it

  -- and then what is kept back is written
  pub flushed : {T E : Type 0} (r : Result T E) (wanted : List Wanted) (before after : List ℕ) (old : ScriptServer D)
      (session : SessionState D) (from held : Option (List ℕ)) (lines last : Lines) (waited : List Waited)
      (marks : List Mark) → PrintsOn from lines held last
      → Passes wanted before [] after old (server_of session from lines waited marks)
      → HasServed wanted before after r old (server_of session held last waited marks)
  flushed r wanted before after old session from held lines last waited marks prints passes =
      has_served r wanted before after old (server_of session held last waited marks)
      (λ start was script rest going. prints_on after session from held lines last waited marks prints start was
      script rest (passes start was script rest going))

  -- ---- line by line

  -- no line was read
  pub blocks_start : (had : List ℕ) (all rest : List Heard) (bases : List ℕ) (s : ScriptServer D) → rest ≡ all
      → Passes (blocks_of had all) bases (blocks_of had rest) bases s s
  blocks_start had all rest bases s same = subst (λ (l : List Heard). Passes (blocks_of had all) bases
      (blocks_of had l) bases s s) (sym same) (passes_refl (blocks_of had all) bases s)

  -- the lines that are left
  pub blocks_some : (all : List Wanted) (left first bases : List ℕ) (old new : ScriptServer D) (d : Draft)
      (rest : Option (Bor (List ℕ))) (text : Bor (List ℕ)) → rest ≡ Some text
      → Passes all first (blocks_of left (option_map_or (λ t. lines_heard d (lines_of t.now)) rest [])) bases old
      new → Passes all first (blocks_of left (lines_heard d (lines_of text.now))) bases old new
  blocks_some all left first bases old new d rest text some it = subst (λ (o : Option (Bor (List ℕ))). Passes all
      first (blocks_of left (option_map_or (λ t. lines_heard d (lines_of t.now)) o [])) bases old new) some it

  pub blocks_none : (all : List Wanted) (left first bases : List ℕ) (old new : ScriptServer D) (d : Draft)
      (rest : Option (Bor (List ℕ))) → rest ≡ None
      → Passes all first (blocks_of left (option_map_or (λ t. lines_heard d (lines_of t.now)) rest [])) bases old
      new → Passes all first [] bases old new
  blocks_none all left first bases old new d rest none it = subst (λ (o : Option (Bor (List ℕ))). Passes all
      first (blocks_of left (option_map_or (λ t. lines_heard d (lines_of t.now)) o [])) bases old new) none it

  -- ---- its beginning

  -- nothing was served yet
  pub begun : (c : Course) (s : ScriptServer D) (bases : List ℕ) → HasServedNothing s bases → c.earlier ≡ []
      → GoingAt s.session.start (output_of s) (standing (Some c) c.first (c.wanted ++ [])) s
  begun c s bases ready none = let m = s.session.start.memory in
      going_from c s.session s.held s.lines s.waited s.marks ready.fresh ready.works
      (record {
        memory = subst (λ (x : Contents). IsMemory (length x.cells) (length x.windows) x)
            (sym (ap (λ (t : SessionState D). t.start.memory) ready.fresh)) ready.memory;
        noted = subst (AreNoted m [] 0 0 s.marks) (sym ready.waited) (λ at w is. absurd (no_item w is));
      }) (ap (map who_of) ready.waited ∙ sym none) ready.pending
    where
      no_item : (w : Waited) → ◌≡◌ {A = Option Waited} None (Some w) → ⊥
      no_item w is = cc
