-- What was put into a new file means what the old one's dump was of.
use Rattle.std.proofs.Common.{◌≡◌, ℕ, ◌⊎◌, List, [], IfOk, Some, Ok, Err, Result, MatchResult, ap, ◌∙◌, subst, inl, inr}
use Rattle.std.proofs.Common.{⊎_elim}
use Rattle.im_types.specs.Types.{Contents, Sizes, sizes_of, Header, header_of}
use Rattle.{im_disk.specs.declared.Disk.Ghosts, im_image.specs.Headers.seen}
use Rattle.im_migration.specs.{Copying.IsWhole, Resizing.IsResized, Resizing.sizes_asked}
use Rattle.im_migration.specs.declared.{Asked.Asked, Resized.Resized}
use Rattle.im_migration.specs.Migration.{BlankOrLaid, IsBlank, IsLaidDown, LeavesBlankOrLaid, moved_header}
use Rattle.im_dump.specs.{declared.Loaded.Loaded, Dumping.Dumps, Dumping.IsDumpOf, Dumping.MeansLoaded}
use Rattle.im_moves.specs.Moving.{LeavesBlankOrMoved, MeansMoved}

-- what holds of a value, by what holds of a result
pub if_ok : {A E : Type 0} (r : Result A E) (P R : A → Type 0) (Q : E → Type 0) → ((a : A) → P a → R a)
    → MatchResult r P Q → IfOk r R
if_ok (Ok a) P R Q more it = more a it
if_ok (Err e) P R Q more it = tt

-- the text that was dumped is loaded as what the file means
pub loaded_again : ((file text : List ℕ) (l : Loaded) → Dumps file (Some []) (Some text) → IsDumpOf l text
    → MeansLoaded file l) → (file before text slice : List ℕ) (l : Loaded) → before ≡ [] → slice ≡ text
    → Dumps file (Some before) (Some text) → IsDumpOf l slice → MeansLoaded file l
loaded_again law file before text slice l none same dumps is =
    law file text l (subst (λ (b : List ℕ). Dumps file (Some b) (Some text)) none dumps) (subst (IsDumpOf l) same is)

module _ (asked : Asked) (l : Loaded) (r : Resized) (whole : IsWhole r)
    (sized : sizes_of r.header.limits ≡ sizes_asked asked (sizes_of l.limits)) (counted : r.header.count ≡ l.count)
    (held : IsResized (sizes_of r.header.limits) l.memory.contents r.memory.contents) (old : List ℕ) where
  -- what was laid down means what was dumped
  pub means_moved : MeansLoaded old l → (file : List ℕ) → IsLaidDown (seen r.header) r.memory.contents file
      → MeansMoved asked old file
  means_moved loaded file laid =
      let s : Sizes = sizes_asked asked (header_of old).sizes in
      let sizes : sizes_of r.header.limits ≡ s = sized ∙ ap (sizes_asked asked) loaded.sizes in
      let is : seen r.header ≡ moved_header s loaded.reached.count = whole.header
      ∙ ap (λ (t : Sizes). moved_header t r.header.count) sizes
      ∙ ap (moved_header s) (counted ∙ loaded.counted) in
      let in_old : IsResized (sizes_of r.header.limits) loaded.reached.contents r.memory.contents =
      subst (λ (m : Contents). IsResized (sizes_of r.header.limits) m r.memory.contents) loaded.contents held in
      record {
        reached = loaded.reached;
        contents = r.memory.contents;
        was = loaded.reads;
        resized = subst (λ (t : Sizes). IsResized t loaded.reached.contents r.memory.contents) sizes in_old;
        is = subst (λ (h : Header). IsLaidDown h r.memory.contents file) is laid;
      }

  -- each file left is blank or means what was dumped
  pub leaves_moved : {D : Type 0} (disk : Ghosts D) (from to : D) (H : Type 0) → (H → MeansLoaded old l)
      → LeavesBlankOrLaid disk from to (seen r.header) r.memory.contents → LeavesBlankOrMoved disk from to asked H old
  leaves_moved disk from to H loaded leaves honest = (
    (leaves honest).0,
    record {
      later = (leaves honest).1.later;
      each = λ t c few left. ⊎_elim (λ earlier. inl earlier) (λ here. inr (blank_or_moved c here))
          ((leaves honest).1.each t c few left);
    },
  )
    where
      blank_or_moved : (c : List ℕ) → BlankOrLaid (seen r.header) r.memory.contents c
          → IsBlank c ⊎ (H → MeansMoved asked old c)
      blank_or_moved c (inl blank) = inl blank
      blank_or_moved c (inr laid) = inr (λ h. means_moved (loaded h) c laid)
