-- What a copy comes to, from what was read of the old file and what was laid down in the new one.
use Rattle.std.proofs.Common.{◌≡◌, ℕ, ◌⊎◌, List, IfOk, Ok, Err, Result, sym, ap, ◌∙◌, subst, inl, inr}
use Rattle.im_types.specs.Types.{Refusal, Device, NoMemory, BadLimits, Limits, layout_in_use, Sizes, sizes_of, Header}
use Rattle.im_types.specs.Types.{header_of, Reads, Opens}
use Rattle.im_disk.{proofs.SinceLemmas.leaves_weaker, specs.Moment.Moment, specs.Since.Leaves}
use Rattle.im_image.specs.{declared.ImageParts.ImageParts, Headers.seen, Reading.reached}
use Rattle.im_migration.specs.Copying.{BlankOrCopy, IsNoSource, IsRefusedCopy, IsSource, IsWhole, MeansCopy}
use Rattle.im_migration.specs.declared.{asked.Asked.Asked, resized.Resized.Resized}
use Rattle.im_migration.specs.Migration.{BlankOrLaid, IsLaidDown, IsNoPlace, moved_header}
use Rattle.im_migration.specs.Resizing.{HasNoCopy, IsResized, sizes_asked}

module _ (asked : Asked) (i : ImageParts) (old : List ℕ) (H : Type 0)
    (means : H → Reads layout_in_use old (Ok (reached i)))
    (header : H → seen i.header ≡ header_of old) where
  sizes-are : H → sizes_of i.header.limits ≡ (header_of old).sizes
  sizes-are honest = ap (λ (h : Header). h.sizes) (header honest)

  -- where the memory doesn't stand in the sizes
  pub no_sizes : (e : Refusal) → (e ≡ BadLimits)
      × HasNoCopy (sizes_asked asked (sizes_of i.header.limits)) i.memory.contents
      → (e ≡ NoMemory) ⊎ (e ≡ Device) ⊎ (H → IsNoSource asked e old)
  no_sizes e none = inr (inr (λ honest. inr (
    none.0,
    (
      reached i,
      means honest,
      subst (λ (s : Sizes). HasNoCopy (sizes_asked asked s) i.memory.contents) (sizes-are honest) none.1,
    ),
  )))

  -- what was resized is what the old file means
  pub source_found : (limits : Limits) → sizes_of limits ≡ sizes_asked asked (sizes_of i.header.limits)
      → (result : Result Resized Refusal) → IfOk result (λ r. r.header.limits ≡ limits)
      → IfOk result (λ r. r.header.count ≡ i.journal.count)
      → IfOk result (λ r. IsResized (sizes_of limits) i.memory.contents r.memory.contents)
      → IfOk result (λ r. H → IsSource asked old r)
  source_found limits asked_for (Ok r) sizes count memory = λ honest. record {
    reached = reached i;
    was = means honest;
    sizes = ap sizes_of sizes ∙ asked_for ∙ ap (sizes_asked asked) (sizes-are honest);
    count = count;
    memory = subst (λ (l : Limits). IsResized (sizes_of l) i.memory.contents r.memory.contents) (sym sizes) memory;
  }
  source_found limits asked_for (Err e) sizes count memory = tt

-- where the old file isn't opened
pub not_opened : (asked : Asked) (old : List ℕ) (H : Type 0) (e : Refusal) → (e ≡ NoMemory) ⊎ (e ≡ Device)
    ⊎ (H → Opens old (Err e)) → (e ≡ NoMemory) ⊎ (e ≡ Device) ⊎ (H → IsNoSource asked e old)
not_opened asked old H e (inl none) = inl none
not_opened asked old H e (inr (inl device)) = inr (inl device)
not_opened asked old H e (inr (inr fault)) = inr (inr (λ honest. inl (fault honest)))

module _ (asked : Asked) (r : Resized) (old : List ℕ) (H : Type 0) (whole : IsWhole r)
    (source : H → IsSource asked old r) where
  -- what was laid down is a copy
  pub means_copy : (file : List ℕ) → IsLaidDown (seen r.header) r.memory.contents file → H → MeansCopy asked old file
  means_copy file laid honest =
      let from = source honest in
      let s : Sizes = sizes_asked asked (header_of old).sizes in
      let is : seen r.header ≡ moved_header s from.reached.count = whole.header
      ∙ ap (λ (t : Sizes). moved_header t r.header.count) from.sizes ∙ ap (moved_header s) from.count in
      record {
        reached = from.reached;
        contents = r.memory.contents;
        was = from.was;
        resized = subst (λ (t : Sizes). IsResized t from.reached.contents r.memory.contents) from.sizes from.memory;
        is = subst (λ (h : Header). IsLaidDown h r.memory.contents file) is laid;
      }

  pub leaves_copy : (m m' : Moment) (past past' : List Moment)
      → Leaves m m' past past' (BlankOrLaid (seen r.header) r.memory.contents)
      → Leaves m m' past past' (BlankOrCopy asked H old)
  leaves_copy m m' past past' leaves = leaves_weaker m m' past past'
      (BlankOrLaid (seen r.header) r.memory.contents) (BlankOrCopy asked H old) leaves by
    where
      by : (file : List ℕ) → BlankOrLaid (seen r.header) r.memory.contents file → BlankOrCopy asked H old file
      by file (inl blank) = inl blank
      by file (inr laid) = inr (means_copy file laid)

  -- where the new file is no place for it
  pub no_place : (G : Type 0) (new : List ℕ) (e : Refusal) → (e ≡ Device)
      ⊎ (G → IsNoPlace e (sizes_of r.header.limits) new)
      → (e ≡ NoMemory) ⊎ (e ≡ Device) ⊎ (H → G → IsRefusedCopy asked e old new)
  no_place G new e (inl device) = inr (inl device)
  no_place G new e (inr none) = inr (inr (λ honest here. inr (
    ((source honest).reached, (source honest).was),
    subst (λ (t : Sizes). IsNoPlace e t new) (source honest).sizes (none here),
  )))

-- where there is nothing to be copied
pub no_source : (asked : Asked) (H G : Type 0) (old new : List ℕ) (e : Refusal) → (e ≡ NoMemory) ⊎ (e ≡ Device)
    ⊎ (H → IsNoSource asked e old) → (e ≡ NoMemory) ⊎ (e ≡ Device) ⊎ (H → G → IsRefusedCopy asked e old new)
no_source asked H G old new e (inl none) = inl none
no_source asked H G old new e (inr (inl device)) = inr (inl device)
no_source asked H G old new e (inr (inr fault)) = inr (inr (λ honest here. inl (fault honest)))
