-- What a migration comes to, from what was read of the old file and what was laid down in the new one.
use Rattle.std.proofs.Common.{◌≡◌, ℕ, ◌⊎◌, List, Ok, Err, ap, ◌∙◌, subst, inl, inr}
use Rattle.im_types.specs.Types.{Refusal, Device, NoMemory, layout_1, Sizes, sizes_of, Header, header_of, Reads}
use Rattle.im_disk.{proofs.SinceLemmas.leaves_weaker, specs.Moment.Moment, specs.Since.Leaves}
use Rattle.im_image.specs.{declared.ImageParts.ImageParts, Headers.seen, Reading.reached}
use Rattle.im_migration.specs.Migration.{BlankOrLaid, BlankOrSame, HasCount, IsLaidDown, IsMigrationFault, IsNoPlace}
use Rattle.im_migration.specs.Migration.{MeansSame, moved_header}

module _ (i : ImageParts) (old : List ℕ) (H : Type 0) (means : H → Reads layout_1 old (Ok (reached i)))
    (header : H → seen i.header ≡ header_of old) where
  -- the sizes of what was read
  pub same_sizes : (s : Sizes) → s ≡ sizes_of i.header.limits → H → s ≡ (header_of old).sizes
  same_sizes s is honest = is ∙ ap (λ (h : Header). h.sizes) (header honest)

  -- the header under which what was read is laid down
  module _ (h : Header) (count : ℕ) (under : h ≡ moved_header (sizes_of i.header.limits) count)
      (counts : count ≡ i.journal.count) where
    -- what means what was read means what the old file means
    pub means_same : (file : List ℕ) → IsLaidDown h i.memory.contents file → H → MeansSame old file
    means_same file laid honest = record {
      reached = reached i;
      was = means honest;
      is = subst (λ (x : Header). IsLaidDown x i.memory.contents file)
          (under ∙ ap (moved_header (sizes_of i.header.limits)) counts
          ∙ ap (λ (x : Header). moved_header x.sizes i.journal.count) (header honest)) laid;
    }

    pub leaves_same : (m m' : Moment) (past past' : List Moment)
        → Leaves m m' past past' (BlankOrLaid h i.memory.contents) → Leaves m m' past past' (BlankOrSame H old)
    leaves_same m m' past past' leaves = leaves_weaker m m' past past' (BlankOrLaid h i.memory.contents)
        (BlankOrSame H old) leaves by
      where
        by : (file : List ℕ) → BlankOrLaid h i.memory.contents file → BlankOrSame H old file
        by file (inl blank) = inl blank
        by file (inr laid) = inr (means_same file laid)

  pub has_count : (n : ℕ) → i.journal.count ≡ n → H → HasCount old n
  has_count n is honest = (reached i, means honest, is)

  -- where the new file is no place for it
  pub refused_place : (G : Type 0) (new : List ℕ) (e : Refusal) (s : Sizes) → s ≡ sizes_of i.header.limits
      → (e ≡ Device) ⊎ (G → IsNoPlace e s new) → (e ≡ NoMemory) ⊎ (e ≡ Device) ⊎ (H → G → IsMigrationFault e old new)
  refused_place G new e s is (inl device) = inr (inl device)
  refused_place G new e s is (inr none) = inr (inr (λ honest here. inr
      ((reached i, means honest), subst (λ (t : Sizes). IsNoPlace e t new) (same_sizes s is honest) (none here))))

-- where the old file is at fault
pub refused_old : (H G : Type 0) (old new : List ℕ) (e : Refusal) → (e ≡ NoMemory) ⊎ (e ≡ Device)
    ⊎ (H → Reads layout_1 old (Err e)) → (e ≡ NoMemory) ⊎ (e ≡ Device) ⊎ (H → G → IsMigrationFault e old new)
refused_old H G old new e (inl none) = inl none
refused_old H G old new e (inr (inl device)) = inr (inl device)
refused_old H G old new e (inr (inr fault)) = inr (inr (λ honest here. inl (fault honest)))
