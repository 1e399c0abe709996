-- The words of lines, and how far texts were written that are kept back in batches. (Own.)
use Rattle.std.specs.Prelude.{◌≡◌, ℕ, false, List, [], ◌++◌, take, MatchResult, Some, None, codes, decimal, Option}
use Rattle.std.specs.Prelude.{Result}
use Rattle.std.specs.Io.KnownBytes.{Appends}
use Rattle.im_types.specs.Types.{Entry, Refusal, number_of}
use Rattle.im_text.specs.declared.{batches.Batch.Batch, replies.Waited.Waited}
use Rattle.im_text.specs.Texts.{entry_text, line_feed}

-- ---- lines

-- K.N REPLY: a request that was served
abbrev pub told_line : ℕ → ℕ → Entry → List ℕ
told_line element number entry =
    decimal element ++ codes "." ++ decimal number ++ codes " " ++ entry_text entry ++ line_feed

-- K.N now REPLY: a request that had to wait, with the entry that was last kept for it
abbrev pub now_line : Option Waited → List ℕ
now_line None = []
now_line (Some w) =
    decimal w.element ++ codes "." ++ decimal w.number ++ codes " now " ++ entry_text w.entry ++ line_feed

-- refused N NAME
abbrev pub refused_line : Refusal → List ℕ → List ℕ
refused_line refusal name = codes "refused " ++ decimal (number_of refusal) ++ codes " " ++ name ++ line_feed

-- ---- how far texts were written

-- a prefix of the text was written
abbrev pub Begins : Option (List ℕ) → Option (List ℕ) → List ℕ → Type 0
Begins old new text = (many : ℕ) × Appends old new (take many text)

-- A prefix of the text was written since the start. As long as no write has failed, the rest is kept back.
pub record Batches (start now : Option (List ℕ)) (batch : Batch) (text : List ℕ) : Type 0 where
  pub written : List ℕ
  pub rest : List ℕ
  pub split : text ≡ written ++ rest
  pub there : Appends start now written
  pub back : batch.broken ≡ false → rest ≡ batch.pending.items

-- no text more
abbrev pub BatchesOn : Option (List ℕ) → Batch → Option (List ℕ) → Batch → Type 0
BatchesOn was before is after =
    (start : Option (List ℕ)) (text : List ℕ) → Batches start was before text → Batches start is after text

-- this text more
abbrev pub BatchesMore : Option (List ℕ) → Batch → Option (List ℕ) → Batch → List ℕ → Type 0
BatchesMore was before is after more =
    (start : Option (List ℕ)) (text : List ℕ) → Batches start was before text → Batches start is after (text ++ more)

-- this text more, or at an error no text more
abbrev pub TakesText : {T E : Type 0} → Result T E → Option (List ℕ) → Batch → Option (List ℕ) → Batch → List ℕ → Type 0
TakesText result was before is after more =
    MatchResult result (λ _. BatchesMore was before is after more) (λ _. BatchesOn was before is after)
