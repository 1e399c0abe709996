-- What a disk in memory shows, and what its calls do to it.
use Rattle.std.specs.Prelude.{◌≡◌, ℕ, ◌+◌, ◌-◌, ◌^◌, min, ◌⊎◌, List, [], ◌∷◌, length, replicate, slice_index}
use Rattle.std.specs.Prelude.{MatchResult, Some, None, Option, Result}
use Rattle.im_disk.specs.declared.memory.Crash.{Crash, TheVariants.Byte, TheVariants.Kept, TheVariants.Lost}
use Rattle.im_disk.specs.Moment.{Inside, Moment, Outside, synced, written}

-- a disk in memory, as contracts see it
pub record Recording : Type 0 where
  pub moment : Moment
  -- the moments before it, newest first, since the disk was made or last crashed
  pub past : List Moment
  -- the bytes at the last successful sync
  pub settled : List ℕ
  -- how often a call has failed, up to the top of a `u64`
  pub failures : ℕ

-- zero bytes, all of them on the disk
abbrev pub blank_disk : ℕ → Recording
blank_disk len = record {
  moment = record { bytes = replicate len 0; ranges = [] };
  past = [];
  settled = replicate len 0;
  failures = 0;
}

-- a tick later, at this moment
abbrev pub ticked : Moment → Recording → Recording
ticked m d = record { moment = m; past = d.moment ∷ d.past; settled = d.settled; failures = d.failures }

-- a tick later, after a successful sync
abbrev pub settled_by_sync : Recording → Recording
settled_by_sync d = record {
  moment = synced d.moment;
  past = d.moment ∷ d.past;
  settled = d.moment.bytes;
  failures = d.failures;
}

-- one failure more
abbrev pub failed : Recording → Recording
failed d = record {
  moment = d.moment;
  past = d.past;
  settled = d.settled;
  failures = min (d.failures + 1) (2 ^ 64 - 1);
}

-- At `Ok` the disk is `told`. At `Err` the record could not grow, and nothing happened except one more failure.
abbrev pub Answers : {T E : Type 0} → Result T E → Recording → Recording → Recording → Type 0
Answers result told old new = MatchResult result (λ _. new ≡ told) (λ _. new ≡ failed old)

-- a failing call that leads to this moment; it ticks unless the record could not grow
abbrev pub Fails : Moment → Recording → Recording → Type 0
Fails m old new = (new ≡ failed (ticked m old)) ⊎ (new ≡ failed old)

-- what a failed write leaves: the bytes of its range, or this byte over the whole range
abbrev pub scarred : ℕ → ℕ → Option ℕ → Moment → Moment
scarred at n None m = record { bytes = m.bytes; ranges = (at, n) ∷ m.ranges }
scarred at n (Some byte) m = written at (replicate n byte) m

-- this byte everywhere in the ranges, and the bytes outside them
pub record HasByte (byte : ℕ) (m : Moment) (c : List ℕ) : Type 0 where
  pub size : length c ≡ length m.bytes
  pub outside : (i : ℕ) → Outside m.ranges i → slice_index c i ≡ slice_index m.bytes i
  pub inside : (i : ℕ) → Inside m.ranges i → slice_index c i ≡ byte

-- what the crash of this kind leaves
abbrev pub LeftBy : Crash → Recording → List ℕ → Type 0
LeftBy Kept d c = c ≡ d.moment.bytes
LeftBy Lost d c = c ≡ d.settled
LeftBy (Byte byte) d c = HasByte byte d.moment c

-- After a crash that left these bytes. The ranges are in doubt until a sync succeeds, and a new record begins.
abbrev pub crashed : List ℕ → Recording → Recording
crashed bytes d = record {
  moment = record { bytes = bytes; ranges = d.moment.ranges };
  past = [];
  settled = d.settled;
  failures = d.failures;
}
