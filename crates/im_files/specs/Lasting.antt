-- How long an opening waits for the lock of a file. (Own.)
use Rattle.std.specs.{Prelude.ℕ, Prelude.Option, declared.time.Instant.Instant, Duration.as_nanos}
use Rattle.im_files.specs.declared.waiting.Waiting.{Waiting}

-- the maximum wait, in nanoseconds
abbrev pub longest : {R : Type 0} → Waiting R → ℕ
longest waiting = as_nanos waiting.most

-- the moment from which the wait is counted, after the file was found in use
abbrev pub counted_from : {R : Type 0} → Waiting R → Option Instant
counted_from waiting = waiting.began
