pub mod BehindLemmas
