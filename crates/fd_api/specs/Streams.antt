-- What the streams of a session tell.
use Rattle.std.specs.Prelude.{ℕ, List, Option}

-- a source or a sink at one moment: the bytes that it has left, or that it took, where it tells them, and how often it has
-- failed
pub record Stream : Type 0 where
  pub told : Option (List ℕ)
  pub faults : ℕ

abbrev pub stream : {A : Type 0} → (A → Option (List ℕ)) → (A → ℕ) → A → Stream
stream told faults device = record { told = told device; faults = faults device }

-- the source and the sink of a session at one moment
pub record Streams : Type 0 where
  pub input : Stream
  pub output : Stream

abbrev pub streams : Stream → Stream → Streams
streams input output = record { input = input; output = output }
