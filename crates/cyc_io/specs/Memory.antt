-- What a source or a sink in memory is.
use Rattle.std.specs.Prelude.{◌≡◌, ℕ, ◌<◌, ◌≤◌, ◌⊎◌, List, length, Contains}
use Rattle.cyc_io.specs.Causes.{risen}

-- a source: the bytes still to come, the greatest piece, the numbers of the calls that fail, the calls and faults so
-- far
pub record MemoryInput : Type 0 where
  pub left : List ℕ
  pub piece : ℕ
  pub failing : List ℕ
  pub calls : ℕ
  pub faults : ℕ

-- a sink: what was written, the room for all of it, and the same
pub record MemoryOutput : Type 0 where
  pub written : List ℕ
  pub room : ℕ
  pub piece : ℕ
  pub failing : List ℕ
  pub calls : ℕ
  pub faults : ℕ

-- a call with this number fails
abbrev pub InputFails : MemoryInput → Type 0
InputFails s = Contains s.failing (risen s.calls)

-- a write of these bytes fails: its number is listed, or the room is full
abbrev pub OutputFails : MemoryOutput → List ℕ → Type 0
OutputFails k piece = Contains k.failing (risen k.calls) ⊎ ((0 < length piece) × (k.room ≤ length k.written))

-- no call changes the greatest piece of a source, nor the numbers of the calls that fail
abbrev pub SameInput : MemoryInput → MemoryInput → Type 0
SameInput old new = (new.piece ≡ old.piece) × (new.failing ≡ old.failing)

-- no call changes the room of a sink, its greatest piece, nor the numbers of the calls that fail
abbrev pub SameOutput : MemoryOutput → MemoryOutput → Type 0
SameOutput old new = (new.room ≡ old.room) × (new.piece ≡ old.piece) × (new.failing ≡ old.failing)

-- a source without faults: the bytes still to come, and the greatest piece
pub record PlainInput : Type 0 where
  pub left : List ℕ
  pub piece : ℕ

-- a sink that fails only where its room is full
pub record PlainOutput : Type 0 where
  pub written : List ℕ
  pub room : ℕ
  pub piece : ℕ
  pub faults : ℕ
