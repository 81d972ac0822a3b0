-- What a walk over parts that each count their own terms answers.
use Rattle.std.specs.Prelude.{◌≡◌, ℕ, Result, Ok, Err, Some, None}
use Rattle.heap_reader.specs.Flaws.{Found}
use Rattle.fo_file.specs.declared.walk.flaw.Stop.{Stop}
use Rattle.fo_file.specs.declared.walk.flaw.Stop.TheVariants.{Flaw, OutOfMemory}

-- the walk ends after the part where it has no flaw, and else names the first; out of memory is free
abbrev pub IsPassed : Result ℕ Stop → Found → ℕ → Type 0
IsPassed (Ok next) found behind = (found ≡ None) × (next ≡ behind)
IsPassed (Err (Flaw flaw)) found behind = found ≡ Some flaw
IsPassed (Err OutOfMemory) found behind = Unit {0}
