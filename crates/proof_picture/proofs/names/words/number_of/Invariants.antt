use Rattle.std.proofs.Common.{◌≡◌, drop}
use Rattle.proof_picture.specs.Words.{number_from, number_of}
use Rattle.proof_picture.proofs.names.words.number_of.Given as goal

abbrev pub invariant-loop-digit : goal.invariant-loop-digit
invariant-loop-digit l = number_from l.number (drop l.digit-index l.text) ≡ number_of l.text
