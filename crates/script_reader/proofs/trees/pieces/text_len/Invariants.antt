use Rattle.std.proofs.Common.{◌≡◌, ◌+◌, drop, false}
use Rattle.script_reader.specs.Pieces.{text_len}
use Rattle.script_reader.proofs.trees.pieces.text_len.Given as goal

abbrev pub invariant-loop-i : goal.invariant-loop-i
invariant-loop-i l = l.i + text_len l.closing (drop l.i l.bytes) ≡ text_len false l.bytes
