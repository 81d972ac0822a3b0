use Rattle.std.proofs.Common.{◌≡◌, ◌++◌, drop}
use Rattle.draw_top.specs.Quoting.{marked_up}
use Rattle.draw_top.proofs.text.DotText.marked_up.Given as goal

-- The text so far and the texts of what is left.
abbrev pub invariant-loop-byte : goal.invariant-loop-byte
invariant-loop-byte l = l.self ++ marked_up (drop l.byte-index l.bytes) ≡ l.fn.self ++ marked_up l.bytes
