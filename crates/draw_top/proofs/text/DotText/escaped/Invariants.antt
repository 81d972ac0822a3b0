use Rattle.std.proofs.Common.{◌≡◌, ◌++◌, drop}
use Rattle.draw_top.specs.Quoting.{escaped}
use Rattle.draw_top.proofs.text.DotText.escaped.Given as goal

-- The text so far and the texts of what is left.
abbrev pub invariant-loop-byte : goal.invariant-loop-byte
invariant-loop-byte l = l.self ++ escaped (drop l.byte-index l.bytes) ≡ l.fn.self ++ escaped l.bytes
