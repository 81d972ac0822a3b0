use Rattle.std.proofs.Common.{◌≡◌, ◌+◌, ◌≤◌, drop}
use Rattle.draw_top.specs.Parts.{offset_from, offset_of}
use Rattle.draw_top.proofs.inputs.parts.offset_of.Given as goal

-- The bytes so far, and those that are left before the place; and how far the place here can have come.
abbrev pub invariant-loop-offset : goal.invariant-loop-offset
invariant-loop-offset l = record {
  place : l.offset + offset_from l.here l.start (drop l.offset l.bytes) ≡ offset_of l.start l.bytes;
  line : l.here.line ≤ l.offset + 1;
  column : l.here.column ≤ l.offset + 1;
}
