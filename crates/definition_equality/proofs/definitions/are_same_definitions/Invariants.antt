use Rattle.std.proofs.Common.{◌≡◌, take}
use Rattle.definition_equality.proofs.definitions.are_same_definitions.Given as goal

-- Those so far are the same.
abbrev pub invariant-loop-place : goal.invariant-loop-place
invariant-loop-place l = take l.place l.a ≡ take l.place l.b
