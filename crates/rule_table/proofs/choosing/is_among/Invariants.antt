use Rattle.std.proofs.Common.{◌≡◌, drop}
use Rattle.rule_table.specs.Tests.{has_number}
use Rattle.rule_table.proofs.choosing.is_among.Given as goal

abbrev pub invariant-loop-place : goal.invariant-loop-place
invariant-loop-place l = has_number (drop l.place-index l.places) l.k ≡ has_number l.places l.k
