use Rattle.std.proofs.Common.{◌≡◌, ◌≤◌, drop}
use Rattle.rule_table.specs.Tests.{ascend_from}
use Rattle.rule_table.proofs.choosing.are_ascending.Given as goal

abbrev pub invariant-loop-place : goal.invariant-loop-place
invariant-loop-place l = (ascend_from l.least l.n (drop l.place-index l.places) ≡ ascend_from 0 l.n l.places)
    × (l.least ≤ 4294967296)
