use Rattle.std.proofs.Common.{◌≡◌, ◌-◌}
use Rattle.buchi_core.specs.Forest.{event_from}
use Rattle.buchi_core.specs.Young.{made}
use Rattle.buchi_core.proofs.settle.event_at.Given as goal

abbrev pub invariant-loop-place : goal.invariant-loop-place
invariant-loop-place l = event_from (made l.young) l.place (l.count - l.place) ≡ event_from (made l.young) 0 l.count
