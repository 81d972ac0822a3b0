use Rattle.std.proofs.Common.{◌≡◌, ◌-◌, ◌++◌}
use Rattle.rule_logics.specs.Moved.{moved}
use Rattle.rule_logics.proofs.moved.push_moved.Given as goal

abbrev pub invariant-loop-place : goal.invariant-loop-place
invariant-loop-place l = l.pairs.items ++ moved (32 - l.place) l.place l.old l.new ≡ l.initial.pairs.items
    ++ moved 32 0 l.old l.new
