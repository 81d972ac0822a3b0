use Rattle.std.proofs.Common.{◌≡◌, ◌+◌, ◌≤◌, drop}
use Rattle.rule_table.specs.RuleLink.{count_of}
use Rattle.back_links.proofs.covering.count_in.Given as goal

abbrev pub invariant-loop-y : goal.invariant-loop-y
invariant-loop-y l = (l.count + count_of l.x (drop l.y-index l.atoms) ≡ count_of l.x l.atoms) × (l.count ≤ l.y-index)
