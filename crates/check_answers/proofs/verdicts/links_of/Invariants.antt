use Rattle.std.proofs.Common.{◌≡◌, ◌+◌, ◌≤◌, drop}
use Rattle.check_answers.specs.Answers.{link_count}
use Rattle.check_answers.proofs.verdicts.links_of.Given as goal

-- The links so far and those that are left.
abbrev pub invariant-loop-node : goal.invariant-loop-node
invariant-loop-node l = record {
  counted : l.links + link_count (drop l.node-index l.nodes) ≡ link_count l.nodes;
  few : l.links ≤ l.node-index;
}
