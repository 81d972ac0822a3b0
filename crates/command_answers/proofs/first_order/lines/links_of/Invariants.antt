use Rattle.std.proofs.Common.{◌≡◌, ◌+◌, ◌≤◌, drop}
use Rattle.command_answers.specs.FirstOrderAnswers.{link_count}
use Rattle.command_answers.proofs.first_order.lines.links_of.Given as goal

-- the links so far and those that are left
abbrev pub invariant-loop-node : goal.invariant-loop-node
invariant-loop-node l = record {
  counted : l.links + link_count (drop l.node-index l.nodes) ≡ link_count l.nodes;
  few : l.links ≤ l.node-index;
}
