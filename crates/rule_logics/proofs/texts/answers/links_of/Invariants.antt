use Rattle.std.proofs.Common.{◌≡◌, ◌+◌, ◌≤◌, drop}
use Rattle.std.specs.Prelude.{count_by}
use Rattle.rule_logics.specs.Answers.{is_link}
use Rattle.rule_logics.proofs.texts.answers.links_of.Given as goal

-- the links so far and those that are left
abbrev pub invariant-loop-node : goal.invariant-loop-node
invariant-loop-node g l = record {
  counted : l.links + count_by is_link (drop l.node-index l.nodes) ≡ count_by is_link l.nodes;
  few : l.links ≤ l.node-index;
}
