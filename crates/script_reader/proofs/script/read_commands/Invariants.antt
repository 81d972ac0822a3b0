use Rattle.std.proofs.Common.{◌≡◌, ◌-◌, vec_len}
use Rattle.script_reader.specs.Forests.{Forest, nodes_in}
use Rattle.script_reader.proofs.Asking.{IsReached}
use Rattle.script_reader.proofs.script.read_commands.Given as goal

abbrev pub invariant-commands : goal.invariant-commands
invariant-commands l = record {
  ends : l.items.end ≡ vec_len l.trees.nodes;
  reached : (all : Forest) → l.trees.nodes.items ≡ nodes_in all
      → IsReached l.trees.bytes.now l.trees.nodes.items all l.items.next l.asked;
}

abbrev pub decreases-commands : goal.decreases-commands
decreases-commands l = l.items.end - l.items.next
