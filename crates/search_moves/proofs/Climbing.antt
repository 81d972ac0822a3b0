-- One step up from a node.
use Rattle.std.proofs.Common.{◌≡◌, ℕ, suc, ◌-◌, ◌<◌, Bool, false, List, Some, None, slice_get, arith, ap, ◌∙◌}
use Rattle.search_moves.specs.Nodes.{MadeNode}
use Rattle.search_moves.specs.States.{has_rule, by_exec, climb_by, climbs}
use Rattle.search_moves.specs.Ways.{said_by}
use Rattle.search_moves.specs.declared.ways.Way.{Way}

before : (n : ℕ) → 0 < n → n ≡ suc (n - 1)
before n h = omega arith

climbed : (nodes : List MadeNode) (n v : ℕ) → 0 < n
    → climbs nodes n v ≡ climb_by (climbs nodes (n - 1)) (slice_get nodes v)
climbed nodes n v some = ap (λ k. climbs nodes k v) (before n some)

-- the rule of node v says so
pub says_so : (nodes : List MadeNode) (n v : ℕ) (node : MadeNode) (way : Way) → 0 < n → slice_get nodes v ≡ Some node
    → ((above : Bool) → has_rule (by_exec above) node.reason ≡ said_by above way)
    → climbs nodes n v ≡ said_by (climbs nodes (n - 1) node.goal.parent) way
says_so nodes n v node way some at says =
    climbed nodes n v some ∙ ap (climb_by (climbs nodes (n - 1))) at ∙ says (climbs nodes (n - 1) node.goal.parent)

-- there is no node v
pub none_says : (nodes : List MadeNode) (n v : ℕ) → 0 < n → slice_get nodes v ≡ None → climbs nodes n v ≡ false
none_says nodes n v some at = climbed nodes n v some ∙ ap (climb_by (climbs nodes (n - 1))) at
