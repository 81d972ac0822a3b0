-- The nodes of a proof graph as those of a partial derivation.
use Rattle.std.specs.Prelude.{ℕ, ◌≡◌, zero, suc, List, [], ◌∷◌, take, Bool, false, nat_eq, if◌then◌else◌}
use Rattle.std.specs.Prelude.{Option, Some, None, slice_get}
use Rattle.std.specs.List.{list_any}
use Rattle.heap_formula.specs.declared.judgements.Judgement.{Judgement}
use Rattle.heap_formula.specs.declared.proof_rules.Reason.{Reason}
use Rattle.heap_formula.specs.declared.proof_rules.Reason.TheVariants.{Step}
use Rattle.heap_formula.specs.declared.proof_rules.Link.{Link}
use Rattle.heap_formula.specs.declared.proof_rules.Rule.{Rule}
use Rattle.heap_formula.specs.declared.proof_rules.Rule.TheVariants.{Done}
use Rattle.proof_graph.specs.declared.nodes.GraphPremise.{GraphPremise}
use Rattle.proof_graph.specs.declared.nodes.GraphNode.{GraphNode}
use Rattle.search_moves.specs.Nodes.{OpenGoal, MadeNode}
use Rattle.search_moves.specs.Offering.{links_offered, rules_offered}
use Rattle.search_moves.specs.Places.{each_place}
use Rattle.search_moves.specs.Trying.{Theory}

abbrev pub is_number : ℕ → Option ℕ → Bool
is_number v None = false
is_number v (Some u) = nat_eq u v

-- node v proves one of the premises
abbrev pub fills : ℕ → List GraphPremise → Bool
fills v premises = list_any (λ (premise : GraphPremise). is_number v premise.slot) premises

abbrev pub fills_one : ℕ → Option GraphNode → Bool
fills_one v None = false
fills_one v (Some node) = fills v node.premises

-- among the first n nodes, the last one of which node v proves a premise; node 0 where there is none
abbrev pub parent_among : List GraphNode → ℕ → ℕ → ℕ
parent_among nodes zero v = 0
parent_among nodes (suc n) v = if fills_one v (slice_get nodes n) then n else parent_among nodes n v

abbrev pub parent_of : List GraphNode → ℕ → ℕ
parent_of nodes v = parent_among nodes v v

-- node v with its judgement as a goal; its depth and its place do not matter for what is offered
abbrev pub goal_with : List GraphNode → ℕ → Judgement → OpenGoal
goal_with nodes v j =
    record { parent = parent_of nodes v; place = 0; depth = 0; premise = record { judgement = j; pairs = [] } }

-- a node without a reason offers as little as one that is closed
abbrev pub reason_or_done : Option Reason → Reason
reason_or_done None = Step Done
reason_or_done (Some reason) = reason

abbrev pub made_of : List GraphNode → ℕ → GraphNode → MadeNode
made_of nodes v node = record { goal = goal_with nodes v node.judgement; reason = reason_or_done node.reason }

-- the nodes before a goal
abbrev pub made_before : List GraphNode → ℕ → List MadeNode
made_before nodes goal = each_place (λ v node. made_of nodes v node ∷ []) (take goal nodes)

-- these links and these rules are offered to the goal, a node of the graph
abbrev pub OffersLinks : Theory → List GraphNode → ℕ → List Link → Type 0
OffersLinks t nodes goal links = (node : GraphNode) × (slice_get nodes goal ≡ Some node)
    × (links ≡ links_offered t (made_before nodes goal) (goal_with nodes goal node.judgement))

abbrev pub OffersRules : Theory → List GraphNode → ℕ → List Rule → Type 0
OffersRules t nodes goal rules = (node : GraphNode) × (slice_get nodes goal ≡ Some node)
    × (rules ≡ rules_offered t (made_before nodes goal) (goal_with nodes goal node.judgement))
