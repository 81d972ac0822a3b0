-- What is offered to a goal has no fault.
use Rattle.std.specs.Prelude.{◌≡◌, List, Some, None, true, slice_get}
use Rattle.heap_formula.specs.declared.judgements.Judgement.{Judgement}
use Rattle.heap_formula.specs.declared.proof_rules.Link.{Link}
use Rattle.heap_formula.specs.declared.proof_rules.Rule.{Rule}
use Rattle.rule_table.specs.RuleBook.{program_link_fault}
use Rattle.search_moves.specs.Nodes.{MadeNode, judgement_of}
use Rattle.search_moves.specs.Trying.{Theory, is_applicable}

-- the rule has premises at the judgement
abbrev pub HasPremises : Theory → Judgement → Rule → Type 0
HasPremises t j rule = is_applicable t j rule ≡ true

-- the link leads from the judgement to one of the nodes, and has no fault there
abbrev pub IsLinked : Theory → List MadeNode → Judgement → Link → Type 0
IsLinked t nodes j link =
    (node : MadeNode) × (slice_get nodes link.target ≡ Some node)
    × (program_link_fault t.lines j (judgement_of node) link ≡ None)
