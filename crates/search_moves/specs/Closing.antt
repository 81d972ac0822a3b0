-- Which rules leave nothing to be shown.
use Rattle.std.specs.Prelude.{ℕ, ◌≡◌, List, [], ◌∷◌, length, Bool, true, false, nat_lt, Option, Some, None, slice_get}
use Rattle.std.specs.Prelude.{Ok, Err}
use Rattle.std.specs.List.{filter}
use Rattle.heap_formula.specs.declared.atoms.Spatial.{Spatial}
use Rattle.heap_formula.specs.declared.atoms.Spatial.TheVariants.{Cell, Pred}
use Rattle.heap_formula.specs.declared.judgements.Judgement.{Judgement}
use Rattle.heap_formula.specs.declared.proof_rules.Rule.{Rule}
use Rattle.heap_formula.specs.declared.proof_rules.Rule.TheVariants.{Absurd, Rewrite, Split, Distinct, Weaken, Unfold}
use Rattle.heap_formula.specs.declared.proof_rules.Rule.TheVariants.{Cut, Done, Choose, PureRight, Instantiate, Frame}
use Rattle.heap_formula.specs.declared.proof_rules.Rule.TheVariants.{UnfoldRight, Exec, Drop}
use Rattle.heap_formula.specs.Definitions.{Definition}
use Rattle.heap_formula.specs.Judgements.{antecedent}
use Rattle.heap_formula.specs.Meaning.{cases_of}
use Rattle.rule_table.specs.Answer.{Answer}
use Rattle.rule_table.specs.RuleBook.{rule_answer}
use Rattle.search_moves.specs.Trying.{Theory}
use Rattle.search_moves.specs.declared.setting.GoalSetting.{GoalSetting}
use Rattle.search_moves.specs.Settings.{theory_of}
use Rattle.search_moves.specs.Nodes.{OpenGoal, MadeNode}
use Rattle.search_moves.specs.Offering.{rules_behind, rules_offered}

abbrev pub has_no_premise : Answer → Bool
has_no_premise (Ok []) = true
has_no_premise (Ok (p ∷ ps)) = false
has_no_premise (Err f) = false

-- the rule has no fault at the judgement, and no premise
abbrev pub closes : Theory → Judgement → Rule → Bool
closes t j rule = has_no_premise (rule_answer t.most t.definitions t.lines j rule)

-- ---- rules of which this is told without their premises

-- an atom that Unfold gives a premise, if it may be unfolded
abbrev pub has_case : List Definition → Spatial → Bool
has_case ds (Cell t ts) = true
has_case ds (Pred q ts) = nat_lt 0 (length (cases_of ds q))

abbrev pub has_case_if : List Definition → Option Spatial → Bool
has_case_if ds None = true
has_case_if ds (Some x) = has_case ds x

-- the rule leaves premises, if it has no fault
abbrev pub leaves : List Definition → Judgement → Rule → Bool
leaves ds j Absurd = false
leaves ds j (Rewrite k side) = true
leaves ds j (Split t u) = true
leaves ds j (Distinct i k) = true
leaves ds j (Weaken k) = true
leaves ds j (Unfold k) = has_case_if ds (slice_get (antecedent j).spatial k)
leaves ds j (Cut places f) = true
leaves ds j Done = false
leaves ds j (Choose k) = true
leaves ds j (PureRight k) = true
leaves ds j (Instantiate v t) = true
leaves ds j (Frame i k) = true
leaves ds j (UnfoldRight k c) = true
leaves ds j Exec = false
leaves ds j (Drop k) = true

-- ---- offers

-- the same rules of both lists leave nothing to be shown
abbrev pub CloseAlike : Theory → Judgement → List Rule → List Rule → Type 0
CloseAlike t j rules rules' = filter (closes t j) rules ≡ filter (closes t j) rules'

-- some of the rules that are offered, in their order
abbrev pub IsPart : List Rule → List Rule → Type 0
IsPart rules offered = (kept : Rule → Bool) × (rules ≡ filter kept offered)

-- these rules come where no link is admitted, but for some that leave premises; node v is above the goal
abbrev pub BehindClosing : GoalSetting → List MadeNode → ℕ → List Rule → Type 0
BehindClosing at nodes v rules = CloseAlike (theory_of at) at.judgement.now rules (rules_behind at nodes v)

-- each of these rules comes there, and in their order
abbrev pub BehindPart : GoalSetting → List MadeNode → ℕ → List Rule → Type 0
BehindPart at nodes v rules = IsPart rules (rules_behind at nodes v)

-- these rules are offered to the goal, but for some that leave premises
abbrev pub OffersClosing : Theory → List MadeNode → OpenGoal → List Rule → Type 0
OffersClosing t nodes g rules = CloseAlike t g.premise.judgement rules (rules_offered t nodes g)

-- each of these rules is offered to the goal, and they come in the order of the offers
abbrev pub OffersPart : Theory → List MadeNode → OpenGoal → List Rule → Type 0
OffersPart t nodes g rules = IsPart rules (rules_offered t nodes g)
