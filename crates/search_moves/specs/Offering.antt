-- What the next goal of a partial derivation is offered.
use Rattle.std.specs.Prelude.{ℕ, List, [], ◌∷◌, take, Bool, true, false, ◌&&◌, if◌then◌else◌}
use Rattle.cyc_basics.specs.declared.limits.TheConstants.{MOST_LINKS}
use Rattle.heap_formula.specs.declared.commands.Command.{Command}
use Rattle.heap_formula.specs.declared.judgements.Judgement.{Judgement}
use Rattle.heap_formula.specs.declared.judgements.Judgement.TheVariants.{Entail, Term as Runs}
use Rattle.heap_formula.specs.declared.proof_rules.Link.{Link}
use Rattle.heap_formula.specs.declared.proof_rules.Rule.{Rule}
use Rattle.rule_table.specs.RuleBook.{variables_of, leaves_nothing}
use Rattle.back_links.specs.Listing.{links}
use Rattle.search_moves.specs.Places.{each_place}
use Rattle.cyc_basics.specs.Words.{or_else}
use Rattle.search_moves.specs.Trying.{Theory}
use Rattle.search_moves.specs.declared.setting.GoalSetting.{GoalSetting}
use Rattle.search_moves.specs.Settings.{theory_of}
use Rattle.search_moves.specs.Nodes.{OpenGoal, MadeNode, judgement_of}
use Rattle.search_moves.specs.Entailments.{entailment_before, entailment_after}
use Rattle.search_moves.specs.States.{has_rule, is_unfold, works_on, state_before, state_after}

-- ---- links

abbrev pub is_entailment : Judgement → Bool
is_entailment (Entail a bs) = true
is_entailment (Runs i a) = false

-- a node that a bud with this judgement may link back to
abbrev pub is_companion : Judgement → MadeNode → Bool
is_companion (Entail a bs) node = is_entailment (judgement_of node) && has_rule is_unfold node.reason
is_companion (Runs i a) node = works_on i node

-- the first links to node k, a companion with this judgement; in a program with an end none if an atom would be over
abbrev pub whole_links : ℕ → List Command → Judgement → ℕ → Judgement → List Link
whole_links most lines j k companion =
    if leaves_nothing lines j companion then take most (links j companion k (variables_of lines j)) else []

-- the first links to the node
abbrev pub links_to : ℕ → List Command → Judgement → ℕ → MadeNode → List Link
links_to most lines j k node = if is_companion j node then whole_links most lines j k (judgement_of node) else []

-- those that are to be tried
abbrev pub tried_links : List Command → Judgement → ℕ → MadeNode → List Link
tried_links lines j k node = links_to MOST_LINKS lines j k node

-- by companion, in order; of each the first ones, up to a limit
abbrev pub candidates : List Command → List MadeNode → Judgement → List Link
candidates lines nodes j = each_place (tried_links lines j) nodes

-- ---- rules

-- what goes before links
abbrev pub rules_before : Theory → Judgement → List Rule
rules_before t (Entail a bs) = entailment_before t (Entail a bs) a
rules_before t (Runs i a) = state_before t (Runs i a) i a

-- what comes where no link is admitted; node v is above the goal
abbrev pub rules_after : Theory → List MadeNode → ℕ → Judgement → List Rule
rules_after t nodes v (Entail a bs) = entailment_after t (Entail a bs) a bs
rules_after t nodes v (Runs i a) = state_after t nodes v (Runs i a) i a

-- the same of a setting's judgement
abbrev pub rules_behind : GoalSetting → List MadeNode → ℕ → List Rule
rules_behind at nodes v = rules_after (theory_of at) nodes v at.judgement.now

-- ---- offers

abbrev pub unless_some : {X Y : Type 0} → List X → List Y → List Y
unless_some [] ys = ys
unless_some (x ∷ xs) ys = []

-- the links to be tried, none where a rule goes before them
abbrev pub links_offered : Theory → List MadeNode → OpenGoal → List Link
links_offered t nodes g =
    unless_some (rules_before t g.premise.judgement) (candidates t.lines nodes g.premise.judgement)

-- the rules that are offered where no link is admitted
abbrev pub rules_offered : Theory → List MadeNode → OpenGoal → List Rule
rules_offered t nodes g =
    or_else (rules_before t g.premise.judgement) (rules_after t nodes g.parent g.premise.judgement)
