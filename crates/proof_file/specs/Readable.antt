-- Nodes and commands as the grammar lets them through: universal variables alone in an antecedent, in the terms of a
-- reason and in a command.
use Rattle.std.specs.Prelude.{ℕ, Bool, true, ◌&&◌, List, length, nat_lt, nat_le}
use Rattle.std.specs.List.{list_all}
use Rattle.cyc_basics.specs.declared.limits.TheConstants.{MOST_CASES}
use Rattle.heap_formula.specs.declared.commands.Command.{Command}
use Rattle.heap_formula.specs.declared.commands.Command.TheVariants as commands
use Rattle.heap_formula.specs.declared.judgements.Judgement.{Judgement}
use Rattle.heap_formula.specs.declared.judgements.Judgement.TheVariants.{Entail, Term as Halting}
use Rattle.heap_formula.specs.declared.proof_rules.Rule.{Rule}
use Rattle.heap_formula.specs.declared.proof_rules.Rule.TheVariants.{Split, Instantiate}
use Rattle.heap_formula.specs.declared.proof_rules.Reason.{Reason}
use Rattle.heap_formula.specs.declared.proof_rules.Reason.TheVariants.{Step, Back}
use Rattle.heap_formula.specs.Definitions.{Definition}
use Rattle.heap_formula.specs.Judgements.{antecedent}
use Rattle.rule_table.specs.Tests.{is_universal, is_universal_heap}
use Rattle.proof_file.specs.FileNodes.{FileNode}

abbrev pub is_universal_rule : Rule → Bool
is_universal_rule (Split t u) = is_universal t && is_universal u
is_universal_rule (Instantiate v t) = is_universal t
is_universal_rule _ = true

abbrev pub is_universal_reason : Reason → Bool
is_universal_reason (Step rule) = is_universal_rule rule
is_universal_reason (Back link) = list_all (λ pair. is_universal pair.1) link.subst

abbrev pub is_readable : FileNode → Bool
is_readable n = is_universal_heap (antecedent n.judgement) && is_universal_reason n.reason

abbrev pub are_readable : List FileNode → Bool
are_readable ns = list_all is_readable ns

-- no existential variable stands in the command; those of an end are bound in it
abbrev pub is_universal_command : Command → Bool
is_universal_command (commands.Assign x t) = is_universal t
is_universal_command (commands.Load x t k) = is_universal t
is_universal_command (commands.Store t k u) = is_universal t && is_universal u
is_universal_command (commands.New x k) = true
is_universal_command (commands.Free t) = is_universal t
is_universal_command (commands.IfEq t u j) = is_universal t && is_universal u
is_universal_command (commands.IfNeq t u j) = is_universal t && is_universal u
is_universal_command (commands.IfAny j) = true
is_universal_command (commands.Goto j) = true
is_universal_command commands.Stop = true
is_universal_command (commands.Ends bs) = true

abbrev pub are_universal_commands : List Command → Bool
are_universal_commands cs = list_all is_universal_command cs

-- a judgement that starts from a line names one of so many
abbrev pub is_at_line : ℕ → Judgement → Bool
is_at_line count (Entail a bs) = true
is_at_line count (Halting i a) = nat_lt 0 i && nat_le i count

abbrev pub are_at_lines : ℕ → List FileNode → Bool
are_at_lines count ns = list_all (λ n. is_at_line count n.judgement) ns

-- a predicate has at most as many cases as in any version
abbrev pub has_few_cases : Definition → Bool
has_few_cases d = nat_le (length d.cases) MOST_CASES

abbrev pub all_have_few_cases : List Definition → Bool
all_have_few_cases ds = list_all has_few_cases ds
