-- An answer that is sound: at premises, the rule is locally sound.
use Rattle.std.specs.Prelude.{ℕ, ◌≤◌, ◌<◌, List, Ok, Err}
use Rattle.heap_formula.specs.declared.commands.Command.{Command}
use Rattle.heap_formula.specs.declared.judgements.Judgement.{Judgement}
use Rattle.heap_formula.specs.declared.judgements.Judgement.TheVariants.{Entail, Term as Runs}
use Rattle.heap_formula.specs.declared.commands.Command.TheVariants.{Assign, Load, Store, New, Free, IfEq, IfNeq, IfAny}
use Rattle.heap_formula.specs.declared.commands.Command.TheVariants.{Goto, Stop, Ends}
use Rattle.heap_formula.specs.Closedness.{IsUniversal, IsUniversalHeap}
use Rattle.heap_formula.specs.Judgements.{antecedent}
use Rattle.heap_formula.specs.declared.judgements.Premise.{Premise}
use Rattle.heap_formula.specs.declared.proof_rules.Rule.{Rule}
use Rattle.heap_formula.specs.declared.proof_rules.Rule.TheVariants.{Split}
use Rattle.heap_formula.specs.Words.{Each}
use Rattle.heap_formula.specs.declared.terms.Term.{Term}
use Rattle.heap_formula.specs.Definitions.{Definition}
use Rattle.heap_formula.specs.Programs.{program_variables}
use Rattle.heap_formula.specs.Judgements.{IsLocallySound}
use Rattle.rule_table.specs.Answer.{Answer}

-- where the answer is premises, the judgement holds if they do
abbrev pub IsSound : List Definition → List Command → Judgement → Answer → Type 0
IsSound ds lines j (Ok ps) = IsLocallySound ds lines j ps
IsSound ds lines j (Err f) = Unit {0}

-- a `from` judgement's program has at most p variables; an entailment speaks of no program
abbrev pub HasVariables : List Command → ℕ → Judgement → Type 0
HasVariables lines p (Entail a bs) = Unit {0}
HasVariables lines p (Runs i a) = program_variables lines ≤ p

-- a command as programs have it: its terms outside ends are variables or nil, and a new cell has fields
abbrev pub IsCommand : Command → Type 0
IsCommand (Assign x t) = IsUniversal t
IsCommand (Load x t k) = IsUniversal t
IsCommand (Store t k u) = IsUniversal t × IsUniversal u
IsCommand (New x k) = 0 < k
IsCommand (Free t) = IsUniversal t
IsCommand (IfEq t u j) = IsUniversal t × IsUniversal u
IsCommand (IfNeq t u j) = IsUniversal t × IsUniversal u
IsCommand (IfAny j) = Unit {0}
IsCommand (Goto j) = Unit {0}
IsCommand Stop = Unit {0}
IsCommand (Ends bs) = Unit {0}

-- the substitution's values are no existentials
abbrev pub AreUniversal : List (ℕ × Term) → Type 0
AreUniversal s = Each (λ pair. IsUniversal pair.1) s

-- what a rule's own terms must be: the terms of a Split are no existentials
abbrev pub HasUniversalTerms : Rule → Type 0
HasUniversalTerms (Split t u) = IsUniversal t × IsUniversal u
HasUniversalTerms _ = Unit {0}

-- no existential stands in the premise's antecedent
abbrev pub IsUniversalPremise : Premise → Type 0
IsUniversalPremise premise = IsUniversalHeap (antecedent premise.judgement)
