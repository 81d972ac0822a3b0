-- Judgements and rules of a program.
use Rattle.std.specs.Prelude.{◌≡◌, ℕ, List, false}
use Rattle.goto_lang.specs.Lines.{IsLineOf}
use Rattle.heap_formula.specs.declared.commands.Command.{Command}
use Rattle.heap_formula.specs.declared.judgements.Judgement.{Judgement}
use Rattle.heap_formula.specs.declared.judgements.Judgement.TheVariants.{Entail, Term as Runs}
use Rattle.heap_formula.specs.declared.judgements.Premise.{Premise}
use Rattle.heap_formula.specs.declared.proof_rules.Rule.{Rule}
use Rattle.heap_formula.specs.declared.proof_rules.Rule.TheVariants.{Exec, Drop}
use Rattle.heap_formula.specs.Programs.{has_ends}

-- where the judgement speaks of runs, they are from one of n lines
abbrev pub IsWithinLines : ℕ → Judgement → Type 0
IsWithinLines n (Entail a bs) = Unit {0}
IsWithinLines n (Runs i a) = IsLineOf n i

abbrev pub IsPremiseWithin : ℕ → Premise → Type 0
IsPremiseWithin n premise = IsWithinLines n premise.judgement

-- what the rule gives at judgements on another program is sound on this one too: Exec follows the other one's commands,
-- and Drop would be missed at an end
abbrev pub SuitsProgram : List Command → Rule → Type 0
SuitsProgram lines Exec = ⊥
SuitsProgram lines (Drop k) = has_ends lines ≡ false
SuitsProgram lines _ = Unit {0}
