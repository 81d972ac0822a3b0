-- A judgement whose antecedent nothing satisfies holds, whatever else it says.
use Rattle.std.proofs.Common.{List}
use Rattle.heap_formula.specs.declared.commands.Command.{Command}
use Rattle.heap_formula.specs.declared.judgements.Judgement.{Judgement}
use Rattle.heap_formula.specs.declared.judgements.Judgement.TheVariants.{Entail, Term}
use Rattle.heap_formula.specs.Definitions.{Definition}
use Rattle.heap_formula.specs.Judgements.{JudgementHolds, antecedent}
use Rattle.pair_family.specs.Statements.{IsSatisfiable}

pub impossible_holds : (ds : List Definition) (lines : List Command) (judgement : Judgement)
    → ¬ IsSatisfiable ds (antecedent judgement) → JudgementHolds ds lines judgement
impossible_holds ds lines (Entail a bs) none = λ s h satisfied. absurd (none (s, h, satisfied))
impossible_holds ds lines (Term i a) none = λ w some s part rest h union satisfied. absurd (none (s, part, satisfied))
