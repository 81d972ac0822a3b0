-- Judgements at lines of a program.
use Rattle.std.specs.Prelude.{ℕ}
use Rattle.goto_lang.specs.Lines.{IsLineOf}
use Rattle.heap_formula.specs.declared.judgements.Judgement.{Judgement}
use Rattle.heap_formula.specs.declared.judgements.Judgement.TheVariants.{Entail, Term as Runs}
use Rattle.heap_formula.specs.declared.judgements.Premise.{Premise}

-- the judgement speaks of the runs from one of n lines, or of no line
abbrev pub IsAtLine : ℕ → Judgement → Type 0
IsAtLine n (Entail a bs) = Unit {0}
IsAtLine n (Runs i a) = IsLineOf n i

abbrev pub IsPremiseAtLine : ℕ → Premise → Type 0
IsPremiseAtLine n premise = IsAtLine n premise.judgement
