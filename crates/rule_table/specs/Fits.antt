-- Trace pairs join predicate atoms.
use Rattle.std.specs.Prelude.{◌≡◌, ℕ, List, Some, Ok, Err, slice_get}
use Rattle.heap_formula.specs.declared.terms.Term.{Term}
use Rattle.heap_formula.specs.declared.atoms.Spatial.{Spatial}
use Rattle.heap_formula.specs.declared.atoms.Spatial.TheVariants.{Pred}
use Rattle.heap_formula.specs.declared.judgements.Judgement.{Judgement}
use Rattle.heap_formula.specs.declared.judgements.Pair.{Pair}
use Rattle.heap_formula.specs.declared.judgements.Premise.{Premise}
use Rattle.heap_formula.specs.Words.{Each}
use Rattle.heap_formula.specs.Judgements.{antecedent}
use Rattle.rule_table.specs.Answer.{Answer}

-- a predicate atom stands at the place
abbrev pub IsPredAt : List Spatial → ℕ → Type 0
IsPredAt xs k = (q : ℕ) × (ts : List Term) × (slice_get xs k ≡ Some (Pred q ts))

-- each pair joins predicate atoms of the two lists
abbrev pub PairsFit : List Spatial → List Spatial → List Pair → Type 0
PairsFit olds news pairs = Each (λ p. IsPredAt olds p.old × IsPredAt news p.new) pairs

-- each pair joins predicate atoms of the judgement's antecedent and of the premise's
abbrev pub PremiseFits : Judgement → Premise → Type 0
PremiseFits j premise = PairsFit (antecedent j).spatial (antecedent premise.judgement).spatial premise.pairs

-- P holds of each premise of the answer
abbrev pub OnPremises : (Premise → Type 0) → Answer → Type 0
OnPremises P (Ok ps) = Each P ps
OnPremises P (Err f) = Unit {0}
