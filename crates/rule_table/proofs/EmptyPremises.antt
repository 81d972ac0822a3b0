-- Where nothing is left to show, all that is asked of premises holds.
use Rattle.std.proofs.Common.{List, [], ◌∷◌}
use Rattle.heap_formula.specs.declared.atoms.Pure.{Pure}
use Rattle.heap_formula.specs.declared.atoms.Spatial.{Spatial}
use Rattle.heap_formula.specs.declared.judgements.Premise.{Premise}
use Rattle.rule_table.specs.Fits.{OnPremises}
use Rattle.rule_table.specs.Table.{are_empty}

pub empty_on : (P : Premise → Type 0) (xs : List Spatial) (ps : List Pure) (ys : List Spatial)
    → OnPremises P (are_empty xs ps ys)
empty_on P [] [] [] = tt
empty_on P [] [] (y ∷ ys) = tt
empty_on P [] (p ∷ ps) ys = tt
empty_on P (x ∷ xs) ps ys = tt
