-- The rules that go before links.
use Rattle.std.specs.Prelude.{ℕ, List, [], ◌∷◌}
use Rattle.heap_formula.specs.declared.proof_rules.Side.TheVariants.{Left as TheLeft, Right as TheRight}
use Rattle.search_moves.specs.Places.{each_place, first_line, first_that}
use Rattle.fo_formula.specs.declared.atoms.FoAtom.{FoAtom}
use Rattle.fo_formula.specs.declared.nodes.FoRule.{FoRule}
use Rattle.fo_formula.specs.declared.nodes.FoRule.TheVariants.{Axiom, Refl, Clash, Decompose, Replace}
use Rattle.fo_formula.specs.declared.sequents.FoSequent.{FoSequent}
use Rattle.fo_formula.specs.declared.theory.FoTheory.{FoTheory}
use Rattle.fo_search.specs.Trying.{is_applicable}

abbrev pub axiom_at : ℕ → ℕ → FoAtom → List FoRule
axiom_at i j y = Axiom i j ∷ []

-- left atom i with each on the right
abbrev pub axioms_with : List FoAtom → ℕ → FoAtom → List FoRule
axioms_with right i x = each_place (axiom_at i) right

abbrev pub axioms : FoSequent → List FoRule
axioms s = each_place (axioms_with s.right) s.left

abbrev pub refl_at : ℕ → FoAtom → List FoRule
refl_at j y = Refl j ∷ []

abbrev pub clash_at : ℕ → FoAtom → List FoRule
clash_at i x = Clash i ∷ []

abbrev pub decompose_at : ℕ → FoAtom → List FoRule
decompose_at i x = Decompose i ∷ []

-- the left side first
abbrev pub replace_at : ℕ → FoAtom → List FoRule
replace_at i x = Replace i TheLeft ∷ Replace i TheRight ∷ []

-- by an equation on the left
abbrev pub equation_lines : FoTheory → FoSequent → List (List FoRule)
equation_lines t s =
    first_that (is_applicable t s) (each_place clash_at s.left) ∷
    first_that (is_applicable t s) (each_place decompose_at s.left) ∷
    first_that (is_applicable t s) (each_place replace_at s.left) ∷ []

abbrev pub lines_before : FoTheory → FoSequent → List (List FoRule)
lines_before t s =
    first_that (is_applicable t s) (axioms s) ∷
    first_that (is_applicable t s) (each_place refl_at s.right) ∷
    equation_lines t s

-- the first line that applies
abbrev pub rules_before : FoTheory → FoSequent → List FoRule
rules_before t s = first_line (lines_before t s)
