-- What is tried before links, line by line.
use Rattle.std.specs.Prelude.{◌≡◌, ℕ, List, [], ◌∷◌, ◌++◌}
use Rattle.search_moves.specs.Places.{each_place, first_that}
use Rattle.cyc_basics.specs.Words.{or_else}
use Rattle.fo_formula.specs.declared.atoms.FoAtom.{FoAtom}
use Rattle.fo_formula.specs.declared.nodes.FoRule.{FoRule}
use Rattle.fo_formula.specs.declared.sequents.FoSequent.{FoSequent}
use Rattle.fo_formula.specs.declared.theory.FoTheory.{FoTheory}
use Rattle.fo_search.specs.declared.moves.before.Line.{Line}
use Rattle.fo_search.specs.declared.moves.before.Line.TheVariants.{Axioms, Refls, Clashes, Decompositions, Replacements}
use Rattle.fo_search.specs.Trying.{is_applicable}
use Rattle.fo_search.specs.Before.{axioms_with, refl_at, clash_at, decompose_at, replace_at}

-- the rules of a line for the atom at a place, where these are the atoms on the right
abbrev pub line_at : List FoAtom → Line → ℕ → FoAtom → List FoRule
line_at right Axioms i x = axioms_with right i x
line_at right Refls j y = refl_at j y
line_at right Clashes i x = clash_at i x
line_at right Decompositions i x = decompose_at i x
line_at right Replacements i x = replace_at i x

-- rules for an atom, whichever it is, come behind those so far
abbrev pub AddsForAny : (FoAtom → List FoRule) → List FoRule → List FoRule → Type 0
AddsForAny rules old new = (x : FoAtom) → new ≡ old ++ rules x

-- the atoms for which a line has rules
abbrev pub atoms_on : FoSequent → Line → List FoAtom
atoms_on s Axioms = s.left
atoms_on s Refls = s.right
atoms_on s Clashes = s.left
atoms_on s Decompositions = s.left
atoms_on s Replacements = s.left

-- the rules of a line, with and without a fault
abbrev pub rules_on : FoSequent → Line → List FoRule
rules_on s line = each_place (line_at s.right line) (atoms_on s line)

-- the first of these lines that applies
abbrev pub offered_from : FoTheory → FoSequent → List Line → List FoRule
offered_from t s [] = []
offered_from t s (line ∷ lines) = or_else (first_that (is_applicable t s) (rules_on s line)) (offered_from t s lines)
