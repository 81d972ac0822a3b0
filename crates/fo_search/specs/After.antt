-- The rules that come where no link is admitted.
use Rattle.std.specs.Prelude.{ℕ, List, [], ◌∷◌, ◌++◌, map, Bool, true, ◌||◌}
use Rattle.std.specs.List.{filter, list_any, list_all}
use Rattle.search_moves.specs.Places.{each_place}
use Rattle.fo_formula.specs.declared.atoms.FoAtom.{FoAtom}
use Rattle.fo_formula.specs.declared.atoms.FoAtom.TheVariants.{Equation, Predicate}
use Rattle.fo_formula.specs.declared.nodes.FoRule.{FoRule}
use Rattle.fo_formula.specs.declared.nodes.FoRule.TheVariants.{Unfold, Right}
use Rattle.fo_formula.specs.declared.numbers.Kind.TheVariants.{Locals}
use Rattle.fo_formula.specs.declared.sequents.FoSequent.{FoSequent}
use Rattle.fo_formula.specs.declared.theory.FoTheory.{FoTheory}
use Rattle.fo_formula.specs.Bounds.{atoms_bound}
use Rattle.fo_formula.specs.Meaning.{cases_of}
use Rattle.fo_formula.specs.Words.{Word}
use Rattle.fo_formula.specs.Table.{case_body}
use Rattle.fo_formula.specs.Tests.{same_word, same_atom}
use Rattle.fo_search.specs.Subterms.{subterms, lists_of}
use Rattle.fo_search.specs.Trying.{is_applicable}

-- an equation has equal sides or stands on the left
abbrev pub holds_by : List FoAtom → FoAtom → Bool
holds_by left (Equation l r) = same_word l r || list_any (same_atom (Equation l r)) left
holds_by left (Predicate p ts) = true

-- each equation of the case does, where these terms are its locals
abbrev pub suits : List FoAtom → List Word → List FoAtom → List Word → Bool
suits left args case terms = list_all (holds_by left) (case_body args terms case)

-- the terms for the locals of a case
abbrev pub choices : FoSequent → List Word → List FoAtom → List (List Word)
choices s args case = filter (suits s.left args case) (lists_of (atoms_bound Locals case) (subterms s))

-- case c of right atom j with each choice
abbrev pub rights_by : FoSequent → ℕ → List Word → ℕ → List FoAtom → List FoRule
rights_by s j args c case = map (Right j c) (choices s args case)

-- the cases of right atom j
abbrev pub rights_at : FoTheory → FoSequent → ℕ → FoAtom → List FoRule
rights_at t s j (Equation l r) = []
rights_at t s j (Predicate p args) = each_place (rights_by s j args) (cases_of t.definitions p)

abbrev pub unfold_at : ℕ → FoAtom → List FoRule
unfold_at i (Equation l r) = []
unfold_at i (Predicate p args) = Unfold i ∷ []

-- by atom on the right, by case, by terms; then by atom on the left; those without a fault
abbrev pub rules_after : FoTheory → FoSequent → List FoRule
rules_after t s = filter (is_applicable t s) (each_place (rights_at t s) s.right ++ each_place unfold_at s.left)
