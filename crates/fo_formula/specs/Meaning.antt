-- What atoms mean, under the least meaning of the definitions.
use Rattle.std.specs.Prelude.{◌≡◌, ℕ, zero, suc, List, [], ◌∷◌, map}
use Rattle.heap_formula.specs.Words.{Each, OneOf}
use Rattle.fo_formula.specs.declared.atoms.FoAtom.{FoAtom}
use Rattle.fo_formula.specs.declared.atoms.FoAtom.TheVariants.{Equation, Predicate}
use Rattle.fo_formula.specs.declared.theory.FoDefinition.{FoDefinition}
use Rattle.fo_formula.specs.declared.theory.FoTheory.{FoTheory}
use Rattle.fo_formula.specs.Words.{Word}
use Rattle.fo_formula.specs.Values.{IsValuation, value}

-- a meaning of the predicates: what each number holds of
abbrev pub Family : Type 1
Family = ℕ → List Word → Type 0

-- an atom holds under a valuation and values of the locals, where the predicates mean P; two closed terms are equal
-- where they are the same
abbrev pub AtomHolds : Family → List Word → List Word → FoAtom → Type 0
AtomHolds P v e (Equation l r) = value v e l ≡ value v e r
AtomHolds P v e (Predicate p ts) = P p (map (value v e) ts)

-- the cases of a predicate, none where there is no such predicate
abbrev pub cases_of : List FoDefinition → ℕ → List (List FoAtom)
cases_of [] p = []
cases_of (d ∷ ds) zero = d.cases
cases_of (d ∷ ds) (suc p) = cases_of ds p

-- a case holds of values, for some values of its locals, where the predicates mean P
abbrev pub CaseHolds : FoTheory → Family → List Word → List FoAtom → Type 0
CaseHolds t P vs case =
    (locals : List Word) × IsValuation t.constructors locals × Each (AtomHolds P vs locals) case

-- at stage 0 a predicate holds of nothing; at stage n + 1 where some case holds with its predicates at stage n
abbrev pub at_stage : FoTheory → ℕ → Family
at_stage t zero p vs = ⊥
at_stage t (suc n) p vs = OneOf (CaseHolds t (at_stage t n) vs) (cases_of t.definitions p)

-- a predicate holds where it holds at some stage
abbrev pub least : FoTheory → Family
least t p vs = (n : ℕ) × at_stage t n p vs
