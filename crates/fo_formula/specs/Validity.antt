-- When a sequent holds.
use Rattle.std.specs.Prelude.{ℕ, zero, suc, List, [], ◌∷◌}
use Rattle.heap_formula.specs.Words.{Each, OneOf}
use Rattle.heap_formula.specs.Meaning.{Stages}
use Rattle.fo_formula.specs.declared.atoms.FoAtom.{FoAtom}
use Rattle.fo_formula.specs.declared.sequents.FoSequent.{FoSequent}
use Rattle.fo_formula.specs.declared.theory.FoTheory.{FoTheory}
use Rattle.fo_formula.specs.Words.{Word}
use Rattle.fo_formula.specs.Values.{IsValuation}
use Rattle.fo_formula.specs.Meaning.{Family, AtomHolds, at_stage, least}

-- each valuation that satisfies all atoms on the left satisfies some atom on the right
abbrev pub SequentHolds : FoTheory → FoSequent → Type 0
SequentHolds t s =
    (v : List Word) → IsValuation t.constructors v → Each (AtomHolds (least t) v []) s.left
    → OneOf (AtomHolds (least t) v []) s.right

-- all atoms hold under a valuation; P k is the meaning of the predicates at place k
abbrev pub LeftHolds : (ℕ → Family) → List Word → List FoAtom → Type 0
LeftHolds P v [] = Unit {0}
LeftHolds P v (x ∷ xs) = AtomHolds (P zero) v [] x × LeftHolds (λ k. P (suc k)) v xs

-- the sequent is true of those valuations that satisfy its left atoms at these stages, one for each place; the entry at
-- an equation says nothing
abbrev pub HoldsAt : FoTheory → Stages → FoSequent → Type 0
HoldsAt t stages s =
    (v : List Word) → IsValuation t.constructors v → LeftHolds (λ k. at_stage t (stages k)) v s.left
    → OneOf (AtomHolds (least t) v []) s.right
