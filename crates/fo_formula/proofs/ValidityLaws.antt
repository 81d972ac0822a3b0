-- A sequent holds exactly where it holds at all stages.
use Rattle.std.proofs.Common.{◌↔◌, ℕ, zero, suc, List, [], ◌∷◌}
use Rattle.heap_formula.specs.Words.{Each}
use Rattle.heap_formula.specs.Meaning.{Stages}
use Rattle.fo_formula.specs.declared.atoms.FoAtom.{FoAtom}
use Rattle.fo_formula.specs.declared.atoms.FoAtom.TheVariants.{Equation, Predicate}
use Rattle.fo_formula.specs.declared.sequents.FoSequent.{FoSequent}
use Rattle.fo_formula.specs.declared.theory.FoTheory.{FoTheory}
use Rattle.fo_formula.specs.Words.{Word}
use Rattle.fo_formula.specs.Meaning.{AtomHolds, at_stage, least}
use Rattle.fo_formula.specs.Validity.{SequentHolds, LeftHolds, HoldsAt}

-- a stage before others
abbrev before : ℕ → Stages → Stages
before n stages zero = n
before n stages (suc k) = stages k

module _ (t : FoTheory) (v : List Word) where
  pub staged : (xs : List FoAtom) → Each (AtomHolds (least t) v []) xs
      → (stages : Stages) × LeftHolds (λ k. at_stage t (stages k)) v xs
  staged [] h = (λ k. 0, tt)
  staged (Equation l r ∷ xs) h = let s = staged xs h.1 in (before 0 s.0, (h.0, s.1))
  staged (Predicate p ts ∷ xs) h = let s = staged xs h.1 in (before h.0.0 s.0, (h.0.1, s.1))

  pub unstaged : (xs : List FoAtom) (stages : Stages) → LeftHolds (λ k. at_stage t (stages k)) v xs
      → Each (AtomHolds (least t) v []) xs
  unstaged [] stages h = tt
  unstaged (Equation l r ∷ xs) stages h = (h.0, unstaged xs (λ k. stages (suc k)) h.1)
  unstaged (Predicate p ts ∷ xs) stages h = ((stages 0, h.0), unstaged xs (λ k. stages (suc k)) h.1)

pub holds-at_all : (t : FoTheory) (s : FoSequent) → SequentHolds t s ↔ ((stages : Stages) → HoldsAt t stages s)
holds-at_all t s = (
  λ f stages v ok h. f v ok (unstaged t v s.left stages h),
  λ f v ok h. let g = staged t v s.left h in
      f g.0 v ok g.1,
)
