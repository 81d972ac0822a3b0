-- The laws of the least meaning.
use Rattle.std.proofs.Common.{◌≡◌, ℕ, zero, suc, ◌+◌, ◌-◌, ◌≤◌, List, [], ◌∷◌, map, subst, arith, inl, inr}
use Rattle.heap_formula.specs.Words.{Each, OneOf}
use Rattle.fo_formula.specs.declared.atoms.FoAtom.{FoAtom}
use Rattle.fo_formula.specs.declared.atoms.FoAtom.TheVariants.{Equation, Predicate}
use Rattle.fo_formula.specs.declared.theory.FoTheory.{FoTheory}
use Rattle.fo_formula.specs.Words.{Word}
use Rattle.fo_formula.specs.Values.{value}
use Rattle.fo_formula.specs.Meaning.{Family, AtomHolds, CaseHolds, cases_of, at_stage, least}
use Rattle.heap_formula.proofs.AllMembers.{each_imply}
use Rattle.heap_formula.proofs.StageLaws.{OneOf-map}

-- one meaning is within another
abbrev pub Within : Family → Family → Type 0
Within P Q = (p : ℕ) (vs : List Word) → P p vs → Q p vs

pub atom_within : (P Q : Family) → Within P Q → (v e : List Word) (x : FoAtom) → AtomHolds P v e x → AtomHolds Q v e x
atom_within P Q w v e (Equation l r) a = a
atom_within P Q w v e (Predicate p ts) a = w p (map (value v e) ts) a

pub atoms_within : (P Q : Family) → Within P Q → (v e : List Word) (xs : List FoAtom) → Each (AtomHolds P v e) xs
    → Each (AtomHolds Q v e) xs
atoms_within P Q w v e xs a = each_imply (AtomHolds P v e) (AtomHolds Q v e) (atom_within P Q w v e) xs a

pub case_within : (t : FoTheory) (P Q : Family) → Within P Q → (vs : List Word) (case : List FoAtom)
    → CaseHolds t P vs case → CaseHolds t Q vs case
case_within t P Q w vs case c = (c.0, c.1, atoms_within P Q w vs c.0 case c.2)

module _ (t : FoTheory) where
  -- what holds at a stage holds at the next
  pub stage_next : (n : ℕ) → Within (at_stage t n) (at_stage t (suc n))
  stage_next zero p vs a = absurd a
  stage_next (suc n) p vs a =
      OneOf-map (CaseHolds t (at_stage t n) vs) (CaseHolds t (at_stage t (suc n)) vs)
      (case_within t (at_stage t n) (at_stage t (suc n)) (stage_next n) vs) (cases_of t.definitions p) a

  pub stage_add : (m d : ℕ) → Within (at_stage t m) (at_stage t (m + d))
  stage_add m zero p vs a = let e : m ≡ m + 0 = omega arith in subst (λ n. at_stage t n p vs) e a
  stage_add m (suc d) p vs a =
      let e : suc (m + d) ≡ m + suc d = omega arith in
      subst (λ n. at_stage t n p vs) e (stage_next (m + d) p vs (stage_add m d p vs a))

  pub stage_le : (m n : ℕ) → m ≤ n → Within (at_stage t m) (at_stage t n)
  stage_le m n le p vs a =
      let e : m + (n - m) ≡ n = omega arith in subst (λ k. at_stage t k p vs) e (stage_add m (n - m) p vs a)

  -- one stage serves a whole list of atoms
  pub one_stage : (v e : List Word) (xs : List FoAtom) → Each (AtomHolds (least t) v e) xs
      → (n : ℕ) × Each (AtomHolds (at_stage t n) v e) xs
  one_stage v e [] a = (0, tt)
  one_stage v e (Equation l r ∷ xs) a = let s = one_stage v e xs a.1 in (s.0, (a.0, s.1))
  one_stage v e (Predicate p ts ∷ xs) a =
      let s = one_stage v e xs a.1 in
      let n = a.0.0 + s.0 in (
        n,
        (
          stage_add a.0.0 s.0 p (map (value v e) ts) a.0.1,
          atoms_within (at_stage t s.0) (at_stage t n) (stage_le s.0 n (omega arith)) v e xs s.1,
        ),
      )

  case_stage : (vs : List Word) (case : List FoAtom) → CaseHolds t (least t) vs case
      → (n : ℕ) × CaseHolds t (at_stage t n) vs case
  case_stage vs case c = let s = one_stage vs c.0 case c.2 in (s.0, (c.0, c.1, s.1))

  one_out : (vs : List Word) (cases : List (List FoAtom)) → OneOf (CaseHolds t (least t) vs) cases
      → (n : ℕ) × OneOf (CaseHolds t (at_stage t n) vs) cases
  one_out vs [] o = absurd o
  one_out vs (c ∷ cases) (inl a) = let s = case_stage vs c a in (s.0, inl s.1)
  one_out vs (c ∷ cases) (inr o) = let s = one_out vs cases o in (s.0, inr s.1)

  -- the least meaning is closed under every case
  pub least-IsClosed : (p : ℕ) (vs : List Word) → OneOf (CaseHolds t (least t) vs) (cases_of t.definitions p)
      → least t p vs
  least-IsClosed p vs o = let s = one_out vs (cases_of t.definitions p) o in (suc s.0, s.1)

  -- what the least meaning holds of, a case holds of
  pub least-opens : (p : ℕ) (vs : List Word) → least t p vs
      → OneOf (CaseHolds t (least t) vs) (cases_of t.definitions p)
  least-opens p vs a = opened a.0 a.1
    where
      opened : (n : ℕ) → at_stage t n p vs → OneOf (CaseHolds t (least t) vs) (cases_of t.definitions p)
      opened zero b = absurd b
      opened (suc n) b =
          OneOf-map (CaseHolds t (at_stage t n) vs) (CaseHolds t (least t) vs)
          (case_within t (at_stage t n) (least t) (λ q us x. (n, x)) vs) (cases_of t.definitions p) b
