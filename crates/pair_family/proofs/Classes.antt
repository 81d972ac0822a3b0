-- The classes are those of the finest partition that has the equations.
use Rattle.std.proofs.Common.{◌≡◌, ◌≢◌, ℕ, ◌⊎◌, inl, inr, List, [], ◌∷◌, arith, sym, refl, ap, ◌∙◌}
use Rattle.std.specs.Prelude.{nat_eq, if◌then◌else◌}
use Rattle.std.proofs.lemmas.Bool.Decides.{eqb_tells}
use Rattle.heap_formula.specs.declared.terms.Term.{Term}
use Rattle.heap_formula.specs.declared.terms.Term.TheVariants.{Nil, Univ, Exist}
use Rattle.heap_formula.specs.Words.{Each}
use Rattle.pair_family.specs.Classes.{term_number, merged, class_from, class_of}
use Rattle.pair_family.specs.Combination.{Two}

pub same_number : (t u : Term) → term_number t ≡ term_number u → t ≡ u
same_number Nil Nil e = refl
same_number Nil (Univ n) e = absurd (omega arith)
same_number Nil (Exist n) e = absurd (omega arith)
same_number (Univ m) Nil e = absurd (omega arith)
same_number (Univ m) (Univ n) e = let s : m ≡ n = omega arith in ap Univ s
same_number (Univ m) (Exist n) e = absurd (omega arith)
same_number (Exist m) Nil e = absurd (omega arith)
same_number (Exist m) (Univ n) e = absurd (omega arith)
same_number (Exist m) (Exist n) e = let s : m ≡ n = omega arith in ap Exist s

-- a term's class after one more equation
class_cases : (f : Term → ℕ) (q : Two) (t : Term) → ((f t ≡ f q.1) × (merged f q t ≡ f q.0))
    ⊎ ((f t ≢ f q.1) × (merged f q t ≡ f t))
class_cases f q t =
    elim (eqb_tells (f t) (f q.1)) [
      | inl y ↦ inl (y.1, rw y.0 refl)
      | inr n ↦ inr (n.1, rw n.0 refl)
    ]

merged_stays : (f : Term → ℕ) (q : Two) (t u : Term) → f t ≡ f u → merged f q t ≡ merged f q u
merged_stays f q t u e = ap (λ l. if nat_eq l (f q.1) then f q.0 else l) e

-- what was joined stays joined
class_stays : (f : Term → ℕ) (qs : List Two) (t u : Term) → f t ≡ f u → class_from f qs t ≡ class_from f qs u
class_stays f [] t u e = e
class_stays f (q ∷ qs) t u e = class_stays (merged f q) qs t u (merged_stays f q t u e)

merged_joins : (f : Term → ℕ) (q : Two) → merged f q q.0 ≡ merged f q q.1
merged_joins f q =
    let right : merged f q q.1 ≡ f q.0 = elim (class_cases f q q.1) [ inl b ↦ b.1 | inr b ↦ absurd (b.0 refl) ] in
    elim (class_cases f q q.0) [ inl a ↦ a.1 ∙ sym right | inr a ↦ a.1 ∙ sym right ]

have_from : (f : Term → ℕ) (qs : List Two) → Each (λ q. class_from f qs q.0 ≡ class_from f qs q.1) qs
have_from f [] = tt
have_from f (q ∷ qs) = (class_stays (merged f q) qs q.0 q.1 (merged_joins f q), have_from (merged f q) qs)

least_from : (v : Term → ℕ) (f : Term → ℕ) (qs : List Two) → ((t u : Term) → f t ≡ f u → v t ≡ v u)
    → Each (λ q. v q.0 ≡ v q.1) qs → (t u : Term) → class_from f qs t ≡ class_from f qs u → v t ≡ v u
least_from v f [] within has t u e = within t u e
least_from v f (q ∷ qs) within has t u e = least_from v (merged f q) qs step has.1 t u e
  where
    step : (t u : Term) → merged f q t ≡ merged f q u → v t ≡ v u
    step t u e =
        elim (class_cases f q t) [
          | inl a ↦ elim (class_cases f q u) [
            | inl b ↦ within t u (a.0 ∙ sym b.0)
            | inr b ↦ within t q.1 a.0 ∙ sym has.0 ∙ within q.0 u (sym a.1 ∙ e ∙ b.1)
          ]
          | inr a ↦ elim (class_cases f q u) [
            | inl b ↦ within t q.0 (sym a.1 ∙ e ∙ b.1) ∙ has.0 ∙ within q.1 u (sym b.0)
            | inr b ↦ within t u (sym a.1 ∙ e ∙ b.1)
          ]
        ]

-- each equation's sides are in one class
pub classes_have : (qs : List Two) → Each (λ q. class_of qs q.0 ≡ class_of qs q.1) qs
classes_have qs = have_from term_number qs

-- and the partition is the finest: whatever has the equations has what stands in one class
pub classes_least : (v : Term → ℕ) (qs : List Two) → Each (λ q. v q.0 ≡ v q.1) qs → (t u : Term)
    → class_of qs t ≡ class_of qs u → v t ≡ v u
classes_least v qs has t u e = least_from v term_number qs (λ t u s. ap v (same_number t u s)) has t u e
