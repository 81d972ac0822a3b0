-- Rewrite is sound.
use Rattle.std.proofs.Common.{◌≡◌, ℕ, zero, suc, Bool, true, false, List, [], ◌∷◌, refl, sym, ap, ◌∙◌, cond}
use Rattle.std.proofs.lemmas.Bool.Decides.{Decides-eqb}
use Rattle.std.specs.Prelude.{slice_index, nat_eq}
use Rattle.heap_formula.specs.declared.terms.Term.{Term}
use Rattle.heap_formula.specs.declared.terms.Term.TheVariants.{Nil, Univ, Exist}
use Rattle.heap_formula.specs.declared.atoms.Pure.{Pure}
use Rattle.heap_formula.specs.declared.atoms.Pure.TheVariants.{Eq, Neq}
use Rattle.heap_formula.specs.declared.atoms.Spatial.{Spatial}
use Rattle.heap_formula.specs.declared.atoms.Spatial.TheVariants.{Cell, Pred}
use Rattle.heap_formula.specs.Symbolic.{SymbolicHeap}
use Rattle.heap_formula.specs.Words.{Each}
use Rattle.heap_formula.specs.Values.{Stack, value}
use Rattle.heap_formula.specs.Positions.{without}
use Rattle.heap_formula.specs.Closedness.{InPure, InSpatial, InHeap}
use Rattle.heap_formula.specs.Substitution.{apply_term}
use Rattle.heap_formula.proofs.AllMembers.{each_any}

abbrev pub AnyTerm : Term → Type 0
AnyTerm _ = Unit {0}

any_terms : (ts : List Term) → Each AnyTerm ts
any_terms [] = tt
any_terms (t ∷ ts) = (tt, any_terms ts)

any_pure : (x : Pure) → InPure AnyTerm x
any_pure (Eq t u) = (tt, tt)
any_pure (Neq t u) = (tt, tt)

any_spatial : (x : Spatial) → InSpatial AnyTerm x
any_spatial (Cell t ts) = (tt, any_terms ts)
any_spatial (Pred p ts) = any_terms ts

pub any_heap : (a : SymbolicHeap) → InHeap AnyTerm a
any_heap a = (each_any (InPure AnyTerm) any_pure a.pure, each_any (InSpatial AnyTerm) any_spatial a.spatial)

pub Each-without : {X : Type 0} (P : X → Type 0) (xs : List X) (k : ℕ) → Each P xs → Each P (without k xs)
Each-without P [] k e = tt
Each-without P (x ∷ xs) zero e = e.1
Each-without P (x ∷ xs) (suc k) e = (e.0, Each-without P xs k e.1)

one_pair : (b : Bool) (s e : Stack) (n v : ℕ) (u : Term) → nat_eq n v ≡ b → value s e u ≡ slice_index s v
    → value s e (cond b u (Univ n)) ≡ slice_index s n
one_pair true s e n v u test same = same ∙ ap (slice_index s) (sym ((Decides-eqb n v).0 test))
one_pair false s e n v u test same = refl

-- a variable and a term that have one value
pub value_replaced : (s e : Stack) (v : ℕ) (u : Term) → value s e u ≡ slice_index s v → (t : Term) → AnyTerm t
    → value s e (apply_term ((v, u) ∷ []) t) ≡ value s e t
value_replaced s e v u same Nil q = refl
value_replaced s e v u same (Exist n) q = refl
value_replaced s e v u same (Univ n) q = one_pair (nat_eq n v) s e n v u refl same
