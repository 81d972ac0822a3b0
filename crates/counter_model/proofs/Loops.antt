-- Steps of loops over lists.
use Rattle.std.proofs.Common.{◌≡◌, ℕ, zero, suc, ◌+◌, ◌<◌, ◌≤◌, List, [], ◌∷◌, ◌++◌, length, drop, get_or, drop-cons}
use Rattle.std.proofs.Common.{Bool, true, false, ◌||◌, sym, ◌∙◌, subst, inl, inr, ◌⊎◌, arith}
use Rattle.std.specs.Prelude.{IsTrue}
use Rattle.heap_formula.specs.Words.{Each, OneOf}
use Rattle.heap_formula.proofs.SomeMember.{one_front, one_last}
use Rattle.cyc_basics.proofs.Places.{drop_read}
use Rattle.std.proofs.lemmas.List.{drop_all}

-- what is among the rest, or done, still is when one more is done
pub turn : {X M N : Type 0} (Q : X → Type 0) (xs : List X) (i : ℕ) (x : X) → i < length xs → x ≡ get_or xs i x
    → ((M ⊎ Q x) → N) → (M ⊎ OneOf Q (drop i xs)) → (N ⊎ OneOf Q (drop (i + 1) xs))
turn {M = M} {N = N} Q xs i x l e f o =
    let s = drop_read xs i x l e in
    let p : M ⊎ (Q x ⊎ OneOf Q (drop (i + 1) xs)) = subst (λ ys. M ⊎ OneOf Q ys) s o in
    elim p as (λ z. N ⊎ OneOf Q (drop (i + 1) xs)) [
      | inl m ↦ inl (f (inl m))
      | inr q ↦ elim q as (λ z. N ⊎ OneOf Q (drop (i + 1) xs)) [ inl a ↦ inl (f (inr a)) | inr r ↦ inr r ]
    ]

-- at the end all is done
pub done : {X M : Type 0} (Q : X → Type 0) (xs : List X) (i : ℕ) → length xs ≤ i → (M ⊎ OneOf Q (drop i xs)) → M
done {M = M} Q xs i h o =
    let p : M ⊎ ⊥ = subst (λ ys. M ⊎ OneOf Q ys) (drop_all i xs h) o in
    elim p as (λ z. M) [ inl m ↦ m | inr b ↦ absurd b ]

pub one_at : {X : Type 0} (P : X → Type 0) (xs : List X) (i : ℕ) (x : X) → i < length xs → x ≡ get_or xs i x → P x
    → OneOf P xs
one_at P [] i x h e p = absurd (omega arith)
one_at P (y ∷ ys) zero x h e p = inl (subst P e p)
one_at P (y ∷ ys) (suc i) x h e p = inr (one_at P ys i x (omega arith) e p)

-- a list with one more member at its end
pub pushed : {X : Type 0} (P : X → Type 0) (old new : List X) (x : X) → new ≡ old ++ x ∷ [] → (OneOf P old ⊎ P x)
    → OneOf P new
pushed P old new x e o = subst (OneOf P) (sym e) (elim o as (λ z. OneOf P (old ++ x ∷ []))
    [ inl a ↦ one_front P old (x ∷ []) a | inr p ↦ one_last P old x p ])

-- a test that fails for a member of the rest
pub one_fails : {X : Type 0} (P : X → Type 0) (xs : List X) (i : ℕ) (d : X) (b : Bool) → i < length xs → b ≡ false
    → (P (get_or xs i d) → IsTrue b) → Each P (drop i xs) → ⊥
one_fails P xs i d b l e f a =
    let s = drop-cons xs i d l in
    let p : Each P (get_or xs i d ∷ drop (suc i) xs) = subst (Each P) s a in
    let t : b ≡ true = f p.0 in
    let z : true ≡ false = sym t ∙ e in
    cc

-- the two branches of `grown || more`
pub either_true : (grown more both : Bool) → grown ≡ true → both ≡ grown → both ≡ (grown || more)
either_true grown more both g b = rw g (b ∙ g)

pub either_false : (grown more both : Bool) → grown ≡ false → both ≡ more → both ≡ (grown || more)
either_false grown more both g b = rw g b
