-- What no flaw says of the parts.
use Rattle.std.proofs.Common.{◌≡◌, ℕ, zero, suc, ◌+◌, ◌<◌, ◌≤◌, Bool, true, false, List, [], ◌∷◌, length, Some, None}
use Rattle.std.proofs.Common.{refl, ap, ◌∙◌, arith}
use Rattle.std.specs.Prelude.{nat_lt, nat_le, nat_eq}
use Rattle.std.proofs.lemmas.Bool.{ltb-false, leb-false}
use Rattle.heap_formula.specs.Words.{Each}
use Rattle.cyc_lex.specs.declared.fault.IllFault.{IllFault}
use Rattle.cyc_lex.specs.declared.fault.What.{What}
use Rattle.heap_reader.specs.Flaws.{Found, ill_if, over_if, or_later, listed_flaw}

pub neither : (a b : Found) → or_later a b ≡ None → (a ≡ None) × (b ≡ None)
neither None b e = (refl, e)
neither (Some f) b e = absurd cc

pub none_later : (a b : Found) → a ≡ None → b ≡ None → or_later a b ≡ None
none_later a b e f = ap (λ (o : Found). or_later o b) e ∙ f

pub not_over : (b : Bool) (what : What) (k : ℕ) → over_if b what k ≡ None → b ≡ false
not_over true what k e = absurd cc
not_over false what k e = refl

pub not_ill : (b : Bool) (fault : IllFault) (k : ℕ) → ill_if b fault k ≡ None → b ≡ false
not_ill true fault k e = absurd cc
not_ill false fault k e = refl

pub at_most : (n m : ℕ) → nat_lt n m ≡ false → m ≤ n
at_most n m e = ltb-false n m e

pub below : (n m : ℕ) → nat_le n m ≡ false → m < n
below n m e = leb-false n m e

pub positive : (n : ℕ) → nat_eq n 0 ≡ false → 0 < n
positive zero e = absurd cc
positive (suc n) e = omega arith

-- ---- lists

pub each_of : {X : Type 0} (flaw : ℕ → ℕ → X → Found) (span : X → ℕ) (Q : X → Type 0)
    → ((n k : ℕ) (x : X) → flaw n k x ≡ None → Q x) → (n k : ℕ) (xs : List X) → listed_flaw flaw span n k xs ≡ None
    → Each Q xs
each_of flaw span Q one n k [] e = tt
each_of flaw span Q one n k (x ∷ xs) e =
    let both = neither (flaw n k x) (listed_flaw flaw span (suc n) (k + span x) xs) e in
    (one n k x both.0, each_of flaw span Q one (suc n) (k + span x) xs both.1)

few_of : {X : Type 0} (flaw : ℕ → ℕ → X → Found) (span : X → ℕ) (most : ℕ)
    → ((n k : ℕ) (x : X) → flaw n k x ≡ None → n < most) → (n k : ℕ) (xs : List X) → n ≤ most
    → listed_flaw flaw span n k xs ≡ None → n + length xs ≤ most
few_of flaw span most one n k [] h e = omega arith
few_of flaw span most one n k (x ∷ xs) h e =
    let both = neither (flaw n k x) (listed_flaw flaw span (suc n) (k + span x) xs) e in
    let lt = one n k x both.0 in
    let rest = few_of flaw span most one (suc n) (k + span x) xs (omega arith) both.1 in
    omega arith

-- all of them, where none stand before
pub few_all : {X : Type 0} (flaw : ℕ → ℕ → X → Found) (span : X → ℕ) (most : ℕ)
    → ((n k : ℕ) (x : X) → flaw n k x ≡ None → n < most) → (k : ℕ) (xs : List X) → listed_flaw flaw span 0 k xs ≡ None
    → length xs ≤ most
few_all flaw span most one k xs e = let r = few_of flaw span most one 0 k xs (omega arith) e in omega arith
