-- The first formula that is not constructive.
use Rattle.std.proofs.Common.{◌≡◌, ℕ, zero, suc, ◌+◌, ◌<◌, List, [], ◌∷◌, ◌++◌, length, take, get_or, Bool, true, false}
use Rattle.std.proofs.Common.{sym, ap, subst, ◌∙◌, arith}
use Rattle.std.specs.Prelude.{◌↔◌, IsTrue}
use Rattle.std.proofs.lemmas.Bool.{both_ways}
use Rattle.std.proofs.lemmas.List.{take_more}
use Rattle.heap_formula.specs.Symbolic.{SymbolicHeap}
use Rattle.heap_formula.specs.Definitions.{Definition}
use Rattle.heap_formula.specs.Words.{Each}
use Rattle.model_check.specs.Constructive.{IsConstructive, AreConstructive}
use Rattle.model_check.specs.FirstPlaces.{IsFirstBad, IsFirstBadCase}
use Rattle.heap_formula.proofs.AllMembers.{each_last}

-- those before a place are constructive, and the one there is not
pub bad_at : (xs : List SymbolicHeap) (i : ℕ) (x : SymbolicHeap) → i < length xs → x ≡ get_or xs i x
    → Each IsConstructive (take i xs) → ¬ IsConstructive x → IsFirstBad xs i
bad_at [] i x h e a n = absurd (omega arith)
bad_at (y ∷ xs) zero x h e a n = subst (λ z. ¬ IsConstructive z) e n
bad_at (y ∷ xs) (suc i) x h e a n = (a.0, bad_at xs i x (omega arith) e a.1 n)

pub bad_case_at : (ds : List Definition) (p c : ℕ) (d : Definition) → p < length ds → d ≡ get_or ds p d
    → AreConstructive (take p ds) → IsFirstBad d.cases c → IsFirstBadCase ds p c
bad_case_at [] p c d h e a b = absurd (omega arith)
bad_case_at (y ∷ ds) zero c d h e a b = subst (λ z. IsFirstBad z.cases c) e b
bad_case_at (y ∷ ds) (suc p) c d h e a b = (a.0, bad_case_at ds p c d (omega arith) e a.1 b)

-- as the code has it
pub bad_here : (xs : List SymbolicHeap) (i n : ℕ) (x : SymbolicHeap) (b : Bool) → i < length xs → x ≡ get_or xs i x
    → Each IsConstructive (take i xs) → IsTrue b ↔ IsConstructive x → b ≡ false → n ≡ i → IsFirstBad xs n
bad_here xs i n x b h e a k f w = subst (IsFirstBad xs) (sym w) (bad_at xs i x h e a (λ y. both_ways b f (k.1 y)))

pub good_here : (xs : List SymbolicHeap) (i : ℕ) (x : SymbolicHeap) (b : Bool) → i < length xs → x ≡ get_or xs i x
    → Each IsConstructive (take i xs) → IsTrue b ↔ IsConstructive x → b ≡ true → Each IsConstructive (take (i + 1) xs)
good_here xs i x b h e a k t = subst (Each IsConstructive)
    (sym (take_more xs i x h ∙ ap (λ y. take i xs ++ y ∷ []) (sym e)))
    (each_last IsConstructive (take i xs) x a (k.0 t))

pub bad_case_here : (ds : List Definition) (p c : ℕ) (d : Definition) (bs : List SymbolicHeap) → p < length ds
    → d ≡ get_or ds p d → AreConstructive (take p ds) → bs ≡ d.cases → IsFirstBad bs c → IsFirstBadCase ds p c
bad_case_here ds p c d bs h e a w b = bad_case_at ds p c d h e a (subst (λ xs. IsFirstBad xs c) w b)
