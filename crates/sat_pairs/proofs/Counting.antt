-- Numbers from i on, one by one.
use Rattle.std.proofs.Common.{◌≡◌, ℕ, suc, ◌+◌, ◌-◌, ◌*◌, ◌<◌, List, [], ◌∷◌, ◌++◌, map, arith, sym, ap, ◌∙◌}
use Rattle.pair_family.specs.Classes.{term_number}
use Rattle.heap_formula.specs.Fresh.{variables_from}
use Rattle.pair_family.proofs.ByAtom.{append_three}
use Rattle.sat_pairs.specs.Numbers.{count_from}

pub count_step : (out next W : List ℕ) (i n : ℕ) → i < n → out ++ count_from i (n - i) ≡ W → next ≡ out ++ (i ∷ [])
    → next ++ count_from (i + 1) (n - (i + 1)) ≡ W
count_step out next W i n l e f =
    let m : n - i ≡ suc (n - (i + 1)) = omega arith in
    let s : i + 1 ≡ suc i = omega arith in
    ap (λ z. z ++ count_from (i + 1) (n - (i + 1))) f
    ∙ (sym (append_three out (i ∷ []) (count_from (i + 1) (n - (i + 1))))
    ∙ (ap (λ z. out ++ (i ∷ count_from z (n - (i + 1)))) s ∙ (ap (λ z. out ++ count_from i z) (sym m) ∙ e)))

pub parameter_step : (out next W : List ℕ) (i n : ℕ) → i < n → out ++ map term_number (variables_from i (n - i)) ≡ W
    → next ≡ out ++ ((2 * i + 1) ∷ []) → next ++ map term_number (variables_from (i + 1) (n - (i + 1))) ≡ W
parameter_step out next W i n l e f =
    let m : n - i ≡ suc (n - (i + 1)) = omega arith in
    let s : i + 1 ≡ suc i = omega arith in
    let rest = map term_number (variables_from (i + 1) (n - (i + 1))) in
    ap (λ z. z ++ rest) f ∙ (sym (append_three out ((2 * i + 1) ∷ []) rest)
    ∙ (ap (λ z. out ++ ((2 * i + 1) ∷ map term_number (variables_from z (n - (i + 1))))) s
    ∙ (ap (λ z. out ++ map term_number (variables_from i z)) (sym m) ∙ e)))
