-- Where the first terms of a word end.
use Rattle.std.proofs.Common.{◌≡◌, ℕ, zero, suc, ◌-◌, ◌<◌, List, [], ◌∷◌, ◌++◌, ◌∙◌, arith, append_assoc}
use Rattle.fo_formula.specs.declared.atoms.FoAtom.{FoAtom}
use Rattle.fo_formula.specs.declared.atoms.FoAtom.TheVariants.{Equation}
use Rattle.fo_formula.specs.Words.{Word, first_term, after_first}
use Rattle.fo_formula.specs.Table.{equations}

-- one more equation is written
pub equations_step : (all more : List FoAtom) (m : ℕ) (a b c d : Word) (x : FoAtom) (whole : List FoAtom) → 0 < m
    → more ≡ all ++ x ∷ [] → x ≡ Equation (first_term a) (first_term b) → c ≡ after_first a → d ≡ after_first b
    → all ++ equations m a b ≡ whole → more ++ equations (m - 1) c d ≡ whole
equations_step all more zero a b c d x whole h p q r s e = absurd (omega arith)
equations_step all more (suc m) a b c d x whole h p q r s e =
    let z : suc m - 1 ≡ m = omega arith in
    (λ i. p i ++ equations (z i) (r i) (s i)) ∙ append_assoc all (x ∷ []) (equations m (after_first a) (after_first b))
    ∙ (λ i. all ++ (q i ∷ equations m (after_first a) (after_first b))) ∙ e
