-- A word is read as terms in one way.
use Rattle.std.proofs.Common.{◌≡◌, ℕ, zero, suc, ◌+◌, [], ◌∷◌, ◌++◌, take, drop, refl, sym, subst, arith}
use Rattle.fo_formula.specs.declared.terms.Sign.{Sign}
use Rattle.fo_formula.specs.Words.{Word, arity, AreTerms, IsTerm, end_of, first_term, after_first}

-- of two words that begin with as many terms, and are one, these terms and the rests are one
pub terms_apart : (n : ℕ) (a c b d : Word) → AreTerms n a → AreTerms n c → a ++ b ≡ c ++ d → (a ≡ c) × (b ≡ d)
terms_apart zero [] [] b d h k e = (refl, e)
terms_apart zero [] (t ∷ c) b d h k e = absurd k
terms_apart zero (s ∷ a) c b d h k e = absurd h
terms_apart (suc n) [] c b d h k e = absurd h
terms_apart (suc n) (s ∷ a) [] b d h k e = absurd k
terms_apart (suc n) (s ∷ a) (t ∷ c) b d h k e =
    let same : s ≡ t = cc in
    let rest : a ++ b ≡ c ++ d = cc in
    let k' : AreTerms (arity s + n) c = subst (λ (x : Sign). AreTerms (arity x + n) c) (sym same) k in
    let r = terms_apart (arity s + n) a c b d h k' rest in (λ i. same i ∷ r.0 i, r.1)

-- m + n terms are m terms and n terms
pub terms_split : (m n : ℕ) (w : Word) → AreTerms (m + n) w
    → AreTerms m (take (end_of m w) w) × AreTerms n (drop (end_of m w) w)
terms_split zero n w h = let z : 0 + n ≡ n = omega arith in (tt, subst (λ i. AreTerms i w) z h)
terms_split (suc m) n [] h =
    let z : suc m + n ≡ suc (m + n) = omega arith in absurd (subst (λ i. AreTerms i []) z h)
terms_split (suc m) n (s ∷ w) h =
    let z : suc m + n ≡ suc (m + n) = omega arith in
    let y : arity s + (m + n) ≡ (arity s + m) + n = omega arith in
    let q : AreTerms (arity s + (m + n)) w = subst (λ i. AreTerms i (s ∷ w)) z h in
    terms_split (arity s + m) n w (subst (λ i. AreTerms i w) y q)

pub first_split : (n : ℕ) (w : Word) → AreTerms (suc n) w → IsTerm (first_term w) × AreTerms n (after_first w)
first_split n w h = let z : suc n ≡ 1 + n = omega arith in terms_split 1 n w (subst (λ i. AreTerms i w) z h)
