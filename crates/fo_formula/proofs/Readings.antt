-- Why equations between terms clash, and come apart.
use Rattle.std.proofs.Common.{◌≡◌, ℕ, zero, suc, ◌+◌, ◌<◌, ◌≤◌, Bool, true, false, ◌&&◌, List, [], ◌∷◌, ◌++◌, length}
use Rattle.std.proofs.Common.{sym, ap, ◌∙◌, subst, arith, length-append, append-nil, inl, inr}
use Rattle.std.specs.Prelude.{nat_eq, nat_lt, not}
use Rattle.std.proofs.lemmas.List.{take-append-drop}
use Rattle.std.proofs.lemmas.Bool.{and_parts, or_cases, ltb-true, eq-eqb, and_from}
use Rattle.fo_formula.specs.declared.terms.Sign.{Sign}
use Rattle.fo_formula.specs.declared.terms.Sign.TheVariants.{Universal, Local, Constructor}
use Rattle.fo_formula.specs.declared.theory.Constructor.{Constructor as ConstructorValue}
use Rattle.fo_formula.specs.Words.{Word, AreTerms, IsTerm, end_of, first_term, after_first}
use Rattle.fo_formula.specs.Values.{IsConstructor, IsValuation, entry, sign_value, value}
use Rattle.fo_formula.specs.Meaning.{Family}
use Rattle.fo_formula.specs.Validity.{LeftHolds}
use Rattle.fo_formula.proofs.Replacing.{replaced-append, value_terms, entry_closed}
use Rattle.fo_formula.proofs.Reading.{terms_apart, first_split}
use Rattle.fo_formula.specs.Tests.{begin_differently, has_variable, is_inside, is_absurd, same_sign}
use Rattle.fo_formula.specs.Tests.{have_one_constructor}
use Rattle.fo_formula.specs.Table.{equations, argument_equations}
use Rattle.fo_formula.proofs.Reflects.{sign_is}

not_both : (b : Bool) → b ≡ true → not b ≡ true → ⊥
not_both true e f = cc
not_both false e f = cc

-- constructors that differ begin no two equal values
differ : (v : List Word) (a b : Word) → begin_differently a b ≡ true → value v [] a ≡ value v [] b → ⊥
differ v [] b t e = cc
differ v (s ∷ a) [] t e = cc
differ v (Universal m ∷ a) (x ∷ b) t e = cc
differ v (Local m ∷ a) (x ∷ b) t e = cc
differ v (Constructor c k ∷ a) (Universal n ∷ b) t e = cc
differ v (Constructor c k ∷ a) (Local n ∷ b) t e = cc
differ v (Constructor c k ∷ a) (Constructor d m ∷ b) t e =
    let p : c ≡ d = cc in
    let q : k ≡ m = cc in
    not_both (nat_eq c d && nat_eq k m) (and_from (nat_eq c d) (nat_eq k m) (eq-eqb c d p) (eq-eqb k m q)) t

term_long : (w : Word) → IsTerm w → 0 < length w
term_long [] h = absurd h
term_long (s ∷ w) h = omega arith

module _ (cs : List ConstructorValue) (constant : IsConstructor cs 0 0) (v : List Word) (ok : IsValuation cs v) where
  sign_long : (s : Sign) → 0 < length (sign_value v [] s)
  sign_long (Universal n) = term_long (entry v n) (entry_closed cs constant v ok n).0
  sign_long (Local n) = term_long (entry [] n) (entry_closed cs constant [] tt n).0
  sign_long (Constructor c k) = omega arith

  value_long : (w : Word) → length w ≤ length (value v [] w)
  value_long [] = omega arith
  value_long (s ∷ w) =
      let r = value_long w in
      let l = sign_long s in
      let a = length-append (sign_value v [] s) (value v [] w) in omega arith

  -- a word that has a variable is longer than the variable by all its other signs
  longer : (n : ℕ) (w : Word) → has_variable n w ≡ true → length (entry v n) + length w ≤ length (value v [] w) + 1
  longer n [] t = cc
  longer n (s ∷ w) t =
      let a = length-append (sign_value v [] s) (value v [] w) in
      elim (or_cases (same_sign (Universal n) s) (has_variable n w) t) [
        | inl e ↦
            let same = sign_is (Universal n) s e in
            let here : length (entry v n) ≡ length (sign_value v [] s) = ap (λ (x : Sign). length (sign_value v [] x))
            same in
            let r = value_long w in omega arith
        | inr e ↦
            let r = longer n w e in
            let l = sign_long s in omega arith
      ]

  inside : (l r : Word) → is_inside l r ≡ true → value v [] l ≡ value v [] r → ⊥
  inside [] r t e = cc
  inside (Universal n ∷ []) r t e =
      let b = and_parts (has_variable n r) (nat_lt 1 (length r)) t in
      let more = ltb-true 1 (length r) b.1 in
      let long = longer n r b.0 in
      let same : length (entry v n) ≡ length (value v [] r) = ap length (sym (append-nil (entry v n)) ∙ e) in
      absurd (omega arith)
  inside (Universal n ∷ s ∷ l) r t e = cc
  inside (Local n ∷ l) r t e = cc
  inside (Constructor c k ∷ l) r t e = cc

  -- sides that clash have no common value
  pub absurd_differ : (l r : Word) → is_absurd l r ≡ true → value v [] l ≡ value v [] r → ⊥
  absurd_differ l r t e =
      elim (or_cases (begin_differently l r) _ t) [
        | inl a ↦ differ v l r a e
        | inr b ↦ elim (or_cases (is_inside l r) (is_inside r l) b)
            [ inl a ↦ inside l r a e | inr c ↦ inside r l c (sym e) ]
      ]

  -- ---- arguments

  parts : (a : Word) → value v [] a ≡ value v [] (first_term a) ++ value v [] (after_first a)
  parts a =
      ap (value v []) (sym (take-append-drop (end_of 1 a) a))
      ∙ replaced-append (sign_value v []) (first_term a) (after_first a)

  equations_hold : (P : ℕ → Family) (k : ℕ) (a b : Word) → AreTerms k a → AreTerms k b → value v [] a ≡ value v [] b
      → LeftHolds P v (equations k a b)
  equations_hold P zero a b h i e = tt
  equations_hold P (suc k) a b h i e =
      let p = first_split k a h in
      let q = first_split k b i in
      let x = value_terms cs constant v [] ok tt 1 (first_term a) p.0 in
      let y = value_terms cs constant v [] ok tt 1 (first_term b) q.0 in
      let r = terms_apart 1 (value v [] (first_term a)) (value v [] (first_term b)) (value v [] (after_first a))
      (value v [] (after_first b)) x y (sym (parts a) ∙ e ∙ parts b) in
      (r.0, equations_hold (λ m. P (suc m)) k (after_first a) (after_first b) p.1 q.1 r.1)

  -- of equal terms with one constructor the arguments are equal
  pub arguments_hold : (P : ℕ → Family) (l r : Word) → have_one_constructor l r ≡ true → IsTerm l → IsTerm r
      → value v [] l ≡ value v [] r → LeftHolds P v (argument_equations l r)
  arguments_hold P [] r t h i e = cc
  arguments_hold P (Universal n ∷ a) [] t h i e = cc
  arguments_hold P (Universal n ∷ a) (y ∷ b) t h i e = cc
  arguments_hold P (Local n ∷ a) [] t h i e = cc
  arguments_hold P (Local n ∷ a) (y ∷ b) t h i e = cc
  arguments_hold P (Constructor c k ∷ a) [] t h i e = cc
  arguments_hold P (Constructor c k ∷ a) (Universal n ∷ b) t h i e = cc
  arguments_hold P (Constructor c k ∷ a) (Local n ∷ b) t h i e = cc
  arguments_hold P (Constructor c k ∷ a) (Constructor d m ∷ b) t h i e =
      let z : k + 0 ≡ k = omega arith in
      let same : k ≡ m = cc in
      let y : m + 0 ≡ k = omega arith in
      let rest : value v [] a ≡ value v [] b = cc in
      equations_hold P k a b (subst (λ n. AreTerms n a) z h) (subst (λ n. AreTerms n b) y i) rest
