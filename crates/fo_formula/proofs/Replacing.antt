-- Words in place of signs.
use Rattle.std.proofs.Common.{◌≡◌, ◌↔◌, ℕ, zero, suc, ◌+◌, List, [], ◌∷◌, ◌++◌, map, refl, sym, ap, ◌∙◌, subst, arith}
use Rattle.std.proofs.Common.{append_assoc}
use Rattle.heap_formula.specs.Words.{Each}
use Rattle.fo_formula.specs.declared.terms.Sign.{Sign}
use Rattle.fo_formula.specs.declared.terms.Sign.TheVariants.{Universal, Local, Constructor}
use Rattle.fo_formula.specs.declared.atoms.FoAtom.{FoAtom}
use Rattle.fo_formula.specs.declared.atoms.FoAtom.TheVariants.{Equation, Predicate}
use Rattle.fo_formula.specs.declared.theory.Constructor.{Constructor as ConstructorValue}
use Rattle.fo_formula.specs.Words.{Word, arity, AreTerms, IsTerm, replaced, in_atom, first_constant}
use Rattle.fo_formula.specs.Values.{IsConstructor, IsClosedSign, IsClosedTerm, IsValuation, entry, sign_value, value}
use Rattle.fo_formula.specs.Meaning.{Family, AtomHolds}
use Rattle.fo_formula.specs.Shapes.{IsOpenSign, IsOpenTerm}
use Rattle.heap_formula.proofs.AllMembers.{each_append, each_or}

pub replaced-append : (f : Sign → Word) (a b : Word) → replaced f (a ++ b) ≡ replaced f a ++ replaced f b
replaced-append f [] b = refl
replaced-append f (s ∷ a) b =
    ap (λ w. f s ++ w) (replaced-append f a b) ∙ sym (append_assoc (f s) (replaced f a) (replaced f b))

pub replaced-twice : (f g : Sign → Word) (w : Word) → replaced f (replaced g w) ≡ replaced (λ s. replaced f (g s)) w
replaced-twice f g [] = refl
replaced-twice f g (s ∷ w) =
    replaced-append f (g s) (replaced g w) ∙ ap (λ u. replaced f (g s) ++ u) (replaced-twice f g w)

pub replaced-same : (f g : Sign → Word) (w : Word) → Each (λ s. f s ≡ g s) w → replaced f w ≡ replaced g w
replaced-same f g [] e = refl
replaced-same f g (s ∷ w) e = λ i. e.0 i ++ replaced-same f g w e.1 i

-- a fact of each sign of an atom
abbrev pub InAtom : (Sign → Type 0) → FoAtom → Type 0
InAtom Q (Equation l r) = Each Q l × Each Q r
InAtom Q (Predicate p ts) = Each (Each Q) ts

-- ---- values after a replacement

module _ (v e v' e' : List Word) (g : Sign → Word) where
  -- what stands in the sign's place has the value that the sign has under the other valuations
  abbrev pub IsValued : Sign → Type 0
  IsValued s = value v e (g s) ≡ sign_value v' e' s

  pub value-replaced : (w : Word) → Each IsValued w → value v e (replaced g w) ≡ value v' e' w
  value-replaced w h =
      replaced-twice (sign_value v e) g w ∙ replaced-same (λ s. value v e (g s)) (sign_value v' e') w h

  pub values-replaced : (ts : List Word) → Each (Each IsValued) ts
      → map (value v e) (map (replaced g) ts) ≡ map (value v' e') ts
  values-replaced [] h = refl
  values-replaced (t ∷ ts) h = λ i. value-replaced t h.0 i ∷ values-replaced ts h.1 i

  pub atom-replaced : (P : Family) (x : FoAtom) → InAtom IsValued x → AtomHolds P v e (in_atom g x)
      ↔ AtomHolds P v' e' x
  atom-replaced P (Equation l r) h =
      let a = value-replaced l h.0 in
      let b = value-replaced r h.1 in
      (λ same. sym a ∙ same ∙ b, λ same. a ∙ same ∙ sym b)
  atom-replaced P (Predicate p ts) h =
      let a = values-replaced ts h in (λ o. subst (P p) a o, λ o. subst (P p) (sym a) o)

-- ---- what stays a term

-- with the sign's place filled, a word goes on as it did with the sign
abbrev pub Keeps : (Sign → Word) → Sign → Type 0
Keeps f s = (n : ℕ) (w : Word) → AreTerms (arity s + n) w → AreTerms (suc n) (f s ++ w)

pub terms-replaced : (f : Sign → Word) (n : ℕ) (w : Word) → Each (Keeps f) w → AreTerms n w → AreTerms n (replaced f w)
terms-replaced f zero [] k h = tt
terms-replaced f zero (s ∷ w) k h = absurd h
terms-replaced f (suc n) [] k h = absurd h
terms-replaced f (suc n) (s ∷ w) k h = k.0 n (replaced f w) (terms-replaced f (arity s + n) w k.1 h)

pub terms-append : (m n : ℕ) (a b : Word) → AreTerms m a → AreTerms n b → AreTerms (m + n) (a ++ b)
terms-append zero n [] b h k = let z : n ≡ 0 + n = omega arith in subst (λ i. AreTerms i b) z k
terms-append zero n (s ∷ a) b h k = absurd h
terms-append (suc m) n [] b h k = absurd h
terms-append (suc m) n (s ∷ a) b h k =
    let r = terms-append (arity s + m) n a b h k in
    let e : (arity s + m) + n ≡ arity s + (m + n) = omega arith in
    let z : suc (m + n) ≡ suc m + n = omega arith in
    let q : AreTerms (suc (m + n)) (s ∷ (a ++ b)) = subst (λ i. AreTerms i (a ++ b)) e r in
    subst (λ i. AreTerms i (s ∷ (a ++ b))) z q

pub term_keeps : (t : Word) (n : ℕ) (w : Word) → IsTerm t → AreTerms (0 + n) w → AreTerms (suc n) (t ++ w)
term_keeps t n w h k =
    let z : 0 + n ≡ n = omega arith in
    let y : 1 + n ≡ suc n = omega arith in
    subst (λ i. AreTerms i (t ++ w)) y (terms-append 1 n t w h (subst (λ i. AreTerms i w) z k))

-- ---- values are closed terms

module _ (cs : List ConstructorValue) (constant : IsConstructor cs 0 0) where
  pub constant_closed : IsClosedTerm cs first_constant
  constant_closed = (tt, (constant, tt))

  pub entry_closed : (v : List Word) → IsValuation cs v → (n : ℕ) → IsClosedTerm cs (entry v n)
  entry_closed v h n = each_or (IsClosedTerm cs) v first_constant h constant_closed n

  pub sign_keeps : (v e : List Word) → IsValuation cs v → IsValuation cs e → (s : Sign) → Keeps (sign_value v e) s
  sign_keeps v e h k (Universal m) n w a = term_keeps (entry v m) n w (entry_closed v h m).0 a
  sign_keeps v e h k (Local m) n w a = term_keeps (entry e m) n w (entry_closed e k m).0 a
  sign_keeps v e h k (Constructor c i) n w a = a

  signs_keep : (v e : List Word) → IsValuation cs v → IsValuation cs e → (w : Word) → Each (Keeps (sign_value v e)) w
  signs_keep v e h k [] = tt
  signs_keep v e h k (s ∷ w) = (sign_keeps v e h k s, signs_keep v e h k w)

  pub value_terms : (v e : List Word) → IsValuation cs v → IsValuation cs e → (n : ℕ) (w : Word) → AreTerms n w
      → AreTerms n (value v e w)
  value_terms v e h k n w a = terms-replaced (sign_value v e) n w (signs_keep v e h k w) a

  closed_signs : (v e : List Word) → IsValuation cs v → (w : Word) → Each (IsOpenSign cs) w
      → Each (IsClosedSign cs) (value v e w)
  closed_signs v e h [] a = tt
  closed_signs v e h (Universal m ∷ w) a =
      each_append (IsClosedSign cs) (entry v m) (value v e w) (entry_closed v h m).1 (closed_signs v e h w a.1)
  closed_signs v e h (Local m ∷ w) a = absurd a.0
  closed_signs v e h (Constructor c k ∷ w) a = (a.0, closed_signs v e h w a.1)

  pub value_closed : (v : List Word) → IsValuation cs v → (w : Word) → IsOpenTerm cs w → IsClosedTerm cs (value v [] w)
  value_closed v h w a = (value_terms v [] h tt 1 w a.0, closed_signs v [] h w a.1)

  pub values_closed : (v : List Word) → IsValuation cs v → (ts : List Word) → Each (IsOpenTerm cs) ts
      → IsValuation cs (map (value v []) ts)
  values_closed v h [] a = tt
  values_closed v h (t ∷ ts) a = (value_closed v h t a.0, values_closed v h ts a.1)
