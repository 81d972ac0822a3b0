-- Values of terms under longer stacks, and what atoms say then.
use Rattle.std.proofs.Common.{◌≡◌, ℕ, ◌+◌, ◌-◌, ◌≤◌, Bool, true, cond, ◌&&◌, List, [], ◌∷◌, ◌++◌, map, length, get_or}
use Rattle.std.proofs.Common.{refl, sym, ap, ◌∙◌, subst, arith, length-append, append_assoc}
use Rattle.std.proofs.Common.{leb, inl, inr}
use Rattle.std.proofs.lemmas.Bool.{le-leb}
use Rattle.std.proofs.lemmas.Bool.Decides.{leb_tells}
use Rattle.std.proofs.lemmas.List.{get_or_append_left, get_or-append-add}
use Rattle.heap_formula.specs.declared.terms.Term.{Term}
use Rattle.heap_formula.specs.declared.terms.Term.TheVariants.{Nil, Univ, Exist}
use Rattle.heap_formula.specs.declared.atoms.Pure.{Pure}
use Rattle.heap_formula.specs.declared.atoms.Pure.TheVariants.{Eq, Neq}
use Rattle.heap_formula.specs.Values.{Stack, value, values}
use Rattle.heap_formula.specs.Meaning.{PureHolds}
use Rattle.heap_formula.specs.Substitution.{in_pure}
use Rattle.heap_formula.specs.Closedness.{InPure}
use Rattle.heap_formula.specs.Words.{Each}
use Rattle.script_formulas.specs.declared.formula.ScriptAtom.{ScriptAtom}
use Rattle.script_formulas.specs.declared.formula.ScriptAtom.TheVariants.{Cell, Call}
use Rattle.script_formulas.specs.Heaps.{SortedCells, IsSortedCell, SortedStar}
use Rattle.script_formulas.specs.Meaning.{SortedFamily, SortedAtomHolds}
use Rattle.script_formulas.specs.Shifting.{shift_term, in_atom}
use Rattle.script_formulas.specs.Holding.{SeparateAtomsHold}
use Rattle.script_formulas.specs.Scope.{IsBound, InAtom}

-- a map of terms that keeps the values of these
abbrev pub Keeps : Stack → Stack → Stack → Stack → (Term → Term) → Term → Type 0
Keeps s e s' e' f t = value s' e' (f t) ≡ value s e t

pub values_kept : (s e s' e' : Stack) (f : Term → Term) (ts : List Term) → Each (Keeps s e s' e' f) ts
    → values s' e' (map f ts) ≡ values s e ts
values_kept s e s' e' f [] k = refl
values_kept s e s' e' f (t ∷ ts) k = λ i. k.0 i ∷ values_kept s e s' e' f ts k.1 i

pub pure_kept : (s e s' e' : Stack) (f : Term → Term) (p : Pure) → InPure (Keeps s e s' e' f) p
    → PureHolds s' e' (in_pure f p) ≡ PureHolds s e p
pure_kept s e s' e' f (Eq t u) k = λ i. k.0 i ≡ k.1 i
pure_kept s e s' e' f (Neq t u) k = λ i. (k.0 i ≡ k.1 i) → ⊥

pub pures_kept : (s e s' e' : Stack) (f : Term → Term) (ps : List Pure) → Each (InPure (Keeps s e s' e' f)) ps
    → Each (PureHolds s' e') (map (in_pure f) ps) ≡ Each (PureHolds s e) ps
pures_kept s e s' e' f [] k = refl
pures_kept s e s' e' f (p ∷ ps) k = λ i. pure_kept s e s' e' f p k.0 i × pures_kept s e s' e' f ps k.1 i

module _ (locations : List ℕ) (P : SortedFamily) where
  pub atom_kept : (s e s' e' : Stack) (f : Term → Term) (a : ScriptAtom) → InAtom (Keeps s e s' e' f) a
      → (h : SortedCells) → SortedAtomHolds locations P s' e' (in_atom f a) h ≡ SortedAtomHolds locations P s e a h
  atom_kept s e s' e' f (Cell t c ts) k h = λ i. IsSortedCell (get_or locations c 0) (k.0 i)
      (c ∷ values_kept s e s' e' f ts k.1 i) h
  atom_kept s e s' e' f (Call p ts) k h = λ i. P p (values_kept s e s' e' f ts k i) h

  pub atoms_kept : (s e s' e' : Stack) (f : Term → Term) (bs : List ScriptAtom) → Each (InAtom (Keeps s e s' e' f)) bs
      → (h : SortedCells) → SeparateAtomsHold locations P s' e' (map (in_atom f) bs) h
      ≡ SeparateAtomsHold locations P s e bs h
  atoms_kept s e s' e' f [] k h = refl
  atoms_kept s e s' e' f (a ∷ bs) k h = λ i. SortedStar (λ g. atom_kept s e s' e' f a k.0 g i)
      (λ g. atoms_kept s e s' e' f bs k.1 g i) h

-- ---- from facts of terms to facts of atoms

pub in_pure_imply : (P Q : Term → Type 0) → ((t : Term) → P t → Q t) → (p : Pure) → InPure P p → InPure Q p
in_pure_imply P Q g (Eq t u) k = (g t k.0, g u k.1)
in_pure_imply P Q g (Neq t u) k = (g t k.0, g u k.1)

pub each_term : (P Q : Term → Type 0) → ((t : Term) → P t → Q t) → (ts : List Term) → Each P ts → Each Q ts
each_term P Q g [] k = tt
each_term P Q g (t ∷ ts) k = (g t k.0, each_term P Q g ts k.1)

pub in_atom_imply : (P Q : Term → Type 0) → ((t : Term) → P t → Q t) → (a : ScriptAtom) → InAtom P a → InAtom Q a
in_atom_imply P Q g (Cell t c ts) k = (g t k.0, each_term P Q g ts k.1)
in_atom_imply P Q g (Call p ts) k = each_term P Q g ts k

pub each_pure_imply : (P Q : Term → Type 0) → ((t : Term) → P t → Q t) → (ps : List Pure) → Each (InPure P) ps
    → Each (InPure Q) ps
each_pure_imply P Q g [] k = tt
each_pure_imply P Q g (p ∷ ps) k = (in_pure_imply P Q g p k.0, each_pure_imply P Q g ps k.1)

pub each_atom_imply : (P Q : Term → Type 0) → ((t : Term) → P t → Q t) → (bs : List ScriptAtom) → Each (InAtom P) bs
    → Each (InAtom Q) bs
each_atom_imply P Q g [] k = tt
each_atom_imply P Q g (a ∷ bs) k = (in_atom_imply P Q g a k.0, each_atom_imply P Q g bs k.1)

-- a map of terms at each term of an atom

each_term_map : (P Q : Term → Type 0) (f : Term → Term) → ((t : Term) → P t → Q (f t)) → (ts : List Term) → Each P ts
    → Each Q (map f ts)
each_term_map P Q f g [] k = tt
each_term_map P Q f g (t ∷ ts) k = (g t k.0, each_term_map P Q f g ts k.1)

pub each_pure_map : (P Q : Term → Type 0) (f : Term → Term) → ((t : Term) → P t → Q (f t)) → (ps : List Pure)
    → Each (InPure P) ps → Each (InPure Q) (map (in_pure f) ps)
each_pure_map P Q f g [] k = tt
each_pure_map P Q f g (Eq t u ∷ ps) k = ((g t k.0.0, g u k.0.1), each_pure_map P Q f g ps k.1)
each_pure_map P Q f g (Neq t u ∷ ps) k = ((g t k.0.0, g u k.0.1), each_pure_map P Q f g ps k.1)

pub each_atom_map : (P Q : Term → Type 0) (f : Term → Term) → ((t : Term) → P t → Q (f t)) → (bs : List ScriptAtom)
    → Each (InAtom P) bs → Each (InAtom Q) (map (in_atom f) bs)
each_atom_map P Q f g [] k = tt
each_atom_map P Q f g (Cell t c ts ∷ bs) k = ((g t k.0.0, each_term_map P Q f g ts k.0.1), each_atom_map P Q f g bs k.1)
each_atom_map P Q f g (Call p ts ∷ bs) k = (each_term_map P Q f g ts k.0, each_atom_map P Q f g bs k.1)

-- ---- the maps that are used

-- nothing is changed
pub terms_stay : (ts : List Term) → map (λ t. t) ts ≡ ts
terms_stay [] = refl
terms_stay (t ∷ ts) = λ i. t ∷ terms_stay ts i

pub pures_stay : (ps : List Pure) → map (in_pure (λ t. t)) ps ≡ ps
pures_stay [] = refl
pures_stay (Eq t u ∷ ps) = λ i. Eq t u ∷ pures_stay ps i
pures_stay (Neq t u ∷ ps) = λ i. Neq t u ∷ pures_stay ps i

pub atoms_stay : (bs : List ScriptAtom) → map (in_atom (λ t. t)) bs ≡ bs
atoms_stay [] = refl
atoms_stay (Cell t c ts ∷ bs) = λ i. Cell t c (terms_stay ts i) ∷ atoms_stay bs i
atoms_stay (Call p ts ∷ bs) = λ i. Call p (terms_stay ts i) ∷ atoms_stay bs i

-- a term that is bound has its value under a longer stack
pub longer : (s e ys : Stack) (t : Term) → IsBound (length e) t → value s (e ++ ys) t ≡ value s e t
longer s e ys Nil b = refl
longer s e ys (Univ n) b = refl
longer s e ys (Exist n) b = get_or_append_left e ys 0 n b

beyond : (e xs ys : Stack) (n : ℕ) → length e ≤ n → get_or (e ++ (xs ++ ys)) (n + length xs) 0 ≡ get_or (e ++ ys) n 0
beyond e xs ys n far =
    let m = n - length e in
    let n_is : n ≡ length e + m = omega arith in
    let at : n + length xs ≡ length e + (length xs + m) = omega arith in
    ap (λ k. get_or (e ++ (xs ++ ys)) k 0) at
    ∙ get_or-append-add e (xs ++ ys) (length xs + m) 0
    ∙ get_or-append-add xs ys m 0
    ∙ sym (get_or-append-add e ys m 0)
    ∙ ap (λ k. get_or (e ++ ys) k 0) (sym n_is)

-- a variable from the end of e on makes room for xs
raised_by : (s e xs ys : Stack) (m : ℕ) (t : Term) → IsBound m t → m + length xs ≤ 65536
    → value s (e ++ (xs ++ ys)) (shift_term (length e) (length xs) t) ≡ value s (e ++ ys) t
raised_by s e xs ys m Nil b fits = refl
raised_by s e xs ys m (Univ n) b fits = refl
raised_by s e xs ys m (Exist n) b fits =
    let read : Bool → ℕ = λ c. value s (e ++ (xs ++ ys)) (cond c (Exist (n + length xs)) (Exist n)) in
    elim (leb_tells (length e) n) [
      | inl far ↦
          let room : leb n (65535 - length xs) ≡ true = le-leb n (65535 - length xs) (omega arith) in
          ap (λ c. read (c && leb n (65535 - length xs))) far.0 ∙ ap read room ∙ beyond e xs ys n far.1
      | inr near ↦
          ap (λ c. read (c && leb n (65535 - length xs))) near.0
          ∙ get_or_append_left e (xs ++ ys) 0 n near.1
          ∙ sym (get_or_append_left e ys 0 n near.1)
    ]

pub raised : (s e xs ys : Stack) (m k : ℕ) → length xs ≡ k → (t : Term) → IsBound m t → m + k ≤ 65536
    → value s (e ++ (xs ++ ys)) (shift_term (length e) k t) ≡ value s (e ++ ys) t
raised s e xs ys m k len t b fits =
    let le : m + length xs ≤ 65536 = omega arith in
    subst (λ n. value s (e ++ (xs ++ ys)) (shift_term (length e) n t) ≡ value s (e ++ ys) t) len
    (raised_by s e xs ys m t b le)

-- a term of the first case has its value where both cases' variables have theirs
pub first_kept : (s e xs ys : Stack) (t : Term) → IsBound (length e + length xs) t
    → value s (e ++ (xs ++ ys)) t ≡ value s (e ++ xs) t
first_kept s e xs ys t b =
    let at : IsBound (length (e ++ xs)) t = subst (λ m. IsBound m t) (sym (length-append e xs)) b in
    ap (λ u. value s u t) (sym (append_assoc e xs ys)) ∙ longer s (e ++ xs) ys t at
