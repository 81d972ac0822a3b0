-- Sizes of atoms that are joined, put in a place, or changed.
use Rattle.std.proofs.Common.{◌≡◌, ℕ, zero, suc, ◌+◌, ◌<◌, ◌≤◌, List, [], ◌∷◌, ◌++◌, map, length, Some, slice_get, refl}
use Rattle.std.proofs.Common.{sym, ap, ◌∙◌, arith, length-append}
use Rattle.std.specs.Prelude.{slice_set, sum}
use Rattle.std.proofs.lemmas.List.Sums.{sum-map, sum_by-cons}
use Rattle.std.proofs.Math.ListN.{get_or}
use Rattle.heap_formula.specs.Positions.{without}
use Rattle.fo_formula.specs.declared.terms.Sign.{Sign}
use Rattle.fo_formula.specs.declared.terms.Sign.TheVariants.{Universal, Local, Constructor}
use Rattle.fo_formula.specs.declared.atoms.FoAtom.{FoAtom}
use Rattle.fo_formula.specs.declared.atoms.FoAtom.TheVariants.{Equation, Predicate}
use Rattle.fo_formula.specs.Words.{Word, replaced, in_atom, first_constant}
use Rattle.fo_formula.specs.Values.{sign_value}
use Rattle.fo_formula.specs.Sizes.{words_size, atom_size, atoms_size}
use Rattle.fo_formula.specs.Table.{variables_from}

pub size-cons : {X : Type 0} (f : X → ℕ) (x : X) (xs : List X) → sum (map f (x ∷ xs)) ≡ f x + sum (map f xs)
size-cons f x xs = sum-map f (x ∷ xs) ∙ sum_by-cons f x xs ∙ ap (λ n. f x + n) (sym (sum-map f xs))

pub size-append : (xs ys : List FoAtom) → atoms_size (xs ++ ys) ≡ atoms_size xs + atoms_size ys
size-append [] ys = let z : atoms_size [] ≡ 0 = refl in omega arith
size-append (x ∷ xs) ys =
    let r = size-append xs ys in
    let a = size-cons atom_size x (xs ++ ys) in
    let b = size-cons atom_size x xs in omega arith

pub size-set : (xs : List FoAtom) (j : ℕ) (y : FoAtom) → j < length xs
    → atoms_size (slice_set xs j y) ≡ atoms_size (without j xs) + atom_size y
size-set [] j y h = absurd (omega arith)
size-set (x ∷ xs) zero y h = let a = size-cons atom_size y xs in omega arith
size-set (x ∷ xs) (suc j) y h =
    let r = size-set xs j y (omega arith) in
    let a = size-cons atom_size x (slice_set xs j y) in
    let b = size-cons atom_size x (without j xs) in omega arith

pub size_within : (xs : List FoAtom) (i : ℕ) (x : FoAtom) → slice_get xs i ≡ Some x → atom_size x ≤ atoms_size xs
size_within [] i x e = absurd cc
size_within (y ∷ xs) zero x e =
    let same : y ≡ x = cc in
    let s = ap atom_size same in
    let a = size-cons atom_size y xs in omega arith
size_within (y ∷ xs) (suc i) x e =
    let r = size_within xs i x e in
    let a = size-cons atom_size y xs in omega arith

module _ (f g : Sign → Word) (same : (s : Sign) → length (f s) ≡ length (g s)) where
  word_length : (w : Word) → length (replaced f w) ≡ length (replaced g w)
  word_length [] = refl
  word_length (s ∷ w) =
      let a = length-append (f s) (replaced f w) in
      let b = length-append (g s) (replaced g w) in
      let c = same s in
      let r = word_length w in omega arith

  words_length : (ws : List Word) → words_size (map (replaced f) ws) ≡ words_size (map (replaced g) ws)
  words_length [] = refl
  words_length (w ∷ ws) =
      let a = word_length w in
      let r = words_length ws in
      let b = size-cons length (replaced f w) (map (replaced f) ws) in
      let c = size-cons length (replaced g w) (map (replaced g) ws) in omega arith

  atom_length : (x : FoAtom) → atom_size (in_atom f x) ≡ atom_size (in_atom g x)
  atom_length (Equation l r) = let a = word_length l in let b = word_length r in omega arith
  atom_length (Predicate p ts) = words_length ts

  pub atoms_length : (xs : List FoAtom) → atoms_size (map (in_atom f) xs) ≡ atoms_size (map (in_atom g) xs)
  atoms_length [] = refl
  atoms_length (x ∷ xs) =
      let a = atom_length x in
      let r = atoms_length xs in
      let b = size-cons atom_size (in_atom f x) (map (in_atom f) xs) in
      let c = size-cons atom_size (in_atom g x) (map (in_atom g) xs) in omega arith

-- each variable of the list is one sign
variable_length : (n k j : ℕ) → length (get_or (variables_from n k) j first_constant) ≡ 1
variable_length n zero j = refl
variable_length n (suc k) zero = refl
variable_length n (suc k) (suc j) = variable_length (suc n) k j

pub fresh_length : (args : List Word) (n k : ℕ) (s : Sign)
    → length (sign_value args (variables_from n k) s) ≡ length (sign_value args [] s)
fresh_length args n k (Universal j) = refl
fresh_length args n k (Local j) = variable_length n k j
fresh_length args n k (Constructor c m) = refl
