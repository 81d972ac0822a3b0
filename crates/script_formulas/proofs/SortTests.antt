-- What the tests of sorts tell.
use Rattle.std.proofs.Common.{◌≡◌, ℕ, ◌+◌, Bool, true, false, ◌&&◌, List, [], ◌∷◌, ◌++◌, length, refl, ap, ◌∙◌}
use Rattle.std.proofs.Common.{◌<◌, ◌≤◌, drop, get_or, arith}
use Rattle.std.specs.Prelude.{Option, Some, None, slice_get, nat_lt}
use Rattle.std.specs.List.{AllZip}
use Rattle.std.proofs.lemmas.Bool.{eqb-true}
use Rattle.std.proofs.lemmas.List.{drop_all, drop_more}
use Rattle.heap_formula.specs.declared.terms.Term.{Term}
use Rattle.heap_formula.specs.declared.terms.Term.TheVariants.{Nil, Univ, Exist}
use Rattle.heap_formula.specs.declared.atoms.Pure.{Pure}
use Rattle.heap_formula.specs.declared.atoms.Pure.TheVariants.{Eq, Neq}
use Rattle.script_formulas.specs.declared.formula.ScriptAtom.{ScriptAtom}
use Rattle.script_formulas.specs.declared.formula.ScriptAtom.TheVariants.{Cell, Call}
use Rattle.script_formulas.specs.declared.script.Constructor.{Constructor}
use Rattle.script_formulas.specs.declared.script.Predicate.{Predicate}
use Rattle.script_formulas.specs.Formulas.{Formula, True, False, Empty, Says, Atom, Not, And, Or, Sep, Exists}
use Rattle.script_formulas.specs.Sorts.{HasSort, IsSortedPure, IsSortedAtom, IsSortedFormula, is_sort, has_sort}
use Rattle.script_formulas.specs.Sorts.{have_sort, have_sorts, first_sort, sorted_pure, sorted_cell}
use Rattle.script_formulas.specs.Sorts.{sorted_call, sorted_atom, sorted_formula}

both : (a b : Bool) → (a && b) ≡ true → (a ≡ true) × (b ≡ true)
both true b e = (refl, e)
both false b e = absurd cc

same_sort : (sort : ℕ) (o : Option ℕ) → is_sort sort o ≡ true → o ≡ Some sort
same_sort sort None e = absurd cc
same_sort sort (Some other) e = ap Some (eqb-true other sort e)

module _ (known bound : List ℕ) where
  term_sorted : (t : Term) (sort : ℕ) → has_sort known bound t sort ≡ true → HasSort known bound t sort
  term_sorted Nil sort e = tt
  term_sorted (Univ n) sort e = same_sort sort (slice_get known n) e
  term_sorted (Exist n) sort e = same_sort sort (slice_get bound n) e

  all_sorted : (ts : List Term) (sorts : List ℕ) → have_sorts known bound ts sorts ≡ true
      → AllZip (HasSort known bound) ts sorts
  all_sorted [] [] e = tt
  all_sorted [] (x ∷ sorts) e = absurd cc
  all_sorted (t ∷ ts) [] e = absurd cc
  all_sorted (t ∷ ts) (x ∷ sorts) e =
      let b = both (has_sort known bound t x) (have_sorts known bound ts sorts) e in
      (term_sorted t x b.0, all_sorted ts sorts b.1)

  -- ---- one place after the other

  pub other_length : (ts : List Term) (sorts : List ℕ) → (length ts ≡ length sorts → ⊥)
      → have_sorts known bound ts sorts ≡ false
  other_length [] [] other = absurd (other refl)
  other_length [] (x ∷ sorts) other = refl
  other_length (t ∷ ts) [] other = refl
  other_length (t ∷ ts) (x ∷ sorts) other =
      ap (λ b. has_sort known bound t x && b) (other_length ts sorts (λ same. other (omega (arith, same))))
      ∙ elim (has_sort known bound t x) as (λ b. (b && false) ≡ false) [ true ↦ refl | false ↦ refl ]

  pub at_place : (ts : List Term) (sorts : List ℕ) (k : ℕ) (t : Term) (x : ℕ) → k < length ts → k < length sorts
      → have_sorts known bound (drop k ts) (drop k sorts)
      ≡ (has_sort known bound (get_or ts k t) (get_or sorts k x)
      && have_sorts known bound (drop (k + 1) ts) (drop (k + 1) sorts))
  at_place ts sorts k t x some others =
      ap (λ l. have_sorts known bound l (drop k sorts)) (drop_more ts k t some)
      ∙ ap (have_sorts known bound (get_or ts k t ∷ drop (k + 1) ts)) (drop_more sorts k x others)

  pub past_all : (ts : List Term) (sorts : List ℕ) (k : ℕ) → length ts ≤ k → length sorts ≤ k
      → have_sorts known bound (drop k ts) (drop k sorts) ≡ true
  past_all ts sorts k first second =
      ap (λ l. have_sorts known bound l (drop k sorts)) (drop_all k ts first)
      ∙ ap (have_sorts known bound []) (drop_all k sorts second)

  alike_sorted : (t u : Term) (o : Option ℕ) → have_sort known bound t u o ≡ true
      → (sort : ℕ) × HasSort known bound t sort × HasSort known bound u sort
  alike_sorted t u None e = absurd cc
  alike_sorted t u (Some sort) e =
      let b = both (has_sort known bound t sort) (has_sort known bound u sort) e in
      (sort, term_sorted t sort b.0, term_sorted u sort b.1)

  pure_sorted : (p : Pure) → sorted_pure known bound p ≡ true → IsSortedPure known bound p
  pure_sorted (Eq t u) e = alike_sorted t u (first_sort known bound t u) e
  pure_sorted (Neq t u) e = alike_sorted t u (first_sort known bound t u) e

module _ (constructors : List Constructor) (predicates : List Predicate) (known : List ℕ) where
  atom_sorted : (bound : List ℕ) (a : ScriptAtom) → sorted_atom constructors predicates known bound a ≡ true
      → IsSortedAtom constructors predicates known bound a
  atom_sorted bound (Cell t c ts) e = by_constructor (slice_get constructors c) refl e
    where
      by_constructor : (o : Option Constructor) → slice_get constructors c ≡ o → sorted_cell known bound t ts o ≡ true
          → (k : Constructor) × (slice_get constructors c ≡ Some k) × HasSort known bound t k.location
          × AllZip (HasSort known bound) ts k.fields.items
      by_constructor None is test = absurd cc
      by_constructor (Some k) is test =
          let b = both (has_sort known bound t k.location) (have_sorts known bound ts k.fields.items) test in
          (k, is, term_sorted known bound t k.location b.0, all_sorted known bound ts k.fields.items b.1)
  atom_sorted bound (Call p ts) e = by_predicate (slice_get predicates p) refl e
    where
      by_predicate : (o : Option Predicate) → slice_get predicates p ≡ o → sorted_call known bound ts o ≡ true
          → (q : Predicate) × (slice_get predicates p ≡ Some q) × AllZip (HasSort known bound) ts q.parameters.items
      by_predicate None is test = absurd cc
      by_predicate (Some q) is test = (q, is, all_sorted known bound ts q.parameters.items test)

  pub formula_sorted : (bound : List ℕ) (f : Formula) → sorted_formula constructors predicates known bound f ≡ true
      → IsSortedFormula constructors predicates known bound f
  formula_sorted bound True e = tt
  formula_sorted bound False e = tt
  formula_sorted bound Empty e = tt
  formula_sorted bound (Says p) e = pure_sorted known bound p e
  formula_sorted bound (Atom a) e = atom_sorted bound a e
  formula_sorted bound (Not f) e = formula_sorted bound f e
  formula_sorted bound (And f g) e =
      let b = both (sorted_formula constructors predicates known bound f)
      (sorted_formula constructors predicates known bound g) e in
      (formula_sorted bound f b.0, formula_sorted bound g b.1)
  formula_sorted bound (Or f g) e =
      let b = both (sorted_formula constructors predicates known bound f)
      (sorted_formula constructors predicates known bound g) e in
      (formula_sorted bound f b.0, formula_sorted bound g b.1)
  formula_sorted bound (Sep f g) e =
      let b = both (sorted_formula constructors predicates known bound f)
      (sorted_formula constructors predicates known bound g) e in
      (formula_sorted bound f b.0, formula_sorted bound g b.1)
  formula_sorted bound (Exists sort f) e =
      let b = both (nat_lt (length bound) 1024)
      (sorted_formula constructors predicates known (bound ++ sort ∷ []) f) e in
      formula_sorted (bound ++ sort ∷ []) f b.1
