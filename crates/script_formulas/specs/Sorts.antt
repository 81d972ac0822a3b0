-- The sorts of a script (SMT-LIB 2.6: each term is well sorted). `nil` is a term of each sort.
use Rattle.std.specs.Prelude.{◌≡◌, ℕ, Bool, true, false, ◌&&◌, nat_eq, nat_lt, List, [], ◌∷◌, ◌++◌, map, length}
use Rattle.std.specs.Prelude.{Option, Some, None, slice_get}
use Rattle.std.specs.List.{AllZip}
use Rattle.heap_formula.specs.declared.terms.Term.{Term}
use Rattle.heap_formula.specs.declared.terms.Term.TheVariants.{Nil, Univ, Exist}
use Rattle.heap_formula.specs.declared.atoms.Pure.{Pure}
use Rattle.heap_formula.specs.declared.atoms.Pure.TheVariants.{Eq, Neq}
use Rattle.heap_formula.specs.Words.{Each}
use Rattle.script_formulas.specs.declared.formula.ScriptAtom.{ScriptAtom}
use Rattle.script_formulas.specs.declared.formula.ScriptAtom.TheVariants.{Cell, Call}
use Rattle.script_formulas.specs.declared.script.Constructor.{Constructor}
use Rattle.script_formulas.specs.declared.script.Predicate.{Predicate}
use Rattle.script_formulas.specs.declared.script.Script.{Script}
use Rattle.script_formulas.specs.Formulas.{Formula, True, False, Empty, Says, Atom, Not, And, Or, Sep, Exists}
use Rattle.script_formulas.specs.Formulas.{formula_of}

-- a term is of a sort, where the constants or parameters have the first sorts, and the quantified variables the others
abbrev pub HasSort : List ℕ → List ℕ → Term → ℕ → Type 0
HasSort known bound Nil sort = Unit {0}
HasSort known bound (Univ n) sort = slice_get known n ≡ Some sort
HasSort known bound (Exist n) sort = slice_get bound n ≡ Some sort

-- both terms of an equation are of one sort
abbrev pub IsSortedPure : List ℕ → List ℕ → Pure → Type 0
IsSortedPure known bound (Eq t u) = (sort : ℕ) × HasSort known bound t sort × HasSort known bound u sort
IsSortedPure known bound (Neq t u) = (sort : ℕ) × HasSort known bound t sort × HasSort known bound u sort

-- address and fields of a cell are of the sorts of its constructor, arguments of those of the parameters
abbrev pub IsSortedAtom : List Constructor → List Predicate → List ℕ → List ℕ → ScriptAtom → Type 0
IsSortedAtom constructors predicates known bound (Cell t c ts) = (k : Constructor) × (slice_get constructors c ≡ Some k)
    × HasSort known bound t k.location × AllZip (HasSort known bound) ts k.fields.items
IsSortedAtom constructors predicates known bound (Call p ts) = (q : Predicate) × (slice_get predicates p ≡ Some q)
    × AllZip (HasSort known bound) ts q.parameters.items

abbrev pub IsSortedFormula : List Constructor → List Predicate → List ℕ → List ℕ → Formula → Type 0
IsSortedFormula constructors predicates known bound True = Unit {0}
IsSortedFormula constructors predicates known bound False = Unit {0}
IsSortedFormula constructors predicates known bound Empty = Unit {0}
IsSortedFormula constructors predicates known bound (Says p) = IsSortedPure known bound p
IsSortedFormula constructors predicates known bound (Atom a) = IsSortedAtom constructors predicates known bound a
IsSortedFormula constructors predicates known bound (Not f) = IsSortedFormula constructors predicates known bound f
IsSortedFormula constructors predicates known bound (And f g) = IsSortedFormula constructors predicates known bound f
    × IsSortedFormula constructors predicates known bound g
IsSortedFormula constructors predicates known bound (Or f g) = IsSortedFormula constructors predicates known bound f
    × IsSortedFormula constructors predicates known bound g
IsSortedFormula constructors predicates known bound (Sep f g) = IsSortedFormula constructors predicates known bound f
    × IsSortedFormula constructors predicates known bound g
IsSortedFormula constructors predicates known bound (Exists sort f) = IsSortedFormula constructors predicates known
    (bound ++ sort ∷ []) f

-- a formula over free variables of these sorts
abbrev pub IsSortedIn : Script → List ℕ → Formula → Type 0
IsSortedIn script known f = IsSortedFormula script.constructors.items script.predicates.items known [] f

abbrev pub sorts_of : Script → List ℕ
sorts_of script = map (λ c. c.sort) script.constants.items

-- each formula of a script is well sorted
pub record IsSorted (script : Script) : Type 0 where
  pub predicates : Each (λ q. IsSortedIn script q.parameters.items (formula_of q.body)) script.predicates.items
  pub asserted : Each (λ f. IsSortedIn script (sorts_of script) (formula_of f)) script.asserted.items
  pub denied : Each (λ f. IsSortedIn script (sorts_of script) (formula_of f)) script.denied.items

-- ---- the tests, which also see that no quantifier has more than 1,024 around it

-- the sort of a term; that of `nil` may be any
abbrev pub sort_of : List ℕ → List ℕ → Term → Option ℕ
sort_of known bound Nil = Some 0
sort_of known bound (Univ n) = slice_get known n
sort_of known bound (Exist n) = slice_get bound n

abbrev pub is_sort : ℕ → Option ℕ → Bool
is_sort sort None = false
is_sort sort (Some other) = nat_eq other sort

abbrev pub has_sort : List ℕ → List ℕ → Term → ℕ → Bool
has_sort known bound Nil sort = true
has_sort known bound (Univ n) sort = is_sort sort (slice_get known n)
has_sort known bound (Exist n) sort = is_sort sort (slice_get bound n)

abbrev pub have_sort : List ℕ → List ℕ → Term → Term → Option ℕ → Bool
have_sort known bound t u None = false
have_sort known bound t u (Some sort) = has_sort known bound t sort && has_sort known bound u sort

-- the sort of the first term, or where it is `nil`, of the second
abbrev pub first_sort : List ℕ → List ℕ → Term → Term → Option ℕ
first_sort known bound Nil u = sort_of known bound u
first_sort known bound (Univ n) u = slice_get known n
first_sort known bound (Exist n) u = slice_get bound n

abbrev pub are_alike : List ℕ → List ℕ → Term → Term → Bool
are_alike known bound t u = have_sort known bound t u (first_sort known bound t u)

abbrev pub sorted_pure : List ℕ → List ℕ → Pure → Bool
sorted_pure known bound (Eq t u) = are_alike known bound t u
sorted_pure known bound (Neq t u) = are_alike known bound t u

abbrev pub have_sorts : List ℕ → List ℕ → List Term → List ℕ → Bool
have_sorts known bound [] [] = true
have_sorts known bound [] (sort ∷ sorts) = false
have_sorts known bound (t ∷ ts) [] = false
have_sorts known bound (t ∷ ts) (sort ∷ sorts) = has_sort known bound t sort && have_sorts known bound ts sorts

abbrev pub sorted_cell : List ℕ → List ℕ → Term → List Term → Option Constructor → Bool
sorted_cell known bound t ts None = false
sorted_cell known bound t ts (Some k) = has_sort known bound t k.location && have_sorts known bound ts k.fields.items

abbrev pub sorted_call : List ℕ → List ℕ → List Term → Option Predicate → Bool
sorted_call known bound ts None = false
sorted_call known bound ts (Some q) = have_sorts known bound ts q.parameters.items

abbrev pub sorted_atom : List Constructor → List Predicate → List ℕ → List ℕ → ScriptAtom → Bool
sorted_atom constructors predicates known bound (Cell t c ts) =
    sorted_cell known bound t ts (slice_get constructors c)
sorted_atom constructors predicates known bound (Call p ts) = sorted_call known bound ts (slice_get predicates p)

abbrev pub sorted_formula : List Constructor → List Predicate → List ℕ → List ℕ → Formula → Bool
sorted_formula constructors predicates known bound True = true
sorted_formula constructors predicates known bound False = true
sorted_formula constructors predicates known bound Empty = true
sorted_formula constructors predicates known bound (Says p) = sorted_pure known bound p
sorted_formula constructors predicates known bound (Atom a) = sorted_atom constructors predicates known bound a
sorted_formula constructors predicates known bound (Not f) = sorted_formula constructors predicates known bound f
sorted_formula constructors predicates known bound (And f g) = sorted_formula constructors predicates known bound f
    && sorted_formula constructors predicates known bound g
sorted_formula constructors predicates known bound (Or f g) = sorted_formula constructors predicates known bound f
    && sorted_formula constructors predicates known bound g
sorted_formula constructors predicates known bound (Sep f g) = sorted_formula constructors predicates known bound f
    && sorted_formula constructors predicates known bound g
sorted_formula constructors predicates known bound (Exists sort f) = nat_lt (length bound) 1024
    && sorted_formula constructors predicates known (bound ++ sort ∷ []) f
