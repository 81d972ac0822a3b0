-- Stacks that agree below a number: by `holds_agrees` a stack may be changed at a number above all that occur.
use Rattle.std.proofs.Common.{◌≡◌, ℕ, zero, suc, ◌+◌, ◌<◌, ◌≤◌, List, [], ◌∷◌, ◌++◌, length, refl, sym, ap, ◌∙◌, arith}
use Rattle.std.proofs.Common.{map}
use Rattle.std.specs.Prelude.{slice_index}
use Rattle.std.proofs.Math.ListN.{get_or-append}
use Rattle.std.proofs.lemmas.List.{get_or-append-add}
use Rattle.heap_formula.specs.declared.terms.Term.{Term}
use Rattle.heap_formula.specs.declared.terms.Term.TheVariants.{Nil, Univ, Exist}
use Rattle.heap_formula.specs.declared.atoms.Pure.{Pure}
use Rattle.heap_formula.specs.declared.atoms.Pure.TheVariants.{Eq, Neq}
use Rattle.heap_formula.specs.declared.atoms.Spatial.{Spatial}
use Rattle.heap_formula.specs.declared.atoms.Spatial.TheVariants.{Cell, Pred}
use Rattle.heap_formula.specs.Symbolic.{SymbolicHeap}
use Rattle.heap_formula.specs.Words.{Each, max_of}
use Rattle.heap_formula.specs.Values.{Stack, value}
use Rattle.heap_formula.specs.Cells.{Cells}
use Rattle.heap_formula.specs.Meaning.{Family, Holds}
use Rattle.heap_formula.specs.Programs.{first_values}
use Rattle.heap_formula.specs.Closedness.{InPure, InSpatial, InHeap}
use Rattle.heap_formula.specs.Substitution.{in_pure, in_spatial, in_heap}
use Rattle.heap_formula.specs.Fresh.{univ_bound, terms_bound, pure_bound, spatial_bound, heap_bound}
use Rattle.rule_table.proofs.Substitutes.{holds_same}

-- universal numbers below n
abbrev pub IsBelow : ℕ → Term → Type 0
IsBelow n t = univ_bound t ≤ n

terms_below : (n : ℕ) (ts : List Term) → terms_bound ts ≤ n → Each (IsBelow n) ts
terms_below n [] h = tt
terms_below n (t ∷ ts) h = (omega arith, terms_below n ts (omega arith))

pure_below : (n : ℕ) (x : Pure) → pure_bound x ≤ n → InPure (IsBelow n) x
pure_below n (Eq t u) h = (omega arith, omega arith)
pure_below n (Neq t u) h = (omega arith, omega arith)

spatial_below : (n : ℕ) (x : Spatial) → spatial_bound x ≤ n → InSpatial (IsBelow n) x
spatial_below n (Cell t ts) h = (omega arith, terms_below n ts (omega arith))
spatial_below n (Pred p ts) h = terms_below n ts h

each_below : {X : Type 0} (n : ℕ) (f : X → ℕ) (P : X → Type 0) → ((x : X) → f x ≤ n → P x) → (xs : List X)
    → max_of (map f xs) ≤ n → Each P xs
each_below n f P g [] h = tt
each_below n f P g (x ∷ xs) h = (g x (omega arith), each_below n f P g xs (omega arith))

pub heap_below : (n : ℕ) (a : SymbolicHeap) → heap_bound a ≤ n → InHeap (IsBelow n) a
heap_below n a h = (
  each_below n pure_bound (InPure (IsBelow n)) (pure_below n) a.pure (omega arith),
  each_below n spatial_bound (InSpatial (IsBelow n)) (spatial_below n) a.spatial (omega arith),
)

abbrev pub Agrees : ℕ → Stack → Stack → Type 0
Agrees n s s' = (i : ℕ) → i < n → slice_index s' i ≡ slice_index s i

pub same_term : Term → Term
same_term t = t

pub value_agrees : (n : ℕ) (s s' e : Stack) → Agrees n s s' → (t : Term) → IsBelow n t
    → value s' e (same_term t) ≡ value s e t
unfolding same_term
value_agrees n s s' e g Nil h = refl
value_agrees n s s' e g (Univ m) h = g m (omega arith)
value_agrees n s s' e g (Exist m) h = refl

pub value_below : (n : ℕ) (s s' e : Stack) → Agrees n s s' → (t : Term) → IsBelow n t → value s' e t ≡ value s e t
unfolding same_term
value_below n s s' e g t h = value_agrees n s s' e g t h

map_same : {X : Type 0} (f : X → X) → ((x : X) → f x ≡ x) → (xs : List X) → map f xs ≡ xs
map_same f h [] = refl
map_same f h (x ∷ xs) = λ i. h x i ∷ map_same f h xs i

in_pure_same : (x : Pure) → in_pure same_term x ≡ x
unfolding same_term
in_pure_same (Eq t u) = refl
in_pure_same (Neq t u) = refl

same_term_is : (t : Term) → same_term t ≡ t
unfolding same_term
same_term_is t = refl

in_spatial_same : (x : Spatial) → in_spatial same_term x ≡ x
in_spatial_same (Cell t ts) = λ i. Cell (same_term_is t i) (map_same same_term same_term_is ts i)
in_spatial_same (Pred p ts) = λ i. Pred p (map_same same_term same_term_is ts i)

in_heap_same : (a : SymbolicHeap) → in_heap same_term a ≡ a
in_heap_same a = λ i. record {
  pure = map_same (in_pure same_term) in_pure_same a.pure i;
  spatial = map_same (in_spatial same_term) in_spatial_same a.spatial i;
}

-- a formula below n says the same under stacks that agree below n
pub holds_agrees : (n : ℕ) (s s' e : Stack) → Agrees n s s' → (P : ℕ → Family) (a : SymbolicHeap) → InHeap (IsBelow n) a
    → (h : Cells) → Holds P s' e a h ≡ Holds P s e a h
holds_agrees n s s' e g P a q h =
    ap (λ b. Holds P s' e b h) (sym (in_heap_same a))
    ∙ holds_same (IsBelow n) same_term s' e s e (value_agrees n s s' e g) P a q h

-- ---- a stack that is continued

pub length-first_values : (n : ℕ) (s : Stack) → length (first_values n s) ≡ n
length-first_values zero s = refl
length-first_values (suc n) [] = ap suc (length-first_values n [])
length-first_values (suc n) (v ∷ s) = ap suc (length-first_values n s)

pub first_at : (n : ℕ) (s : Stack) (i : ℕ) → i < n → slice_index (first_values n s) i ≡ slice_index s i
first_at zero s i h = absurd (omega arith)
first_at (suc n) [] zero h = refl
first_at (suc n) (v ∷ s) zero h = refl
first_at (suc n) [] (suc i) h = first_at n [] i (omega arith)
first_at (suc n) (v ∷ s) (suc i) h = first_at n s i (omega arith)

-- the stack goes on with these values from n on
abbrev pub continued : ℕ → Stack → List ℕ → Stack
continued n s vs = first_values n s ++ vs

pub continued-agrees : (n : ℕ) (s : Stack) (vs : List ℕ) → Agrees n s (continued n s vs)
continued-agrees n s vs i h =
    let l = length-first_values n s in
    get_or-append (first_values n s) vs 0 i (omega arith) ∙ first_at n s i h

pub continued-at : (n : ℕ) (s : Stack) (vs : List ℕ) (j : ℕ) → slice_index (continued n s vs) (n + j) ≡ slice_index vs j
continued-at n s vs j =
    let l = length-first_values n s in
    ap (λ m. slice_index (continued n s vs) (m + j)) (sym l) ∙ get_or-append-add (first_values n s) vs j 0
