-- All links of a bud to a companion.
use Rattle.std.specs.Prelude.{◌≡◌, ℕ, List, [], ◌∷◌, map, length, Bool, ◌||◌}
use Rattle.std.specs.List.{filter, flat_map, range_with_len, list_any}
use Rattle.std.specs.Option.{is_none}
use Rattle.heap_formula.specs.declared.terms.Term.{Term}
use Rattle.heap_formula.specs.declared.terms.Term.TheVariants.{Nil, Univ}
use Rattle.heap_formula.specs.declared.atoms.Pure.{Pure}
use Rattle.heap_formula.specs.declared.atoms.Pure.TheVariants.{Eq, Neq}
use Rattle.heap_formula.specs.declared.atoms.Spatial.{Spatial}
use Rattle.heap_formula.specs.declared.atoms.Spatial.TheVariants.{Cell, Pred}
use Rattle.heap_formula.specs.declared.judgements.Judgement.{Judgement}
use Rattle.heap_formula.specs.declared.proof_rules.Link.{Link}
use Rattle.heap_formula.specs.Words.{OneOf}
use Rattle.heap_formula.specs.Symbolic.{SymbolicHeap}
use Rattle.heap_formula.specs.Fresh.{judgement_bound}
use Rattle.heap_formula.specs.Judgements.{antecedent}
use Rattle.heap_formula.specs.Substitution.{Bindings}
use Rattle.rule_table.specs.Answer.{heaps_of, disjuncts}
use Rattle.rule_table.specs.Tests.{same_term}
use Rattle.rule_table.specs.LinkTable.{link_fault}

-- ---- the universal variables of a judgement

-- the variable is one of the terms; it stands in an atom; in a heap; in a judgement
abbrev pub is_one_of : ℕ → List Term → Bool
is_one_of n ts = list_any (λ t. same_term t (Univ n)) ts

abbrev pub stands_in_pure : ℕ → Pure → Bool
stands_in_pure n (Eq t u) = same_term t (Univ n) || same_term u (Univ n)
stands_in_pure n (Neq t u) = same_term t (Univ n) || same_term u (Univ n)

abbrev pub stands_in_spatial : ℕ → Spatial → Bool
stands_in_spatial n (Cell t ts) = same_term t (Univ n) || is_one_of n ts
stands_in_spatial n (Pred p ts) = is_one_of n ts

abbrev pub stands_in_heap : ℕ → SymbolicHeap → Bool
stands_in_heap n a = list_any (stands_in_pure n) a.pure || list_any (stands_in_spatial n) a.spatial

abbrev pub stands_in : ℕ → Judgement → Bool
stands_in n j = list_any (stands_in_heap n) (heaps_of j)

-- in ascending order
abbrev pub universals : Judgement → List ℕ
universals j = filter (λ n. stands_in n j) (range_with_len 0 (judgement_bound j))

-- ---- the choices that a link makes

-- one member of each list, in lexicographic order
abbrev pub selections : {X : Type 0} → List (List X) → List (List X)
selections [] = [] ∷ []
selections (choices ∷ rest) = flat_map (λ x. map (λ xs. x ∷ xs) (selections rest)) choices

-- the numbers of the list's members
abbrev pub numbers : {X : Type 0} → List X → List ℕ
numbers xs = range_with_len 0 (length xs)

-- for each member of the second list a number of the first's members
abbrev pub number_choices : {X Y : Type 0} → List X → List Y → List (List ℕ)
number_choices xs ys = map (λ y. numbers xs) ys

-- for each source its pairs with the values
abbrev pub value_choices : List Term → List ℕ → List Bindings
value_choices values sources = map (λ n. map (λ v. (n, v)) values) sources

-- `nil`, and the bud's universal variables
abbrev pub values_of : Judgement → List Term
values_of bud = Nil ∷ map Univ (universals bud)

-- the pairs have these sources, in this order, and some of the values
abbrev pub IsMade : List Term → List ℕ → Bindings → Type 0
IsMade values [] [] = Unit {0}
IsMade values [] (q ∷ s) = ⊥
IsMade values (n ∷ ns) [] = ⊥
IsMade values (n ∷ ns) (q ∷ s) = (q.0 ≡ n) × OneOf (λ v. v ≡ q.1) values × IsMade values ns s

-- an atom of the bud for each of the companion's
abbrev pub maps : Judgement → Judgement → List (List ℕ)
maps bud companion = selections (number_choices (antecedent bud).spatial (antecedent companion).spatial)

-- a value for each universal variable of the companion
abbrev pub substitutions : Judgement → Judgement → List Bindings
substitutions bud companion = selections (value_choices (values_of bud) (universals companion))

-- a disjunct of the bud for each of the companion's
abbrev pub covers : Judgement → Judgement → List (List ℕ)
covers bud companion = selections (number_choices (disjuncts bud) (disjuncts companion))

-- ---- the links

abbrev pub link_of : ℕ → List ℕ → Bindings → List ℕ → Link
link_of target places s entries = record { target = target; subst = s; map = places; disjuncts = entries }

-- by map, then by substitution, then by disjuncts
abbrev pub candidates : Judgement → Judgement → ℕ → List Link
candidates bud companion target =
    flat_map (λ places. flat_map (λ s. map (λ entries. link_of target places s entries) (covers bud companion))
    (substitutions bud companion)) (maps bud companion)

-- the candidates without a fault; p is the number of program variables
abbrev pub links : Judgement → Judgement → ℕ → ℕ → List Link
links bud companion target p = filter (λ l. is_none (link_fault bud companion l p)) (candidates bud companion target)
