-- A part without a flaw has none wherever it stands.
use Rattle.std.proofs.Common.{◌≡◌, ℕ, suc, ◌+◌, Bool, List, [], ◌∷◌, length, Option, Some, None, refl, ap}
use Rattle.std.specs.Prelude.{not, nat_eq, nat_lt, nat_le}
use Rattle.cyc_basics.specs.declared.limits.Limits.{Limits}
use Rattle.cyc_lex.specs.declared.fault.IllFault.{IllFault}
use Rattle.cyc_lex.specs.declared.fault.IllFault.TheVariants.{Arity}
use Rattle.cyc_lex.specs.declared.fault.What.{What}
use Rattle.cyc_lex.specs.declared.fault.What.TheVariants.{Arguments, Pure, Spatial as SpatialAtoms, Variable}
use Rattle.heap_syntax.specs.declared.definitions.tree.TermTree.{TermTree}
use Rattle.heap_syntax.specs.declared.definitions.tree.TermTree.TheVariants.{Nil, Univ, Exist}
use Rattle.heap_syntax.specs.DefinitionTrees.{PureTree, Spatial, Cell, Predicate, Heap}
use Rattle.heap_reader.specs.Trees.{Heading}
use Rattle.heap_reader.specs.Spans.{pure_span, pures_span, spatial_span}
use Rattle.heap_reader.specs.Flaws.{Found, ill_if, over_if, or_later, listed_flaw, argument_flaw, arguments_flaw}
use Rattle.heap_reader.specs.Flaws.{pure_flaw, arity_in, use_flaw, spatial_flaw, heap_flaw}
use Rattle.heap_reader.proofs.NoFlaw.{neither, none_later, not_over, not_ill}
use Rattle.heap_reader.specs.declared.definitions.scope.Scope.TheVariants.{Outside}
use Rattle.heap_reader.specs.DefinitionSpans.{term_span}
use Rattle.heap_reader.specs.DefinitionFlaws.{term_flaw}

over_moved : (b : Bool) (what : What) (k j : ℕ) → over_if b what k ≡ None → over_if b what j ≡ None
over_moved b what k j e = ap (λ (c : Bool). over_if c what j) (not_over b what k e)

ill_moved : (b : Bool) (fault : IllFault) (k j : ℕ) → ill_if b fault k ≡ None → ill_if b fault j ≡ None
ill_moved b fault k j e = ap (λ (c : Bool). ill_if c fault j) (not_ill b fault k e)

both_moved : (a b c d : Found) → (a ≡ None → c ≡ None) → (b ≡ None → d ≡ None) → or_later a b ≡ None
    → or_later c d ≡ None
both_moved a b c d first second e = let both = neither a b e in none_later c d (first both.0) (second both.1)

listed_moved : {X : Type 0} (flaw : ℕ → ℕ → X → Found) (span : X → ℕ)
    → ((n k j : ℕ) (x : X) → flaw n k x ≡ None → flaw n j x ≡ None) → (n k j : ℕ) (xs : List X)
    → listed_flaw flaw span n k xs ≡ None → listed_flaw flaw span n j xs ≡ None
listed_moved flaw span one n k j [] e = refl
listed_moved flaw span one n k j (x ∷ xs) e =
    both_moved (flaw n k x) (listed_flaw flaw span (suc n) (k + span x) xs) (flaw n j x)
    (listed_flaw flaw span (suc n) (j + span x) xs) (one n k j x)
    (listed_moved flaw span one (suc n) (k + span x) (j + span x) xs) e

term_moved : (k j : ℕ) (t : TermTree) → term_flaw Outside k t ≡ None → term_flaw Outside j t ≡ None
term_moved k j Nil e = refl
term_moved k j (Univ n) e = over_moved (nat_lt 65534 n) Variable (k + 1) (j + 1) e
term_moved k j (Exist n) e = over_moved (nat_lt 65534 n) Variable (k + 1) (j + 1) e

use_moved : (o : Option ℕ) (n k j : ℕ) → use_flaw o n k ≡ None → use_flaw o n j ≡ None
use_moved None n k j e = absurd cc
use_moved (Some arity) n k j e = ill_moved (not (nat_eq n arity)) Arity k j e

module _ (most : Limits) where
  argument_moved : (n k j : ℕ) (t : TermTree) → argument_flaw (term_flaw Outside) term_span most n k t ≡ None
      → argument_flaw (term_flaw Outside) term_span most n j t ≡ None
  argument_moved n k j t e =
      both_moved (over_if (nat_le most.arguments n) Arguments k) (term_flaw Outside k t)
      (over_if (nat_le most.arguments n) Arguments j)
      (term_flaw Outside j t) (over_moved (nat_le most.arguments n) Arguments k j) (term_moved k j t) e

  arguments_moved : (k j : ℕ) (ts : List TermTree) → arguments_flaw (term_flaw Outside) term_span most k ts ≡ None
      → arguments_flaw (term_flaw Outside) term_span most j ts ≡ None
  arguments_moved k j ts e = listed_moved (argument_flaw (term_flaw Outside) term_span most)
      term_span argument_moved 0 k j ts e

  pure_moved : (n k j : ℕ) (x : PureTree) → pure_flaw (term_flaw Outside) term_span most n k x ≡ None
      → pure_flaw (term_flaw Outside) term_span most n j x ≡ None
  pure_moved n k j x e =
      let s = term_span x.left in
      both_moved (over_if (nat_le most.pure n) Pure k) (or_later (term_flaw Outside k x.left)
      (term_flaw Outside (k + s) x.right)) (over_if (nat_le most.pure n) Pure j)
      (or_later (term_flaw Outside j x.left) (term_flaw Outside (j + s) x.right))
      (over_moved (nat_le most.pure n) Pure k j)
      (both_moved (term_flaw Outside k x.left) (term_flaw Outside (k + s) x.right) (term_flaw Outside j x.left)
      (term_flaw Outside (j + s) x.right) (term_moved k j x.left) (term_moved (k + s) (j + s) x.right)) e

  module _ (hs : List Heading) where
    spatial_moved : (n k j : ℕ) (x : Spatial) → spatial_flaw (term_flaw Outside) term_span most hs n k x ≡ None
        → spatial_flaw (term_flaw Outside) term_span most hs n j x ≡ None
    spatial_moved n k j (Cell t ts) e =
        let s = term_span t in
        let over = λ (i : ℕ). over_if (nat_le most.spatial n) SpatialAtoms i in
        let rest = λ (i : ℕ). or_later (term_flaw Outside i t)
        (arguments_flaw (term_flaw Outside) term_span most (i + s + 1) ts) in
        both_moved (over k) (rest k) (over j) (rest j) (over_moved (nat_le most.spatial n) SpatialAtoms k j)
        (both_moved (term_flaw Outside k t) (arguments_flaw (term_flaw Outside) term_span most (k + s + 1) ts)
        (term_flaw Outside j t) (arguments_flaw (term_flaw Outside) term_span most (j + s + 1) ts) (term_moved k j t)
        (arguments_moved (k + s + 1) (j + s + 1) ts)) e
    spatial_moved n k j (Predicate name ts) e =
        let known = λ (i : ℕ). use_flaw (arity_in hs name) (length ts) i in
        let over = λ (i : ℕ). over_if (nat_le most.spatial n) SpatialAtoms i in
        let rest = λ (i : ℕ). arguments_flaw (term_flaw Outside) term_span most (i + 2) ts in
        both_moved (known k) (or_later (over k) (rest k)) (known j) (or_later (over j) (rest j))
        (use_moved (arity_in hs name) (length ts) k j) (both_moved (over k) (rest k) (over j) (rest j)
        (over_moved (nat_le most.spatial n) SpatialAtoms k j) (arguments_moved (k + 2) (j + 2) ts)) e

    pub heap_moved : (k j : ℕ) (h : Heap) → heap_flaw (term_flaw Outside) term_span most hs k h ≡ None
        → heap_flaw (term_flaw Outside) term_span most hs j h ≡ None
    heap_moved k j h e =
        let pures = λ (i : ℕ). listed_flaw (pure_flaw (term_flaw Outside) term_span most) (pure_span term_span) 0 i
        h.pure in
        let spatials = λ (i : ℕ). listed_flaw (spatial_flaw (term_flaw Outside) term_span most hs)
        (spatial_span term_span) 0 (i + pures_span term_span h.pure) h.spatial in
        both_moved (pures k) (spatials k) (pures j) (spatials j)
        (listed_moved (pure_flaw (term_flaw Outside) term_span most) (pure_span term_span) pure_moved 0 k j h.pure)
        (listed_moved (spatial_flaw (term_flaw Outside) term_span most hs) (spatial_span term_span) spatial_moved 0
        (k + pures_span term_span h.pure) (j + pures_span term_span h.pure) h.spatial) e
