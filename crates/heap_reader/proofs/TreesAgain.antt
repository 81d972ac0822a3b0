-- What a tree without a flaw says is written as that tree.
use Rattle.std.proofs.Common.{◌≡◌, ℕ, suc, ◌+◌, Bool, true, false, List, [], ◌∷◌, length, map, Some, None, refl}
use Rattle.std.specs.Prelude.{nat_le, if◌then◌else◌}
use Rattle.std.specs.Str.{bytes_eq}
use Rattle.std.proofs.lemmas.Slice.Eq.{bytes_eq-Decides}
use Rattle.cyc_basics.specs.declared.limits.Limits.{Limits}
use Rattle.cyc_lex.specs.declared.fault.What.{What}
use Rattle.cyc_lex.specs.declared.fault.What.TheVariants.{Spatial as SpatialAtoms, Cases}
use Rattle.heap_formula.specs.declared.atoms.Pure.TheVariants.{Eq, Neq}
use Rattle.heap_formula.specs.Definitions.{Definition as DefinitionValue}
use Rattle.heap_syntax.specs.declared.definitions.tree.TermTree.{TermTree}
use Rattle.heap_syntax.specs.declared.definitions.tree.TermTree.TheVariants.{Nil, Univ, Exist}
use Rattle.heap_syntax.specs.DefinitionTrees.{PureTree, Spatial, Cell, Predicate, Heap, Definition}
use Rattle.heap_reader.specs.Trees.{Heading}
use Rattle.heap_reader.specs.Spans.{pure_span, pures_span, spatial_span, heap_span}
use Rattle.heap_reader.specs.Flaws.{Found, over_if, or_later, listed_flaw, arguments_flaw, pure_flaw, arity_in}
use Rattle.heap_reader.specs.Flaws.{use_flaw, spatial_flaw, heap_flaw, heap_limit, counted_flaw, heaps_flaw}
use Rattle.heap_reader.specs.Values.{pure_value, place_of, spatial_value, heap_value}
use Rattle.heap_reader.proofs.NoFlaw.{neither}
use Rattle.heap_reader.specs.declared.definitions.scope.Scope.{Scope}
use Rattle.heap_reader.specs.declared.definitions.scope.Scope.TheVariants.{Case as InCase}
use Rattle.heap_reader.specs.DefinitionSpans.{term_span}
use Rattle.heap_reader.specs.DefinitionFlaws.{heading, headings, term_flaw, head_flaw, definition_flaw}
use Rattle.heap_reader.specs.DefinitionValues.{term_value, definition_value}
use Rattle.heap_reader.specs.Written.{term_tree, pure_tree, name_of, spatial_tree, heap_tree, definition_tree}
use Rattle.cyc_basics.proofs.Parts.{map_back}

-- ---- lists

pub listed_again : {X Y : Type 0} (flaw : ℕ → ℕ → X → Found) (span : X → ℕ) (value : X → Y) (tree : Y → X)
    → ((n k : ℕ) (x : X) → flaw n k x ≡ None → tree (value x) ≡ x) → (n k : ℕ) (xs : List X)
    → listed_flaw flaw span n k xs ≡ None → map tree (map value xs) ≡ xs
listed_again flaw span value tree one n k [] e = refl
listed_again flaw span value tree one n k (x ∷ xs) e =
    let both = neither (flaw n k x) (listed_flaw flaw span (suc n) (k + span x) xs) e in
    let first = one n k x both.0 in
    let rest = listed_again flaw span value tree one (suc n) (k + span x) xs both.1 in
    λ i. first i ∷ rest i

-- ---- terms and pure atoms

pub term_again : (t : TermTree) → term_tree (term_value t) ≡ t
term_again Nil = refl
term_again (Univ n) = refl
term_again (Exist n) = refl

terms_again : (ts : List TermTree) → map term_tree (map term_value ts) ≡ ts
terms_again ts = map_back term_value term_tree term_again ts

signed_again : (t u : TermTree) (b : Bool) → pure_tree (if b then Eq (term_value t) (term_value u) else Neq
    (term_value t) (term_value u)) ≡ record { left = t; is_equation = b; right = u }
signed_again t u true = λ i. record { left = term_again t i; is_equation = true; right = term_again u i }
signed_again t u false = λ i. record { left = term_again t i; is_equation = false; right = term_again u i }

pure_again : (x : PureTree) → pure_tree (pure_value term_value x) ≡ x
pure_again x = signed_again x.left x.right x.is_equation

-- ---- names

by_first : (v : DefinitionValue) (vs : List DefinitionValue) (d : Heading) (ds : List Heading) (name : List ℕ) (n k : ℕ)
    (b : Bool) → v.name ≡ d.name → (b ≡ true → d.name ≡ name)
    → (use_flaw (arity_in ds name) n k ≡ None → name_of vs (place_of ds name) ≡ name)
    → use_flaw (if b then Some d.arity else arity_in ds name) n k ≡ None
    → name_of (v ∷ vs) (if b then 0 else suc (place_of ds name)) ≡ name
by_first v vs d ds name n k true named same rest e = let found = same refl in cc
by_first v vs d ds name n k false named same rest e = rest e

-- a name that is defined is that of its number
pub found_name : (hs : List Heading) (ds : List Definition) (name : List ℕ) (n k : ℕ)
    → use_flaw (arity_in (headings ds) name) n k ≡ None → name_of (map (definition_value hs) ds)
    (place_of (headings ds) name) ≡ name
found_name hs [] name n k e = absurd cc
found_name hs (d ∷ ds) name n k e =
    by_first (definition_value hs d) (map (definition_value hs) ds) (heading d) (headings ds) name n k
    (bytes_eq d.name name) refl (bytes_eq-Decides d.name name).0 (found_name hs ds name n k) e

-- ---- heaps and definitions

module _ (most : Limits) (hs : List Heading) (vs : List DefinitionValue)
    (named : (name : List ℕ) (n k : ℕ) → use_flaw (arity_in hs name) n k ≡ None → name_of vs (place_of hs name) ≡ name)
  where
    spatial_again : (scope : Scope) (n k : ℕ) (x : Spatial)
        → spatial_flaw (term_flaw scope) term_span most hs n k x ≡ None
        → spatial_tree vs (spatial_value term_value hs x) ≡ x
    spatial_again scope n k (Cell t ts) e = λ i. Cell (term_again t i) (terms_again ts i)
    spatial_again scope n k (Predicate name ts) e =
        let used = neither (use_flaw (arity_in hs name) (length ts) k)
        (or_later (over_if (nat_le most.spatial n) SpatialAtoms k) (arguments_flaw (term_flaw scope) term_span most
        (k + 2) ts)) e
        in
        let same = named name (length ts) k used.0 in
        λ i. Predicate (same i) (terms_again ts i)

    pub heap_again : (scope : Scope) (k : ℕ) (h : Heap) → heap_flaw (term_flaw scope) term_span most hs k h ≡ None
        → heap_tree vs (heap_value term_value hs h) ≡ h
    heap_again scope k h e =
        let both = neither (listed_flaw (pure_flaw (term_flaw scope) term_span most) (pure_span term_span) 0 k h.pure)
        (listed_flaw (spatial_flaw (term_flaw scope) term_span most hs) (spatial_span term_span) 0
        (k + pures_span term_span h.pure) h.spatial) e in
        let pure = map_back (pure_value term_value) pure_tree pure_again h.pure in
        let spatial = listed_again (spatial_flaw (term_flaw scope) term_span most hs) (spatial_span term_span)
        (spatial_value term_value hs) (spatial_tree vs) (spatial_again scope) 0 (k + pures_span term_span h.pure)
        h.spatial both.1 in
        λ i. record { pure = pure i; spatial = spatial i }

    pub heaps_again : (scope : Scope) (what : What) (k : ℕ) (heaps : List Heap)
        → heaps_flaw (term_flaw scope) term_span most hs what k heaps ≡ None
        → map (heap_tree vs) (map (heap_value term_value hs) heaps) ≡ heaps
    heaps_again scope what k heaps e =
        listed_again (counted_flaw (term_flaw scope) term_span most hs what) (heap_span term_span)
        (heap_value term_value hs) (heap_tree vs) (λ n j h g.
        heap_again scope j h (neither (over_if (nat_le (heap_limit most what) n) what j)
        (heap_flaw (term_flaw scope) term_span most hs j h) g).1) 0 k heaps e

    pub definition_again : (n k : ℕ) (d : Definition) → definition_flaw most hs n k d ≡ None
        → definition_tree vs (definition_value hs d) ≡ d
    definition_again n k d e =
        let both = neither (head_flaw most hs n k d) (heaps_flaw (term_flaw (InCase d.arity most.locals)) term_span most
        hs Cases (k + 6)
        d.cases) e in
        let cases = heaps_again (InCase d.arity most.locals) Cases (k + 6) d.cases both.1 in
        λ i. record { name = d.name; arity = d.arity; cases = cases i }
