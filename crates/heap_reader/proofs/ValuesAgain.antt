-- Values that have a text are what their tree says.
use Rattle.std.proofs.Common.{◌≡◌, ℕ, ◌+◌, Bool, true, false, List, [], ◌∷◌, length, take, map, Option, Some, None}
use Rattle.std.proofs.Common.{refl, ap, subst, ◌∙◌, arith}
use Rattle.std.specs.Prelude.{not, ◌&&◌, is_some, slice_get, nat_lt, nat_le}
use Rattle.std.specs.List.{list_any}
use Rattle.std.specs.Str.{bytes_eq, chars, is_utf8}
use Rattle.std.proofs.lemmas.Bool.{false≢true}
use Rattle.heap_formula.specs.declared.terms.Term.{Term}
use Rattle.heap_formula.specs.declared.terms.Term.TheVariants as terms
use Rattle.heap_formula.specs.declared.atoms.Pure.{Pure}
use Rattle.heap_formula.specs.declared.atoms.Pure.TheVariants.{Eq, Neq}
use Rattle.heap_formula.specs.declared.atoms.Spatial.{Spatial as SpatialAtom}
use Rattle.heap_formula.specs.declared.atoms.Spatial.TheVariants as atoms
use Rattle.heap_formula.specs.Definitions.{Definition as DefinitionValue}
use Rattle.heap_formula.specs.Symbolic.{SymbolicHeap}
use Rattle.heap_formula.specs.Words.{Each}
use Rattle.cyc_basics.specs.declared.limits.Limits.{Limits}
use Rattle.cyc_lex.specs.Word.{is_name_text, is_identifier}
use Rattle.cyc_lex.proofs.BoolParts.{and-parts}
use Rattle.cyc_lex.specs.declared.fault.What.TheVariants.{Predicates, Arguments, Cases}
use Rattle.cyc_lex.specs.declared.fault.IllFault.TheVariants.{Duplicate}
use Rattle.cyc_grammar.specs.Classes.{is_free_name}
use Rattle.cyc_grammar.specs.Syntax.{Class}
use Rattle.heap_syntax.specs.Words.{reserved, bar, closing_brace}
use Rattle.heap_syntax.specs.Grammar as shared
use Rattle.heap_syntax.specs.DefinitionTrees.{Heap, Definition}
use Rattle.heap_syntax.specs.DefinitionGrammar.{terms, spatial, heap, heaps, cases, definition, definitions}
use Rattle.heap_reader.specs.Trees.{Heading}
use Rattle.heap_reader.specs.Flaws.{ill_if, over_if, or_later, listed_flaw, arity_in, heaps_flaw}
use Rattle.heap_reader.specs.Values.{pure_value, place_of, spatial_value, heap_value}
use Rattle.heap_reader.proofs.NoFlaw.{neither, not_ill}
use Rattle.heap_reader.specs.declared.definitions.scope.Scope.TheVariants.{Case as InCase}
use Rattle.heap_reader.specs.DefinitionSpans.{term_span, definition_span}
use Rattle.heap_reader.specs.DefinitionFlaws.{heading, headings, term_flaw, head_flaw, definition_flaw}
use Rattle.heap_reader.specs.DefinitionValues.{term_value, definition_value}
use Rattle.heap_reader.specs.Written.{term_tree, pure_tree, name_in, name_of, spatial_tree, heap_tree, definition_tree}
use Rattle.heap_reader.proofs.DefinitionMembers.{spatials_fit}
use Rattle.cyc_basics.proofs.Options.{not_some}
use Rattle.cyc_basics.proofs.Parts.{map_back}
use Rattle.cyc_basics.proofs.Places.{get_map}
use Rattle.heap_reader.proofs.Members.{many_fit, behind_fit}
use Rattle.heap_reader.proofs.FirstPlaces.{flaw_at, place_first}

-- ---- lists

pub each_known : {X Y : Type 0} (tree : X → Y) (value : Y → X) (Q : Y → Type 0)
    → ((x : X) → Q (tree x) → value (tree x) ≡ x) → (xs : List X) → Each Q (map tree xs) → map value (map tree xs) ≡ xs
each_known tree value Q one [] e = refl
each_known tree value Q one (x ∷ xs) e =
    let first = one x e.0 in
    let rest = each_known tree value Q one xs e.1 in
    λ i. first i ∷ rest i

-- ---- names

no_earlier : (most : Limits) (hs : List Heading) (n k : ℕ) (d : Definition) → definition_flaw most hs n k d ≡ None
    → arity_in (take n hs) d.name ≡ None
no_earlier most hs n k d e =
    let all = neither (head_flaw most hs n k d) (heaps_flaw (term_flaw (InCase d.arity most.locals)) term_span most hs
    Cases (k + 6)
    d.cases) e in
    let head = neither (over_if (nat_le 4096 n) Predicates k)
    (or_later (ill_if (is_some (arity_in (take n hs) d.name)) Duplicate (k + 1))
    (over_if (nat_lt most.arguments d.arity) Arguments (k + 3))) all.0 in
    let taken = neither (ill_if (is_some (arity_in (take n hs) d.name)) Duplicate (k + 1))
    (over_if (nat_lt most.arguments d.arity) Arguments (k + 3)) head.1 in
    not_some (arity_in (take n hs) d.name) (not_ill _ Duplicate (k + 1) taken.0)

-- the empty text is no name
no_name : is_free_name reserved [] ≡ true → ⊥
unfolding is_free_name is_name_text chars
no_name e =
    let named = and-parts (is_name_text []) (not (list_any (bytes_eq []) reserved)) e in
    let short = and-parts (is_utf8 []) (nat_le (length {A = ℕ} []) 64 && is_identifier (chars [])) named.0 in
    let letters = and-parts (nat_le (length {A = ℕ} []) 64) (is_identifier (chars [])) short.1 in
    false≢true letters.1

-- a predicate with a name is defined
defined : (o : Option DefinitionValue) → is_free_name reserved (name_in o) ≡ true → (d : DefinitionValue) × (o ≡ Some d)
defined None e = absurd (no_name e)
defined (Some d) e = (d, refl)

abbrev trees_of : List DefinitionValue → List Definition
trees_of ds = map (definition_tree ds) ds

abbrev heads_of : List DefinitionValue → List Heading
heads_of ds = headings (trees_of ds)

-- the name of a number has that place
pub found_place : (most : Limits) (ds : List DefinitionValue)
    → listed_flaw (definition_flaw most (heads_of ds)) definition_span 0 4 (trees_of ds) ≡ None → (p : ℕ)
    → is_free_name reserved (name_of ds p) ≡ true → place_of (heads_of ds) (name_of ds p) ≡ p
found_place most ds none p free =
    let d = defined (slice_get ds p) free in
    let tree = definition_tree ds d.0 in
    let there = get_map (definition_tree ds) ds p d.0 d.1 in
    let known = get_map heading (trees_of ds) p tree there in
    let at = flaw_at (definition_flaw most (heads_of ds)) definition_span 0 4 (trees_of ds) p tree there none in
    let here : 0 + p ≡ p = omega arith in
    let first = no_earlier most (heads_of ds) p at.0 tree
    (subst (λ n. definition_flaw most (heads_of ds) n at.0 tree ≡ None) here at.1) in
    ap (λ o. place_of (heads_of ds) (name_in o)) d.1 ∙ place_first (heads_of ds) p (heading tree) known first

-- ---- terms and atoms

pub term_known : (t : Term) → term_value (term_tree t) ≡ t
term_known terms.Nil = refl
term_known (terms.Univ n) = refl
term_known (terms.Exist n) = refl

terms_known : (ts : List Term) → map term_value (map term_tree ts) ≡ ts
terms_known ts = map_back term_tree term_value term_known ts

pure_known : (x : Pure) → pure_value term_value (pure_tree x) ≡ x
pure_known (Eq t u) = λ i. Eq (term_known t i) (term_known u i)
pure_known (Neq t u) = λ i. Neq (term_known t i) (term_known u i)

module _ (ds : List DefinitionValue) (ts : List Heading)
    (placed : (p : ℕ) → is_free_name reserved (name_of ds p) ≡ true → place_of ts (name_of ds p) ≡ p) where
  spatial_known : (b : Bool) (x : SpatialAtom) → (spatial (terms b)).fits (spatial_tree ds x)
      → spatial_value term_value ts (spatial_tree ds x) ≡ x
  unfolding shared.spatial shared.predicate shared.cell
  spatial_known b (atoms.Cell t us) f = λ i. atoms.Cell (term_known t i) (terms_known us i)
  spatial_known b (atoms.Pred p us) f =
      let same = placed p f.1.0 in
      λ i. atoms.Pred (same i) (terms_known us i)

  pub heap_known : (b : Bool) (h : SymbolicHeap) → (heap (terms b)).fits (heap_tree ds h)
      → heap_value term_value ts (heap_tree ds h) ≡ h
  unfolding shared.heap
  heap_known b h f =
      let pure = map_back pure_tree (pure_value term_value) pure_known h.pure in
      let spatial = each_known (spatial_tree ds) (spatial_value term_value ts) (spatial (terms b)).fits
      (spatial_known b) h.spatial (spatials_fit b (map (spatial_tree ds) h.spatial) f.1.1) in
      λ i. record { pure = pure i; spatial = spatial i }

  heaps_fit : (between behind : Class (Unit {0})) (hs : List Heap) → (heaps between behind).fits hs
      → Each (heap (terms false)).fits hs
  unfolding shared.listed
  heaps_fit between behind [] f = tt
  heaps_fit between behind (h ∷ hs) f = (f.1.0, behind_fit between (heap (terms false)) hs f.1.1)

  pub heaps_known : (between behind : Class (Unit {0})) (hs : List SymbolicHeap)
      → (heaps between behind).fits (map (heap_tree ds) hs) → map (heap_value term_value ts) (map (heap_tree ds) hs)
      ≡ hs
  heaps_known between behind hs f =
      each_known (heap_tree ds) (heap_value term_value ts) (heap (terms false)).fits (heap_known false) hs
      (heaps_fit between behind (map (heap_tree ds) hs) f)

  pub definition_known : (d : DefinitionValue) → definition.fits (definition_tree ds d)
      → definition_value ts (definition_tree ds d) ≡ d
  unfolding definition cases
  definition_known d f =
      let same = heaps_known bar closing_brace d.cases f.1.1.1 in
      λ i. record { name = d.name; arity = d.arity; cases = same i }

pub definitions_fit : (ds : List Definition) → definitions.fits ds → Each definition.fits ds
unfolding definitions
definitions_fit ds f = many_fit definition ds f
