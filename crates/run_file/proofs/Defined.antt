-- Each predicate that a run uses is defined, and has as many arguments as there.
use Rattle.std.proofs.Common.{◌≡◌, ℕ, suc, ◌+◌, Bool, true, false, List, [], ◌∷◌, length, map, Option, Some, None, refl}
use Rattle.std.proofs.Common.{ap, subst, ◌∙◌}
use Rattle.std.specs.Prelude.{not, ◌&&◌, nat_eq, nat_le, if◌then◌else◌, slice_get}
use Rattle.std.specs.Option.{option_map}
use Rattle.std.specs.List.{list_any}
use Rattle.std.specs.Str.{bytes_eq, chars, is_utf8}
use Rattle.std.proofs.lemmas.Bool.{false≢true}
use Rattle.std.proofs.lemmas.List.{length-map}
use Rattle.cyc_basics.specs.declared.limits.Limits.{Limits}
use Rattle.heap_formula.specs.declared.atoms.Spatial.{Spatial as SpatialAtom}
use Rattle.heap_formula.specs.declared.atoms.Spatial.TheVariants.{Cell, Pred}
use Rattle.heap_formula.specs.Definitions.{Definition as DefinitionValue}
use Rattle.heap_formula.specs.Symbolic.{SymbolicHeap}
use Rattle.heap_formula.specs.Words.{Each}
use Rattle.pred_defs.specs.declared.faults.DefFault.{DefFault}
use Rattle.pred_defs.specs.declared.faults.DefFault.TheVariants.{Arity}
use Rattle.pred_defs.specs.Faults.{arity_fault, use_fault, case_fault, definition_fault, closed_fault, first_fault}
use Rattle.pred_defs.specs.Faults.{or_later as then_fault}
use Rattle.cyc_lex.specs.Word.{is_name_text, is_identifier}
use Rattle.cyc_lex.specs.declared.fault.IllFault.TheVariants.{Arity as Unfit}
use Rattle.cyc_lex.specs.declared.fault.What.TheVariants.{Cases, Spatial as SpatialAtoms}
use Rattle.cyc_lex.proofs.BoolParts.{and-parts}
use Rattle.cyc_grammar.specs.Classes.{is_free_name}
use Rattle.heap_syntax.specs.Words.{reserved, bar, closing_brace}
use Rattle.heap_syntax.specs.Grammar as shared
use Rattle.heap_syntax.specs.DefinitionTrees.{Definition}
use Rattle.heap_syntax.specs.DefinitionGrammar.{terms, spatial, heap, cases, definition}
use Rattle.heap_reader.specs.Trees.{Heading}
use Rattle.heap_reader.specs.Spans.{pure_span, pures_span, spatial_span, heap_span}
use Rattle.heap_reader.specs.Flaws.{ill_if, over_if, or_later, listed_flaw, arguments_flaw, pure_flaw, arity_in}
use Rattle.heap_reader.specs.Flaws.{use_flaw, spatial_flaw, heap_flaw, counted_flaw, heaps_flaw}
use Rattle.heap_reader.specs.Values.{place_of}
use Rattle.heap_reader.proofs.NoFlaw.{neither, not_ill}
use Rattle.heap_reader.specs.declared.definitions.scope.Scope.{Scope}
use Rattle.heap_reader.specs.declared.definitions.scope.Scope.TheVariants.{Outside, Case as InCase}
use Rattle.heap_reader.specs.DefinitionSpans.{term_span, definition_span}
use Rattle.heap_reader.specs.DefinitionFlaws.{heading, headings, term_flaw, head_flaw, definition_flaw}
use Rattle.heap_reader.specs.Written.{term_tree, name_in, name_of, spatial_tree, heap_tree, definition_tree}
use Rattle.heap_reader.proofs.DefinitionMembers.{spatials_fit, listed_fit}
use Rattle.heap_reader.proofs.ValuesAgain.{found_place, definitions_fit}
use Rattle.cyc_basics.proofs.Places.{get_map}
use Rattle.run_file.specs.declared.file.RunFile.{RunFile}
use Rattle.run_file.specs.Grammar.{state_claimed, claim, body, run}
use Rattle.run_file.specs.Flaws.{allowed, from_place}
use Rattle.run_file.proofs.Parts.{faultless}
use Rattle.run_file.proofs.RunsAgain.{tree_of_run}

-- ---- names

-- the empty text is no name
no_name : is_free_name reserved [] ≡ true → ⊥
unfolding is_free_name is_name_text chars
no_name e =
    let named = and-parts (is_name_text []) (not (list_any (bytes_eq []) reserved)) e in
    let short = and-parts (is_utf8 []) (nat_le (length {A = ℕ} []) 64 && is_identifier (chars [])) named.0 in
    let letters = and-parts (nat_le (length {A = ℕ} []) 64) (is_identifier (chars [])) short.1 in
    false≢true letters.1

defined : (o : Option DefinitionValue) → is_free_name reserved (name_in o) ≡ true → (d : DefinitionValue) × (o ≡ Some d)
defined None e = absurd (no_name e)
defined (Some d) e = (d, refl)

-- the arity of a name is that of the predicate at its place
arity_placed : (hs : List Heading) (name : List ℕ)
    → arity_in hs name ≡ option_map (λ (h : Heading). h.arity) (slice_get hs (place_of hs name))
arity_placed [] name = refl
arity_placed (h ∷ hs) name = by_test (bytes_eq h.name name) (arity_placed hs name)
  where
    by_test : (b : Bool) → arity_in hs name ≡ option_map (λ (g : Heading). g.arity) (slice_get hs (place_of hs name))
        → (if b then Some h.arity else arity_in hs name) ≡ option_map (λ (g : Heading). g.arity)
        (slice_get (h ∷ hs) (if b then 0 else suc (place_of hs name)))
    by_test true rest = refl
    by_test false rest = rest

same_arity : (n m k : ℕ) → ill_if (not (nat_eq n m)) Unfit k ≡ None → (if nat_eq n m then None else Some Arity) ≡ None
same_arity n m k e = by_test (nat_eq n m) (not_ill (not (nat_eq n m)) Unfit k e)
  where
    by_test : (b : Bool) → not b ≡ false → (if b then None else Some Arity) ≡ None
    by_test true h = refl
    by_test false h = absurd cc

then_none : (a b : Option DefFault) → a ≡ None → b ≡ None → then_fault a b ≡ None
then_none a b e f = rw e f

-- ---- uses

module _ (most : Limits) (ds : List DefinitionValue) where
  abbrev trees : List Definition
  trees = map (definition_tree ds) ds

  abbrev hs : List Heading
  hs = headings trees

  module _ (none : listed_flaw (definition_flaw most hs) definition_span 0 4 trees ≡ None) where
    use_defined : (p n k : ℕ) → is_free_name reserved (name_of ds p) ≡ true
        → use_flaw (arity_in hs (name_of ds p)) n k ≡ None → arity_fault (slice_get ds p) n ≡ None
    use_defined p n k free e =
        let d = defined (slice_get ds p) free in
        let there = get_map (definition_tree ds) ds p d.0 d.1 in
        let known = get_map heading trees p (definition_tree ds d.0) there in
        let arity = λ (h : Heading). h.arity in
        let found : arity_in hs (name_of ds p) ≡ Some d.0.arity = arity_placed hs (name_of ds p)
        ∙ ap (λ i. option_map arity (slice_get hs i)) (found_place most ds none p free) ∙ ap (option_map arity) known
        in
        ap (λ o. arity_fault o n) d.1 ∙ same_arity n d.0.arity k (subst (λ o. use_flaw o n k ≡ None) found e)

    module _ (universal : Bool) (scope : Scope) where
      spatial_defined : (n k : ℕ) (x : SpatialAtom) → (spatial (terms universal)).fits (spatial_tree ds x)
          → spatial_flaw (term_flaw scope) term_span most hs n k (spatial_tree ds x) ≡ None → use_fault ds x ≡ None
      unfolding shared.spatial shared.predicate
      spatial_defined n k (Cell t ts) f e = refl
      spatial_defined n k (Pred p ts) f e =
          let us = map term_tree ts in
          let used = neither (use_flaw (arity_in hs (name_of ds p)) (length us) k)
          (or_later (over_if (nat_le most.spatial n) SpatialAtoms k)
          (arguments_flaw (term_flaw scope) term_span most (k + 2) us)) e in
          subst (λ m. arity_fault (slice_get ds p) m ≡ None) (length-map ts term_tree)
          (use_defined p (length us) k f.1.0 used.0)

      spatials_defined : (n k : ℕ) (xs : List SpatialAtom)
          → Each (spatial (terms universal)).fits (map (spatial_tree ds) xs)
          → listed_flaw (spatial_flaw (term_flaw scope) term_span most hs) (spatial_span term_span) n k
          (map (spatial_tree ds) xs) ≡ None → first_fault (use_fault ds) xs ≡ None
      spatials_defined n k [] f e = refl
      spatials_defined n k (x ∷ xs) f e =
          let flaw = spatial_flaw (term_flaw scope) term_span most hs in
          let tree = spatial_tree ds x in
          let both = neither (flaw n k tree) (listed_flaw flaw (spatial_span term_span) (suc n)
          (k + spatial_span term_span tree) (map (spatial_tree ds) xs)) e in
          then_none (use_fault ds x) (first_fault (use_fault ds) xs) (spatial_defined n k x f.0 both.0)
          (spatials_defined (suc n) (k + spatial_span term_span tree) xs f.1 both.1)

      heap_defined : (k : ℕ) (a : SymbolicHeap) → (heap (terms universal)).fits (heap_tree ds a)
          → heap_flaw (term_flaw scope) term_span most hs k (heap_tree ds a) ≡ None → case_fault ds a ≡ None
      unfolding shared.heap
      heap_defined k a f e =
          let h = heap_tree ds a in
          let j = k + pures_span term_span h.pure in
          let both = neither (listed_flaw (pure_flaw (term_flaw scope) term_span most) (pure_span term_span) 0 k h.pure)
          (listed_flaw (spatial_flaw (term_flaw scope) term_span most hs) (spatial_span term_span) 0 j h.spatial) e in
          spatials_defined 0 j a.spatial (spatials_fit universal h.spatial f.1.1) both.1

    cases_defined : (arity n k : ℕ) (cs : List SymbolicHeap) → Each (heap (terms false)).fits (map (heap_tree ds) cs)
        → listed_flaw (counted_flaw (term_flaw (InCase arity most.locals)) term_span most hs Cases)
        (heap_span term_span) n k (map (heap_tree ds) cs) ≡ None → first_fault (case_fault ds) cs ≡ None
    cases_defined arity n k [] f e = refl
    cases_defined arity n k (a ∷ cs) f e =
        let flaw = counted_flaw (term_flaw (InCase arity most.locals)) term_span most hs Cases in
        let tree = heap_tree ds a in
        let both = neither (flaw n k tree) (listed_flaw flaw (heap_span term_span) (suc n)
        (k + heap_span term_span tree) (map (heap_tree ds) cs)) e in
        let own = neither (over_if (nat_le most.cases n) Cases k)
        (heap_flaw (term_flaw (InCase arity most.locals)) term_span most hs k tree) both.0 in
        then_none (case_fault ds a) (first_fault (case_fault ds) cs)
        (heap_defined false (InCase arity most.locals) k a f.0 own.1)
        (cases_defined arity (suc n) (k + heap_span term_span tree) cs f.1 both.1)

    definition_defined : (n k : ℕ) (d : DefinitionValue) → definition.fits (definition_tree ds d)
        → definition_flaw most hs n k (definition_tree ds d) ≡ None → definition_fault ds d ≡ None
    unfolding definition cases
    definition_defined n k d f e =
        let tree = definition_tree ds d in
        let both = neither (head_flaw most hs n k tree)
        (heaps_flaw (term_flaw (InCase d.arity most.locals)) term_span most hs Cases (k + 6) tree.cases) e in
        cases_defined d.arity 0 (k + 6) d.cases (listed_fit shared.some_heap bar closing_brace (heap (terms false))
        tree.cases f.1.1.1) both.1

    definitions_defined : (n k : ℕ) (xs : List DefinitionValue) → Each definition.fits (map (definition_tree ds) xs)
        → listed_flaw (definition_flaw most hs) definition_span n k (map (definition_tree ds) xs) ≡ None
        → first_fault (definition_fault ds) xs ≡ None
    definitions_defined n k [] f e = refl
    definitions_defined n k (d ∷ xs) f e =
        let flaw = definition_flaw most hs in
        let tree = definition_tree ds d in
        let both = neither (flaw n k tree) (listed_flaw flaw definition_span (suc n) (k + definition_span tree)
        (map (definition_tree ds) xs)) e in
        then_none (definition_fault ds d) (first_fault (definition_fault ds) xs) (definition_defined n k d f.0 both.0)
        (definitions_defined (suc n) (k + definition_span tree) xs f.1 both.1)

-- ---- run files

pub run_closed : (r : RunFile) → closed_fault r.defs.list ≡ None
unfolding run body claim
run_closed r =
    let tree = tree_of_run r in
    let none = (faultless tree r.flawless).definitions in
    definitions_defined (allowed tree) r.defs.list none 0 4 r.defs.list
    (definitions_fit tree.definitions r.fits.1.1.0.0) none

pub precondition_known : (r : RunFile) → case_fault r.defs.list r.precondition ≡ None
unfolding run body claim state_claimed
precondition_known r =
    let tree = tree_of_run r in
    let parts = faultless tree r.flawless in
    heap_defined (allowed tree) r.defs.list parts.definitions true Outside (from_place tree + 3)
    r.precondition r.fits.1.1.0.1.1.1.1 parts.precondition
