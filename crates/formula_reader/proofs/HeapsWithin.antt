-- What holds of the value of a problem's heap whose tree has a text and no flaw.
use Rattle.std.proofs.Common.{◌≡◌, ℕ, ◌+◌, ◌<◌, ◌≤◌, Bool, true, false, List, [], ◌∷◌, length, map, None, arith}
use Rattle.std.specs.Prelude.{if◌then◌else◌, nat_le}
use Rattle.std.proofs.lemmas.List.{length-map}
use Rattle.cyc_basics.specs.declared.limits.Limits.{Limits}
use Rattle.heap_formula.specs.declared.terms.Term.{Term}
use Rattle.heap_formula.specs.declared.atoms.Pure.{Pure}
use Rattle.heap_formula.specs.declared.atoms.Pure.TheVariants.{Eq, Neq}
use Rattle.heap_formula.specs.declared.atoms.Spatial.{Spatial as SpatialAtom}
use Rattle.heap_formula.specs.declared.atoms.Spatial.TheVariants as atoms
use Rattle.heap_formula.specs.Closedness.{InPure, InSpatial, InHeap}
use Rattle.heap_formula.specs.Definitions.{Definition}
use Rattle.heap_formula.specs.Fresh.{univ_bound, exist_bound, pure_bound, spatial_bound, heap_bound, pure_exists}
use Rattle.heap_formula.specs.Fresh.{spatial_exists, heap_exists}
use Rattle.heap_formula.specs.Symbolic.{SymbolicHeap}
use Rattle.heap_formula.specs.Words.{Each}
use Rattle.pred_defs.specs.Faults.{case_fault}
use Rattle.rule_book.specs.Limits.{HasFields, IsHeapWithin}
use Rattle.rule_book.proofs.Heaps.{IsLow, are_shaped, within}
use Rattle.cyc_lex.specs.declared.fault.What.TheVariants.{Arguments, Pure as PureAtoms, Spatial as SpatialAtoms}
use Rattle.heap_syntax.specs.declared.tree.PureTree.{PureTree}
use Rattle.heap_syntax.specs.Trees.{Spatial, Cell, Predicate, Heap}
use Rattle.heap_syntax.specs.Words.{star}
use Rattle.heap_syntax.specs.Grammar as shared
use Rattle.problem_syntax.specs.Trees as named
use Rattle.problem_syntax.specs.Trees.{Nil, Plain, Primed}
use Rattle.problem_syntax.specs.Grammar.{terms, behind_name, spatial, heap}
use Rattle.heap_reader.specs.Trees.{Heading}
use Rattle.heap_reader.specs.Spans.{pure_span, pures_span, spatial_span}
use Rattle.heap_reader.specs.Flaws.{Found, over_if, or_later, listed_flaw, argument_flaw, arguments_flaw, pure_flaw}
use Rattle.heap_reader.specs.Flaws.{arity_in, use_flaw, spatial_flaw, heap_flaw}
use Rattle.heap_reader.specs.Small.{IsSmallSpatial, IsSmallHeap}
use Rattle.heap_reader.specs.Values.{pure_value, spatial_value, heap_value}
use Rattle.heap_reader.proofs.Fitting.{HasFewAtoms}
use Rattle.heap_reader.proofs.NoFlaw.{neither, each_of as each_flawless}
use Rattle.problem_syntax.specs.Numbering as numbers
use Rattle.formula_reader.specs.Values.{term_value}
use Rattle.heap_formula.proofs.AllMembers.{each_imply, each_mapped}
use Rattle.heap_formula.proofs.Greatest.{below_each}
use Rattle.heap_reader.proofs.Members.{behind_fit}

-- ---- a cell of a text has a field

abbrev HasField : named.Spatial → Type 0
HasField (Cell t ts) = 0 < length ts
HasField (Predicate name ts) = Unit {0}

module _ (b : Bool) where
  atom_has_field : (x : named.Spatial) → (spatial b).fits x → HasField x
  unfolding spatial behind_name shared.fields shared.listed
  atom_has_field (Predicate name ts) f = tt
  atom_has_field (Cell Nil ts) f = f.1.0
  atom_has_field (Cell (Plain s) ts) f = f.1.1.1.0
  atom_has_field (Cell (Primed s) ts) f = f.1.1.1.0

  atoms_have_fields : (xs : List named.Spatial) → (shared.spatials (terms b) (spatial b)).fits xs → Each HasField xs
  unfolding shared.spatials shared.spatials1
  atoms_have_fields [] f = tt
  atoms_have_fields (x ∷ xs) f = (
    atom_has_field x f.1.1.0,
    each_imply (spatial b).fits HasField atom_has_field xs
        (behind_fit star (spatial b) xs f.1.1.1),
  )

  heap_has_fields : (h : named.Heap) → (heap b).fits h → Each HasField h.spatial
  unfolding shared.heap
  heap_has_fields h f = atoms_have_fields h.spatial f.1.1

-- ---- a heap of a text without a flaw is within the limits

module _ (limit : Limits) (hs : List Heading) (scope : numbers.Scope) where
  fields_kept : (x : named.Spatial) → HasField x → IsSmallSpatial term_value (numbers.spatial scope x)
      → HasFields (spatial_value term_value hs (numbers.spatial scope x))
  fields_kept (Cell t ts) some small =
      let m = length-map ts (numbers.term scope) in
      let n = length-map (map (numbers.term scope) ts) term_value in
      let few = small.1.1 in
      (omega arith, omega arith)
  fields_kept (Predicate name ts) some small = tt

  all_fields_kept : (xs : List named.Spatial) → Each HasField xs
      → Each (IsSmallSpatial term_value) (map (numbers.spatial scope) xs)
      → Each HasFields (map (spatial_value term_value hs) (map (numbers.spatial scope) xs))
  all_fields_kept [] some small = tt
  all_fields_kept (x ∷ xs) some small = (fields_kept x some.0 small.0, all_fields_kept xs some.1 small.1)

  pub heap_within : (ds : List Definition) (b : Bool) (h : named.Heap) → (heap b).fits h
      → IsSmallHeap term_value (numbers.heap scope h) → HasFewAtoms limit (numbers.heap scope h)
      → InHeap IsLow (heap_value term_value hs (numbers.heap scope h))
      → case_fault ds (heap_value term_value hs (numbers.heap scope h)) ≡ None
      → IsHeapWithin limit ds (heap_value term_value hs (numbers.heap scope h))
  heap_within ds b h fits small short low known =
      let tree = numbers.heap scope h in
      let a = heap_value term_value hs tree in
      let m = length-map tree.pure (pure_value term_value) in
      let n = length-map tree.spatial (spatial_value term_value hs) in
      let few_pures = short.0 in
      let few_spatials = short.1 in
      within limit ds a (record {
        pures = omega arith;
        spatials = omega arith;
        low = low;
        shaped = are_shaped ds a.spatial known (all_fields_kept h.spatial (heap_has_fields b h fits) small.spatial);
      })
