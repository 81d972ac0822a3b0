-- The definitions and the antecedent of a problem that was read are such that base pairs decide satisfiability.
use Rattle.std.proofs.Common.{ℕ, zero, suc, List, [], ◌∷◌, arith}
use Rattle.cyc_basics.specs.declared.limits.Limits.{Limits}
use Rattle.heap_formula.specs.declared.terms.Term.{Term}
use Rattle.heap_formula.specs.declared.terms.Term.TheVariants.{Nil, Univ, Exist}
use Rattle.heap_formula.specs.declared.atoms.Spatial.{Spatial}
use Rattle.heap_formula.specs.declared.atoms.Spatial.TheVariants.{Cell, Pred}
use Rattle.heap_formula.specs.declared.judgements.Judgement.{Judgement}
use Rattle.heap_formula.specs.declared.judgements.Judgement.TheVariants.{Entail, Term as Runs}
use Rattle.heap_formula.specs.Definitions.{Definition}
use Rattle.heap_formula.specs.Judgements.{antecedent}
use Rattle.heap_formula.specs.Symbolic.{SymbolicHeap}
use Rattle.heap_formula.specs.Words.{Each}
use Rattle.rule_table.proofs.Agreement.{IsBelow, heap_below}
use Rattle.rule_book.specs.Limits.{HasFields as HasFewFields, IsCaseWithin, IsDefinitionWithin, IsJudgementWithin}
use Rattle.heap_reader.proofs.HeapTerms.{in_heap_each}
use Rattle.pair_family.specs.Closedness.{AreCases, HasFields, IsCase, IsParameterBelow}
use Rattle.heap_formula.proofs.AllMembers.{each_imply}

has_fields : (x : Spatial) → HasFewFields x → HasFields x
has_fields (Cell t ts) few = few.0
has_fields (Pred p ts) few = tt

parameter_below : (k : ℕ) (t : Term) → IsBelow k t → IsParameterBelow k t
parameter_below k Nil below = tt
parameter_below k (Univ n) below = omega arith
parameter_below k (Exist n) below = tt

module _ (most : Limits) (all : List Definition) where
  is_case : (k : ℕ) (a : SymbolicHeap) → IsCaseWithin most all k a → IsCase k a
  is_case k a within = (
    in_heap_each (IsBelow k) (IsParameterBelow k) (parameter_below k) a (heap_below k a within.parameters),
    each_imply HasFewFields HasFields has_fields a.spatial within.heap.fields,
  )

  -- the cases of definitions within the limits are cases of their predicates
  pub are_cases : (ds : List Definition) → Each (IsDefinitionWithin most all) ds → AreCases ds
  are_cases [] within p = tt
  are_cases (d ∷ ds) within zero = each_imply (IsCaseWithin most all d.arity) (IsCase d.arity) (is_case d.arity)
      d.cases within.0.cases
  are_cases (d ∷ ds) within (suc p) = are_cases ds within.1 p

  -- the cells of an antecedent within the limits have fields
  pub antecedent_fields : (count : ℕ) (j : Judgement) → IsJudgementWithin most all count j
      → Each HasFields (antecedent j).spatial
  antecedent_fields count (Entail a bs)
      within = each_imply HasFewFields HasFields has_fields a.spatial within.heaps.0.fields
  antecedent_fields count (Runs i a)
      within = each_imply HasFewFields HasFields has_fields a.spatial within.heaps.0.fields
