-- Unfold is sound: the stages of the body's atoms are lower.
use Rattle.std.proofs.Common.{◌≡◌, ℕ, zero, suc, ◌+◌, ◌<◌, ◌≤◌, List, [], ◌∷◌, ◌++◌, length, Some, refl, sym, ◌∙◌}
use Rattle.std.proofs.Common.{subst, arith, inl, inr, map}
use Rattle.std.specs.Prelude.{slice_get}
use Rattle.std.proofs.Math.ListN.{get_or, get_or-map}
use Rattle.heap_formula.specs.declared.terms.Term.{Term}
use Rattle.heap_formula.specs.declared.terms.Term.TheVariants.{Nil, Univ, Exist}
use Rattle.heap_formula.specs.declared.atoms.Spatial.{Spatial}
use Rattle.heap_formula.specs.declared.atoms.Spatial.TheVariants.{Pred}
use Rattle.heap_formula.specs.declared.commands.Command.{Command}
use Rattle.heap_formula.specs.Symbolic.{SymbolicHeap}
use Rattle.heap_formula.specs.Definitions.{Definition}
use Rattle.heap_formula.specs.Words.{Each, OneOf}
use Rattle.heap_formula.specs.Values.{Stack, value, values}
use Rattle.heap_formula.specs.Cells.{Cells, Star, IsUnion}
use Rattle.heap_formula.specs.Meaning.{PureHolds, SpatialHolds, Holds, CaseHolds, cases_of, at_stage, Stages}
use Rattle.heap_formula.specs.Judgements.{PremiseHolds, Follows, IsLocallySound, Concludes, antecedent}
use Rattle.heap_formula.specs.Positions.{without, before, kept_pairs, child_pairs}
use Rattle.heap_formula.specs.Closedness.{InHeap, InSpatial}
use Rattle.heap_formula.specs.Substitution.{case_term, case_body}
use Rattle.rule_table.specs.RuleUnfold.{unfolded, unfold_premise}
use Rattle.heap_formula.proofs.Unions.{union_comm}
use Rattle.heap_formula.specs.declared.judgements.Judgement.{Judgement}
use Rattle.rule_table.proofs.Conclusions.{IsFresh, antecedent_below, concludes_back, use_premise}
use Rattle.rule_table.proofs.Substitutes.{holds_same, back_along}
use Rattle.rule_table.proofs.Agreement.{IsBelow, heap_below, holds_agrees, value_below, continued, continued-agrees}
use Rattle.rule_table.proofs.Agreement.{continued-at}
use Rattle.rule_table.proofs.Frames.{take_out}
use Rattle.rule_table.proofs.Rewrites.{AnyTerm, any_heap, Each-without}
use Rattle.rule_table.proofs.Appends.{then_stages, then_stages-first, then_stages-others, append_holds, pairs_follow_if}
use Rattle.rule_table.proofs.Appends.{children_follow}
use Rattle.heap_formula.proofs.AllMembers.{each_append, each_at, each_or}

-- a case's term at these arguments has the value that the case's term has under the arguments' values and the locals
pub case_value : (s e : Stack) (args : List Term) (n : ℕ) (locals : Stack) → Each (IsBelow n) args → (t : Term)
    → AnyTerm t → value (continued n s locals) e (case_term args n t) ≡ value (values s e args) locals t
case_value s e args n locals below Nil q = refl
case_value s e args n locals below (Exist j) q = continued-at n s locals j
case_value s e args n locals below (Univ j) q =
    value_below n s (continued n s locals) e (continued-agrees n s locals) (get_or args j Nil)
    (each_or (IsBelow n) args Nil below (omega arith) j)
    ∙ sym (get_or-map (value s e) args j Nil)

module _ (ds : List Definition) (lines : List Command) (j : Judgement) (k p : ℕ) (args : List Term) (n : ℕ)
    (fresh : IsFresh lines n j) (args_below : Each (IsBelow n) args) (stages : Stages) (s e : Stack) (h : Cells)
    (pures : Each (PureHolds s e) (antecedent j).pure) where
  abbrev a : SymbolicHeap
  a = antecedent j

  abbrev kept : List Spatial
  kept = without k a.spatial

  abbrev kept_stages : Stages
  kept_stages i = stages (before k i)

  abbrev Rest : Cells → Type 0
  Rest g = SpatialHolds (λ i. at_stage ds (kept_stages i)) s e kept g

  -- one case, at stage m below that of atom k
  one_case : (m : ℕ) → m < stages k → (c : SymbolicHeap) → PremiseHolds ds lines stages (unfold_premise j k args n c)
      → Star (λ g. CaseHolds (at_stage ds m) (values s e args) g c) Rest h → Concludes ds lines j s h
  one_case m less c premise split =
      let locals = split.first.0 in
      let body = case_body args n c in
      let s' = continued n s locals in
      let agrees = continued-agrees n s locals in
      let body_holds : Holds (λ _. at_stage ds m) s' e body split.part =
      back_along (holds_same AnyTerm (case_term args n) s' e (values s e args) locals
      (case_value s e args n locals args_below) (λ _. at_stage ds m) c (any_heap c) split.part) split.first.1 in
      let a' : SymbolicHeap = record { pure = a.pure; spatial = kept } in
      let in_a = heap_below n a (antecedent_below lines n j fresh) in
      let in_a' : InHeap (IsBelow n) a' = (in_a.0, Each-without (InSpatial (IsBelow n)) a.spatial k in_a.1) in
      let rest_holds : Holds (λ i. at_stage ds (kept_stages i)) s' e a' split.rest =
      back_along (holds_agrees n s s' e agrees (λ i. at_stage ds (kept_stages i)) a' in_a' split.rest)
      (pures, split.others) in
      let below = then_stages kept kept_stages (λ _. m) in
      let spatial : SpatialHolds (λ i. at_stage ds (below i)) s' e (kept ++ body.spatial) h =
      append_holds (at_stage ds) s' e kept body.spatial kept_stages (λ _. m) h
      (record {
        part = split.rest;
        rest = split.part;
        union = union_comm split.union;
        first = rest_holds.1;
        others = body_holds.1;
      }) in
      let kept_follow : Follows (kept_pairs k a.spatial) stages below =
      pairs_follow_if (before k) stages below 0 kept
      (λ i lt. let z : 0 + i ≡ i = omega arith in subst (λ q. below q ≤ stages (before k q)) (sym z)
      (let v = then_stages-first kept kept_stages (λ _. m) i lt in omega arith)) in
      let child_follow : Follows (child_pairs k (length kept) body.spatial) stages below =
      children_follow k stages below (length kept) body.spatial
      (λ i lt. let v = then_stages-others kept kept_stages (λ _. m) i in omega arith) in
      let follows = each_append _ (kept_pairs k a.spatial) (child_pairs k (length kept) body.spatial)
      kept_follow child_follow in
      let r = use_premise ds lines below j (unfolded a k body) (premise below follows) s' h
      (e, (each_append (PureHolds s' e) a.pure body.pure rest_holds.0 body_holds.0, spatial)) in
      concludes_back ds lines n j (unfolded a k body) s s' h fresh agrees r

  some_case : (m : ℕ) → m < stages k → (cs : List SymbolicHeap)
      → Each (PremiseHolds ds lines stages) (map (unfold_premise j k args n) cs) → (part rest : Cells)
      → IsUnion part rest h → OneOf (CaseHolds (at_stage ds m) (values s e args) part) cs → Rest rest
      → Concludes ds lines j s h
  some_case m less [] ps part rest u o r = absurd o
  some_case m less (c ∷ cs) ps part rest u (inl x) r = one_case m less c ps.0
      (record { part = part; rest = rest; union = u; first = x; others = r })
  some_case m less (c ∷ cs) ps part rest u (inr o) r = some_case m less cs ps.1 part rest u o r

  by_stage : (m : ℕ) → stages k ≡ m → Each (PremiseHolds ds lines stages)
      (map (unfold_premise j k args n) (cases_of ds p)) → Star (at_stage ds m p (values s e args)) Rest h
      → Concludes ds lines j s h
  by_stage zero is ps split = absurd split.first
  by_stage (suc m) is ps split = some_case m (omega arith) (cases_of ds p)
      ps split.part split.rest split.union split.first split.others

pub unfold_sound : (ds : List Definition) (lines : List Command) (j : Judgement) (k p : ℕ) (args : List Term) (n : ℕ)
    → slice_get (antecedent j).spatial k ≡ Some (Pred p args) → IsFresh lines n j
    → IsLocallySound ds lines j (map (unfold_premise j k args n) (cases_of ds p))
unfold_sound ds lines j k p args n at fresh stages premises s h o =
    let args_below = each_at (InSpatial (IsBelow n)) (antecedent j).spatial k (Pred p args) at
    (heap_below n (antecedent j) (antecedent_below lines n j fresh)).1 in
    let out = take_out (at_stage ds) s o.0 (antecedent j).spatial k (Pred p args) stages h at o.1.1 in
    by_stage ds lines j k p args n fresh args_below stages s o.0 h o.1.0 (stages k) refl premises out
