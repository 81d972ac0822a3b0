-- Cut is sound.
use Rattle.std.proofs.Common.{◌≡◌, ℕ, suc, ◌+◌, ◌≤◌, Bool, true, false, not, List, [], ◌∷◌, ◌++◌, refl, sym, subst}
use Rattle.std.proofs.Common.{arith, inl, inr}
use Rattle.heap_formula.specs.declared.terms.Term.{Term}
use Rattle.heap_formula.specs.declared.terms.Term.TheVariants.{Nil, Univ, Exist}
use Rattle.heap_formula.specs.declared.atoms.Spatial.{Spatial}
use Rattle.heap_formula.specs.declared.commands.Command.{Command}
use Rattle.heap_formula.specs.Symbolic.{SymbolicHeap}
use Rattle.heap_formula.specs.Definitions.{Definition}
use Rattle.heap_formula.specs.Values.{Stack, value}
use Rattle.heap_formula.specs.Cells.{Cells, no_cells, IsUnion, Star}
use Rattle.heap_formula.specs.Meaning.{Family, PureHolds, AtomHolds, SpatialHolds, Holds, at_stage, Stages, Satisfies}
use Rattle.heap_formula.specs.declared.judgements.Judgement.{Judgement}
use Rattle.heap_formula.specs.Judgements.{IsLocallySound, Concludes, antecedent}
use Rattle.heap_formula.specs.Positions.{chosen, chosen_step, chosen_place, place_step, others_of}
use Rattle.heap_formula.specs.Closedness.{InHeap, InSpatial}
use Rattle.heap_formula.specs.Substitution.{opened_term, in_heap}
use Rattle.heap_formula.specs.Fresh.{heap_bound}
use Rattle.rule_table.specs.RuleCut.{cut_left, cut_right}
use Rattle.heap_formula.proofs.Unions.{star_swap, star_assoc_back, star_map, union_empty, union_comm}
use Rattle.rule_table.proofs.Substitutes.{holds_same, back_along}
use Rattle.rule_table.proofs.Agreement.{IsBelow, heap_below, holds_agrees, continued, continued-agrees, continued-at}
use Rattle.rule_table.proofs.Frames.{pairs_follow}
use Rattle.rule_table.proofs.Conclusions.{IsFresh, antecedent_below, concludes_back, use_premise}
use Rattle.rule_table.proofs.Appends.{then_stages, then_stages-first, append_holds, pairs_follow_if}
use Rattle.heap_formula.proofs.AllMembers.{each_append, each_chosen}

module _ (G : ℕ → Family) (s e : Stack) where
  one_more : (b : Bool) (x : Spatial) (stages : Stages) (f g : ℕ → ℕ) (ins outs : List Spatial) (h : Cells)
      → Star (AtomHolds (G (stages 0)) s e x) (Star (SpatialHolds (λ k. G (stages (suc (f k)))) s e ins)
      (SpatialHolds (λ k. G (stages (suc (g k)))) s e outs)) h
      → Star (SpatialHolds (λ k. G (stages (place_step b f k))) s e (chosen_step b x ins))
      (SpatialHolds (λ k. G (stages (place_step (not b) g k))) s e (chosen_step (not b) x outs)) h
  one_more true x stages f g ins outs h a = star_assoc_back a
  one_more false x stages f g ins outs h a = star_swap a

  -- the chosen atoms in one part, the others in the rest
  pub choose_split : (xs : List Spatial) (p : ℕ → Bool) (stages : Stages) (h : Cells)
      → SpatialHolds (λ k. G (stages k)) s e xs h → Star (SpatialHolds (λ k. G (stages (chosen_place p xs k))) s e
      (chosen p xs)) (SpatialHolds (λ k. G (stages (chosen_place (others_of p) xs k))) s e (chosen (others_of p) xs)) h
  choose_split [] p stages h a = record {
    part = no_cells;
    rest = no_cells;
    union = subst (λ g. IsUnion no_cells no_cells g) (sym a) (union_empty no_cells);
    first = refl;
    others = refl;
  }
  choose_split (x ∷ xs) p stages h a =
      one_more (p 0) x stages (chosen_place (λ k. p (suc k)) xs) (chosen_place (others_of (λ k. p (suc k))) xs)
      (chosen (λ k. p (suc k)) xs) (chosen (others_of (λ k. p (suc k))) xs) h
      (star_map (λ g b. b) (λ g b. choose_split xs (λ k. p (suc k)) (λ k. stages (suc k)) g b) a)

opened_value : (n : ℕ) (s e f : Stack) (t : Term) → IsBelow n t
    → value (continued n s f) e (opened_term n t) ≡ value s f t
opened_value n s e f Nil q = refl
opened_value n s e f (Univ i) q = continued-agrees n s f i (omega arith)
opened_value n s e f (Exist j) q = continued-at n s f j

pub cut_sound : (ds : List Definition) (lines : List Command) (j : Judgement) (p : ℕ → Bool) (f : SymbolicHeap) (n : ℕ)
    → IsFresh lines n j → heap_bound f ≤ n → IsLocallySound ds lines j
    (cut_left (antecedent j) p f ∷ cut_right j p f n ∷ [])
cut_sound ds lines j p f n fresh f_below stages premises s h o =
    elim (premises.0 in_stages (pairs_follow (chosen_place p (antecedent j).spatial) stages 0
    (chosen p (antecedent j).spatial)) s split.part (o.0, (o.1.0, split.first))) [
      | inl t ↦ whole t
      | inr bad ↦ absurd bad
    ]
  where
    in_stages : Stages
    in_stages k = stages (chosen_place p (antecedent j).spatial k)

    out_stages : Stages
    out_stages k = stages (chosen_place (others_of p) (antecedent j).spatial k)

    split : Star (SpatialHolds (λ k. at_stage ds (stages (chosen_place p (antecedent j).spatial k))) s o.0
        (chosen p (antecedent j).spatial)) (SpatialHolds (λ k.
        at_stage ds (stages (chosen_place (others_of p) (antecedent j).spatial k))) s o.0
        (chosen (others_of p) (antecedent j).spatial)) h
    split = choose_split (at_stage ds) s o.0 (antecedent j).spatial p stages h o.1.1

    whole : Satisfies ds s split.part f → Concludes ds lines j s h
    whole t =
        let s' = continued n s t.1.0 in
        let agrees = continued-agrees n s t.1.0 in
        let kept = chosen (others_of p) (antecedent j).spatial in
        let opened = in_heap (opened_term n) f in
        let f_holds : Holds (λ k. at_stage ds (t.0 k)) s' o.0 opened split.part =
        back_along (holds_same (IsBelow n) (opened_term n) s' o.0 s t.1.0 (opened_value n s o.0 t.1.0)
        (λ k. at_stage ds (t.0 k)) f (heap_below n f f_below) split.part) t.1.1 in
        let a' : SymbolicHeap = record { pure = (antecedent j).pure; spatial = kept } in
        let in_a = heap_below n (antecedent j) (antecedent_below lines n j fresh) in
        let in_a' : InHeap (IsBelow n) a' = (
          in_a.0,
          each_chosen (InSpatial (IsBelow n)) (antecedent j).spatial
              (others_of p) in_a.1,
        ) in
        let rest_holds : Holds (λ k. at_stage ds (out_stages k)) s' o.0 a' split.rest =
        back_along (holds_agrees n s s' o.0 agrees (λ k. at_stage ds (out_stages k)) a' in_a' split.rest)
        (o.1.0, split.others) in
        let below = then_stages kept out_stages t.0 in
        let spatial : SpatialHolds (λ k. at_stage ds (below k)) s' o.0 (kept ++ opened.spatial) h =
        append_holds (at_stage ds) s' o.0 kept opened.spatial out_stages t.0 h
        (record {
          part = split.rest;
          rest = split.part;
          union = union_comm split.union;
          first = rest_holds.1;
          others = f_holds.1;
        }) in
        let follows = pairs_follow_if (chosen_place (others_of p) (antecedent j).spatial) stages below 0 kept
        (λ i lt. let z : 0 + i ≡ i = omega arith in subst
        (λ q. below q ≤ stages (chosen_place (others_of p) (antecedent j).spatial q)) (sym z)
        (let v = then_stages-first kept out_stages t.0 i lt in omega arith)) in
        let b : SymbolicHeap = record { pure = (antecedent j).pure ++ opened.pure; spatial = kept ++ opened.spatial } in
        let r = use_premise ds lines below j b (premises.1.0 below follows) s' h
        (o.0, (each_append (PureHolds s' o.0) (antecedent j).pure opened.pure rest_holds.0 f_holds.0, spatial)) in
        concludes_back ds lines n j b s s' h fresh agrees r
