-- The rules that change the left side are sound.
use Rattle.std.proofs.Common.{◌≡◌, ℕ, ◌≤◌, max, Bool, true, false, cond, List, [], ◌∷◌, ◌++◌, map, length, Some, refl}
use Rattle.std.proofs.Common.{sym, ap, ◌∙◌, arith}
use Rattle.std.specs.Prelude.{Ok, slice_get, slice_set, slice_index, nat_eq, nat_le, if◌then◌else◌}
use Rattle.std.proofs.lemmas.Bool.Decides.{Decides-eqb}
use Rattle.cyc_basics.specs.declared.limits.Limits.{Limits}
use Rattle.heap_formula.specs.declared.terms.Term.{Term}
use Rattle.heap_formula.specs.declared.terms.Term.TheVariants.{Nil, Univ, Exist}
use Rattle.heap_formula.specs.declared.atoms.Pure.{Pure}
use Rattle.heap_formula.specs.declared.atoms.Pure.TheVariants.{Eq, Neq}
use Rattle.heap_formula.specs.declared.atoms.Spatial.{Spatial}
use Rattle.heap_formula.specs.declared.atoms.Spatial.TheVariants.{Cell, Pred}
use Rattle.heap_formula.specs.declared.commands.Command.{Command}
use Rattle.heap_formula.specs.declared.judgements.Judgement.{Judgement}
use Rattle.heap_formula.specs.declared.judgements.Judgement.TheVariants.{Entail, Term as Runs}
use Rattle.heap_formula.specs.declared.proof_rules.Side.{Side}
use Rattle.heap_formula.specs.declared.proof_rules.Side.TheVariants.{Left, Right}
use Rattle.heap_formula.specs.declared.proof_rules.RuleFault.TheVariants.{NoSuchAtom, NotAbsurd, NoCell}
use Rattle.heap_formula.specs.Symbolic.{SymbolicHeap}
use Rattle.heap_formula.specs.Definitions.{Definition}
use Rattle.heap_formula.specs.Words.{Each}
use Rattle.heap_formula.specs.Values.{Stack, value}
use Rattle.heap_formula.specs.Cells.{Cells}
use Rattle.heap_formula.specs.Meaning.{PureHolds, Stages, SatisfiesAt, Satisfies, at_stage, cases_of}
use Rattle.heap_formula.specs.Fresh.{heap_bound, fresh_number}
use Rattle.heap_formula.specs.Programs.{EndHolds, has_ends, start_at, program_variables}
use Rattle.heap_formula.specs.Judgements.{Concludes, IsLocallySound, antecedent, with_antecedent}
use Rattle.heap_formula.specs.Positions.{without, before, kept_pairs}
use Rattle.heap_formula.specs.Closedness.{InPure, IsUniversal, IsUniversalHeap}
use Rattle.heap_formula.specs.Substitution.{apply_term, apply_pure, apply_spatial, apply_heap, apply_judgement}
use Rattle.rule_table.specs.RuleUnfold.{unfold_premise}
use Rattle.rule_table.specs.RuleCut.{cut_left, cut_right}
use Rattle.heap_formula.proofs.Unions.{union_assoc, union_comm}
use Rattle.heap_formula.proofs.EndLaws.{halts_alike}
use Rattle.rule_table.proofs.Substitutes.{pures_same, spatial_same, holds_same, along, back_along}
use Rattle.rule_table.proofs.Frames.{value_universal, take_out, pairs_follow}
use Rattle.rule_table.proofs.Rewrites.{AnyTerm, any_heap, Each-without, value_replaced}
use Rattle.rule_table.proofs.Conclusions.{IsFresh, use_premise}
use Rattle.rule_table.proofs.PureRules.{by_pures, weaken_sound, split_sound}
use Rattle.rule_table.proofs.Unfolds.{unfold_sound}
use Rattle.rule_table.proofs.Cuts.{cut_sound}
use Rattle.rule_table.specs.Answer.{limited, one, two}
use Rattle.rule_table.specs.Tests.{same_term, is_absurd, address_of, has_number, ascend_from}
use Rattle.rule_table.specs.Table.{with_pures, with_pure, rewritten_pures, rewritten, rewrite_side, rewrite_atom, named}
use Rattle.rule_table.specs.Table.{unnamed, calls, without_spatial, absurd_answer, rewrite_answer, split_answer}
use Rattle.rule_table.specs.Table.{distinct_answer, weaken_answer, unfold_answer, cut_answer, drop_answer}
use Rattle.rule_table.specs.Soundness.{IsSound, HasVariables}
use Rattle.rule_table.proofs.Steps.{needs_sound, finds_sound, limited_sound, runs_sound}
use Rattle.rule_table.proofs.CellsIn.{cell_there, apart, absurd_heap}
use Rattle.heap_formula.proofs.AllMembers.{each_append, each_at, each_set}
use Rattle.heap_formula.proofs.SomeMember.{one_unmap}

-- the fresh number is fresh
pub is_fresh : (lines : List Command) (p n : ℕ) (j : Judgement) → HasVariables lines p j → fresh_number p j ≤ n
    → IsFresh lines n j
is_fresh lines p n (Entail a bs) v le = omega arith
is_fresh lines p n (Runs i a) v le = let w : program_variables lines ≤ p = v in (omega arith, omega arith)

module _ (ds : List Definition) (lines : List Command) where
  pub absurd_is_sound : (j : Judgement) → IsSound ds lines j (absurd_answer j)
  absurd_is_sound j =
      needs_sound ds lines j (is_absurd (antecedent j)) NotAbsurd _ (λ c stages none s h o.
      absurd (absurd_heap s o.0 (λ k. at_stage ds (stages k)) (antecedent j) h c o.1))

  pub weaken_is_sound : (j : Judgement) (k : ℕ) → IsSound ds lines j (weaken_answer j k)
  weaken_is_sound j k =
      finds_sound ds lines j (slice_get (antecedent j).pure k) NoSuchAtom _ (λ x at. weaken_sound ds lines j k)

  pub split_is_sound : (most : Limits) (j : Judgement) (t u : Term) → IsSound ds lines j (split_answer most j t u)
  split_is_sound most j t u = limited_sound ds lines most j (two (with_pure j (Eq t u)) (with_pure j (Neq t u)))
      (split_sound ds lines j t u)

  -- one more pure atom that holds
  pub by_pure : (j : Judgement) (x : Pure) → ((stages : Stages) (s : Stack) (h : Cells)
      (o : SatisfiesAt ds stages s h (antecedent j)) → PureHolds s o.0 x)
      → IsLocallySound ds lines j (one (with_pure j x))
  by_pure j x f stages premises s h o =
      by_pures ds lines j ((antecedent j).pure ++ x ∷ []) stages premises.0 s h o
      (each_append (PureHolds s o.0) (antecedent j).pure (x ∷ []) o.1.0 (f stages s h o, tt))

  -- ---- Distinct

  distinct_holds : (a : SymbolicHeap) (i k : ℕ) (t u : Term) (ts us : List Term)
      → slice_get a.spatial i ≡ Some (Cell t ts) → slice_get a.spatial k ≡ Some (Cell u us) → (b : Bool)
      → nat_eq i k ≡ b → (stages : Stages) (s : Stack) (h : Cells) (o : SatisfiesAt ds stages s h a)
      → PureHolds s o.0 (Neq t (cond b Nil u))
  distinct_holds a i k t u ts us at_i at_k true q stages s h o =
      let c = cell_there s o.0 (λ m. at_stage ds (stages m)) a.spatial i t ts h at_i o.1.1 in
      λ zero_at. let pos = c.positive in let z : value s o.0 t ≡ 0 = zero_at in absurd (omega arith)
  distinct_holds a i k t u ts us at_i at_k false q stages s h o =
      apart s o.0 (λ m. at_stage ds (stages m)) a.spatial i k t u ts us h at_i at_k
      (λ e. let bad = (Decides-eqb i k).1 e in cc) o.1.1

  cell_of_address : (x : Spatial) (t : Term) → address_of x ≡ Some t → (ts : List Term) × (x ≡ Cell t ts)
  cell_of_address (Cell v ts) t e = let same : v ≡ t = cc in (ts, λ i. Cell (same i) ts)
  cell_of_address (Pred q ts) t e = cc

  pub distinct_is_sound : (most : Limits) (j : Judgement) (i k : ℕ) → IsSound ds lines j (distinct_answer most j i k)
  distinct_is_sound most j i k =
      finds_sound ds lines j (slice_get (antecedent j).spatial i) NoSuchAtom _ (λ x at_i.
      finds_sound ds lines j (slice_get (antecedent j).spatial k) NoSuchAtom _ (λ y at_k.
      finds_sound ds lines j (address_of x) NoCell _ (λ t is_t.
      finds_sound ds lines j (address_of y) NoCell _ (λ u is_u.
      limited_sound ds lines most j (one (with_pure j (Neq t (if nat_eq i k then Nil else u))))
      (by_pure j (Neq t (if nat_eq i k then Nil else u)) (
      let c = cell_of_address x t is_t in
      let d = cell_of_address y u is_u in
      distinct_holds (antecedent j) i k t u c.0 d.0 (at_i ∙ ap Some c.1) (at_k ∙ ap Some d.1) (nat_eq i k) refl))))))

  -- ---- Rewrite

  module _ (v : ℕ) (u : Term) where
    pures_rewritten : (b : Bool) (s e : Stack) (k : ℕ) (x : Pure) (a : SymbolicHeap) → value s e u ≡ slice_index s v
        → PureHolds s e x → Each (PureHolds s e) a.pure → Each (PureHolds s e)
        (cond b (map (apply_pure ((v, u) ∷ [])) (without k a.pure))
        (slice_set (map (apply_pure ((v, u) ∷ [])) a.pure) k x))
    pures_rewritten true s e k x a same here all =
        let a' : SymbolicHeap = record { pure = without k a.pure; spatial = a.spatial } in
        back_along (pures_same AnyTerm (apply_term ((v, u) ∷ [])) s e s e (value_replaced s e v u same)
        (without k a.pure) (any_heap a').0) (Each-without (PureHolds s e) a.pure k all)
    pures_rewritten false s e k x a same here all =
        each_set (PureHolds s e) (map (apply_pure ((v, u) ∷ [])) a.pure) k x here
        (back_along (pures_same AnyTerm (apply_term ((v, u) ∷ [])) s e s e (value_replaced s e v u same) a.pure
        (any_heap a).0) all)

    -- what the judgement claims after the replacement it claims before
    rewritten_back : (j : Judgement) (b : SymbolicHeap) (s e : Stack) (h : Cells) → IsUniversal u
        → value s e u ≡ slice_index s v → Concludes ds lines (with_antecedent (apply_judgement ((v, u) ∷ []) j) b) s h
        → Concludes ds lines j s h
    rewritten_back (Entail a bs) b s e h universal same c =
        one_unmap (Satisfies ds s h) (Satisfies ds s h) (apply_heap ((v, u) ∷ [])) (λ d t.
        let f = t.1.0 in
        let same' : value s f u ≡ slice_index s v = value_universal s f e u universal ∙ same in (
          t.0,
          (
            f,
            along (holds_same AnyTerm (apply_term ((v, u) ∷ [])) s f s f (value_replaced s f v u same')
                (λ m. at_stage ds (t.0 m)) d (any_heap d) h) t.1.1,
          ),
        )) bs c
    rewritten_back (Runs i a) b s e h universal same c = c

    rewritten_sound : (p : ℕ) (j : Judgement) (k : ℕ) (x : Pure) → slice_get (antecedent j).pure k ≡ Some x
        → ((s e : Stack) → PureHolds s e x → value s e u ≡ slice_index s v) → IsUniversal u
        → IsLocallySound ds lines j (one (rewritten p j k x v u))
    rewritten_sound p j k x at equates universal stages premises s h o =
        let here = each_at (PureHolds s o.0) (antecedent j).pure k x at o.1.0 in
        let same = equates s o.0 here in
        let a = antecedent j in
        let b : SymbolicHeap = record {
          pure = rewritten_pures p k x v u a.pure;
          spatial = map (apply_spatial ((v, u) ∷ [])) a.spatial;
        } in
        let spatial = back_along (spatial_same AnyTerm (apply_term ((v, u) ∷ [])) s o.0 s o.0
        (value_replaced s o.0 v u same) (λ m. at_stage ds (stages m)) a.spatial (any_heap a).1 h) o.1.1 in
        let pures = pures_rewritten (nat_le p v) s o.0 k x a same here o.1.0 in
        let r = use_premise ds lines stages (apply_judgement ((v, u) ∷ []) j) b
        (premises.0 stages (pairs_follow (λ m. m) stages 0 a.spatial)) s h (o.0, (pures, spatial)) in
        rewritten_back j b s o.0 h universal same r

  rewrite_side_sound : (p : ℕ) (j : Judgement) (k : ℕ) (x : Pure) (t u : Term)
      → slice_get (antecedent j).pure k ≡ Some x → ((s e : Stack) → PureHolds s e x → value s e u ≡ value s e t)
      → IsUniversal u → IsSound ds lines j (rewrite_side p j k x t u)
  rewrite_side_sound p j k x Nil u at equates universal = tt
  rewrite_side_sound p j k x (Exist n) u at equates universal = tt
  rewrite_side_sound p j k x (Univ v) u at equates universal = rewritten_sound v u p j k x at equates universal

  rewrite_by_side : (p : ℕ) (j : Judgement) (k : ℕ) (side : Side) (t u : Term)
      → slice_get (antecedent j).pure k ≡ Some (Eq t u) → IsUniversal t → IsUniversal u
      → IsSound ds lines j (rewrite_side p j k (Eq t u) (named side t u) (unnamed side t u))
  rewrite_by_side p j k Left t u at ut uu = rewrite_side_sound p j k (Eq t u) t u at (λ s e h. sym h) uu
  rewrite_by_side p j k Right t u at ut uu = rewrite_side_sound p j k (Eq t u) u t at (λ s e h. h) ut

  rewrite_by_test : (b : Bool) (p : ℕ) (j : Judgement) (k : ℕ) (side : Side) (t u : Term)
      → slice_get (antecedent j).pure k ≡ Some (Eq t u) → IsUniversal t → IsUniversal u
      → IsSound ds lines j (cond b (Ok (one (with_pures j (without k (antecedent j).pure))))
      (rewrite_side p j k (Eq t u) (named side t u) (unnamed side t u)))
  rewrite_by_test true p j k side t u at ut uu = weaken_sound ds lines j k
  rewrite_by_test false p j k side t u at ut uu = rewrite_by_side p j k side t u at ut uu

  rewrite_atom_sound : (p : ℕ) (j : Judgement) (k : ℕ) (side : Side) (x : Pure)
      → slice_get (antecedent j).pure k ≡ Some x → InPure IsUniversal x → IsSound ds lines j (rewrite_atom p j k side x)
  rewrite_atom_sound p j k side (Neq t u) at universal = tt
  rewrite_atom_sound p j k side (Eq t u) at universal = rewrite_by_test (same_term t u)
      p j k side t u at universal.0 universal.1

  pub rewrite_is_sound : (p : ℕ) (j : Judgement) (k : ℕ) (side : Side) → IsUniversalHeap (antecedent j)
      → IsSound ds lines j (rewrite_answer p j k side)
  rewrite_is_sound p j k side universal =
      finds_sound ds lines j (slice_get (antecedent j).pure k) NoSuchAtom _
      (λ x at. rewrite_atom_sound p j k side x at (each_at (InPure IsUniversal)
      (antecedent j).pure k x at universal.0))

  -- ---- Unfold, Cut, Drop

  unfold_call_sound : (most : Limits) (p : ℕ) (j : Judgement) (k : ℕ) (x : Spatial) → HasVariables lines p j
      → slice_get (antecedent j).spatial k ≡ Some x → IsSound ds lines j
      (calls x (λ q ts. limited most (map (unfold_premise j k ts (fresh_number p j)) (cases_of ds q))))
  unfold_call_sound most p j k (Cell t ts) v at = tt
  unfold_call_sound most p j k (Pred q ts) v at =
      limited_sound ds lines most j (map (unfold_premise j k ts (fresh_number p j)) (cases_of ds q))
      (unfold_sound ds lines j k q ts (fresh_number p j) at (is_fresh lines p (fresh_number p j) j v (omega arith)))

  pub unfold_is_sound : (most : Limits) (p : ℕ) (j : Judgement) (k : ℕ) → HasVariables lines p j
      → IsSound ds lines j (unfold_answer most ds p j k)
  unfold_is_sound most p j k v =
      finds_sound ds lines j (slice_get (antecedent j).spatial k) NoSuchAtom _
      (λ x at. unfold_call_sound most p j k x v at)

  pub cut_is_sound : (most : Limits) (p : ℕ) (j : Judgement) (places : List ℕ) (f : SymbolicHeap)
      → HasVariables lines p j
      → IsSound ds lines j (cut_answer most p j places f)
  cut_is_sound most p j places f v =
      needs_sound ds lines j (ascend_from 0 (length (antecedent j).spatial) places) NoSuchAtom _ (λ _.
      limited_sound ds lines most j (two (cut_left (antecedent j) (has_number places) f)
      (cut_right j (has_number places) f (max (fresh_number p j) (heap_bound f))))
      (cut_sound ds lines j (has_number places) f (max (fresh_number p j) (heap_bound f))
      (is_fresh lines p (max (fresh_number p j) (heap_bound f)) j v (omega arith)) (omega arith)))

  drop_sound : has_ends lines ≡ false → (i : ℕ) (a : SymbolicHeap) (k : ℕ) (x : Spatial)
      → slice_get a.spatial k ≡ Some x
      → IsLocallySound ds lines (Runs i a) (one (record {
        judgement = Runs i (without_spatial k a);
        pairs = kept_pairs k a.spatial;
      }))
  drop_sound none i a k x at stages premises s part o w pos rest h is =
      let out = take_out (at_stage ds) s o.0 a.spatial k x stages part at o.1.1 in
      let split = union_assoc (union_comm out.union) is in
      let r = premises.0 (λ m. stages (before k m)) (pairs_follow (before k) stages 0 (without k a.spatial)) s out.rest
      (o.0, (o.1.0, out.others)) w pos split.0 h split.2 in
      (r.0, halts_alike (EndHolds ds split.0) (EndHolds ds rest) lines none w r.0 (start_at lines i s h) r.1)

  pub drop_is_sound : has_ends lines ≡ false → (j : Judgement) (k : ℕ) → IsSound ds lines j (drop_answer j k)
  drop_is_sound none j k =
      runs_sound ds lines j _ (λ i a.
      finds_sound ds lines (Runs i a) (slice_get a.spatial k) NoSuchAtom _ (λ x at. drop_sound none i a k x at))
