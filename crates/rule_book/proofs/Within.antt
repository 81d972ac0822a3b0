-- Rule by rule: the heaps of the premises are within the limits, and so is their form.
use Rattle.std.proofs.Common.{◌≡◌, ℕ, zero, suc, ◌+◌, ◌-◌, ◌<◌, ◌≤◌, max, Bool, true, false, cond, List, [], ◌∷◌, map}
use Rattle.std.proofs.Common.{length, length-set, not, Some, refl, subst, arith}
use Rattle.std.proofs.lemmas.List.{length-map}
use Rattle.std.specs.Prelude.{Ok, Err, nat_eq, nat_le, if◌then◌else◌, slice_get, slice_set}
use Rattle.cyc_basics.specs.declared.limits.Limits.{Limits}
use Rattle.heap_formula.specs.declared.terms.Term.{Term}
use Rattle.heap_formula.specs.declared.terms.Term.TheVariants.{Nil, Univ, Exist}
use Rattle.heap_formula.specs.declared.atoms.Pure.{Pure}
use Rattle.heap_formula.specs.declared.atoms.Pure.TheVariants.{Eq, Neq}
use Rattle.heap_formula.specs.declared.atoms.Spatial.{Spatial}
use Rattle.heap_formula.specs.declared.atoms.Spatial.TheVariants.{Cell, Pred}
use Rattle.heap_formula.specs.declared.commands.Command.{Command}
use Rattle.heap_formula.specs.declared.commands.Command.TheVariants.{Assign, Load, Store, New, Free, IfEq, IfNeq, IfAny}
use Rattle.heap_formula.specs.declared.commands.Command.TheVariants.{Goto, Stop, Ends}
use Rattle.heap_formula.specs.declared.judgements.Judgement.{Judgement}
use Rattle.heap_formula.specs.declared.judgements.Judgement.TheVariants.{Entail, Term as Runs}
use Rattle.heap_formula.specs.declared.judgements.Premise.{Premise}
use Rattle.heap_formula.specs.declared.proof_rules.Rule.{Rule}
use Rattle.heap_formula.specs.declared.proof_rules.Rule.TheVariants.{Absurd, Rewrite, Split, Distinct, Weaken, Unfold}
use Rattle.heap_formula.specs.declared.proof_rules.Rule.TheVariants.{Cut, Done, Choose, PureRight, Instantiate, Frame}
use Rattle.heap_formula.specs.declared.proof_rules.Rule.TheVariants.{UnfoldRight, Exec, Drop}
use Rattle.heap_formula.specs.declared.proof_rules.RuleFault.{RuleFault}
use Rattle.heap_formula.specs.declared.proof_rules.RuleFault.TheVariants.{NoSuchAtom, AtomsDiffer, HasExistential}
use Rattle.heap_formula.specs.declared.proof_rules.RuleFault.TheVariants.{NotFollowing, NotAbsurd, NoSuchCase, NoCell}
use Rattle.heap_formula.specs.declared.proof_rules.RuleFault.TheVariants.{WrongJudgement}
use Rattle.heap_formula.specs.declared.proof_rules.Side.{Side}
use Rattle.heap_formula.specs.declared.proof_rules.Side.TheVariants.{Left, Right}
use Rattle.heap_formula.specs.Closedness.{InPure, InSpatial}
use Rattle.heap_formula.specs.Definitions.{Definition}
use Rattle.heap_formula.specs.Fresh.{fresh_number, heap_bound, heap_exists, variables_from}
use Rattle.heap_formula.specs.Judgements.{antecedent}
use Rattle.heap_formula.specs.Meaning.{cases_of}
use Rattle.heap_formula.specs.Positions.{without, kept_pairs, chosen, others_of}
use Rattle.heap_formula.specs.Programs.{counted_from_one, program_variables, has_ends}
use Rattle.heap_formula.specs.Substitution.{in_heap, apply_term, apply_pure, apply_spatial, apply_judgement, case_term}
use Rattle.heap_formula.specs.Substitution.{case_body, opened_term}
use Rattle.heap_formula.specs.Symbolic.{SymbolicHeap}
use Rattle.heap_formula.specs.Words.{Each}
use Rattle.goto_lang.specs.Lines.{IsLineOf, MayStandAt, IsProgram}
use Rattle.rule_table.specs.Answer.{Answer, finds, heaps_of, limited, one, two}
use Rattle.rule_table.specs.ExecTable.{Found, cell_of, renamed, renamed_term, with_atom, with_cell, with_field, at_line}
use Rattle.rule_table.specs.ExecTable.{command_answer}
use Rattle.rule_table.specs.Fits.{OnPremises}
use Rattle.rule_table.specs.RuleBook.{variables_of, rule_answer}
use Rattle.rule_table.specs.RuleCut.{cut_left, cut_right}
use Rattle.rule_table.specs.RuleUnfold.{unfolded, unfold_premise}
use Rattle.rule_table.specs.Table.{with_pures, with_pure, with_right, without_pure, without_spatial, rewritten}
use Rattle.rule_table.specs.Table.{rewrite_side, rewrite_atom, named, unnamed, calls, instance_term, right_term}
use Rattle.rule_table.specs.Tests.{same_term, same_spatial, is_universal_pure, is_universal_spatial, follows, is_absurd}
use Rattle.rule_table.specs.Tests.{address_of, ascend_from, has_number}
use Rattle.rule_table.proofs.Commands.{found_is, counted_get}
use Rattle.rule_table.proofs.Fits.{limited_on}
use Rattle.rule_table.proofs.Rewrites.{Each-without}
use Rattle.rule_book.specs.Limits.{IsHeapWithin, IsJudgementWithin, IsCaseWithin, IsDefinitionWithin, IsRuleWithin}
use Rattle.rule_book.specs.Limits.{IsCommandWithin, AreEndsWithin}
use Rattle.rule_book.proofs.Gives.{needs_gives, finds_gives, entails_gives, single_gives, runs_gives}
use Rattle.rule_book.proofs.Heaps.{length-without, IsLow, IsShaped, IsSmall, small, within, within_after, shapes_after}
use Rattle.rule_book.proofs.Heaps.{low_pures_after, low_spatials_after}
use Rattle.rule_book.proofs.Judgements.{heaps_with, first_heap, heaps_map, form_with, form_map, IsNearly, IsReadyHeap}
use Rattle.rule_book.proofs.Judgements.{IsReady, ready, all_ready, limited_nearly}
use Rattle.heap_formula.proofs.AllMembers.{each_imply, each_made, each_append, each_at, each_set, each_chosen}
use Rattle.rule_table.proofs.EmptyPremises.{empty_on}

-- ---- cases

case_shapes : (most : Limits) (ds es : List Definition) → Each (IsDefinitionWithin most ds) es → (q : ℕ)
    → Each (λ (c : SymbolicHeap). Each (IsShaped ds) c.spatial) (cases_of es q)
case_shapes most ds [] e q = tt
case_shapes most ds (d ∷ es) e zero =
    each_imply (IsCaseWithin most ds d.arity) (λ (c : SymbolicHeap). Each (IsShaped ds) c.spatial)
    (λ c w. (small most ds c w.heap).shaped) d.cases e.0.cases
case_shapes most ds (d ∷ es) e (suc q) = case_shapes most ds es e.1 q

-- ---- terms

low_choice : (b : Bool) (t u : Term) → IsLow t → IsLow u → IsLow (cond b t u)
low_choice true t u p q = p
low_choice false t u p q = q

low_replaced : (v : ℕ) (u : Term) → IsLow u → (t : Term) → IsLow t → IsLow (apply_term ((v, u) ∷ []) t)
low_replaced v u p (Univ m) q = low_choice (nat_eq m v) u (Univ m) p q
low_replaced v u p t q = q

low_instance : (v : ℕ) (t : Term) → IsLow t → (u : Term) → IsLow u → IsLow (instance_term v t u)
low_instance v t p (Exist m) q = low_choice (nat_eq m v) t (Exist m) p q
low_instance v t p u q = q

-- ---- pure atoms after a Rewrite

pures_low : (b : Bool) (k v : ℕ) (x : Pure) (u : Term) (xs : List Pure) → IsLow u → InPure IsLow x
    → Each (InPure IsLow) xs → Each (InPure IsLow) (cond b (map (apply_pure ((v, u) ∷ [])) (without k xs))
    (slice_set (map (apply_pure ((v, u) ∷ [])) xs) k x))
pures_low true k v x u xs p q r = low_pures_after (apply_term ((v, u) ∷ [])) (low_replaced v u p) (without k xs)
    (Each-without (InPure IsLow) xs k r)
pures_low false k v x u xs p q r = each_set (InPure IsLow) (map (apply_pure ((v, u) ∷ [])) xs) k x q
    (low_pures_after (apply_term ((v, u) ∷ [])) (low_replaced v u p) xs r)

pures_few : (most : ℕ) (b : Bool) (k v : ℕ) (x : Pure) (u : Term) (xs : List Pure) → length xs ≤ most
    → length (cond b (map (apply_pure ((v, u) ∷ [])) (without k xs))
    (slice_set (map (apply_pure ((v, u) ∷ [])) xs) k x)) ≤ most
pures_few most true k v x u xs h =
    let e = length-map (without k xs) (apply_pure ((v, u) ∷ [])) in
    let l = length-without xs k in omega arith
pures_few most false k v x u xs h =
    let e = length-map xs (apply_pure ((v, u) ∷ [])) in
    let l = length-set (map (apply_pure ((v, u) ∷ [])) xs) k x in omega arith

length-variables_from : (n k : ℕ) → length (variables_from n k) ≡ k
length-variables_from n zero = refl
length-variables_from n (suc k) = let r = length-variables_from (suc n) k in omega arith

module _ (most : Limits) (ds : List Definition) (n : ℕ) where
  abbrev P : Premise → Type 0
  P = IsNearly most ds n

  abbrev H : SymbolicHeap → Type 0
  H = IsHeapWithin most ds

  abbrev Shaped : Spatial → Type 0
  Shaped = IsShaped ds

  bad : (f : RuleFault) → OnPremises P (Err f)
  bad f = tt

  -- ---- the left

  pures_nearly : (j : Judgement) (xs : List Pure) → IsJudgementWithin most ds n j
      → length xs ≤ length (antecedent j).pure → Each (InPure IsLow) xs → P (with_pures j xs)
  pures_nearly j xs h few low =
      let s = small most ds (antecedent j) (first_heap H j h.heaps) in
      let m = s.pures in
      let a = within most ds (record { pure = xs; spatial = (antecedent j).spatial })
      (record { pures = omega arith; spatials = s.spatials; low = (low, s.low.1); shaped = s.shaped }) in (
        heaps_with H j (record { pure = xs; spatial = (antecedent j).spatial }) a h.heaps,
        form_with n j (record { pure = xs; spatial = (antecedent j).spatial }) h.form,
      )

  pures_dropped : (j : Judgement) (k : ℕ) → IsJudgementWithin most ds n j
      → P (with_pures j (without k (antecedent j).pure))
  pures_dropped j k h =
      let s = small most ds (antecedent j) (first_heap H j h.heaps) in
      pures_nearly j (without k (antecedent j).pure) h (length-without (antecedent j).pure k)
      (Each-without (InPure IsLow) (antecedent j).pure k s.low.0)

  pures_ready : (j : Judgement) (xs : List Pure) → IsJudgementWithin most ds n j
      → IsReady most ds n (with_pures j xs)
  pures_ready j xs h = (
    heaps_with (IsReadyHeap most ds n) j (record { pure = xs; spatial = (antecedent j).spatial })
        (ready most ds n (antecedent j) (first_heap H j h.heaps)) (all_ready most ds n (heaps_of j) h.heaps),
    form_with n j (record { pure = xs; spatial = (antecedent j).spatial }) h.form,
  )

  rewritten_nearly : (p : ℕ) (j : Judgement) (k : ℕ) (x : Pure) (v : ℕ) (u : Term) → IsJudgementWithin most ds n j
      → InPure IsLow x → IsLow u → P (rewritten p j k x v u)
  rewritten_nearly p j k x v u h q r =
      let s = small most ds (antecedent j) (first_heap H j h.heaps) in
      let f = apply_term ((v, u) ∷ []) in
      let e = length-map (antecedent j).spatial (apply_spatial ((v, u) ∷ [])) in
      let m = s.spatials in
      let a = within most ds _ (record {
        pures = pures_few most.pure (nat_le p v) k v x u (antecedent j).pure s.pures;
        spatials = omega arith;
        low = (
          pures_low (nat_le p v) k v x u (antecedent j).pure r q s.low.0,
          low_spatials_after f (low_replaced v u r) (antecedent j).spatial s.low.1,
        );
        shaped = shapes_after ds f (antecedent j).spatial s.shaped;
      }) in (
        heaps_with H (apply_judgement ((v, u) ∷ []) j) _ a
            (heaps_map H H ((v, u) ∷ []) j (within_after f (low_replaced v u r) most ds) h.heaps),
        form_with n (apply_judgement ((v, u) ∷ []) j) _ (form_map n ((v, u) ∷ []) j h.form),
      )

  side_nearly : (p : ℕ) (j : Judgement) (k : ℕ) (x : Pure) (t u : Term) → IsJudgementWithin most ds n j → InPure IsLow x
      → IsLow u → OnPremises P (rewrite_side p j k x t u)
  side_nearly p j k x (Univ v) u h q r = (rewritten_nearly p j k x v u h q r, tt)
  side_nearly p j k x t u h q r = tt

  named_nearly : (p : ℕ) (j : Judgement) (k : ℕ) (side : Side) (t u : Term) → IsJudgementWithin most ds n j → IsLow t
      → IsLow u → OnPremises P (rewrite_side p j k (Eq t u) (named side t u) (unnamed side t u))
  named_nearly p j k Left t u h q r = side_nearly p j k (Eq t u) t u h (q, r) r
  named_nearly p j k Right t u h q r = side_nearly p j k (Eq t u) u t h (q, r) q

  test_nearly : (b : Bool) (p : ℕ) (j : Judgement) (k : ℕ) (side : Side) (t u : Term) → IsJudgementWithin most ds n j
      → IsLow t → IsLow u → OnPremises P (cond b (Ok (one (with_pures j (without k (antecedent j).pure))))
      (rewrite_side p j k (Eq t u) (named side t u) (unnamed side t u)))
  test_nearly true p j k side t u h q r = (pures_dropped j k h, tt)
  test_nearly false p j k side t u h q r = named_nearly p j k side t u h q r

  rewrite_nearly : (p : ℕ) (j : Judgement) (k : ℕ) (side : Side) (x : Pure) → IsJudgementWithin most ds n j
      → InPure IsLow x → OnPremises P (rewrite_atom p j k side x)
  rewrite_nearly p j k side (Neq t u) h q = tt
  rewrite_nearly p j k side (Eq t u) h q = test_nearly (same_term t u) p j k side t u h q.0 q.1

  -- ---- Unfold

  unfold_ready : (j : Judgement) (k : ℕ) (ts : List Term) (m : ℕ) (case : SymbolicHeap) → IsJudgementWithin most ds n j
      → Each Shaped case.spatial → IsReady most ds n (unfold_premise j k ts m case)
  unfold_ready j k ts m case h c =
      let s = small most ds (antecedent j) (first_heap H j h.heaps) in
      let a = unfolded (antecedent j) k (case_body ts m case) in
      let shaped = each_append Shaped (without k (antecedent j).spatial) (case_body ts m case).spatial
      (Each-without Shaped (antecedent j).spatial k s.shaped) (shapes_after ds (case_term ts m) case.spatial c) in (
        heaps_with (IsReadyHeap most ds n) j a shaped
            (all_ready most ds n (heaps_of j) h.heaps),
        form_with n j a h.form,
      )

  unfold_nearly : (p : ℕ) (j : Judgement) (k : ℕ) (x : Spatial) → Each (IsDefinitionWithin most ds) ds
      → IsJudgementWithin most ds n j → OnPremises P (calls x
      (λ q ts. limited most (map (unfold_premise j k ts (fresh_number p j)) (cases_of ds q))))
  unfold_nearly p j k (Cell t ts) d h = tt
  unfold_nearly p j k (Pred q ts) d h =
      let m = fresh_number p j in
      limited_nearly most ds n (map (unfold_premise j k ts m) (cases_of ds q))
      (each_made (unfold_premise j k ts m) (λ (c : SymbolicHeap). Each Shaped c.spatial) (IsReady most ds n)
      (λ c. unfold_ready j k ts m c h) (cases_of ds q) (case_shapes most ds ds d q))

  -- ---- Cut

  left_ready : (a f : SymbolicHeap) (p : ℕ → Bool) → H a → H f → IsReady most ds n (cut_left a p f)
  left_ready a f p h g =
      let s = small most ds a h in (
        (each_chosen Shaped a.spatial p s.shaped, (ready most ds n f g, tt)),
        (omega arith, omega arith),
      )

  right_ready : (j : Judgement) (f : SymbolicHeap) (p : ℕ → Bool) (m : ℕ) → IsJudgementWithin most ds n j → H f
      → IsReady most ds n (cut_right j p f m)
  right_ready j f p m h g =
      let s = small most ds (antecedent j) (first_heap H j h.heaps) in
      let body = in_heap (opened_term m) f in
      let shaped = each_append Shaped (chosen (others_of p) (antecedent j).spatial) body.spatial
      (each_chosen Shaped (antecedent j).spatial (others_of p) s.shaped)
      (shapes_after ds (opened_term m) f.spatial (small most ds f g).shaped) in (
        heaps_with (IsReadyHeap most ds n) j _ shaped
            (all_ready most ds n (heaps_of j) h.heaps),
        form_with n j _ h.form,
      )

  -- ---- the right

  right_nearly : (a b : SymbolicHeap) → H a → H b → P (with_right a (b ∷ []))
  right_nearly a b h g = ((h, (g, tt)), (omega arith, omega arith))

  pure_dropped : (k : ℕ) (a : SymbolicHeap) → H a → H (without_pure k a)
  pure_dropped k a h =
      let s = small most ds a h in
      let l = length-without a.pure k in
      let m = s.pures in
      within most ds (without_pure k a) (record {
        pures = omega arith;
        spatials = s.spatials;
        low = (Each-without (InPure IsLow) a.pure k s.low.0, s.low.1);
        shaped = s.shaped;
      })

  spatial_dropped : (k : ℕ) (a : SymbolicHeap) → H a → H (without_spatial k a)
  spatial_dropped k a h =
      let s = small most ds a h in
      let l = length-without a.spatial k in
      let m = s.spatials in
      within most ds (without_spatial k a) (record {
        pures = s.pures;
        spatials = omega arith;
        low = (s.low.0, Each-without (InSpatial IsLow) a.spatial k s.low.1);
        shaped = Each-without Shaped a.spatial k s.shaped;
      })

  unfolded_ready : (a b : SymbolicHeap) (k : ℕ) (f : Term → Term) (case : SymbolicHeap) → H a → H b
      → Each Shaped case.spatial → IsReady most ds n (with_right a (unfolded b k (in_heap f case) ∷ []))
  unfolded_ready a b k f case h g c =
      let s = small most ds b g in
      let shaped = each_append Shaped (without k b.spatial) (in_heap f case).spatial
      (Each-without Shaped b.spatial k s.shaped) (shapes_after ds f case.spatial c) in
      ((ready most ds n a h, (shaped, tt)), (omega arith, omega arith))

  unfold_right_nearly : (a b : SymbolicHeap) (k c : ℕ) (x : Spatial) → Each (IsDefinitionWithin most ds) ds → H a → H b
      → OnPremises P (calls x (λ q ts. finds (slice_get (cases_of ds q) c) NoSuchCase
      (λ case. limited most (one (with_right a (unfolded b k (in_heap (right_term ts (heap_exists b)) case) ∷ []))))))
  unfold_right_nearly a b k c (Cell t ts) d h g = tt
  unfold_right_nearly a b k c (Pred q ts) d h g =
      finds_gives (OnPremises P) bad (slice_get (cases_of ds q) c) NoSuchCase _ (λ case at.
      let shaped = each_at (λ (c : SymbolicHeap). Each Shaped c.spatial) (cases_of ds q) c case at
      (case_shapes most ds ds d q) in
      limited_nearly most ds n (one (with_right a (unfolded b k (in_heap (right_term ts (heap_exists b)) case)
      ∷ []))) (unfolded_ready a b k (right_term ts (heap_exists b)) case h g shaped, tt))

  -- ---- Exec

  module _ (i : ℕ) (a : SymbolicHeap) (m : ℕ) (h : H a) where
    state_ready : (k : ℕ) (b : SymbolicHeap) → IsLineOf n k → Each Shaped b.spatial
        → IsReady most ds n (at_line k a b)
    state_ready k b l s = ((s, tt), l)

    shaped : Each Shaped a.spatial
    shaped = (small most ds a h).shaped

    renamed_shaped : (x : ℕ) → Each Shaped (renamed x m a).spatial
    renamed_shaped x = shapes_after ds (apply_term ((x, Univ m) ∷ [])) a.spatial shaped

    next : i < n → IsLineOf n (i + 1)
    next l = (omega arith, omega arith)

    cell_shaped : (t : Term) (c : Found) → cell_of a.pure t a.spatial ≡ Some c → Shaped (Cell c.address c.fields)
    cell_shaped t c found = each_at Shaped a.spatial c.place (Cell c.address c.fields)
        (found_is a.pure t a.spatial c found).at shaped

    field_shaped : (c : Found) (k : ℕ) (u : Term) → Shaped (Cell c.address c.fields)
        → Shaped (Cell c.address (slice_set c.fields k u))
    field_shaped c k u s =
        let e = length-set c.fields k u in
        let some = s.1.0 in
        let few = s.1.1 in (refl, (omega arith, omega arith))

    new_shaped : (x k : ℕ) → 0 < k → k ≤ 8 → Shaped (Cell (Univ x) (variables_from (m + 1) k))
    new_shaped x k some few =
        let e = length-variables_from (m + 1) k in (refl, (omega arith, omega arith))

    command_nearly : (c : Command) → MayStandAt n i c → IsCommandWithin most ds c → OnPremises P (command_answer most i a m c)
    command_nearly Stop l w = tt
    command_nearly (Ends bs) l w = limited_on P most (one (with_right a bs)) (((h, w.0), (w.1, w.2)), tt)
    command_nearly (Goto j) l w = limited_nearly most ds n (one (at_line j a a)) (state_ready j a l shaped, tt)
    command_nearly (IfEq t u j) l w =
        limited_nearly most ds n (two (at_line j a (with_atom a (Eq t u)))
        (at_line (i + 1) a (with_atom a (Neq t u)))) (
          state_ready j (with_atom a (Eq t u)) l.1 shaped,
          (state_ready (i + 1) (with_atom a (Neq t u)) (next l.0) shaped, tt),
        )
    command_nearly (IfNeq t u j) l w =
        limited_nearly most ds n (two (at_line j a (with_atom a (Neq t u)))
        (at_line (i + 1) a (with_atom a (Eq t u)))) (
          state_ready j (with_atom a (Neq t u)) l.1 shaped,
          (state_ready (i + 1) (with_atom a (Eq t u)) (next l.0) shaped, tt),
        )
    command_nearly (IfAny j) l w =
        limited_nearly most ds n (two (at_line j a a) (at_line (i + 1) a a))
        (state_ready j a l.1 shaped, (state_ready (i + 1) a (next l.0) shaped, tt))
    command_nearly (Assign x t) l w =
        limited_nearly most ds n (one (at_line (i + 1) a
        (with_atom (renamed x m a) (Eq (Univ x) (renamed_term x m t))))) (
          state_ready (i + 1) (with_atom (renamed x m a) (Eq (Univ x) (renamed_term x m t))) (next l)
              (renamed_shaped x),
          tt,
        )
    command_nearly (Load x t k) l w =
        finds_gives (OnPremises P) bad (cell_of a.pure t a.spatial) NoCell _ (λ c found.
        finds_gives (OnPremises P) bad (counted_from_one c.fields k) NoCell _ (λ f field.
        limited_nearly most ds n (one (at_line (i + 1) a
        (with_atom (renamed x m a) (Eq (Univ x) (renamed_term x m f))))) (
          state_ready (i + 1) (with_atom (renamed x m a) (Eq (Univ x) (renamed_term x m f))) (next l.0)
              (renamed_shaped x),
          tt,
        )))
    command_nearly (Store t k u) l w =
        finds_gives (OnPremises P) bad (cell_of a.pure t a.spatial) NoCell _ (λ c found.
        finds_gives (OnPremises P) bad (counted_from_one c.fields k) NoCell _ (λ f field.
        limited_nearly most ds n (one (at_line (i + 1) a (with_field a c k u))) (
          state_ready (i + 1) (with_field a c k u) (next l.0)
              (each_set Shaped a.spatial c.place (Cell c.address (slice_set c.fields (k - 1) u))
              (field_shaped c (k - 1) u (cell_shaped t c found)) shaped),
          tt,
        )))
    command_nearly (New x k) l w =
        limited_nearly most ds n (one (at_line (i + 1) a (with_cell (renamed x m a) x (variables_from (m + 1) k)))) (
          state_ready (i + 1) (with_cell (renamed x m a) x (variables_from (m + 1) k)) (next l.0)
              (each_append Shaped (renamed x m a).spatial (Cell (Univ x) (variables_from (m + 1) k) ∷ [])
              (renamed_shaped x) (new_shaped x k l.1.0 l.1.1, tt)),
          tt,
        )
    command_nearly (Free t) l w =
        finds_gives (OnPremises P) bad (cell_of a.pure t a.spatial) NoCell _ (λ c found.
        limited_nearly most ds n (one (record {
          judgement = Runs (i + 1) (without_spatial c.place a);
          pairs = kept_pairs c.place a.spatial;
        })) (
          (
            (
              Each-without Shaped a.spatial c.place shaped,
              tt,
            ),
            next l,
          ),
          tt,
        ))

pub rule_nearly : (most : Limits) (ds : List Definition) (lines : List Command) (j : Judgement) (rule : Rule)
    → Each (IsDefinitionWithin most ds) ds → IsProgram lines → AreEndsWithin most ds lines
    → IsJudgementWithin most ds (length lines) j
    → IsRuleWithin most ds rule → OnPremises (IsNearly most ds (length lines)) (rule_answer most ds lines j rule)
rule_nearly most ds lines j rule d g ends h = by rule
  where
    n : ℕ
    n = length lines

    S : Answer → Type 0
    S = OnPremises (IsNearly most ds n)

    faulty : (f : RuleFault) → S (Err f)
    faulty f = tt

    s : IsSmall most ds (antecedent j)
    s = small most ds (antecedent j) (first_heap (IsHeapWithin most ds) j h.heaps)

    same : (i : Judgement) → j ≡ i → IsJudgementWithin most ds n i
    same i e = subst (λ i. IsJudgementWithin most ds n i) e h

    by : (rule : Rule) → IsRuleWithin most ds rule → S (rule_answer most ds lines j rule)
    by Absurd r = needs_gives S faulty (is_absurd (antecedent j)) NotAbsurd (Ok []) (λ _. tt)
    by (Rewrite k side) r =
        finds_gives S faulty (slice_get (antecedent j).pure k) NoSuchAtom _
        (λ x at. rewrite_nearly most ds n (variables_of lines j) j k side x h
        (each_at (InPure IsLow) (antecedent j).pure k x at s.low.0))
    by (Split t u) r =
        limited_nearly most ds n (two (with_pure j (Eq t u)) (with_pure j (Neq t u)))
        (pures_ready most ds n j _ h, (pures_ready most ds n j _ h, tt))
    by (Distinct i k) r =
        finds_gives S faulty (slice_get (antecedent j).spatial i) NoSuchAtom _ (λ x at_i.
        finds_gives S faulty (slice_get (antecedent j).spatial k) NoSuchAtom _ (λ y at_k.
        finds_gives S faulty (address_of x) NoCell _ (λ t is_t.
        finds_gives S faulty (address_of y) NoCell _ (λ u is_u.
        limited_nearly most ds n (one (with_pure j (Neq t (if nat_eq i k then Nil else u))))
        (pures_ready most ds n j _ h, tt)))))
    by (Weaken k) r = finds_gives S faulty (slice_get (antecedent j).pure k) NoSuchAtom _
        (λ x at. (pures_dropped most ds n j k h, tt))
    by (Unfold k) r = finds_gives S faulty (slice_get (antecedent j).spatial k) NoSuchAtom _
        (λ x at. unfold_nearly most ds n (variables_of lines j) j k x d h)
    by (Cut places f) r =
        needs_gives S faulty (ascend_from 0 (length (antecedent j).spatial) places) NoSuchAtom _ (λ _.
        limited_nearly most ds n (two (cut_left (antecedent j) (has_number places) f)
        (cut_right j (has_number places) f (max (fresh_number (variables_of lines j) j) (heap_bound f)))) (
          left_ready most ds n (antecedent j) f (has_number places) (first_heap (IsHeapWithin most ds) j h.heaps) r,
          (
            right_ready most ds n j f (has_number places) (max (fresh_number (variables_of lines j) j) (heap_bound f))
                h r,
            tt,
          ),
        ))
    by Done r = single_gives S faulty j _ (λ a b e. empty_on (IsNearly most ds n) a.spatial b.pure b.spatial)
    by (Choose k) r =
        entails_gives S faulty j _ (λ a bs e.
        finds_gives S faulty (slice_get bs k) NoSuchAtom _ (λ b at.
        let w = same (Entail a bs) e in (
          right_nearly most ds n a b w.heaps.0
              (each_at (IsHeapWithin most ds) bs k b at w.heaps.1),
          tt,
        )))
    by (PureRight k) r =
        single_gives S faulty j _ (λ a b e.
        finds_gives S faulty (slice_get b.pure k) NoSuchAtom _ (λ x at.
        needs_gives S faulty (is_universal_pure x) HasExistential _ (λ _.
        needs_gives S faulty (follows a.pure x) NotFollowing _ (λ _.
        let w = same (Entail a (b ∷ [])) e in (
          right_nearly most ds n a (without_pure k b) w.heaps.0
              (pure_dropped most ds n k b w.heaps.1.0),
          tt,
        )))))
    by (Instantiate v t) r =
        single_gives S faulty j _ (λ a b e.
        let w = same (Entail a (b ∷ [])) e in (
          right_nearly most ds n a (in_heap (instance_term v t) b) w.heaps.0
              (within_after (instance_term v t) (low_instance v t r.1.1) most ds b w.heaps.1.0),
          tt,
        ))
    by (Frame i k) r =
        single_gives S faulty j _ (λ a b e.
        finds_gives S faulty (slice_get a.spatial i) NoSuchAtom _ (λ x at_i.
        finds_gives S faulty (slice_get b.spatial k) NoSuchAtom _ (λ y at_k.
        needs_gives S faulty (is_universal_spatial y) HasExistential _ (λ _.
        needs_gives S faulty (same_spatial x y) AtomsDiffer _ (λ _.
        let w = same (Entail a (b ∷ [])) e in (
          (
            (
              spatial_dropped most ds n i a w.heaps.0,
              (spatial_dropped most ds n k b w.heaps.1.0, tt),
            ),
            (omega arith, omega arith),
          ),
          tt,
        ))))))
    by (UnfoldRight k c) r =
        single_gives S faulty j _ (λ a b e.
        finds_gives S faulty (slice_get b.spatial k) NoSuchAtom _ (λ x at.
        let w = same (Entail a (b ∷ [])) e in unfold_right_nearly most ds n a b k c x d w.heaps.0 w.heaps.1.0))
    by Exec r =
        runs_gives S faulty j _ (λ i a e.
        finds_gives S faulty (counted_from_one lines i) WrongJudgement _ (λ c at.
        let w = same (Runs i a) e in command_nearly most ds n i a (fresh_number (program_variables lines) j) w.heaps.0 c
        (g.commands i c at) (counted_get (IsCommandWithin most ds) lines i c at ends)))
    by (Drop k) r =
        needs_gives S faulty (not (has_ends lines)) WrongJudgement _ (λ none.
        runs_gives S faulty j _ (λ i a e.
        finds_gives S faulty (slice_get a.spatial k) NoSuchAtom _ (λ x at.
        let w = same (Runs i a) e in (((spatial_dropped most ds n k a w.heaps.0, tt), w.form), tt))))
