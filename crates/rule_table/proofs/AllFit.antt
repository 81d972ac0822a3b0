-- Rule by rule: the trace pairs join predicate atoms.
use Rattle.std.proofs.Common.{◌≡◌, ℕ, zero, suc, ◌+◌, ◌-◌, max, Bool, true, false, cond, List, [], ◌∷◌, ◌++◌, map}
use Rattle.std.proofs.Common.{length, not, Some, None, refl, ap, ◌∙◌}
use Rattle.std.specs.Prelude.{Ok, slice_get, slice_set, slice_index, nat_eq, nat_le, if◌then◌else◌}
use Rattle.cyc_basics.specs.declared.limits.Limits.{Limits}
use Rattle.heap_formula.specs.declared.terms.Term.{Term}
use Rattle.heap_formula.specs.declared.terms.Term.TheVariants.{Nil, Univ, Exist}
use Rattle.heap_formula.specs.declared.atoms.Pure.{Pure}
use Rattle.heap_formula.specs.declared.atoms.Pure.TheVariants.{Eq, Neq}
use Rattle.heap_formula.specs.declared.atoms.Spatial.{Spatial}
use Rattle.heap_formula.specs.declared.atoms.Spatial.TheVariants.{Cell, Pred}
use Rattle.heap_formula.specs.declared.commands.Command.{Command}
use Rattle.heap_formula.specs.declared.commands.Command.TheVariants.{Assign, Load, Store, New, Free, IfEq, IfNeq, IfAny}
use Rattle.heap_formula.specs.declared.commands.Command.TheVariants.{Goto, Stop, Ends}
use Rattle.heap_formula.specs.declared.judgements.Judgement.{Judgement}
use Rattle.heap_formula.specs.declared.judgements.Judgement.TheVariants.{Entail, Term as Runs}
use Rattle.heap_formula.specs.declared.judgements.Pair.{Pair}
use Rattle.heap_formula.specs.declared.proof_rules.Link.{Link}
use Rattle.heap_formula.specs.declared.proof_rules.Side.{Side}
use Rattle.heap_formula.specs.declared.proof_rules.Rule.{Rule}
use Rattle.heap_formula.specs.declared.proof_rules.Rule.TheVariants.{Absurd, Rewrite, Split, Distinct, Weaken, Unfold}
use Rattle.heap_formula.specs.declared.proof_rules.Rule.TheVariants.{Cut, Done, Choose, PureRight, Instantiate, Frame}
use Rattle.heap_formula.specs.declared.proof_rules.Rule.TheVariants.{UnfoldRight, Exec, Drop}
use Rattle.heap_formula.specs.declared.proof_rules.RuleFault.TheVariants.{NoSuchAtom, AtomsDiffer, HasExistential}
use Rattle.heap_formula.specs.declared.proof_rules.RuleFault.TheVariants.{NotFollowing, NotAbsurd, NoSuchCase, NoCell}
use Rattle.heap_formula.specs.declared.proof_rules.RuleFault.TheVariants.{WrongJudgement}
use Rattle.heap_formula.specs.Symbolic.{SymbolicHeap}
use Rattle.heap_formula.specs.Definitions.{Definition}
use Rattle.heap_formula.specs.Words.{Each}
use Rattle.heap_formula.specs.Meaning.{cases_of}
use Rattle.heap_formula.specs.Fresh.{heap_bound, fresh_number, variables_from}
use Rattle.heap_formula.specs.Programs.{counted_from_one, program_variables, has_ends}
use Rattle.heap_formula.specs.Judgements.{antecedent, with_antecedent}
use Rattle.heap_formula.specs.Positions.{without, same_pairs, kept_pairs, child_pairs, chosen, others_of}
use Rattle.heap_formula.specs.Substitution.{in_heap, apply_term, apply_spatial, case_body}
use Rattle.rule_table.specs.RuleUnfold.{unfold_premise, unfolded}
use Rattle.rule_table.specs.RuleCut.{cut_left, cut_right}
use Rattle.rule_table.specs.RuleLink.{MapsInto, IsMatch}
use Rattle.rule_table.specs.Answer.{finds, limited, one, two}
use Rattle.rule_table.specs.Tests.{same_term, same_spatial, is_universal_pure, is_universal_spatial, follows, is_absurd}
use Rattle.rule_table.specs.Tests.{address_of, has_number, ascend_from}
use Rattle.heap_formula.specs.Fresh.{heap_exists}
use Rattle.rule_table.specs.Table.{with_pures, with_pure, with_right, without_pure, without_spatial, rewritten}
use Rattle.rule_table.specs.Table.{rewrite_side, rewrite_atom, named, unnamed, calls, right_term, instance_term}
use Rattle.rule_table.specs.ExecTable.{cell_of, renamed, renamed_term, with_atom, with_cell, with_field, at_line}
use Rattle.rule_table.specs.ExecTable.{command_answer}
use Rattle.rule_table.specs.LinkTable.{link_fault, link_premise}
use Rattle.rule_table.specs.RuleBook.{variables_of, rule_answer}
use Rattle.rule_table.specs.Fits.{IsPredAt, PairsFit, PremiseFits, OnPremises}
use Rattle.rule_table.proofs.Fits.{needs_on, finds_on, limited_on, entails_on, single_on, runs_on, get_back, get_mapped}
use Rattle.rule_table.proofs.Fits.{get_written, pairs_fit_0, same_fit, kept_fit, chosen_fit, children_fit}
use Rattle.rule_table.proofs.Commands.{found_is}
use Rattle.rule_table.proofs.LinkRule.{parts_are, none_of_two}
use Rattle.heap_formula.proofs.AllMembers.{each_append}
use Rattle.cyc_basics.proofs.Places.{get_append_left}
use Rattle.rule_table.proofs.EmptyPremises.{empty_on}

pred_front : (xs ys : List Spatial) (i : ℕ) → IsPredAt xs i → IsPredAt (xs ++ ys) i
pred_front xs ys i p = (p.0, p.1, get_append_left xs ys i (Pred p.0 p.1) p.2)

pred_back : (xs ys : List Spatial) (i : ℕ) → IsPredAt ys i → IsPredAt (xs ++ ys) (length xs + i)
pred_back xs ys i p = (p.0, p.1, get_back xs ys i (Pred p.0 p.1) p.2)

-- a premise that is the judgement with another antecedent
fits_with : (j : Judgement) (a : SymbolicHeap) (pairs : List Pair) → PairsFit (antecedent j).spatial a.spatial pairs
    → PremiseFits j (record { judgement = with_antecedent j a; pairs = pairs })
fits_with (Entail b bs) a pairs f = f
fits_with (Runs i b) a pairs f = f

pures_fit : (j : Judgement) (xs : List Pure) → PremiseFits j (with_pures j xs)
pures_fit j xs =
    fits_with j (record { pure = xs; spatial = (antecedent j).spatial }) (same_pairs (antecedent j).spatial)
    (same_fit (antecedent j).spatial (antecedent j).spatial (λ i p. p))

right_fits : (a : SymbolicHeap) (bs cs : List SymbolicHeap) → PremiseFits (Entail a bs) (with_right a cs)
right_fits a bs cs = same_fit a.spatial a.spatial (λ i p. p)

rewritten_fits : (p : ℕ) (j : Judgement) (k : ℕ) (x : Pure) (v : ℕ) (u : Term) → PremiseFits j (rewritten p j k x v u)
rewritten_fits p (Entail a bs) k x v u =
    same_fit a.spatial (map (apply_spatial ((v, u) ∷ [])) a.spatial)
    (λ i q. get_mapped (apply_term ((v, u) ∷ [])) a.spatial i q)
rewritten_fits p (Runs n a) k x v u =
    same_fit a.spatial (map (apply_spatial ((v, u) ∷ [])) a.spatial)
    (λ i q. get_mapped (apply_term ((v, u) ∷ [])) a.spatial i q)

side_fits : (p : ℕ) (j : Judgement) (k : ℕ) (x : Pure) (t u : Term)
    → OnPremises (PremiseFits j) (rewrite_side p j k x t u)
side_fits p j k x Nil u = tt
side_fits p j k x (Exist n) u = tt
side_fits p j k x (Univ v) u = (rewritten_fits p j k x v u, tt)

test_fits : (b : Bool) (p : ℕ) (j : Judgement) (k : ℕ) (x : Pure) (t u : Term)
    → OnPremises (PremiseFits j) (cond b (Ok (one (with_pures j (without k (antecedent j).pure))))
    (rewrite_side p j k x t u))
test_fits true p j k x t u = (pures_fit j (without k (antecedent j).pure), tt)
test_fits false p j k x t u = side_fits p j k x t u

rewrite_fits : (p : ℕ) (j : Judgement) (k : ℕ) (side : Side) (x : Pure)
    → OnPremises (PremiseFits j) (rewrite_atom p j k side x)
rewrite_fits p j k side (Neq t u) = tt
rewrite_fits p j k side (Eq t u) = test_fits (same_term t u) p j k (Eq t u) (named side t u) (unnamed side t u)

unfold_one_fits : (j : Judgement) (k q : ℕ) (ts : List Term) (n : ℕ) (case : SymbolicHeap)
    → slice_get (antecedent j).spatial k ≡ Some (Pred q ts) → PremiseFits j (unfold_premise j k ts n case)
unfold_one_fits j k q ts n case at =
    let a = antecedent j in
    let kept = without k a.spatial in
    let body = (case_body ts n case).spatial in
    fits_with j (unfolded a k (case_body ts n case)) (kept_pairs k a.spatial ++ child_pairs k (length kept) body)
    (each_append _ (kept_pairs k a.spatial) (child_pairs k (length kept) body)
    (kept_fit k a.spatial (kept ++ body) (λ i p. pred_front kept body i p))
    (children_fit k (length kept) body a.spatial (kept ++ body) (q, ts, at) (λ i p. pred_back kept body i p)))

unfold_cases_fit : (j : Judgement) (k q : ℕ) (ts : List Term) (n : ℕ) (cases : List SymbolicHeap)
    → slice_get (antecedent j).spatial k ≡ Some (Pred q ts) → Each (PremiseFits j) (map (unfold_premise j k ts n) cases)
unfold_cases_fit j k q ts n [] at = tt
unfold_cases_fit j k q ts n (c ∷ cs) at = (unfold_one_fits j k q ts n c at, unfold_cases_fit j k q ts n cs at)

unfold_fits : (most : Limits) (ds : List Definition) (p : ℕ) (j : Judgement) (k : ℕ) (x : Spatial)
    → slice_get (antecedent j).spatial k ≡ Some x → OnPremises (PremiseFits j)
    (calls x (λ q ts. limited most (map (unfold_premise j k ts (fresh_number p j)) (cases_of ds q))))
unfold_fits most ds p j k (Cell t ts) at = tt
unfold_fits most ds p j k (Pred q ts) at =
    limited_on (PremiseFits j) most (map (unfold_premise j k ts (fresh_number p j)) (cases_of ds q))
    (unfold_cases_fit j k q ts (fresh_number p j) (cases_of ds q) at)

cut_right_fits : (j : Judgement) (p : ℕ → Bool) (f : SymbolicHeap) (n : ℕ) → PremiseFits j (cut_right j p f n)
cut_right_fits (Entail a bs) p f n = chosen_fit (others_of p) a.spatial _
    (λ i q. pred_front (chosen (others_of p) a.spatial) _ i q)
cut_right_fits (Runs m a) p f n = chosen_fit (others_of p) a.spatial _
    (λ i q. pred_front (chosen (others_of p) a.spatial) _ i q)

unfold_right_fits : (most : Limits) (ds : List Definition) (a b : SymbolicHeap) (k c : ℕ) (x : Spatial)
    → OnPremises (PremiseFits (Entail a (b ∷ []))) (calls x (λ q ts.
    finds (slice_get (cases_of ds q) c) NoSuchCase (λ case. limited most
    (one (with_right a (unfolded b k (in_heap (right_term ts (heap_exists b)) case) ∷ []))))))
unfold_right_fits most ds a b k c (Cell t ts) = tt
unfold_right_fits most ds a b k c (Pred q ts) =
    finds_on (PremiseFits (Entail a (b ∷ []))) (slice_get (cases_of ds q) c) NoSuchCase _ (λ case at.
    limited_on (PremiseFits (Entail a (b ∷ []))) most
    (one (with_right a (unfolded b k (in_heap (right_term ts (heap_exists b)) case) ∷ [])))
    (right_fits a (b ∷ []) (unfolded b k (in_heap (right_term ts (heap_exists b)) case) ∷ []), tt))

renamed_pred : (x n : ℕ) (a : SymbolicHeap) (i : ℕ) → IsPredAt a.spatial i → IsPredAt (renamed x n a).spatial i
renamed_pred x n a i p = get_mapped (apply_term ((x, Univ n) ∷ [])) a.spatial i p

command_fits : (most : Limits) (i : ℕ) (a : SymbolicHeap) (n : ℕ) (c : Command)
    → OnPremises (PremiseFits (Runs i a)) (command_answer most i a n c)
command_fits most i a n Stop = tt
command_fits most i a n (Ends bs) = limited_on (PremiseFits (Runs i a)) most (one (with_right a bs))
    (same_fit a.spatial a.spatial (λ k p. p), tt)
command_fits most i a n (Goto j) = limited_on (PremiseFits (Runs i a)) most (one (at_line j a a))
    (same_fit a.spatial a.spatial (λ k p. p), tt)
command_fits most i a n (IfEq t u j) =
    limited_on (PremiseFits (Runs i a)) most (two (at_line j a (with_atom a (Eq t u)))
    (at_line (i + 1) a (with_atom a (Neq t u)))) (
      same_fit a.spatial a.spatial (λ k p. p),
      (same_fit a.spatial a.spatial (λ k p. p), tt),
    )
command_fits most i a n (IfNeq t u j) =
    limited_on (PremiseFits (Runs i a)) most (two (at_line j a (with_atom a (Neq t u)))
    (at_line (i + 1) a (with_atom a (Eq t u)))) (
      same_fit a.spatial a.spatial (λ k p. p),
      (same_fit a.spatial a.spatial (λ k p. p), tt),
    )
command_fits most i a n (IfAny j) =
    limited_on (PremiseFits (Runs i a)) most (two (at_line j a a) (at_line (i + 1) a a))
    (same_fit a.spatial a.spatial (λ k p. p), (same_fit a.spatial a.spatial (λ k p. p), tt))
command_fits most i a n (Assign x t) =
    limited_on (PremiseFits (Runs i a)) most (one (at_line (i + 1) a
    (with_atom (renamed x n a) (Eq (Univ x) (renamed_term x n t)))))
    (same_fit a.spatial (renamed x n a).spatial (λ k p. renamed_pred x n a k p), tt)
command_fits most i a n (Load x t k) =
    finds_on (PremiseFits (Runs i a)) (cell_of a.pure t a.spatial) NoCell _ (λ c found.
    finds_on (PremiseFits (Runs i a)) (counted_from_one c.fields k) NoCell _ (λ f field.
    limited_on (PremiseFits (Runs i a)) most (one (at_line (i + 1) a
    (with_atom (renamed x n a) (Eq (Univ x) (renamed_term x n f)))))
    (same_fit a.spatial (renamed x n a).spatial (λ m p. renamed_pred x n a m p), tt)))
command_fits most i a n (Store t k u) =
    finds_on (PremiseFits (Runs i a)) (cell_of a.pure t a.spatial) NoCell _ (λ c found.
    finds_on (PremiseFits (Runs i a)) (counted_from_one c.fields k) NoCell _ (λ f field.
    limited_on (PremiseFits (Runs i a)) most (one (at_line (i + 1) a (with_field a c k u))) (
      same_fit a.spatial (with_field a c k u).spatial (λ m p.
          get_written a.spatial c.place m c.address c.address c.fields (slice_set c.fields (k - 1) u)
          (found_is a.pure t a.spatial c found).at p),
      tt,
    )))
command_fits most i a n (New x k) =
    limited_on (PremiseFits (Runs i a)) most (one (at_line (i + 1) a
    (with_cell (renamed x n a) x (variables_from (n + 1) k)))) (
      same_fit a.spatial (with_cell (renamed x n a) x (variables_from (n + 1) k)).spatial
          (λ m p. pred_front (renamed x n a).spatial (Cell (Univ x) (variables_from (n + 1) k) ∷ []) m
          (renamed_pred x n a m p)),
      tt,
    )
command_fits most i a n (Free t) =
    finds_on (PremiseFits (Runs i a)) (cell_of a.pure t a.spatial) NoCell _ (λ c found.
    limited_on (PremiseFits (Runs i a)) most (one (record {
      judgement = Runs (i + 1) (without_spatial c.place a);
      pairs = kept_pairs c.place a.spatial;
    })) (
      kept_fit c.place a.spatial (without c.place a.spatial) (λ m p. p),
      tt,
    ))

pub rule_fits : (most : Limits) (ds : List Definition) (lines : List Command) (j : Judgement) (rule : Rule)
    → OnPremises (PremiseFits j) (rule_answer most ds lines j rule)
rule_fits most ds lines j Absurd = needs_on (PremiseFits j) (is_absurd (antecedent j)) NotAbsurd (Ok []) (λ _. tt)
rule_fits most ds lines j (Rewrite k side) =
    finds_on (PremiseFits j) (slice_get (antecedent j).pure k) NoSuchAtom _
    (λ x at. rewrite_fits (variables_of lines j) j k side x)
rule_fits most ds lines j (Split t u) =
    limited_on (PremiseFits j) most (two (with_pure j (Eq t u)) (with_pure j (Neq t u)))
    (pures_fit j ((antecedent j).pure ++ Eq t u ∷ []), (pures_fit j ((antecedent j).pure ++ Neq t u ∷ []), tt))
rule_fits most ds lines j (Distinct i k) =
    finds_on (PremiseFits j) (slice_get (antecedent j).spatial i) NoSuchAtom _ (λ x at_i.
    finds_on (PremiseFits j) (slice_get (antecedent j).spatial k) NoSuchAtom _ (λ y at_k.
    finds_on (PremiseFits j) (address_of x) NoCell _ (λ t is_t.
    finds_on (PremiseFits j) (address_of y) NoCell _ (λ u is_u.
    limited_on (PremiseFits j) most (one (with_pure j (Neq t (if nat_eq i k then Nil else u))))
    (pures_fit j ((antecedent j).pure ++ Neq t (if nat_eq i k then Nil else u) ∷ []), tt)))))
rule_fits most ds lines j (Weaken k) =
    finds_on (PremiseFits j) (slice_get (antecedent j).pure k) NoSuchAtom _
    (λ x at. (pures_fit j (without k (antecedent j).pure), tt))
rule_fits most ds lines j (Unfold k) =
    finds_on (PremiseFits j) (slice_get (antecedent j).spatial k) NoSuchAtom _
    (λ x at. unfold_fits most ds (variables_of lines j) j k x at)
rule_fits most ds lines j (Cut places f) =
    needs_on (PremiseFits j) (ascend_from 0 (length (antecedent j).spatial) places) NoSuchAtom _ (λ _.
    limited_on (PremiseFits j) most (two (cut_left (antecedent j) (has_number places) f)
    (cut_right j (has_number places) f (max (fresh_number (variables_of lines j) j) (heap_bound f)))) (
      chosen_fit (has_number places) (antecedent j).spatial (chosen (has_number places) (antecedent j).spatial)
          (λ i q. q),
      (
        cut_right_fits j (has_number places) f (max (fresh_number (variables_of lines j) j)
            (heap_bound f)),
        tt,
      ),
    ))
rule_fits most ds lines j Done = single_on PremiseFits j _
    (λ a b. empty_on (PremiseFits (Entail a (b ∷ []))) a.spatial b.pure b.spatial)
rule_fits most ds lines j (Choose k) =
    entails_on PremiseFits j _ (λ a bs. finds_on (PremiseFits (Entail a bs)) (slice_get bs k) NoSuchAtom _
    (λ b at. (right_fits a bs (b ∷ []), tt)))
rule_fits most ds lines j (PureRight k) =
    single_on PremiseFits j _ (λ a b.
    finds_on (PremiseFits (Entail a (b ∷ []))) (slice_get b.pure k) NoSuchAtom _ (λ x at.
    needs_on (PremiseFits (Entail a (b ∷ []))) (is_universal_pure x) HasExistential _ (λ _.
    needs_on (PremiseFits (Entail a (b ∷ []))) (follows a.pure x) NotFollowing _
    (λ _. (right_fits a (b ∷ []) (without_pure k b ∷ []), tt)))))
rule_fits most ds lines j (Instantiate v t) =
    single_on PremiseFits j _ (λ a b. (right_fits a (b ∷ []) (in_heap (instance_term v t) b ∷ []), tt))
rule_fits most ds lines j (Frame i k) =
    single_on PremiseFits j _ (λ a b.
    finds_on (PremiseFits (Entail a (b ∷ []))) (slice_get a.spatial i) NoSuchAtom _ (λ x at_i.
    finds_on (PremiseFits (Entail a (b ∷ []))) (slice_get b.spatial k) NoSuchAtom _ (λ y at_k.
    needs_on (PremiseFits (Entail a (b ∷ []))) (is_universal_spatial y) HasExistential _ (λ _.
    needs_on (PremiseFits (Entail a (b ∷ []))) (same_spatial x y) AtomsDiffer _
    (λ _. (kept_fit i a.spatial (without i a.spatial) (λ m p. p), tt))))))
rule_fits most ds lines j (UnfoldRight k c) =
    single_on PremiseFits j _ (λ a b. finds_on (PremiseFits (Entail a (b ∷ []))) (slice_get b.spatial k) NoSuchAtom _
    (λ x at. unfold_right_fits most ds a b k c x))
rule_fits most ds lines j Exec =
    runs_on PremiseFits j _ (λ i a. finds_on (PremiseFits (Runs i a)) (counted_from_one lines i) WrongJudgement _
    (λ c at. command_fits most i a (fresh_number (program_variables lines) j) c))
rule_fits most ds lines j (Drop k) =
    needs_on (PremiseFits j) (not (has_ends lines)) WrongJudgement _ (λ none.
    runs_on PremiseFits j _ (λ i a. finds_on (PremiseFits (Runs i a)) (slice_get a.spatial k) NoSuchAtom _
    (λ x at. (kept_fit k a.spatial (without k a.spatial) (λ m p. p), tt))))

-- ---- Link

matched_pred : (pures : List Pure) (x y : Spatial) (q : ℕ) (ts : List Term) → x ≡ Pred q ts → IsMatch pures x y
    → (r : ℕ) × (us : List Term) × (y ≡ Pred r us)
matched_pred pures (Cell t us) y q ts e m = cc
matched_pred pures (Pred p us) (Cell v ws) q ts e m = absurd m
matched_pred pures (Pred p us) (Pred r ws) q ts e m = (r, ws, refl)

mapped_pred : (pures : List Pure) (atoms : List Spatial) (free : ℕ → Bool) (ms : List ℕ) (xs : List Spatial) (i : ℕ)
    → MapsInto pures atoms free ms xs → IsPredAt xs i → IsPredAt atoms (slice_index ms i)
mapped_pred pures atoms free [] [] i m p = let e = p.2 in cc
mapped_pred pures atoms free [] (x ∷ xs) i m p = absurd m
mapped_pred pures atoms free (k ∷ ms) [] i m p = absurd m
mapped_pred pures atoms free (k ∷ ms) (x ∷ xs) zero m p =
    let e : x ≡ Pred p.0 p.1 = (let q = p.2 in cc) in
    let y = matched_pred pures x m.0 p.0 p.1 e m.3 in
    (y.0, y.1, m.1 ∙ ap Some y.2)
mapped_pred pures atoms free (k ∷ ms) (x ∷ xs) (suc i) m p = mapped_pred pures atoms _ ms xs i m.4 p

pub link_fits : (bud companion : Judgement) (link : Link) (p : ℕ) → link_fault bud companion link p ≡ None
    → PremiseFits bud (link_premise companion link)
link_fits (Entail a bs) (Runs i b) link p e = cc
link_fits (Runs i a) (Entail b cs) link p e = cc
link_fits (Entail a bs) (Entail b cs) link p e =
    let f = parts_are a bs b cs (nat_le (length a.spatial) (length b.spatial)) link e in
    pairs_fit_0 (λ k. slice_index link.map k) b.spatial a.spatial b.spatial
    (λ i q. (
      mapped_pred a.pure a.spatial (λ _. true) link.map (map (apply_spatial link.subst) b.spatial) i f.1
          (get_mapped (apply_term link.subst) b.spatial i q),
      q,
    ))
link_fits (Runs i a) (Runs k b) link p e =
    let f = none_of_two _ _ e in
    let g = none_of_two _ _ f.1 in
    let h = parts_are a [] b [] true link g.1 in
    pairs_fit_0 (λ k. slice_index link.map k) b.spatial a.spatial b.spatial
    (λ i q. (
      mapped_pred a.pure a.spatial (λ _. true) link.map (map (apply_spatial link.subst) b.spatial) i h.1
          (get_mapped (apply_term link.subst) b.spatial i q),
      q,
    ))
