-- Rule by rule: no existential stands in a premise's antecedent.
use Rattle.std.proofs.Common.{◌≡◌, ℕ, zero, suc, ◌+◌, ◌-◌, max, Bool, true, false, cond, List, [], ◌∷◌, map, length}
use Rattle.std.proofs.Common.{Some, subst, not}
use Rattle.std.specs.Prelude.{Ok, Err, slice_get, slice_set, nat_eq, nat_le, if◌then◌else◌, slice_index_or}
use Rattle.cyc_basics.specs.declared.limits.Limits.{Limits}
use Rattle.heap_formula.specs.declared.terms.Term.{Term}
use Rattle.heap_formula.specs.declared.terms.Term.TheVariants.{Nil, Univ, Exist}
use Rattle.heap_formula.specs.declared.atoms.Pure.{Pure}
use Rattle.heap_formula.specs.declared.atoms.Pure.TheVariants.{Eq, Neq}
use Rattle.heap_formula.specs.declared.atoms.Spatial.{Spatial}
use Rattle.heap_formula.specs.declared.atoms.Spatial.TheVariants.{Cell, Pred}
use Rattle.heap_formula.specs.declared.commands.Command.{Command}
use Rattle.heap_formula.specs.declared.commands.Command.TheVariants.{Assign, Load, Store, New, Free, IfEq, IfNeq, IfAny}
use Rattle.heap_formula.specs.declared.commands.Command.TheVariants.{Goto, Stop, Ends}
use Rattle.heap_formula.specs.declared.judgements.Judgement.{Judgement}
use Rattle.heap_formula.specs.declared.judgements.Judgement.TheVariants.{Entail, Term as Runs}
use Rattle.heap_formula.specs.declared.judgements.Premise.{Premise}
use Rattle.heap_formula.specs.declared.proof_rules.Side.{Side}
use Rattle.heap_formula.specs.declared.proof_rules.Side.TheVariants.{Left, Right}
use Rattle.heap_formula.specs.declared.proof_rules.Rule.{Rule}
use Rattle.heap_formula.specs.declared.proof_rules.Rule.TheVariants.{Absurd, Rewrite, Split, Distinct, Weaken, Unfold}
use Rattle.heap_formula.specs.declared.proof_rules.Rule.TheVariants.{Cut, Done, Choose, PureRight, Instantiate, Frame}
use Rattle.heap_formula.specs.declared.proof_rules.Rule.TheVariants.{UnfoldRight, Exec, Drop}
use Rattle.heap_formula.specs.declared.proof_rules.RuleFault.TheVariants.{NoSuchAtom, AtomsDiffer, HasExistential}
use Rattle.heap_formula.specs.declared.proof_rules.RuleFault.TheVariants.{NotFollowing, NotAbsurd, NoSuchCase, NoCell}
use Rattle.heap_formula.specs.declared.proof_rules.RuleFault.TheVariants.{WrongJudgement}
use Rattle.heap_formula.specs.Symbolic.{SymbolicHeap}
use Rattle.heap_formula.specs.Definitions.{Definition}
use Rattle.heap_formula.specs.Words.{Each}
use Rattle.heap_formula.specs.Meaning.{cases_of}
use Rattle.heap_formula.specs.Fresh.{heap_bound, fresh_number, heap_exists, variables_from}
use Rattle.heap_formula.specs.Programs.{counted_from_one, program_variables, has_ends}
use Rattle.heap_formula.specs.Judgements.{antecedent, with_antecedent}
use Rattle.heap_formula.specs.Positions.{without, kept_pairs, chosen, chosen_step, others_of}
use Rattle.heap_formula.specs.Substitution.{in_heap, in_spatial, apply_term, apply_judgement, case_body, in_pure}
use Rattle.heap_formula.specs.Substitution.{opened_term, case_term, apply_pure}
use Rattle.rule_table.specs.RuleUnfold.{unfold_premise, unfolded}
use Rattle.rule_table.specs.RuleCut.{cut_left, cut_right}
use Rattle.rule_table.specs.Answer.{Answer, finds, limited, one, two}
use Rattle.rule_table.specs.Tests.{same_term, same_spatial, is_universal_pure, is_universal_spatial, follows, is_absurd}
use Rattle.rule_table.specs.Tests.{address_of, has_number, ascend_from}
use Rattle.rule_table.specs.Table.{with_pures, with_pure, with_right, without_spatial, rewrite_side, rewrite_atom}
use Rattle.rule_table.specs.Table.{named, unnamed, calls, right_term, drop_answer, done_answer, choose_answer}
use Rattle.rule_table.specs.Table.{pure_right_answer, instantiate_answer, frame_answer, unfold_right_answer}
use Rattle.rule_table.specs.ExecTable.{Found, cell_of, renamed, renamed_term, with_atom, with_cell, with_field, at_line}
use Rattle.rule_table.specs.ExecTable.{command_answer, exec_answer}
use Rattle.rule_table.specs.RuleBook.{variables_of, rule_answer}
use Rattle.rule_table.specs.Fits.{OnPremises}
use Rattle.rule_table.specs.Soundness.{IsCommand, HasUniversalTerms, IsUniversalPremise}
use Rattle.heap_formula.specs.Closedness.{InPure, InSpatial, InHeap, IsUniversal, IsUniversalHeap}
use Rattle.rule_table.proofs.Rewrites.{AnyTerm, any_heap, Each-without}
use Rattle.rule_table.proofs.Fits.{needs_on, finds_on, limited_on, entails_on, single_on, runs_on}
use Rattle.rule_table.proofs.Commands.{found_is, counted_get as counted_each}
use Rattle.heap_formula.proofs.AllMembers.{each_append, each_at, each_set}
use Rattle.heap_formula.proofs.FactTerms.{universal_choice}
use Rattle.rule_table.proofs.EmptyPremises.{empty_on}

module _ (Q : Term → Type 0) (f : Term → Term) (g : (t : Term) → Q t → IsUniversal (f t)) where
  terms_after : (ts : List Term) → Each Q ts → Each IsUniversal (map f ts)
  terms_after [] q = tt
  terms_after (t ∷ ts) q = (g t q.0, terms_after ts q.1)

  pures_after : (xs : List Pure) → Each (InPure Q) xs → Each (InPure IsUniversal) (map (in_pure f) xs)
  pures_after [] q = tt
  pures_after (Eq t u ∷ xs) q = ((g t q.0.0, g u q.0.1), pures_after xs q.1)
  pures_after (Neq t u ∷ xs) q = ((g t q.0.0, g u q.0.1), pures_after xs q.1)

  spatials_after : (xs : List Spatial) → Each (InSpatial Q) xs → Each (InSpatial IsUniversal) (map (in_spatial f) xs)
  spatials_after [] q = tt
  spatials_after (Cell t ts ∷ xs) q = ((g t q.0.0, terms_after ts q.0.1), spatials_after xs q.1)
  spatials_after (Pred p ts ∷ xs) q = (terms_after ts q.0, spatials_after xs q.1)

  heap_after : (a : SymbolicHeap) → InHeap Q a → IsUniversalHeap (in_heap f a)
  heap_after a q = (pures_after a.pure q.0, spatials_after a.spatial q.1)

-- the judgement with another antecedent
universal_with : (j : Judgement) (a : SymbolicHeap) → IsUniversalHeap a
    → IsUniversalHeap (antecedent (with_antecedent j a))
universal_with (Entail b bs) a u = u
universal_with (Runs i b) a u = u

replaced_universal : (v : ℕ) (u : Term) → IsUniversal u → (t : Term) → IsUniversal t
    → IsUniversal (apply_term ((v, u) ∷ []) t)
replaced_universal v u p Nil q = tt
replaced_universal v u p (Univ n) q = universal_choice (nat_eq n v) u (Univ n) p tt
replaced_universal v u p (Exist n) q = absurd q

pures_rewritten : (b : Bool) (k v : ℕ) (x : Pure) (u : Term) (xs : List Pure) → IsUniversal u → InPure IsUniversal x
    → Each (InPure IsUniversal) xs → Each (InPure IsUniversal)
    (cond b (map (apply_pure ((v, u) ∷ [])) (without k xs)) (slice_set (map (apply_pure ((v, u) ∷ [])) xs) k x))
pures_rewritten true k v x u xs p q r = pures_after IsUniversal (apply_term ((v, u) ∷ [])) (replaced_universal v u p)
    (without k xs) (Each-without (InPure IsUniversal) xs k r)
pures_rewritten false k v x u xs p q r = each_set (InPure IsUniversal) (map (apply_pure ((v, u) ∷ [])) xs) k x q
    (pures_after IsUniversal (apply_term ((v, u) ∷ [])) (replaced_universal v u p) xs r)

side_universal : (p : ℕ) (j : Judgement) (k : ℕ) (x : Pure) (t u : Term) → IsUniversalHeap (antecedent j)
    → InPure IsUniversal x → IsUniversal u → OnPremises IsUniversalPremise (rewrite_side p j k x t u)
side_universal p j k x Nil u h q r = tt
side_universal p j k x (Exist n) u h q r = tt
side_universal p j k x (Univ v) u h q r = (
  universal_with (apply_judgement ((v, u) ∷ []) j) _ (
    pures_rewritten (nat_le p v) k v x u (antecedent j).pure r q h.0,
    spatials_after IsUniversal (apply_term ((v, u) ∷ [])) (replaced_universal v u r) (antecedent j).spatial h.1,
  ),
  tt,
)

named_universal : (p : ℕ) (j : Judgement) (k : ℕ) (side : Side) (t u : Term) → IsUniversalHeap (antecedent j)
    → IsUniversal t → IsUniversal u → OnPremises IsUniversalPremise
    (rewrite_side p j k (Eq t u) (named side t u) (unnamed side t u))
named_universal p j k Left t u h q r = side_universal p j k (Eq t u) t u h (q, r) r
named_universal p j k Right t u h q r = side_universal p j k (Eq t u) u t h (q, r) q

test_universal : (b : Bool) (p : ℕ) (j : Judgement) (k : ℕ) (side : Side) (t u : Term) → IsUniversalHeap (antecedent j)
    → IsUniversal t → IsUniversal u → OnPremises IsUniversalPremise
    (cond b (Ok (one (with_pures j (without k (antecedent j).pure))))
    (rewrite_side p j k (Eq t u) (named side t u) (unnamed side t u)))
test_universal true p j k side t u h q r = (
  universal_with j _
      (Each-without (InPure IsUniversal) (antecedent j).pure k h.0, h.1),
  tt,
)
test_universal false p j k side t u h q r = named_universal p j k side t u h q r

rewrite_universal : (p : ℕ) (j : Judgement) (k : ℕ) (side : Side) (x : Pure) → IsUniversalHeap (antecedent j)
    → InPure IsUniversal x → OnPremises IsUniversalPremise (rewrite_atom p j k side x)
rewrite_universal p j k side (Neq t u) h q = tt
rewrite_universal p j k side (Eq t u) h q = test_universal (same_term t u) p j k side t u h q.0 q.1

pure_universal : (j : Judgement) (x : Pure) → IsUniversalHeap (antecedent j) → InPure IsUniversal x
    → IsUniversalPremise (with_pure j x)
pure_universal j x h q = universal_with j _ (
  each_append (InPure IsUniversal) (antecedent j).pure (x ∷ []) h.0 (q, tt),
  h.1,
)

address_universal : (x : Spatial) (t : Term) → address_of x ≡ Some t → InSpatial IsUniversal x → IsUniversal t
address_universal (Cell v ts) t e q = let same : v ≡ t = cc in subst IsUniversal same q.0
address_universal (Pred p ts) t e q = cc

argument_universal : (args : List Term) (i : ℕ) → Each IsUniversal args → IsUniversal (slice_index_or args i Nil)
argument_universal [] i q = tt
argument_universal (t ∷ ts) zero q = q.0
argument_universal (t ∷ ts) (suc i) q = argument_universal ts i q.1

case_universal : (args : List Term) (n : ℕ) → Each IsUniversal args → (t : Term) → AnyTerm t
    → IsUniversal (case_term args n t)
case_universal args n u Nil q = tt
case_universal args n u (Univ j) q = argument_universal args j u
case_universal args n u (Exist j) q = tt

opened_universal : (n : ℕ) (t : Term) → AnyTerm t → IsUniversal (opened_term n t)
opened_universal n Nil q = tt
opened_universal n (Univ j) q = tt
opened_universal n (Exist j) q = tt

unfold_one_universal : (j : Judgement) (k : ℕ) (ts : List Term) (n : ℕ) (case : SymbolicHeap)
    → IsUniversalHeap (antecedent j) → Each IsUniversal ts → IsUniversalPremise (unfold_premise j k ts n case)
unfold_one_universal j k ts n case h q =
    let body = heap_after AnyTerm (case_term ts n) (case_universal ts n q) case (any_heap case) in
    universal_with j _ (
      each_append (InPure IsUniversal) (antecedent j).pure (case_body ts n case).pure h.0 body.0,
      each_append (InSpatial IsUniversal) (without k (antecedent j).spatial) (case_body ts n case).spatial
          (Each-without (InSpatial IsUniversal) (antecedent j).spatial k h.1) body.1,
    )

unfold_cases_universal : (j : Judgement) (k : ℕ) (ts : List Term) (n : ℕ) (cases : List SymbolicHeap)
    → IsUniversalHeap (antecedent j) → Each IsUniversal ts → Each IsUniversalPremise
    (map (unfold_premise j k ts n) cases)
unfold_cases_universal j k ts n [] h q = tt
unfold_cases_universal j k ts n (c ∷ cs) h q = (
  unfold_one_universal j k ts n c h q,
  unfold_cases_universal j k ts n cs h q,
)

unfold_universal : (most : Limits) (ds : List Definition) (p : ℕ) (j : Judgement) (k : ℕ) (x : Spatial)
    → IsUniversalHeap (antecedent j) → InSpatial IsUniversal x
    → OnPremises IsUniversalPremise (calls x (λ q ts. limited most
    (map (unfold_premise j k ts (fresh_number p j)) (cases_of ds q))))
unfold_universal most ds p j k (Cell t ts) h q = tt
unfold_universal most ds p j k (Pred r ts) h q =
    limited_on IsUniversalPremise most (map (unfold_premise j k ts (fresh_number p j)) (cases_of ds r))
    (unfold_cases_universal j k ts (fresh_number p j) (cases_of ds r) h q)

chosen_universal : (xs : List Spatial) (p : ℕ → Bool) → Each (InSpatial IsUniversal) xs
    → Each (InSpatial IsUniversal) (chosen p xs)
chosen_universal [] p q = tt
chosen_universal (x ∷ xs) p q = step (p 0) x (chosen (λ k. p (suc k)) xs) q.0 (chosen_universal xs (λ k. p (suc k)) q.1)
  where
    step : (b : Bool) (x : Spatial) (ys : List Spatial) → InSpatial IsUniversal x → Each (InSpatial IsUniversal) ys
        → Each (InSpatial IsUniversal) (chosen_step b x ys)
    step true x ys a b = (a, b)
    step false x ys a b = b

cut_universal : (j : Judgement) (p : ℕ → Bool) (f : SymbolicHeap) (n : ℕ) → IsUniversalHeap (antecedent j)
    → IsUniversalPremise (cut_right j p f n)
cut_universal j p f n h =
    let body = heap_after AnyTerm (opened_term n) (opened_universal n) f (any_heap f) in
    universal_with j _ (
      each_append (InPure IsUniversal) (antecedent j).pure
          (in_heap (opened_term n) f).pure h.0 body.0,
      each_append (InSpatial IsUniversal)
          (chosen (others_of p) (antecedent j).spatial) (in_heap (opened_term n) f).spatial
          (chosen_universal (antecedent j).spatial (others_of p) h.1) body.1,
    )

fields_universal : (n k : ℕ) → Each IsUniversal (variables_from n k)
fields_universal n zero = tt
fields_universal n (suc k) = (tt, fields_universal (suc n) k)

module _ (i : ℕ) (a : SymbolicHeap) (n : ℕ) (h : IsUniversalHeap a) where
  atom_universal : (b : SymbolicHeap) (x : Pure) → IsUniversalHeap b → InPure IsUniversal x
      → IsUniversalHeap (with_atom b x)
  atom_universal b x u q = (each_append (InPure IsUniversal) b.pure (x ∷ []) u.0 (q, tt), u.1)

  renamed_universal : (x : ℕ) → IsUniversalHeap (renamed x n a)
  renamed_universal x = heap_after IsUniversal (apply_term ((x, Univ n) ∷ [])) (replaced_universal x (Univ n) tt) a h

  set_universal : (x : ℕ) (t : Term) → IsUniversal t
      → IsUniversalHeap (with_atom (renamed x n a) (Eq (Univ x) (renamed_term x n t)))
  set_universal x t q = atom_universal (renamed x n a) (Eq (Univ x) (renamed_term x n t)) (renamed_universal x)
      (tt, replaced_universal x (Univ n) tt t q)

  cell_universal : (t : Term) (c : Found) → cell_of a.pure t a.spatial ≡ Some c
      → InSpatial IsUniversal (Cell c.address c.fields)
  cell_universal t c found = each_at (InSpatial IsUniversal) a.spatial c.place (Cell c.address c.fields)
      (found_is a.pure t a.spatial c found).at h.1

  command_universal : (most : Limits) (c : Command) → IsCommand c
      → OnPremises IsUniversalPremise (command_answer most i a n c)
  command_universal most Stop good = tt
  command_universal most (Ends bs) good = limited_on IsUniversalPremise most (one (with_right a bs)) (h, tt)
  command_universal most (Goto j) good = limited_on IsUniversalPremise most (one (at_line j a a)) (h, tt)
  command_universal most (IfEq t u j) good =
      limited_on IsUniversalPremise most (two (at_line j a (with_atom a (Eq t u)))
      (at_line (i + 1) a (with_atom a (Neq t u)))) (
        atom_universal a (Eq t u) h good,
        (atom_universal a (Neq t u) h good, tt),
      )
  command_universal most (IfNeq t u j) good =
      limited_on IsUniversalPremise most (two (at_line j a (with_atom a (Neq t u)))
      (at_line (i + 1) a (with_atom a (Eq t u)))) (
        atom_universal a (Neq t u) h good,
        (atom_universal a (Eq t u) h good, tt),
      )
  command_universal most (IfAny j) good = limited_on IsUniversalPremise most (two (at_line j a a) (at_line (i + 1) a a))
      (h, (h, tt))
  command_universal most (Assign x t) good =
      limited_on IsUniversalPremise most (one (at_line (i + 1) a
      (with_atom (renamed x n a) (Eq (Univ x) (renamed_term x n t))))) (set_universal x t good, tt)
  command_universal most (Load x t k) good =
      finds_on IsUniversalPremise (cell_of a.pure t a.spatial) NoCell _ (λ c found.
      finds_on IsUniversalPremise (counted_from_one c.fields k) NoCell _ (λ f field.
      limited_on IsUniversalPremise most (one (at_line (i + 1) a
      (with_atom (renamed x n a) (Eq (Univ x) (renamed_term x n f)))))
      (set_universal x f (counted_each IsUniversal c.fields k f field (cell_universal t c found).1), tt)))
  command_universal most (Store t k u) good =
      finds_on IsUniversalPremise (cell_of a.pure t a.spatial) NoCell _ (λ c found.
      finds_on IsUniversalPremise (counted_from_one c.fields k) NoCell _ (λ f field.
      let cell = cell_universal t c found in
      limited_on IsUniversalPremise most (one (at_line (i + 1) a (with_field a c k u))) (
        (
          h.0,
          each_set (InSpatial IsUniversal) a.spatial c.place (Cell c.address (slice_set c.fields (k - 1) u))
              (cell.0, each_set IsUniversal c.fields (k - 1) u good.1 cell.1) h.1,
        ),
        tt,
      )))
  command_universal most (New x k) good =
      let r = renamed_universal x in
      limited_on IsUniversalPremise most (one (at_line (i + 1) a
      (with_cell (renamed x n a) x (variables_from (n + 1) k)))) (
        (
          r.0,
          each_append (InSpatial IsUniversal) (renamed x n a).spatial
              (Cell (Univ x) (variables_from (n + 1) k) ∷ []) r.1 ((tt, fields_universal (n + 1) k), tt),
        ),
        tt,
      )
  command_universal most (Free t) good =
      finds_on IsUniversalPremise (cell_of a.pure t a.spatial) NoCell _ (λ c found.
      limited_on IsUniversalPremise most (one (record {
        judgement = Runs (i + 1) (without_spatial c.place a);
        pairs = kept_pairs c.place a.spatial;
      })) (
        (h.0, Each-without (InSpatial IsUniversal) a.spatial c.place h.1),
        tt,
      ))

-- each premise of a judgement that has no existential in its antecedent has none
abbrev P : Judgement → Premise → Type 0
P j premise = IsUniversalHeap (antecedent j) → IsUniversalPremise premise

lift : (j : Judgement) (answer : Answer) → OnPremises (P j) answer → IsUniversalHeap (antecedent j)
    → OnPremises IsUniversalPremise answer
lift j (Err f) a h = tt
lift j (Ok ps) a h = all ps a
  where
    all : (ps : List Premise) → Each (P j) ps → Each IsUniversalPremise ps
    all [] b = tt
    all (p ∷ ps) b = (b.0 h, all ps b.1)

exec_keeps : (most : Limits) (lines : List Command) (j : Judgement) → IsUniversalHeap (antecedent j)
    → Each IsCommand lines
    → OnPremises IsUniversalPremise (exec_answer most lines j)
exec_keeps most lines (Entail a bs) h c = tt
exec_keeps most lines (Runs i a) h c =
    finds_on IsUniversalPremise (counted_from_one lines i) WrongJudgement _
    (λ x at. command_universal i a (fresh_number (program_variables lines) (Runs i a)) h most x
    (counted_each IsCommand lines i x at c))

right_universal : (most : Limits) (ds : List Definition) (a b : SymbolicHeap) (k c : ℕ) (x : Spatial)
    → OnPremises (P (Entail a (b ∷ []))) (calls x (λ q ts. finds (slice_get (cases_of ds q) c) NoSuchCase
    (λ case. limited most (one (with_right a (unfolded b k (in_heap (right_term ts (heap_exists b)) case) ∷ []))))))
right_universal most ds a b k c (Cell t ts) = tt
right_universal most ds a b k c (Pred q ts) =
    finds_on (P (Entail a (b ∷ []))) (slice_get (cases_of ds q) c) NoSuchCase _ (λ case at.
    limited_on (P (Entail a (b ∷ []))) most (one (with_right a
    (unfolded b k (in_heap (right_term ts (heap_exists b)) case) ∷ []))) (λ u. u, tt))

pub rule_keeps : (most : Limits) (ds : List Definition) (lines : List Command) (j : Judgement) (rule : Rule)
    → IsUniversalHeap (antecedent j) → Each IsCommand lines → HasUniversalTerms rule
    → OnPremises IsUniversalPremise (rule_answer most ds lines j rule)
rule_keeps most ds lines j Absurd h c r = needs_on IsUniversalPremise (is_absurd (antecedent j)) NotAbsurd (Ok [])
    (λ _. tt)
rule_keeps most ds lines j (Rewrite k side) h c r =
    finds_on IsUniversalPremise (slice_get (antecedent j).pure k) NoSuchAtom _
    (λ x at. rewrite_universal (variables_of lines j) j k side x h
    (each_at (InPure IsUniversal) (antecedent j).pure k x at h.0))
rule_keeps most ds lines j (Split t u) h c r =
    limited_on IsUniversalPremise most (two (with_pure j (Eq t u)) (with_pure j (Neq t u)))
    (pure_universal j (Eq t u) h r, (pure_universal j (Neq t u) h r, tt))
rule_keeps most ds lines j (Distinct i k) h c r =
    finds_on IsUniversalPremise (slice_get (antecedent j).spatial i) NoSuchAtom _ (λ x at_i.
    finds_on IsUniversalPremise (slice_get (antecedent j).spatial k) NoSuchAtom _ (λ y at_k.
    finds_on IsUniversalPremise (address_of x) NoCell _ (λ t is_t.
    finds_on IsUniversalPremise (address_of y) NoCell _ (λ u is_u.
    let ut = address_universal x t is_t (each_at (InSpatial IsUniversal) (antecedent j).spatial i x at_i h.1) in
    let uu = address_universal y u is_u (each_at (InSpatial IsUniversal) (antecedent j).spatial k y at_k h.1) in
    limited_on IsUniversalPremise most (one (with_pure j (Neq t (if nat_eq i k then Nil else u)))) (
      pure_universal j (Neq t (if nat_eq i k then Nil else u)) h (ut, universal_choice (nat_eq i k) Nil u tt uu),
      tt,
    )))))
rule_keeps most ds lines j (Weaken k) h c r =
    finds_on IsUniversalPremise (slice_get (antecedent j).pure k) NoSuchAtom _
    (λ x at. (universal_with j _ (Each-without (InPure IsUniversal) (antecedent j).pure k h.0, h.1), tt))
rule_keeps most ds lines j (Unfold k) h c r =
    finds_on IsUniversalPremise (slice_get (antecedent j).spatial k) NoSuchAtom _
    (λ x at. unfold_universal most ds (variables_of lines j) j k x h
    (each_at (InSpatial IsUniversal) (antecedent j).spatial k x at h.1))
rule_keeps most ds lines j (Cut places f) h c r =
    needs_on IsUniversalPremise (ascend_from 0 (length (antecedent j).spatial) places) NoSuchAtom _ (λ _.
    limited_on IsUniversalPremise most (two (cut_left (antecedent j) (has_number places) f)
    (cut_right j (has_number places) f (max (fresh_number (variables_of lines j) j) (heap_bound f)))) (
      (h.0, chosen_universal (antecedent j).spatial (has_number places) h.1),
      (cut_universal j (has_number places) f (max (fresh_number (variables_of lines j) j) (heap_bound f)) h, tt),
    ))
rule_keeps most ds lines j Done h c r = lift j (done_answer j)
    (single_on P j _ (λ a b. empty_on (P (Entail a (b ∷ []))) a.spatial b.pure b.spatial)) h
rule_keeps most ds lines j (Choose k) h c r =
    lift j (choose_answer j k) (entails_on P j _ (λ a bs. finds_on (P (Entail a bs)) (slice_get bs k) NoSuchAtom _
    (λ b at. (λ u. u, tt)))) h
rule_keeps most ds lines j (PureRight k) h c r =
    lift j (pure_right_answer j k) (single_on P j _ (λ a b.
    finds_on (P (Entail a (b ∷ []))) (slice_get b.pure k) NoSuchAtom _ (λ x at.
    needs_on (P (Entail a (b ∷ []))) (is_universal_pure x) HasExistential _ (λ _.
    needs_on (P (Entail a (b ∷ []))) (follows a.pure x) NotFollowing _ (λ _. (λ u. u, tt)))))) h
rule_keeps most ds lines j (Instantiate v t) h c r = lift j (instantiate_answer j v t)
    (single_on P j _ (λ a b. (λ u. u, tt))) h
rule_keeps most ds lines j (Frame i k) h c r =
    lift j (frame_answer j i k) (single_on P j _ (λ a b.
    finds_on (P (Entail a (b ∷ []))) (slice_get a.spatial i) NoSuchAtom _ (λ x at_i.
    finds_on (P (Entail a (b ∷ []))) (slice_get b.spatial k) NoSuchAtom _ (λ y at_k.
    needs_on (P (Entail a (b ∷ []))) (is_universal_spatial y) HasExistential _ (λ _.
    needs_on (P (Entail a (b ∷ []))) (same_spatial x y) AtomsDiffer _
    (λ _. (λ u. (u.0, Each-without (InSpatial IsUniversal) a.spatial i u.1), tt))))))) h
rule_keeps most ds lines j (UnfoldRight k n) h c r =
    lift j (unfold_right_answer most ds j k n) (single_on P j _
    (λ a b. finds_on (P (Entail a (b ∷ []))) (slice_get b.spatial k) NoSuchAtom _
    (λ x at. right_universal most ds a b k n x))) h
rule_keeps most ds lines j Exec h c r =
    exec_keeps most lines j h c
rule_keeps most ds lines j (Drop k) h c r =
    needs_on IsUniversalPremise (not (has_ends lines)) WrongJudgement _ (λ none.
    lift j (drop_answer j k) (runs_on P j _ (λ i a. finds_on (P (Runs i a)) (slice_get a.spatial k) NoSuchAtom _
    (λ x at. (λ u. (u.0, Each-without (InSpatial IsUniversal) a.spatial k u.1), tt)))) h)
