-- The lines of premises: every rule but Exec keeps the line.
use Rattle.std.proofs.Common.{ℕ, Bool, true, false, not, cond, List, [], ◌∷◌, map, length, subst}
use Rattle.std.specs.Prelude.{max, nat_eq, if◌then◌else◌, slice_get, Result, Ok, Err, Vec, IfOk}
use Rattle.std.specs.declared.alloc.Global.{Global}
use Rattle.cyc_basics.specs.declared.limits.Limits.{Limits}
use Rattle.heap_formula.specs.declared.terms.Term.{Term}
use Rattle.heap_formula.specs.declared.terms.Term.TheVariants.{Nil, Univ, Exist}
use Rattle.heap_formula.specs.declared.atoms.Pure.{Pure}
use Rattle.heap_formula.specs.declared.atoms.Pure.TheVariants.{Eq, Neq}
use Rattle.heap_formula.specs.declared.atoms.Spatial.{Spatial}
use Rattle.heap_formula.specs.declared.atoms.Spatial.TheVariants.{Cell, Pred}
use Rattle.heap_formula.specs.declared.commands.Command.{Command}
use Rattle.heap_formula.specs.declared.judgements.Judgement.{Judgement}
use Rattle.heap_formula.specs.declared.judgements.Judgement.TheVariants.{Entail, Term as Runs}
use Rattle.heap_formula.specs.declared.judgements.Premise.{Premise}
use Rattle.heap_formula.specs.declared.proof_rules.Rule.{Rule}
use Rattle.heap_formula.specs.declared.proof_rules.Rule.TheVariants.{Absurd, Rewrite, Split, Distinct, Weaken, Unfold}
use Rattle.heap_formula.specs.declared.proof_rules.Rule.TheVariants.{Cut, Done, Choose, PureRight, Instantiate, Frame}
use Rattle.heap_formula.specs.declared.proof_rules.Rule.TheVariants.{UnfoldRight, Exec, Drop}
use Rattle.heap_formula.specs.declared.proof_rules.RuleError.{RuleError}
use Rattle.heap_formula.specs.declared.proof_rules.RuleFault.TheVariants.{NoSuchAtom, AtomsDiffer, HasExistential}
use Rattle.heap_formula.specs.declared.proof_rules.RuleFault.TheVariants.{NotFollowing, NotAbsurd, NoSuchCase, NoCell}
use Rattle.heap_formula.specs.declared.proof_rules.RuleFault.TheVariants.{WrongJudgement}
use Rattle.heap_formula.specs.declared.proof_rules.Side.{Side}
use Rattle.heap_formula.specs.Definitions.{Definition}
use Rattle.heap_formula.specs.Fresh.{fresh_number, heap_bound, heap_exists}
use Rattle.heap_formula.specs.Judgements.{antecedent, with_antecedent}
use Rattle.heap_formula.specs.Meaning.{cases_of}
use Rattle.heap_formula.specs.Positions.{without}
use Rattle.heap_formula.specs.Programs.{has_ends}
use Rattle.heap_formula.specs.Substitution.{Bindings, apply_judgement, in_heap}
use Rattle.heap_formula.specs.Symbolic.{SymbolicHeap}
use Rattle.heap_formula.specs.Words.{Each}
use Rattle.goto_lang.specs.Lines.{IsProgram}
use Rattle.rule_table.specs.Answer.{Answer, finds, one, two, limited}
use Rattle.rule_table.specs.Answered.{IsAnswer}
use Rattle.rule_table.specs.ExecTable.{exec_answer}
use Rattle.rule_table.specs.Fits.{OnPremises}
use Rattle.rule_table.specs.RuleBook.{variables_of, rule_answer}
use Rattle.rule_table.specs.RuleCut.{cut_left, cut_right}
use Rattle.rule_table.specs.RuleUnfold.{unfold_premise, unfolded}
use Rattle.rule_table.specs.Table.{with_pures, with_pure, with_right, named, unnamed, rewrite_side, rewrite_atom}
use Rattle.rule_table.specs.Table.{drop_answer, calls, right_term}
use Rattle.rule_table.specs.Tests.{same_term, same_spatial, is_universal_pure, is_universal_spatial, follows, is_absurd}
use Rattle.rule_table.specs.Tests.{address_of, ascend_from, has_number}
use Rattle.rule_table.proofs.Fits.{needs_on, finds_on, limited_on, entails_on, single_on}
use Rattle.symbolic_exec.specs.Lines.{IsAtLine, IsPremiseAtLine}
use Rattle.symbolic_exec.proofs.ProgramLines.{answer_lines}
use Rattle.rule_book.specs.Lines.{IsWithinLines, IsPremiseWithin}
use Rattle.rule_table.proofs.EmptyPremises.{empty_on}

module _ (n : ℕ) where
  abbrev P : Premise → Type 0
  P = IsPremiseWithin n

  kept : (j : Judgement) (a : SymbolicHeap) → IsWithinLines n j → IsWithinLines n (with_antecedent j a)
  kept (Entail b bs) a h = tt
  kept (Runs i b) a h = h

  applied : (j : Judgement) (s : Bindings) → IsWithinLines n j → IsWithinLines n (apply_judgement s j)
  applied (Entail a bs) s h = tt
  applied (Runs i a) s h = h

  one_of : (b : Bool) (x y : Answer) → OnPremises P x → OnPremises P y → OnPremises P (cond b x y)
  one_of true x y h k = h
  one_of false x y h k = k

  side_lines : (p : ℕ) (j : Judgement) (k : ℕ) (x : Pure) (t u : Term) → IsWithinLines n j
      → OnPremises P (rewrite_side p j k x t u)
  side_lines p j k x Nil u h = tt
  side_lines p j k x (Exist m) u h = tt
  side_lines p j k x (Univ v) u h = (kept (apply_judgement ((v, u) ∷ []) j) _ (applied j ((v, u) ∷ []) h), tt)

  atom_lines : (p : ℕ) (j : Judgement) (k : ℕ) (side : Side) (x : Pure) → IsWithinLines n j
      → OnPremises P (rewrite_atom p j k side x)
  atom_lines p j k side (Neq t u) h = tt
  atom_lines p j k side (Eq t u) h =
      one_of (same_term t u) (Ok (one (with_pures j (without k (antecedent j).pure))))
      (rewrite_side p j k (Eq t u) (named side t u) (unnamed side t u)) (kept j _ h, tt)
      (side_lines p j k (Eq t u) (named side t u) (unnamed side t u) h)

  case_lines : (j : Judgement) (k : ℕ) (ts : List Term) (m : ℕ) (cases : List SymbolicHeap) → IsWithinLines n j
      → Each P (map (unfold_premise j k ts m) cases)
  case_lines j k ts m [] h = tt
  case_lines j k ts m (c ∷ cs) h = (kept j _ h, case_lines j k ts m cs h)

  unfold_lines : (most : Limits) (ds : List Definition) (p : ℕ) (j : Judgement) (k : ℕ) (x : Spatial)
      → IsWithinLines n j
      → OnPremises P (calls x (λ q ts. limited most (map (unfold_premise j k ts (fresh_number p j)) (cases_of ds q))))
  unfold_lines most ds p j k (Cell t ts) h = tt
  unfold_lines most ds p j k (Pred q ts) h =
      limited_on P most (map (unfold_premise j k ts (fresh_number p j)) (cases_of ds q))
      (case_lines j k ts (fresh_number p j) (cases_of ds q) h)

  right_lines : (most : Limits) (ds : List Definition) (a b : SymbolicHeap) (k c : ℕ) (x : Spatial)
      → OnPremises P (calls x (λ q ts. finds (slice_get (cases_of ds q) c) NoSuchCase
      (λ case. limited most (one (with_right a (unfolded b k (in_heap (right_term ts (heap_exists b)) case) ∷ []))))))
  right_lines most ds a b k c (Cell t ts) = tt
  right_lines most ds a b k c (Pred q ts) =
      finds_on P (slice_get (cases_of ds q) c) NoSuchCase _
      (λ case at. limited_on P most (one (with_right a (unfolded b k (in_heap (right_term ts (heap_exists b)) case)
      ∷ []))) (tt, tt))

  drop_lines : (j : Judgement) (k : ℕ) → IsWithinLines n j → OnPremises P (drop_answer j k)
  drop_lines (Entail a bs) k h = tt
  drop_lines (Runs i a) k h = finds_on P (slice_get a.spatial k) NoSuchAtom _ (λ x at. (h, tt))

  at_lines : (answer : Answer) → OnPremises (IsPremiseAtLine n) answer → OnPremises P answer
  at_lines (Err f) h = tt
  at_lines (Ok ps) h = all ps h
    where
      within : (j : Judgement) → IsAtLine n j → IsWithinLines n j
      within (Entail a bs) e = tt
      within (Runs i a) e = e

      all : (ps : List Premise) → Each (IsPremiseAtLine n) ps → Each P ps
      all [] e = tt
      all (p ∷ ps) e = (within p.judgement e.0, all ps e.1)

abbrev Q : ℕ → Judgement → Premise → Type 0
Q n j = IsPremiseWithin n

rule_lines : (most : Limits) (ds : List Definition) (lines : List Command) (j : Judgement) (rule : Rule)
    → IsProgram lines
    → IsWithinLines (length lines) j → OnPremises (IsPremiseWithin (length lines)) (rule_answer most ds lines j rule)
rule_lines most ds lines j Absurd p h = needs_on (P (length lines)) (is_absurd (antecedent j)) NotAbsurd (Ok [])
    (λ _. tt)
rule_lines most ds lines j (Rewrite k side) p h =
    finds_on (P (length lines)) (slice_get (antecedent j).pure k) NoSuchAtom _
    (λ x at. atom_lines (length lines) (variables_of lines j) j k side x h)
rule_lines most ds lines j (Split t u) p h =
    limited_on (P (length lines)) most (two (with_pure j (Eq t u)) (with_pure j (Neq t u)))
    (kept (length lines) j _ h, (kept (length lines) j _ h, tt))
rule_lines most ds lines j (Distinct i k) p h =
    finds_on (P (length lines)) (slice_get (antecedent j).spatial i) NoSuchAtom _ (λ x at_i.
    finds_on (P (length lines)) (slice_get (antecedent j).spatial k) NoSuchAtom _ (λ y at_k.
    finds_on (P (length lines)) (address_of x) NoCell _ (λ t is_t.
    finds_on (P (length lines)) (address_of y) NoCell _ (λ u is_u.
    limited_on (P (length lines)) most (one (with_pure j (Neq t (if nat_eq i k then Nil else u))))
    (kept (length lines) j _ h, tt)))))
rule_lines most ds lines j (Weaken k) p h =
    finds_on (P (length lines)) (slice_get (antecedent j).pure k) NoSuchAtom _ (λ x at. (kept (length lines) j _ h, tt))
rule_lines most ds lines j (Unfold k) p h =
    finds_on (P (length lines)) (slice_get (antecedent j).spatial k) NoSuchAtom _
    (λ x at. unfold_lines (length lines) most ds (variables_of lines j) j k x h)
rule_lines most ds lines j (Cut places f) p h =
    needs_on (P (length lines)) (ascend_from 0 (length (antecedent j).spatial) places) NoSuchAtom _ (λ _.
    limited_on (P (length lines)) most (two (cut_left (antecedent j) (has_number places) f)
    (cut_right j (has_number places) f (max (fresh_number (variables_of lines j) j) (heap_bound f))))
    (tt, (kept (length lines) j _ h, tt)))
rule_lines most ds lines j Done p h = single_on (Q (length lines)) j _
    (λ a b. empty_on (P (length lines)) a.spatial b.pure b.spatial)
rule_lines most ds lines j (Choose k) p h =
    entails_on (Q (length lines)) j _ (λ a bs. finds_on (P (length lines)) (slice_get bs k) NoSuchAtom _
    (λ b at. (tt, tt)))
rule_lines most ds lines j (PureRight k) p h =
    single_on (Q (length lines)) j _ (λ a b.
    finds_on (P (length lines)) (slice_get b.pure k) NoSuchAtom _ (λ x at.
    needs_on (P (length lines)) (is_universal_pure x) HasExistential _ (λ _.
    needs_on (P (length lines)) (follows a.pure x) NotFollowing _ (λ _. (tt, tt)))))
rule_lines most ds lines j (Instantiate v t) p h = single_on (Q (length lines)) j _ (λ a b. (tt, tt))
rule_lines most ds lines j (Frame i k) p h =
    single_on (Q (length lines)) j _ (λ a b.
    finds_on (P (length lines)) (slice_get a.spatial i) NoSuchAtom _ (λ x at_i.
    finds_on (P (length lines)) (slice_get b.spatial k) NoSuchAtom _ (λ y at_k.
    needs_on (P (length lines)) (is_universal_spatial y) HasExistential _ (λ _.
    needs_on (P (length lines)) (same_spatial x y) AtomsDiffer _ (λ _. (tt, tt))))))
rule_lines most ds lines j (UnfoldRight k c) p h =
    single_on (Q (length lines)) j _ (λ a b. finds_on (P (length lines)) (slice_get b.spatial k) NoSuchAtom _
    (λ x at. right_lines (length lines) most ds a b k c x))
rule_lines most ds lines j Exec p h = at_lines (length lines) (exec_answer most lines j) (answer_lines most lines j p)
rule_lines most ds lines j (Drop k) p h =
    needs_on (P (length lines)) (not (has_ends lines)) WrongJudgement _ (λ _. drop_lines (length lines) j k h)

pub answer_within : (most : Limits) (ds : List Definition) (lines : List Command) (j : Judgement) (rule : Rule)
    (r : Result (Vec Premise Global) RuleError) → IsProgram lines → IsAnswer r (rule_answer most ds lines j rule)
    → IfOk r (λ v. IsWithinLines (length lines) j → Each (IsPremiseWithin (length lines)) v.items)
answer_within most ds lines j rule (Ok v) p is = λ h.
    subst (λ (x : Answer). OnPremises (IsPremiseWithin (length lines)) x) is (rule_lines most ds lines j rule p h)
answer_within most ds lines j rule (Err e) p is = tt
