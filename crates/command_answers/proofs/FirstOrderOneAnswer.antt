-- The question whether a first-order proof is correct has one answer, and what the answers say.
use Rattle.std.proofs.Common.{◌≡◌, ◌≤◌, ◌∙◌, ℕ, List, length, refl, sym, ap, subst, inl, inr, Result, Ok, Err}
use Rattle.buchi_inclusion.specs.Answers.{HasAtMost}
use Rattle.buchi_inclusion.proofs.Exact.{not_both}
use Rattle.cyc_lex.specs.declared.fault.ReadFault.{ReadFault}
use Rattle.cyc_runs.specs.declared.endings.Status.{Status}
use Rattle.cyc_runs.specs.declared.endings.Status.TheVariants.{Success, Refused}
use Rattle.cyc_runs.specs.Runs.{input_limit}
use Rattle.cyc_runs.proofs.WaysToEnd.{fault_fails, fault_is_no_refusal}
use Rattle.fo_formula.specs.declared.nodes.FoFile.{FoFile}
use Rattle.fo_formula.specs.declared.table.faults.FoFault.{FoFault}
use Rattle.logics.specs.Faults.{node_fault}
use Rattle.logics.specs.declared.verdict.Verdict.TheVariants.{Accepted, RuleRefused, PathRefused, TooManyStates}
use Rattle.fo_logic.specs.Verdicts.{FoVerdict, logic_of, file_graph, state_limit, HasRightNodes, IsCorrect}
use Rattle.fo_logic.specs.Verdicts.{IsLeastFault, IsVerdict, RootHolds}
use Rattle.fo_file.specs.Reading.{IsRead}
use Rattle.check_answers.specs.Alike.{AreAlike, AreOneCheck}
use Rattle.check_answers.proofs.OneCheck.{none_some, one_node, one_node_fault, said_one}
use Rattle.check_answers.proofs.OneFault.{one_fault_answer}
use Rattle.command_answers.proofs.Readings.{one_proof_reading}
use Rattle.command_answers.specs.FirstOrderAnswers.{IsFirstOrderChecked, IsReadAnswer, IsSaid, node_refused_text}
use Rattle.command_answers.specs.FirstOrderAnswers.{verdict_status, verdict_text}

-- ---- the verdicts on a proof are one, but for the lasso that is named

-- where all nodes are right none is faulty
right_faulty : (f : FoFile) (v : ℕ) (fault : FoFault) → HasRightNodes f → IsLeastFault f v fault → ⊥
right_faulty f v fault right least = none_some fault _ (right v least.node least.at) least.first

-- the least faulty node is one, and so is its line
one_refusal : (f : FoFile) (v w : ℕ) (x y : FoFault) → IsLeastFault f v x → IsLeastFault f w y
    → node_refused_text v x ≡ node_refused_text w y
one_refusal f v w x y a b =
    let node = one_node f.nodes (node_fault (logic_of f) f.nodes)
    v w a.node b.node x y a.at b.at a.first b.first a.before b.before in
    let fault = one_node_fault f.nodes (node_fault (logic_of f) f.nodes)
    v w a.node b.node x y a.at b.at a.first b.first a.before b.before in
    λ i. node_refused_text (node i) (fault i)

-- the verdicts on a proof end a check in one way, and say the same but for the lasso
one_verdict : (f : FoFile) (v w : FoVerdict) → IsVerdict f v → IsVerdict f w
    → (verdict_status v ≡ verdict_status w) × AreOneCheck (verdict_text f.nodes v) (verdict_text f.nodes w)
one_verdict f Accepted Accepted a b = (refl, inl refl)
one_verdict f Accepted (RuleRefused n fault) a b = absurd (right_faulty f n fault a.0.nodes b)
one_verdict f Accepted (PathRefused l) a b = absurd (b.2 (a.0.paths l b.1))
one_verdict f Accepted TooManyStates a b = absurd (not_both (file_graph f) state_limit a.1 b.1)
one_verdict f (RuleRefused n fault) Accepted a b = absurd (right_faulty f n fault b.0.nodes a)
one_verdict f (RuleRefused n fault) (RuleRefused m other) a b = (refl, inl (one_refusal f n m fault other a b))
one_verdict f (RuleRefused n fault) (PathRefused l) a b = absurd (right_faulty f n fault b.0 a)
one_verdict f (RuleRefused n fault) TooManyStates a b = absurd (right_faulty f n fault b.0 a)
one_verdict f (PathRefused l) Accepted a b = absurd (a.2 (b.0.paths l a.1))
one_verdict f (PathRefused l) (RuleRefused m other) a b = absurd (right_faulty f m other a.0 b)
one_verdict f (PathRefused l) (PathRefused k) a b = (refl, inr ((l, refl), (k, refl)))
one_verdict f (PathRefused l) TooManyStates a b = absurd (not_both (file_graph f) state_limit a.3 b.1)
one_verdict f TooManyStates Accepted a b = absurd (not_both (file_graph f) state_limit b.1 a.1)
one_verdict f TooManyStates (RuleRefused m other) a b = absurd (right_faulty f m other a.0 b)
one_verdict f TooManyStates (PathRefused l) a b = absurd (not_both (file_graph f) state_limit b.3 a.1)
one_verdict f TooManyStates TooManyStates a b = (refl, inl refl)

one_said : (f g : FoFile) (s t : Status) (xs ys : List ℕ) → f ≡ g → IsSaid f s xs → IsSaid g t ys
    → (s ≡ t) × AreOneCheck xs ys
one_said f g s t xs ys same first second =
    let one = one_verdict g first.0 second.0 (subst (λ h. IsVerdict h first.0) same first.1) second.1 in
    let said = first.3 ∙ ap (λ (h : FoFile). verdict_text h.nodes first.0) same in
    (first.2 ∙ one.0 ∙ sym second.2, said_one xs ys _ _ said second.3 one.1)

one_read_answer : (r q : Result FoFile ReadFault) (s t : Status) (xs ys : List ℕ) → AreAlike (λ f g. f ≡ g) r q
    → IsReadAnswer r s xs → IsReadAnswer q t ys → (s ≡ t) × AreOneCheck xs ys
one_read_answer (Ok f) (Ok g) s t xs ys same first second = one_said f g s t xs ys same first second
one_read_answer (Err a) (Err b) s t xs ys same first second = let one = one_fault_answer a b s t xs ys same first second
    in (one.0, inl one.1)
one_read_answer (Ok f) (Err b) s t xs ys same first second = absurd same
one_read_answer (Err a) (Ok g) s t xs ys same first second = absurd same

-- an input has one answer, but for the lasso
pub one_answer : (input : List ℕ) (s t : Status) (xs ys : List ℕ) → IsFirstOrderChecked input s xs
    → IsFirstOrderChecked input t ys → (s ≡ t) × AreOneCheck xs ys
one_answer input s t xs ys first second =
    one_read_answer first.1 second.1 s t xs ys (one_proof_reading input first.1 second.1 first.2 second.2)
    first.3 second.3

-- and is within the limit
pub first_order_short : (input : List ℕ) (s : Status) (xs : List ℕ) → IsFirstOrderChecked input s xs
    → length input ≤ input_limit
first_order_short input s xs is = is.0

-- ---- what the answers say

verdict_holds : (f : FoFile) (v : FoVerdict) → IsVerdict f v → Success ≡ verdict_status v → RootHolds f
verdict_holds f Accepted is e = is.2
verdict_holds f (RuleRefused node fault) is e = absurd cc
verdict_holds f (PathRefused lasso) is e = absurd cc
verdict_holds f TooManyStates is e = absurd cc

verdict_refuses : (f : FoFile) (v : FoVerdict) → IsVerdict f v → Refused ≡ verdict_status v → ¬ IsCorrect f
verdict_refuses f Accepted is e correct = absurd cc
verdict_refuses f (RuleRefused node fault) is e correct = right_faulty f node fault correct.nodes is
verdict_refuses f (PathRefused lasso) is e correct = is.2 (correct.paths lasso is.1)
verdict_refuses f TooManyStates is e correct = absurd cc

read_holds : (input : List ℕ) (r : Result FoFile ReadFault) (xs : List ℕ) → IsRead input r → IsReadAnswer r Success xs
    → (f : FoFile) × IsRead input (Ok f) × RootHolds f
read_holds input (Ok f) xs is answer = (f, is, verdict_holds f answer.0 answer.1 answer.2)
read_holds input (Err fault) xs is answer = absurd (fault_fails fault answer.0)

read_refuses : (input : List ℕ) (r : Result FoFile ReadFault) (xs : List ℕ) → IsRead input r → IsReadAnswer r Refused xs
    → (f : FoFile) × IsRead input (Ok f) × (¬ IsCorrect f)
read_refuses input (Ok f) xs is answer = (f, is, verdict_refuses f answer.0 answer.1 answer.2)
read_refuses input (Err fault) xs is answer = absurd (fault_is_no_refusal fault answer.0)

-- success says that the sequent of node 0 of the proof that was read holds in every valuation, under the least meaning
pub success_holds : (input : List ℕ) (xs : List ℕ) → IsFirstOrderChecked input Success xs
    → (f : FoFile) × IsRead input (Ok f) × RootHolds f
success_holds input xs is = read_holds input is.1 xs is.2 is.3

-- a refusal, that the proof is not correct
pub refusal_incorrect : (input : List ℕ) (xs : List ℕ) → IsFirstOrderChecked input Refused xs
    → (f : FoFile) × IsRead input (Ok f) × (¬ IsCorrect f)
refusal_incorrect input xs is = read_refuses input is.1 xs is.2 is.3

-- ---- a correct proof with few states is accepted

accepted_ends : (f : FoFile) (v : FoVerdict) → IsVerdict f v → IsCorrect f → HasAtMost (file_graph f) state_limit
    → verdict_status v ≡ Success
accepted_ends f Accepted is correct few = refl
accepted_ends f (RuleRefused n fault) is correct few = absurd (right_faulty f n fault correct.nodes is)
accepted_ends f (PathRefused l) is correct few = absurd (is.2 (correct.paths l is.1))
accepted_ends f TooManyStates is correct few = absurd (not_both (file_graph f) state_limit few is.1)

said_accepted : (f g : FoFile) (s : Status) (xs : List ℕ) → f ≡ g → IsCorrect g → HasAtMost (file_graph g) state_limit
    → IsSaid f s xs → s ≡ Success
said_accepted f g s xs same correct few said =
    said.2 ∙ accepted_ends g said.0 (subst (λ h. IsVerdict h said.0) same said.1) correct few

read_accepted : (r : Result FoFile ReadFault) (g : FoFile) (s : Status) (xs : List ℕ) → AreAlike (λ f g. f ≡ g) r (Ok g)
    → IsCorrect g → HasAtMost (file_graph g) state_limit → IsReadAnswer r s xs → s ≡ Success
read_accepted (Ok f) g s xs same correct few answer = said_accepted f g s xs same correct few answer
read_accepted (Err fault) g s xs same correct few answer = absurd same

pub correct_accepted : (input : List ℕ) (g : FoFile) (s : Status) (xs : List ℕ) → IsRead input (Ok g) → IsCorrect g
    → HasAtMost (file_graph g) state_limit → IsFirstOrderChecked input s xs → s ≡ Success
correct_accepted input g s xs is correct few checked =
    read_accepted checked.1 g s xs (one_proof_reading input checked.1 (Ok g) checked.2 is) correct few checked.3
