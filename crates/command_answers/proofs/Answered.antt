-- The answers to an entailment.
use Rattle.std.proofs.Common.{◌≡◌, ℕ, ◌<◌, ◌≤◌, List, Some, sym, ◌∙◌, subst, inl, inr}
use Rattle.std.proofs.lemmas.Bool.{cases_lt}
use Rattle.cyc_basics.specs.declared.limits.Limits.{Limits}
use Rattle.heap_formula.specs.declared.judgements.Judgement.{Judgement}
use Rattle.heap_formula.specs.declared.judgements.Judgement.TheVariants.{Entail, Term as Runs}
use Rattle.heap_formula.specs.declared.commands.Command.{Command}
use Rattle.heap_formula.specs.Closedness.{IsUniversalHeap}
use Rattle.heap_formula.specs.Definitions.{Definition}
use Rattle.heap_formula.specs.Judgements.{antecedent, JudgementHolds}
use Rattle.heap_formula.specs.Symbolic.{SymbolicHeap}
use Rattle.heap_formula.specs.Values.{Stack}
use Rattle.heap_formula.specs.Cells.{Cells}
use Rattle.std.specs.Prelude.{slice_get}
use Rattle.rule_book.specs.Graphs.{Node}
use Rattle.formula_reader.specs.declared.problem.Problem.{Problem}
use Rattle.proof_file.specs.declared.file.ProofFile.{ProofFile}
use Rattle.logics.specs.declared.verdict.Verdict.TheVariants.{Accepted}
use Rattle.proof_check.specs.Verdicts.{IsVerdict}
use Rattle.counter_model.specs.FirstCounter.{IsFirstCounter}
use Rattle.command_answers.specs.DisproveAnswers.{OnEntailment, IsRefuted}
use Rattle.rule_book.specs.Limits.{IsJudgementWithin}
use Rattle.counter_model.specs.declared.refuting.Refuted.{Refuted}
use Rattle.counter_model.specs.declared.refuting.Refuted.TheVariants.{Found, NotFound, TooManyUniversals}

-- the antecedent of a goal within the limits has no existentials
pub goal_universal : (most : Limits) (count : ℕ) (ds : List Definition) (g : Judgement) (a : SymbolicHeap)
    (bs : List SymbolicHeap) → g ≡ Entail a bs → IsJudgementWithin most ds count g → IsUniversalHeap a
goal_universal most count ds g a bs e w = subst (λ (j : Judgement). IsUniversalHeap (antecedent j)) e w.universal

-- a bound that is not above 8
pub not_wide : (n : ℕ) → (8 < n → ⊥) → n ≤ 8
not_wide n f = elim (cases_lt 8 n) as (λ z. n ≤ 8) [ inl l ↦ absurd (f l) | inr g ↦ g ]

pub not_found_few : (r : Refuted) (n : ℕ) → r ≡ NotFound → (8 < n → r ≡ TooManyUniversals) → n ≤ 8
not_found_few r n e f = not_wide n (λ l. let z : NotFound ≡ TooManyUniversals = sym e ∙ f l in cc)

pub found_few : (r : Refuted) (s : Stack) (h : Cells) (n : ℕ) → r ≡ Found s h → (8 < n → r ≡ TooManyUniversals) → n ≤ 8
found_few r s h n e f = not_wide n (λ l. let z : Found s h ≡ TooManyUniversals = sym e ∙ f l in cc)

-- ---- a refuted goal does not hold

pub refuted_fails : (n : ℕ) (ds : List Definition) (lines : List Command) (g : Judgement)
    → OnEntailment g (λ a bs. (s : Stack) × (h : Cells) × IsFirstCounter ds a bs n s h) → JudgementHolds ds lines g → ⊥
refuted_fails n ds lines (Entail a bs) r holds = r.2.counter.disjuncts (holds r.0 r.1 r.2.counter.antecedent)
refuted_fails n ds lines (Runs i a) r holds = r

pub no_proof : (n : ℕ) (p : Problem) (f : ProofFile) (root : Node) → IsRefuted n p → f.defs.list ≡ p.defs.list
    → slice_get f.nodes 0 ≡ Some root → root.judgement ≡ p.goal → IsVerdict f Accepted → ⊥
no_proof n p f root r d at e verdict =
    let holds : JudgementHolds f.defs.list f.program root.judgement = verdict.2 root at in
    let here : JudgementHolds p.defs.list f.program p.goal = subst
    (λ (g : Judgement). JudgementHolds p.defs.list f.program g) e
    (subst (λ (ds : List Definition). JudgementHolds ds f.program root.judgement) d holds) in
    refuted_fails n p.defs.list f.program p.goal r here
