-- A file has one verdict, but for the lasso that is named.
use Rattle.std.proofs.Common.{◌≡◌, ℕ, refl, sym, ap, subst, ◌∙◌, inl, inr}
use Rattle.std.specs.Prelude.{slice_get}
use Rattle.heap_formula.specs.declared.proof_rules.RuleFault.{RuleFault}
use Rattle.heap_formula.specs.Judgements.{JudgementHolds}
use Rattle.rule_book.specs.Graphs.{Node, node_fault}
use Rattle.trace_pairs.specs.Lasso.{AllProgress, IsLasso, Progresses}
use Rattle.buchi_inclusion.specs.Answers.{HasAtMost, HasMoreThan}
use Rattle.buchi_inclusion.proofs.Exact.{not_both}
use Rattle.cyc_runs.specs.Texts.{node_refused_text}
use Rattle.proof_file.specs.declared.file.ProofFile.{ProofFile}
use Rattle.proof_file.specs.Reading.{AreSame}
use Rattle.proof_check.specs.Verdicts.{Verdict}
use Rattle.logics.specs.declared.verdict.Verdict.TheVariants.{Accepted, RuleRefused, PathRefused, TooManyStates}
use Rattle.proof_check.specs.Files.{AreRight, graph_of}
use Rattle.proof_check.specs.Verdicts.{file_graph, state_limit, HasRightNodes, IsLeastFault, IsVerdict, RootHolds}
use Rattle.check_answers.specs.Alike.{AreOneCheck}
use Rattle.check_answers.proofs.OneCheck.{none_some, one_node, one_node_fault}
use Rattle.check_answers.specs.Answers.{verdict_status, verdict_text}

-- ---- files that say the same have the same verdicts

module _ (f g : ProofFile) (same : AreSame f g) where
  -- the same definitions, program and nodes have the same trace graph
  same_graph : file_graph f ≡ file_graph g
  same_graph =
      ap (λ most. graph_of most f.defs.list f.program f.nodes) same.most
      ∙ ap (λ ds. graph_of g.defs.most ds f.program f.nodes) same.definitions
      ∙ ap (λ lines. graph_of g.defs.most g.defs.list lines f.nodes) same.program
      ∙ ap (λ nodes. graph_of g.defs.most g.defs.list g.program nodes) same.nodes

  -- and each node the same fault, or none
  same_fault : (v : ℕ) (node : Node) → node_fault f.defs.most f.defs.list f.program f.nodes v node
      ≡ node_fault g.defs.most g.defs.list g.program g.nodes v node
  same_fault v node =
      ap (λ most. node_fault most f.defs.list f.program f.nodes v node) same.most
      ∙ ap (λ ds. node_fault g.defs.most ds f.program f.nodes v node) same.definitions
      ∙ ap (λ lines. node_fault g.defs.most g.defs.list lines f.nodes v node) same.program
      ∙ ap (λ nodes. node_fault g.defs.most g.defs.list g.program nodes v node) same.nodes

  -- and a node stands where it stood
  same_place : (v : ℕ) → slice_get f.nodes v ≡ slice_get g.nodes v
  same_place v = ap (λ nodes. slice_get nodes v) same.nodes

  same_right : HasRightNodes f → HasRightNodes g
  same_right right =
      subst (λ nodes. AreRight g.defs.most g.defs.list g.program nodes) same.nodes
      (subst (λ lines. AreRight g.defs.most g.defs.list lines f.nodes) same.program
      (subst (λ ds. AreRight g.defs.most ds f.program f.nodes) same.definitions
      (subst (λ most. AreRight most f.defs.list f.program f.nodes) same.most right)))

  same_least : (v : ℕ) (fault : RuleFault) → IsLeastFault f v fault → IsLeastFault g v fault
  same_least v fault least = record {
    node = least.node;
    at = sym (same_place v) ∙ least.at;
    first = sym (same_fault v least.node) ∙ least.first;
    before = λ u node sooner at. sym (same_fault u node) ∙ least.before u node sooner (same_place u ∙ at);
  }

  same_root : RootHolds f → RootHolds g
  same_root holds root at =
      subst (λ ds. JudgementHolds ds g.program root.judgement) same.definitions
      (subst (λ lines. JudgementHolds f.defs.list lines root.judgement) same.program
      (holds root (same_place 0 ∙ at)))

  same_few : HasAtMost (file_graph f) state_limit → HasAtMost (file_graph g) state_limit
  same_few few = subst (λ graph. HasAtMost graph state_limit) same_graph few

  pub same_verdict : (v : Verdict) → IsVerdict f v → IsVerdict g v
  same_verdict Accepted is = (
    record { nodes = same_right is.0.nodes; paths = subst AllProgress same_graph is.0.paths },
    same_few is.1,
    same_root is.2,
  )
  same_verdict (RuleRefused v fault) is = same_least v fault is
  same_verdict (PathRefused l) is = (
    same_right is.0,
    subst (λ graph. IsLasso graph l) same_graph is.1,
    λ progress. is.2 (subst (λ graph. Progresses graph l) (sym same_graph) progress),
    same_few is.3,
  )
  same_verdict TooManyStates is = (same_right is.0, subst (λ graph. HasMoreThan graph state_limit) same_graph is.1)

-- ---- the verdicts on a file

-- where all nodes are right none is faulty
pub right_faulty : (f : ProofFile) (v : ℕ) (fault : RuleFault) → HasRightNodes f → IsLeastFault f v fault → ⊥
right_faulty f v fault right least = none_some fault _ (right v least.node least.at) least.first

-- the least faulty node is one, and so is its line
one_refusal : (f : ProofFile) (v w : ℕ) (x y : RuleFault) → IsLeastFault f v x → IsLeastFault f w y
    → node_refused_text v x ≡ node_refused_text w y
one_refusal f v w x y a b =
    let fault_of = node_fault f.defs.most f.defs.list f.program f.nodes in
    let node = one_node f.nodes fault_of v w a.node b.node x y a.at b.at a.first b.first a.before b.before in
    let fault = one_node_fault f.nodes fault_of v w a.node b.node x y a.at b.at a.first b.first a.before b.before in
    λ i. node_refused_text (node i) (fault i)

-- the verdicts on a file end a check in one way, and say the same but for the lasso
pub one_verdict : (f : ProofFile) (v w : Verdict) → IsVerdict f v → IsVerdict f w
    → (verdict_status v ≡ verdict_status w) × AreOneCheck (verdict_text f v) (verdict_text f w)
one_verdict f Accepted Accepted a b = (refl, inl refl)
one_verdict f Accepted (RuleRefused n fault) a b = absurd (right_faulty f n fault a.0.nodes b)
one_verdict f Accepted (PathRefused l) a b = absurd (b.2 (a.0.paths l b.1))
one_verdict f Accepted TooManyStates a b = absurd (not_both (file_graph f) state_limit a.1 b.1)
one_verdict f (RuleRefused n fault) Accepted a b = absurd (right_faulty f n fault b.0.nodes a)
one_verdict f (RuleRefused n fault) (RuleRefused m other) a b = (refl, inl (one_refusal f n m fault other a b))
one_verdict f (RuleRefused n fault) (PathRefused l) a b = absurd (right_faulty f n fault b.0 a)
one_verdict f (RuleRefused n fault) TooManyStates a b = absurd (right_faulty f n fault b.0 a)
one_verdict f (PathRefused l) Accepted a b = absurd (a.2 (b.0.paths l a.1))
one_verdict f (PathRefused l) (RuleRefused m other) a b = absurd (right_faulty f m other a.0 b)
one_verdict f (PathRefused l) (PathRefused k) a b = (refl, inr ((l, refl), (k, refl)))
one_verdict f (PathRefused l) TooManyStates a b = absurd (not_both (file_graph f) state_limit a.3 b.1)
one_verdict f TooManyStates Accepted a b = absurd (not_both (file_graph f) state_limit b.1 a.1)
one_verdict f TooManyStates (RuleRefused m other) a b = absurd (right_faulty f m other a.0 b)
one_verdict f TooManyStates (PathRefused l) a b = absurd (not_both (file_graph f) state_limit b.3 a.1)
one_verdict f TooManyStates TooManyStates a b = (refl, inl refl)
