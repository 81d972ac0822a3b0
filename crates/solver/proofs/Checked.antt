-- A file of a problem with its goal at node 0 that a check accepts is a proof of the goal.
use Rattle.std.proofs.Common.{◌≡◌, List, Some, subst, sym, slice_get}
use Rattle.heap_formula.specs.Judgements.{JudgementHolds}
use Rattle.pred_defs.specs.Book.{DefinitionBook}
use Rattle.formula_reader.specs.declared.problem.Problem.{Problem}
use Rattle.proof_file.specs.declared.file.ProofFile.{ProofFile}
use Rattle.proof_file.specs.FileNodes.{FileNode}
use Rattle.logics.specs.declared.verdict.Verdict.TheVariants.{Accepted}
use Rattle.proof_check.specs.Verdicts.{IsVerdict}
use Rattle.proof_search.specs.Outcomes.{IsProofFor}
use Rattle.solver.specs.Solutions.{IsCheckedProof}

goal_holds : (p : Problem) (f : ProofFile) (root : FileNode) → f.defs ≡ p.defs → f.program ≡ p.program
    → slice_get f.nodes 0 ≡ Some root → root.judgement ≡ p.goal → IsVerdict f Accepted
    → JudgementHolds p.defs.list p.program p.goal
goal_holds p f root definitions program is_root goal accepted =
    let at_root : JudgementHolds f.defs.list f.program root.judgement = accepted.2 root is_root in
    subst (λ (book : DefinitionBook). JudgementHolds book.list p.program p.goal) definitions
    (subst (λ lines. JudgementHolds f.defs.list lines p.goal) program
    (subst (λ j. JudgementHolds f.defs.list f.program j) goal at_root))

pub checked_proof : (p : Problem) (f : ProofFile) (nodes : List FileNode) (root : FileNode) → f.version ≡ p.version
    → f.defs ≡ p.defs → f.program ≡ p.program → f.nodes ≡ nodes → slice_get nodes 0 ≡ Some root
    → root.judgement ≡ p.goal → IsVerdict f Accepted → IsCheckedProof p f
checked_proof p f nodes root version definitions program is_nodes is_root goal accepted =
    let at_root : slice_get f.nodes 0 ≡ Some root = subst (λ (ns : List FileNode). slice_get ns 0 ≡ Some root)
    (sym is_nodes) is_root in
    record {
      version = version;
      definitions = definitions;
      program = program;
      root = root;
      is_root = at_root;
      goal = goal;
      accepted = accepted;
      holds = goal_holds p f root definitions program at_root goal accepted;
    }

-- a proof by fixed moves is one that a check accepts
pub moves_proof : (p : Problem) (f : ProofFile) → IsProofFor p f → IsCheckedProof p f
moves_proof p f is =
    let accepted : IsVerdict f Accepted = (is.correct, is.states, is.holds) in
    record {
      version = is.version;
      definitions = is.definitions;
      program = is.program;
      root = is.root;
      is_root = is.is_root;
      goal = is.goal;
      accepted = accepted;
      holds = goal_holds p f is.root is.definitions is.program is.is_root is.goal accepted;
    }
