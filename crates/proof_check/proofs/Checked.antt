-- A correct file's first judgement holds; and a verdict on its nodes is one on the file.
use Rattle.std.proofs.Common.{◌≡◌, ℕ, ◌<◌, List, Some}
use Rattle.std.specs.Prelude.{slice_get}
use Rattle.std.proofs.lemmas.Option.{slice_get_within}
use Rattle.cyc_basics.specs.declared.limits.Limits.{Limits}
use Rattle.heap_formula.specs.declared.commands.Command.{Command}
use Rattle.heap_formula.specs.Definitions.{Definition, HasFewCases}
use Rattle.heap_formula.specs.Words.{Each}
use Rattle.heap_formula.specs.Judgements.{antecedent, JudgementHolds}
use Rattle.heap_formula.proofs.JudgementLaws.{holds-at_all}
use Rattle.rule_table.specs.Judgements.{IsReadable}
use Rattle.rule_table.specs.Soundness.{IsCommand}
use Rattle.trace_pairs.specs.Lasso.{AllProgress}
use Rattle.proof_graph.proofs.Places.{places_set}
use Rattle.logics.specs.declared.verdict.Verdict.TheVariants.{Accepted, RuleRefused, PathRefused, TooManyStates}
use Rattle.logics.specs.Verdicts.{IsVerdict as IsVerdictOn}
use Rattle.logics.proofs.Checks.{root_holds}
use Rattle.rule_book.specs.LogicLaws.{in_order, locally_sound}
use Rattle.rule_book.specs.SeparationLogic.{separation_logic, MayOccur, Holds}
use Rattle.proof_file.specs.declared.file.ProofFile.{ProofFile}
use Rattle.proof_check.specs.Files.{Node, graph_of, AreRight, AreReadable, HasSmallHeaps}
use Rattle.proof_check.specs.Verdicts.{Verdict, logic_of, IsVerdict}
use Rattle.proof_check.proofs.Readable.{may_stand}

pub correct_holds : (most : Limits) (ds : List Definition) (lines : List Command) (nodes : List Node) (root : Node)
    → Each IsCommand lines → Each HasFewCases ds → HasSmallHeaps nodes → AreReadable nodes
    → AreRight most ds lines nodes → slice_get nodes 0 ≡ Some root → AllProgress (graph_of most ds lines nodes)
    → JudgementHolds ds lines root.judgement
correct_holds most ds lines nodes root commands few small readable right at all' =
    (holds-at_all ds lines root.judgement).1 (λ σ.
    root_holds (separation_logic most ds lines) nodes (MayOccur ds lines) IsReadable (in_order most ds lines)
    (may_stand ds lines nodes commands few readable) (slice_get_within nodes 0 root at) right
    (λ v node is. places_set (antecedent node.judgement).spatial (small v node is)) (Holds ds lines)
    (locally_sound most ds lines) all' root at σ)

pub verdict_on_file : (f : ProofFile) (v : Verdict) → IsVerdictOn (logic_of f) (Holds f.defs.list f.program) f.nodes v
    → IsVerdict f v
verdict_on_file f Accepted told = (
  told.0,
  told.1,
  λ root at.
      (holds-at_all f.defs.list f.program root.judgement).1 (λ σ. told.2 root at σ),
)
verdict_on_file f (RuleRefused v fault) told = told
verdict_on_file f (PathRefused l) told = told
verdict_on_file f TooManyStates told = told
