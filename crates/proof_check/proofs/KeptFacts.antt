-- The first judgement of a correct file holds.
use Rattle.heap_formula.specs.Words.{Each}
use Rattle.rule_table.specs.Soundness.{IsCommand}
use Rattle.trace_pairs.specs.Lasso.{AllProgress}
use Rattle.proof_file.specs.declared.file.ProofFile.{ProofFile}
use Rattle.proof_check.specs.Files.{HasSmallHeaps}
use Rattle.proof_check.specs.Verdicts.{file_graph, HasRightNodes, RootHolds}
use Rattle.proof_check.proofs.Readable.{file_cases, file_readable}
use Rattle.proof_check.proofs.Checked.{correct_holds}

pub root_holds : (f : ProofFile) → Each IsCommand f.program → HasRightNodes f → HasSmallHeaps f.nodes
    → AllProgress (file_graph f) → RootHolds f
root_holds f commands right small all' root at =
    correct_holds f.defs.most f.defs.list f.program f.nodes root commands (file_cases f) small (file_readable f)
    right at all'
