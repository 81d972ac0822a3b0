use Rattle.std.proofs.Common.{arith}
use Rattle.std.proofs.lemmas.Result.{IfOk-weaker}
use Rattle.logics.specs.Verdicts.{IsVerdict as IsVerdictOn}
use Rattle.rule_book.specs.SeparationLogic.{Holds}
use Rattle.proof_check.specs.Verdicts.{logic_of, IsVerdict}
use Rattle.proof_check.proofs.Readable.{file_stands}
use Rattle.proof_check.proofs.Checked.{verdict_on_file}
use Rattle.proof_check.proofs.checking.check.Goals as goal

pub check_proof-requires-clause-some : goal.check_proof-requires-clause-some
check_proof-requires-clause-some c = rw c.as_slice.ensures c.args.file.now.some

pub check_proof-requires-clause-few : goal.check_proof-requires-clause-few
check_proof-requires-clause-few c = rw c.as_slice.ensures (let few = c.args.file.now.few in omega (arith, few))

pub check_proof-requires-clause-stand : goal.check_proof-requires-clause-stand
check_proof-requires-clause-stand c = rw c.as_slice.ensures (file_stands c.args.file.now c.lines-lines.ensures.program)

pub returns : goal.returns
returns c =
    let f = c.args.file.now in
    IfOk-weaker c.check_proof.result (IsVerdictOn (logic_of f) (Holds f.defs.list f.program) f.nodes) (IsVerdict f)
    (verdict_on_file f) (rw c.as_slice.ensures at c.check_proof.ensures)
