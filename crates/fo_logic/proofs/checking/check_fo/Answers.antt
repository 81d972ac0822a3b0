use Rattle.std.proofs.Common.{arith}
use Rattle.std.proofs.lemmas.Result.{IfOk-weaker}
use Rattle.logics.specs.Verdicts.{IsVerdict as IsVerdictOn}
use Rattle.fo_logic.specs.FirstOrder.{Holds}
use Rattle.fo_logic.specs.Verdicts.{logic_of, IsVerdict}
use Rattle.fo_logic.proofs.Correct.{may_stand, verdict_on_file}
use Rattle.fo_logic.proofs.checking.check_fo.Goals as goal

pub check_proof-requires-clause-some : goal.check_proof-requires-clause-some
check_proof-requires-clause-some c = rw c.as_slice.ensures c.requires.some

pub check_proof-requires-clause-few : goal.check_proof-requires-clause-few
check_proof-requires-clause-few c = rw c.as_slice.ensures (let few = c.requires.few in omega (arith, few))

pub check_proof-requires-clause-stand : goal.check_proof-requires-clause-stand
check_proof-requires-clause-stand c = rw c.as_slice.ensures (may_stand c.args.file.now c.requires)

pub returns : goal.returns
returns c =
    let f = c.args.file.now in
    IfOk-weaker c.check_proof.result (IsVerdictOn (logic_of f) (Holds f.theory) f.nodes) (IsVerdict f)
    (verdict_on_file f) (rw c.as_slice.ensures at c.check_proof.ensures)
