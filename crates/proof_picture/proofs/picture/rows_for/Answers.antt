use Rattle.std.proofs.Common.{◌≡◌, map, subst}
use Rattle.std.specs.Prelude.{IfOk}
use Rattle.proof_picture.specs.Arrows.{row_of, rows_of}
use Rattle.proof_picture.proofs.picture.rows_for.Goals as goal

pub returns : goal.returns
returns c =
    subst (λ steps. IfOk c.rows.result (λ v. map row_of v.items ≡ rows_of c.args.file.now steps))
    (λ i v e. c.in_ok-steps.ensures v e i) c.rows.ensures
