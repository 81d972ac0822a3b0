use Rattle.model_check.proofs.Loops.{row_lacks}
use Rattle.model_check.proofs.unions.is_lacking.Goals as goal

pub returns-in-Some : goal.returns-in-Some
returns-in-Some c = λ t m p.
    row_lacks c.args.table.now c.args.piece c.in-Of.question c.in-Some.row.now c.as_slice.result.now m c.in-Of.is
    c.in-Some.ensures.lookup.1 c.as_slice.ensures c.is_empty.ensures t p
