use Rattle.std.proofs.Common.{sym, ◌∙◌}
use Rattle.fo_rules.proofs.CaseMaking.{cases_in, cases_past}
use Rattle.fo_rules.proofs.right_cases.cases.Goals as goal

pub returns-then-predicate-definitions : goal.returns-then-predicate-definitions
returns-then-predicate-definitions c =
    c.as_slice.ensures
    ∙ sym (cases_in c.args.definitions.now c.args.predicate c.index-definitions-predicate.result
    c.if-predicate-definitions.true)

pub returns-else-predicate-definitions : goal.returns-else-predicate-definitions
returns-else-predicate-definitions c = sym
    (cases_past c.args.definitions.now c.args.predicate c.if-predicate-definitions.false)
