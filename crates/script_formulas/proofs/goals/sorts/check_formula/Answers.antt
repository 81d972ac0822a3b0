use Rattle.std.proofs.Common.{[], ◌∙◌, sym}
use Rattle.script_formulas.specs.Formulas.{formula_of}
use Rattle.script_formulas.proofs.SortTests.{formula_sorted}
use Rattle.script_formulas.proofs.goals.sorts.check_formula.Goals as goal

pub returns-then-branch : goal.returns-then-branch
returns-then-branch c =
    formula_sorted c.args.script.now.constructors.items c.args.script.now.predicates.items c.args.known.now []
    (formula_of c.args.formula.now) (sym c.in_ok-is_sorted_formula.ensures ∙ c.if-branch.true)
