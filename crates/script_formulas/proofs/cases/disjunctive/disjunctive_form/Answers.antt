use Rattle.std.proofs.Common.{◌≡◌, true, Ok, arith}
use Rattle.std.proofs.lemmas.Grind.{common_steps}
use Rattle.script_formulas.specs.Formulas.{formula_of}
use Rattle.script_formulas.specs.Scope.{bound_formula, AreFine}
use Rattle.script_formulas.specs.Forms.{formula_cases}
use Rattle.script_formulas.specs.Holding.{IsDisjunctiveForm, IsStagedForm}
use Rattle.script_formulas.proofs.Answers.{ok_imply}
use Rattle.script_formulas.proofs.SameMeaning.{form_holds, form_staged, formula_bound}
use Rattle.script_formulas.proofs.Fine.{fine_cases}
use Rattle.script_formulas.proofs.cases.disjunctive.disjunctive_form.Goals as goal

pub returns-clause-meaning : goal.returns-clause-meaning
returns-clause-meaning c =
    let f = formula_of c.args.formula.now in
    let bound : bound_formula 0 f ≡ true = grind (arith, common_steps) in
    ok_imply c.cases_of.result (λ cs. formula_cases 0 f ≡ Ok cs.items) (λ cs. IsDisjunctiveForm f cs.items)
    (λ cs p. form_holds f cs.items bound p) c.cases_of.ensures

pub returns-clause-fine : goal.returns-clause-fine
returns-clause-fine c =
    let f = formula_of c.args.formula.now in
    let bound : bound_formula 0 f ≡ true = grind (arith, common_steps) in
    ok_imply c.cases_of.result (λ cs. formula_cases 0 f ≡ Ok cs.items) (λ cs. AreFine 0 cs.items)
    (λ cs p. fine_cases 0 f cs.items (formula_bound 0 f bound) p) c.cases_of.ensures

pub returns-clause-staged : goal.returns-clause-staged
returns-clause-staged c =
    let f = formula_of c.args.formula.now in
    let bound : bound_formula 0 f ≡ true = grind (arith, common_steps) in
    ok_imply c.cases_of.result (λ cs. formula_cases 0 f ≡ Ok cs.items) (λ cs. IsStagedForm f cs.items)
    (λ cs p. form_staged f cs.items bound p) c.cases_of.ensures
