use Rattle.std.proofs.Common.{◌≡◌, ◌++◌, ◌∷◌, [], Ok, sym, ap, ◌∙◌, arith}
use Rattle.std.proofs.lemmas.Grind.{common_steps}
use Rattle.script_formulas.proofs.Extending.{one_more_last}
use Rattle.script_formulas.proofs.cases.cases.below_quantifier.Goals as goal

pub loop-case-preserved : goal.loop-case-preserved
loop-case-preserved c =
    let d = c.in_ok-below_quantifier.field-0 in
    let grown = one_more_last c.loop-case.yielded c.loop-case.made.items c.in-Some.case d c.loop-case.invariant
    c.in_ok-below_quantifier.ensures in
    let pushed : c.push.new.self.items ≡ c.loop-case.made.items ++ d ∷ [] = grind (arith, common_steps) in
    grown ∙ ap Ok (sym pushed)
