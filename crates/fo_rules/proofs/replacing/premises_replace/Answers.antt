use Rattle.std.proofs.Common.{subst, sym}
use Rattle.fo_formula.specs.Answers.{Answer}
use Rattle.fo_formula.specs.Answered.{IsAnswer}
use Rattle.fo_rules.proofs.Replacings.{replace_is}
use Rattle.fo_rules.proofs.replacing.premises_replace.Goals as goal

pub returns : goal.returns
returns c =
    let is = replace_is c.args.sequent.now c.args.i c.args.side c.as_slice.result.now c.in-Some.x.now c.in-Equation.left
    c.in-Equation.right c.as_slice.ensures c.in-Some.ensures c.in-Equation.is in
    subst (λ (a : Answer). IsAnswer c.replaced_side.result a) (sym is) c.replaced_side.ensures
