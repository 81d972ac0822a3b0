use Rattle.std.proofs.Common.{◌∙◌, List, length, refl, sym, ap, subst}
use Rattle.cyc_basics.specs.declared.limits.Limits.{Limits}
use Rattle.heap_formula.specs.declared.commands.Command.{Command}
use Rattle.rule_book.specs.Limits.{IsJudgementWithin, AreEndsWithin}
use Rattle.formula_reader.proofs.Exact.{definitions_over, lines_over, ends_over, goal_over, problem_exact}
use Rattle.formula_reader.specs.Excess.{judgement_excess, lines_excess}
use Rattle.formula_reader.proofs.limits.problems.problem_excess.Goals as goal

pub returns-in-Some-clause-exact : goal.returns-in-Some-clause-exact
returns-in-Some-clause-exact c =
    definitions_over c.args.version c.args.defs.now.most c.args.defs.now.list c.args.program.now c.args.goal.now
    c.definitions_excess.result c.in-Some.excess c.definitions_excess.ensures.first c.in-Some.is

pub returns-in-Some-lines_excess-clause-exact : goal.returns-in-Some-lines_excess-clause-exact
returns-in-Some-lines_excess-clause-exact c =
    lines_over c.args.version c.args.defs.now.most c.args.defs.now.list c.args.program.now c.args.goal.now
    c.lines_excess.result c.in-Some-lines_excess.excess c.lines-lines.result.now c.lines-lines.ensures.value
    (c.lines_excess.ensures ∙ ap (λ (most : Limits). lines_excess c.args.version most c.lines-lines.result.now)
    c.most.ensures.value) c.in-Some-lines_excess.is

pub returns-in-Some-ends_excess-clause-exact : goal.returns-in-Some-ends_excess-clause-exact
returns-in-Some-ends_excess-clause-exact c =
    ends_over c.args.version c.args.defs.now.most c.args.defs.now.list c.args.program.now c.args.goal.now
    c.ends_excess.result c.in-Some-ends_excess.excess c.lines-lines.result.now c.lines-lines.ensures.value
    c.ends_excess.ensures.first c.in-Some-ends_excess.is

pub returns-in-Some-judgement_excess-clause-exact : goal.returns-in-Some-judgement_excess-clause-exact
returns-in-Some-judgement_excess-clause-exact c =
    let most = c.args.defs.now.most in
    let ds = c.args.defs.now.list in
    let found = c.judgement_excess.ensures.first ∙ ap (λ (cs : List Command). judgement_excess most ds (length cs)
    c.args.goal.now) c.lines-lines.ensures.value in
    goal_over c.args.version most ds c.args.program.now c.args.goal.now c.judgement_excess.result
    c.in-Some-judgement_excess.excess found c.in-Some-judgement_excess.is

pub returns-clause-exact : goal.returns-clause-exact
returns-clause-exact c =
    let most = c.args.defs.now.most in
    let ds = c.args.defs.now.list in
    let judged = subst (λ (cs : List Command). IsJudgementWithin most ds (length cs) c.args.goal.now)
    c.lines-lines.ensures.value (c.judgement_excess.ensures.exact.0 c.in_default-judgement_excess.is) in
    let none = sym c.definitions_excess.ensures.first ∙ c.in_default.is in
    let found = c.lines_excess.ensures ∙ ap (λ (m : Limits). lines_excess c.args.version m c.lines-lines.result.now)
    c.most.ensures.value in
    let known = ap (lines_excess c.args.version most) (sym c.lines-lines.ensures.value) ∙ sym found
    ∙ c.in_default-lines_excess.is in
    let ends = subst (AreEndsWithin most ds) c.lines-lines.ensures.value
    (c.ends_excess.ensures.within c.in_default-ends_excess.is) in (
      λ nothing.
          problem_exact c.args.version most ds c.args.program.now c.args.goal.now c.definitions_excess.ensures.few
          c.lines-lines.ensures.program judged none known ends,
      λ w. refl,
    )
