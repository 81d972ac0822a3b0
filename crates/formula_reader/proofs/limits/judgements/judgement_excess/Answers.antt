use Rattle.std.proofs.Common.{◌≤◌, arith}
use Rattle.formula_reader.proofs.Exact.{antecedent_over, disjuncts_over, state_over}
use Rattle.formula_reader.proofs.limits.judgements.judgement_excess.Goals as goal

pub returns-in-Some-clause-exact : goal.returns-in-Some-clause-exact
returns-in-Some-clause-exact c =
    antecedent_over c.args.defs.now.most c.args.defs.now.list c.args.lines c.args.judgement.now c.in-Entail.antecedent
    c.in-Entail.disjuncts c.in-Entail.is c.antecedent_excess.result c.in-Some.excess c.antecedent_excess.ensures
    c.in-Some.is

pub returns-in_default-clause-exact : goal.returns-in_default-clause-exact
returns-in_default-clause-exact c =
    disjuncts_over c.args.defs.now.most c.args.defs.now.list c.args.lines c.args.judgement.now c.in-Entail.antecedent
    c.in-Entail.disjuncts c.in-Entail.is c.antecedent_excess.result c.disjuncts_excess.result c.heaps.result.now
    c.antecedent_excess.ensures c.in_default.is c.heaps.ensures.value c.disjuncts_excess.ensures
    c.heaps.ensures.some c.heaps.ensures.few

pub returns-else-line-lines-clause-exact : goal.returns-else-line-lines-clause-exact
returns-else-line-lines-clause-exact c =
    let there : c.in-Term.line ≤ c.args.lines = omega arith in
    state_over c.args.defs.now.most c.args.defs.now.list c.args.lines c.args.judgement.now c.in-Term.line
    c.in-Term.state c.in-Term.is c.antecedent_excess-in-Term.result c.if-line-eq0.false there
    c.antecedent_excess-in-Term.ensures
