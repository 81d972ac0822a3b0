use Rattle.std.proofs.Common.{◌<◌, length, arith, sym, subst}
use Rattle.cyc_basics.proofs.Places.{at_index}
use Rattle.logics.specs.Verdicts.{IsVerdict}
use Rattle.rule_logics.specs.Logic.{logic_by}
use Rattle.rule_logics.proofs.texts.answers.are_proof.Goals as goal

pub returns : goal.returns
returns g c e =
    let l = c.args.logic.now in
    let nodes = c.args.nodes.now in
    let root = c.index-nodes-0.result in
    let some : 0 < length nodes = omega arith in
    record {
      root = root;
      is_root = at_index nodes 0 root root some (sym c.index-nodes-0.is);
      proves = (g.met.L.RuleLogic.laws l).one root.judgement c.args.goal.now (sym c.if-not-is_same.ensures);
      accepted = subst (IsVerdict (logic_by (g.L.RuleLogic.rules l)) (g.L.RuleLogic.holds l) nodes)
          (c.is_accepting.ensures e) c.in_ok-verdict.ensures;
    }
