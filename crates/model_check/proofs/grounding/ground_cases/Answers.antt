use Rattle.std.proofs.Common.{◌<◌, length, sym, subst, get_or, arith}
use Rattle.model_check.specs.Constructive.{IsConstructive}
use Rattle.model_check.proofs.CaseLists.{next_case_at}
use Rattle.model_check.proofs.KnownTerms.{member_at}
use Rattle.model_check.proofs.OnlyLocals.{member_each}
use Rattle.model_check.proofs.grounding.ground_cases.Goals as goal

pub loop-case-preserved : goal.loop-case-preserved
loop-case-preserved c =
    let h : c.loop-case.case-index < length c.args.cases.now = omega arith in
    next_case_at c.args.cells.now c.args.places.now.keys c.args.head c.args.values.now c.args.questions.now.keys
    c.loop-case.questions.keys c.ground_case.new.questions.keys c.args.rules.now.items c.loop-case.rules.items
    c.ground_case.new.rules.items c.args.cases.now c.loop-case.case-index c.case-item.result h c.case-item.is
    c.loop-case.invariant c.in_ok-ground_case.ensures

pub ground_case-requires : goal.ground_case-requires
ground_case-requires c =
    let i = c.loop-case.case-index in
    let case = get_or c.args.cases.now i c.case-item.result in
    record {
      covers = c.requires.covers;
      constructive = subst IsConstructive (sym c.case-item.is)
          (member_each IsConstructive case c.args.cases.now
          (member_at c.args.cases.now i c.case-item.result c.loop-case-test.true) c.requires.constructive);
    }
