use Rattle.rule_table.proofs.SameJudgements.{decided_judgement}
use Rattle.rule_book.proofs.reasons.separation_logic.is_same.Goals as goal

pub returns : goal.returns
returns c = decided_judgement c.is_same_judgement.result c.args.a.now c.args.b.now c.is_same_judgement.ensures
