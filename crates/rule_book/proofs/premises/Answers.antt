use Rattle.rule_book.proofs.WholeTable.{answer_sound, answer_sound_elsewhere, answer_keeps}
use Rattle.rule_book.proofs.PremiseLines.{answer_within}
use Rattle.rule_book.proofs.premises.Goals as goal

pub returns-clause-sound : goal.returns-clause-sound
returns-clause-sound c =
    answer_sound c.args.defs.now.most c.args.defs.now.list c.args.program.now c.args.judgement.now c.args.rule.now
    c.answer.result c.lines-lines.ensures.program c.answer.ensures

pub returns-clause-sound_elsewhere : goal.returns-clause-sound_elsewhere
returns-clause-sound_elsewhere c =
    answer_sound_elsewhere c.args.defs.now.most c.args.defs.now.list c.args.program.now c.args.judgement.now
    c.args.rule.now c.answer.result c.answer.ensures

pub returns-clause-keeps : goal.returns-clause-keeps
returns-clause-keeps c =
    answer_keeps c.args.defs.now.most c.args.defs.now.list c.args.program.now c.args.judgement.now c.args.rule.now
    c.answer.result c.lines-lines.ensures.program c.answer.ensures

pub returns-clause-lines : goal.returns-clause-lines
returns-clause-lines c =
    answer_within c.args.defs.now.most c.args.defs.now.list c.args.program.now c.args.judgement.now c.args.rule.now
    c.answer.result c.lines-lines.ensures.program c.answer.ensures
