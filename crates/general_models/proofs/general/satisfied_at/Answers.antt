use Rattle.model_check.specs.WideMasks.{number}
use Rattle.general_models.proofs.RangedRounds.{answer_over}
use Rattle.general_models.proofs.general.satisfied_at.Goals as goal

pub returns : goal.returns
returns c =
    answer_over c.args.defs.now.list c.args.cells.now c.args.places.now.keys c.new-questions.result.keys
    c.ground_ranged.new.questions.keys c.table_over.new.questions.keys c.new-asked.result.items
    c.ground_ranged.new.rules.items c.deref-2.result.now c.args.range.now c.args.stack.now c.args.ask.now
    c.in_ok-table.table.items c.deref.result.now (number c.in_ok-whole.whole)
    c.in_ok-holds.holds c.new-asked.ensures.items c.deref-2.ensures.value c.deref.ensures.value
    c.in_ok-whole.ensures c.requires.range c.in_ok-ground_ranged.ensures c.in_ok-table.ensures c.in_ok-holds.ensures
