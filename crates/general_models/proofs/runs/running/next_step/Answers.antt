use Rattle.std.proofs.Common.{◌∙◌, sym, arith}
use Rattle.std.specs.Prelude.{slice_get}
use Rattle.goto_lang.specs.States.{state_of}
use Rattle.general_models.proofs.Moves.{stop_move, fault_move, bad_move, to_move}
use Rattle.general_models.proofs.runs.running.next_step.Goals as goal

pub returns-in-Stop : goal.returns-in-Stop
returns-in-Stop c =
    stop_move c.args.program.now c.args.w (slice_get c.args.picks.now c.args.used) (state_of c.args.config.now)
    c.command.result.now c.address_of.result c.fields_of.result.now c.in_ok-step.field-0 (omega arith)
    c.command.ensures.there (sym c.suits.ensures ∙ c.if-not-suits.false)
    c.address_of.ensures c.fields_of.ensures c.in_ok-step.ensures.answer c.in-Stop.is

pub returns-in-Fault : goal.returns-in-Fault
returns-in-Fault c =
    fault_move c.args.program.now c.args.w (slice_get c.args.picks.now c.args.used) (state_of c.args.config.now)
    c.command.result.now c.address_of.result c.fields_of.result.now c.in_ok-step.field-0 (omega arith)
    c.command.ensures.there (sym c.suits.ensures ∙ c.if-not-suits.false)
    c.address_of.ensures c.fields_of.ensures c.in_ok-step.ensures.answer c.in-Fault.is

pub returns-in-BadPick : goal.returns-in-BadPick
returns-in-BadPick c =
    bad_move c.args.program.now c.args.w (slice_get c.args.picks.now c.args.used) (state_of c.args.config.now)
    c.command.result.now c.address_of.result c.fields_of.result.now c.in_ok-step.field-0 (omega arith)
    c.command.ensures.there (sym c.suits.ensures ∙ c.if-not-suits.false)
    c.address_of.ensures c.fields_of.ensures c.in_ok-step.ensures.answer c.in-BadPick.is

pub returns-in-To : goal.returns-in-To
returns-in-To c = (
  to_move c.args.program.now c.args.w (slice_get c.args.picks.now c.args.used) (state_of c.args.config.now)
      c.command.result.now c.address_of.result c.fields_of.result.now c.in_ok-step.field-0 (omega arith)
      c.command.ensures.there (sym c.suits.ensures ∙ c.if-not-suits.false)
      c.address_of.ensures c.fields_of.ensures c.in_ok-step.ensures.answer c.in-To.next c.in-To.is,
  c.in_ok-step.ensures.stays c.in-To.next c.in-To.is,
)
