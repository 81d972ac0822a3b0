use Rattle.std.proofs.Common.{arith, ◌∙◌, ap}
use Rattle.std.specs.FinMap.{insert}
use Rattle.heap_formula.specs.Programs.{next_line}
use Rattle.goto_lang.specs.States.{state_of}
use Rattle.goto_lang.proofs.Moves.{some_field}
use Rattle.goto_lang.proofs.steps.stored.Goals as goal

pub returns : goal.returns
returns c =
    let f = some_field c.in-Some.fields.now c.args.k (omega arith) (omega arith) in (
      c.in-Some.fields.now,
      f.0,
      c.in-Some.ensures.value,
      f.1,
      c.in_ok-with_cell.ensures
          ∙ ap (λ fs. next_line (state_of c.args.config.now) c.args.config.now.stack
          (insert c.args.config.now.heap c.args.address fs)) c.in_ok-fields.ensures,
    )
