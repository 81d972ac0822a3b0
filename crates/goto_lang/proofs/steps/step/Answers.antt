use Rattle.std.proofs.Common.{◌≤◌, sym, subst, ℕ}
use Rattle.std.proofs.lemmas.Result.{IfOk-weaker}
use Rattle.heap_formula.specs.Programs.{command_bound}
use Rattle.goto_lang.specs.States.{state_of}
use Rattle.goto_lang.proofs.Moves.{exactly, makes_step, makes_stay, new_takes}
use Rattle.goto_lang.proofs.steps.step.Goals as goal
use Rattle.heap_formula.proofs.FactCommands.{bound_at}

pub perform-requires-clause-variables : goal.perform-requires-clause-variables
perform-requires-clause-variables c =
    subst (λ (n : ℕ). command_bound c.command-command.result.now ≤ n) (sym c.requires.state.values)
    (bound_at c.args.program.now c.args.config.now.line c.command-command.result.now c.command-command.ensures.there)

pub perform-requires-clause-new_cell : goal.perform-requires-clause-new_cell
perform-requires-clause-new_cell c =
    new_takes c.command-command.result.now c.args.w c.args.pick c.args.fill.now (state_of c.args.config.now) _ _
    (c.may_take.ensures.0 c.if-not-may_take.false)
    (c.command-command.ensures.program.commands c.args.config.now.line c.command-command.result.now
    c.command-command.ensures.there)

pub returns-clause-answer : goal.returns-clause-answer
returns-clause-answer c =
    IfOk-weaker c.perform.result _ _ (λ r m. exactly c.args.program.now c.args.w c.args.pick c.args.fill.now
    (state_of c.args.config.now) r (makes_step c.args.program.now c.args.w c.args.pick c.args.fill.now
    (state_of c.args.config.now) c.command-command.result.now r c.command-command.ensures.there
    (c.may_take.ensures.0 c.if-not-may_take.false) m)) c.perform.ensures

pub returns-clause-stays : goal.returns-clause-stays
returns-clause-stays c =
    IfOk-weaker c.perform.result _ _ (λ r m d e. makes_stay c.args.program.now c.args.pick c.args.fill.now
    (state_of c.args.config.now)
    c.command-command.result.now r d c.command-command.ensures.program c.requires.state c.command-command.ensures.there
    m e) c.perform.ensures
