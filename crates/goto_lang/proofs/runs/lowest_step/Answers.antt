use Rattle.std.proofs.Common.{◌≡◌, ◌≤◌, ◌<◌, ◌∙◌, sym, subst, length, List, ℕ}
use Rattle.std.proofs.lemmas.Result.{IfOk-weaker}
use Rattle.heap_formula.specs.declared.commands.Command.TheVariants.{New}
use Rattle.heap_formula.specs.Programs.{command_bound}
use Rattle.goto_lang.specs.States.{state_of}
use Rattle.goto_lang.proofs.Ends.{zero_takes, makes_lowest}
use Rattle.goto_lang.proofs.runs.lowest_step.Goals as goal
use Rattle.heap_formula.proofs.FactCommands.{bound_at}

pub perform-requires-clause-variables : goal.perform-requires-clause-variables
perform-requires-clause-variables c =
    subst (λ (n : ℕ). command_bound c.command-command.result.now ≤ n) (sym c.requires.values)
    (bound_at c.args.program.now c.args.config.now.line c.command-command.result.now c.command-command.ensures.there)

pub perform-requires-clause-new_cell : goal.perform-requires-clause-new_cell
perform-requires-clause-new_cell c =
    subst (λ (us : List ℕ). (y k : ℕ) → c.command-command.result.now ≡ New y k
    → (0 < c.lowest_pick-pick.result) × (0 < length us)) (sym (c.deref.ensures.value ∙ c.in_ok-fill.ensures))
    (zero_takes c.command-command.result.now c.args.config.now.heap c.lowest_pick-pick.result _ _
    c.lowest_pick-pick.ensures
    (c.command-command.ensures.program.commands c.args.config.now.line c.command-command.result.now
    c.command-command.ensures.there))

pub returns : goal.returns
returns c =
    IfOk-weaker c.perform.result _ _ (λ r m. makes_lowest c.args.program.now (state_of c.args.config.now)
    c.command-command.result.now c.lowest_pick-pick.result c.deref.result.now r c.command-command.ensures.program
    c.requires c.command-command.ensures.there c.lowest_pick-pick.ensures
    (c.deref.ensures.value ∙ c.in_ok-fill.ensures) m) c.perform.ensures
