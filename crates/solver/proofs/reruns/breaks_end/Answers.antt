use Rattle.std.proofs.Common.{◌∙◌, Some, ap, sym}
use Rattle.std.proofs.lemmas.Result.{IfOk-weaker}
use Rattle.heap_formula.specs.declared.commands.Command.TheVariants as commands
use Rattle.goto_lang.specs.States.{state_of}
use Rattle.solver.proofs.Broken.{at_end}
use Rattle.solver.proofs.reruns.breaks_end.Goals as goal

pub returns-in-Some-Ends : goal.returns-in-Some-Ends
returns-in-Some-Ends c = IfOk-weaker c.none_satisfied.result _ _
    (λ said tells. at_end c.args.defs.now.list c.args.program.now (state_of c.args.config.now)
    c.heaps-asks.result.now said
    (c.in-Some-Ends.ensures ∙ ap Some (c.in-Some-Ends.field-0-is ∙ ap commands.Ends (sym c.heaps-asks.ensures.value)))
    tells) c.none_satisfied.ensures
