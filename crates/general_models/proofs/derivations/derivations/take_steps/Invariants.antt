use Rattle.std.proofs.Common.{drop}
use Rattle.std.specs.Prelude.{◌↔◌, reverse}
use Rattle.general_models.specs.Derivations.{Derives}
use Rattle.general_models.proofs.derivations.derivations.take_steps.Given as goal

abbrev pub invariant-loop-step : goal.invariant-loop-step
invariant-loop-step l = Derives l.defs.list l.steps (reverse l.initial.pending.items) l.initial.left
    ↔ Derives l.defs.list (drop l.step-index l.steps) (reverse l.pending.items) l.left
