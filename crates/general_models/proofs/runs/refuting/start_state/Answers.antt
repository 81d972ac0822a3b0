use Rattle.std.proofs.Common.{length, ap, ◌∙◌}
use Rattle.general_models.proofs.Moves.{length_first}
use Rattle.general_models.proofs.runs.refuting.start_state.Goals as goal

pub returns-clause-state : goal.returns-clause-state
returns-clause-state c = record {
  from_one = c.requires.from_one;
  to_last = c.requires.to_last;
  values = ap length (c.from_vec.ensures ∙ c.in_ok-values.ensures) ∙ length_first c.variables.result c.args.stack.now
      ∙ c.variables.ensures.value;
}
