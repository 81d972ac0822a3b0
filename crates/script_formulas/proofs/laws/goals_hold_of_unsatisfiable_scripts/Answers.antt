use Rattle.script_formulas.proofs.GoalLaws.{satisfiable_refuted, holds_unrefuted}
use Rattle.script_formulas.proofs.laws.goals_hold_of_unsatisfiable_scripts.Goals as goal

pub returns : goal.returns
returns c script question ds goal used lines g holds can =
    holds_unrefuted script question ds goal used g lines holds (satisfiable_refuted script question ds goal used g can)
