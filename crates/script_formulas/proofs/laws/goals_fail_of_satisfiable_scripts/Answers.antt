use Rattle.script_formulas.proofs.GoalLaws.{failing_satisfiable}
use Rattle.script_formulas.proofs.laws.goals_fail_of_satisfiable_scripts.Goals as goal

pub returns : goal.returns
returns c script question ds goal used lines g s h holds none =
    failing_satisfiable script question ds goal used g lines s h holds none
