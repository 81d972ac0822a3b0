-- A goal that asks what a script does, which was read.
use Rattle.std.proofs.Common.{◌≡◌, ℕ, List, sym, subst}
use Rattle.script_formulas.specs.declared.goals.question.ScriptGoal.{ScriptGoal}
use Rattle.script_formulas.specs.declared.script.Script.{Script}
use Rattle.script_formulas.specs.Defining.{IsGoalOf}
use Rattle.script_reader.specs.Commands.{IsAsked}
use Rattle.script_answers.specs.declared.asked.AskedScript.{AskedScript}
use Rattle.script_answers.specs.declared.asked.Asked.TheVariants as asked
use Rattle.script_answers.specs.Asking.{IsAskedOf}

pub asked_goal : (input : List ℕ) (script : Script) (g : ScriptGoal) (a : AskedScript) → IsAsked input
    → IsGoalOf script g.question g.defs.list g.goal g.predicates.items → a.asks ≡ g → IsAskedOf input (asked.Script a)
asked_goal input script g a is_asked asks same = record {
  script = script;
  is_asked = is_asked;
  predicates = a.asks.predicates.items;
  asks = subst (λ (x : ScriptGoal). IsGoalOf script x.question x.defs.list x.goal x.predicates.items) (sym same) asks;
}
