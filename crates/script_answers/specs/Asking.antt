-- What scripts ask, as goals.
use Rattle.std.specs.Prelude.{◌≡◌, ℕ, List, true}
use Rattle.heap_formula.specs.declared.judgements.Judgement.{Judgement}
use Rattle.heap_formula.specs.Definitions.{Definition}
use Rattle.script_formulas.specs.declared.goals.question.Question.{Question}
use Rattle.script_formulas.specs.declared.script.Script.{Script}
use Rattle.script_formulas.specs.Defining.{IsGoalOf}
use Rattle.script_reader.specs.Commands as commands
use Rattle.script_answers.specs.declared.asked.Asked.{Asked}
use Rattle.script_answers.specs.declared.asked.Asked.TheVariants as asked
use Rattle.script_answers.specs.Refusals.{is_refusal}

-- the goal, over these definitions, asks what a script does. The input is one script that asks one question before its
-- first exit; that it spells this one is not said here
pub record IsGoalOfInput (input : List ℕ) (question : Question) (ds : List Definition) (goal : Judgement) : Type 0 where
  pub script : Script
  pub is_asked : commands.IsAsked input
  pub predicates : List ℕ
  pub asks : IsGoalOf script question ds goal predicates

-- the script asks this, or it is refused
abbrev pub IsAskedOf : List ℕ → Asked → Type 0
IsAskedOf input (asked.Script script) =
    IsGoalOfInput input script.asks.question script.asks.defs.list script.asks.goal
IsAskedOf input (asked.Refused answer) = is_refusal answer.status ≡ true
