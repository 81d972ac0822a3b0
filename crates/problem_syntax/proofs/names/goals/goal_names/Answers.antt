use Rattle.std.proofs.Common.{map}
use Rattle.problem_syntax.specs.Trees.{problem_of}
use Rattle.problem_syntax.specs.Numbering.{universals}
use Rattle.problem_syntax.specs.NameViews.{name_of}
use Rattle.problem_syntax.proofs.Numbered.{by_number}
use Rattle.problem_syntax.proofs.names.goals.goal_names.Goals as goal

pub returns-clause-numbers : goal.returns-clause-numbers
returns-clause-numbers c = by_number (λ v. map name_of v.items) c.universal_names.result
    (universals (problem_of c.args.tree.now)) c.universal_names.ensures
