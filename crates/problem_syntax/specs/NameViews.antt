-- What a contract sees of a name.
use Rattle.problem_syntax.specs.Names.{Name}
use Rattle.problem_syntax.specs.declared.names.names.ProblemName.{ProblemName}

abbrev pub name_of : ProblemName → Name
name_of n = record { text = n.text.now; primed = n.primed }
