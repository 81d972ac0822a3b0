-- The words of theories and problem files of first-order logic.
use Rattle.std.specs.Prelude.{codes}
use Rattle.cyc_grammar.specs.Syntax.{Class}
use Rattle.cyc_grammar.specs.Classes.{keyword}

abbrev pub con_word : Class (Unit {0})
con_word = keyword (codes "con")

abbrev pub problem_word : Class (Unit {0})
problem_word = keyword (codes "foproblem")
