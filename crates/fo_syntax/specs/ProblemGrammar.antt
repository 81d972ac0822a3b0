-- The grammar of theories, sequents and problem files of first-order logic.
use Rattle.std.specs.Prelude.{ℕ, Bool, true, false, List, []}
use Rattle.cyc_grammar.specs.Syntax.{Syntax, Class, one, seq, many, shaped, after, before, is_one, uncons, or_empty}
use Rattle.cyc_grammar.specs.Classes.{the_end, number}
use Rattle.heap_syntax.specs.Grammar.{Any, cons, IsSome}
use Rattle.heap_syntax.specs.Words.{true_word, pred_word, last_word, cyclist_word, comma, semicolon, bar, turnstile}
use Rattle.heap_syntax.specs.Words.{opening, closing, opening_brace, closing_brace, goal_word}
use Rattle.fo_syntax.specs.Words.{false_word, free_name}
use Rattle.fo_syntax.specs.Trees.{Atom}
use Rattle.fo_syntax.specs.Grammar.{atom}
use Rattle.heap_syntax.specs.Versions.{first_version}
use Rattle.fo_syntax.specs.ProblemWords.{con_word, problem_word}
use Rattle.fo_syntax.specs.Lists.{list_of}
use Rattle.fo_syntax.specs.ProblemTrees.{Constructor, Definition, Sequent, Problem}

-- ---- atoms = foatom { "," foatom }, left = "true" | atoms, right = "false" | atoms

unfoldable pub atoms : Bool → Syntax (List Atom)
atoms locals = list_of comma (atom locals)

unfoldable pub atoms_or : Class (Unit {0}) → Bool → Syntax (List Atom)
atoms_or none locals = or_empty none (atoms locals)

abbrev pub left : Bool → Syntax (List Atom)
left locals = atoms_or true_word locals

abbrev pub right : Syntax (List Atom)
right = atoms_or false_word false

-- ---- con = "con" name number ";"

abbrev pub to_constructor : List ℕ × ℕ → Constructor
to_constructor p = record { name = p.0; arguments = p.1 }

abbrev pub from_constructor : Constructor → List ℕ × ℕ
from_constructor c = (c.name, c.arguments)

unfoldable pub con : Syntax Constructor
con = shaped {A = List ℕ × ℕ} to_constructor from_constructor Any
    (after con_word (seq (one free_name) (before (one number) semicolon)))

-- ---- fopred = "pred" name "(" number ")" "{" left { "|" left } "}" ";"

unfoldable pub cases : Syntax (List (List Atom))
cases = before (list_of bar (left true)) closing_brace

abbrev pub to_definition : List ℕ × (ℕ × List (List Atom)) → Definition
to_definition p = record { name = p.0; arity = p.1.0; cases = p.1.1 }

abbrev pub from_definition : Definition → List ℕ × (ℕ × List (List Atom))
from_definition d = (d.name, (d.arity, d.cases))

unfoldable pub definition : Syntax Definition
definition = shaped {A = List ℕ × (ℕ × List (List Atom))} to_definition from_definition Any
    (after pred_word (seq (one free_name) (after opening (seq (one number)
    (after closing (after opening_brace (before cases semicolon)))))))

-- ---- sequent = left "|-" right

abbrev pub to_sequent : List Atom × List Atom → Sequent
to_sequent p = record { left = p.0; right = p.1 }

abbrev pub from_sequent : Sequent → List Atom × List Atom
from_sequent s = (s.left, s.right)

unfoldable pub sequent : Syntax Sequent
sequent = shaped {A = List Atom × List Atom} to_sequent from_sequent Any (seq (left false) (after turnstile right))

-- ---- con { con } { fopred }

abbrev pub some_constructor : Constructor
some_constructor = record { name = []; arguments = 0 }

unfoldable pub constructors : Syntax (List Constructor)
constructors = shaped {A = Constructor × List Constructor} cons (uncons some_constructor) IsSome
    (seq con (many (is_one con_word) con))

unfoldable pub definitions : Syntax (List Definition)
definitions = many (is_one pred_word) definition

-- ---- foprob = "cyclist" "foproblem" "1" ";" con { con } { fopred } "goal" sequent ";" "end" ";", and the end of the text

abbrev pub to_problem : List Constructor × (List Definition × Sequent) → Problem
to_problem p = record { constructors = p.0; definitions = p.1.0; goal = p.1.1 }

abbrev pub from_problem : Problem → List Constructor × (List Definition × Sequent)
from_problem p = (p.constructors, (p.definitions, p.goal))

-- "goal" sequent ";" "end" ";"
unfoldable pub goal : Syntax Sequent
goal = after goal_word (before (before (before sequent semicolon) last_word) semicolon)

unfoldable pub problem_body : Syntax Problem
problem_body = shaped {A = List Constructor × (List Definition × Sequent)} to_problem from_problem Any
    (after cyclist_word (after problem_word (after first_version
    (after semicolon (seq constructors (seq definitions goal))))))

unfoldable pub problem : Syntax Problem
problem = before problem_body the_end
