-- What the author of a problem calls things, without where it lies in memory.
use Rattle.std.specs.Prelude.{List, map}
use Rattle.std.specs.Borrow.{Bor}
use Rattle.cyc_lex.specs.declared.token.Token.{Token}
use Rattle.cyc_lex.specs.Word.{Word, word}
use Rattle.problem_syntax.specs.Names.{Name}
use Rattle.problem_syntax.specs.NameViews.{name_of}
use Rattle.proof_picture.specs.declared.names.naming.Naming.{Naming}

abbrev pub seen : Bor (List Token) → List Token
seen ts = ts.now

-- the words of a statement
abbrev pub words_of : Bor (List Token) → List Word
words_of ts = map word ts.now

-- the names of the goal's variables by their numbers, and the lines of the program in words
pub record Called : Type 0 where
  pub names : List Name
  pub lines : List (List Word)

abbrev pub naming_of : Naming → Called
naming_of n = record { names = map name_of n.names.now; lines = map words_of n.lines.now }
