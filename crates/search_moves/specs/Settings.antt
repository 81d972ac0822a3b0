-- What a setting assumes.
use Rattle.std.specs.Prelude.{List, Bool}
use Rattle.heap_formula.specs.declared.commands.Command.{Command}
use Rattle.heap_formula.specs.declared.proof_rules.Rule.{Rule}
use Rattle.pred_defs.specs.Book.{DefinitionBook}
use Rattle.search_moves.specs.declared.setting.GoalSetting.{GoalSetting}
use Rattle.search_moves.specs.Trying.{Theory, is_applicable}

-- the theory of a book of definitions and a program's lines
abbrev pub theory : DefinitionBook → List Command → Theory
theory book lines = record { most = book.most; definitions = book.list; lines = lines }

abbrev pub theory_of : GoalSetting → Theory
theory_of at = theory at.defs.now at.program.now

-- the rule has no fault at the judgement
abbrev pub goes_at : GoalSetting → Rule → Bool
goes_at at rule = is_applicable (theory_of at) at.judgement.now rule
