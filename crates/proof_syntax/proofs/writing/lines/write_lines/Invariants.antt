use Rattle.std.proofs.Common.{◌≡◌, drop}
use Rattle.std.specs.Prelude.{map}
use Rattle.cyc_lex.specs.Writing.{write_all}
use Rattle.cyc_grammar.specs.Syntax.{words_many, fits_many}
use Rattle.heap_syntax.specs.LineTrees.{line_of}
use Rattle.heap_syntax.specs.LineGrammar.{line}
use Rattle.proof_syntax.proofs.writing.lines.write_lines.Given as goal

abbrev pub invariant-loop-tree : goal.invariant-loop-tree
invariant-loop-tree g l =
    (write_all l.writer (words_many (line l.version (g.F.VariableForm.variables l.form))
    (map (line_of g.F.VariableForm.seen) (drop l.tree-index l.trees)))
    ≡ write_all l.fn.writer (words_many (line l.version (g.F.VariableForm.variables l.form))
    (map (line_of g.F.VariableForm.seen) l.trees)))
    × fits_many (line l.version (g.F.VariableForm.variables l.form))
    (map (line_of g.F.VariableForm.seen) (drop l.tree-index l.trees))
