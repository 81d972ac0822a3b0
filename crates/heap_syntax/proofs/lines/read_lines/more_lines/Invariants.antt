use Rattle.std.proofs.Common.{◌≡◌, ◌-◌, length}
use Rattle.std.specs.Prelude.{map}
use Rattle.cyc_grammar.specs.Syntax.{read_many, is_one}
use Rattle.cyc_grammar.specs.Giving.{with_front}
use Rattle.heap_syntax.specs.LineTrees.{line_of}
use Rattle.heap_syntax.specs.LineGrammar.{line_word, line}
use Rattle.heap_syntax.proofs.lines.read_lines.more_lines.Given as goal

abbrev pub invariant-loop : goal.invariant-loop
invariant-loop g l =
    with_front (map (line_of g.F.VariableForm.seen) l.items.items)
    (read_many (is_one line_word) (line l.version (g.F.VariableForm.variables l.form))
    (length l.fn.cursor - l.counter) l.cursor)
    ≡ with_front (map (line_of g.F.VariableForm.seen) l.fn.items.items)
    (read_many (is_one line_word) (line l.version (g.F.VariableForm.variables l.form)) (length l.fn.cursor)
    l.fn.cursor)
