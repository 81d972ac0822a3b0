use Rattle.std.proofs.Common.{◌≡◌, ◌-◌, length}
use Rattle.std.specs.Prelude.{map}
use Rattle.cyc_grammar.specs.Syntax.{read_many, is_one}
use Rattle.cyc_grammar.specs.Giving.{with_front}
use Rattle.heap_syntax.specs.EndTrees.{end_of}
use Rattle.heap_syntax.specs.EndGrammar.{ends_word, end}
use Rattle.heap_syntax.proofs.ends.read_ends.more_ends.Given as goal

abbrev pub invariant-loop : goal.invariant-loop
invariant-loop g l =
    with_front (map (end_of g.F.TermForm.seen) l.items.items)
    (read_many (is_one ends_word) (end (g.F.TermForm.terms l.form) (g.F.TermForm.atoms l.form))
    (length l.fn.cursor - l.counter) l.cursor)
    ≡ with_front (map (end_of g.F.TermForm.seen) l.fn.items.items)
    (read_many (is_one ends_word) (end (g.F.TermForm.terms l.form) (g.F.TermForm.atoms l.form))
    (length l.fn.cursor) l.fn.cursor)
