use Rattle.std.proofs.Common.{◌≡◌, ◌-◌, length}
use Rattle.std.specs.Prelude.{map}
use Rattle.cyc_grammar.specs.Syntax.{read_many, is_one, after}
use Rattle.cyc_grammar.specs.Giving.{with_front}
use Rattle.heap_syntax.specs.Words.{comma}
use Rattle.heap_syntax.proofs.read_atoms.more_terms.Given as goal

abbrev pub invariant-loop : goal.invariant-loop
invariant-loop g l =
    with_front (map g.F.TermForm.seen l.items.items)
    (read_many (is_one comma) (after comma (g.F.TermForm.terms l.form).syntax) (length l.fn.cursor - l.counter)
    l.cursor)
    ≡ with_front (map g.F.TermForm.seen l.fn.items.items)
    (read_many (is_one comma) (after comma (g.F.TermForm.terms l.form).syntax) (length l.fn.cursor) l.fn.cursor)
