use Rattle.std.proofs.Common.{◌-◌, length}
use Rattle.std.specs.Prelude.{map}
use Rattle.cyc_grammar.specs.Syntax.{is_one, after}
use Rattle.heap_syntax.specs.Words.{marked}
use Rattle.heap_syntax.specs.Trees.{heap_of}
use Rattle.heap_syntax.specs.Grammar.{kept_heap}
use Rattle.heap_syntax.proofs.KeepingLaws.{IsReading}
use Rattle.heap_syntax.proofs.read_heaps.more_heaps.Given as goal

abbrev pub invariant-loop : goal.invariant-loop
invariant-loop g l =
    IsReading l.keep (is_one (marked l.between)) (after (marked l.between)
    (kept_heap l.keep (g.F.TermForm.terms l.form) (g.F.TermForm.atoms l.form)))
    (heap_of g.F.TermForm.seen l.fn.first) l.fn.cursor (map (heap_of g.F.TermForm.seen) l.items.items)
    (length l.fn.cursor - l.counter) l.cursor
