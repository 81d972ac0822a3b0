use Rattle.std.proofs.Common.{◌-◌, length}
use Rattle.std.specs.Prelude.{map}
use Rattle.cyc_grammar.specs.Syntax.{is_one, after}
use Rattle.heap_syntax.specs.Words.{comma}
use Rattle.heap_syntax.specs.Trees.{pure_of}
use Rattle.heap_syntax.specs.Grammar.{pure}
use Rattle.heap_syntax.proofs.KeepingLaws.{IsReading}
use Rattle.heap_syntax.proofs.read_atoms.more_pures.Given as goal

abbrev pub invariant-loop : goal.invariant-loop
invariant-loop g l =
    IsReading l.keep (is_one comma) (after comma (pure (g.F.TermForm.terms l.form).syntax))
    (pure_of g.F.TermForm.seen l.fn.first) l.fn.cursor (map (pure_of g.F.TermForm.seen) l.items.items)
    (length l.fn.cursor - l.counter) l.cursor
