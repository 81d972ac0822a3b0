use Rattle.std.proofs.Common.{◌-◌, length}
use Rattle.std.specs.Prelude.{map}
use Rattle.cyc_grammar.specs.Syntax.{is_one, after}
use Rattle.heap_syntax.specs.Words.{star}
use Rattle.heap_syntax.specs.Trees.{spatial_of}
use Rattle.heap_syntax.proofs.KeepingLaws.{IsReading}
use Rattle.heap_syntax.proofs.read_heaps.more_spatials.Given as goal

abbrev pub invariant-loop : goal.invariant-loop
invariant-loop g l =
    IsReading l.keep (is_one star) (after star ((g.F.TermForm.atoms l.form))) (spatial_of g.F.TermForm.seen l.fn.first)
    l.fn.cursor (map (spatial_of g.F.TermForm.seen) l.items.items) (length l.fn.cursor - l.counter) l.cursor
