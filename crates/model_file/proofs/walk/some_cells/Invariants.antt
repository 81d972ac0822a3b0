use Rattle.std.proofs.Common.{◌≡◌, ◌+◌, drop, map}
use Rattle.heap_reader.specs.Spans.{total}
use Rattle.heap_reader.specs.Flaws.{listed_flaw}
use Rattle.model_file.specs.Trees.{cell_of}
use Rattle.model_file.specs.Spans.{cell_span}
use Rattle.model_file.specs.Flaws.{cell_flaw, cells_flaw}
use Rattle.model_file.proofs.walk.some_cells.Given as goal

abbrev pub invariant-loop-n : goal.invariant-loop-n
invariant-loop-n l =
    (listed_flaw (cell_flaw l.most (map cell_of l.trees)) cell_span l.n l.next (map cell_of (drop l.n l.trees))
    ≡ cells_flaw l.most l.fn.at (map cell_of l.trees)) × (l.next + total cell_span (map cell_of (drop l.n l.trees))
    ≡ l.fn.at + total cell_span (map cell_of l.trees))
