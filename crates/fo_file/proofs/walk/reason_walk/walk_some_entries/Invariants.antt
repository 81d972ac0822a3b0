use Rattle.std.proofs.Common.{◌≡◌, ◌+◌, drop, map}
use Rattle.heap_formula.specs.Words.{Each}
use Rattle.heap_reader.specs.Spans.{total}
use Rattle.fo_syntax.specs.ProofTrees.{entry_of}
use Rattle.fo_file.specs.Parts.{IsEntry}
use Rattle.fo_file.specs.Spans.{entry_span, entry_terms}
use Rattle.fo_file.specs.Flaws.{entries_flaw}
use Rattle.fo_file.proofs.walk.reason_walk.walk_some_entries.Given as goal

abbrev pub invariant-loop-tree : goal.invariant-loop-tree
invariant-loop-tree l =
    (entries_flaw l.constructors l.reached.terms l.reached.token (map entry_of (drop l.tree-index l.trees))
    ≡ entries_flaw l.constructors l.fn.from.terms l.fn.from.token (map entry_of l.trees))
    × ((l.reached.token + total entry_span (map entry_of (drop l.tree-index l.trees))
    ≡ l.fn.from.token + total entry_span (map entry_of l.trees))
    × ((l.reached.terms + total entry_terms (map entry_of (drop l.tree-index l.trees))
    ≡ l.fn.from.terms + total entry_terms (map entry_of l.trees))
    × Each IsEntry (map entry_of (drop l.tree-index l.trees))))
