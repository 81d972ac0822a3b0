-- How many tokens the ends of a program have, over the span of a term.
use Rattle.std.specs.Prelude.{ℕ, ◌+◌}
use Rattle.heap_syntax.specs.EndTrees.{End}
use Rattle.heap_reader.specs.Spans.{total, heap_span}

-- "ends", the number, ":" and the disjuncts, with "or" or ";" after each; nothing after it
abbrev pub end_span : {T : Type 0} → (T → ℕ) → End T → ℕ
end_span span e = 3 + total (heap_span span) e.disjuncts
