-- The first flaw of a program's ends, each part of which begins at token k.
use Rattle.std.specs.Prelude.{ℕ, ◌+◌, Bool, true, false, not, nat_le, List, [], ◌∷◌, Option, Some, None}
use Rattle.heap_formula.specs.Programs.{counted_from_one}
use Rattle.cyc_basics.specs.declared.limits.Limits.{Limits}
use Rattle.cyc_lex.specs.declared.fault.IllFault.TheVariants.{NoLine, Numbering}
use Rattle.cyc_lex.specs.declared.fault.What.TheVariants.{Disjuncts}
use Rattle.heap_syntax.specs.declared.lines.tree.CommandTree.{CommandTree}
use Rattle.heap_syntax.specs.declared.lines.tree.CommandTree.TheVariants.{Stop}
use Rattle.heap_syntax.specs.declared.lines.tree.LineTree.{LineTree}
use Rattle.heap_syntax.specs.EndTrees.{End}
use Rattle.heap_reader.specs.Trees.{Heading}
use Rattle.heap_reader.specs.EndSpans.{end_span}
use Rattle.heap_reader.specs.Flaws.{Found, ill_if, or_later, heaps_flaw}

abbrev pub is_stop : {V : Type 0} → CommandTree V → Bool
is_stop Stop = true
is_stop c = false

abbrev pub stops_there : {V : Type 0} → Option (LineTree V) → Bool
stops_there None = false
stops_there (Some l) = is_stop l.command

-- line n of these, counted from 1, is "stop"
abbrev pub stops_at : {V : Type 0} → List (LineTree V) → ℕ → Bool
stops_at ls n = stops_there (counted_from_one ls n)

-- the number of an end, where it may stand at these lines: one of them, and above the number of the end before, which
-- is 0 where none stands before
abbrev pub end_head_flaw : (ℕ → Bool) → ℕ → ℕ → ℕ → Found
end_head_flaw stops before k n =
    or_later (ill_if (not (stops n)) NoLine (k + 1)) (ill_if (nat_le n before) Numbering (k + 1))

-- over the flaw and the span of a term, and what the version allows
module _ {T : Type 0} (flaw : ℕ → T → Found) (span : T → ℕ) (most : Limits) (hs : List Heading) (stops : ℕ → Bool) where
  abbrev pub end_flaw : ℕ → ℕ → End T → Found
  end_flaw before k e = or_later (end_head_flaw stops before k e.number)
      (heaps_flaw flaw span most hs Disjuncts (k + 3) e.disjuncts)

  abbrev pub ends_flaw : ℕ → ℕ → List (End T) → Found
  ends_flaw before k [] = None
  ends_flaw before k (e ∷ es) = or_later (end_flaw before k e) (ends_flaw e.number (k + end_span span e) es)
