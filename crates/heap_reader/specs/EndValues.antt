-- What ends as trees say, and programs with their ends and without.
use Rattle.std.specs.Prelude.{ℕ, ◌+◌, List, [], ◌∷◌, map, nat_eq, if◌then◌else◌}
use Rattle.heap_formula.specs.declared.terms.Term.{Term}
use Rattle.heap_formula.specs.declared.commands.Command.{Command}
use Rattle.heap_formula.specs.declared.commands.Command.TheVariants.{Stop, Ends}
use Rattle.heap_formula.specs.Symbolic.{SymbolicHeap}
use Rattle.heap_syntax.specs.declared.lines.tree.LineTree.{LineTree}
use Rattle.heap_syntax.specs.EndTrees.{End}
use Rattle.heap_reader.specs.Trees.{Heading}
use Rattle.heap_reader.specs.Values.{heap_value}
use Rattle.heap_reader.specs.LineValues.{program_value}

-- an end: the number of its line, counted from 1, and its disjuncts
abbrev pub LineEnd : Type 0
LineEnd = ℕ × List SymbolicHeap

-- over the value of a term
abbrev pub end_value : {T : Type 0} → (T → Term) → List Heading → End T → LineEnd
end_value value hs e = (e.number, map (heap_value value hs) e.disjuncts)

-- ---- the commands of lines with ends in place of their own; the ends stand in the order of their lines

-- the command of line i, and the ends of later lines
abbrev pub line_with_end : ℕ → Command → List LineEnd → Command × List LineEnd
line_with_end i c [] = (c, [])
line_with_end i c (e ∷ es) = if nat_eq e.0 i then (Ends e.1, es) else (c, e ∷ es)

-- n lines stand before
abbrev pub with_ends_behind : ℕ → List Command → List LineEnd → List Command
with_ends_behind n [] es = []
with_ends_behind n (c ∷ cs) es =
    (line_with_end (n + 1) c es).0 ∷ with_ends_behind (n + 1) cs (line_with_end (n + 1) c es).1

abbrev pub with_ends : List Command → List LineEnd → List Command
with_ends cs es = with_ends_behind 0 cs es

-- the same of commands with their lines' numbers
abbrev pub lines_with_ends : ℕ → List (ℕ × Command) → List LineEnd → List (ℕ × Command)
lines_with_ends n [] es = []
lines_with_ends n (l ∷ ls) es =
    (l.0, (line_with_end (n + 1) l.1 es).0) ∷ lines_with_ends (n + 1) ls (line_with_end (n + 1) l.1 es).1

-- ---- the ends of a program, in the order of their lines

abbrev pub with_end : ℕ → Command → List LineEnd → List LineEnd
with_end n (Ends bs) es = (n, bs) ∷ es
with_end n c es = es

abbrev pub ends_behind : ℕ → List Command → List LineEnd
ends_behind n [] = []
ends_behind n (c ∷ cs) = with_end (n + 1) c (ends_behind (n + 1) cs)

abbrev pub ends_of : List Command → List LineEnd
ends_of cs = ends_behind 0 cs

-- a line without its end
abbrev pub bare : Command → Command
bare (Ends bs) = Stop
bare c = c

-- ---- the commands of lines with these ends

abbrev pub ended_value : {T : Type 0} → (T → Term) → List Heading → List (LineTree ℕ) → List (End T) → List Command
ended_value value hs ls es = with_ends (program_value ls) (map (end_value value hs) es)
