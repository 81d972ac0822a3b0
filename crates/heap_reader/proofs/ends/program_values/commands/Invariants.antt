use Rattle.std.proofs.Common.{◌≡◌, ◌≤◌, ◌++◌, length, drop, map}
use Rattle.heap_formula.specs.Words.{Each}
use Rattle.heap_reader.specs.Trees.{end_of}
use Rattle.heap_reader.specs.LineSmall.{IsSmallLine}
use Rattle.heap_reader.specs.LineValues.{line_value}
use Rattle.heap_reader.specs.EndSmall.{IsSmallEnd}
use Rattle.heap_reader.specs.EndValues.{end_value, lines_with_ends}
use Rattle.heap_reader.proofs.ends.program_values.commands.Given as goal

abbrev pub invariant-loop-i : goal.invariant-loop-i
invariant-loop-i g l =
    (l.done ≤ length l.ends)
    × (l.made.items ++ lines_with_ends l.i (map (line_value g.V.VariableReader.value) (drop l.i l.lines))
    (map (end_value g.F.TermReader.value l.heads) (map end_of (drop l.done l.ends)))
    ≡ lines_with_ends 0 (map (line_value g.V.VariableReader.value) l.lines)
    (map (end_value g.F.TermReader.value l.heads) (map end_of l.ends)))
    × Each IsSmallLine (map (line_value g.V.VariableReader.value) (drop l.i l.lines))
    × Each (IsSmallEnd g.F.TermReader.value) (map end_of (drop l.done l.ends))
