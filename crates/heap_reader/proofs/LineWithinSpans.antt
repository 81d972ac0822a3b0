-- A flaw of a line stands at a token of its part.
use Rattle.std.proofs.Common.{ℕ, suc, ◌+◌, ◌<◌, Bool, List, length, arith}
use Rattle.std.specs.Prelude.{nat_eq, nat_lt, nat_le, not, ◌&&◌, ◌||◌}
use Rattle.cyc_basics.specs.declared.limits.Limits.{Limits}
use Rattle.cyc_lex.specs.declared.fault.IllFault.TheVariants.{FallsOff, Numbering, Jump}
use Rattle.cyc_lex.specs.declared.fault.What.TheVariants.{Lines, Fields}
use Rattle.heap_syntax.specs.declared.lines.tree.OperandTree.{OperandTree}
use Rattle.heap_syntax.specs.declared.lines.tree.OperandTree.TheVariants.{Nil, Variable}
use Rattle.heap_syntax.specs.declared.lines.tree.ChangeTree.{ChangeTree}
use Rattle.heap_syntax.specs.declared.lines.tree.ChangeTree.TheVariants.{New, Assign, Load, Store}
use Rattle.heap_syntax.specs.declared.lines.tree.CommandTree.{CommandTree}
use Rattle.heap_syntax.specs.declared.lines.tree.CommandTree.TheVariants.{Stop, Goto, Free, IfAny, If, StoreAtNil}
use Rattle.heap_syntax.specs.declared.lines.tree.CommandTree.TheVariants.{Change}
use Rattle.heap_syntax.specs.declared.lines.tree.LineTree.{LineTree}
use Rattle.heap_reader.specs.Spans.{total}
use Rattle.heap_reader.specs.Flaws.{Found, ill_if, over_if, or_later}
use Rattle.heap_reader.proofs.WithinSpans.{Before, first_before, over_before, ill_before, later, listed_before}
use Rattle.heap_reader.specs.LineSpans.{operand_span, change_span, command_span, line_span}
use Rattle.heap_reader.specs.LineFlaws.{field_flaw, jump_flaw, goes_on, operand_flaw, change_flaw, branch_flaw}
use Rattle.heap_reader.specs.LineFlaws.{command_flaw, line_head_flaw, line_flaw, lines_flaw}

field_before : (most : Limits) (k n m : ℕ) → k < m → Before (field_flaw most k n) m
field_before most k n m h = over_before (nat_eq n 0 || nat_lt most.arguments n) Fields k m h

jump_before : (count k n m : ℕ) → k < m → Before (jump_flaw count k n) m
jump_before count k n m h = ill_before (nat_eq n 0 || nat_lt count n) Jump k m h

line_head_before : (count n k number m : ℕ) (follows : Bool) → k + 1 < m
    → Before (line_head_flaw count n k number follows) m
line_head_before count n k number m follows h =
    let falls = nat_eq (suc n) count && follows in
    let other = not (nat_eq number (suc n)) in
    first_before (ill_if falls FallsOff k) (or_later (over_if (nat_le 4096 n) Lines k) (ill_if other Numbering (k + 1)))
    m (ill_before falls FallsOff k m (omega arith)) (first_before (over_if (nat_le 4096 n) Lines k)
    (ill_if other Numbering (k + 1)) m (over_before (nat_le 4096 n) Lines k m (omega arith))
    (ill_before other Numbering (k + 1) m h))

module _ {V : Type 0} (flaw : ℕ → V → Found) (span : V → ℕ)
    (variable_before : (k : ℕ) (v : V) → Before (flaw k v) (k + span v)) (most : Limits) where
  operand_before : (k : ℕ) (t : OperandTree V) → Before (operand_flaw flaw span k t) (k + operand_span span t)
  operand_before k Nil = tt
  operand_before k (Variable v) = variable_before k v

  change_before : (k : ℕ) (c : ChangeTree V) → Before (change_flaw flaw span most k c) (k + change_span span c)
  change_before k (New n) = field_before most (k + 1) n (k + 3) (omega arith)
  change_before k (Assign t) = operand_before k t
  change_before k (Load t n) =
      let p = k + operand_span span t in
      let m = k + change_span span (Load t n) in
      first_before (operand_flaw flaw span k t) (field_flaw most p n) m
      (later (operand_flaw flaw span k t) p m (omega arith) (operand_before k t))
      (field_before most p n m (omega arith))
  change_before k (Store n t) =
      let m = k + change_span span (Store n t) in
      first_before (field_flaw most k n) (operand_flaw flaw span (k + 2) t) m (field_before most k n m (omega arith))
      (later (operand_flaw flaw span (k + 2) t) (k + 2 + operand_span span t) m (omega arith)
      (operand_before (k + 2) t))

  branch_before : (count k : ℕ) (t u : OperandTree V) (n : ℕ)
      → Before (branch_flaw flaw span count k t u n) (k + operand_span span t + operand_span span u + 2)
  branch_before count k t u n =
      let p = k + operand_span span t in
      let q = p + operand_span span u in
      let m = q + 2 in
      first_before (operand_flaw flaw span k t) (or_later (operand_flaw flaw span p u) (jump_flaw count q n)) m
      (later (operand_flaw flaw span k t) p m (omega arith) (operand_before k t))
      (first_before (operand_flaw flaw span p u) (jump_flaw count q n) m
      (later (operand_flaw flaw span p u) q m (omega arith) (operand_before p u))
      (jump_before count q n m (omega arith)))

  command_before : (count k : ℕ) (c : CommandTree V)
      → Before (command_flaw flaw span most count k c) (k + command_span span c)
  command_before count k Stop = tt
  command_before count k (IfAny n) = jump_before count (k + 3) n (k + 5) (omega arith)
  command_before count k (Goto n) = jump_before count (k + 1) n (k + 3) (omega arith)
  command_before count k (Free t) = later (operand_flaw flaw span (k + 1) t) (k + 1 + operand_span span t)
      (k + command_span span (Free t)) (omega arith) (operand_before (k + 1) t)
  command_before count k (If t b u n) = later (branch_flaw flaw span count (k + 1) t u n)
      (k + 1 + operand_span span t + operand_span span u + 2) (k + command_span span (If t b u n)) (omega arith)
      (branch_before count (k + 1) t u n)
  command_before count k (StoreAtNil n t) =
      let m = k + command_span span (StoreAtNil n t) in
      first_before (field_flaw most (k + 2) n) (operand_flaw flaw span (k + 4) t) m
      (field_before most (k + 2) n m (omega arith))
      (later (operand_flaw flaw span (k + 4) t) (k + 4 + operand_span span t) m (omega arith)
      (operand_before (k + 4) t))
  command_before count k (Change v c) =
      let p = k + span v in
      let m = k + command_span span (Change v c) in
      first_before (flaw k v) (change_flaw flaw span most p c) m (later (flaw k v) p m (omega arith)
      (variable_before k v))
      (later (change_flaw flaw span most p c) (p + change_span span c) m (omega arith) (change_before p c))

  line_before : (count n k : ℕ) (l : LineTree V) → Before (line_flaw flaw span most count n k l) (k + line_span span l)
  line_before count n k l =
      let m = k + line_span span l in
      let c = command_flaw flaw span most count (k + 3) l.command in
      first_before (line_head_flaw count n k l.number (goes_on l.command)) c m
      (line_head_before count n k l.number m (goes_on l.command) (omega arith))
      (later c (k + 3 + command_span span l.command) m (omega arith) (command_before count (k + 3) l.command))

  pub lines_before : (k : ℕ) (ls : List (LineTree V))
      → Before (lines_flaw flaw span most k ls) (k + total (line_span span) ls)
  lines_before k ls = listed_before (line_flaw flaw span most (length ls)) (line_span span) (line_before (length ls)) 0
      k ls
