-- The first flaw of a program's lines, each part of which begins at token k.
use Rattle.std.specs.Prelude.{ℕ, suc, ◌+◌, Bool, true, false, not, ◌&&◌, ◌||◌, nat_eq, nat_lt, nat_le, List, length}
use Rattle.std.specs.Prelude.{None}
use Rattle.cyc_basics.specs.declared.limits.Limits.{Limits}
use Rattle.cyc_basics.specs.declared.limits.TheConstants.{MOST_LINES}
use Rattle.cyc_lex.specs.declared.fault.IllFault.TheVariants.{Numbering, Jump, FallsOff}
use Rattle.cyc_lex.specs.declared.fault.What.TheVariants.{Lines, Fields}
use Rattle.heap_syntax.specs.declared.lines.tree.OperandTree.{OperandTree}
use Rattle.heap_syntax.specs.declared.lines.tree.OperandTree.TheVariants.{Nil, Variable}
use Rattle.heap_syntax.specs.declared.lines.tree.ChangeTree.{ChangeTree}
use Rattle.heap_syntax.specs.declared.lines.tree.ChangeTree.TheVariants.{New, Assign, Load, Store}
use Rattle.heap_syntax.specs.declared.lines.tree.CommandTree.{CommandTree}
use Rattle.heap_syntax.specs.declared.lines.tree.CommandTree.TheVariants.{Stop, Goto, Free, IfAny, If, StoreAtNil}
use Rattle.heap_syntax.specs.declared.lines.tree.CommandTree.TheVariants.{Change}
use Rattle.heap_syntax.specs.declared.lines.tree.LineTree.{LineTree}
use Rattle.heap_reader.specs.LineSpans.{operand_span, line_span}
use Rattle.heap_reader.specs.Flaws.{Found, ill_if, over_if, or_later, listed_flaw}

-- a number of fields, or of a field, is at least 1, and at most as many as a cell may have
abbrev pub field_flaw : Limits → ℕ → ℕ → Found
field_flaw most k n = over_if (nat_eq n 0 || nat_lt most.arguments n) Fields k

-- a jump leads to one of so many lines
abbrev pub jump_flaw : ℕ → ℕ → ℕ → Found
jump_flaw count k n = ill_if (nat_eq n 0 || nat_lt count n) Jump k

-- after the command the next line may follow
abbrev pub goes_on : {V : Type 0} → CommandTree V → Bool
goes_on Stop = false
goes_on (Goto n) = false
goes_on (Free t) = true
goes_on (If t b u n) = true
goes_on (IfAny n) = true
goes_on (StoreAtNil n t) = true
goes_on (Change v c) = true

-- the number of the line at place n, from 0, of so many lines, after which the next may follow or not: the last may not
-- fall off; at most 4,096; the number is the place counted from 1
abbrev pub line_head_flaw : ℕ → ℕ → ℕ → ℕ → Bool → Found
line_head_flaw count n k number follows =
    or_later (ill_if (nat_eq (suc n) count && follows) FallsOff k)
    (or_later (over_if (nat_le MOST_LINES n) Lines k) (ill_if (not (nat_eq number (suc n))) Numbering (k + 1)))

-- over the flaw and the span of a variable
module _ {V : Type 0} (flaw : ℕ → V → Found) (span : V → ℕ) where
  abbrev pub operand_flaw : ℕ → OperandTree V → Found
  operand_flaw k Nil = None
  operand_flaw k (Variable v) = flaw k v

  -- the operands of a test, and the line to which it may lead, one of so many
  abbrev pub branch_flaw : ℕ → ℕ → OperandTree V → OperandTree V → ℕ → Found
  branch_flaw count k t u n =
      or_later (operand_flaw k t) (or_later (operand_flaw (k + operand_span span t) u)
      (jump_flaw count (k + operand_span span t + operand_span span u) n))

  -- within what the version allows
  module _ (most : Limits) where
    -- what stands after a variable and the word after it
    abbrev pub change_flaw : ℕ → ChangeTree V → Found
    change_flaw k (New n) = field_flaw most (k + 1) n
    change_flaw k (Assign t) = operand_flaw k t
    change_flaw k (Load t n) = or_later (operand_flaw k t) (field_flaw most (k + operand_span span t) n)
    change_flaw k (Store n t) = or_later (field_flaw most k n) (operand_flaw (k + 2) t)

    -- a command of a program with so many lines
    abbrev pub command_flaw : ℕ → ℕ → CommandTree V → Found
    command_flaw count k Stop = None
    command_flaw count k (IfAny n) = jump_flaw count (k + 3) n
    command_flaw count k (Goto n) = jump_flaw count (k + 1) n
    command_flaw count k (Free t) = operand_flaw (k + 1) t
    command_flaw count k (If t b u n) = branch_flaw count (k + 1) t u n
    command_flaw count k (StoreAtNil n t) = or_later (field_flaw most (k + 2) n) (operand_flaw (k + 4) t)
    command_flaw count k (Change v c) = or_later (flaw k v) (change_flaw (k + span v) c)

    abbrev pub line_flaw : ℕ → ℕ → ℕ → LineTree V → Found
    line_flaw count n k l = or_later (line_head_flaw count n k l.number (goes_on l.command))
        (command_flaw count (k + 3) l.command)

    abbrev pub lines_flaw : ℕ → List (LineTree V) → Found
    lines_flaw k ls = listed_flaw (line_flaw (length ls)) (line_span span) 0 k ls
