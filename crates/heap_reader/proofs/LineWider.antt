-- Lines without a flaw have none where more fields are allowed.
use Rattle.std.proofs.Common.{◌≡◌, ℕ, ◌+◌, List, length, None, ap, arith}
use Rattle.std.specs.Prelude.{◌||◌, nat_eq, nat_lt}
use Rattle.std.proofs.lemmas.Bool.{ltb-false, le-ltb}
use Rattle.cyc_basics.specs.Limits.{AreWithin}
use Rattle.cyc_basics.specs.declared.limits.Limits.{Limits}
use Rattle.cyc_lex.specs.declared.fault.What.TheVariants.{Fields}
use Rattle.heap_syntax.specs.declared.lines.tree.ChangeTree.{ChangeTree}
use Rattle.heap_syntax.specs.declared.lines.tree.ChangeTree.TheVariants.{New, Assign, Load, Store}
use Rattle.heap_syntax.specs.declared.lines.tree.CommandTree.{CommandTree}
use Rattle.heap_syntax.specs.declared.lines.tree.CommandTree.TheVariants.{Stop, Goto, Free, IfAny, If, StoreAtNil}
use Rattle.heap_syntax.specs.declared.lines.tree.CommandTree.TheVariants.{Change}
use Rattle.heap_syntax.specs.declared.lines.tree.LineTree.{LineTree}
use Rattle.heap_reader.specs.LineSpans.{operand_span, line_span}
use Rattle.heap_reader.specs.Flaws.{Found, over_if}
use Rattle.heap_reader.specs.LineFlaws.{field_flaw, goes_on, operand_flaw, change_flaw, command_flaw, line_head_flaw}
use Rattle.heap_reader.specs.LineFlaws.{line_flaw, lines_flaw}
use Rattle.heap_reader.proofs.NoFlaw.{neither, none_later, not_over}
use Rattle.heap_reader.proofs.Programs.{or_left, or_right, neither_true}
use Rattle.heap_reader.proofs.Wider.{listed_wider}

module _ {V : Type 0} (flaw : ℕ → V → Found) (span : V → ℕ) (most more : Limits) (within : AreWithin most more) where
  field_wider : (k n : ℕ) → field_flaw most k n ≡ None → field_flaw more k n ≡ None
  field_wider k n e =
      let right = not_over (nat_eq n 0 || nat_lt most.arguments n) Fields k e in
      let few = ltb-false most.arguments n (or_right (nat_eq n 0) (nat_lt most.arguments n) right) in
      ap (λ b. over_if b Fields k) (neither_true (nat_eq n 0) (nat_lt more.arguments n)
      (or_left (nat_eq n 0) (nat_lt most.arguments n) right)
      (le-ltb more.arguments n (omega (arith, few, within.arguments))))

  change_wider : (k : ℕ) (c : ChangeTree V) → change_flaw flaw span most k c ≡ None
      → change_flaw flaw span more k c ≡ None
  change_wider k (New n) e = field_wider (k + 1) n e
  change_wider k (Assign t) e = e
  change_wider k (Load t n) e =
      let p = k + operand_span span t in
      let both = neither (operand_flaw flaw span k t) (field_flaw most p n) e in
      none_later (operand_flaw flaw span k t) (field_flaw more p n) both.0 (field_wider p n both.1)
  change_wider k (Store n t) e =
      let both = neither (field_flaw most k n) (operand_flaw flaw span (k + 2) t) e in
      none_later (field_flaw more k n) (operand_flaw flaw span (k + 2) t) (field_wider k n both.0) both.1

  command_wider : (count k : ℕ) (c : CommandTree V) → command_flaw flaw span most count k c ≡ None
      → command_flaw flaw span more count k c ≡ None
  command_wider count k Stop e = e
  command_wider count k (IfAny n) e = e
  command_wider count k (Goto n) e = e
  command_wider count k (Free t) e = e
  command_wider count k (If t b u n) e = e
  command_wider count k (StoreAtNil n t) e =
      let both = neither (field_flaw most (k + 2) n) (operand_flaw flaw span (k + 4) t) e in
      none_later (field_flaw more (k + 2) n) (operand_flaw flaw span (k + 4) t) (field_wider (k + 2) n both.0) both.1
  command_wider count k (Change v c) e =
      let both = neither (flaw k v) (change_flaw flaw span most (k + span v) c) e in
      none_later (flaw k v) (change_flaw flaw span more (k + span v) c) both.0 (change_wider (k + span v) c both.1)

  line_wider : (count n k : ℕ) (l : LineTree V) → line_flaw flaw span most count n k l ≡ None
      → line_flaw flaw span more count n k l ≡ None
  line_wider count n k l e =
      let head = line_head_flaw count n k l.number (goes_on l.command) in
      let both = neither head (command_flaw flaw span most count (k + 3) l.command) e in
      none_later head (command_flaw flaw span more count (k + 3) l.command) both.0
      (command_wider count (k + 3) l.command both.1)

  pub lines_allowed : (k : ℕ) (ls : List (LineTree V)) → lines_flaw flaw span most k ls ≡ None
      → lines_flaw flaw span more k ls ≡ None
  lines_allowed k ls e = listed_wider (line_flaw flaw span most (length ls)) (line_flaw flaw span more (length ls))
      (line_span span) (line_wider (length ls)) 0 k ls e
