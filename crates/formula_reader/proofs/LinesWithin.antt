-- The commands of a problem's text are commands of its version, and name fields that cells may have.
use Rattle.std.proofs.Common.{◌≡◌, ℕ, suc, ◌+◌, ◌≤◌, Bool, true, false, List, [], ◌∷◌, length, map, None, refl, inl}
use Rattle.std.specs.Prelude.{nat_eq, nat_lt, ◌||◌}
use Rattle.std.proofs.lemmas.Bool.{or_parts}
use Rattle.cyc_basics.specs.declared.limits.Limits.{Limits}
use Rattle.heap_formula.specs.Words.{Each}
use Rattle.cyc_lex.specs.declared.fault.What.TheVariants.{Fields}
use Rattle.cyc_grammar.specs.Syntax.{one}
use Rattle.heap_syntax.specs.Words.{free_name}
use Rattle.heap_syntax.specs.declared.version.Version.{Version}
use Rattle.heap_syntax.specs.declared.lines.tree.ChangeTree.{ChangeTree}
use Rattle.heap_syntax.specs.declared.lines.tree.ChangeTree.TheVariants as changes
use Rattle.heap_syntax.specs.declared.lines.tree.CommandTree.{CommandTree}
use Rattle.heap_syntax.specs.declared.lines.tree.CommandTree.TheVariants.{Stop, Goto, Free, IfAny, If, StoreAtNil}
use Rattle.heap_syntax.specs.declared.lines.tree.CommandTree.TheVariants.{Change}
use Rattle.heap_syntax.specs.LineTrees.{operand_of, change_of, command_of}
use Rattle.heap_syntax.specs.LineGrammar as syntax
use Rattle.problem_syntax.specs.Trees as named
use Rattle.problem_syntax.specs.Grammar.{lines}
use Rattle.heap_reader.specs.LineValues.{change_value, command_value, variable_value, program_value}
use Rattle.heap_reader.specs.LineSpans.{operand_span, line_span}
use Rattle.heap_reader.specs.Flaws.{listed_flaw}
use Rattle.heap_reader.specs.LineFlaws.{field_flaw, goes_on, operand_flaw, change_flaw, command_flaw, line_head_flaw}
use Rattle.heap_reader.specs.LineFlaws.{line_flaw, lines_flaw}
use Rattle.heap_reader.proofs.NoFlaw.{neither, not_over, at_most}
use Rattle.problem_syntax.specs.Names.{Name, place_of}
use Rattle.problem_syntax.specs.Occurrences.{plain}
use Rattle.problem_syntax.specs.Numbering as numbers
use Rattle.formula_reader.specs.Spans.{variable_span}
use Rattle.formula_reader.specs.Flaws.{variable_flaw}
use Rattle.formula_reader.specs.Within.{IsCommandOf}

free_known : (free : Bool) (n : ℕ) → (syntax.behind_if free (one free_name)).fits (inl n) → free ≡ true
unfolding syntax.behind_if
free_known true n f = refl
free_known false n f = absurd f.0

-- what no flaw says of a number of fields, or of a field
field_few : (limit : Limits) (k n : ℕ) → field_flaw limit k n ≡ None → n ≤ limit.arguments
field_few limit k n e =
    let narrow = limit.arguments in
    at_most narrow n (or_parts (nat_eq n 0) (nat_lt narrow n) (not_over (nat_eq n 0 || nat_lt narrow n) Fields k e)).1

module _ (version : Version) (limit : Limits) (number : List ℕ → ℕ) (count : ℕ) where
  change_known : (k v : ℕ) (c : ChangeTree (List ℕ))
      → change_flaw variable_flaw variable_span limit k (change_of number c) ≡ None
      → IsCommandOf version limit (change_value variable_value v (change_of number c))
  change_known k v (changes.New n) e = field_few limit (k + 1) n e
  change_known k v (changes.Assign t) e = tt
  change_known k v (changes.Load t n) e =
      let u = operand_of number t in
      let at = k + operand_span variable_span u in
      field_few limit at n (neither (operand_flaw variable_flaw variable_span k u) (field_flaw limit at n) e).1
  change_known k v (changes.Store n t) e =
      field_few limit k n (neither (field_flaw limit k n)
      (operand_flaw variable_flaw variable_span (k + 2) (operand_of number t)) e).0

  command_known : (k : ℕ) (c : CommandTree (List ℕ)) → (syntax.command version (one free_name)).fits c
      → command_flaw variable_flaw variable_span limit count k (command_of number c) ≡ None
      → IsCommandOf version limit (command_value variable_value (command_of number c))
  unfolding syntax.command
  command_known k Stop f e = tt
  command_known k (Goto n) f e = tt
  command_known k (Free t) f e = tt
  command_known k (IfAny n) f e = free_known (syntax.has_free_branches version) n f.1
  command_known k (If t true u n) f e = tt
  command_known k (If t false u n) f e = tt
  command_known k (StoreAtNil n t) f e =
      field_few limit (k + 2) n (neither (field_flaw limit (k + 2) n)
      (operand_flaw variable_flaw variable_span (k + 4) (operand_of number t)) e).0
  command_known k (Change v c) f e =
      let at = k + variable_span (number v) in
      change_known at (number v) c (neither (variable_flaw k (number v))
      (change_flaw variable_flaw variable_span limit at (change_of number c)) e).1

module _ (version : Version) (limit : Limits) (vs : List Name) (count : ℕ) where
  each_known : (n k : ℕ) (ls : List named.Line) → (lines version).fits ls
      → listed_flaw (line_flaw variable_flaw variable_span limit count) (line_span variable_span) n k
      (map (numbers.line vs) ls) ≡ None
      → Each (IsCommandOf version limit) (program_value (map (numbers.line vs) ls))
  unfolding syntax.lines syntax.line
  each_known n k [] f e = tt
  each_known n k (l ∷ ls) f e =
      let number = λ (s : List ℕ). place_of vs (plain s) in
      let m = numbers.line vs l in
      let next = k + line_span variable_span m in
      let a = neither (line_flaw variable_flaw variable_span limit count n k m)
      (listed_flaw (line_flaw variable_flaw variable_span limit count) (line_span variable_span) (suc n) next
      (map (numbers.line vs) ls)) e in
      let b = neither (line_head_flaw count n k l.number (goes_on m.command))
      (command_flaw variable_flaw variable_span limit count (k + 3) m.command) a.0 in
      (command_known version limit number count (k + 3) l.command f.0.1.1 b.1, each_known (suc n) next ls f.1 a.1)

pub lines_known : (version : Version) (limit : Limits) (vs : List Name) (ls : List named.Line) → (lines version).fits ls
    → (k : ℕ) → lines_flaw variable_flaw variable_span limit k (map (numbers.line vs) ls) ≡ None
    → Each (IsCommandOf version limit) (program_value (map (numbers.line vs) ls))
lines_known version limit vs ls f k e = each_known version limit vs (length (map (numbers.line vs) ls)) 0 k ls f e
