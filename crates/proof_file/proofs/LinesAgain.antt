-- Lines and ends without a flaw are written as they are, and a program is what its lines and its ends say.
use Rattle.std.proofs.Common.{◌≡◌, ℕ, suc, ◌+◌, true, false, List, [], ◌∷◌, map, length, None, refl, ap, subst, ◌∙◌}
use Rattle.std.proofs.Common.{arith}
use Rattle.std.specs.Prelude.{◌&&◌, not, nat_eq, nat_le}
use Rattle.cyc_basics.specs.declared.limits.Limits.{Limits}
use Rattle.cyc_basics.proofs.Tests.{equal_numbers}
use Rattle.heap_formula.specs.declared.terms.Term.{Term}
use Rattle.heap_formula.specs.declared.terms.Term.TheVariants as terms
use Rattle.heap_formula.specs.declared.commands.Command.{Command}
use Rattle.heap_formula.specs.declared.commands.Command.TheVariants as commands
use Rattle.heap_formula.specs.Definitions.{Definition as DefinitionValue}
use Rattle.rule_table.specs.Tests.{is_universal}
use Rattle.cyc_lex.specs.declared.fault.IllFault.TheVariants.{FallsOff, Numbering}
use Rattle.cyc_lex.specs.declared.fault.What.TheVariants.{Lines}
use Rattle.cyc_lex.proofs.BoolParts.{and-parts}
use Rattle.cyc_grammar.specs.Classes.{is_free_name}
use Rattle.heap_syntax.specs.declared.version.Version.{Version}
use Rattle.heap_syntax.specs.Words.{reserved}
use Rattle.heap_syntax.specs.NumberedEnds.{ends}
use Rattle.heap_syntax.specs.declared.lines.tree.OperandTree.{OperandTree}
use Rattle.heap_syntax.specs.declared.lines.tree.OperandTree.TheVariants as operands
use Rattle.heap_syntax.specs.declared.lines.tree.ChangeTree.TheVariants as changes
use Rattle.heap_syntax.specs.declared.lines.tree.CommandTree.{CommandTree}
use Rattle.heap_syntax.specs.declared.lines.tree.CommandTree.TheVariants.{Stop, Goto, Free, IfAny, If, StoreAtNil}
use Rattle.heap_syntax.specs.declared.lines.tree.CommandTree.TheVariants.{Change}
use Rattle.heap_reader.specs.Trees.{Heading}
use Rattle.heap_reader.specs.Flaws.{ill_if, over_if, or_later, listed_flaw, arity_in, use_flaw}
use Rattle.heap_reader.specs.LineSpans.{line_span}
use Rattle.heap_reader.specs.LineFlaws.{goes_on, line_head_flaw, command_flaw, line_flaw}
use Rattle.heap_reader.specs.LineValues.{operand_value, command_value, variable_value, program_value}
use Rattle.heap_reader.specs.EndFlaws.{stops_at}
use Rattle.heap_reader.specs.EndValues.{with_ends, ends_of, ended_value, bare}
use Rattle.heap_reader.specs.Values.{place_of}
use Rattle.heap_reader.specs.declared.definitions.scope.Scope.TheVariants.{End as InEnd}
use Rattle.heap_reader.proofs.NoFlaw.{neither, not_ill}
use Rattle.heap_reader.proofs.EndsAgain.{together, own_lines, own_ends}
use Rattle.heap_reader.proofs.NumberedEnds.{ends_known, end_trees_again}
use Rattle.proof_syntax.specs.Trees.{Line, End}
use Rattle.proof_file.specs.Readable.{is_universal_command, are_universal_commands}
use Rattle.proof_file.specs.Spans.{term_span, variable_span}
use Rattle.proof_file.specs.Flaws.{term_flaw, variable_flaw, program_flaw, program_ends_flaw}
use Rattle.proof_file.specs.Values.{term_value}
use Rattle.proof_file.specs.Written.{operand_tree, store_tree, command_tree, lines_behind, lines_tree, name_of}
use Rattle.proof_file.specs.Written.{end_tree, ends_tree}

-- ---- lines

operand_again : (t : OperandTree ℕ) → operand_tree (operand_value variable_value t) ≡ t
operand_again operands.Nil = refl
operand_again (operands.Variable n) = refl

command_again : (c : CommandTree ℕ) → command_tree (command_value variable_value c) ≡ c
command_again Stop = refl
command_again (IfAny n) = refl
command_again (Goto n) = refl
command_again (Free t) = λ i. Free (operand_again t i)
command_again (If t true u n) = λ i. If (operand_again t i) true (operand_again u i) n
command_again (If t false u n) = λ i. If (operand_again t i) false (operand_again u i) n
command_again (StoreAtNil n t) = λ i. StoreAtNil n (operand_again t i)
command_again (Change v (changes.New n)) = refl
command_again (Change v (changes.Assign t)) = λ i. Change v (changes.Assign (operand_again t i))
command_again (Change v (changes.Load t n)) = λ i. Change v (changes.Load (operand_again t i) n)
command_again (Change v (changes.Store n t)) = λ i. Change v (changes.Store n (operand_again t i))

-- a line without a flaw has its place as its number
own_number : (most : Limits) (count n k : ℕ) (l : Line) → line_flaw variable_flaw variable_span most count n k l ≡ None
    → n + 1 ≡ l.number
own_number most count n k l e =
    let ends = nat_eq (suc n) count && goes_on l.command in
    let wrong = not (nat_eq l.number (suc n)) in
    let a = neither (line_head_flaw count n k l.number (goes_on l.command))
    (command_flaw variable_flaw variable_span most count (k + 3) l.command) e in
    let b = neither (ill_if ends FallsOff k) (or_later (over_if (nat_le 4096 n) Lines k)
    (ill_if wrong Numbering (k + 1))) a.0 in
    let c = neither (over_if (nat_le 4096 n) Lines k) (ill_if wrong Numbering (k + 1)) b.1 in
    let same = equal_numbers l.number (suc n) (not_ill wrong Numbering (k + 1) c.1) in
    omega (arith, same)

pub lines_again : (most : Limits) (count n k : ℕ) (ls : List Line)
    → listed_flaw (line_flaw variable_flaw variable_span most count) (line_span variable_span) n k ls ≡ None
    → lines_behind n (program_value ls) ≡ ls
lines_again most count n k [] e = refl
lines_again most count n k (l ∷ ls) e =
    let span = line_span variable_span in
    let flaw = line_flaw variable_flaw variable_span most count in
    let both = neither (flaw n k l) (listed_flaw flaw span (suc n) (k + span l) ls) e in
    let number = own_number most count n k l both.0 in
    let command = command_again l.command in
    let next : suc n ≡ n + 1 = omega arith in
    let rest = subst (λ (m : ℕ). lines_behind m (program_value ls) ≡ ls) next
    (lines_again most count (suc n) (k + span l) ls both.1) in
    λ i. record { number = number i; command = command i } ∷ rest i

-- a line is written as it is without its end
command_without_end : (c : Command) → command_tree c ≡ command_tree (bare c)
command_without_end (commands.Assign x t) = refl
command_without_end (commands.Load x t k) = refl
command_without_end (commands.Store t k u) = refl
command_without_end (commands.New x k) = refl
command_without_end (commands.Free t) = refl
command_without_end (commands.IfEq t u j) = refl
command_without_end (commands.IfNeq t u j) = refl
command_without_end (commands.IfAny j) = refl
command_without_end (commands.Goto j) = refl
command_without_end commands.Stop = refl
command_without_end (commands.Ends bs) = refl

pub lines_without_ends : (n : ℕ) (cs : List Command) → lines_behind n cs ≡ lines_behind n (map bare cs)
lines_without_ends n [] = refl
lines_without_ends n (c ∷ cs) =
    let command = command_without_end c in
    let rest = lines_without_ends (n + 1) cs in
    λ i. record { number = n + 1; command = command i } ∷ rest i

-- ---- commands

operand_known : (t : Term) → is_universal t ≡ true → operand_value variable_value (operand_tree t) ≡ t
operand_known terms.Nil e = refl
operand_known (terms.Univ n) e = refl
operand_known (terms.Exist n) e = absurd cc

store_known : (t : Term) (k : ℕ) (u : Term) → is_universal t ≡ true → is_universal u ≡ true
    → command_value variable_value (store_tree t k u) ≡ commands.Store t k u
store_known terms.Nil k u e g = let same = operand_known u g in λ i. commands.Store terms.Nil k (same i)
store_known (terms.Univ n) k u e g = let same = operand_known u g in λ i. commands.Store (terms.Univ n) k (same i)
store_known (terms.Exist n) k u e g = absurd cc

command_known : (c : Command) → is_universal_command c ≡ true → command_value variable_value (command_tree c) ≡ bare c
command_known (commands.Assign x t) e = let same = operand_known t e in λ i. commands.Assign x (same i)
command_known (commands.Load x t k) e = let same = operand_known t e in λ i. commands.Load x (same i) k
command_known (commands.Store t k u) e =
    let both = and-parts (is_universal t) (is_universal u) e in
    store_known t k u both.0 both.1
command_known (commands.New x k) e = refl
command_known (commands.Free t) e = let same = operand_known t e in λ i. commands.Free (same i)
command_known (commands.IfEq t u j) e =
    let both = and-parts (is_universal t) (is_universal u) e in
    let left = operand_known t both.0 in
    let right = operand_known u both.1 in
    λ i. commands.IfEq (left i) (right i) j
command_known (commands.IfNeq t u j) e =
    let both = and-parts (is_universal t) (is_universal u) e in
    let left = operand_known t both.0 in
    let right = operand_known u both.1 in
    λ i. commands.IfNeq (left i) (right i) j
command_known (commands.IfAny j) e = refl
command_known (commands.Goto j) e = refl
command_known commands.Stop e = refl
command_known (commands.Ends bs) e = refl

commands_known : (n : ℕ) (cs : List Command) → are_universal_commands cs ≡ true
    → program_value (lines_behind n cs) ≡ map bare cs
commands_known n [] e = refl
commands_known n (c ∷ cs) e =
    let both = and-parts (is_universal_command c) (are_universal_commands cs) e in
    let first = command_known c both.0 in
    let rest = commands_known (n + 1) cs both.1 in
    λ i. first i ∷ rest i

-- ---- programs

module _ (most : Limits) (hs : List Heading) (vs : List DefinitionValue)
    (named : (name : List ℕ) (n k : ℕ) → use_flaw (arity_in hs name) n k ≡ None → name_of vs (place_of hs name) ≡ name)
    (ls : List Line) (es : List End) (k : ℕ) (right : program_ends_flaw most hs ls k es ≡ None) where
  -- the lines of the program that trees without a flaw say, and its ends
  pub program_lines_again : (j : ℕ) → program_flaw most j ls ≡ None
      → lines_tree (ended_value term_value hs ls es) ≡ ls
  program_lines_again j none =
      lines_without_ends 0 (ended_value term_value hs ls es)
      ∙ ap lines_tree (own_lines variable_value (term_flaw InEnd) term_span term_value most hs ls k es right)
      ∙ lines_again most (length ls) 0 j ls none

  pub program_ends_again : ends_tree vs (ended_value term_value hs ls es) ≡ es
  program_ends_again =
      ap (map (end_tree vs)) (own_ends variable_value (term_flaw InEnd) term_span term_value most hs ls k es right)
      ∙ end_trees_again most hs vs named (stops_at ls) 0 k es right

-- a program is what its lines and its ends say
pub program_known : (ds : List DefinitionValue) (hs : List Heading)
    → ((p : ℕ) → is_free_name reserved (name_of ds p) ≡ true → place_of hs (name_of ds p) ≡ p)
    → (version : Version) (cs : List Command) → are_universal_commands cs ≡ true
    → (ends version).fits (ends_tree ds cs) → ended_value term_value hs (lines_tree cs) (ends_tree ds cs) ≡ cs
program_known ds hs placed version cs universal fits =
    (λ i. with_ends (commands_known 0 cs universal i) (ends_known ds hs placed version (ends_of cs) fits i))
    ∙ together 0 cs
