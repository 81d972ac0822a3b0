-- Lines without a flaw are a program, and the lines of a program fit the values' types.
use Rattle.std.proofs.Common.{◌≡◌, ℕ, suc, ◌+◌, ◌<◌, Bool, true, false, List, [], ◌∷◌, length, Option, Some, None, refl}
use Rattle.std.proofs.Common.{sym, ap, ◌∙◌, subst, arith}
use Rattle.std.specs.Prelude.{map, not, ◌&&◌, ◌||◌, nat_eq, nat_lt, nat_le, if◌then◌else◌}
use Rattle.std.specs.Option.{option_or}
use Rattle.std.proofs.lemmas.Bool.{ltb-false, le-ltb}
use Rattle.std.proofs.lemmas.List.{length-map}
use Rattle.cyc_basics.specs.Limits.{AreLimits}
use Rattle.cyc_basics.specs.declared.limits.Limits.{Limits}
use Rattle.cyc_basics.specs.declared.limits.TheConstants.{MOST_ARGUMENTS}
use Rattle.heap_formula.specs.declared.terms.Term.{Term}
use Rattle.heap_formula.specs.declared.terms.Term.TheVariants as terms
use Rattle.heap_formula.specs.declared.commands.Command.{Command}
use Rattle.heap_formula.specs.declared.commands.Command.TheVariants as commands
use Rattle.heap_formula.specs.Words.{Each}
use Rattle.heap_formula.specs.Closedness.{IsUniversal}
use Rattle.goto_lang.specs.Faults.{variable_fault, term_fault, field_fault, jump_fault, command_fault}
use Rattle.goto_lang.specs.Faults.{goes_on as may_go_on, line_fault, lines_fault, program_fault}
use Rattle.goto_lang.specs.Lines.{IsUniversalCommand, commands_of}
use Rattle.cyc_lex.specs.declared.fault.IllFault.TheVariants.{FallsOff, Numbering, Jump}
use Rattle.cyc_lex.specs.declared.fault.What.TheVariants.{Lines, Fields}
use Rattle.heap_syntax.specs.declared.lines.tree.OperandTree.{OperandTree}
use Rattle.heap_syntax.specs.declared.lines.tree.OperandTree.TheVariants.{Nil, Variable}
use Rattle.heap_syntax.specs.declared.lines.tree.ChangeTree.{ChangeTree}
use Rattle.heap_syntax.specs.declared.lines.tree.ChangeTree.TheVariants.{New, Assign, Load, Store}
use Rattle.heap_syntax.specs.declared.lines.tree.CommandTree.{CommandTree}
use Rattle.heap_syntax.specs.declared.lines.tree.CommandTree.TheVariants.{Stop, Goto, Free, IfAny, If, StoreAtNil}
use Rattle.heap_syntax.specs.declared.lines.tree.CommandTree.TheVariants.{Change}
use Rattle.heap_syntax.specs.declared.lines.tree.LineTree.{LineTree}
use Rattle.heap_reader.specs.LineSpans.{operand_span, line_span}
use Rattle.heap_reader.specs.Flaws.{Found, ill_if, over_if, or_later, listed_flaw}
use Rattle.heap_reader.specs.LineFlaws.{field_flaw, jump_flaw, goes_on, operand_flaw, change_flaw, branch_flaw}
use Rattle.heap_reader.specs.LineFlaws.{command_flaw, line_head_flaw, line_flaw, lines_flaw}
use Rattle.heap_reader.specs.Small.{IsSmallTerm}
use Rattle.heap_reader.specs.LineSmall.{IsSmallCommand, IsSmallLine}
use Rattle.heap_reader.specs.LineValues.{operand_value, change_value, command_value, line_value}
use Rattle.heap_reader.proofs.NoFlaw.{neither, not_over, not_ill, below}
use Rattle.cyc_basics.proofs.Options.{neither_some}

-- ---- options

if_none : {X : Type 0} (b : Bool) (x : X) → (if b then Some x else None) ≡ None → b ≡ false
if_none true x e = absurd cc
if_none false x e = refl

unless : {X : Type 0} (b : Bool) (x : X) → b ≡ false → (if b then Some x else None) ≡ None
unless true x e = absurd cc
unless false x e = refl

pub past : {X : Type 0} (b : Bool) (x : X) (y : Option X) → (if b then Some x else y) ≡ None → y ≡ None
past true x y e = absurd cc
past false x y e = e

pub passes : {X : Type 0} (b : Bool) (x : X) (y : Option X) → b ≡ false → y ≡ None → (if b then Some x else y) ≡ None
passes true x y e h = absurd cc
passes false x y e h = h

pub both_none : {X : Type 0} (a b : Option X) → a ≡ None → b ≡ None → option_or a b ≡ None
both_none None b p q = q
both_none (Some x) b p q = absurd cc

pub or_right : (a b : Bool) → (a || b) ≡ false → b ≡ false
or_right true b e = absurd cc
or_right false b e = e

-- ---- commands as values have no existential variable

module _ {V : Type 0} (value : V → ℕ) where
  operand_universal : (t : OperandTree V) → IsUniversal (operand_value value t)
  operand_universal Nil = tt
  operand_universal (Variable v) = tt

  change_universal : (x : ℕ) (c : ChangeTree V) → IsUniversalCommand (change_value value x c)
  change_universal x (New n) = tt
  change_universal x (Assign t) = operand_universal t
  change_universal x (Load t n) = operand_universal t
  change_universal x (Store n t) = (tt, operand_universal t)

  command_universal : (c : CommandTree V) → IsUniversalCommand (command_value value c)
  command_universal Stop = tt
  command_universal (IfAny n) = tt
  command_universal (Goto n) = tt
  command_universal (Free t) = operand_universal t
  command_universal (If t true u n) = (operand_universal t, operand_universal u)
  command_universal (If t false u n) = (operand_universal t, operand_universal u)
  command_universal (StoreAtNil n t) = (tt, operand_universal t)
  command_universal (Change v c) = change_universal (value v) c

  pub lines_universal : (ls : List (LineTree V)) → Each IsUniversalCommand (commands_of (map (line_value value) ls))
  lines_universal [] = tt
  lines_universal (l ∷ ls) = (command_universal l.command, lines_universal ls)

-- ---- a program fits

variable_small : (x : ℕ) → variable_fault x ≡ None → x < 65536
variable_small x e = let h = ltb-false 63 x (if_none (nat_lt 63 x) _ e) in omega arith

term_small : (t : Term) → IsUniversal t → term_fault t ≡ None → IsSmallTerm t
term_small terms.Nil u e = tt
term_small (terms.Univ n) u e = variable_small n e
term_small (terms.Exist n) u e = absurd u

field_small : (k : ℕ) → field_fault k ≡ None → k < 256
field_small k e = let h = ltb-false 8 k (or_right (nat_eq k 0) (nat_lt 8 k) (if_none (nat_eq k 0 || nat_lt 8 k) _ e)) in
    omega arith

command_small : (n i : ℕ) (c : Command) → IsUniversalCommand c → command_fault n i c ≡ None → IsSmallCommand c
command_small n i (commands.Assign x t) u e =
    let a = neither_some (variable_fault x) (term_fault t) e in
    (variable_small x a.0, term_small t u a.1)
command_small n i (commands.Load x t k) u e =
    let a = neither_some (variable_fault x) (option_or (term_fault t) (field_fault k)) e in
    let b = neither_some (term_fault t) (field_fault k) a.1 in
    (variable_small x a.0, term_small t u b.0, field_small k b.1)
command_small n i (commands.Store t k v) u e =
    let a = neither_some (term_fault t) (option_or (field_fault k) (term_fault v)) e in
    let b = neither_some (field_fault k) (term_fault v) a.1 in
    (term_small t u.0 a.0, field_small k b.0, term_small v u.1 b.1)
command_small n i (commands.New x k) u e =
    let a = neither_some (variable_fault x) (field_fault k) e in
    (variable_small x a.0, field_small k a.1)
command_small n i (commands.Free t) u e = term_small t u e
command_small n i (commands.IfEq t v j) u e =
    let a = neither_some (term_fault t) (option_or (term_fault v) (jump_fault n i j)) e in
    let b = neither_some (term_fault v) (jump_fault n i j) a.1 in
    (term_small t u.0 a.0, term_small v u.1 b.0)
command_small n i (commands.IfNeq t v j) u e =
    let a = neither_some (term_fault t) (option_or (term_fault v) (jump_fault n i j)) e in
    let b = neither_some (term_fault v) (jump_fault n i j) a.1 in
    (term_small t u.0 a.0, term_small v u.1 b.0)
command_small n i (commands.IfAny j) u e = tt
command_small n i (commands.Goto j) u e = tt
command_small n i commands.Stop u e = tt
command_small n i (commands.Ends bs) u e = tt

line_small : (n i : ℕ) (l : ℕ × Command) → IsUniversalCommand l.1 → line_fault n i l ≡ None → IsSmallLine l
line_small n i l u e =
    command_small n i l.1 u (past (not (nat_eq l.0 i)) _ (command_fault n i l.1)
    (past (nat_lt 4096 i) _ _ (past (nat_eq i n && may_go_on l.1) _ _ e)))

pub lines_small : (n i : ℕ) (ls : List (ℕ × Command)) → Each IsUniversalCommand (commands_of ls)
    → lines_fault n i ls ≡ None → Each IsSmallLine ls
lines_small n i [] u e = tt
lines_small n i (l ∷ ls) u e =
    let a = neither_some (line_fault n i l) (lines_fault n (i + 1) ls) e in
    (line_small n i l u.0 a.0, lines_small n (i + 1) ls u.1 a.1)

-- ---- lines without a flaw are a program

pub or_left : (a b : Bool) → (a || b) ≡ false → a ≡ false
or_left true b e = absurd cc
or_left false b e = refl

pub neither_true : (a b : Bool) → a ≡ false → b ≡ false → (a || b) ≡ false
neither_true true b e f = absurd cc
neither_true false b e f = f

field_passes : (most : Limits) → AreLimits most → (k n : ℕ) → field_flaw most k n ≡ None → field_fault n ≡ None
field_passes most limits k n e =
    let within = not_over (nat_eq n 0 || nat_lt most.arguments n) Fields k e in
    let few = ltb-false most.arguments n (or_right (nat_eq n 0) (nat_lt most.arguments n) within) in
    unless (nat_eq n 0 || nat_lt MOST_ARGUMENTS n) _ (neither_true (nat_eq n 0) (nat_lt MOST_ARGUMENTS n)
    (or_left (nat_eq n 0) (nat_lt most.arguments n) within)
    (le-ltb MOST_ARGUMENTS n (omega (arith, few, limits.arguments))))

jump_passes : (count i k n : ℕ) → jump_flaw count k n ≡ None → jump_fault count i n ≡ None
jump_passes count i k n e = unless (nat_eq n 0 || nat_lt count n) _ (not_ill (nat_eq n 0 || nat_lt count n) Jump k e)

variable_passes : (x : ℕ) → x < 64 → variable_fault x ≡ None
variable_passes x h = unless (nat_lt 63 x) _ (le-ltb 63 x (omega arith))

module _ {V : Type 0} (flaw : ℕ → V → Found) (span : V → ℕ) (value : V → ℕ)
    (few : (k : ℕ) (v : V) → flaw k v ≡ None → value v < 64) (most : Limits) (limits : AreLimits most) where
  operand_passes : (k : ℕ) (t : OperandTree V) → operand_flaw flaw span k t ≡ None
      → term_fault (operand_value value t) ≡ None
  operand_passes k Nil e = refl
  operand_passes k (Variable v) e = variable_passes (value v) (few k v e)

  change_passes : (count i k x : ℕ) (c : ChangeTree V) → x < 64 → change_flaw flaw span most k c ≡ None
      → command_fault count i (change_value value x c) ≡ None
  change_passes count i k x (New n) h e = both_none (variable_fault x) (field_fault n) (variable_passes x h)
      (field_passes most limits (k + 1) n e)
  change_passes count i k x (Assign t) h e = both_none (variable_fault x) (term_fault (operand_value value t))
      (variable_passes x h) (operand_passes k t e)
  change_passes count i k x (Load t n) h e =
      let a = neither (operand_flaw flaw span k t) (field_flaw most (k + operand_span span t) n) e in
      both_none (variable_fault x) (option_or (term_fault (operand_value value t)) (field_fault n))
      (variable_passes x h) (both_none (term_fault (operand_value value t)) (field_fault n) (operand_passes k t a.0)
      (field_passes most limits (k + operand_span span t) n a.1))
  change_passes count i k x (Store n t) h e =
      let a = neither (field_flaw most k n) (operand_flaw flaw span (k + 2) t) e in
      both_none (variable_fault x) (option_or (field_fault n) (term_fault (operand_value value t)))
      (variable_passes x h) (both_none (field_fault n) (term_fault (operand_value value t))
      (field_passes most limits k n a.0)
      (operand_passes (k + 2) t a.1))

  branch_passes : (count i k : ℕ) (t u : OperandTree V) (n : ℕ) → branch_flaw flaw span count k t u n ≡ None
      → option_or (term_fault (operand_value value t)) (option_or (term_fault (operand_value value u))
      (jump_fault count i n)) ≡ None
  branch_passes count i k t u n e =
      let j = k + operand_span span t in
      let a = neither (operand_flaw flaw span k t)
      (or_later (operand_flaw flaw span j u) (jump_flaw count (j + operand_span span u) n)) e in
      let b = neither (operand_flaw flaw span j u) (jump_flaw count (j + operand_span span u) n) a.1 in
      both_none (term_fault (operand_value value t))
      (option_or (term_fault (operand_value value u)) (jump_fault count i n)) (operand_passes k t a.0)
      (both_none (term_fault (operand_value value u)) (jump_fault count i n) (operand_passes j u b.0)
      (jump_passes count i (j + operand_span span u) n b.1))

  command_passes : (count i k : ℕ) (c : CommandTree V) → command_flaw flaw span most count k c ≡ None
      → command_fault count i (command_value value c) ≡ None
  command_passes count i k Stop e = refl
  command_passes count i k (IfAny n) e = jump_passes count i (k + 3) n e
  command_passes count i k (Goto n) e = jump_passes count i (k + 1) n e
  command_passes count i k (Free t) e = operand_passes (k + 1) t e
  command_passes count i k (If t true u n) e = branch_passes count i (k + 1) t u n e
  command_passes count i k (If t false u n) e = branch_passes count i (k + 1) t u n e
  command_passes count i k (StoreAtNil n t) e =
      let a = neither (field_flaw most (k + 2) n) (operand_flaw flaw span (k + 4) t) e in
      both_none (field_fault n) (term_fault (operand_value value t)) (field_passes most limits (k + 2) n a.0)
      (operand_passes (k + 4) t a.1)
  command_passes count i k (Change v c) e =
      let a = neither (flaw k v) (change_flaw flaw span most (k + span v) c) e in
      change_passes count i (k + span v) (value v) c (few k v a.0) a.1

  change_goes_on : (x : ℕ) (c : ChangeTree V) → may_go_on (change_value value x c) ≡ true
  change_goes_on x (New n) = refl
  change_goes_on x (Assign t) = refl
  change_goes_on x (Load t n) = refl
  change_goes_on x (Store n t) = refl

  same_goes_on : (c : CommandTree V) → may_go_on (command_value value c) ≡ goes_on c
  same_goes_on Stop = refl
  same_goes_on (IfAny n) = refl
  same_goes_on (Goto n) = refl
  same_goes_on (Free t) = refl
  same_goes_on (If t true u n) = refl
  same_goes_on (If t false u n) = refl
  same_goes_on (StoreAtNil n t) = refl
  same_goes_on (Change v c) = change_goes_on (value v) c

  line_passes : (count n k : ℕ) (l : LineTree V) → line_flaw flaw span most count n k l ≡ None
      → line_fault count (suc n) (line_value value l) ≡ None
  line_passes count n k l e =
      let ends = nat_eq (suc n) count in
      let a = neither (line_head_flaw count n k l.number (goes_on l.command))
      (command_flaw flaw span most count (k + 3) l.command) e in
      let b = neither (ill_if (ends && goes_on l.command) FallsOff k)
      (or_later (over_if (nat_le 4096 n) Lines k) (ill_if (not (nat_eq l.number (suc n))) Numbering (k + 1))) a.0 in
      let c = neither (over_if (nat_le 4096 n) Lines k) (ill_if (not (nat_eq l.number (suc n))) Numbering (k + 1)) b.1
      in
      let few_lines = below 4096 n (not_over (nat_le 4096 n) Lines k c.0) in
      let stays = ap (λ (g : Bool). ends && g) (same_goes_on l.command)
      ∙ not_ill (ends && goes_on l.command) FallsOff k b.0 in
      passes (ends && may_go_on (command_value value l.command)) _ _ stays
      (passes (nat_lt 4096 (suc n)) _ _ (le-ltb 4096 (suc n) (omega arith))
      (passes (not (nat_eq l.number (suc n))) _ _ (not_ill (not (nat_eq l.number (suc n))) Numbering (k + 1) c.1)
      (command_passes count (suc n) (k + 3) l.command a.1)))

  all_pass : (count n k : ℕ) (ls : List (LineTree V))
      → listed_flaw (line_flaw flaw span most count) (line_span span) n k ls ≡ None
      → lines_fault count (suc n) (map (line_value value) ls) ≡ None
  all_pass count n k [] e = refl
  all_pass count n k (l ∷ ls) e =
      let a = neither (line_flaw flaw span most count n k l)
      (listed_flaw (line_flaw flaw span most count) (line_span span) (suc n) (k + line_span span l) ls) e in
      let next : suc (suc n) ≡ suc n + 1 = omega arith in
      both_none (line_fault count (suc n) (line_value value l))
      (lines_fault count (suc n + 1) (map (line_value value) ls)) (line_passes count n k l a.0)
      (subst (λ (i : ℕ). lines_fault count i (map (line_value value) ls) ≡ None) next
      (all_pass count (suc n) (k + line_span span l) ls a.1))

  pub lines_are_program : (k : ℕ) (ls : List (LineTree V)) → lines_flaw flaw span most k ls ≡ None
      → program_fault (map (line_value value) ls) ≡ None
  lines_are_program k ls e = subst (λ (n : ℕ). lines_fault n 1 (map (line_value value) ls) ≡ None)
      (sym (length-map ls (line_value value))) (all_pass (length ls) 0 k ls e)
