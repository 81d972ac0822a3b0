-- The lines of a program, as a proof file has them, fit the grammar and have no flaw.
use Rattle.std.proofs.Common.{◌≡◌, ℕ, suc, ◌+◌, ◌^◌, ◌<◌, ◌≤◌, Bool, true, false, inl, inr, List, [], ◌∷◌, length, Some}
use Rattle.std.proofs.Common.{None, refl, sym, ap, subst, arith, eq-eqb}
use Rattle.std.specs.Prelude.{not, ◌&&◌, ◌||◌, nat_eq, nat_lt, nat_le, slice_get}
use Rattle.std.proofs.lemmas.Bool.{le-ltb, lt-leb, ne_eqb, and_from, and_left, and_right, or_from}
use Rattle.cyc_basics.specs.declared.limits.Limits.{Limits}
use Rattle.heap_formula.specs.declared.terms.Term.{Term}
use Rattle.heap_formula.specs.declared.terms.Term.TheVariants as terms
use Rattle.heap_formula.specs.declared.commands.Command.{Command}
use Rattle.heap_formula.specs.declared.commands.Command.TheVariants as commands
use Rattle.heap_formula.specs.Closedness.{IsUniversal}
use Rattle.heap_formula.specs.Programs.{command_bound}
use Rattle.heap_formula.specs.Fresh.{univ_bound}
use Rattle.heap_formula.specs.Words.{Each}
use Rattle.goto_lang.specs.Lines.{IsUniversalCommand, IsFieldNumber, IsLineOf, MayStandAt, IsProgram}
use Rattle.rule_table.specs.Tests.{is_universal}
use Rattle.cyc_lex.specs.declared.fault.IllFault.{IllFault}
use Rattle.cyc_lex.specs.declared.fault.IllFault.TheVariants.{Numbering, Jump, FallsOff}
use Rattle.cyc_lex.specs.declared.fault.What.{What}
use Rattle.cyc_lex.specs.declared.fault.What.TheVariants.{Lines, Fields, ProgramVariables}
use Rattle.cyc_grammar.specs.Syntax.{fits_many}
use Rattle.heap_syntax.specs.Grammar as shared
use Rattle.heap_syntax.specs.declared.version.Version.{Version}
use Rattle.heap_syntax.specs.LineGrammar as syntax
use Rattle.heap_reader.specs.LineSpans.{operand_span, line_span}
use Rattle.heap_reader.specs.Flaws.{ill_if, over_if, or_later, listed_flaw}
use Rattle.heap_reader.specs.LineFlaws.{field_flaw, jump_flaw, goes_on, operand_flaw, command_flaw, line_head_flaw}
use Rattle.heap_reader.specs.LineFlaws.{line_flaw}
use Rattle.proof_syntax.specs.Trees.{Line}
use Rattle.proof_syntax.specs.Grammar.{variable}
use Rattle.proof_syntax.specs.Grammar as grammar
use Rattle.proof_file.specs.Spans.{variable_span}
use Rattle.proof_file.specs.Flaws.{variable_flaw, program_flaw}
use Rattle.proof_file.specs.Readable.{is_universal_command, are_universal_commands}
use Rattle.proof_file.specs.Written.{operand_tree, command_tree, lines_behind, lines_tree}
use Rattle.formula_reader.proofs.Lists.{none_later}
use Rattle.formula_reader.specs.Within.{IsCommandOf}
use Rattle.formula_reader.proofs.Universal.{universal_term_passes}
use Rattle.heap_formula.proofs.Greatest.{each_below}

-- ---- what a line keeps

-- the command may stand at line i of so many, its variables are among the first 64, and none is existential
record IsLineAt (count i : ℕ) (c : Command) : Type 0 where
  stands : MayStandAt count i c
  few : command_bound c ≤ 64
  universal : IsUniversalCommand c

-- each of the lines after n others
abbrev AreLines : ℕ → ℕ → List Command → Type 0
AreLines count n [] = Unit {0}
AreLines count n (c ∷ cs) = IsLineAt count (n + 1) c × AreLines count (n + 1) cs

lines_from : (count n : ℕ) (cs : List Command) → ((i : ℕ) (c : Command) → slice_get cs i ≡ Some c
    → MayStandAt count (n + (i + 1)) c) → Each (λ (c : Command). command_bound c ≤ 64) cs → Each IsUniversalCommand cs
    → AreLines count n cs
lines_from count n [] h few universal = tt
lines_from count n (c ∷ cs) h few universal = (
  record { stands = h 0 c refl; few = few.0; universal = universal.0 },
  lines_from count (n + 1) cs (λ i d e. (
      let next : n + (suc i + 1) ≡ n + 1 + (i + 1) = omega arith in
      subst (λ (m : ℕ). MayStandAt count m d) next (h (suc i) d e))) few.1 universal.1,
)

program_lines : (cs : List Command) → IsProgram cs → AreLines (length cs) 0 cs
program_lines cs program =
    lines_from (length cs) 0 cs (λ i c e. (
    let here : suc i ≡ 0 + (i + 1) = omega arith in
    subst (λ (m : ℕ). MayStandAt (length cs) m c) here (program.commands (suc i) c e)))
    (each_below command_bound 64 cs program.few_variables) program.universal

-- ---- the lines fit

sign_fits : (equal : Bool) → shared.sign.fits equal
unfolding shared.sign
sign_fits true = (tt, tt)
sign_fits false = (tt, tt)

operand_fits : (t : Term) → IsUniversal t → univ_bound t ≤ 64 → (syntax.operand variable).fits (operand_tree t)
unfolding syntax.operand variable
operand_fits terms.Nil u b = (tt, tt)
operand_fits (terms.Univ n) u b = (tt, omega arith)
operand_fits (terms.Exist n) u b = absurd u

store_fits : (version : Version) (t : Term) (k : ℕ) (u : Term) → k ≤ 8 → IsUniversal t → IsUniversal u
    → univ_bound t ≤ 64 → univ_bound u ≤ 64 → (syntax.command version variable).fits
    (command_tree (commands.Store t k u))
unfolding syntax.command syntax.update syntax.store syntax.change variable
store_fits version terms.Nil k u h p q b c = (tt, (omega arith, operand_fits u q c))
store_fits version (terms.Univ x) k u h p q b c = (tt, (omega arith, (tt, (omega arith, operand_fits u q c))))
store_fits version (terms.Exist x) k u h p q b c = absurd p

test_fits : (free : Bool) (p : syntax.Branch ℕ) → (syntax.branch variable).fits p
    → (syntax.behind_if free variable).fits (inr p)
unfolding syntax.behind_if
test_fits true p f = f
test_fits false p f = (tt, f)

free_fits : (free : Bool) (j : ℕ) → free ≡ true → j < 10 ^ 9 → (syntax.behind_if free variable).fits (inl j)
unfolding syntax.behind_if syntax.free_branch syntax.last_number
free_fits true j known h = h
free_fits false j known h = cc

branch_fits : (t u : Term) (equal : Bool) (j : ℕ) → IsUniversal t → IsUniversal u → univ_bound t ≤ 64
    → univ_bound u ≤ 64 → j < 10 ^ 9 → (syntax.branch variable).fits (operand_tree t, (equal, (operand_tree u, j)))
unfolding syntax.branch syntax.last_number
branch_fits t u equal j p q b c h = (operand_fits t p b, (sign_fits equal, (operand_fits u q c, h)))

module _ (limit : Limits) (count : ℕ) (most : count ≤ 4096) where
  target_fits : (j : ℕ) → IsLineOf count j → j < 10 ^ 9
  target_fits j line = let last = line.1 in omega arith

  command_fits : (version : Version) (i : ℕ) (c : Command) → IsLineAt count i c → IsCommandOf version limit c
      → (syntax.command version variable).fits (command_tree c)
  unfolding syntax.command syntax.update syntax.change syntax.source syntax.last_number syntax.field variable
  command_fits version i (commands.Assign x t) l known =
      let b = l.few in (tt, (omega arith, (tt, (operand_fits t l.universal (omega arith), tt))))
  command_fits version i (commands.Load x t k) l known =
      let b = l.few in
      let h = l.stands.1.1 in (tt, (omega arith, (tt, (operand_fits t l.universal (omega arith), omega arith))))
  command_fits version i (commands.Store t k u) l known =
      let b = l.few in store_fits version t k u l.stands.1.1 l.universal.0 l.universal.1 (omega arith) (omega arith)
  command_fits version i (commands.New x k) l known =
      let b = l.few in
      let h = l.stands.1.1 in (tt, (omega arith, (tt, omega arith)))
  command_fits version i (commands.Free t) l known = (tt, operand_fits t l.universal l.few)
  command_fits version i (commands.IfEq t u j) l known =
      let b = l.few in (
        tt,
        test_fits (syntax.has_free_branches version) (operand_tree t, (true, (operand_tree u, j)))
            (branch_fits t u true j l.universal.0 l.universal.1 (omega arith) (omega arith) (target_fits j l.stands.1)),
      )
  command_fits version i (commands.IfNeq t u j) l known =
      let b = l.few in (
        tt,
        test_fits (syntax.has_free_branches version) (operand_tree t, (false, (operand_tree u, j)))
            (branch_fits t u false j l.universal.0 l.universal.1 (omega arith) (omega arith)
            (target_fits j l.stands.1)),
      )
  command_fits version i (commands.IfAny j) l known =
      (tt, free_fits (syntax.has_free_branches version) j known (target_fits j l.stands.1))
  command_fits version i (commands.Goto j) l known = (tt, target_fits j l.stands)
  command_fits version i commands.Stop l known = (tt, tt)
  command_fits version i (commands.Ends bs) l known = (tt, tt)

  lines_fit : (version : Version) (n : ℕ) (cs : List Command) → n + length cs ≤ count → AreLines count n cs
      → Each (IsCommandOf version limit) cs → fits_many (syntax.line version variable) (lines_behind n cs)
  unfolding syntax.line
  lines_fit version n [] within ls known = tt
  lines_fit version n (c ∷ cs) within ls known = (
    (tt, (omega arith, command_fits version (n + 1) c ls.0 known.0)),
    lines_fit version (n + 1) cs (omega arith) ls.1 known.1,
  )

pub program_fits : (version : Version) (limit : Limits) (cs : List Command) → IsProgram cs
    → Each (IsCommandOf version limit) cs → (grammar.lines version).fits (lines_tree cs)
unfolding syntax.lines
program_fits version limit cs program known =
    lines_fit limit (length cs) program.few_lines version 0 cs (omega arith) (program_lines cs program) known

-- ---- the lines have no flaw

no_ill : (b : Bool) (fault : IllFault) (k : ℕ) → b ≡ false → ill_if b fault k ≡ None
no_ill b fault k e = ap (λ (c : Bool). ill_if c fault k) e

no_over : (b : Bool) (what : What) (k : ℕ) → b ≡ false → over_if b what k ≡ None
no_over b what k e = ap (λ (c : Bool). over_if c what k) e

variable_good : (n : ℕ) → n ≤ 63 → (k : ℕ) → variable_flaw k n ≡ None
variable_good n h k = no_over (nat_lt 63 n) ProgramVariables (k + 1) (le-ltb 63 n h)

operand_good : (t : Term) → IsUniversal t → univ_bound t ≤ 64 → (k : ℕ)
    → operand_flaw variable_flaw variable_span k (operand_tree t) ≡ None
operand_good terms.Nil u b k = refl
operand_good (terms.Univ n) u b k = variable_good n (omega arith) k
operand_good (terms.Exist n) u b k = absurd u

field_good : (limit : Limits) (n : ℕ) → 0 < n → n ≤ limit.arguments → (k : ℕ) → field_flaw limit k n ≡ None
field_good limit n some most k =
    let narrow = limit.arguments in
    no_over (nat_eq n 0 || nat_lt narrow n) Fields k (or_from (nat_eq n 0) (nat_lt narrow n)
    (ne_eqb n 0 (λ e. omega arith)) (le-ltb narrow n most))

store_good : (limit : Limits) (count : ℕ) (t : Term) (n : ℕ) (u : Term) → 0 < n → n ≤ limit.arguments → IsUniversal t
    → IsUniversal u → univ_bound t ≤ 64 → univ_bound u ≤ 64 → (k : ℕ)
    → command_flaw variable_flaw variable_span limit count k (command_tree (commands.Store t n u)) ≡ None
store_good limit count terms.Nil n u some most p q b c k =
    none_later (field_flaw limit (k + 2) n) (operand_flaw variable_flaw variable_span (k + 4) (operand_tree u))
    (field_good limit n some most (k + 2)) (operand_good u q c (k + 4))
store_good limit count (terms.Univ x) n u some most p q b c k =
    none_later (variable_flaw k x) _ (variable_good x (omega arith) k)
    (none_later (field_flaw limit (k + 3) n) (operand_flaw variable_flaw variable_span (k + 3 + 2) (operand_tree u))
    (field_good limit n some most (k + 3)) (operand_good u q c (k + 3 + 2)))
store_good limit count (terms.Exist x) n u some most p q b c k = absurd p

module _ (limit : Limits) (count : ℕ) (most : count ≤ 4096) where
  jump_good : (j : ℕ) → IsLineOf count j → (k : ℕ) → jump_flaw count k j ≡ None
  jump_good j line k =
      let first = line.0 in
      let last = line.1 in
      no_ill (nat_eq j 0 || nat_lt count j) Jump k
      (or_from (nat_eq j 0) (nat_lt count j) (ne_eqb j 0 (λ e. omega arith)) (le-ltb count j last))

  branch_good : (t u : Term) (j : ℕ) → IsUniversal t → IsUniversal u → univ_bound t ≤ 64 → univ_bound u ≤ 64
      → IsLineOf count j → (k : ℕ) →
      or_later (operand_flaw variable_flaw variable_span k (operand_tree t))
      (or_later (operand_flaw variable_flaw variable_span (k + operand_span variable_span (operand_tree t))
      (operand_tree u)) (jump_flaw count (k + operand_span variable_span (operand_tree t)
      + operand_span variable_span (operand_tree u)) j)) ≡ None
  branch_good t u j p q b c line k =
      let at = k + operand_span variable_span (operand_tree t) in
      let next = at + operand_span variable_span (operand_tree u) in
      none_later (operand_flaw variable_flaw variable_span k (operand_tree t)) _ (operand_good t p b k)
      (none_later (operand_flaw variable_flaw variable_span at (operand_tree u)) (jump_flaw count next j)
      (operand_good u q c at) (jump_good j line next))

  command_good : (version : Version) (i : ℕ) (c : Command) → IsLineAt count i c → IsCommandOf version limit c → (k : ℕ)
      → command_flaw variable_flaw variable_span limit count k (command_tree c) ≡ None
  command_good version i (commands.Assign x t) l known k =
      let b = l.few in
      none_later (variable_flaw k x) (operand_flaw variable_flaw variable_span (k + 3) (operand_tree t))
      (variable_good x (omega arith) k) (operand_good t l.universal (omega arith) (k + 3))
  command_good version i (commands.Load x t n) l known k =
      let b = l.few in
      let at = k + 3 + operand_span variable_span (operand_tree t) in
      none_later (variable_flaw k x) _ (variable_good x (omega arith) k)
      (none_later (operand_flaw variable_flaw variable_span (k + 3) (operand_tree t)) (field_flaw limit at n)
      (operand_good t l.universal (omega arith) (k + 3)) (field_good limit n l.stands.1.0 known at))
  command_good version i (commands.Store t n u) l known k =
      let b = l.few in store_good limit count t n u l.stands.1.0 known l.universal.0 l.universal.1 (omega arith)
      (omega arith) k
  command_good version i (commands.New x n) l known k =
      let b = l.few in
      none_later (variable_flaw k x) (field_flaw limit (k + 3 + 1) n) (variable_good x (omega arith) k)
      (field_good limit n l.stands.1.0 known (k + 3 + 1))
  command_good version i (commands.Free t) l known k = operand_good t l.universal l.few (k + 1)
  command_good version i (commands.IfEq t u j) l known k =
      let b = l.few in branch_good t u j l.universal.0 l.universal.1 (omega arith) (omega arith) l.stands.1 (k + 1)
  command_good version i (commands.IfNeq t u j) l known k =
      let b = l.few in branch_good t u j l.universal.0 l.universal.1 (omega arith) (omega arith) l.stands.1 (k + 1)
  command_good version i (commands.IfAny j) l known k = jump_good j l.stands.1 (k + 3)
  command_good version i (commands.Goto j) l known k = jump_good j l.stands (k + 1)
  command_good version i commands.Stop l known k = refl
  command_good version i (commands.Ends bs) l known k = refl

  -- after the last line none follows
  before : (n : ℕ) → n + 1 < count → (b : Bool) → (nat_eq (suc n) count && b) ≡ false
  before n h b = and_left (nat_eq (suc n) count) b (ne_eqb (suc n) count (λ e. omega arith))

  stays : (n : ℕ) (c : Command) → MayStandAt count (n + 1) c
      → (nat_eq (suc n) count && goes_on (command_tree c)) ≡ false
  stays n (commands.Assign x t) s = before n s _
  stays n (commands.Load x t k) s = before n s.0 _
  stays n (commands.Store t k u) s = before n s.0 _
  stays n (commands.New x k) s = before n s.0 _
  stays n (commands.Free t) s = before n s _
  stays n (commands.IfEq t u j) s = before n s.0 _
  stays n (commands.IfNeq t u j) s = before n s.0 _
  stays n (commands.IfAny j) s = before n s.0 _
  stays n (commands.Goto j) s = and_right (nat_eq (suc n) count) false refl
  stays n commands.Stop s = and_right (nat_eq (suc n) count) false refl
  stays n (commands.Ends bs) s = and_right (nat_eq (suc n) count) false refl

  line_good : (version : Version) (n : ℕ) (c : Command) → n < count → IsLineAt count (n + 1) c
      → IsCommandOf version limit c → (k : ℕ)
      → line_flaw variable_flaw variable_span limit count n k
      (record { number = n + 1; command = command_tree c }) ≡ None
  line_good version n c h l known k =
      let own : not (nat_eq (n + 1) (suc n)) ≡ false = ap not (eq-eqb (n + 1) (suc n) (omega arith)) in
      let numbered = no_ill (not (nat_eq (n + 1) (suc n))) Numbering (k + 1) own in
      let few = no_over (nat_le 4096 n) Lines k (lt-leb 4096 n (omega arith)) in
      let last = no_ill (nat_eq (suc n) count && goes_on (command_tree c)) FallsOff k (stays n c l.stands) in
      none_later (line_head_flaw count n k (n + 1) (goes_on (command_tree c)))
      (command_flaw variable_flaw variable_span limit count (k + 3) (command_tree c))
      (none_later _ _ last (none_later _ _ few numbered)) (command_good version (n + 1) c l known (k + 3))

  lines_good : (version : Version) (n : ℕ) (cs : List Command) → n + length cs ≤ count → AreLines count n cs
      → Each (IsCommandOf version limit) cs → (k : ℕ)
      → listed_flaw (line_flaw variable_flaw variable_span limit count) (line_span variable_span) n k
      (lines_behind n cs) ≡ None
  lines_good version n [] within ls known k = refl
  lines_good version n (c ∷ cs) within ls known k =
      let flaw = line_flaw variable_flaw variable_span limit count in
      let span = line_span variable_span in
      let line : Line = record { number = n + 1; command = command_tree c } in
      let next : n + 1 ≡ suc n = omega arith in
      let rest = subst (λ (m : ℕ). listed_flaw flaw span m (k + span line) (lines_behind (n + 1) cs) ≡ None) next
      (lines_good version (n + 1) cs (omega arith) ls.1 known.1 (k + span line)) in
      none_later (flaw n k line) (listed_flaw flaw span (suc n) (k + span line) (lines_behind (n + 1) cs))
      (line_good version n c (omega arith) ls.0 known.0 k) rest

pub lines_long : (n : ℕ) (cs : List Command) → length (lines_behind n cs) ≡ length cs
lines_long n [] = refl
lines_long n (c ∷ cs) = let r = lines_long (n + 1) cs in omega arith

pub program_flawless : (version : Version) (limit : Limits) (cs : List Command) → IsProgram cs
    → Each (IsCommandOf version limit) cs → (k : ℕ) → program_flaw limit k (lines_tree cs) ≡ None
program_flawless version limit cs program known k =
    subst (λ (count : ℕ). listed_flaw (line_flaw variable_flaw variable_span limit count) (line_span variable_span) 0 k
    (lines_tree cs) ≡ None) (sym (lines_long 0 cs)) (lines_good limit (length cs) program.few_lines version 0 cs
    (omega arith) (program_lines cs program) known k)

-- ---- no existential variable stands in them

command_universal : (version : Version) (limit : Limits) (c : Command) → IsUniversalCommand c
    → IsCommandOf version limit c → is_universal_command c ≡ true
command_universal version limit (commands.Assign x t) u known = universal_term_passes t u
command_universal version limit (commands.Load x t k) u known = universal_term_passes t u
command_universal version limit (commands.Store t k v) u known =
    and_from (is_universal t) (is_universal v) (universal_term_passes t u.0) (universal_term_passes v u.1)
command_universal version limit (commands.New x k) u known = refl
command_universal version limit (commands.Free t) u known = universal_term_passes t u
command_universal version limit (commands.IfEq t v j) u known =
    and_from (is_universal t) (is_universal v) (universal_term_passes t u.0) (universal_term_passes v u.1)
command_universal version limit (commands.IfNeq t v j) u known =
    and_from (is_universal t) (is_universal v) (universal_term_passes t u.0) (universal_term_passes v u.1)
command_universal version limit (commands.IfAny j) u known = refl
command_universal version limit (commands.Goto j) u known = refl
command_universal version limit commands.Stop u known = refl
command_universal version limit (commands.Ends bs) u known = refl

pub commands_universal : (version : Version) (limit : Limits) (cs : List Command) → Each IsUniversalCommand cs
    → Each (IsCommandOf version limit) cs → are_universal_commands cs ≡ true
commands_universal version limit [] e known = refl
commands_universal version limit (c ∷ cs) e known =
    and_from (is_universal_command c) (are_universal_commands cs) (command_universal version limit c e.0 known.0)
    (commands_universal version limit cs e.1 known.1)
