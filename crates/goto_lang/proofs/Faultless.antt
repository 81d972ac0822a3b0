-- Lines without a fault are a program.
use Rattle.std.proofs.Common.{◌≡◌, ◌≢◌, ℕ, zero, suc, ◌+◌, ◌<◌, ◌≤◌, Bool, true, false, not, ◌&&◌, ◌||◌, cond, List, []}
use Rattle.std.proofs.Common.{◌∷◌, map, length, Option, Some, None, refl, sym, subst, arith}
use Rattle.std.specs.Prelude.{nat_eq, nat_lt, slice_get}
use Rattle.std.proofs.lemmas.List.{length-map}
use Rattle.std.proofs.lemmas.Bool.Decides.{nat_tests}
use Rattle.heap_formula.specs.declared.terms.Term.{Term}
use Rattle.heap_formula.specs.declared.terms.Term.TheVariants.{Nil, Univ, Exist}
use Rattle.heap_formula.specs.declared.commands.Command.{Command}
use Rattle.heap_formula.specs.declared.commands.Command.TheVariants.{Assign, Load, Store, New, Free, IfEq, IfNeq, IfAny}
use Rattle.heap_formula.specs.declared.commands.Command.TheVariants.{Goto, Stop, Ends}
use Rattle.heap_formula.specs.Words.{Each, max_of}
use Rattle.heap_formula.specs.Programs.{counted_from_one, command_bound}
use Rattle.heap_formula.specs.Fresh.{univ_bound}
use Rattle.goto_lang.specs.Faults.{variable_fault, term_fault, field_fault, jump_fault, command_fault, goes_on}
use Rattle.goto_lang.specs.Faults.{line_fault, lines_fault, program_fault}
use Rattle.goto_lang.specs.Lines.{IsUniversalCommand, commands_of, IsFieldNumber, IsLineOf, MayStandAt, IsProgram}
use Rattle.std.proofs.lemmas.Bool.{or_parts}
use Rattle.cyc_basics.proofs.Options.{neither_some}

no_choice : {X : Type 0} (b : Bool) (f : X) (o : Option X) → cond b (Some f) o ≡ None → (b ≡ false) × (o ≡ None)
no_choice true f o e = cc
no_choice false f o e = (refl, e)

not_less : (m n : ℕ) → nat_lt m n ≡ false → n ≤ m
not_less m n e = grind (arith, nat_tests)

not_equal : (m n : ℕ) → nat_eq m n ≡ false → m ≢ n
not_equal m n e = grind (arith, nat_tests)

variable_within : (x : ℕ) → variable_fault x ≡ None → x + 1 ≤ 64
variable_within x e = let r = not_less 63 x (no_choice (nat_lt 63 x) _ None e).0 in omega arith

term_within : (t : Term) → term_fault t ≡ None → univ_bound t ≤ 64
term_within Nil e = omega arith
term_within (Univ x) e = variable_within x e
term_within (Exist x) e = omega arith

field_right : (k : ℕ) → field_fault k ≡ None → IsFieldNumber k
field_right k e =
    let r = or_parts (nat_eq k 0) (nat_lt 8 k) (no_choice (nat_eq k 0 || nat_lt 8 k) _ None e).0 in
    let z = not_equal k 0 r.0 in (grind arith, not_less 8 k r.1)

target_right : (n i j : ℕ) → jump_fault n i j ≡ None → IsLineOf n j
target_right n i j e =
    let r = or_parts (nat_eq j 0) (nat_lt n j) (no_choice (nat_eq j 0 || nat_lt n j) _ None e).0 in
    let z = not_equal j 0 r.0 in (grind arith, not_less n j r.1)

not_last : (n i : ℕ) (b : Bool) → nat_eq i n ≡ b → (b && true) ≡ false → i ≤ n → i < n
not_last n i true e f le = cc
not_last n i false e f le = let d = not_equal i n e in grind arith

-- a command without a fault at line i of n
pub stands : (n i : ℕ) (x : Command) → i ≤ n → (nat_eq i n && goes_on x) ≡ false → command_fault n i x ≡ None
    → MayStandAt n i x × (command_bound x ≤ 64)
stands n i (Assign x t) le l e =
    let r = neither_some (variable_fault x) (term_fault t) e in
    let v = variable_within x r.0 in
    let w = term_within t r.1 in (not_last n i _ refl l le, omega arith)
stands n i (Load x t k) le l e =
    let r = neither_some (variable_fault x) _ e in
    let s = neither_some (term_fault t) (field_fault k) r.1 in
    let v = variable_within x r.0 in
    let w = term_within t s.0 in ((not_last n i _ refl l le, field_right k s.1), omega arith)
stands n i (Store t k u) le l e =
    let r = neither_some (term_fault t) _ e in
    let s = neither_some (field_fault k) (term_fault u) r.1 in
    let v = term_within t r.0 in
    let w = term_within u s.1 in ((not_last n i _ refl l le, field_right k s.0), omega arith)
stands n i (New x k) le l e =
    let r = neither_some (variable_fault x) (field_fault k) e in
    let v = variable_within x r.0 in ((not_last n i _ refl l le, field_right k r.1), omega arith)
stands n i (Free t) le l e = (not_last n i _ refl l le, term_within t e)
stands n i (IfEq t u j) le l e =
    let r = neither_some (term_fault t) _ e in
    let s = neither_some (term_fault u) (jump_fault n i j) r.1 in
    let v = term_within t r.0 in
    let w = term_within u s.0 in ((not_last n i _ refl l le, target_right n i j s.1), omega arith)
stands n i (IfNeq t u j) le l e =
    let r = neither_some (term_fault t) _ e in
    let s = neither_some (term_fault u) (jump_fault n i j) r.1 in
    let v = term_within t r.0 in
    let w = term_within u s.0 in ((not_last n i _ refl l le, target_right n i j s.1), omega arith)
stands n i (IfAny j) le l e = ((not_last n i _ refl l le, target_right n i j e), omega arith)
stands n i (Goto j) le l e = (target_right n i j e, omega arith)
stands n i Stop le l e = (tt, omega arith)
stands n i (Ends bs) le l e = (tt, not_less 64 _ (no_choice (nat_lt 64 _) _ None e).0)

record LineFacts (n i : ℕ) (l : ℕ × Command) : Type 0 where
  not_falling : (nat_eq i n && goes_on l.1) ≡ false
  few : i ≤ 4096
  command : command_fault n i l.1 ≡ None

line_facts : (n i : ℕ) (l : ℕ × Command) → line_fault n i l ≡ None → LineFacts n i l
line_facts n i l e =
    let a = no_choice (nat_eq i n && goes_on l.1) _ _ e in
    let b = no_choice (nat_lt 4096 i) _ _ a.1 in
    let c = no_choice (not (nat_eq l.0 i)) _ _ b.1 in
    record { not_falling = a.0; few = not_less 4096 i b.0; command = c.1 }

lines_few : (n i : ℕ) (ls : List (ℕ × Command)) → i ≤ 4097 → lines_fault n i ls ≡ None → i + length ls ≤ 4097
lines_few n i [] le e = omega arith
lines_few n i (l ∷ ls) le e =
    let r = neither_some (line_fault n i l) (lines_fault n (i + 1) ls) e in
    let f = (line_facts n i l r.0).few in
    let s = lines_few n (i + 1) ls (omega arith) r.1 in omega arith

lines_bound : (n i : ℕ) (ls : List (ℕ × Command)) → i + length ls ≡ n + 1 → lines_fault n i ls ≡ None
    → max_of (map command_bound (commands_of ls)) ≤ 64
lines_bound n i [] e f = omega arith
lines_bound n i (l ∷ ls) e f =
    let r = neither_some (line_fault n i l) (lines_fault n (i + 1) ls) f in
    let g = line_facts n i l r.0 in
    let s = (stands n i l.1 (omega arith) g.not_falling g.command).1 in
    let t = lines_bound n (i + 1) ls (omega arith) r.1 in omega arith

lines_stand : (n i : ℕ) (ls : List (ℕ × Command)) → i + length ls ≡ n + 1 → lines_fault n i ls ≡ None
    → (k : ℕ) (x : Command) → slice_get (commands_of ls) k ≡ Some x → MayStandAt n (i + k) x
lines_stand n i [] e f k x at = cc
lines_stand n i (l ∷ ls) e f zero x at =
    let r = neither_some (line_fault n i l) (lines_fault n (i + 1) ls) f in
    let g = line_facts n i l r.0 in
    let same : l.1 ≡ x = cc in
    let there : i ≡ i + 0 = omega arith in
    subst (λ j. MayStandAt n j x) there (subst (MayStandAt n i) same
    (stands n i l.1 (omega arith) g.not_falling g.command).0)
lines_stand n i (l ∷ ls) e f (suc k) x at =
    let r = neither_some (line_fault n i l) (lines_fault n (i + 1) ls) f in
    let there : (i + 1) + k ≡ i + suc k = omega arith in
    subst (λ j. MayStandAt n j x) there (lines_stand n (i + 1) ls (omega arith) r.1 k x at)

pub faultless_is_program : (ls : List (ℕ × Command)) → program_fault ls ≡ None
    → Each IsUniversalCommand (commands_of ls) → IsProgram (commands_of ls)
faultless_is_program ls e u =
    let count : length (commands_of ls) ≡ length ls = length-map ls (λ (l : ℕ × Command). l.1) in
    let few = lines_few (length ls) 1 ls (omega arith) e in record {
      few_lines = omega arith;
      few_variables = lines_bound (length ls) 1 ls (omega arith) e;
      commands = stand;
      universal = u;
    }
  where
    stand : (i : ℕ) (x : Command) → counted_from_one (commands_of ls) i ≡ Some x
        → MayStandAt (length (commands_of ls)) i x
    stand zero x at = cc
    stand (suc k) x at =
        let count : length ls ≡ length (commands_of ls) = sym (length-map ls (λ (l : ℕ × Command). l.1)) in
        let there : 1 + k ≡ suc k = omega arith in
        subst (λ n. MayStandAt n (suc k) x) count (subst (λ j. MayStandAt (length ls) j x) there
        (lines_stand (length ls) 1 ls (omega arith) e k x at))
