-- The grammar of programs over variables of any form, in each version of the formats.
use Rattle.std.specs.Prelude.{ℕ, Bool, true, false, List, ◌⊎◌, codes}
use Rattle.std.proofs.Common.{inl, inr}
use Rattle.cyc_grammar.specs.Syntax.{Syntax, Class, one, seq, alt, many, shaped, after, before, is_one}
use Rattle.cyc_grammar.specs.Classes.{symbol, keyword, number}
use Rattle.heap_syntax.specs.Words.{nil, colon, semicolon, assign, star}
use Rattle.heap_syntax.specs.declared.version.Version.{Version}
use Rattle.heap_syntax.specs.declared.version.Version.TheVariants.{One, Two, Three}
use Rattle.heap_syntax.specs.Grammar.{Any, sign}
use Rattle.heap_syntax.specs.declared.lines.tree.OperandTree.{OperandTree}
use Rattle.heap_syntax.specs.declared.lines.tree.OperandTree.TheVariants.{Nil, Variable}
use Rattle.heap_syntax.specs.declared.lines.tree.CommandTree.{CommandTree}
use Rattle.heap_syntax.specs.declared.lines.tree.CommandTree.TheVariants.{Stop, Goto, Free, IfAny, If, StoreAtNil}
use Rattle.heap_syntax.specs.declared.lines.tree.CommandTree.TheVariants.{Change}
use Rattle.heap_syntax.specs.declared.lines.tree.ChangeTree.{ChangeTree}
use Rattle.heap_syntax.specs.declared.lines.tree.ChangeTree.TheVariants.{New, Assign, Load, Store}
use Rattle.heap_syntax.specs.declared.lines.tree.LineTree.{LineTree}

-- ---- words

abbrev pub line_word : Class (Unit {0})
line_word = keyword (codes "line")

abbrev pub stop_word : Class (Unit {0})
stop_word = keyword (codes "stop")

abbrev pub goto_word : Class (Unit {0})
goto_word = keyword (codes "goto")

abbrev pub free_word : Class (Unit {0})
free_word = keyword (codes "free")

abbrev pub if_word : Class (Unit {0})
if_word = keyword (codes "if")

abbrev pub new_word : Class (Unit {0})
new_word = keyword (codes "new")

abbrev pub dot : Class (Unit {0})
dot = symbol (codes ".")

-- ---- operand = "nil" | variable

abbrev pub to_operand : {V : Type 0} → Unit {0} ⊎ V → OperandTree V
to_operand (inl u) = Nil
to_operand (inr v) = Variable v

abbrev pub from_operand : {V : Type 0} → OperandTree V → Unit {0} ⊎ V
from_operand Nil = inl tt
from_operand (Variable v) = inr v

unfoldable pub operand : {V : Type 0} → Syntax V → Syntax (OperandTree V)
operand {V = V} v = shaped {A = Unit {0} ⊎ V} to_operand from_operand Any (alt (is_one nil) (one nil) v)

-- ---- what stands after a variable, and the semicolon

-- number ";"
unfoldable pub last_number : Syntax ℕ
last_number = before (one number) semicolon

-- "." number ":=" operand ";"
unfoldable pub store : {V : Type 0} → Syntax V → Syntax (ℕ × OperandTree V)
store v = after dot (seq (one number) (after assign (before (operand v) semicolon)))

-- "." number ";" | ";"
unfoldable pub field : Syntax (ℕ ⊎ Unit {0})
field = alt (is_one dot) (after dot last_number) (one semicolon)

-- "new" number ";" | operand [ "." number ] ";"
unfoldable pub source : {V : Type 0} → Syntax V → Syntax (ℕ ⊎ (OperandTree V × (ℕ ⊎ Unit {0})))
source v = alt (is_one new_word) (after new_word last_number) (seq (operand v) field)

abbrev pub Changes : Type 0 → Type 0
Changes V = (ℕ × OperandTree V) ⊎ (ℕ ⊎ (OperandTree V × (ℕ ⊎ Unit {0})))

abbrev pub to_change : {V : Type 0} → Changes V → ChangeTree V
to_change (inl p) = Store p.0 p.1
to_change (inr (inl n)) = New n
to_change (inr (inr (t, inl n))) = Load t n
to_change (inr (inr (t, inr u))) = Assign t

abbrev pub from_change : {V : Type 0} → ChangeTree V → Changes V
from_change (Store n t) = inl (n, t)
from_change (New n) = inr (inl n)
from_change (Load t n) = inr (inr (t, inl n))
from_change (Assign t) = inr (inr (t, inr tt))

-- store | ":=" source
unfoldable pub change : {V : Type 0} → Syntax V → Syntax (ChangeTree V)
change {V = V} v = shaped {A = Changes V} to_change from_change Any
    (alt (is_one dot) (store v) (after assign (source v)))

-- ---- command, and the semicolon after it

-- operand ( "=" | "!=" ) operand "goto" number ";"
abbrev pub Branch : Type 0 → Type 0
Branch V = OperandTree V × (Bool × (OperandTree V × ℕ))

unfoldable pub branch : {V : Type 0} → Syntax V → Syntax (Branch V)
branch v = seq (operand v) (seq sign (seq (operand v) (after goto_word last_number)))

-- "*" "goto" number ";"
unfoldable pub free_branch : Syntax ℕ
free_branch = after star (after goto_word last_number)

-- which versions have free branches
abbrev pub has_free_branches : Version → Bool
has_free_branches One = false
has_free_branches Two = true
has_free_branches Three = true

-- which versions have ends
abbrev pub has_ends : Version → Bool
has_ends One = false
has_ends Two = false
has_ends Three = true

-- what stands after "if": free_branch, where the version has it, or branch
abbrev pub IsBranch : {V : Type 0} → ℕ ⊎ Branch V → Type 0
IsBranch (inl n) = ⊥
IsBranch (inr p) = Unit {0}

abbrev pub the_branch : {V : Type 0} → ℕ ⊎ Branch V → Branch V
the_branch (inl n) = (Nil, (true, (Nil, n)))
the_branch (inr p) = p

unfoldable pub behind_if : {V : Type 0} → Bool → Syntax V → Syntax (ℕ ⊎ Branch V)
behind_if true v = alt (is_one star) free_branch (branch v)
behind_if {V = V} false v = shaped {A = Branch V} inr the_branch IsBranch (branch v)

-- "nil" store | variable change
unfoldable pub update : {V : Type 0} → Syntax V → Syntax ((ℕ × OperandTree V) ⊎ (V × ChangeTree V))
update v = alt (is_one nil) (after nil (store v)) (seq v (change v))

abbrev pub Commands : Type 0 → Type 0
Commands V = Unit {0} ⊎ (ℕ ⊎ (OperandTree V ⊎ ((ℕ ⊎ Branch V) ⊎ ((ℕ × OperandTree V) ⊎ (V × ChangeTree V)))))

abbrev pub to_command : {V : Type 0} → Commands V → CommandTree V
to_command (inl u) = Stop
to_command (inr (inl n)) = Goto n
to_command (inr (inr (inl t))) = Free t
to_command (inr (inr (inr (inl (inl n))))) = IfAny n
to_command (inr (inr (inr (inl (inr p))))) = If p.0 p.1.0 p.1.1.0 p.1.1.1
to_command (inr (inr (inr (inr (inl p))))) = StoreAtNil p.0 p.1
to_command (inr (inr (inr (inr (inr p))))) = Change p.0 p.1

abbrev pub from_command : {V : Type 0} → CommandTree V → Commands V
from_command Stop = inl tt
from_command (Goto n) = inr (inl n)
from_command (Free t) = inr (inr (inl t))
from_command (IfAny n) = inr (inr (inr (inl (inl n))))
from_command (If t b u n) = inr (inr (inr (inl (inr (t, (b, (u, n)))))))
from_command (StoreAtNil n t) = inr (inr (inr (inr (inl (n, t)))))
from_command (Change v c) = inr (inr (inr (inr (inr (v, c)))))

unfoldable pub command : {V : Type 0} → Version → Syntax V → Syntax (CommandTree V)
command {V = V} version v = shaped {A = Commands V} to_command from_command Any
    (alt (is_one stop_word) (after stop_word (one semicolon))
    (alt (is_one goto_word) (after goto_word last_number)
    (alt (is_one free_word) (after free_word (before (operand v) semicolon))
    (alt (is_one if_word) (after if_word (behind_if (has_free_branches version) v)) (update v)))))

-- ---- line = "line" number ":" command ";"

abbrev pub to_line : {V : Type 0} → ℕ × CommandTree V → LineTree V
to_line p = record { number = p.0; command = p.1 }

abbrev pub from_line : {V : Type 0} → LineTree V → ℕ × CommandTree V
from_line l = (l.number, l.command)

unfoldable pub line : {V : Type 0} → Version → Syntax V → Syntax (LineTree V)
line {V = V} version v = shaped {A = ℕ × CommandTree V} to_line from_line Any
    (after line_word (seq (one number) (after colon (command version v))))

unfoldable pub lines : {V : Type 0} → Version → Syntax V → Syntax (List (LineTree V))
lines version v = many (is_one line_word) (line version v)
