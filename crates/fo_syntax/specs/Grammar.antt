-- The grammar of terms and atoms. Locals stand in cases alone: a parameter says whether they may.
use Rattle.std.specs.Prelude.{ℕ, zero, suc, Bool, true, false, List, [], ◌∷◌, ◌⊎◌, Ok}
use Rattle.std.proofs.Common.{inl, inr}
use Rattle.cyc_lex.specs.Word.{Word}
use Rattle.cyc_grammar.specs.Syntax.{Reading, ◌>>=◌, Syntax, one, seq, alt, shaped, after, before, is_one}
use Rattle.cyc_grammar.specs.Classes.{number}
use Rattle.heap_syntax.specs.Grammar.{Any}
use Rattle.heap_syntax.specs.Words.{equal, comma, opening, closing, dollar, query}
use Rattle.fo_syntax.specs.declared.terms.bracket.Awaited.{Awaited}
use Rattle.fo_syntax.specs.declared.terms.bracket.Awaited.TheVariants.{First, Next, Nothing}
use Rattle.fo_syntax.specs.Words.{free_name}
use Rattle.fo_syntax.specs.Steps.{Steps, steps, option}
use Rattle.fo_syntax.specs.Trees.{Sign, Variable, Local, Apply, AreTerms, Atom, Equation, Predicate}
use Rattle.fo_syntax.specs.Brackets.{Mark, Leaf, Opening, Closing, brackets, innermost, counted}

-- ---- "$" number, and "?" number where locals may stand

abbrev pub to_leaf : ℕ ⊎ ℕ → Sign
to_leaf (inl n) = Variable n
to_leaf (inr n) = Local n

abbrev pub from_leaf : Sign → ℕ ⊎ ℕ
from_leaf (Variable n) = inl n
from_leaf (Local n) = inr n
from_leaf (Apply name n) = inl 0

abbrev pub IsLeaf : Sign → Type 0
IsLeaf (Variable n) = Unit {0}
IsLeaf (Local n) = Unit {0}
IsLeaf (Apply name n) = ⊥

abbrev pub from_variable : Sign → ℕ
from_variable (Variable n) = n
from_variable (Local n) = 0
from_variable (Apply name n) = 0

abbrev pub to_variable : ℕ → Sign
to_variable n = Variable n

abbrev pub IsVariable : Sign → Type 0
IsVariable (Variable n) = Unit {0}
IsVariable (Local n) = ⊥
IsVariable (Apply name n) = ⊥

unfoldable pub leaf : Bool → Syntax Sign
leaf true = shaped {A = ℕ ⊎ ℕ} to_leaf from_leaf IsLeaf
    (alt (is_one dollar) (after dollar (one number)) (after query (one number)))
leaf false = shaped {A = ℕ} to_variable from_variable IsVariable (after dollar (one number))

-- ---- what may come within an application

abbrev pub to_head : List ℕ ⊎ Sign → Mark
to_head (inl name) = Opening name
to_head (inr s) = Leaf s

abbrev pub from_head : Mark → List ℕ ⊎ Sign
from_head (Leaf s) = inr s
from_head (Opening name) = inl name
from_head Closing = inl []

abbrev pub IsHead : Mark → Type 0
IsHead (Leaf s) = Unit {0}
IsHead (Opening name) = Unit {0}
IsHead Closing = ⊥

unfoldable pub named : Syntax (List ℕ)
named = before (one free_name) opening

-- a variable, or a name and its opening bracket
unfoldable pub head : Bool → Syntax Mark
head locals = shaped {A = List ℕ ⊎ Sign} to_head from_head IsHead (alt (is_one free_name) named (leaf locals))

abbrev pub to_mark : Unit {0} ⊎ Mark → Mark
to_mark (inl u) = Closing
to_mark (inr m) = m

abbrev pub from_mark : Mark → Unit {0} ⊎ Mark
from_mark (Leaf s) = inr (Leaf s)
from_mark (Opening name) = inr (Opening name)
from_mark Closing = inl tt

unfoldable pub first_mark : Bool → Syntax Mark
first_mark locals = shaped {A = Unit {0} ⊎ Mark} to_mark from_mark Any
    (alt (is_one closing) (one closing) (head locals))

unfoldable pub next_mark : Bool → Syntax Mark
next_mark locals = shaped {A = Unit {0} ⊎ Mark} to_mark from_mark Any
    (alt (is_one closing) (one closing) (after comma (head locals)))

abbrev pub is_awaited : Awaited → Bool
is_awaited (First n) = true
is_awaited (Next n) = true
is_awaited Nothing = false

abbrev pub mark : Bool → Awaited → Syntax Mark
mark locals (First n) = first_mark locals
mark locals (Next n) = next_mark locals
mark locals Nothing = next_mark locals

-- what is awaited where a bracket is closed that stood within so many
abbrev pub closed_in : ℕ → Awaited
closed_in zero = Nothing
closed_in (suc n) = Next n

abbrev pub behind_mark : Awaited → Mark → Awaited
behind_mark (First n) (Leaf s) = Next n
behind_mark (First n) (Opening name) = First (suc n)
behind_mark (First n) Closing = closed_in n
behind_mark (Next n) (Leaf s) = Next n
behind_mark (Next n) (Opening name) = First (suc n)
behind_mark (Next n) Closing = closed_in n
behind_mark Nothing m = Nothing

abbrev pub within : Bool → Steps Awaited Mark
within locals = record { wants = is_awaited; item = mark locals; next = behind_mark }

-- what stands after the opening bracket of an application, its closing bracket too
unfoldable pub marks : Bool → Syntax (List Mark)
marks locals = steps (within locals) (First 0)

-- ---- foterm = "$" number | "?" number | name "(" [ foterm { "," foterm } ] ")"

abbrev pub applied : List ℕ → List Sign × List ℕ → List Sign
applied name c = Apply name (innermost c.1) ∷ c.0

abbrev pub to_application : List ℕ × List Mark → List Sign
to_application p = applied p.0 (counted p.1)

abbrev pub from_application : List Sign → List ℕ × List Mark
from_application [] = ([], [])
from_application (Variable n ∷ ss) = ([], [])
from_application (Local n ∷ ss) = ([], [])
from_application (Apply name n ∷ ss) = (name, brackets (n ∷ []) ss)

abbrev pub IsApplication : List Sign → Type 0
IsApplication [] = ⊥
IsApplication (Variable n ∷ ss) = ⊥
IsApplication (Local n ∷ ss) = ⊥
IsApplication (Apply name n ∷ ss) = AreTerms n ss

unfoldable pub application : Bool → Syntax (List Sign)
application locals = shaped {A = List ℕ × List Mark} to_application from_application IsApplication
    (seq named (marks locals))

abbrev pub to_term : List Sign ⊎ Sign → List Sign
to_term (inl ss) = ss
to_term (inr s) = s ∷ []

abbrev pub from_term : List Sign → List Sign ⊎ Sign
from_term [] = inl []
from_term (Variable n ∷ ss) = inr (Variable n)
from_term (Local n ∷ ss) = inr (Local n)
from_term (Apply name n ∷ ss) = inl (Apply name n ∷ ss)

abbrev pub IsTerm : List Sign → Type 0
IsTerm ss = AreTerms 1 ss

unfoldable pub term : Bool → Syntax (List Sign)
term locals = shaped {A = List Sign ⊎ Sign} to_term from_term IsTerm
    (alt (is_one free_name) (application locals) (leaf locals))

-- ---- foatom = foterm "=" foterm | name "(" [ foterm { "," foterm } ] ")"

abbrev pub Sides : Type 0
Sides = (List Sign × (Unit {0} ⊎ List Sign)) ⊎ (Sign × List Sign)

abbrev pub to_atom : Sides → Atom
to_atom (inl (t, inl u)) = Predicate t
to_atom (inl (t, inr u)) = Equation t u
to_atom (inr (s, u)) = Equation (s ∷ []) u

abbrev pub equated : List Sign → List Sign ⊎ Sign → Sides
equated u (inl t) = inl (t, inr u)
equated u (inr s) = inr (s, u)

abbrev pub from_atom : Atom → Sides
from_atom (Equation t u) = equated u (from_term t)
from_atom (Predicate t) = inl (t, inl tt)

abbrev pub IsAtom : Atom → Type 0
IsAtom (Equation t u) = IsTerm t
IsAtom (Predicate t) = Unit {0}

unfoldable pub atom : Bool → Syntax Atom
atom locals = shaped {A = Sides} to_atom from_atom IsAtom
    (alt (is_one free_name) (seq (application locals) (option equal (term locals)))
    (seq (leaf locals) (after equal (term locals))))

-- a variable that is read as a term
abbrev pub leaf_read : Bool → List Word → Reading (List Sign)
leaf_read locals ts = (leaf locals).read ts >>= λ x. Ok (x.0 ∷ [], x.1)
