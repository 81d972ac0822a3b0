-- The grammar of heaps and of predicates' definitions with numbered variables.
use Rattle.std.specs.Prelude.{ℕ, Bool, true, false, List, ◌⊎◌}
use Rattle.std.proofs.Common.{inl, inr}
use Rattle.cyc_grammar.specs.Syntax.{Syntax, Class, one, seq, alt, many, shaped, after, before, is_one}
use Rattle.cyc_grammar.specs.Classes.{number}
use Rattle.heap_syntax.specs.declared.keep.Keep.{Keep}
use Rattle.heap_syntax.specs.Grammar as shared
use Rattle.heap_syntax.specs.Grammar.{Terms}
use Rattle.heap_syntax.specs.Words.{nil, pred_word, semicolon, bar, opening, closing, opening_brace, closing_brace}
use Rattle.heap_syntax.specs.Words.{free_name, dollar, query}
use Rattle.heap_syntax.specs.Grammar.{Any}
use Rattle.heap_syntax.specs.declared.definitions.tree.TermTree.{TermTree}
use Rattle.heap_syntax.specs.declared.definitions.tree.TermTree.TheVariants.{Nil, Univ, Exist}
use Rattle.heap_syntax.specs.DefinitionTrees.{PureTree, Spatial, Heap, Definition}

-- ---- term = "nil" | "$" number | "?" number

abbrev pub to_term : Unit {0} ⊎ (ℕ ⊎ ℕ) → TermTree
to_term (inl u) = Nil
to_term (inr (inl n)) = Univ n
to_term (inr (inr n)) = Exist n

abbrev pub from_term : TermTree → Unit {0} ⊎ (ℕ ⊎ ℕ)
from_term Nil = inl tt
from_term (Univ n) = inr (inl n)
from_term (Exist n) = inr (inr n)

unfoldable pub term : Syntax TermTree
term = shaped {A = Unit {0} ⊎ (ℕ ⊎ ℕ)} to_term from_term Any
    (alt (is_one nil) (one nil) (alt (is_one dollar) (after dollar (one number)) (after query (one number))))

-- ---- uterm = "nil" | "$" number

abbrev pub to_uterm : Unit {0} ⊎ ℕ → TermTree
to_uterm (inl u) = Nil
to_uterm (inr n) = Univ n

abbrev pub from_uterm : TermTree → Unit {0} ⊎ ℕ
from_uterm Nil = inl tt
from_uterm (Univ n) = inr n
from_uterm (Exist n) = inl tt

abbrev pub IsUniversal : TermTree → Type 0
IsUniversal Nil = Unit {0}
IsUniversal (Univ n) = Unit {0}
IsUniversal (Exist n) = ⊥

unfoldable pub uterm : Syntax TermTree
uterm = shaped {A = Unit {0} ⊎ ℕ} to_uterm from_uterm IsUniversal
    (alt (is_one nil) (one nil) (after dollar (one number)))

-- the terms of an antecedent, and those of a succedent, a case or a formula
unfoldable pub terms : Bool → Syntax TermTree
terms true = uterm
terms false = term

-- ---- heaps over these terms

abbrev pub terms_of : Syntax TermTree → Terms TermTree
terms_of t = record { some = Nil; syntax = t }

abbrev pub some_pure : PureTree
some_pure = shared.some_pure (terms_of term)

abbrev pub pures1 : Syntax TermTree → Syntax (List PureTree)
pures1 t = shared.pures1 (terms_of t)

abbrev pub pures : Syntax TermTree → Syntax (List PureTree)
pures t = shared.pures (terms_of t)

abbrev pub fields : Syntax TermTree → Syntax (List TermTree)
fields t = shared.fields (terms_of t)

abbrev pub arguments : Syntax TermTree → Syntax (List TermTree)
arguments t = shared.arguments (terms_of t)

abbrev pub spatial : Syntax TermTree → Syntax Spatial
spatial t = shared.spatial (terms_of t)

abbrev pub some_spatial : Spatial
some_spatial = shared.some_spatial (terms_of term)

abbrev pub spatials : Syntax TermTree → Syntax (List Spatial)
spatials t = shared.spatials (terms_of t) (spatial t)

abbrev pub heap : Syntax TermTree → Syntax Heap
heap t = shared.heap (terms_of t) (spatial t)

abbrev pub heaps : Class (Unit {0}) → Class (Unit {0}) → Syntax (List Heap)
heaps between behind = shared.heaps between behind (heap (terms false))

-- the same, of whose lists so much is kept
abbrev pub kept_heap : Keep → Syntax TermTree → Syntax Heap
kept_heap k t = shared.kept_heap k (terms_of t) (spatial t)

abbrev pub kept_heaps : Keep → Class (Unit {0}) → Class (Unit {0}) → Syntax (List Heap)
kept_heaps k between behind = shared.kept_heaps k between behind (kept_heap k (terms false))

-- ---- pred = "pred" name "(" number ")" "{" heap { "|" heap } "}" ";"

abbrev pub to_definition : List ℕ × (ℕ × List Heap) → Definition
to_definition p = record { name = p.0; arity = p.1.0; cases = p.1.1 }

abbrev pub from_definition : Definition → List ℕ × (ℕ × List Heap)
from_definition d = (d.name, (d.arity, d.cases))

unfoldable pub cases : Syntax (List Heap)
cases = heaps bar closing_brace

unfoldable pub kept_cases : Keep → Syntax (List Heap)
kept_cases k = kept_heaps k bar closing_brace

abbrev pub definition_over : Syntax (List Heap) → Syntax Definition
definition_over cases = shaped {A = List ℕ × (ℕ × List Heap)} to_definition from_definition Any
    (after pred_word (seq (one free_name) (after opening (seq (one number)
    (after closing (after opening_brace (before cases semicolon)))))))

unfoldable pub definition : Syntax Definition
definition = definition_over cases

unfoldable pub kept_definition : Keep → Syntax Definition
kept_definition k = definition_over (kept_cases k)

-- definitions as often as the word "pred" stands next
unfoldable pub definitions : Syntax (List Definition)
definitions = many (is_one pred_word) definition
