-- The grammar of ends over terms of any form, in each version of the formats.
use Rattle.std.specs.Prelude.{ℕ, Bool, true, false, List, [], ◌∷◌, codes}
use Rattle.cyc_grammar.specs.Syntax.{Syntax, Class, one, seq, many, shaped, after, nothing, is_one}
use Rattle.cyc_grammar.specs.Classes.{keyword, number}
use Rattle.heap_syntax.specs.declared.keep.Keep.{Keep}
use Rattle.heap_syntax.specs.declared.version.Version.{Version}
use Rattle.heap_syntax.specs.Words.{or_word, colon, semicolon}
use Rattle.heap_syntax.specs.Grammar.{Any, Terms, heap, heaps, kept_heap, kept_heaps}
use Rattle.heap_syntax.specs.LineGrammar.{has_ends}
use Rattle.heap_syntax.specs.Trees.{Spatial, Heap}
use Rattle.heap_syntax.specs.EndTrees.{End}

-- this word is not reserved
abbrev pub ends_word : Class (Unit {0})
ends_word = keyword (codes "ends")

-- ---- end = "ends" number ":" heap { "or" heap } ";"

abbrev pub to_end : {T : Type 0} → ℕ × List (Heap T) → End T
to_end p = record { number = p.0; disjuncts = p.1 }

abbrev pub from_end : {T : Type 0} → End T → ℕ × List (Heap T)
from_end e = (e.number, e.disjuncts)

abbrev pub end_over : {T : Type 0} → Syntax (List (Heap T)) → Syntax (End T)
end_over {T = T} disjuncts = shaped {A = ℕ × List (Heap T)} to_end from_end Any
    (after ends_word (seq (one number) (after colon disjuncts)))

unfoldable pub end : {T : Type 0} → Terms T → Syntax (Spatial T) → Syntax (End T)
end t atom = end_over (heaps or_word semicolon (heap t atom))

-- the same, of whose lists so much is kept
unfoldable pub kept_end : {T : Type 0} → Keep → Terms T → Syntax (Spatial T) → Syntax (End T)
kept_end k t atom = end_over (kept_heaps k or_word semicolon (kept_heap k t atom))

-- ---- ends as often as the word "ends" stands next, where the version has them, and else none

abbrev pub IsEmpty : {A : Type 0} → List A → Type 0
IsEmpty [] = Unit {0}
IsEmpty (x ∷ xs) = ⊥

abbrev pub to_none : {A : Type 0} → Unit {0} → List A
to_none u = []

abbrev pub from_none : {A : Type 0} → List A → Unit {0}
from_none xs = tt

abbrev pub ends_where : {T : Type 0} → Bool → Terms T → Syntax (Spatial T) → Syntax (List (End T))
ends_where true t atom = many (is_one ends_word) (end t atom)
ends_where false t atom = shaped {A = Unit {0}} to_none from_none IsEmpty nothing

unfoldable pub ends : {T : Type 0} → Version → Terms T → Syntax (Spatial T) → Syntax (List (End T))
ends version t atom = ends_where (has_ends version) t atom
