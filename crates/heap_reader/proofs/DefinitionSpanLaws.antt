-- The spans count the words of the grammar, so each flaw's number is that of the token at which it stands.
use Rattle.std.proofs.Common.{◌≡◌, ◌+◌, Bool, true, false, List, [], ◌∷◌, length, refl, arith, length-append}
use Rattle.cyc_grammar.specs.Syntax.{Class}
use Rattle.heap_syntax.specs.Words.{bar, closing_brace, semicolon}
use Rattle.heap_syntax.specs.Grammar.{some_heap}
use Rattle.heap_reader.specs.Spans.{total, heap_span}
use Rattle.heap_reader.proofs.SpanLaws.{listed_words, spatial_words, heap_words as every_heap}
use Rattle.heap_syntax.specs.declared.definitions.tree.TermTree.{TermTree}
use Rattle.heap_syntax.specs.declared.definitions.tree.TermTree.TheVariants.{Nil, Univ, Exist}
use Rattle.heap_syntax.specs.DefinitionTrees.{Heap, Definition}
use Rattle.heap_syntax.specs.DefinitionGrammar.{term, uterm, terms, terms_of, spatial, heap, heaps, cases, definition}
use Rattle.heap_reader.specs.DefinitionSpans.{term_span, definition_span}

term_words : (t : TermTree) → length (term.words t) + 1 ≡ term_span t
unfolding term
term_words Nil = refl
term_words (Univ n) = refl
term_words (Exist n) = refl

pub uterm_words : (t : TermTree) → uterm.fits t → length (uterm.words t) + 1 ≡ term_span t
unfolding uterm
uterm_words Nil f = refl
uterm_words (Univ n) f = refl
uterm_words (Exist n) f = absurd f.0

pub terms_words : (b : Bool) (t : TermTree) → (terms b).fits t → length ((terms b).words t) + 1 ≡ term_span t
unfolding terms
terms_words true t f = uterm_words t f
terms_words false t f = term_words t

pub heap_words : (b : Bool) (h : Heap) → (heap (terms b)).fits h
    → length ((heap (terms b)).words h) + 1 ≡ heap_span term_span h
heap_words b h f =
    every_heap (terms_of (terms b)) term_span (terms_words b) (spatial (terms b))
    (spatial_words (terms_of (terms b)) term_span (terms_words b)) h f

pub heaps_words : (c behind : Class (Unit {0})) (hs : List Heap) → (heaps c behind).fits hs
    → length ((heaps c behind).words hs) ≡ total (heap_span term_span) hs
heaps_words c behind hs f = listed_words some_heap c behind (heap (terms false)) (heap_span term_span)
    (heap_words false) hs f

pub definition_words : (d : Definition) → definition.fits d → length (definition.words d) ≡ definition_span d
unfolding definition cases
definition_words d f =
    let h = heaps_words bar closing_brace d.cases f.1.1.1 in
    let l = length-append ((heaps bar closing_brace).words d.cases) (semicolon.word tt ∷ []) in
    omega arith
