-- What is kept of a definition that is read is its front.
use Rattle.std.proofs.Common.{ℕ, Bool, false, List, refl}
use Rattle.cyc_grammar.specs.Syntax.{Class, one}
use Rattle.cyc_grammar.specs.Classes.{number}
use Rattle.heap_syntax.specs.declared.keep.Keep.{Keep}
use Rattle.heap_syntax.specs.Words.{pred_word, semicolon, bar, opening, closing, opening_brace, closing_brace}
use Rattle.heap_syntax.specs.Words.{free_name}
use Rattle.heap_syntax.specs.Grammar.{Any}
use Rattle.heap_syntax.proofs.Fronts as shared
use Rattle.heap_syntax.proofs.Fronts.{Fronts, same-front, seq-front, shaped-front, after-front, before-front}
use Rattle.heap_syntax.specs.DefinitionTrees.{Heap}
use Rattle.heap_syntax.specs.DefinitionKeeping.{heap_front, heaps_front, definition_front}
use Rattle.heap_syntax.specs.DefinitionGrammar.{terms, terms_of, spatial, heap, kept_heap, heaps, kept_heaps}
use Rattle.heap_syntax.specs.DefinitionGrammar.{to_definition, from_definition, cases, kept_cases, definition}
use Rattle.heap_syntax.specs.DefinitionGrammar.{kept_definition}

pub heap-front : (k : Keep) (b : Bool) → Fronts (heap_front k) (heap (terms b)) (kept_heap k (terms b))
heap-front k b = shared.heap-front k (terms_of (terms b)) (spatial (terms b))

pub heaps-front : (k : Keep) (m n : Class (Unit {0})) → Fronts (heaps_front k) (heaps m n) (kept_heaps k m n)
heaps-front k m n = shared.heaps-front k m n (heap (terms false)) (kept_heap k (terms false)) (heap-front k false)

cases-front : (k : Keep) → Fronts (heaps_front k) cases (kept_cases k)
unfolding cases kept_cases
cases-front k = heaps-front k bar closing_brace

pub definition-front : (k : Keep) → Fronts (definition_front k) definition (kept_definition k)
unfolding definition kept_definition
definition-front k =
    shaped-front {A = List ℕ × (ℕ × List Heap)} {C = List ℕ × (ℕ × List Heap)}
    (λ x. (x.0, (x.1.0, heaps_front k x.1.1))) (definition_front k)
    to_definition from_definition Any to_definition from_definition Any _ _ (λ x. refl)
    (after-front pred_word (λ x. (x.0, (x.1.0, heaps_front k x.1.1))) _ _
    (seq-front (λ s. s) (λ y. (y.0, heaps_front k y.1)) (one free_name) _ (one free_name) _ (same-front (one free_name))
    (after-front opening (λ y. (y.0, heaps_front k y.1)) _ _
    (seq-front (λ n. n) (heaps_front k) (one number) _ (one number) _ (same-front (one number))
    (after-front closing (heaps_front k) _ _ (after-front opening_brace (heaps_front k) _ _
    (before-front semicolon (heaps_front k) cases (kept_cases k) (cases-front k))))))))
