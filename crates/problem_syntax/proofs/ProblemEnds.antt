-- The texts of the grammar are of lexemes, and the end word stands last.
use Rattle.std.proofs.Common.{◌≡◌, ℕ, Bool, true, false, List, [], refl, ◌⊎◌}
use Rattle.std.specs.Prelude.{codes}
use Rattle.cyc_lex.specs.Word.{are_lexemes}
use Rattle.cyc_lex.proofs.Letters.{letters-name}
use Rattle.cyc_grammar.specs.Syntax.{one, is_one}
use Rattle.cyc_grammar.specs.Classes.{number}
use Rattle.cyc_grammar.proofs.Ends.{Inner, EndsLast, one-inner, seq-inner, after-inner, before-inner, alt-inner}
use Rattle.cyc_grammar.proofs.Ends.{many-inner, shaped-inner, nothing-inner, headed-inner, or_empty-inner, end-once}
use Rattle.cyc_grammar.proofs.Ends.{number-inner, name-inner}
use Rattle.heap_syntax.specs.Words.{nil, pred_word, or_word, last_word, cyclist_word, comma, semicolon, bar, arrow}
use Rattle.heap_syntax.specs.Words.{turnstile, opening, closing, opening_brace, closing_brace, prime, free_name}
use Rattle.heap_syntax.specs.Words.{goal_word, from_word, given_word, reserved}
use Rattle.heap_syntax.specs.declared.version.Version.{Version}
use Rattle.heap_syntax.specs.Versions.{version}
use Rattle.heap_syntax.specs.Grammar.{Any}
use Rattle.heap_syntax.proofs.WordTexts.{nil-word, pred-word, or-word, last-word, cyclist-word, version-word, syms}
use Rattle.heap_syntax.proofs.WordTexts.{from-word, given-word, goal-word}
use Rattle.heap_syntax.proofs.HeapEnds.{listed-inner, fields-inner, arguments-inner, heap-inner, heaps-inner}
use Rattle.heap_syntax.proofs.CommandLaws.{lines-inner}
use Rattle.heap_syntax.proofs.EndLaws.{ends-inner}
use Rattle.problem_syntax.specs.Trees.{Heap}
use Rattle.problem_syntax.specs.Grammar.{problem_word, option_words, option, is_false, no_prime, forget, primes}
use Rattle.problem_syntax.specs.Grammar.{to_named, from_named, term, terms, Atoms, to_spatial, from_spatial}
use Rattle.problem_syntax.specs.Grammar.{behind_address, behind_name, spatial, heap, parameters, cases, to_definition}
use Rattle.problem_syntax.specs.Grammar.{from_definition, definition, to_goal, from_goal, disjuncts, state, entailment}
use Rattle.problem_syntax.specs.Grammar.{goal, definitions, lines, to_problem, from_problem, last_part, contents, body}
use Rattle.problem_syntax.specs.Grammar.{ends, Contents, problem}

-- ---- terms and spatial atoms

option-inner : Inner (option prime)
option-inner = record { inner = each }
  where
    each : (b : Bool) → Unit {0} → are_lexemes (option_words prime b) ≡ true
    each true f = (one-inner prime (λ u f. syms.prime_word)).inner tt tt
    each false f = refl

primes-inner : (b : Bool) → Inner (primes b)
unfolding primes
primes-inner true = option-inner
primes-inner false = shaped-inner {A = Unit {0}} no_prime forget is_false _ nothing-inner

term-inner : (b : Bool) → Inner (term b)
unfolding term
term-inner b = shaped-inner {A = Unit {0} ⊎ (List ℕ × Bool)} to_named from_named Any _
    (alt-inner (is_one nil) (one nil) _ (one-inner nil (λ u f. nil-word))
    (seq-inner (one free_name) (primes b) (name-inner reserved) (primes-inner b)))

address-inner : (b : Bool) → Inner (behind_address b)
address-inner b = after-inner arrow _ syms.arrow_word
    (after-inner opening _ syms.opening_word (fields-inner (terms b) (term-inner b)))

spatial-inner : (b : Bool) → Inner (spatial b)
unfolding spatial behind_name
spatial-inner b = shaped-inner {A = Atoms} to_spatial from_spatial Any _ (alt-inner (is_one free_name) _ _
    (seq-inner (one free_name) _ (name-inner reserved)
    (alt-inner (is_one opening) _ _ (after-inner opening _ syms.opening_word
    (arguments-inner (terms b) (term-inner b))) (seq-inner (primes b) (behind_address b) (primes-inner b)
    (address-inner b))))
    (after-inner nil _ nil-word (address-inner b)))

heap-of : (b : Bool) → Inner (heap b)
heap-of b = heap-inner (terms b) (spatial b) (term-inner b) (spatial-inner b)

-- ---- definitions and goals

definition-inner : Inner definition
unfolding definition parameters cases
definition-inner = shaped-inner {A = List ℕ × (List (List ℕ) × List Heap)} to_definition from_definition Any _
    (after-inner pred_word _ pred-word (seq-inner (one free_name) _ (name-inner reserved)
    (after-inner opening _ syms.opening_word
    (seq-inner _ _ (or_empty-inner closing _ syms.closing_word
    (listed-inner [] comma closing (one free_name) syms.comma_word syms.closing_word (name-inner reserved)))
    (after-inner opening_brace _ syms.opening_brace_word
    (before-inner _ semicolon syms.semicolon_word (heaps-inner bar closing_brace (terms false) (spatial false)
    syms.bar_word syms.closing_brace_word (term-inner false) (spatial-inner false))))))))

goal-inner : Inner goal
unfolding goal state entailment disjuncts
goal-inner = shaped-inner {A = (ℕ × Heap) ⊎ (Heap × List Heap)} to_goal from_goal Any _
    (alt-inner (is_one from_word) _ _
    (after-inner from_word _ from-word (seq-inner (one number) _ number-inner
    (after-inner given_word _ given-word (before-inner (heap true) semicolon syms.semicolon_word (heap-of true)))))
    (seq-inner (heap true) _ (heap-of true) (after-inner turnstile _ syms.turnstile_word
    (heaps-inner or_word semicolon (terms true) (spatial true) or-word syms.semicolon_word (term-inner true)
    (spatial-inner true)))))

-- ---- problems

last_part-inner : Inner last_part
unfolding last_part
last_part-inner = after-inner goal_word _ goal-word
    (before-inner _ semicolon syms.semicolon_word (before-inner goal last_word last-word goal-inner))

contents-inner : (v : Version) → Inner (contents v)
unfolding definitions
contents-inner v =
    after-inner semicolon _ syms.semicolon_word (seq-inner _ _
    (many-inner (is_one pred_word) definition definition-inner)
    (seq-inner (lines v) _ (lines-inner v (one free_name) (name-inner reserved))
    (seq-inner (ends v) last_part (ends-inner (terms true) (spatial true) v (term-inner true) (spatial-inner true))
    last_part-inner)))

body-inner : Inner body
unfolding body
body-inner = shaped-inner {A = (v : Version) × Contents} to_problem from_problem Any _
    (after-inner cyclist_word _ cyclist-word (after-inner problem_word _ (letters-name (codes "problem") refl)
    (headed-inner version contents version-word contents-inner)))

pub problem-last : EndsLast problem
unfolding problem
problem-last = end-once body body-inner
