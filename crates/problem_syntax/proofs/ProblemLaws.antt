-- The grammar is lawful: what is read is spelled so, what is spelled is read, and a fault is exact.
use Rattle.std.proofs.Common.{◌≡◌, ℕ, Bool, true, false, cond, List, [], ◌∷◌, ◌++◌, Option, Some, None, is_some, Ok}
use Rattle.std.proofs.Common.{Err, refl, sym, subst, inl, inr, ◌⊎◌}
use Rattle.std.specs.Prelude.{codes}
use Rattle.cyc_lex.specs.Word.{Word}
use Rattle.cyc_lex.proofs.Letters.{letters-name}
use Rattle.cyc_grammar.specs.Syntax.{Syntax, ◌>>=◌, read_one, Class, one, seq, after, before, is_one}
use Rattle.cyc_grammar.specs.Classes.{the_end, number, is_free_name}
use Rattle.cyc_grammar.proofs.Laws.{Lawful, Faults, Stops, Begins, BeginsNot, BeginsNot-append, ClassLaw, ok_is, differ}
use Rattle.cyc_grammar.proofs.Laws.{one-law, seq-law, shaped-law, alt-law, many-law, after-law, before-law, nothing-law}
use Rattle.cyc_grammar.proofs.Laws.{headed-law, or_empty-law, Stops-never}
use Rattle.cyc_grammar.proofs.ClassLaws.{symbol-law, keyword-law, the_end-law, number-law, free-no}
use Rattle.heap_syntax.specs.Words.{nil, true_word, emp, pred_word, or_word, last_word, comma, semicolon, bar, arrow}
use Rattle.heap_syntax.specs.Words.{turnstile, opening, closing, opening_brace, closing_brace, prime, reserved}
use Rattle.heap_syntax.specs.Words.{free_name, goal_word, from_word, given_word}
use Rattle.heap_syntax.specs.Grammar.{Any, listed, fields, arguments, some_heap}
use Rattle.heap_syntax.specs.Trees.{Cell, Predicate}
use Rattle.heap_syntax.proofs.HeapLaws.{TermLaw, AtomLaw, closed-stops, listed-law, listed-closed, listed-some}
use Rattle.heap_syntax.proofs.HeapLaws.{listed-not, fields-law, fields-closed, arguments-law, arguments-closed}
use Rattle.heap_syntax.proofs.HeapLaws.{free_name-law, nil-no-name, emp-reserved, heap-law, heap-end, heap-not}
use Rattle.heap_syntax.proofs.HeapLaws.{heaps-law}
use Rattle.heap_syntax.specs.LineGrammar as commands
use Rattle.heap_syntax.specs.EndGrammar as endings
use Rattle.heap_syntax.specs.EndGrammar.{ends_word}
use Rattle.heap_syntax.proofs.EndLaws.{ends-law, ends-end}
use Rattle.heap_syntax.proofs.CommandLaws.{VariableLaw, lines-law, lines-end}
use Rattle.problem_syntax.specs.Trees.{Named, Nil, Plain, Primed, Spatial, Heap, Line, Definition, Goal, Entailment}
use Rattle.problem_syntax.specs.Trees.{From, End}
use Rattle.heap_syntax.specs.declared.version.Version.{Version}
use Rattle.heap_syntax.specs.declared.version.Version.TheVariants.{One, Two, Three}
use Rattle.heap_syntax.specs.Versions.{version}
use Rattle.heap_syntax.proofs.WordTexts.{version-law}
use Rattle.problem_syntax.specs.Grammar.{option_words, option_more, option, is_false, no_prime, forget, primes}
use Rattle.problem_syntax.specs.Grammar.{to_named, from_named, term, terms, Atoms, to_spatial, from_spatial}
use Rattle.problem_syntax.specs.Grammar.{behind_address, behind_name, spatial, heap, parameters, cases, to_definition}
use Rattle.problem_syntax.specs.Grammar.{from_definition, definition, to_goal, from_goal, disjuncts, state, entailment}
use Rattle.problem_syntax.specs.Grammar.{goal, definitions, lines, to_problem, from_problem, last_part, contents, body}
use Rattle.problem_syntax.specs.Grammar.{ends, Contents, problem}

-- ---- a word or nothing

option-takes : (c : Class (Unit {0})) → ClassLaw c → (ts : List Word) (x : Bool × List Word) → (option c).read ts ≡ Ok x
    → (ts ≡ option_words c x.0 ++ x.1) × Stops (option_more c x.0) x.1 × Unit {0}
option-takes c law [] x e = subst (λ (y : Bool × List Word). ([] ≡ option_words c y.0 ++ y.1)
    × Stops (option_more c y.0) y.1 × Unit {0}) (ok_is (false, []) x e) (refl, tt, tt)
option-takes c law (d ∷ r) x e = by_value (c.value d) refl e
  where
    never_stops : (ts : List Word) → Stops (option_more c true) ts
    never_stops [] = tt
    never_stops (t ∷ ts) = refl

    by_value : (o : Option (Unit {0})) → c.value d ≡ o
        → cond (is_some o) (read_one o d r >>= λ y. Ok (true, y.1)) (Ok (false, d ∷ r)) ≡ Ok x
        → (d ∷ r ≡ option_words c x.0 ++ x.1) × Stops (option_more c x.0) x.1 × Unit {0}
    by_value (Some u) h k =
        let same : d ≡ c.word tt = (law.word d u h).0 in
        subst (λ (y : Bool × List Word). (d ∷ r ≡ option_words c y.0 ++ y.1) × Stops (option_more c y.0) y.1 × Unit {0})
        (ok_is (true, r) x k) (rw same refl, never_stops r, tt)
    by_value None h k = subst (λ (y : Bool × List Word). (d ∷ r ≡ option_words c y.0 ++ y.1)
        × Stops (option_more c y.0) y.1 × Unit {0}) (ok_is (false, d ∷ r) x k) (refl, rw h refl, tt)

option-again : (c : Class (Unit {0})) → ClassLaw c → (b : Bool) (rest : List Word) → Stops (option_more c b) rest
    → (option c).read (option_words c b ++ rest) ≡ Ok (b, rest)
option-again c law true rest h = rw (law.value tt law.fits) refl
option-again c law false [] h = refl
option-again c law false (d ∷ r) h = rw h refl

option-fault : (c : Class (Unit {0})) (ts : List Word) (left : ℕ) → (option c).read ts ≡ Err left
    → Faults (option c) ts left
option-fault c [] left e = absurd (differ {A = Bool × List Word} (false, []) left e)
option-fault c (d ∷ r) left e = absurd (by_value (c.value d) e)
  where
    by_value : (o : Option (Unit {0})) → cond (is_some o) (◌>>=◌ {B = Bool × List Word} (read_one o d r)
        (λ y. Ok (true, y.1))) (Ok (false, d ∷ r)) ≡ Err left → ⊥
    by_value (Some u) k = differ {A = Bool × List Word} (true, r) left k
    by_value None k = differ {A = Bool × List Word} (false, d ∷ r) left k

option-law : (c : Class (Unit {0})) → ClassLaw c → Lawful (option c)
option-law c law = record {
  some = false;
  fits = tt;
  takes = option-takes c law;
  again = λ b rest f h. option-again c law b rest h;
  fault = option-fault c;
}

primes-law : (b : Bool) → Lawful (primes b)
unfolding primes
primes-law true = option-law prime (symbol-law _)
primes-law false = shaped-law {A = Unit {0}} no_prime forget is_false _ (λ x f. (refl, refl)) (λ b h. sym h) nothing-law

primes-closed : (b p : Bool) (d : Word) → is_one prime d ≡ false → (primes b).more p d ≡ false
unfolding primes
primes-closed true true d h = refl
primes-closed true false d h = h
primes-closed false p d h = refl

-- ---- terms

nil-reserved : is_free_name reserved (codes "nil") ≡ false
unfolding is_free_name
nil-reserved = rw (letters-name (codes "nil") refl) refl

true-reserved : is_free_name reserved (codes "true") ≡ false
unfolding is_free_name
true-reserved = rw (letters-name (codes "true") refl) refl

from-reserved : is_free_name reserved (codes "from") ≡ false
unfolding is_free_name
from-reserved = rw (letters-name (codes "from") refl) refl

stop-reserved : is_free_name reserved (codes "stop") ≡ false
unfolding is_free_name
stop-reserved = rw (letters-name (codes "stop") refl) refl

goto-reserved : is_free_name reserved (codes "goto") ≡ false
unfolding is_free_name
goto-reserved = rw (letters-name (codes "goto") refl) refl

free-reserved : is_free_name reserved (codes "free") ≡ false
unfolding is_free_name
free-reserved = rw (letters-name (codes "free") refl) refl

if-reserved : is_free_name reserved (codes "if") ≡ false
unfolding is_free_name
if-reserved = rw (letters-name (codes "if") refl) refl

new-reserved : is_free_name reserved (codes "new") ≡ false
unfolding is_free_name
new-reserved = rw (letters-name (codes "new") refl) refl

term-law : (b : Bool) → Lawful (term b)
unfolding term
term-law b =
    shaped-law {A = Unit {0} ⊎ (List ℕ × Bool)} to_named from_named Any _ (λ x f. (there x, tt)) (λ t h. here t)
    (alt-law (is_one nil) (one nil) (seq (one free_name) (primes b)) (λ u f. refl)
    (λ p f. free-no reserved (codes "nil") nil-reserved p.0 f.0) (one-law nil (keyword-law _))
    (seq-law (one free_name) (primes b) (one-law free_name free_name-law) (primes-law b)
    (λ x y r fx fy h. Stops-never ((primes b).words y ++ r))))
  where
    there : (x : Unit {0} ⊎ (List ℕ × Bool)) → from_named (to_named x) ≡ x
    there (inl u) = refl
    there (inr (s, true)) = refl
    there (inr (s, false)) = refl

    here : (t : Named) → to_named (from_named t) ≡ t
    here Nil = refl
    here (Plain s) = refl
    here (Primed s) = refl

term-not : (b : Bool) (test : Word → Bool) → test (nil.word tt) ≡ false
    → ((s : List ℕ) → is_free_name reserved s ≡ true → test (free_name.word s) ≡ false) → (x : Named) → (term b).fits x
    → BeginsNot test ((term b).words x)
unfolding term
term-not b test none each Nil f = none
term-not b test none each (Plain s) f = each s f.1.0
term-not b test none each (Primed s) f = each s f.1.0

terms-all : (b : Bool) → TermLaw (terms b)
unfolding term
terms-all b = record {
  law = term-law b;
  closed = closed;
  not_true = term-not b (is_one true_word) refl (free-no reserved (codes "true") true-reserved);
  not_closing = term-not b (is_one closing) refl (λ s f. refl);
}
  where
    closed : (x : Named) (d : Word) → (term b).fits x → is_one prime d ≡ false → (term b).more x d ≡ false
    closed Nil d f h = refl
    closed (Plain s) d f h = primes-closed b false d h
    closed (Primed s) d f h = primes-closed b true d h

-- ---- spatial atoms

behind_address-law : (b : Bool) → Lawful (behind_address b)
behind_address-law b = after-law arrow _ (symbol-law _)
    (after-law opening (fields (terms b)) (symbol-law _) (fields-law (terms b) (terms-all b)))

no-opening : (b p : Bool) (ts : List Named) → BeginsNot (is_one opening)
    ((seq (primes b) (behind_address b)).words (p, ts))
unfolding primes
no-opening true true ts = refl
no-opening true false ts = refl
no-opening false p ts = refl

behind_name-law : (b : Bool) → Lawful (behind_name b)
unfolding behind_name
behind_name-law b = alt-law (is_one opening) (after opening (arguments (terms b))) (seq (primes b) (behind_address b))
    (λ ts f. refl) (λ c f. no-opening b c.0 c.1)
    (after-law opening (arguments (terms b)) (symbol-law _) (arguments-law (terms b) (terms-all b)))
    (seq-law (primes b) (behind_address b) (primes-law b) (behind_address-law b)
    (λ p ts r fp fts h. primes-closed b p (arrow.word tt) refl))

spatial-law : (b : Bool) → Lawful (spatial b)
unfolding spatial
spatial-law b =
    shaped-law {A = Atoms} to_spatial from_spatial Any _ (λ x f. (there x, tt)) (λ s h. here s)
    (alt-law (is_one free_name) (seq (one free_name) (behind_name b)) (after nil (behind_address b))
    (λ p f. rw (free_name-law.value p.0 f.0) refl) (λ ts f. nil-no-name)
    (seq-law (one free_name) (behind_name b) (one-law free_name free_name-law) (behind_name-law b)
    (λ x y r fx fy h. Stops-never ((behind_name b).words y ++ r)))
    (after-law nil (behind_address b) (keyword-law _) (behind_address-law b)))
  where
    there : (x : Atoms) → from_spatial (to_spatial x) ≡ x
    there (inl (s, inl ts)) = refl
    there (inl (s, inr (true, ts))) = refl
    there (inl (s, inr (false, ts))) = refl
    there (inr ts) = refl

    here : (s : Spatial) → to_spatial (from_spatial s) ≡ s
    here (Predicate s ts) = refl
    here (Cell Nil ts) = refl
    here (Cell (Plain s) ts) = refl
    here (Cell (Primed s) ts) = refl

spatial-closed : (b : Bool) (s : Spatial) (d : Word) → (spatial b).more s d ≡ false
unfolding spatial behind_name
spatial-closed b (Predicate s ts) d = arguments-closed (terms b) ts d
spatial-closed b (Cell Nil ts) d = fields-closed (terms b) ts d
spatial-closed b (Cell (Plain s) ts) d = fields-closed (terms b) ts d
spatial-closed b (Cell (Primed s) ts) d = fields-closed (terms b) ts d

spatial-not : (b : Bool) (s : Spatial) → (spatial b).fits s → BeginsNot (is_one emp) ((spatial b).words s)
unfolding spatial
spatial-not b (Predicate s ts) f = free-no reserved (codes "emp") emp-reserved s f.1.0
spatial-not b (Cell Nil ts) f = refl
spatial-not b (Cell (Plain s) ts) f = free-no reserved (codes "emp") emp-reserved s f.1.0
spatial-not b (Cell (Primed s) ts) f = free-no reserved (codes "emp") emp-reserved s f.1.0

atoms-all : (b : Bool) → AtomLaw (spatial b)
atoms-all b = record { law = spatial-law b; closed = λ s d f. spatial-closed b s d; not_emp = spatial-not b }

heap-lawful : (b : Bool) → Lawful (heap b)
heap-lawful b = heap-law (terms b) (spatial b) (terms-all b) (atoms-all b)

-- ---- definitions

parameters-law : Lawful parameters
unfolding parameters
parameters-law = or_empty-law closing (listed [] comma closing (one free_name)) (symbol-law _)
    (listed-law [] comma closing (one free_name) (record {
      law = symbol-law _;
      last = symbol-law _;
      apart = λ x f. refl;
      last_apart = λ x f. refl;
      differ = refl;
    }) (one-law free_name free_name-law))
    (listed-some [] comma closing (one free_name))
    (listed-not [] comma closing (one free_name) (is_one closing) (λ s f. refl))

parameters-closed : (xs : List (List ℕ)) (d : Word) → parameters.more xs d ≡ false
unfolding parameters
parameters-closed [] d = refl
parameters-closed (x ∷ xs) d = listed-closed [] comma closing (one free_name) (x ∷ xs) d

cases-law : Lawful cases
unfolding cases
cases-law = heaps-law bar closing_brace (terms false) (spatial false) (symbol-law _) (symbol-law _) refl refl refl
    (terms-all false) (atoms-all false)

cases-closed : (hs : List Heap) (d : Word) → cases.more hs d ≡ false
unfolding cases
cases-closed hs d = listed-closed some_heap bar closing_brace (heap false) hs d

definition-law : Lawful definition
unfolding definition
definition-law =
    shaped-law {A = List ℕ × (List (List ℕ) × List Heap)} to_definition from_definition Any _ (λ x f. (refl, tt))
    (λ d h. refl)
    (after-law pred_word _ (keyword-law _)
    (seq-law (one free_name) (after opening (seq parameters (after opening_brace (before cases semicolon))))
    (one-law free_name free_name-law)
    (after-law opening _ (symbol-law _)
    (seq-law parameters (after opening_brace (before cases semicolon)) parameters-law
    (after-law opening_brace _ (symbol-law _) (before-law cases semicolon (symbol-law _) cases-law
    (λ hs f. cases-closed hs (semicolon.word tt))))
    (λ x y r fx fy h. closed-stops parameters (λ x d f. parameters-closed x d) x fx
    ((after opening_brace (before cases semicolon)).words y ++ r))))
    (λ x y r fx fy h. Stops-never ((after opening (seq parameters
    (after opening_brace (before cases semicolon)))).words y ++ r))))

definition-closed : (x : Definition) (d : Word) → definition.more x d ≡ false
unfolding definition
definition-closed x d = refl

definition-starts : (x : Definition) → Begins (is_one pred_word) (definition.words x)
unfolding definition
definition-starts x = refl

definitions-law : Lawful definitions
unfolding definitions
definitions-law = many-law (is_one pred_word) definition definition-law
    (record { starts = λ x f. definition-starts x; apart = λ x d f h. definition-closed x d })

definitions-end : (d : Word) → is_one pred_word d ≡ false → (ds : List Definition) → definitions.more ds d ≡ false
unfolding definitions
definitions-end d h [] = h
definitions-end d h (x ∷ []) = rw (h, definition-closed x d) refl
definitions-end d h (x ∷ y ∷ ys) = definitions-end d h (y ∷ ys)

-- ---- the program

free_variables : VariableLaw (one free_name)
free_variables = record {
  law = one-law free_name free_name-law;
  closed = λ s d f. refl;
  not_nil = free-no reserved (codes "nil") nil-reserved;
  not_stop = free-no reserved (codes "stop") stop-reserved;
  not_goto = free-no reserved (codes "goto") goto-reserved;
  not_free = free-no reserved (codes "free") free-reserved;
  not_if = free-no reserved (codes "if") if-reserved;
  not_new = free-no reserved (codes "new") new-reserved;
  not_star = λ s f. refl;
}

-- ---- goals

heap-ended-law : Lawful (before (heap true) semicolon)
heap-ended-law = before-law (heap true) semicolon (symbol-law _) (heap-lawful true)
    (λ h f. heap-end (terms true) (spatial true) (atoms-all true) (semicolon.word tt) refl h f)

state-law : Lawful state
unfolding state
state-law = after-law from_word _ (keyword-law _) (seq-law (one number)
    (after given_word (before (heap true) semicolon)) (one-law number number-law)
    (after-law given_word _ (keyword-law _) heap-ended-law) (λ x y r fx fy h.
    Stops-never ((after given_word (before (heap true) semicolon)).words y ++ r)))

disjuncts-law : Lawful disjuncts
unfolding disjuncts
disjuncts-law = heaps-law or_word semicolon (terms true) (spatial true) (keyword-law _) (symbol-law _) refl refl refl
    (terms-all true) (atoms-all true)

disjuncts-closed : (hs : List Heap) (d : Word) → disjuncts.more hs d ≡ false
unfolding disjuncts
disjuncts-closed hs d = listed-closed some_heap or_word semicolon (heap true) hs d

entailment-law : Lawful entailment
unfolding entailment
entailment-law = seq-law (heap true) (after turnstile disjuncts) (heap-lawful true)
    (after-law turnstile disjuncts (symbol-law _) disjuncts-law)
    (λ x y r fx fy h. heap-end (terms true) (spatial true) (atoms-all true) (turnstile.word tt) refl x fx)

no-from : (p : Heap × List Heap) → entailment.fits p → BeginsNot (is_one from_word) (entailment.words p)
unfolding entailment
no-from p f = BeginsNot-append (is_one from_word) _ _
    (heap-not (terms true) (spatial true) (is_one from_word) refl
    (term-not true (is_one from_word) refl (free-no reserved (codes "from") from-reserved)) p.0 f.0)

goal-law : Lawful goal
unfolding goal state
goal-law =
    shaped-law {A = (ℕ × Heap) ⊎ (Heap × List Heap)} to_goal from_goal Any _ (λ x f. (there x, tt)) (λ g h. here g)
    (alt-law (is_one from_word) state entailment (λ p f. refl) no-from state-law entailment-law)
  where
    there : (x : (ℕ × Heap) ⊎ (Heap × List Heap)) → from_goal (to_goal x) ≡ x
    there (inl p) = refl
    there (inr p) = refl

    here : (g : Goal) → to_goal (from_goal g) ≡ g
    here (From n h) = refl
    here (Entailment h ds) = refl

goal-closed : (g : Goal) (d : Word) → goal.more g d ≡ false
unfolding goal state entailment
goal-closed (From n h) d = refl
goal-closed (Entailment h ds) d = disjuncts-closed ds d

last_part-law : Lawful last_part
unfolding last_part
last_part-law = after-law goal_word _ (keyword-law _)
    (before-law (before goal last_word) semicolon (symbol-law _)
    (before-law goal last_word (keyword-law _) goal-law (λ g f. goal-closed g (last_word.word tt))) (λ g f. refl))

-- ---- problems

-- the ends, and what stands after them
abbrev behind_lines : Version → Syntax (List End × Goal)
behind_lines v = seq (ends v) last_part

goal-apart : (v : Version) (es : List End) (g : Goal) (r : List Word)
    → Stops ((ends v).more es) (last_part.words g ++ r)
unfolding last_part
goal-apart v es g r = ends-end (terms true) (spatial true) v (goal_word.word tt) refl es

-- what goes on neither at the word "ends" nor at "goal" stops before ends and a goal
stops-behind : (v : Version) (more : Word → Bool) (es : List End) (g : Goal) (r : List Word)
    → more (ends_word.word tt) ≡ false → more (goal_word.word tt) ≡ false
    → Stops more ((behind_lines v).words (es, g) ++ r)
unfolding last_part endings.ends endings.end
stops-behind One more es g r h k = k
stops-behind Two more es g r h k = k
stops-behind Three more [] g r h k = k
stops-behind Three more (e ∷ es) g r h k = h

rest-apart : (v : Version) (ls : List Line) (es : List End) (g : Goal) (r : List Word)
    → Stops ((lines v).more ls) ((behind_lines v).words (es, g) ++ r)
rest-apart v ls es g r = stops-behind v ((lines v).more ls) es g r
    (lines-end v (one free_name) (ends_word.word tt) refl ls) (lines-end v (one free_name) (goal_word.word tt) refl ls)

definitions-apart : (v : Version) (ds : List Definition) (ls : List Line) (es : List End) (g : Goal) (r : List Word)
    → Stops (definitions.more ds) ((seq (lines v) (behind_lines v)).words (ls, (es, g)) ++ r)
unfolding commands.lines commands.line
definitions-apart v ds [] es g r = stops-behind v (definitions.more ds) es g r
    (definitions-end (ends_word.word tt) refl ds) (definitions-end (goal_word.word tt) refl ds)
definitions-apart v ds (l ∷ ls) es g r = definitions-end (commands.line_word.word tt) refl ds

contents-law : (v : Version) → Lawful (contents v)
contents-law v =
    after-law semicolon _ (symbol-law _)
    (seq-law definitions (seq (lines v) (behind_lines v)) definitions-law
    (seq-law (lines v) (behind_lines v) (lines-law v (one free_name) free_variables)
    (seq-law (ends v) last_part (ends-law (terms true) (spatial true) v (terms-all true) (atoms-all true)) last_part-law
    (λ es g r fes fg h. goal-apart v es g r))
    (λ ls p r fls fp h. rest-apart v ls p.0 p.1 r))
    (λ ds p r fx fy h. definitions-apart v ds p.0 p.1.0 p.1.1 r))

body-law : Lawful body
unfolding body
body-law =
    shaped-law {A = (v : Version) × Contents} to_problem from_problem Any _
    (λ x f. (refl, tt)) (λ p h. refl)
    (after-law _ _ (keyword-law _) (after-law _ _ (keyword-law _)
    (headed-law version contents version-law contents-law)))

pub problem-law : Lawful problem
unfolding problem body last_part
problem-law = before-law body the_end the_end-law body-law (λ p f. refl)
