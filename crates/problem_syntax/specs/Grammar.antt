-- The grammar of problem files.
use Rattle.std.specs.Prelude.{◌≡◌, ℕ, Bool, true, false, cond, List, [], ◌∷◌, ◌⊎◌, codes, Ok}
use Rattle.std.proofs.Common.{inl, inr}
use Rattle.cyc_lex.specs.Word.{Word}
use Rattle.cyc_grammar.specs.Syntax.{Reading, ◌>>=◌, Syntax, Class, begins, read_class, one, seq, alt, many, shaped}
use Rattle.cyc_grammar.specs.Syntax.{after, before, headed, nothing, is_one, or_empty}
use Rattle.cyc_grammar.specs.Classes.{keyword, number, the_end}
use Rattle.heap_syntax.specs.Words.{nil, pred_word, or_word, last_word, cyclist_word, comma, semicolon, bar, arrow}
use Rattle.heap_syntax.specs.Words.{turnstile, opening, closing, opening_brace, closing_brace, prime, free_name}
use Rattle.heap_syntax.specs.Words.{goal_word, from_word, given_word}
use Rattle.heap_syntax.specs.declared.version.Version.{Version}
use Rattle.heap_syntax.specs.Versions.{version}
use Rattle.heap_syntax.specs.Grammar as shared
use Rattle.heap_syntax.specs.Grammar.{Any, Terms, listed, fields, arguments}
use Rattle.heap_syntax.specs.Trees.{Cell, Predicate}
use Rattle.heap_syntax.specs.LineGrammar as commands
use Rattle.heap_syntax.specs.EndGrammar as endings
use Rattle.problem_syntax.specs.Trees.{Named, Nil, Plain, Primed, Spatial, Heap, Line, End, Definition, Goal}
use Rattle.problem_syntax.specs.Trees.{Entailment, From, Problem}

-- ---- words

abbrev pub problem_word : Class (Unit {0})
problem_word = keyword (codes "problem")

-- ---- a word or nothing

abbrev pub option_words : Class (Unit {0}) → Bool → List Word
option_words c true = c.word tt ∷ []
option_words c false = []

abbrev pub option_more : Class (Unit {0}) → Bool → Word → Bool
option_more c true d = false
option_more c false d = is_one c d

abbrev pub read_option : Class (Unit {0}) → List Word → Reading Bool
read_option c ts = cond (begins (is_one c) ts) (read_class c ts >>= λ x. Ok (true, x.1)) (Ok (false, ts))

abbrev pub option : Class (Unit {0}) → Syntax Bool
option c = record { words = option_words c; read = read_option c; more = option_more c; fits = Any }

-- a prime or none, where primes may stand, and none where they may not
abbrev pub is_false : Bool → Type 0
is_false b = b ≡ false

abbrev pub no_prime : Unit {0} → Bool
no_prime u = false

abbrev pub forget : Bool → Unit {0}
forget b = tt

unfoldable pub primes : Bool → Syntax Bool
primes true = option prime
primes false = shaped {A = Unit {0}} no_prime forget is_false nothing

-- ---- term = "nil" | name [ "'" ]

abbrev pub named : List ℕ → Bool → Named
named s true = Primed s
named s false = Plain s

abbrev pub to_named : Unit {0} ⊎ (List ℕ × Bool) → Named
to_named (inl u) = Nil
to_named (inr p) = named p.0 p.1

abbrev pub from_named : Named → Unit {0} ⊎ (List ℕ × Bool)
from_named Nil = inl tt
from_named (Plain s) = inr (s, false)
from_named (Primed s) = inr (s, true)

unfoldable pub term : Bool → Syntax Named
term b = shaped {A = Unit {0} ⊎ (List ℕ × Bool)} to_named from_named Any
    (alt (is_one nil) (one nil) (seq (one free_name) (primes b)))

abbrev pub terms : Bool → Terms Named
terms b = record { some = Nil; syntax = term b }

-- ---- spat = name ( "(" arguments | [ "'" ] "->" "(" fields ) | "nil" "->" "(" fields

abbrev pub Atoms : Type 0
Atoms = (List ℕ × (List Named ⊎ (Bool × List Named))) ⊎ List Named

abbrev pub to_spatial : Atoms → Spatial
to_spatial (inl (s, inl ts)) = Predicate s ts
to_spatial (inl (s, inr c)) = Cell (named s c.0) c.1
to_spatial (inr ts) = Cell Nil ts

abbrev pub from_spatial : Spatial → Atoms
from_spatial (Predicate s ts) = inl (s, inl ts)
from_spatial (Cell Nil ts) = inr ts
from_spatial (Cell (Plain s) ts) = inl (s, inr (false, ts))
from_spatial (Cell (Primed s) ts) = inl (s, inr (true, ts))

-- "->" "(" fields
abbrev pub behind_address : Bool → Syntax (List Named)
behind_address b = after arrow (after opening (fields (terms b)))

-- what stands after a name
unfoldable pub behind_name : Bool → Syntax (List Named ⊎ (Bool × List Named))
behind_name b = alt (is_one opening) (after opening (arguments (terms b))) (seq (primes b) (behind_address b))

unfoldable pub spatial : Bool → Syntax Spatial
spatial b = shaped {A = Atoms} to_spatial from_spatial Any
    (alt (is_one free_name) (seq (one free_name) (behind_name b)) (after nil (behind_address b)))

-- the heaps of a case, and those of a goal, where names may have primes
abbrev pub heap : Bool → Syntax Heap
heap b = shared.heap (terms b) (spatial b)

-- ---- pred = "pred" name "(" [ name { "," name } ] ")" "{" heap { "|" heap } "}" ";"

unfoldable pub parameters : Syntax (List (List ℕ))
parameters = or_empty closing (listed [] comma closing (one free_name))

unfoldable pub cases : Syntax (List Heap)
cases = shared.heaps bar closing_brace (heap false)

abbrev pub to_definition : List ℕ × (List (List ℕ) × List Heap) → Definition
to_definition p = record { name = p.0; parameters = p.1.0; cases = p.1.1 }

abbrev pub from_definition : Definition → List ℕ × (List (List ℕ) × List Heap)
from_definition d = (d.name, (d.parameters, d.cases))

unfoldable pub definition : Syntax Definition
definition = shaped {A = List ℕ × (List (List ℕ) × List Heap)} to_definition from_definition Any
    (after pred_word (seq (one free_name) (after opening (seq parameters
    (after opening_brace (before cases semicolon))))))

-- ---- goal = "from" number "given" heap ";" | heap "|-" heap { "or" heap } ";"

abbrev pub to_goal : (ℕ × Heap) ⊎ (Heap × List Heap) → Goal
to_goal (inl p) = From p.0 p.1
to_goal (inr p) = Entailment p.0 p.1

abbrev pub from_goal : Goal → (ℕ × Heap) ⊎ (Heap × List Heap)
from_goal (From n h) = inl (n, h)
from_goal (Entailment h ds) = inr (h, ds)

unfoldable pub disjuncts : Syntax (List Heap)
disjuncts = shared.heaps or_word semicolon (heap true)

unfoldable pub state : Syntax (ℕ × Heap)
state = after from_word (seq (one number) (after given_word (before (heap true) semicolon)))

unfoldable pub entailment : Syntax (Heap × List Heap)
entailment = seq (heap true) (after turnstile disjuncts)

unfoldable pub goal : Syntax Goal
goal = shaped {A = (ℕ × Heap) ⊎ (Heap × List Heap)} to_goal from_goal Any (alt (is_one from_word) state entailment)

-- ---- problem = "cyclist" "problem" ( "1" | "2" | "3" ) ";" { pred } { line } { end } "goal" goal "end" ";", and the
-- end of the text

unfoldable pub definitions : Syntax (List Definition)
definitions = many (is_one pred_word) definition

abbrev pub lines : Version → Syntax (List Line)
lines v = commands.lines v (one free_name)

abbrev pub ends : Version → Syntax (List End)
ends v = endings.ends v (terms true) (spatial true)

-- what stands after the version
abbrev pub Contents : Type 0
Contents = List Definition × (List Line × (List End × Goal))

abbrev pub to_problem : (v : Version) × Contents → Problem
to_problem p =
    record { version = p.0; definitions = p.1.0; lines = p.1.1.0; ends = p.1.1.1.0; goal = p.1.1.1.1 }

abbrev pub from_problem : Problem → (v : Version) × Contents
from_problem p = (p.version, (p.definitions, (p.lines, (p.ends, p.goal))))

-- the goal statement and the last one
unfoldable pub last_part : Syntax Goal
last_part = after goal_word (before (before goal last_word) semicolon)

abbrev pub contents : Version → Syntax Contents
contents v = after semicolon (seq definitions (seq (lines v) (seq (ends v) last_part)))

unfoldable pub body : Syntax Problem
body = shaped {A = (v : Version) × Contents} to_problem from_problem Any
    (after cyclist_word (after problem_word (headed version contents)))

unfoldable pub problem : Syntax Problem
problem = before body the_end
