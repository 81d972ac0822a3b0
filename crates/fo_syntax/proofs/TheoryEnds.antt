-- The texts of theories, sequents and problem files are of lexemes, and the end word stands last.
use Rattle.std.proofs.Common.{◌≡◌, ℕ, Bool, true, false, List, refl}
use Rattle.std.specs.Prelude.{codes}
use Rattle.cyc_lex.specs.Word.{is_lexeme}
use Rattle.cyc_lex.proofs.Letters.{letters-name}
use Rattle.cyc_grammar.specs.Syntax.{one, is_one, uncons}
use Rattle.cyc_grammar.specs.Classes.{number, keyword}
use Rattle.cyc_grammar.proofs.Ends.{Inner, EndsLast, seq-inner, after-inner, before-inner, many-inner, shaped-inner}
use Rattle.cyc_grammar.proofs.Ends.{or_empty-inner, end-once, number-inner, name-inner}
use Rattle.heap_syntax.specs.Grammar.{Any, cons, IsSome}
use Rattle.heap_syntax.specs.Words.{cyclist_word, pred_word, last_word, comma, semicolon, bar, turnstile, opening}
use Rattle.heap_syntax.specs.Words.{closing, opening_brace, closing_brace, goal_word}
use Rattle.heap_syntax.proofs.WordTexts.{true-word, pred-word, last-word, cyclist-word, first_version-word, syms}
use Rattle.heap_syntax.proofs.WordTexts.{goal-word}
use Rattle.fo_syntax.specs.Words.{free_name, reserved}
use Rattle.fo_syntax.specs.Trees.{Atom}
use Rattle.fo_syntax.specs.Grammar.{atom}
use Rattle.fo_syntax.proofs.TermEnds.{atom-inner}
use Rattle.heap_syntax.specs.Versions.{first_version}
use Rattle.fo_syntax.specs.ProblemWords.{con_word, problem_word}
use Rattle.fo_syntax.specs.Lists.{list_of}
use Rattle.fo_syntax.specs.ProblemTrees.{Constructor, Definition, Sequent}
use Rattle.fo_syntax.specs.ProblemGrammar.{atoms, atoms_or, left, right, to_constructor, from_constructor, con, cases}
use Rattle.fo_syntax.specs.ProblemGrammar.{to_definition, from_definition, definition, to_sequent, from_sequent}
use Rattle.fo_syntax.specs.ProblemGrammar.{sequent, some_constructor, constructors, definitions, to_problem}
use Rattle.fo_syntax.specs.ProblemGrammar.{from_problem, goal, problem_body, problem}
use Rattle.fo_syntax.proofs.ListLaws.{list-inner}

con-word : is_lexeme (con_word.word tt) ≡ true
con-word = letters-name (codes "con") refl

problem-word : is_lexeme (problem_word.word tt) ≡ true
problem-word = letters-name (codes "foproblem") refl

atoms_or-inner : (w : List ℕ) → is_lexeme ((keyword w).word tt) ≡ true → (b : Bool) → Inner (atoms_or (keyword w) b)
unfolding atoms_or atoms
atoms_or-inner w h b = or_empty-inner (keyword w) (list_of comma (atom b)) h
    (list-inner comma (atom b) syms.comma_word (atom-inner b))

left-inner : (b : Bool) → Inner (left b)
left-inner b = atoms_or-inner (codes "true") true-word b

right-inner : Inner right
right-inner = atoms_or-inner (codes "false") (letters-name (codes "false") refl) false

con-inner : Inner con
unfolding con
con-inner = shaped-inner {A = List ℕ × ℕ} to_constructor from_constructor Any _
    (after-inner con_word _ con-word (seq-inner (one free_name) _ (name-inner reserved)
    (before-inner (one number) semicolon syms.semicolon_word number-inner)))

definition-inner : Inner definition
unfolding definition cases
definition-inner = shaped-inner {A = List ℕ × (ℕ × List (List Atom))} to_definition from_definition Any _
    (after-inner pred_word _ pred-word (seq-inner (one free_name) _ (name-inner reserved)
    (after-inner opening _ syms.opening_word (seq-inner (one number) _ number-inner
    (after-inner closing _ syms.closing_word (after-inner opening_brace _ syms.opening_brace_word
    (before-inner _ semicolon syms.semicolon_word (before-inner (list_of bar (left true))
    closing_brace syms.closing_brace_word (list-inner bar (left true) syms.bar_word (left-inner true))))))))))

pub sequent-inner : Inner sequent
unfolding sequent
sequent-inner = shaped-inner {A = List Atom × List Atom} to_sequent from_sequent Any _
    (seq-inner (left false) _ (left-inner false) (after-inner turnstile right syms.turnstile_word right-inner))

pub constructors-inner : Inner constructors
unfolding constructors
constructors-inner = shaped-inner {A = Constructor × List Constructor} cons (uncons some_constructor) IsSome _
    (seq-inner con _ con-inner (many-inner (is_one con_word) con con-inner))

pub definitions-inner : Inner definitions
unfolding definitions
definitions-inner = many-inner (is_one pred_word) definition definition-inner

goal-inner : Inner goal
unfolding goal
goal-inner = after-inner goal_word _ goal-word (before-inner _ semicolon syms.semicolon_word
    (before-inner _ last_word last-word (before-inner sequent semicolon syms.semicolon_word sequent-inner)))

problem_body-inner : Inner problem_body
unfolding problem_body
problem_body-inner = shaped-inner {A = List Constructor × (List Definition × Sequent)} to_problem from_problem Any _
    (after-inner cyclist_word _ cyclist-word (after-inner problem_word _ problem-word
    (after-inner first_version _ first_version-word (after-inner semicolon _ syms.semicolon_word
    (seq-inner constructors _ constructors-inner (seq-inner definitions goal definitions-inner goal-inner))))))

pub problem-last : EndsLast problem
unfolding problem
problem-last = end-once problem_body problem_body-inner
