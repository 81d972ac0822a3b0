-- The grammar is lawful: what is read is spelled so, what is spelled is read, and a fault is exact.
use Rattle.std.proofs.Common.{◌≡◌, ℕ, ◌<◌, Bool, true, false, List, [], ◌∷◌, ◌++◌, length, refl, arith}
use Rattle.std.specs.Prelude.{codes}
use Rattle.cyc_lex.specs.Word.{Word}
use Rattle.cyc_lex.proofs.Letters.{letters-name}
use Rattle.cyc_grammar.specs.Syntax.{Syntax, Class, one, seq, many, more_many, after, before, is_one, uncons}
use Rattle.cyc_grammar.specs.Classes.{the_end, number, keyword, is_free_name}
use Rattle.cyc_grammar.proofs.Laws.{Lawful, Stops, Begins, BeginsNot, one-law, seq-law, shaped-law, many-law, after-law}
use Rattle.cyc_grammar.proofs.Laws.{before-law, or_empty-law, uncons-cons, Stops-never}
use Rattle.cyc_grammar.proofs.ClassLaws.{symbol-law, keyword-law, the_end-law, number-law, free-no}
use Rattle.heap_syntax.specs.Grammar.{Any, cons, IsSome}
use Rattle.heap_syntax.specs.Words.{pred_word, last_word, comma, semicolon, bar, turnstile, equal, opening, closing}
use Rattle.heap_syntax.specs.Words.{opening_brace, closing_brace, goal_word}
use Rattle.heap_syntax.proofs.WordTexts.{first_version-law}
use Rattle.fo_syntax.specs.Words.{reserved, free_name}
use Rattle.fo_syntax.specs.Trees.{Atom}
use Rattle.fo_syntax.specs.Grammar.{atom}
use Rattle.fo_syntax.proofs.TermLaws.{free_name-law, atom-law, atom-end, atom-not}
use Rattle.heap_syntax.specs.Versions.{first_version}
use Rattle.fo_syntax.specs.ProblemWords.{con_word}
use Rattle.fo_syntax.specs.Lists.{list_of}
use Rattle.fo_syntax.specs.ProblemTrees.{Constructor, Definition, Sequent}
use Rattle.fo_syntax.specs.ProblemGrammar.{atoms, atoms_or, left, right, to_constructor, from_constructor, con, cases}
use Rattle.fo_syntax.specs.ProblemGrammar.{to_definition, from_definition, definition, to_sequent, from_sequent}
use Rattle.fo_syntax.specs.ProblemGrammar.{sequent, some_constructor, constructors, definitions, to_problem}
use Rattle.fo_syntax.specs.ProblemGrammar.{from_problem, goal, problem_body, problem}
use Rattle.fo_syntax.proofs.ListLaws.{Parted, list-law, list-end, list-not}

-- a text that nothing goes on stops before any words
pub closed-stops : {A : Type 0} (a : Syntax A) → ((x : A) (d : Word) → a.more x d ≡ false) → (x : A) → (ws : List Word)
    → Stops (a.more x) ws
closed-stops a closed x [] = tt
closed-stops a closed x (d ∷ ws) = closed x d

-- ---- atoms

atom-parted : (b : Bool) → Parted comma (atom b)
atom-parted b = record { word = symbol-law _; law = atom-law b; apart = λ x f. atom-end b x (comma.word tt) refl }

atoms-law : (b : Bool) → Lawful (atoms b)
unfolding atoms
atoms-law b = list-law comma (atom b) (atom-parted b)

-- a list of atoms goes on at "," and "=" alone
atoms-end : (b : Bool) (d : Word) → is_one comma d ≡ false → is_one equal d ≡ false → (xs : List Atom)
    → (atoms b).fits xs → (atoms b).more xs d ≡ false
unfolding atoms
atoms-end b d h k xs f = list-end comma (atom b) d h (λ x g. atom-end b x d k) xs f.1

atoms-some : (b : Bool) (xs : List Atom) → (atoms b).fits xs → 0 < length xs
unfolding atoms
atoms-some b xs f = f.0

-- a word that is no name, no atom begins with
atoms-not : (b : Bool) (w : List ℕ) → is_free_name reserved w ≡ false → (xs : List Atom) → (atoms b).fits xs
    → BeginsNot (is_one (keyword w)) ((atoms b).words xs)
unfolding atoms
atoms-not b w taken xs f = list-not comma (atom b) (is_one (keyword w))
    (atom-not (is_one (keyword w)) refl refl (λ s h. free-no reserved w taken s h) b) xs f

atoms_or-law : (w : List ℕ) → is_free_name reserved w ≡ false → (b : Bool) → Lawful (atoms_or (keyword w) b)
unfolding atoms_or
atoms_or-law w taken b = or_empty-law (keyword w) (atoms b) (keyword-law w) (atoms-law b) (atoms-some b)
    (atoms-not b w taken)

atoms_or-end : (w : List ℕ) (b : Bool) (d : Word) → is_one comma d ≡ false → is_one equal d ≡ false → (xs : List Atom)
    → (atoms_or (keyword w) b).fits xs → (atoms_or (keyword w) b).more xs d ≡ false
unfolding atoms_or
atoms_or-end w b d h k [] f = refl
atoms_or-end w b d h k (x ∷ xs) f = atoms-end b d h k (x ∷ xs) f.1

true-taken : is_free_name reserved (codes "true") ≡ false
unfolding is_free_name
true-taken = rw (letters-name (codes "true") refl) refl

false-taken : is_free_name reserved (codes "false") ≡ false
unfolding is_free_name
false-taken = rw (letters-name (codes "false") refl) refl

left-law : (b : Bool) → Lawful (left b)
left-law b = atoms_or-law (codes "true") true-taken b

right-law : Lawful right
right-law = atoms_or-law (codes "false") false-taken false

right-end : (d : Word) → is_one comma d ≡ false → is_one equal d ≡ false → (xs : List Atom) → right.fits xs
    → right.more xs d ≡ false
right-end d h k xs f = atoms_or-end (codes "false") false d h k xs f

-- ---- constructors and definitions

con-law : Lawful con
unfolding con
con-law =
    shaped-law {A = List ℕ × ℕ} to_constructor from_constructor Any _ (λ x f. (refl, tt)) (λ c h. refl)
    (after-law con_word _ (keyword-law _) (seq-law (one free_name) (before (one number) semicolon)
    (one-law free_name free_name-law) (before-law (one number) semicolon (symbol-law _) (one-law number number-law)
    (λ n f. refl)) (λ x y r fx fy h. Stops-never ((before (one number) semicolon).words y ++ r))))

con-closed : (c : Constructor) (d : Word) → con.more c d ≡ false
unfolding con
con-closed c d = refl

con-starts : (c : Constructor) → Begins (is_one con_word) (con.words c)
unfolding con
con-starts c = refl

case-parted : Parted bar (left true)
case-parted = record {
  word = symbol-law _;
  law = left-law true;
  apart = λ xs f. atoms_or-end (codes "true") true (bar.word tt) refl refl xs f;
}

cases-law : Lawful cases
unfolding cases
cases-law = before-law (list_of bar (left true)) closing_brace (symbol-law _) (list-law bar (left true) case-parted)
    (λ xs f. list-end bar (left true) (closing_brace.word tt) refl
    (λ ys g. atoms_or-end (codes "true") true (closing_brace.word tt) refl refl ys g) xs f.1)

cases-closed : (xs : List (List Atom)) (d : Word) → cases.more xs d ≡ false
unfolding cases
cases-closed xs d = refl

definition-law : Lawful definition
unfolding definition
definition-law =
    shaped-law {A = List ℕ × (ℕ × List (List Atom))} to_definition from_definition Any _ (λ x f. (refl, tt))
    (λ c h. refl)
    (after-law pred_word _ (keyword-law _) (seq-law (one free_name)
    (after opening (seq (one number) (after closing (after opening_brace (before cases semicolon)))))
    (one-law free_name free_name-law)
    (after-law opening _ (symbol-law _) (seq-law (one number)
    (after closing (after opening_brace (before cases semicolon))) (one-law number number-law)
    (after-law closing _ (symbol-law _) (after-law opening_brace _ (symbol-law _)
    (before-law cases semicolon (symbol-law _) cases-law (λ xs f. cases-closed xs (semicolon.word tt)))))
    (λ x y r fx fy h. Stops-never ((after closing (after opening_brace (before cases semicolon))).words y ++ r))))
    (λ x y r fx fy h. Stops-never ((after opening (seq (one number)
    (after closing (after opening_brace (before cases semicolon))))).words y ++ r))))

definition-closed : (c : Definition) (d : Word) → definition.more c d ≡ false
unfolding definition
definition-closed c d = refl

pub definition-starts : (c : Definition) → Begins (is_one pred_word) (definition.words c)
unfolding definition
definition-starts c = refl

-- ---- sequents

pub sequent-law : Lawful sequent
unfolding sequent
sequent-law =
    shaped-law {A = List Atom × List Atom} to_sequent from_sequent Any _ (λ x f. (refl, tt)) (λ c h. refl)
    (seq-law (left false) (after turnstile right) (left-law false) (after-law turnstile right (symbol-law _) right-law)
    (λ x y r fx fy h. atoms_or-end (codes "true") false (turnstile.word tt) refl refl x fx))

-- a sequent goes on at "," and "=" alone
pub sequent-end : (d : Word) → is_one comma d ≡ false → is_one equal d ≡ false → (s : Sequent) → sequent.fits s
    → sequent.more s d ≡ false
unfolding sequent
sequent-end d h k s f = right-end d h k s.right f.1.1

-- ---- lists of statements

-- a list of statements that begin with a word, none of which goes on
pub record Statements {A : Type 0} (w : Class (Unit {0})) (a : Syntax A) : Type 0 where
  pub law : Lawful a
  pub starts : (x : A) → Begins (is_one w) (a.words x)
  pub closed : (x : A) (d : Word) → a.more x d ≡ false

pub statements-law : {A : Type 0} (w : Class (Unit {0})) (a : Syntax A) → Statements w a → Lawful (many (is_one w) a)
statements-law w a s = many-law (is_one w) a s.law
    (record { starts = λ x f. s.starts x; apart = λ x d f h. s.closed x d })

pub statements-end : {A : Type 0} (w : Class (Unit {0})) (a : Syntax A) → Statements w a → (d : Word)
    → is_one w d ≡ false → (xs : List A) → more_many (is_one w) a xs d ≡ false
statements-end w a s d h [] = h
statements-end w a s d h (x ∷ []) = rw (h, s.closed x d) refl
statements-end w a s d h (x ∷ y ∷ ys) = statements-end w a s d h (y ∷ ys)

con-statements : Statements con_word con
con-statements = record { law = con-law; starts = con-starts; closed = con-closed }

definition-statements : Statements pred_word definition
definition-statements = record { law = definition-law; starts = definition-starts; closed = definition-closed }

pub constructors-law : Lawful constructors
unfolding constructors
constructors-law =
    shaped-law {A = Constructor × List Constructor} cons (uncons some_constructor) IsSome _ (λ x f. (refl, omega arith))
    (λ cs h. uncons-cons some_constructor cs h)
    (seq-law con (many (is_one con_word) con) con-law (statements-law con_word con con-statements)
    (λ x y r fx fy h. closed-stops con con-closed x ((many (is_one con_word) con).words y ++ r)))

pub constructors-end : (d : Word) → is_one con_word d ≡ false → (cs : List Constructor) → constructors.more cs d ≡ false
unfolding constructors
constructors-end d h cs = statements-end con_word con con-statements d h ((uncons some_constructor cs).1)

pub definitions-law : Lawful definitions
unfolding definitions
definitions-law = statements-law pred_word definition definition-statements

pub definitions-end : (d : Word) → is_one pred_word d ≡ false → (ds : List Definition) → definitions.more ds d ≡ false
unfolding definitions
definitions-end d h ds = statements-end pred_word definition definition-statements d h ds

-- ---- problem files

goal-law : Lawful goal
unfolding goal
goal-law = after-law goal_word _ (keyword-law _) (before-law _ semicolon (symbol-law _)
    (before-law _ last_word (keyword-law _) (before-law sequent semicolon (symbol-law _) sequent-law
    (λ s f. sequent-end (semicolon.word tt) refl refl s f)) (λ s f. refl)) (λ s f. refl))

goal-apart : (ds : List Definition) (s : Sequent) (rest : List Word)
    → Stops (definitions.more ds) (goal.words s ++ rest)
unfolding goal
goal-apart ds s rest = definitions-end (goal_word.word tt) refl ds

constructors-before : (cs : List Constructor) (ds : List Definition) (s : Sequent) (rest : List Word)
    → Stops (constructors.more cs) ((seq definitions goal).words (ds, s) ++ rest)
unfolding definitions definition goal
constructors-before cs [] s rest = constructors-end (goal_word.word tt) refl cs
constructors-before cs (d ∷ ds) s rest = constructors-end (pred_word.word tt) refl cs

problem_body-law : Lawful problem_body
unfolding problem_body
problem_body-law =
    shaped-law {A = List Constructor × (List Definition × Sequent)} to_problem from_problem Any _ (λ x f. (refl, tt))
    (λ n h. refl)
    (after-law _ _ (keyword-law _) (after-law _ _ (keyword-law _)
    (after-law first_version _ first_version-law (after-law semicolon _ (symbol-law _)
    (seq-law constructors (seq definitions goal) constructors-law
    (seq-law definitions goal definitions-law goal-law (λ x y r fx fy h. goal-apart x y r))
    (λ x y r fx fy h. constructors-before x y.0 y.1 r))))))

pub problem-law : Lawful problem
unfolding problem problem_body goal
problem-law = before-law problem_body the_end the_end-law problem_body-law (λ f g. refl)
