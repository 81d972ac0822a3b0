-- Programs over lawful variables are lawful, and their texts are of lexemes.
use Rattle.std.proofs.Common.{◌≡◌, ℕ, Bool, true, false, List, [], ◌∷◌, ◌++◌, refl, inl, inr, ◌⊎◌}
use Rattle.std.specs.Prelude.{codes}
use Rattle.cyc_lex.specs.Word.{Word}
use Rattle.cyc_lex.proofs.Letters.{letters-name}
use Rattle.cyc_grammar.specs.Syntax.{Syntax, one, seq, alt, after, before, is_one}
use Rattle.cyc_grammar.specs.Classes.{number}
use Rattle.cyc_grammar.proofs.Laws.{Lawful, Begins, BeginsNot, BeginsNot-append, one-law, seq-law, shaped-law, alt-law}
use Rattle.cyc_grammar.proofs.Laws.{many-law, after-law, before-law, Stops-never}
use Rattle.cyc_grammar.proofs.ClassLaws.{symbol-law, keyword-law, number-law}
use Rattle.cyc_grammar.proofs.Ends.{Inner, one-inner, seq-inner, after-inner, before-inner, alt-inner, many-inner}
use Rattle.cyc_grammar.proofs.Ends.{shaped-inner, number-inner}
use Rattle.heap_syntax.specs.Words.{nil, colon, semicolon, assign, star}
use Rattle.heap_syntax.specs.declared.version.Version.{Version}
use Rattle.heap_syntax.specs.Grammar.{Any, sign}
use Rattle.heap_syntax.proofs.HeapLaws.{closed-stops, sign-law, sign-closed}
use Rattle.heap_syntax.proofs.HeapEnds.{sign-inner}
use Rattle.heap_syntax.proofs.WordTexts.{nil-word, syms}
use Rattle.heap_syntax.specs.declared.lines.tree.OperandTree.{OperandTree}
use Rattle.heap_syntax.specs.declared.lines.tree.OperandTree.TheVariants.{Nil, Variable}
use Rattle.heap_syntax.specs.declared.lines.tree.ChangeTree.{ChangeTree}
use Rattle.heap_syntax.specs.declared.lines.tree.ChangeTree.TheVariants.{New, Assign, Load, Store}
use Rattle.heap_syntax.specs.declared.lines.tree.CommandTree.{CommandTree}
use Rattle.heap_syntax.specs.declared.lines.tree.CommandTree.TheVariants.{Stop, Goto, Free, IfAny, If, StoreAtNil}
use Rattle.heap_syntax.specs.declared.lines.tree.CommandTree.TheVariants.{Change}
use Rattle.heap_syntax.specs.declared.lines.tree.LineTree.{LineTree}
use Rattle.heap_syntax.specs.LineGrammar.{line_word, stop_word, goto_word, free_word, if_word, new_word, dot}
use Rattle.heap_syntax.specs.LineGrammar.{to_operand, from_operand, operand, last_number, store, field, source, Changes}
use Rattle.heap_syntax.specs.LineGrammar.{to_change, from_change, change, Branch, branch, free_branch}
use Rattle.heap_syntax.specs.LineGrammar.{has_free_branches, IsBranch, the_branch, behind_if, update, Commands}
use Rattle.heap_syntax.specs.LineGrammar.{to_command, from_command, command, to_line, from_line, line, lines}

-- what programs need of their variables
pub record VariableLaw {V : Type 0} (v : Syntax V) : Type 0 where
  pub law : Lawful v
  pub closed : (x : V) (d : Word) → v.fits x → v.more x d ≡ false
  pub not_nil : (x : V) → v.fits x → BeginsNot (is_one nil) (v.words x)
  pub not_stop : (x : V) → v.fits x → BeginsNot (is_one stop_word) (v.words x)
  pub not_goto : (x : V) → v.fits x → BeginsNot (is_one goto_word) (v.words x)
  pub not_free : (x : V) → v.fits x → BeginsNot (is_one free_word) (v.words x)
  pub not_if : (x : V) → v.fits x → BeginsNot (is_one if_word) (v.words x)
  pub not_new : (x : V) → v.fits x → BeginsNot (is_one new_word) (v.words x)
  pub not_star : (x : V) → v.fits x → BeginsNot (is_one star) (v.words x)

-- ---- operands

operand-law : {V : Type 0} (v : Syntax V) → VariableLaw v → Lawful (operand v)
unfolding operand
operand-law {V = V} v a =
    shaped-law {A = Unit {0} ⊎ V} to_operand from_operand Any _ (λ x f. (there x, tt)) (λ t h. here t)
    (alt-law (is_one nil) (one nil) v (λ u f. refl) a.not_nil (one-law nil (keyword-law _)) a.law)
  where
    there : (x : Unit {0} ⊎ V) → from_operand (to_operand x) ≡ x
    there (inl u) = refl
    there (inr x) = refl

    here : (t : OperandTree V) → to_operand (from_operand t) ≡ t
    here Nil = refl
    here (Variable x) = refl

operand-closed : {V : Type 0} (v : Syntax V) → VariableLaw v → (t : OperandTree V) (d : Word) → (operand v).fits t
    → (operand v).more t d ≡ false
unfolding operand
operand-closed v a Nil d f = refl
operand-closed v a (Variable x) d f = a.closed x d f.1

operand-not-new : {V : Type 0} (v : Syntax V) → VariableLaw v → (t : OperandTree V) → (operand v).fits t
    → BeginsNot (is_one new_word) ((operand v).words t)
unfolding operand
operand-not-new v a Nil f = refl
operand-not-new v a (Variable x) f = a.not_new x f.1

operand-not-star : {V : Type 0} (v : Syntax V) → VariableLaw v → (t : OperandTree V) → (operand v).fits t
    → BeginsNot (is_one star) ((operand v).words t)
unfolding operand
operand-not-star v a Nil f = refl
operand-not-star v a (Variable x) f = a.not_star x f.1

-- ---- what stands after a variable

last_number-law : Lawful last_number
unfolding last_number
last_number-law = before-law (one number) semicolon (symbol-law _) (one-law number number-law) (λ n f. refl)

last_number-closed : (n : ℕ) (d : Word) → last_number.more n d ≡ false
unfolding last_number
last_number-closed n d = refl

ended-law : {V : Type 0} (v : Syntax V) → VariableLaw v → Lawful (before (operand v) semicolon)
ended-law v a = before-law (operand v) semicolon (symbol-law _) (operand-law v a)
    (λ t f. operand-closed v a t (semicolon.word tt) f)

store-law : {V : Type 0} (v : Syntax V) → VariableLaw v → Lawful (store v)
unfolding store
store-law v a = after-law dot _ (symbol-law _) (seq-law (one number) (after assign (before (operand v) semicolon))
    (one-law number number-law) (after-law assign _ (symbol-law _) (ended-law v a))
    (λ x y r fx fy h. Stops-never ((after assign (before (operand v) semicolon)).words y ++ r)))

store-closed : {V : Type 0} (v : Syntax V) (p : ℕ × OperandTree V) (d : Word) → (store v).more p d ≡ false
unfolding store
store-closed v p d = refl

field-law : Lawful field
unfolding field
field-law = alt-law (is_one dot) (after dot last_number) (one semicolon) (λ n f. refl) (λ u f. refl)
    (after-law dot last_number (symbol-law _) last_number-law) (one-law semicolon (symbol-law _))

field-closed : (x : ℕ ⊎ Unit {0}) (d : Word) → field.more x d ≡ false
unfolding field
field-closed (inl n) d = last_number-closed n d
field-closed (inr u) d = refl

source-law : {V : Type 0} (v : Syntax V) → VariableLaw v → Lawful (source v)
unfolding source
source-law v a = alt-law (is_one new_word) (after new_word last_number) (seq (operand v) field) (λ n f. refl)
    (λ p f. BeginsNot-append (is_one new_word) _ _ (operand-not-new v a p.0 f.0))
    (after-law new_word last_number (keyword-law _) last_number-law)
    (seq-law (operand v) field (operand-law v a) field-law
    (λ x y r fx fy h. closed-stops (operand v) (operand-closed v a) x fx (field.words y ++ r)))

change-law : {V : Type 0} (v : Syntax V) → VariableLaw v → Lawful (change v)
unfolding change store
change-law {V = V} v a =
    shaped-law {A = Changes V} to_change from_change Any _ (λ x f. (there x, tt)) (λ c h. here c)
    (alt-law (is_one dot) (store v) (after assign (source v)) (λ p f. refl) (λ x f. refl) (store-law v a)
    (after-law assign (source v) (symbol-law _) (source-law v a)))
  where
    there : (x : Changes V) → from_change (to_change x) ≡ x
    there (inl p) = refl
    there (inr (inl n)) = refl
    there (inr (inr (t, inl n))) = refl
    there (inr (inr (t, inr u))) = refl

    here : (c : ChangeTree V) → to_change (from_change c) ≡ c
    here (New n) = refl
    here (Assign t) = refl
    here (Load t n) = refl
    here (Store n t) = refl

change-closed : {V : Type 0} (v : Syntax V) (c : ChangeTree V) (d : Word) → (change v).more c d ≡ false
unfolding change source
change-closed v (New n) d = last_number-closed n d
change-closed v (Assign t) d = field-closed (inr tt) d
change-closed v (Load t n) d = field-closed (inl n) d
change-closed v (Store n t) d = store-closed v (n, t) d

-- ---- commands

branch-law : {V : Type 0} (v : Syntax V) → VariableLaw v → Lawful (branch v)
unfolding branch
branch-law v a =
    seq-law (operand v) (seq sign (seq (operand v) (after goto_word last_number))) (operand-law v a)
    (seq-law sign (seq (operand v) (after goto_word last_number)) sign-law
    (seq-law (operand v) (after goto_word last_number) (operand-law v a)
    (after-law goto_word last_number (keyword-law _) last_number-law)
    (λ x y r fx fy h. closed-stops (operand v) (operand-closed v a) x fx
    ((after goto_word last_number).words y ++ r)))
    (λ x y r fx fy h. closed-stops sign (λ b d f. sign-closed b d) x fx
    ((seq (operand v) (after goto_word last_number)).words y ++ r)))
    (λ x y r fx fy h. closed-stops (operand v) (operand-closed v a) x fx
    ((seq sign (seq (operand v) (after goto_word last_number))).words y ++ r))

branch-closed : {V : Type 0} (v : Syntax V) (p : Branch V) (d : Word) → (branch v).more p d ≡ false
unfolding branch
branch-closed v p d = last_number-closed p.1.1.1 d

free_branch-law : Lawful free_branch
unfolding free_branch
free_branch-law = after-law star _ (symbol-law _) (after-law goto_word last_number (keyword-law _) last_number-law)

behind_if-law : {V : Type 0} (free : Bool) (v : Syntax V) → VariableLaw v → Lawful (behind_if free v)
unfolding behind_if free_branch branch
behind_if-law true v a =
    alt-law (is_one star) free_branch (branch v) (λ n f. refl)
    (λ p f. BeginsNot-append (is_one star) _ _ (operand-not-star v a p.0 f.0)) free_branch-law (branch-law v a)
behind_if-law {V = V} false v a =
    shaped-law {A = Branch V} inr the_branch IsBranch _ (λ x f. (refl, tt)) here (branch-law v a)
  where
    here : (x : ℕ ⊎ Branch V) → IsBranch x → inr (the_branch x) ≡ x
    here (inl n) h = absurd h
    here (inr p) h = refl

behind_if-closed : {V : Type 0} (free : Bool) (v : Syntax V) (x : ℕ ⊎ Branch V) (d : Word)
    → (behind_if free v).more x d ≡ false
unfolding behind_if free_branch
behind_if-closed true v (inl n) d = last_number-closed n d
behind_if-closed true v (inr p) d = branch-closed v p d
behind_if-closed false v x d = branch-closed v (the_branch x) d

update-law : {V : Type 0} (v : Syntax V) → VariableLaw v → Lawful (update v)
unfolding update
update-law v a = alt-law (is_one nil) (after nil (store v)) (seq v (change v)) (λ p f. refl)
    (λ p f. BeginsNot-append (is_one nil) _ _ (a.not_nil p.0 f.0))
    (after-law nil (store v) (keyword-law _) (store-law v a))
    (seq-law v (change v) a.law (change-law v a) (λ x y r fx fy h.
    closed-stops v a.closed x fx ((change v).words y ++ r)))

update-closed : {V : Type 0} (v : Syntax V) (x : (ℕ × OperandTree V) ⊎ (V × ChangeTree V)) (d : Word)
    → (update v).more x d ≡ false
unfolding update
update-closed v (inl p) d = store-closed v p d
update-closed v (inr p) d = change-closed v p.1 d

-- what is told from a variable's words is told from an update's
update-not : {V : Type 0} (v : Syntax V) (test : Word → Bool) → test (nil.word tt) ≡ false
    → ((x : V) → v.fits x → BeginsNot test (v.words x)) → (x : (ℕ × OperandTree V) ⊎ (V × ChangeTree V))
    → (update v).fits x → BeginsNot test ((update v).words x)
unfolding update
update-not v test none h (inl p) f = none
update-not v test none h (inr p) f = BeginsNot-append test _ _ (h p.0 f.0)

command-law : {V : Type 0} (version : Version) (v : Syntax V) → VariableLaw v → Lawful (command version v)
unfolding command
command-law {V = V} version v a =
    shaped-law {A = Commands V} to_command from_command Any _ (λ x f. (there x, tt)) (λ c h. here c)
    (alt-law (is_one stop_word) (after stop_word (one semicolon)) _ (λ u f. refl) not_stop
    (after-law stop_word (one semicolon) (keyword-law _) (one-law semicolon (symbol-law _)))
    (alt-law (is_one goto_word) (after goto_word last_number) _ (λ n f. refl) not_goto
    (after-law goto_word last_number (keyword-law _) last_number-law)
    (alt-law (is_one free_word) (after free_word (before (operand v) semicolon)) _ (λ t f. refl) not_free
    (after-law free_word _ (keyword-law _) (ended-law v a))
    (alt-law (is_one if_word) (after if_word (behind_if (has_free_branches version) v)) (update v) (λ p f. refl)
    (update-not v (is_one if_word) refl a.not_if) (after-law if_word (behind_if (has_free_branches version) v)
    (keyword-law _) (behind_if-law (has_free_branches version) v a)) (update-law v a)))))
  where
    not_free : (y : (ℕ ⊎ Branch V) ⊎ ((ℕ × OperandTree V) ⊎ (V × ChangeTree V)))
        → (alt (is_one if_word) (after if_word (behind_if (has_free_branches version) v)) (update v)).fits y
        → BeginsNot (is_one free_word) ((alt (is_one if_word) (after if_word (behind_if (has_free_branches version) v))
        (update v)).words y)
    not_free (inl p) f = refl
    not_free (inr x) f = update-not v (is_one free_word) refl a.not_free x f

    not_goto : (y : OperandTree V ⊎ ((ℕ ⊎ Branch V) ⊎ ((ℕ × OperandTree V) ⊎ (V × ChangeTree V))))
        → (alt (is_one free_word) (after free_word (before (operand v) semicolon))
        (alt (is_one if_word) (after if_word (behind_if (has_free_branches version) v)) (update v))).fits y
        → BeginsNot (is_one goto_word) ((alt (is_one free_word) (after free_word (before (operand v) semicolon))
        (alt (is_one if_word) (after if_word (behind_if (has_free_branches version) v)) (update v))).words y)
    not_goto (inl t) f = refl
    not_goto (inr (inl p)) f = refl
    not_goto (inr (inr x)) f = update-not v (is_one goto_word) refl a.not_goto x f

    not_stop : (y : ℕ ⊎ (OperandTree V ⊎ ((ℕ ⊎ Branch V) ⊎ ((ℕ × OperandTree V) ⊎ (V × ChangeTree V)))))
        → (alt (is_one goto_word) (after goto_word last_number)
        (alt (is_one free_word) (after free_word (before (operand v) semicolon))
        (alt (is_one if_word) (after if_word (behind_if (has_free_branches version) v)) (update v)))).fits y
        → BeginsNot (is_one stop_word) ((alt (is_one goto_word) (after goto_word last_number)
        (alt (is_one free_word) (after free_word (before (operand v) semicolon))
        (alt (is_one if_word) (after if_word (behind_if (has_free_branches version) v)) (update v)))).words y)
    not_stop (inl n) f = refl
    not_stop (inr (inl t)) f = refl
    not_stop (inr (inr (inl p))) f = refl
    not_stop (inr (inr (inr x))) f = update-not v (is_one stop_word) refl a.not_stop x f

    there : (x : Commands V) → from_command (to_command x) ≡ x
    there (inl u) = refl
    there (inr (inl n)) = refl
    there (inr (inr (inl t))) = refl
    there (inr (inr (inr (inl (inl n))))) = refl
    there (inr (inr (inr (inl (inr p))))) = refl
    there (inr (inr (inr (inr (inl p))))) = refl
    there (inr (inr (inr (inr (inr p))))) = refl

    here : (c : CommandTree V) → to_command (from_command c) ≡ c
    here Stop = refl
    here (IfAny n) = refl
    here (Goto n) = refl
    here (Free t) = refl
    here (If t b u n) = refl
    here (StoreAtNil n t) = refl
    here (Change x c) = refl

command-closed : {V : Type 0} (version : Version) (v : Syntax V) (c : CommandTree V) (d : Word)
    → (command version v).more c d ≡ false
unfolding command update
command-closed version v Stop d = refl
command-closed version v (Goto n) d = last_number-closed n d
command-closed version v (Free t) d = refl
command-closed version v (IfAny n) d = behind_if-closed (has_free_branches version) v (inl n) d
command-closed version v (If t b u n) d = behind_if-closed (has_free_branches version) v (inr (t, (b, (u, n)))) d
command-closed version v (StoreAtNil n t) d = store-closed v (n, t) d
command-closed version v (Change x c) d = change-closed v c d

-- ---- lines

pub line-law : {V : Type 0} (version : Version) (v : Syntax V) → VariableLaw v → Lawful (line version v)
unfolding line
line-law {V = V} version v a =
    shaped-law {A = ℕ × CommandTree V} to_line from_line Any _ (λ x f. (refl, tt)) (λ l h. refl)
    (after-law line_word _ (keyword-law _) (seq-law (one number) (after colon (command version v))
    (one-law number number-law) (after-law colon (command version v) (symbol-law _) (command-law version v a))
    (λ x y r fx fy h. Stops-never ((after colon (command version v)).words y ++ r))))

pub line-closed : {V : Type 0} (version : Version) (v : Syntax V) (l : LineTree V) (d : Word)
    → (line version v).more l d ≡ false
unfolding line
line-closed version v l d = command-closed version v l.command d

line-starts : {V : Type 0} (version : Version) (v : Syntax V) (l : LineTree V)
    → Begins (is_one line_word) ((line version v).words l)
unfolding line
line-starts version v l = refl

pub lines-law : {V : Type 0} (version : Version) (v : Syntax V) → VariableLaw v → Lawful (lines version v)
unfolding lines
lines-law version v a = many-law (is_one line_word) (line version v) (line-law version v a)
    (record { starts = λ l f. line-starts version v l; apart = λ l d f h. line-closed version v l d })

-- lines go on at the word "line" alone
pub lines-end : {V : Type 0} (version : Version) (v : Syntax V) (d : Word) → is_one line_word d ≡ false
    → (ls : List (LineTree V)) → (lines version v).more ls d ≡ false
unfolding lines
lines-end version v d h [] = h
lines-end version v d h (l ∷ []) = rw (h, line-closed version v l d) refl
lines-end version v d h (l ∷ m ∷ ls) = lines-end version v d h (m ∷ ls)

-- ---- the texts are of lexemes

operand-inner : {V : Type 0} (v : Syntax V) → Inner v → Inner (operand v)
unfolding operand
operand-inner {V = V} v i = shaped-inner {A = Unit {0} ⊎ V} to_operand from_operand Any _
    (alt-inner (is_one nil) (one nil) v (one-inner nil (λ u f. nil-word)) i)

last_number-inner : Inner last_number
unfolding last_number
last_number-inner = before-inner (one number) semicolon syms.semicolon_word number-inner

store-inner : {V : Type 0} (v : Syntax V) → Inner v → Inner (store v)
unfolding store
store-inner v i = after-inner dot _ syms.dot_word (seq-inner (one number) _ number-inner
    (after-inner assign _ syms.assign_word (before-inner (operand v) semicolon syms.semicolon_word
    (operand-inner v i))))

change-inner : {V : Type 0} (v : Syntax V) → Inner v → Inner (change v)
unfolding change source field
change-inner {V = V} v i = shaped-inner {A = Changes V} to_change from_change Any _
    (alt-inner (is_one dot) (store v) _ (store-inner v i)
    (after-inner assign _ syms.assign_word (alt-inner (is_one new_word) _ _
    (after-inner new_word last_number (letters-name (codes "new") refl) last_number-inner)
    (seq-inner (operand v) _ (operand-inner v i) (alt-inner (is_one dot) _ _
    (after-inner dot last_number syms.dot_word last_number-inner)
    (one-inner semicolon (λ u f. syms.semicolon_word)))))))

branch-inner : {V : Type 0} (v : Syntax V) → Inner v → Inner (branch v)
unfolding branch
branch-inner v i = seq-inner (operand v) _ (operand-inner v i)
    (seq-inner sign _ sign-inner (seq-inner (operand v) _ (operand-inner v i)
    (after-inner goto_word last_number (letters-name (codes "goto") refl) last_number-inner)))

free_branch-inner : Inner free_branch
unfolding free_branch
free_branch-inner = after-inner star _ syms.star_word
    (after-inner goto_word last_number (letters-name (codes "goto") refl) last_number-inner)

behind_if-inner : {V : Type 0} (free : Bool) (v : Syntax V) → Inner v → Inner (behind_if free v)
unfolding behind_if
behind_if-inner true v i = alt-inner (is_one star) free_branch (branch v) free_branch-inner (branch-inner v i)
behind_if-inner {V = V} false v i = shaped-inner {A = Branch V} inr the_branch IsBranch _ (branch-inner v i)

command-inner : {V : Type 0} (version : Version) (v : Syntax V) → Inner v → Inner (command version v)
unfolding command update
command-inner {V = V} version v i = shaped-inner {A = Commands V} to_command from_command Any _
    (alt-inner (is_one stop_word) _ _ (after-inner stop_word (one semicolon) (letters-name (codes "stop") refl)
    (one-inner semicolon (λ u f. syms.semicolon_word)))
    (alt-inner (is_one goto_word) _ _ (after-inner goto_word last_number (letters-name (codes "goto") refl)
    last_number-inner)
    (alt-inner (is_one free_word) _ _ (after-inner free_word _ (letters-name (codes "free") refl)
    (before-inner (operand v) semicolon syms.semicolon_word (operand-inner v i)))
    (alt-inner (is_one if_word) _ _ (after-inner if_word _ (letters-name (codes "if") refl)
    (behind_if-inner (has_free_branches version) v i))
    (alt-inner (is_one nil) _ _ (after-inner nil (store v) nil-word (store-inner v i))
    (seq-inner v (change v) i (change-inner v i)))))))

pub lines-inner : {V : Type 0} (version : Version) (v : Syntax V) → Inner v → Inner (lines version v)
unfolding lines line
lines-inner {V = V} version v i = many-inner (is_one line_word) _
    (shaped-inner {A = ℕ × CommandTree V} to_line from_line Any _
    (after-inner line_word _ (letters-name (codes "line") refl)
    (seq-inner (one number) _ number-inner (after-inner colon (command version v) syms.colon_word
    (command-inner version v i)))))
