-- The grammar is lawful: what is read is spelled so, what is spelled is read, and a fault is exact.
use Rattle.std.proofs.Common.{◌≡◌, ℕ, Bool, false, List, [], ◌∷◌, ◌++◌, Some, refl, arith}
use Rattle.cyc_lex.specs.Word.{Word}
use Rattle.cyc_grammar.specs.Syntax.{one, seq, many, after, before, headed, is_one, uncons}
use Rattle.cyc_grammar.specs.Classes.{the_end, number, find_text}
use Rattle.cyc_grammar.proofs.Laws.{Lawful, Stops, Begins, BeginsNot, BeginsNot-append, ClassLaw, one-law, seq-law}
use Rattle.cyc_grammar.proofs.Laws.{shaped-law, after-law, before-law, headed-law, or_empty-law, uncons-cons}
use Rattle.cyc_grammar.proofs.Laws.{Stops-never}
use Rattle.cyc_grammar.proofs.ClassLaws.{symbol-law, keyword-law, the_end-law, number-law, keyword_of-law}
use Rattle.heap_syntax.specs.Grammar.{Any, cons, IsSome}
use Rattle.heap_syntax.specs.Words.{pred_word, last_word, comma, semicolon, assign, equal, opening_brace, closing_brace}
use Rattle.heap_syntax.specs.Words.{dollar, node_word, by_word, to_word, opening_bracket, closing_bracket}
use Rattle.heap_syntax.proofs.WordTexts.{first_version-law}
use Rattle.fo_syntax.specs.Trees.{Sign}
use Rattle.fo_syntax.specs.Grammar.{term}
use Rattle.fo_syntax.proofs.TermLaws.{term-law, term-closed, term-not, atom-law, atom-end}
use Rattle.fo_syntax.specs.declared.proofs.tree.SideTree.{SideTree}
use Rattle.fo_syntax.specs.declared.proofs.tree.SideTree.TheVariants as sided
use Rattle.fo_syntax.specs.declared.proofs.reason_word.ReasonWord.{ReasonWord}
use Rattle.fo_syntax.specs.declared.proofs.reason_word.ReasonWord.TheVariants as words
use Rattle.heap_syntax.specs.Versions.{first_version}
use Rattle.heap_syntax.proofs.NumberLaws.{bracketed-law, bracketed-closed, two_numbers-law, premises-law}
use Rattle.heap_syntax.proofs.NumberLaws.{premises-closed}
use Rattle.fo_syntax.specs.ProofWords.{side_text, sides, side_word, reason_text, reason_words, reason_word}
use Rattle.fo_syntax.specs.Lists.{list_of}
use Rattle.fo_syntax.specs.ProblemTrees.{Constructor, Definition, Sequent}
use Rattle.fo_syntax.specs.ProofTrees.{Entry, Reason, Axiom, Refl, Clash, Decompose, Replace, WeakenLeft, WeakenRight}
use Rattle.fo_syntax.specs.ProofTrees.{Contract, Unfold, Cut, Right, Link, Node}
use Rattle.fo_syntax.specs.ProblemGrammar.{sequent, definition, constructors, definitions}
use Rattle.fo_syntax.specs.ProofGrammar.{bracketed, two_numbers, replace, terms, right_rule, to_entry, from_entry}
use Rattle.fo_syntax.specs.ProofGrammar.{entry, entries, to_link, from_link, link, Parts, parts, made_of, to_reason}
use Rattle.fo_syntax.specs.ProofGrammar.{from_reason, reason, premises, to_node, from_node, node, some_node, nodes}
use Rattle.fo_syntax.specs.ProofGrammar.{to_file, from_file, body, file}
use Rattle.fo_syntax.proofs.ListLaws.{Parted, list-law, list-end, list-not}
use Rattle.fo_syntax.proofs.TheoryLaws.{closed-stops, sequent-law, sequent-end, constructors-law, constructors-end}
use Rattle.fo_syntax.proofs.TheoryLaws.{definitions-law, definitions-end, Statements, statements-law, statements-end}

term-close : (b : Bool) (t : List Sign) (d : Word) → (term b).more t d ≡ false
term-close b t d = term-closed b t (d ∷ [])

-- ---- the parts of a reason

side-law : ClassLaw side_word
side-law = keyword_of-law side_text sides sided.Left found
  where
    found : (s : SideTree) → find_text side_text sides (side_text s) ≡ Some s
    found sided.Left = refl
    found sided.Right = refl

replace-law : Lawful replace
unfolding replace
replace-law = seq-law (one number) (one side_word) (one-law number number-law) (one-law side_word side-law)
    (λ x y r fx fy h. Stops-never ((one side_word).words y ++ r))

term-parted : Parted comma (term false)
term-parted = record { word = symbol-law _; law = term-law false; apart = λ x f. term-close false x (comma.word tt) }

terms-law : Lawful terms
unfolding terms
terms-law = or_empty-law closing_bracket _ (symbol-law _)
    (before-law (list_of comma (term false)) closing_bracket (symbol-law _) (list-law comma (term false) term-parted)
    (λ xs f. list-end comma (term false) (closing_bracket.word tt) refl
    (λ x g. term-close false x (closing_bracket.word tt)) xs f.1))
    (λ xs f. f.0) (λ xs f. BeginsNot-append (is_one closing_bracket) ((list_of comma (term false)).words xs)
    (closing_bracket.word tt ∷ []) (list-not comma (term false) (is_one closing_bracket)
    (term-not (is_one closing_bracket) refl refl (λ s h. refl) false) xs f))

terms-closed : (xs : List (List Sign)) (d : Word) → terms.more xs d ≡ false
unfolding terms
terms-closed [] d = refl
terms-closed (x ∷ xs) d = refl

right_rule-law : Lawful right_rule
unfolding right_rule
right_rule-law =
    seq-law (one number) (seq (one number) (after opening_bracket terms)) (one-law number number-law)
    (seq-law (one number) (after opening_bracket terms) (one-law number number-law)
    (after-law opening_bracket terms (symbol-law _) terms-law)
    (λ x y r fx fy h. Stops-never ((after opening_bracket terms).words y ++ r)))
    (λ x y r fx fy h. Stops-never ((seq (one number) (after opening_bracket terms)).words y ++ r))

entry-law : Lawful entry
unfolding entry
entry-law =
    shaped-law {A = ℕ × List Sign} to_entry from_entry Any _ (λ x f. (refl, tt)) (λ c h. refl)
    (after-law dollar _ (symbol-law _) (seq-law (one number) (after assign (term false)) (one-law number number-law)
    (after-law assign (term false) (symbol-law _) (term-law false))
    (λ x y r fx fy h. Stops-never ((after assign (term false)).words y ++ r))))

entry-closed : (x : Entry) (d : Word) → entry.more x d ≡ false
unfolding entry
entry-closed x d = term-close false x.value d

entry-not : (x : Entry) → BeginsNot (is_one closing_brace) (entry.words x)
unfolding entry
entry-not x = refl

entry-parted : Parted comma entry
entry-parted = record { word = symbol-law _; law = entry-law; apart = λ x f. entry-closed x (comma.word tt) }

entries-law : Lawful entries
unfolding entries
entries-law = or_empty-law closing_brace _ (symbol-law _)
    (before-law (list_of comma entry) closing_brace (symbol-law _) (list-law comma entry entry-parted)
    (λ xs f. list-end comma entry (closing_brace.word tt) refl (λ x g. entry-closed x (closing_brace.word tt))
    xs f.1))
    (λ xs f. f.0) (λ xs f. BeginsNot-append (is_one closing_brace) ((list_of comma entry).words xs)
    (closing_brace.word tt ∷ []) (list-not comma entry (is_one closing_brace) (λ x g. entry-not x) xs f))

entries-closed : (xs : List Entry) (d : Word) → entries.more xs d ≡ false
unfolding entries
entries-closed [] d = refl
entries-closed (x ∷ xs) d = refl

link-law : Lawful link
unfolding link
link-law =
    shaped-law {A = ℕ × (List Entry × (List ℕ × List ℕ))} to_link from_link Any _ (λ x f. (refl, tt)) (λ c h. refl)
    (seq-law (one number) (after opening_brace (seq entries (seq bracketed bracketed))) (one-law number number-law)
    (after-law opening_brace _ (symbol-law _)
    (seq-law entries (seq bracketed bracketed) entries-law
    (seq-law bracketed bracketed bracketed-law bracketed-law
    (λ x y r fx fy h. closed-stops bracketed bracketed-closed x (bracketed.words y ++ r)))
    (λ x y r fx fy h. closed-stops entries entries-closed x ((seq bracketed bracketed).words y ++ r))))
    (λ x y r fx fy h. Stops-never ((after opening_brace (seq entries (seq bracketed bracketed))).words y ++ r)))

-- ---- reasons

reason_word-law : ClassLaw reason_word
reason_word-law = keyword_of-law reason_text reason_words words.Refl found
  where
    found : (w : ReasonWord) → find_text reason_text reason_words (reason_text w) ≡ Some w
    found words.Axiom = refl
    found words.Refl = refl
    found words.Clash = refl
    found words.Decompose = refl
    found words.Replace = refl
    found words.WeakenLeft = refl
    found words.WeakenRight = refl
    found words.Contract = refl
    found words.Unfold = refl
    found words.Cut = refl
    found words.Right = refl
    found words.Link = refl

parts-law : (w : ReasonWord) → Lawful (parts w)
unfolding parts
parts-law words.Axiom = two_numbers-law
parts-law words.Refl = one-law number number-law
parts-law words.Clash = one-law number number-law
parts-law words.Decompose = one-law number number-law
parts-law words.Replace = replace-law
parts-law words.WeakenLeft = one-law number number-law
parts-law words.WeakenRight = one-law number number-law
parts-law words.Contract = one-law number number-law
parts-law words.Unfold = one-law number number-law
parts-law words.Cut = atom-law false
parts-law words.Right = right_rule-law
parts-law words.Link = link-law

reason-there : (x : (w : ReasonWord) × Parts w) → from_reason (to_reason x) ≡ x
reason-there x = there x.0 x.1
  where
    there : (w : ReasonWord) (p : Parts w) → from_reason (made_of w p) ≡ (w, p)
    there words.Axiom p = refl
    there words.Refl k = refl
    there words.Clash k = refl
    there words.Decompose k = refl
    there words.Replace p = refl
    there words.WeakenLeft k = refl
    there words.WeakenRight k = refl
    there words.Contract k = refl
    there words.Unfold k = refl
    there words.Cut a = refl
    there words.Right p = refl
    there words.Link l = refl

reason-here : (r : Reason) → to_reason (from_reason r) ≡ r
reason-here (Axiom i j) = refl
reason-here (Refl j) = refl
reason-here (Clash i) = refl
reason-here (Decompose i) = refl
reason-here (Replace i side) = refl
reason-here (WeakenLeft i) = refl
reason-here (WeakenRight j) = refl
reason-here (Contract i) = refl
reason-here (Unfold i) = refl
reason-here (Cut a) = refl
reason-here (Right j k ts) = refl
reason-here (Link l) = refl

reason-law : Lawful reason
unfolding reason
reason-law = shaped-law {A = (w : ReasonWord) × Parts w} to_reason from_reason Any (headed reason_word parts)
    (λ x f. (reason-there x, tt)) (λ r h. reason-here r) (headed-law reason_word parts reason_word-law parts-law)

-- a reason goes on at "=" alone
reason-end : (d : Word) → is_one equal d ≡ false → (r : Reason) → reason.more r d ≡ false
unfolding reason parts replace two_numbers right_rule link
reason-end d h (Axiom i j) = refl
reason-end d h (Refl j) = refl
reason-end d h (Clash i) = refl
reason-end d h (Decompose i) = refl
reason-end d h (Replace i side) = refl
reason-end d h (WeakenLeft i) = refl
reason-end d h (WeakenRight j) = refl
reason-end d h (Contract i) = refl
reason-end d h (Unfold i) = refl
reason-end d h (Cut a) = atom-end false a d h
reason-end d h (Right j k ts) = terms-closed ts d
reason-end d h (Link l) = bracketed-closed l.right d

-- ---- premises

premises-apart : (r : Reason) (ns : List ℕ) (rest : List Word) → Stops (reason.more r) (premises.words ns ++ rest)
unfolding premises
premises-apart r [] rest = reason-end (semicolon.word tt) refl r
premises-apart r (n ∷ ns) rest = reason-end (to_word.word tt) refl r

-- ---- nodes

node-law : Lawful node
unfolding node
node-law =
    shaped-law {A = Sequent × (Reason × List ℕ)} to_node from_node Any _ (λ x f. (refl, tt)) (λ n h. refl)
    (after-law node_word _ (keyword-law _)
    (seq-law sequent (after by_word (seq reason premises)) sequent-law
    (after-law by_word (seq reason premises) (keyword-law _)
    (seq-law reason premises reason-law premises-law (λ x y r fx fy h. premises-apart x y r)))
    (λ x y r fx fy h. sequent-end (by_word.word tt) refl refl x fx)))

node-closed : (n : Node) (d : Word) → node.more n d ≡ false
unfolding node
node-closed n d = premises-closed n.premises d

node-starts : (x : Node) → Begins (is_one node_word) (node.words x)
unfolding node
node-starts x = refl

node-statements : Statements node_word node
node-statements = record { law = node-law; starts = node-starts; closed = node-closed }

nodes-law : Lawful nodes
unfolding nodes
nodes-law =
    shaped-law {A = Node × List Node} cons (uncons some_node) IsSome _ (λ x f. (refl, omega arith))
    (λ ns h. uncons-cons some_node ns h)
    (seq-law node (before (many (is_one node_word) node) last_word) node-law
    (before-law (many (is_one node_word) node) last_word (keyword-law _)
    (statements-law node_word node node-statements) (λ ns f.
    statements-end node_word node node-statements (last_word.word tt) refl ns))
    (λ x y r fx fy h. closed-stops node node-closed x ((before (many (is_one node_word) node) last_word).words y ++ r)))

nodes-closed : (ns : List Node) (d : Word) → nodes.more ns d ≡ false
unfolding nodes
nodes-closed ns d = refl

-- ---- files

nodes-apart : (ds : List Definition) (ns : List Node) (rest : List Word)
    → Stops (definitions.more ds) ((before nodes semicolon).words ns ++ rest)
unfolding nodes node
nodes-apart ds ns rest = definitions-end (node_word.word tt) refl ds

constructors-apart : (cs : List Constructor) (ds : List Definition) (ns : List Node) (rest : List Word)
    → Stops (constructors.more cs) ((seq definitions (before nodes semicolon)).words (ds, ns) ++ rest)
unfolding definitions definition nodes node
constructors-apart cs [] ns rest = constructors-end (node_word.word tt) refl cs
constructors-apart cs (d ∷ ds) ns rest = constructors-end (pred_word.word tt) refl cs

body-law : Lawful body
unfolding body
body-law =
    shaped-law {A = List Constructor × (List Definition × List Node)} to_file from_file Any _ (λ x f. (refl, tt))
    (λ n h. refl)
    (after-law _ _ (keyword-law _) (after-law _ _ (keyword-law _)
    (after-law first_version _ first_version-law (after-law semicolon _ (symbol-law _)
    (seq-law constructors (seq definitions (before nodes semicolon)) constructors-law
    (seq-law definitions (before nodes semicolon) definitions-law
    (before-law nodes semicolon (symbol-law _) nodes-law (λ ns f. nodes-closed ns (semicolon.word tt)))
    (λ x y r fx fy h. nodes-apart x y r))
    (λ x y r fx fy h. constructors-apart x y.0 y.1 r))))))

pub file-law : Lawful file
unfolding file body
file-law = before-law body the_end the_end-law body-law (λ f g. refl)
