-- The grammar is lawful: what is read is spelled so, what is spelled is read, and a fault is exact.
use Rattle.std.proofs.Common.{Bool}
use Rattle.std.proofs.Common.{◌≡◌, ℕ, ◌<◌, true, false, List, [], ◌∷◌, ◌++◌, length, Some, refl, arith, inl, inr, ◌⊎◌}
use Rattle.cyc_lex.specs.Word.{Word}
use Rattle.cyc_grammar.specs.Syntax.{Syntax, one, seq, after, before, headed, is_one, uncons, list1}
use Rattle.cyc_grammar.specs.Classes.{the_end, number, find_text, keyword_of}
use Rattle.cyc_grammar.proofs.Laws.{Lawful, Stops, Begins, BeginsNot, BeginsNot-append, ClassLaw, one-law, seq-law}
use Rattle.cyc_grammar.proofs.Laws.{shaped-law, alt-law, many-law, after-law, before-law, nothing-law, headed-law}
use Rattle.cyc_grammar.proofs.Laws.{list1-law, or_empty-law, uncons-cons, Stops-never}
use Rattle.cyc_grammar.proofs.ClassLaws.{symbol-law, keyword-law, the_end-law, number-law, keyword_of-law}
use Rattle.heap_syntax.specs.declared.definitions.tree.TermTree.{TermTree}
use Rattle.heap_syntax.specs.declared.definitions.tree.TermTree.TheVariants.{Nil, Univ, Exist}
use Rattle.heap_syntax.proofs.DefinitionLaws.{uterm-law, uterm-closed, terms-all, spatial-lawful, heap-lawful}
use Rattle.heap_syntax.proofs.DefinitionLaws.{heap-stops, definitions-law, definitions-end}
use Rattle.proof_syntax.specs.declared.tree.PairTree.{PairTree}
use Rattle.proof_syntax.specs.declared.tree.SideTree.{SideTree}
use Rattle.proof_syntax.specs.declared.tree.SideTree.TheVariants.{Left, Right}
use Rattle.proof_syntax.specs.declared.reason_word.ReasonWord.{ReasonWord}
use Rattle.proof_syntax.specs.declared.reason_word.ReasonWord.TheVariants as words
use Rattle.proof_syntax.specs.ReasonWords.{reason_text, reason_words, side_text, sides}
use Rattle.proof_syntax.specs.Trees.{End}
use Rattle.proof_syntax.specs.Trees.{Heap, Line, Definition, Entailment, Judgement, Entails, From, Reason, Absurd}
use Rattle.proof_syntax.specs.Trees.{Rewrite, Split, Distinct, Weaken, Unfold, Cut, Done, Choose, PureRight}
use Rattle.proof_syntax.specs.Trees.{Instantiate, Frame, UnfoldRight, Exec, Drop, Link, Node}
use Rattle.proof_syntax.specs.Grammar.{Any, node_word, from_word, given_word, or_word, by_word, to_word, last_word}
use Rattle.proof_syntax.specs.Grammar.{dollar, query, comma, semicolon, star, assign, turnstile, opening_brace}
use Rattle.proof_syntax.specs.Grammar.{closing_brace, uterm, terms, terms_of, spatial, heap, some_heap, cons, IsSome}
use Rattle.proof_syntax.specs.Grammar.{variable, lines, to_entailment, from_entailment, disjuncts, entailment, state}
use Rattle.proof_syntax.specs.Grammar.{to_judgement, from_judgement, judgement, bracketed, two_numbers, side, rewrite}
use Rattle.proof_syntax.specs.Grammar.{split, cut, instantiate, to_pair, from_pair, pair, some_pair, pairs1, pairs}
use Rattle.proof_syntax.specs.Grammar.{to_link, from_link, link, Parts, parts, made_of, to_reason, from_reason}
use Rattle.proof_syntax.specs.Grammar.{reason_word, reason, premises, to_node, from_node, node, some_node, definitions}
use Rattle.proof_syntax.specs.Grammar.{more_nodes, nodes, Contents, to_file, from_file, version, contents, body, file}
use Rattle.proof_syntax.specs.Grammar.{ends_word, ends}
use Rattle.heap_syntax.specs.declared.version.Version.{Version}
use Rattle.heap_syntax.specs.declared.version.Version.TheVariants.{One, Two, Three}
use Rattle.heap_syntax.proofs.WordTexts.{version-law}
use Rattle.heap_syntax.specs.LineGrammar as commands
use Rattle.heap_syntax.specs.EndGrammar as endings
use Rattle.heap_syntax.proofs.NumberedEndLaws.{ends-law, ends-end}
use Rattle.heap_syntax.proofs.CommandLaws.{VariableLaw, lines-law, lines-end}
use Rattle.heap_syntax.proofs.HeapLaws.{closed-stops, list-end, listed-closed, heap-not, heaps-law}
use Rattle.heap_syntax.proofs.NumberLaws.{bracketed-law, bracketed-closed, two_numbers-law, premises-law}
use Rattle.heap_syntax.proofs.NumberLaws.{premises-closed}

-- ---- judgements

disjuncts-law : Lawful disjuncts
unfolding disjuncts
disjuncts-law = heaps-law or_word by_word (terms_of (terms false)) (spatial (terms false)) (keyword-law _)
    (keyword-law _) refl refl refl (terms-all false) (spatial-lawful false)

disjuncts-closed : (hs : List Heap) (d : Word) → disjuncts.more hs d ≡ false
unfolding disjuncts
disjuncts-closed hs d = listed-closed some_heap or_word by_word (heap (terms false)) hs d

entailment-law : Lawful entailment
unfolding entailment
entailment-law =
    shaped-law {A = Heap × List Heap} to_entailment from_entailment Any _ (λ x f. (refl, tt)) (λ c h. refl)
    (seq-law (heap (terms true)) (after turnstile disjuncts) (heap-lawful true)
    (after-law turnstile disjuncts (symbol-law _) disjuncts-law)
    (λ x y r fx fy h. heap-stops true (turnstile.word tt) refl x fx))

entailment-closed : (x : Entailment) (d : Word) → entailment.more x d ≡ false
unfolding entailment
entailment-closed x d = disjuncts-closed x.disjuncts d

state-law : Lawful state
unfolding state
state-law = after-law from_word _ (keyword-law _) (seq-law (one number)
    (after given_word (before (heap (terms true)) by_word)) (one-law number number-law)
    (after-law given_word _ (keyword-law _) (before-law (heap (terms true)) by_word (keyword-law _) (heap-lawful true)
    (λ h f. heap-stops true (by_word.word tt) refl h f)))
    (λ x y r fx fy h. Stops-never ((after given_word (before (heap (terms true)) by_word)).words y ++ r)))

uterm-no-from : (x : TermTree) → (terms true).fits x → BeginsNot (is_one from_word) ((terms true).words x)
unfolding terms uterm
uterm-no-from Nil f = refl
uterm-no-from (Univ n) f = refl
uterm-no-from (Exist n) f = refl

no-from : (e : Entailment) → entailment.fits e → BeginsNot (is_one from_word) (entailment.words e)
unfolding entailment
no-from e f = BeginsNot-append (is_one from_word) _ _
    (heap-not (terms_of (terms true)) (spatial (terms true)) (is_one from_word) refl uterm-no-from e.antecedent f.1.0)

judgement-law : Lawful judgement
unfolding judgement state
judgement-law =
    shaped-law {A = (ℕ × Heap) ⊎ Entailment} to_judgement from_judgement Any _ (λ x f. (there x, tt)) (λ j h. here j)
    (alt-law (is_one from_word) state entailment (λ p f. refl) no-from state-law entailment-law)
  where
    there : (x : (ℕ × Heap) ⊎ Entailment) → from_judgement (to_judgement x) ≡ x
    there (inl p) = refl
    there (inr e) = refl

    here : (j : Judgement) → to_judgement (from_judgement j) ≡ j
    here (From n h) = refl
    here (Entails e) = refl

judgement-closed : (x : Judgement) (d : Word) → judgement.more x d ≡ false
unfolding judgement state
judgement-closed (From n h) d = refl
judgement-closed (Entails e) d = entailment-closed e d

-- ---- the parts of a reason

side-law : Lawful side
unfolding side
side-law = one-law (keyword_of side_text sides) (keyword_of-law side_text sides Left found)
  where
    found : (s : SideTree) → find_text side_text sides (side_text s) ≡ Some s
    found Left = refl
    found Right = refl

rewrite-law : Lawful rewrite
unfolding rewrite
rewrite-law = seq-law (one number) side (one-law number number-law) side-law
    (λ x y r fx fy h. Stops-never (side.words y ++ r))

split-law : Lawful split
unfolding split
split-law = seq-law uterm uterm uterm-law uterm-law
    (λ x y r fx fy h. closed-stops uterm uterm-closed x fx (uterm.words y ++ r))

cut-law : Lawful cut
unfolding cut
cut-law = seq-law bracketed (heap (terms false)) bracketed-law (heap-lawful false)
    (λ x y r fx fy h. closed-stops bracketed (λ x d f. bracketed-closed x d) x fx ((heap (terms false)).words y ++ r))

instantiate-law : Lawful instantiate
unfolding instantiate
instantiate-law = after-law query _ (symbol-law _)
    (seq-law (one number) uterm (one-law number number-law) uterm-law
    (λ x y r fx fy h. Stops-never (uterm.words y ++ r)))

pair-law : Lawful pair
unfolding pair
pair-law =
    shaped-law {A = ℕ × TermTree} to_pair from_pair Any _ (λ x f. (refl, tt)) (λ c h. refl)
    (after-law dollar _ (symbol-law _) (seq-law (one number) (after assign uterm) (one-law number number-law)
    (after-law assign uterm (symbol-law _) uterm-law) (λ x y r fx fy h.
    Stops-never ((after assign uterm).words y ++ r))))

pair-closed : (x : PairTree) (d : Word) → pair.fits x → pair.more x d ≡ false
unfolding pair
pair-closed x d f = uterm-closed x.value d f.1.1

pairs1-law : Lawful pairs1
unfolding pairs1
pairs1-law = before-law (list1 some_pair comma pair) closing_brace (symbol-law _)
    (list1-law some_pair comma pair (symbol-law _) pair-law pair-closed)
    (λ xs f. list-end comma pair pair-closed (closing_brace.word tt) refl ((uncons some_pair xs).1) f.1.1)

pairs1-some : (xs : List PairTree) → pairs1.fits xs → 0 < length xs
unfolding pairs1
pairs1-some xs f = f.0

pairs1-not : (xs : List PairTree) → pairs1.fits xs → BeginsNot (is_one closing_brace) (pairs1.words xs)
unfolding pairs1 pair
pairs1-not [] f = absurd (omega arith)
pairs1-not (x ∷ xs) f = refl

pairs-law : Lawful pairs
unfolding pairs
pairs-law = or_empty-law closing_brace pairs1 (symbol-law _) pairs1-law pairs1-some pairs1-not

pairs-closed : (xs : List PairTree) (d : Word) → pairs.more xs d ≡ false
unfolding pairs pairs1
pairs-closed [] d = refl
pairs-closed (x ∷ xs) d = refl

link-law : Lawful link
unfolding link
link-law =
    shaped-law {A = ℕ × (List PairTree × (List ℕ × List ℕ))} to_link from_link Any _ (λ x f. (refl, tt)) (λ c h. refl)
    (seq-law (one number) (after opening_brace (seq pairs (seq bracketed bracketed))) (one-law number number-law)
    (after-law opening_brace _ (symbol-law _)
    (seq-law pairs (seq bracketed bracketed) pairs-law
    (seq-law bracketed bracketed bracketed-law bracketed-law
    (λ x y r fx fy h. closed-stops bracketed (λ x d f. bracketed-closed x d) x fx (bracketed.words y ++ r)))
    (λ x y r fx fy h. closed-stops pairs (λ x d f. pairs-closed x d) x fx ((seq bracketed bracketed).words y ++ r))))
    (λ x y r fx fy h. Stops-never ((after opening_brace (seq pairs (seq bracketed bracketed))).words y ++ r)))

-- ---- reasons

reason_word-law : ClassLaw reason_word
reason_word-law = keyword_of-law reason_text reason_words words.Done found
  where
    found : (w : ReasonWord) → find_text reason_text reason_words (reason_text w) ≡ Some w
    found words.Absurd = refl
    found words.Rewrite = refl
    found words.Split = refl
    found words.Distinct = refl
    found words.Weaken = refl
    found words.Unfold = refl
    found words.Cut = refl
    found words.Done = refl
    found words.Choose = refl
    found words.PureRight = refl
    found words.Instantiate = refl
    found words.Frame = refl
    found words.UnfoldRight = refl
    found words.Exec = refl
    found words.Drop = refl
    found words.Link = refl

parts-law : (w : ReasonWord) → Lawful (parts w)
unfolding parts
parts-law words.Absurd = nothing-law
parts-law words.Rewrite = rewrite-law
parts-law words.Split = split-law
parts-law words.Distinct = two_numbers-law
parts-law words.Weaken = one-law number number-law
parts-law words.Unfold = one-law number number-law
parts-law words.Cut = cut-law
parts-law words.Done = nothing-law
parts-law words.Choose = one-law number number-law
parts-law words.PureRight = one-law number number-law
parts-law words.Instantiate = instantiate-law
parts-law words.Frame = two_numbers-law
parts-law words.UnfoldRight = two_numbers-law
parts-law words.Exec = nothing-law
parts-law words.Drop = one-law number number-law
parts-law words.Link = link-law

reason-there : (x : (w : ReasonWord) × Parts w) → from_reason (to_reason x) ≡ x
reason-there x = there x.0 x.1
  where
    there : (w : ReasonWord) (p : Parts w) → from_reason (made_of w p) ≡ (w, p)
    there words.Absurd u = refl
    there words.Rewrite p = refl
    there words.Split p = refl
    there words.Distinct p = refl
    there words.Weaken k = refl
    there words.Unfold k = refl
    there words.Cut p = refl
    there words.Done u = refl
    there words.Choose j = refl
    there words.PureRight k = refl
    there words.Instantiate p = refl
    there words.Frame p = refl
    there words.UnfoldRight p = refl
    there words.Exec u = refl
    there words.Drop k = refl
    there words.Link l = refl

reason-here : (r : Reason) → to_reason (from_reason r) ≡ r
reason-here Absurd = refl
reason-here (Rewrite k s) = refl
reason-here (Split t u) = refl
reason-here (Distinct i j) = refl
reason-here (Weaken k) = refl
reason-here (Unfold k) = refl
reason-here (Cut positions formula) = refl
reason-here Done = refl
reason-here (Choose j) = refl
reason-here (PureRight k) = refl
reason-here (Instantiate v t) = refl
reason-here (Frame i j) = refl
reason-here (UnfoldRight j c) = refl
reason-here Exec = refl
reason-here (Drop k) = refl
reason-here (Link l) = refl

reason-law : Lawful reason
unfolding reason
reason-law = shaped-law {A = (w : ReasonWord) × Parts w} to_reason from_reason Any (headed reason_word parts)
    (λ x f. (reason-there x, tt)) (λ r h. reason-here r) (headed-law reason_word parts reason_word-law parts-law)

-- a reason goes on with a '*' alone
reason-end : (d : Word) → is_one star d ≡ false → (r : Reason) → reason.fits r → reason.more r d ≡ false
unfolding reason parts rewrite split two_numbers cut instantiate link side
reason-end d h Absurd f = refl
reason-end d h (Rewrite k s) f = refl
reason-end d h (Split t u) f = uterm-closed u d f.1.1.1
reason-end d h (Distinct i j) f = refl
reason-end d h (Weaken k) f = refl
reason-end d h (Unfold k) f = refl
reason-end d h (Cut positions formula) f = heap-stops false d h formula f.1.1.1
reason-end d h Done f = refl
reason-end d h (Choose j) f = refl
reason-end d h (PureRight k) f = refl
reason-end d h (Instantiate v t) f = uterm-closed t d f.1.1.1
reason-end d h (Frame i j) f = refl
reason-end d h (UnfoldRight j c) f = refl
reason-end d h Exec f = refl
reason-end d h (Drop k) f = refl
reason-end d h (Link l) f = bracketed-closed l.disjuncts d

-- ---- premises

premises-apart : (r : Reason) (ns : List ℕ) (rest : List Word) → reason.fits r
    → Stops (reason.more r) (premises.words ns ++ rest)
unfolding premises
premises-apart r [] rest f = reason-end (semicolon.word tt) refl r f
premises-apart r (n ∷ ns) rest f = reason-end (to_word.word tt) refl r f

-- ---- nodes

pub node-law : Lawful node
unfolding node
node-law =
    shaped-law {A = Judgement × (Reason × List ℕ)} to_node from_node Any _ (λ x f. (refl, tt)) (λ n h. refl)
    (after-law node_word _ (keyword-law _)
    (seq-law judgement (seq reason premises) judgement-law
    (seq-law reason premises reason-law premises-law (λ x y r fx fy h. premises-apart x y r fx))
    (λ x y r fx fy h. closed-stops judgement (λ x d f. judgement-closed x d) x fx
    ((seq reason premises).words y ++ r))))

pub node-closed : (n : Node) (d : Word) → node.more n d ≡ false
unfolding node
node-closed n d = premises-closed n.premises d

node-starts : (x : Node) → Begins (is_one node_word) (node.words x)
unfolding node
node-starts x = refl

-- ---- nodes

pub more_nodes-law : Lawful more_nodes
unfolding more_nodes
more_nodes-law = many-law (is_one node_word) node node-law
    (record { starts = λ x f. node-starts x; apart = λ x d f h. node-closed x d })

pub more_nodes-close : (ns : List Node) → more_nodes.more ns (last_word.word tt) ≡ false
unfolding more_nodes
more_nodes-close [] = refl
more_nodes-close (x ∷ []) = rw (node-closed x (last_word.word tt)) refl
more_nodes-close (x ∷ y ∷ ys) = more_nodes-close (y ∷ ys)

pub nodes-law : Lawful nodes
unfolding nodes
nodes-law =
    shaped-law {A = Node × List Node} cons (uncons some_node) IsSome _ (λ x f. (refl, omega arith))
    (λ ns h. uncons-cons some_node ns h)
    (seq-law node (before more_nodes last_word) node-law
    (before-law more_nodes last_word (keyword-law _) more_nodes-law (λ ns f. more_nodes-close ns))
    (λ x y r fx fy h. closed-stops node (λ x d f. node-closed x d) x fx ((before more_nodes last_word).words y ++ r)))

pub nodes-closed : (ns : List Node) (d : Word) → nodes.more ns d ≡ false
unfolding nodes
nodes-closed ns d = refl

-- ---- lines

pub dollar_variables : VariableLaw variable
unfolding variable
dollar_variables = record {
  law = after-law dollar (one number) (symbol-law _) (one-law number number-law);
  closed = λ n d f. refl;
  not_nil = λ n f. refl;
  not_stop = λ n f. refl;
  not_goto = λ n f. refl;
  not_free = λ n f. refl;
  not_if = λ n f. refl;
  not_new = λ n f. refl;
  not_star = λ n f. refl;
}

-- the ends, and what stands after them
abbrev pub behind_lines : Version → Syntax (List End × List Node)
behind_lines v = seq (ends v) (before nodes semicolon)

pub ends-apart : (v : Version) (es : List End) (ns : List Node) (rest : List Word)
    → Stops ((ends v).more es) ((before nodes semicolon).words ns ++ rest)
unfolding nodes node
ends-apart v es ns rest = ends-end v (node_word.word tt) refl es

-- what goes on neither at the word "ends" nor at "node" stops before ends and nodes
stops-behind : (v : Version) (more : Word → Bool) (es : List End) (ns : List Node) (rest : List Word)
    → more (ends_word.word tt) ≡ false → more (node_word.word tt) ≡ false
    → Stops more ((behind_lines v).words (es, ns) ++ rest)
unfolding nodes node endings.ends endings.end
stops-behind One more es ns rest h k = k
stops-behind Two more es ns rest h k = k
stops-behind Three more [] ns rest h k = k
stops-behind Three more (e ∷ es) ns rest h k = h

pub lines-apart : (v : Version) (ls : List Line) (es : List End) (ns : List Node) (rest : List Word)
    → Stops ((lines v).more ls) ((behind_lines v).words (es, ns) ++ rest)
lines-apart v ls es ns rest = stops-behind v ((lines v).more ls) es ns rest
    (lines-end v variable (ends_word.word tt) refl ls) (lines-end v variable (node_word.word tt) refl ls)

definitions-apart : (v : Version) (ds : List Definition) (ls : List Line) (es : List End) (ns : List Node)
    (rest : List Word) → Stops (definitions.more ds) ((seq (lines v) (behind_lines v)).words (ls, (es, ns)) ++ rest)
unfolding commands.lines commands.line
definitions-apart v ds [] es ns rest = stops-behind v (definitions.more ds) es ns rest
    (definitions-end (ends_word.word tt) refl ds) (definitions-end (node_word.word tt) refl ds)
definitions-apart v ds (l ∷ ls) es ns rest = definitions-end (commands.line_word.word tt) refl ds

-- ---- files

pub contents-law : (v : Version) → Lawful (contents v)
contents-law v =
    after-law semicolon _ (symbol-law _)
    (seq-law definitions (seq (lines v) (behind_lines v)) definitions-law
    (seq-law (lines v) (behind_lines v) (lines-law v variable dollar_variables)
    (seq-law (ends v) (before nodes semicolon) (ends-law v)
    (before-law nodes semicolon (symbol-law _) nodes-law (λ ns f. nodes-closed ns (semicolon.word tt)))
    (λ es ns r fes fns h. ends-apart v es ns r))
    (λ ls p r fls fp h. lines-apart v ls p.0 p.1 r))
    (λ ds p r fx fy h. definitions-apart v ds p.0 p.1.0 p.1.1 r))

body-law : Lawful body
unfolding body
body-law =
    shaped-law {A = (v : Version) × Contents} to_file from_file Any _
    (λ x f. (refl, tt)) (λ n h. refl)
    (after-law _ _ (keyword-law _) (after-law _ _ (keyword-law _)
    (headed-law version contents version-law contents-law)))

pub file-law : Lawful file
unfolding file body
file-law = before-law body the_end the_end-law body-law (λ ns f. refl)
