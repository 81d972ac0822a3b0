-- The texts of the grammar are of lexemes, and the end word stands last.
use Rattle.std.proofs.Common.{◌≡◌, ℕ, true, false, List, refl, ◌⊎◌}
use Rattle.std.specs.Prelude.{codes}
use Rattle.cyc_lex.specs.Word.{is_lexeme}
use Rattle.cyc_lex.proofs.Letters.{letters-name}
use Rattle.cyc_grammar.specs.Syntax.{one, is_one, uncons}
use Rattle.cyc_grammar.specs.Classes.{number, keyword_of}
use Rattle.cyc_grammar.proofs.Ends.{Inner, EndsLast, one-inner, seq-inner, after-inner, before-inner, alt-inner}
use Rattle.cyc_grammar.proofs.Ends.{many-inner, shaped-inner, nothing-inner, headed-inner, list1-inner, or_empty-inner}
use Rattle.cyc_grammar.proofs.Ends.{end-once, number-inner}
use Rattle.heap_syntax.specs.declared.definitions.tree.TermTree.{TermTree}
use Rattle.heap_syntax.proofs.DefinitionEnds.{uterm-inner, heap-of, heaps-of, definitions-inner}
use Rattle.proof_syntax.specs.declared.tree.PairTree.{PairTree}
use Rattle.proof_syntax.specs.declared.tree.SideTree.{SideTree}
use Rattle.proof_syntax.specs.declared.tree.SideTree.TheVariants.{Left, Right}
use Rattle.proof_syntax.specs.declared.reason_word.ReasonWord.{ReasonWord}
use Rattle.proof_syntax.specs.declared.reason_word.ReasonWord.TheVariants as words
use Rattle.proof_syntax.specs.ReasonWords.{side_text, sides}
use Rattle.proof_syntax.specs.Trees.{Heap, Entailment, Judgement, Reason, Node}
use Rattle.proof_syntax.specs.Grammar.{Any, node_word, from_word, given_word, or_word, by_word, last_word, cyclist_word}
use Rattle.proof_syntax.specs.Grammar.{proof_word, version, dollar, query, comma, semicolon, assign, turnstile}
use Rattle.proof_syntax.specs.Grammar.{opening_brace, closing_brace, uterm, terms, heap, cons, IsSome, variable, lines}
use Rattle.proof_syntax.specs.Grammar.{to_entailment, from_entailment, disjuncts, entailment, state, to_judgement}
use Rattle.proof_syntax.specs.Grammar.{from_judgement, judgement, bracketed, side, rewrite, split, cut, instantiate}
use Rattle.proof_syntax.specs.Grammar.{to_pair, from_pair, pair, some_pair, pairs1, pairs, to_link, from_link, link}
use Rattle.proof_syntax.specs.Grammar.{Parts, parts, to_reason, from_reason, reason_word, reason, premises, to_node}
use Rattle.proof_syntax.specs.Grammar.{from_node, node, some_node, more_nodes, nodes, to_file, from_file, contents}
use Rattle.proof_syntax.specs.Grammar.{ends, Contents, body, file}
use Rattle.heap_syntax.specs.declared.version.Version.{Version}
use Rattle.heap_syntax.proofs.WordTexts.{or-word, last-word, cyclist-word, version-word, syms, node-word, from-word}
use Rattle.heap_syntax.proofs.WordTexts.{given-word, by-word}
use Rattle.heap_syntax.proofs.NumberLaws.{bracketed-inner, two_numbers-inner, premises-inner}
use Rattle.heap_syntax.proofs.CommandLaws.{lines-inner}
use Rattle.heap_syntax.proofs.NumberedEndLaws.{ends-inner}

-- ---- words

proof-word : is_lexeme (proof_word.word tt) ≡ true
proof-word = letters-name (codes "proof") refl

-- ---- terms

-- ---- heaps

-- ---- definitions and judgements

entailment-inner : Inner entailment
unfolding entailment disjuncts
entailment-inner = shaped-inner {A = Heap × List Heap} to_entailment from_entailment Any _
    (seq-inner (heap (terms true)) _ (heap-of true) (after-inner turnstile _ syms.turnstile_word
    (heaps-of or_word by_word or-word by-word)))

state-inner : Inner state
unfolding state
state-inner = after-inner from_word _ from-word (seq-inner (one number) _ number-inner
    (after-inner given_word _ given-word (before-inner (heap (terms true)) by_word by-word (heap-of true))))

judgement-inner : Inner judgement
unfolding judgement
judgement-inner = shaped-inner {A = (ℕ × Heap) ⊎ Entailment} to_judgement from_judgement Any _
    (alt-inner (is_one from_word) state entailment state-inner entailment-inner)

-- ---- reasons

side-inner : Inner side
unfolding side
side-inner = one-inner (keyword_of side_text sides) said
  where
    said : (s : SideTree) → Unit {0} → is_lexeme ((keyword_of side_text sides).word s) ≡ true
    said Left f = letters-name (codes "left") refl
    said Right f = letters-name (codes "right") refl

pairs-inner : Inner pairs
unfolding pairs pairs1 pair
pairs-inner = or_empty-inner closing_brace _ syms.closing_brace_word
    (before-inner _ closing_brace syms.closing_brace_word (list1-inner some_pair comma _ syms.comma_word
    (shaped-inner {A = ℕ × TermTree} to_pair from_pair Any _
    (after-inner dollar _ syms.dollar_word (seq-inner (one number) _ number-inner
    (after-inner assign uterm syms.assign_word uterm-inner))))))

link-inner : Inner link
unfolding link
link-inner = shaped-inner {A = ℕ × (List PairTree × (List ℕ × List ℕ))} to_link from_link Any _
    (seq-inner (one number) _ number-inner (after-inner opening_brace _ syms.opening_brace_word
    (seq-inner pairs _ pairs-inner (seq-inner bracketed bracketed bracketed-inner bracketed-inner))))

parts-inner : (w : ReasonWord) → Inner (parts w)
unfolding parts rewrite split cut instantiate
parts-inner words.Absurd = nothing-inner
parts-inner words.Rewrite = seq-inner (one number) side number-inner side-inner
parts-inner words.Split = seq-inner uterm uterm uterm-inner uterm-inner
parts-inner words.Distinct = two_numbers-inner
parts-inner words.Weaken = number-inner
parts-inner words.Unfold = number-inner
parts-inner words.Cut = seq-inner bracketed (heap (terms false)) bracketed-inner (heap-of false)
parts-inner words.Done = nothing-inner
parts-inner words.Choose = number-inner
parts-inner words.PureRight = number-inner
parts-inner words.Instantiate = after-inner query _ syms.query_word
    (seq-inner (one number) uterm number-inner uterm-inner)
parts-inner words.Frame = two_numbers-inner
parts-inner words.UnfoldRight = two_numbers-inner
parts-inner words.Exec = nothing-inner
parts-inner words.Drop = number-inner
parts-inner words.Link = link-inner

reason-inner : Inner reason
unfolding reason
reason-inner = shaped-inner {A = (w : ReasonWord) × Parts w} to_reason from_reason Any _
    (headed-inner reason_word parts (λ w f. said w) parts-inner)
  where
    said : (w : ReasonWord) → is_lexeme (reason_word.word w) ≡ true
    said words.Absurd = letters-name (codes "Absurd") refl
    said words.Rewrite = letters-name (codes "Rewrite") refl
    said words.Split = letters-name (codes "Split") refl
    said words.Distinct = letters-name (codes "Distinct") refl
    said words.Weaken = letters-name (codes "Weaken") refl
    said words.Unfold = letters-name (codes "Unfold") refl
    said words.Cut = letters-name (codes "Cut") refl
    said words.Done = letters-name (codes "Done") refl
    said words.Choose = letters-name (codes "Choose") refl
    said words.PureRight = letters-name (codes "PureRight") refl
    said words.Instantiate = letters-name (codes "Instantiate") refl
    said words.Frame = letters-name (codes "Frame") refl
    said words.UnfoldRight = letters-name (codes "UnfoldRight") refl
    said words.Exec = letters-name (codes "Exec") refl
    said words.Drop = letters-name (codes "Drop") refl
    said words.Link = letters-name (codes "Link") refl

-- ---- lines, nodes and files

variable-inner : Inner variable
unfolding variable
variable-inner = after-inner dollar (one number) syms.dollar_word number-inner

node-inner : Inner node
unfolding node
node-inner = shaped-inner {A = Judgement × (Reason × List ℕ)} to_node from_node Any _
    (after-inner node_word _ node-word (seq-inner judgement _ judgement-inner
    (seq-inner reason premises reason-inner premises-inner)))

nodes-inner : Inner nodes
unfolding nodes more_nodes
nodes-inner = shaped-inner {A = Node × List Node} cons (uncons some_node) IsSome _
    (seq-inner node _ node-inner (before-inner _ last_word last-word (many-inner (is_one node_word) node node-inner)))

contents-inner : (v : Version) → Inner (contents v)
contents-inner v =
    after-inner semicolon _ syms.semicolon_word (seq-inner _ _ definitions-inner
    (seq-inner (lines v) _ (lines-inner v variable variable-inner)
    (seq-inner (ends v) _ (ends-inner v) (before-inner nodes semicolon syms.semicolon_word nodes-inner))))

pub body-inner : Inner body
unfolding body
body-inner = shaped-inner {A = (v : Version) × Contents} to_file from_file Any _
    (after-inner cyclist_word _ cyclist-word (after-inner proof_word _ proof-word
    (headed-inner version contents version-word contents-inner)))

pub file-last : EndsLast file
unfolding file
file-last = end-once body body-inner
