-- The texts of proof files are of lexemes, and the end word stands last.
use Rattle.std.proofs.Common.{◌≡◌, ℕ, true, false, List, refl}
use Rattle.std.specs.Prelude.{codes}
use Rattle.cyc_lex.specs.Word.{is_lexeme}
use Rattle.cyc_lex.proofs.Letters.{letters-name}
use Rattle.cyc_grammar.specs.Syntax.{one, is_one, uncons}
use Rattle.cyc_grammar.specs.Classes.{number}
use Rattle.cyc_grammar.proofs.Ends.{Inner, EndsLast, one-inner, seq-inner, after-inner, before-inner, many-inner}
use Rattle.cyc_grammar.proofs.Ends.{shaped-inner, headed-inner, or_empty-inner, end-once, number-inner}
use Rattle.heap_syntax.specs.Grammar.{Any, cons, IsSome}
use Rattle.heap_syntax.specs.Words.{last_word, cyclist_word, comma, semicolon, assign, opening_brace, closing_brace}
use Rattle.heap_syntax.specs.Words.{dollar, node_word, by_word, opening_bracket, closing_bracket}
use Rattle.heap_syntax.proofs.WordTexts.{last-word, cyclist-word, first_version-word, syms, node-word, by-word}
use Rattle.fo_syntax.specs.Trees.{Sign}
use Rattle.fo_syntax.specs.Grammar.{term}
use Rattle.fo_syntax.proofs.TermEnds.{term-inner, atom-inner}
use Rattle.heap_syntax.specs.Versions.{first_version}
use Rattle.heap_syntax.proofs.NumberLaws.{bracketed-inner, two_numbers-inner, premises-inner}
use Rattle.fo_syntax.specs.Lists.{list_of}
use Rattle.fo_syntax.specs.ProblemTrees.{Constructor, Definition, Sequent}
use Rattle.fo_syntax.specs.ProblemGrammar.{sequent, constructors, definitions}
use Rattle.fo_syntax.proofs.ListLaws.{list-inner}
use Rattle.fo_syntax.proofs.TheoryEnds.{sequent-inner, constructors-inner, definitions-inner}
use Rattle.fo_syntax.specs.declared.proofs.tree.SideTree.{SideTree}
use Rattle.fo_syntax.specs.declared.proofs.tree.SideTree.TheVariants as sided
use Rattle.fo_syntax.specs.declared.proofs.reason_word.ReasonWord.{ReasonWord}
use Rattle.fo_syntax.specs.declared.proofs.reason_word.ReasonWord.TheVariants as words
use Rattle.fo_syntax.specs.ProofWords.{fo_word, side_word, reason_word}
use Rattle.fo_syntax.specs.ProofTrees.{Entry, Reason, Node}
use Rattle.fo_syntax.specs.ProofGrammar.{bracketed, replace, terms, right_rule, to_entry, from_entry, entry, entries}
use Rattle.fo_syntax.specs.ProofGrammar.{to_link, from_link, link, Parts, parts, to_reason, from_reason, reason}
use Rattle.fo_syntax.specs.ProofGrammar.{premises, to_node, from_node, node, some_node, nodes, to_file, from_file, body}
use Rattle.fo_syntax.specs.ProofGrammar.{file}

fo-word : is_lexeme (fo_word.word tt) ≡ true
fo-word = letters-name (codes "fo") refl

-- ---- reasons

side-inner : Inner (one side_word)
side-inner = one-inner side_word said
  where
    said : (s : SideTree) → Unit {0} → is_lexeme (side_word.word s) ≡ true
    said sided.Left f = letters-name (codes "left") refl
    said sided.Right f = letters-name (codes "right") refl

terms-inner : Inner terms
unfolding terms
terms-inner = or_empty-inner closing_bracket _ syms.closing_bracket_word
    (before-inner (list_of comma (term false)) closing_bracket syms.closing_bracket_word
    (list-inner comma (term false) syms.comma_word (term-inner false)))

entry-inner : Inner entry
unfolding entry
entry-inner = shaped-inner {A = ℕ × List Sign} to_entry from_entry Any _
    (after-inner dollar _ syms.dollar_word (seq-inner (one number) _ number-inner
    (after-inner assign (term false) syms.assign_word (term-inner false))))

entries-inner : Inner entries
unfolding entries
entries-inner = or_empty-inner closing_brace _ syms.closing_brace_word
    (before-inner (list_of comma entry) closing_brace syms.closing_brace_word
    (list-inner comma entry syms.comma_word entry-inner))

link-inner : Inner link
unfolding link
link-inner = shaped-inner {A = ℕ × (List Entry × (List ℕ × List ℕ))} to_link from_link Any _
    (seq-inner (one number) _ number-inner (after-inner opening_brace _ syms.opening_brace_word
    (seq-inner entries _ entries-inner (seq-inner bracketed bracketed bracketed-inner bracketed-inner))))

parts-inner : (w : ReasonWord) → Inner (parts w)
unfolding parts replace right_rule
parts-inner words.Axiom = two_numbers-inner
parts-inner words.Refl = number-inner
parts-inner words.Clash = number-inner
parts-inner words.Decompose = number-inner
parts-inner words.Replace = seq-inner (one number) (one side_word) number-inner side-inner
parts-inner words.WeakenLeft = number-inner
parts-inner words.WeakenRight = number-inner
parts-inner words.Contract = number-inner
parts-inner words.Unfold = number-inner
parts-inner words.Cut = atom-inner false
parts-inner words.Right = seq-inner (one number) _ number-inner
    (seq-inner (one number) _ number-inner (after-inner opening_bracket terms syms.opening_bracket_word terms-inner))
parts-inner words.Link = link-inner

reason-inner : Inner reason
unfolding reason
reason-inner = shaped-inner {A = (w : ReasonWord) × Parts w} to_reason from_reason Any _
    (headed-inner reason_word parts (λ w f. said w) parts-inner)
  where
    said : (w : ReasonWord) → is_lexeme (reason_word.word w) ≡ true
    said words.Axiom = letters-name (codes "Axiom") refl
    said words.Refl = letters-name (codes "Refl") refl
    said words.Clash = letters-name (codes "Clash") refl
    said words.Decompose = letters-name (codes "Decompose") refl
    said words.Replace = letters-name (codes "Replace") refl
    said words.WeakenLeft = letters-name (codes "WeakenLeft") refl
    said words.WeakenRight = letters-name (codes "WeakenRight") refl
    said words.Contract = letters-name (codes "Contract") refl
    said words.Unfold = letters-name (codes "Unfold") refl
    said words.Cut = letters-name (codes "Cut") refl
    said words.Right = letters-name (codes "Right") refl
    said words.Link = letters-name (codes "Link") refl

-- ---- nodes and files

node-inner : Inner node
unfolding node
node-inner = shaped-inner {A = Sequent × (Reason × List ℕ)} to_node from_node Any _
    (after-inner node_word _ node-word (seq-inner sequent _ sequent-inner
    (after-inner by_word _ by-word (seq-inner reason premises reason-inner premises-inner))))

nodes-inner : Inner nodes
unfolding nodes
nodes-inner = shaped-inner {A = Node × List Node} cons (uncons some_node) IsSome _
    (seq-inner node _ node-inner (before-inner _ last_word last-word (many-inner (is_one node_word) node node-inner)))

pub body-inner : Inner body
unfolding body
body-inner = shaped-inner {A = List Constructor × (List Definition × List Node)} to_file from_file Any _
    (after-inner cyclist_word _ cyclist-word (after-inner fo_word _ fo-word
    (after-inner first_version _ first_version-word (after-inner semicolon _ syms.semicolon_word
    (seq-inner constructors _ constructors-inner (seq-inner definitions _ definitions-inner
    (before-inner nodes semicolon syms.semicolon_word nodes-inner)))))))

pub file-last : EndsLast file
unfolding file
file-last = end-once body body-inner
