-- The grammar of proof files of first-order logic.
use Rattle.std.specs.Prelude.{ℕ, false, List, [], Ok}
use Rattle.cyc_lex.specs.Word.{Word}
use Rattle.cyc_grammar.specs.Syntax.{Reading, ◌>>=◌, Syntax, one, seq, many, shaped, after, before, headed, is_one}
use Rattle.cyc_grammar.specs.Syntax.{uncons, or_empty}
use Rattle.cyc_grammar.specs.Classes.{the_end, number}
unfoldable pub use Rattle.heap_syntax.specs.Numbers.{numbers, bracketed, two_numbers, premises}
use Rattle.heap_syntax.specs.Grammar.{Any, cons, IsSome}
use Rattle.heap_syntax.specs.Words.{last_word, cyclist_word, comma, semicolon, assign, opening_brace, closing_brace}
use Rattle.heap_syntax.specs.Words.{dollar, node_word, by_word, opening_bracket, closing_bracket}
use Rattle.fo_syntax.specs.Trees.{Sign, Atom}
use Rattle.fo_syntax.specs.Grammar.{term, atom}
use Rattle.heap_syntax.specs.Versions.{first_version}
use Rattle.fo_syntax.specs.Lists.{list_of}
use Rattle.fo_syntax.specs.ProblemTrees.{Constructor, Definition, Sequent}
use Rattle.fo_syntax.specs.ProblemGrammar.{sequent, constructors, definitions}
use Rattle.fo_syntax.specs.declared.proofs.tree.SideTree.{SideTree}
use Rattle.fo_syntax.specs.declared.proofs.reason_word.ReasonWord.{ReasonWord}
use Rattle.fo_syntax.specs.declared.proofs.reason_word.ReasonWord.TheVariants as words
use Rattle.fo_syntax.specs.ProofWords.{fo_word, side_word, reason_word}
use Rattle.fo_syntax.specs.ProofTrees.{Entry, LinkData, Reason, Axiom, Refl, Clash, Decompose, Replace, WeakenLeft}
use Rattle.fo_syntax.specs.ProofTrees.{WeakenRight, Contract, Unfold, Cut, Right, Link, Node, File}

-- ---- the parts of a reason

-- number ( "left" | "right" )
unfoldable pub replace : Syntax (ℕ × SideTree)
replace = seq (one number) (one side_word)

-- [ foterm { "," foterm } ] "]"
unfoldable pub terms : Syntax (List (List Sign))
terms = or_empty closing_bracket (before (list_of comma (term false)) closing_bracket)

-- number number "[" [ foterm { "," foterm } ] "]"
unfoldable pub right_rule : Syntax (ℕ × (ℕ × List (List Sign)))
right_rule = seq (one number) (seq (one number) (after opening_bracket terms))

-- uvar ":=" foterm
abbrev pub to_entry : ℕ × List Sign → Entry
to_entry p = record { variable = p.0; value = p.1 }

abbrev pub from_entry : Entry → ℕ × List Sign
from_entry p = (p.variable, p.value)

unfoldable pub entry : Syntax Entry
entry = shaped {A = ℕ × List Sign} to_entry from_entry Any (after dollar (seq (one number) (after assign (term false))))

-- [ entry { "," entry } ] "}"
unfoldable pub entries : Syntax (List Entry)
entries = or_empty closing_brace (before (list_of comma entry) closing_brace)

abbrev pub to_link : ℕ × (List Entry × (List ℕ × List ℕ)) → LinkData
to_link p = record { target = p.0; substitution = p.1.0; left = p.1.1.0; right = p.1.1.1 }

abbrev pub from_link : LinkData → ℕ × (List Entry × (List ℕ × List ℕ))
from_link l = (l.target, (l.substitution, (l.left, l.right)))

-- number "{" entries "[" { number } "]" "[" { number } "]"
unfoldable pub link : Syntax LinkData
link = shaped {A = ℕ × (List Entry × (List ℕ × List ℕ))} to_link from_link Any
    (seq (one number) (after opening_brace (seq entries (seq bracketed bracketed))))

-- ---- foreason: a rule's word, and what this rule has after it

abbrev pub Parts : ReasonWord → Type 0
Parts words.Axiom = ℕ × ℕ
Parts words.Refl = ℕ
Parts words.Clash = ℕ
Parts words.Decompose = ℕ
Parts words.Replace = ℕ × SideTree
Parts words.WeakenLeft = ℕ
Parts words.WeakenRight = ℕ
Parts words.Contract = ℕ
Parts words.Unfold = ℕ
Parts words.Cut = Atom
Parts words.Right = ℕ × (ℕ × List (List Sign))
Parts words.Link = LinkData

unfoldable pub parts : (w : ReasonWord) → Syntax (Parts w)
parts words.Axiom = two_numbers
parts words.Refl = one number
parts words.Clash = one number
parts words.Decompose = one number
parts words.Replace = replace
parts words.WeakenLeft = one number
parts words.WeakenRight = one number
parts words.Contract = one number
parts words.Unfold = one number
parts words.Cut = atom false
parts words.Right = right_rule
parts words.Link = link

abbrev pub made_of : (w : ReasonWord) → Parts w → Reason
made_of words.Axiom p = Axiom p.0 p.1
made_of words.Refl j = Refl j
made_of words.Clash i = Clash i
made_of words.Decompose i = Decompose i
made_of words.Replace p = Replace p.0 p.1
made_of words.WeakenLeft i = WeakenLeft i
made_of words.WeakenRight j = WeakenRight j
made_of words.Contract i = Contract i
made_of words.Unfold i = Unfold i
made_of words.Cut a = Cut a
made_of words.Right p = Right p.0 p.1.0 p.1.1
made_of words.Link l = Link l

abbrev pub to_reason : (w : ReasonWord) × Parts w → Reason
to_reason p = made_of p.0 p.1

abbrev pub from_reason : Reason → (w : ReasonWord) × Parts w
from_reason (Axiom i j) = (words.Axiom, (i, j))
from_reason (Refl j) = (words.Refl, j)
from_reason (Clash i) = (words.Clash, i)
from_reason (Decompose i) = (words.Decompose, i)
from_reason (Replace i side) = (words.Replace, (i, side))
from_reason (WeakenLeft i) = (words.WeakenLeft, i)
from_reason (WeakenRight j) = (words.WeakenRight, j)
from_reason (Contract i) = (words.Contract, i)
from_reason (Unfold i) = (words.Unfold, i)
from_reason (Cut a) = (words.Cut, a)
from_reason (Right j k ts) = (words.Right, (j, (k, ts)))
from_reason (Link l) = (words.Link, l)

-- what is read after a rule's word, as a reason
abbrev pub parts_read : ReasonWord → List Word → Reading Reason
parts_read w ws = (parts w).read ws >>= λ y. Ok (made_of w y.0, y.1)

unfoldable pub reason : Syntax Reason
reason = shaped {A = (w : ReasonWord) × Parts w} to_reason from_reason Any (headed reason_word parts)

-- the words after a rule's word, case by case
abbrev pub behind_word : Reason → List Word
behind_word (Axiom i j) = two_numbers.words (i, j)
behind_word (Refl j) = (one number).words j
behind_word (Clash i) = (one number).words i
behind_word (Decompose i) = (one number).words i
behind_word (Replace i side) = replace.words (i, side)
behind_word (WeakenLeft i) = (one number).words i
behind_word (WeakenRight j) = (one number).words j
behind_word (Contract i) = (one number).words i
behind_word (Unfold i) = (one number).words i
behind_word (Cut a) = (atom false).words a
behind_word (Right j k ts) = right_rule.words (j, (k, ts))
behind_word (Link l) = link.words l

-- these words have a text
abbrev pub FitsBehind : Reason → Type 0
FitsBehind (Axiom i j) = two_numbers.fits (i, j)
FitsBehind (Refl j) = (one number).fits j
FitsBehind (Clash i) = (one number).fits i
FitsBehind (Decompose i) = (one number).fits i
FitsBehind (Replace i side) = replace.fits (i, side)
FitsBehind (WeakenLeft i) = (one number).fits i
FitsBehind (WeakenRight j) = (one number).fits j
FitsBehind (Contract i) = (one number).fits i
FitsBehind (Unfold i) = (one number).fits i
FitsBehind (Cut a) = (atom false).fits a
FitsBehind (Right j k ts) = right_rule.fits (j, (k, ts))
FitsBehind (Link l) = link.fits l

-- ---- fonode = "node" sequent "by" foreason [ "to" number { number } ] ";"

abbrev pub to_node : Sequent × (Reason × List ℕ) → Node
to_node p = record { sequent = p.0; reason = p.1.0; premises = p.1.1 }

abbrev pub from_node : Node → Sequent × (Reason × List ℕ)
from_node n = (n.sequent, (n.reason, n.premises))

unfoldable pub node : Syntax Node
node = shaped {A = Sequent × (Reason × List ℕ)} to_node from_node Any
    (after node_word (seq sequent (after by_word (seq reason premises))))

-- ---- fofile = "cyclist" "fo" "1" ";" con { con } { fopred } fonode { fonode } "end" ";", and the end of the text

abbrev pub some_node : Node
some_node = record { sequent = record { left = []; right = [] }; reason = Refl 0; premises = [] }

-- fonode { fonode } "end"
unfoldable pub nodes : Syntax (List Node)
nodes = shaped {A = Node × List Node} cons (uncons some_node) IsSome
    (seq node (before (many (is_one node_word) node) last_word))

abbrev pub to_file : List Constructor × (List Definition × List Node) → File
to_file p = record { constructors = p.0; definitions = p.1.0; nodes = p.1.1 }

abbrev pub from_file : File → List Constructor × (List Definition × List Node)
from_file f = (f.constructors, (f.definitions, f.nodes))

unfoldable pub body : Syntax File
body = shaped {A = List Constructor × (List Definition × List Node)} to_file from_file Any
    (after cyclist_word (after fo_word (after first_version (after semicolon
    (seq constructors (seq definitions (before nodes semicolon)))))))

unfoldable pub file : Syntax File
file = before body the_end
