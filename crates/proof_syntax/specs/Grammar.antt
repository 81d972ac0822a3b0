-- The grammar of proof files.
use Rattle.std.specs.Prelude.{ℕ, true, false, List, [], ◌∷◌, ◌⊎◌, codes, Ok}
use Rattle.std.proofs.Common.{inl, inr}
use Rattle.cyc_lex.specs.Word.{Word}
use Rattle.cyc_grammar.specs.Syntax.{Reading, ◌>>=◌, Syntax, Class, one, seq, alt, many, shaped, after, before, headed}
use Rattle.cyc_grammar.specs.Syntax.{nothing, is_one, uncons, list1, or_empty}
use Rattle.cyc_grammar.specs.Classes.{keyword, the_end, number, keyword_of}
unfoldable pub use Rattle.heap_syntax.specs.Numbers.{numbers, bracketed, two_numbers, premises}
pub use Rattle.heap_syntax.specs.Words.{nil, true_word, emp, pred_word, or_word, last_word, cyclist_word, node_word}
pub use Rattle.heap_syntax.specs.Words.{from_word, given_word, by_word, to_word, equal, unequal, comma, colon}
pub use Rattle.heap_syntax.specs.Words.{semicolon, star, bar, arrow, assign, turnstile, opening, closing, opening_brace}
pub use Rattle.heap_syntax.specs.Words.{closing_brace, opening_bracket, closing_bracket, dollar, query, reserved}
pub use Rattle.heap_syntax.specs.Words.{free_name}
pub use Rattle.heap_syntax.specs.Versions.{version}
pub use Rattle.heap_syntax.specs.Grammar.{Any, cons, IsSome, some_heap}
unfoldable pub use Rattle.heap_syntax.specs.Grammar.{sign, pure}
pub use Rattle.heap_syntax.specs.DefinitionGrammar.{to_term, from_term, to_uterm, from_uterm, IsUniversal, terms_of}
pub use Rattle.heap_syntax.specs.DefinitionGrammar.{some_pure, pures1, pures, fields, arguments, spatial, some_spatial}
pub use Rattle.heap_syntax.specs.DefinitionGrammar.{spatials, heap, kept_heap, heaps, kept_heaps, to_definition}
pub use Rattle.heap_syntax.specs.DefinitionGrammar.{from_definition}
unfoldable pub use Rattle.heap_syntax.specs.DefinitionGrammar.{term, uterm, terms, cases, definition, kept_definition}
unfoldable pub use Rattle.heap_syntax.specs.DefinitionGrammar.{definitions}
use Rattle.heap_syntax.specs.LineGrammar as commands
pub use Rattle.heap_syntax.specs.EndGrammar.{ends_word}
pub use Rattle.heap_syntax.specs.NumberedEnds.{end, kept_end, ends}
use Rattle.heap_syntax.specs.declared.keep.Keep.{Keep}
use Rattle.heap_syntax.specs.declared.version.Version.{Version}
use Rattle.heap_syntax.specs.declared.definitions.tree.TermTree.{TermTree}
use Rattle.heap_syntax.specs.declared.definitions.tree.TermTree.TheVariants.{Nil}
use Rattle.proof_syntax.specs.declared.tree.SideTree.{SideTree}
use Rattle.proof_syntax.specs.declared.tree.PairTree.{PairTree}
use Rattle.proof_syntax.specs.declared.reason_word.ReasonWord.{ReasonWord}
use Rattle.proof_syntax.specs.declared.reason_word.ReasonWord.TheVariants as words
use Rattle.proof_syntax.specs.ReasonWords.{reason_text, reason_words, side_text, sides}
use Rattle.proof_syntax.specs.Trees.{Heap, Line, End, Definition, Entailment, Judgement, Entails, From, LinkData}
use Rattle.proof_syntax.specs.Trees.{Reason}
use Rattle.proof_syntax.specs.Trees.{Absurd, Rewrite, Split, Distinct, Weaken, Unfold, Cut, Done, Choose, PureRight}
use Rattle.proof_syntax.specs.Trees.{Instantiate, Frame, UnfoldRight, Exec, Drop, Link, Node, File}

-- ---- words

abbrev pub proof_word : Class (Unit {0})
proof_word = keyword (codes "proof")

-- ---- the lines of the program, with uvar = "$" number as their variables

unfoldable pub variable : Syntax ℕ
variable = after dollar (one number)

abbrev pub lines : Version → Syntax (List Line)
lines v = commands.lines v variable

-- ---- judgement = uheap "|-" heap { "or" heap } | "from" number "given" uheap, and "by" after it

abbrev pub to_entailment : Heap × List Heap → Entailment
to_entailment p = record { antecedent = p.0; disjuncts = p.1 }

abbrev pub from_entailment : Entailment → Heap × List Heap
from_entailment e = (e.antecedent, e.disjuncts)

unfoldable pub disjuncts : Syntax (List Heap)
disjuncts = heaps or_word by_word

unfoldable pub kept_disjuncts : Keep → Syntax (List Heap)
kept_disjuncts k = kept_heaps k or_word by_word

abbrev pub entailment_over : Syntax Heap → Syntax (List Heap) → Syntax Entailment
entailment_over antecedent disjuncts = shaped {A = Heap × List Heap} to_entailment from_entailment Any
    (seq antecedent (after turnstile disjuncts))

unfoldable pub entailment : Syntax Entailment
entailment = entailment_over (heap (terms true)) disjuncts

unfoldable pub kept_entailment : Keep → Syntax Entailment
kept_entailment k = entailment_over (kept_heap k (terms true)) (kept_disjuncts k)

-- "from" number "given" uheap "by"
abbrev pub state_over : Syntax Heap → Syntax (ℕ × Heap)
state_over given = after from_word (seq (one number) (after given_word (before given by_word)))

unfoldable pub state : Syntax (ℕ × Heap)
state = state_over (heap (terms true))

unfoldable pub kept_state : Keep → Syntax (ℕ × Heap)
kept_state k = state_over (kept_heap k (terms true))

abbrev pub to_judgement : (ℕ × Heap) ⊎ Entailment → Judgement
to_judgement (inl p) = From p.0 p.1
to_judgement (inr e) = Entails e

abbrev pub from_judgement : Judgement → (ℕ × Heap) ⊎ Entailment
from_judgement (From n h) = inl (n, h)
from_judgement (Entails e) = inr e

abbrev pub judgement_over : Syntax (ℕ × Heap) → Syntax Entailment → Syntax Judgement
judgement_over state entailment = shaped {A = (ℕ × Heap) ⊎ Entailment} to_judgement from_judgement Any
    (alt (is_one from_word) state entailment)

unfoldable pub judgement : Syntax Judgement
judgement = judgement_over state entailment

unfoldable pub kept_judgement : Keep → Syntax Judgement
kept_judgement k = judgement_over (kept_state k) (kept_entailment k)

-- ---- the parts of a reason

unfoldable pub side : Syntax SideTree
side = one (keyword_of side_text sides)

-- number ( "left" | "right" )
unfoldable pub rewrite : Syntax (ℕ × SideTree)
rewrite = seq (one number) side

unfoldable pub split : Syntax (TermTree × TermTree)
split = seq uterm uterm

-- "[" { number } "]" heap
unfoldable pub cut : Syntax (List ℕ × Heap)
cut = seq bracketed (heap (terms false))

unfoldable pub kept_cut : Keep → Syntax (List ℕ × Heap)
kept_cut k = seq bracketed (kept_heap k (terms false))

-- "?" number uterm
unfoldable pub instantiate : Syntax (ℕ × TermTree)
instantiate = after query (seq (one number) uterm)

-- uvar ":=" uterm
abbrev pub to_pair : ℕ × TermTree → PairTree
to_pair p = record { variable = p.0; value = p.1 }

abbrev pub from_pair : PairTree → ℕ × TermTree
from_pair p = (p.variable, p.value)

unfoldable pub pair : Syntax PairTree
pair = shaped {A = ℕ × TermTree} to_pair from_pair Any (after dollar (seq (one number) (after assign uterm)))

abbrev pub some_pair : PairTree
some_pair = record { variable = 0; value = Nil }

-- [ pair { "," pair } ] "}"
unfoldable pub pairs1 : Syntax (List PairTree)
pairs1 = before (list1 some_pair comma pair) closing_brace

unfoldable pub pairs : Syntax (List PairTree)
pairs = or_empty closing_brace pairs1

-- number "{" pairs "[" { number } "]" "[" { number } "]"
abbrev pub to_link : ℕ × (List PairTree × (List ℕ × List ℕ)) → LinkData
to_link p = record { target = p.0; substitution = p.1.0; mapped = p.1.1.0; disjuncts = p.1.1.1 }

abbrev pub from_link : LinkData → ℕ × (List PairTree × (List ℕ × List ℕ))
from_link l = (l.target, (l.substitution, (l.mapped, l.disjuncts)))

unfoldable pub link : Syntax LinkData
link = shaped {A = ℕ × (List PairTree × (List ℕ × List ℕ))} to_link from_link Any
    (seq (one number) (after opening_brace (seq pairs (seq bracketed bracketed))))

-- ---- reason: a rule's word, and what this rule has after it

abbrev pub Parts : ReasonWord → Type 0
Parts words.Absurd = Unit {0}
Parts words.Rewrite = ℕ × SideTree
Parts words.Split = TermTree × TermTree
Parts words.Distinct = ℕ × ℕ
Parts words.Weaken = ℕ
Parts words.Unfold = ℕ
Parts words.Cut = List ℕ × Heap
Parts words.Done = Unit {0}
Parts words.Choose = ℕ
Parts words.PureRight = ℕ
Parts words.Instantiate = ℕ × TermTree
Parts words.Frame = ℕ × ℕ
Parts words.UnfoldRight = ℕ × ℕ
Parts words.Exec = Unit {0}
Parts words.Drop = ℕ
Parts words.Link = LinkData

-- the rule Cut has this after it
abbrev pub parts_over : Syntax (List ℕ × Heap) → (w : ReasonWord) → Syntax (Parts w)
parts_over behind_cut words.Absurd = nothing
parts_over behind_cut words.Rewrite = rewrite
parts_over behind_cut words.Split = split
parts_over behind_cut words.Distinct = two_numbers
parts_over behind_cut words.Weaken = one number
parts_over behind_cut words.Unfold = one number
parts_over behind_cut words.Cut = behind_cut
parts_over behind_cut words.Done = nothing
parts_over behind_cut words.Choose = one number
parts_over behind_cut words.PureRight = one number
parts_over behind_cut words.Instantiate = instantiate
parts_over behind_cut words.Frame = two_numbers
parts_over behind_cut words.UnfoldRight = two_numbers
parts_over behind_cut words.Exec = nothing
parts_over behind_cut words.Drop = one number
parts_over behind_cut words.Link = link

unfoldable pub parts : (w : ReasonWord) → Syntax (Parts w)
parts w = parts_over cut w

unfoldable pub kept_parts : Keep → (w : ReasonWord) → Syntax (Parts w)
kept_parts k w = parts_over (kept_cut k) w

abbrev pub made_of : (w : ReasonWord) → Parts w → Reason
made_of words.Absurd u = Absurd
made_of words.Rewrite p = Rewrite p.0 p.1
made_of words.Split p = Split p.0 p.1
made_of words.Distinct p = Distinct p.0 p.1
made_of words.Weaken k = Weaken k
made_of words.Unfold k = Unfold k
made_of words.Cut p = Cut p.0 p.1
made_of words.Done u = Done
made_of words.Choose j = Choose j
made_of words.PureRight k = PureRight k
made_of words.Instantiate p = Instantiate p.0 p.1
made_of words.Frame p = Frame p.0 p.1
made_of words.UnfoldRight p = UnfoldRight p.0 p.1
made_of words.Exec u = Exec
made_of words.Drop k = Drop k
made_of words.Link l = Link l

abbrev pub to_reason : (w : ReasonWord) × Parts w → Reason
to_reason p = made_of p.0 p.1

abbrev pub from_reason : Reason → (w : ReasonWord) × Parts w
from_reason Absurd = (words.Absurd, tt)
from_reason (Rewrite k s) = (words.Rewrite, (k, s))
from_reason (Split t u) = (words.Split, (t, u))
from_reason (Distinct i j) = (words.Distinct, (i, j))
from_reason (Weaken k) = (words.Weaken, k)
from_reason (Unfold k) = (words.Unfold, k)
from_reason (Cut positions formula) = (words.Cut, (positions, formula))
from_reason Done = (words.Done, tt)
from_reason (Choose j) = (words.Choose, j)
from_reason (PureRight k) = (words.PureRight, k)
from_reason (Instantiate v t) = (words.Instantiate, (v, t))
from_reason (Frame i j) = (words.Frame, (i, j))
from_reason (UnfoldRight j c) = (words.UnfoldRight, (j, c))
from_reason Exec = (words.Exec, tt)
from_reason (Drop k) = (words.Drop, k)
from_reason (Link l) = (words.Link, l)

-- what is read after a rule's word, as a reason
abbrev pub parts_read : ReasonWord → List Word → Reading Reason
parts_read w ws = (parts w).read ws >>= λ y. Ok (made_of w y.0, y.1)

abbrev pub kept_parts_read : Keep → ReasonWord → List Word → Reading Reason
kept_parts_read k w ws = (kept_parts k w).read ws >>= λ y. Ok (made_of w y.0, y.1)

abbrev pub reason_word : Class ReasonWord
reason_word = keyword_of reason_text reason_words

abbrev pub reason_over : ((w : ReasonWord) → Syntax (Parts w)) → Syntax Reason
reason_over parts = shaped {A = (w : ReasonWord) × Parts w} to_reason from_reason Any (headed reason_word parts)

unfoldable pub reason : Syntax Reason
reason = reason_over parts

unfoldable pub kept_reason : Keep → Syntax Reason
kept_reason k = reason_over (kept_parts k)

-- ---- node = "node" judgement "by" reason premises

abbrev pub to_node : Judgement × (Reason × List ℕ) → Node
to_node p = record { judgement = p.0; reason = p.1.0; premises = p.1.1 }

abbrev pub from_node : Node → Judgement × (Reason × List ℕ)
from_node n = (n.judgement, (n.reason, n.premises))

abbrev pub node_over : Syntax Judgement → Syntax Reason → Syntax Node
node_over judgement reason = shaped {A = Judgement × (Reason × List ℕ)} to_node from_node Any
    (after node_word (seq judgement (seq reason premises)))

unfoldable pub node : Syntax Node
node = node_over judgement reason

unfoldable pub kept_node : Keep → Syntax Node
kept_node k = node_over (kept_judgement k) (kept_reason k)

-- ---- file = "cyclist" "proof" ( "1" | "2" | "3" ) ";" { pred } { line } { end } node { node } "end" ";", and the end
-- of the text

abbrev pub some_node : Node
some_node = record {
  judgement = Entails (record { antecedent = some_heap; disjuncts = some_heap ∷ [] });
  reason = Done;
  premises = [];
}

unfoldable pub more_nodes : Syntax (List Node)
more_nodes = many (is_one node_word) node

-- node { node } "end"
unfoldable pub nodes : Syntax (List Node)
nodes = shaped {A = Node × List Node} cons (uncons some_node) IsSome (seq node (before more_nodes last_word))

-- what stands after the version
abbrev pub Contents : Type 0
Contents = List Definition × (List Line × (List End × List Node))

abbrev pub to_file : (v : Version) × Contents → File
to_file p =
    record { version = p.0; definitions = p.1.0; lines = p.1.1.0; ends = p.1.1.1.0; nodes = p.1.1.1.1 }

abbrev pub from_file : File → (v : Version) × Contents
from_file f = (f.version, (f.definitions, (f.lines, (f.ends, f.nodes))))

abbrev pub contents : Version → Syntax Contents
contents v = after semicolon (seq definitions (seq (lines v) (seq (ends v) (before nodes semicolon))))

unfoldable pub body : Syntax File
body = shaped {A = (v : Version) × Contents} to_file from_file Any
    (after cyclist_word (after proof_word (headed version contents)))

unfoldable pub file : Syntax File
file = before body the_end
