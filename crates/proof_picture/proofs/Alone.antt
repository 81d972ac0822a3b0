-- A node alone in a file, and the tokens of what is written.
use Rattle.std.proofs.Common.{◌≡◌, ℕ, ◌+◌, ◌-◌, ◌≤◌, List, [], ◌∷◌, ◌++◌, length, length-append, take, drop, map, Ok}
use Rattle.std.proofs.Common.{refl, sym, ap, subst, ◌∙◌, append_assoc, arith}
use Rattle.std.proofs.lemmas.List.{take-map, drop-map, length-map}
use Rattle.std.proofs.Math.Seq.{take-append_seam}
use Rattle.cyc_lex.specs.declared.token.Token.{Token}
use Rattle.cyc_lex.specs.Word.{Word, word, word_of, end_word}
use Rattle.cyc_lex.specs.Placed.{Placed, placed}
use Rattle.cyc_lex.specs.Spelling.{Spells}
use Rattle.cyc_lex.specs.Lexing.{tokens_of}
use Rattle.cyc_lex.proofs.Lexemes.{lexemes-read}
use Rattle.cyc_grammar.specs.Syntax.{fits_many}
use Rattle.heap_syntax.specs.declared.version.Version.TheVariants.{One}
use Rattle.proof_syntax.specs.Trees.{Definition, Line, End, Node, File}
use Rattle.proof_syntax.specs.Grammar.{cyclist_word, proof_word, version, semicolon, node_word, last_word, premises}
use Rattle.proof_syntax.specs.Grammar.{definitions, node, nodes, more_nodes, body, file}
use Rattle.heap_syntax.specs.LineGrammar as commands
use Rattle.heap_syntax.specs.EndGrammar as end_grammar
use Rattle.proof_syntax.proofs.GrammarEnds.{body-inner}
use Rattle.proof_file.specs.declared.file.ProofFile.{ProofFile}
use Rattle.proof_file.specs.Written.{tree_of, text_of_file}
use Rattle.proof_picture.specs.Labels.{alone, statement, AllFit}

-- ---- what has a text

many_fit : (ns : List Node) → fits_many node ns → AllFit ns
many_fit [] f = tt
many_fit (n ∷ ns) f = (f.0, many_fit ns f.1)

nodes_fit : (ns : List Node) → nodes.fits ns → AllFit ns
unfolding nodes more_nodes
nodes_fit [] f = tt
nodes_fit (n ∷ ns) f = (f.1.0, many_fit ns f.1.1)

-- the nodes of a file that has a text have one
pub all_fit : (f : File) → file.fits f → AllFit f.nodes
unfolding file body
all_fit f fit = nodes_fit f.nodes fit.1.1.1.1.1

-- a node that has a text has one alone
pub alone_fits : (n : Node) → node.fits n → file.fits (alone n)
unfolding file body definitions commands.lines end_grammar.ends nodes more_nodes node premises
alone_fits n f = (tt, (tt, (tt, (tt, ((tt, tt), (omega arith, ((tt, (f.1.0, (f.1.1.0, (tt, tt)))), tt)))))))

-- ---- words

same_tokens : (ts us : List Placed) (bytes : List ℕ) → tokens_of bytes ≡ Ok ts → tokens_of bytes ≡ Ok us → ts ≡ us
same_tokens ts us bytes first second = cc

-- the tokens of a text that spells words have these words, and then the end
pub spelled : (bytes : List ℕ) (ws : List Word) (ts : List Placed) → Spells bytes ws → tokens_of bytes ≡ Ok ts
    → map word_of ts ≡ ws ++ end_word ∷ []
spelled bytes ws ts has told = ap (map word_of) (same_tokens ts has.0 bytes told has.1) ∙ has.2

-- the tokens of a file's text are those of its tree
pub file_spelled : (f : ProofFile) (bytes : List ℕ) (ts : List Placed)
    → bytes ≡ text_of_file f.version f.defs.list f.program f.nodes → tokens_of bytes ≡ Ok ts
    → map word_of ts ≡ file.words (tree_of f.version f.defs.list f.program f.nodes)
unfolding file
file_spelled f bytes ts is told =
    let t = tree_of f.version f.defs.list f.program f.nodes in
    let has = lexemes-read (body.words t) (body-inner.inner t f.fits) in
    spelled bytes (body.words t) ts (subst (λ bs. Spells bs (body.words t)) (sym is) has) told

front : List Word → List Word
front ws = cyclist_word.word tt ∷ proof_word.word tt ∷ version.word One ∷ semicolon.word tt ∷ node_word.word tt ∷ ws

behind : List Word
behind = semicolon.word tt ∷ last_word.word tt ∷ semicolon.word tt ∷ end_word ∷ []

alone_words : (n : Node) → body.words (alone n) ++ end_word ∷ [] ≡ front (statement n) ++ behind
unfolding body definitions commands.lines end_grammar.ends nodes more_nodes node premises front behind
alone_words n = ap front (simp append_assoc)

words_of_placed : (xs : List Token) → map word_of (map placed xs) ≡ map word xs
words_of_placed [] = refl
words_of_placed (x ∷ xs) = ap (λ ws. word x ∷ ws) (words_of_placed xs)

-- between the heading and the end stand the words of the node
between : (ws st : List Word) → ws ≡ front st ++ behind
    → (length ws ≡ length st + 9) × (drop 5 (take (length ws - 4) ws) ≡ st)
unfolding front behind
between ws st is =
    let size : length ws ≡ length st + 9 = ap length is ∙ (let l = length-append (front st) behind in omega arith) in
    let span : length ws - 4 ≡ length (front st) = omega arith in
    (size, (λ i. drop 5 (take (span i) (is i))) ∙ ap (drop 5) (take-append_seam (front st) behind))

-- the same of the tokens of the text of a node alone
pub tokens_between : (n : Node) (bytes : List ℕ) (ts : List Placed) (xs : List Token)
    → Spells bytes (body.words (alone n)) → tokens_of bytes ≡ Ok ts → map placed xs ≡ ts
    → (9 ≤ length xs) × (map word (drop 5 (take (length xs - 4) xs)) ≡ statement n)
tokens_between n bytes ts xs spells told are =
    let is = sym (words_of_placed xs) ∙ ap (map word_of) are ∙ spelled bytes (body.words (alone n)) ts spells told
    ∙ alone_words n in
    let both = between (map word xs) (statement n) is in
    let size : length (map word xs) ≡ length xs = length-map xs word in (
      omega (arith, both.0),
      sym (drop-map word 5 (take (length xs - 4) xs))
          ∙ ap (drop 5) (sym (take-map word (length xs - 4) xs))
          ∙ ap (λ k. drop 5 (take (k - 4) (map word xs))) (sym size)
          ∙ both.1,
    )

-- what is made to be written is the node alone
pub made_fits : (n : Node) (ds : List Definition) (ls : List Line) (es : List End) (ns : List Node) (ps : List ℕ)
    → ds ≡ [] → ls ≡ [] → es ≡ [] → ps ≡ [] → ns ≡ record { judgement = n.judgement; reason = n.reason; premises = ps } ∷ [] → node.fits n
    → file.fits (record { version = One; definitions = ds; lines = ls; ends = es; nodes = ns })
made_fits n ds ls es ns ps d l e p is fits =
    let alone_is : ns ≡ (alone n).nodes = is ∙ ap (λ (qs : List ℕ). record
    { judgement = n.judgement; reason = n.reason; premises = qs } ∷ []) p in
    let same : alone n ≡ record { version = One; definitions = ds; lines = ls; ends = es; nodes = ns } = λ i.
    record { version = One; definitions = sym d i; lines = sym l i; ends = sym e i; nodes = sym alone_is i } in
    subst (λ (f : File). file.fits f) same (alone_fits n fits)
