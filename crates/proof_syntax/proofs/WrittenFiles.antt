-- What is written for a whole file.
use Rattle.std.proofs.Common.{◌≡◌, List, [], ◌∷◌, ◌++◌}
use Rattle.cyc_lex.specs.Word.{Word}
use Rattle.cyc_lex.specs.Writing.{Written, write, write_all}
use Rattle.cyc_grammar.proofs.WrittenTexts.{wrote-behind, wrote-both, wrote-ended}
use Rattle.heap_syntax.specs.declared.version.Version.{Version}
use Rattle.proof_syntax.specs.Trees.{Definition, Line, End, Node}
use Rattle.proof_syntax.specs.Grammar.{cyclist_word, proof_word, version, semicolon, definitions, lines, ends}
use Rattle.proof_syntax.specs.Grammar.{nodes, body}

pub body-wrote : (old a b c d e l m f g : Written) (v : Version) (ds : List Definition) (ls : List Line)
    (es : List End) (ns : List Node)
    → a ≡ write old (cyclist_word.word tt) → b ≡ write a (proof_word.word tt) → c ≡ write b (version.word v)
    → d ≡ write c (semicolon.word tt)
    → e ≡ write_all d (definitions.words ds) → l ≡ write_all e ((lines v).words ls)
    → m ≡ write_all l ((ends v).words es) → f ≡ write_all m (nodes.words ns)
    → g ≡ write f (semicolon.word tt) → g ≡ write_all old
    (body.words (record { version = v; definitions = ds; lines = ls; ends = es; nodes = ns }))
unfolding body
body-wrote old a b c d e l m f g v ds ls es ns ha hb hc hd he hl hm hf hg =
    let nodal : List Word = (ends v).words es ++ (nodes.words ns ++ semicolon.word tt ∷ []) in
    let last : List Word = (lines v).words ls ++ nodal in
    let rest : List Word = definitions.words ds ++ last in
    wrote-behind old a g (cyclist_word.word tt) (proof_word.word tt ∷ version.word v ∷ semicolon.word tt ∷ rest) ha
    (wrote-behind a b g (proof_word.word tt) (version.word v ∷ semicolon.word tt ∷ rest) hb
    (wrote-behind b c g (version.word v) (semicolon.word tt ∷ rest) hc
    (wrote-behind c d g (semicolon.word tt) rest hd
    (wrote-both d e g (definitions.words ds) last he (wrote-both e l g ((lines v).words ls) nodal hl
    (wrote-ended l m f g ((ends v).words es) (nodes.words ns) (semicolon.word tt) hm hf hg))))))
