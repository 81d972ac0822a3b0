-- What is written for a whole file.
use Rattle.std.proofs.Common.{◌≡◌, List, [], ◌∷◌, ◌++◌}
use Rattle.cyc_lex.specs.Word.{Word}
use Rattle.cyc_lex.specs.Writing.{Written, write, write_all}
use Rattle.cyc_grammar.proofs.WrittenTexts.{wrote-behind, wrote-both, wrote-ended}
use Rattle.heap_syntax.specs.Words.{cyclist_word, semicolon}
use Rattle.heap_syntax.specs.Versions.{first_version}
use Rattle.fo_syntax.specs.ProblemTrees.{Constructor, Definition}
use Rattle.fo_syntax.specs.ProblemGrammar.{constructors, definitions}
use Rattle.fo_syntax.specs.ProofWords.{fo_word}
use Rattle.fo_syntax.specs.ProofTrees.{Node}
use Rattle.fo_syntax.specs.ProofGrammar.{nodes, body}

pub body-wrote : (old a b c d e f g h : Written) (cs : List Constructor) (ds : List Definition) (ns : List Node)
    → a ≡ write old (cyclist_word.word tt) → b ≡ write a (fo_word.word tt) → c ≡ write b (first_version.word tt)
    → d ≡ write c (semicolon.word tt)
    → e ≡ write_all d (constructors.words cs) → f ≡ write_all e (definitions.words ds)
    → g ≡ write_all f (nodes.words ns) → h ≡ write g (semicolon.word tt)
    → h ≡ write_all old (body.words (record { constructors = cs; definitions = ds; nodes = ns }))
unfolding body
body-wrote old a b c d e f g h cs ds ns ha hb hc hd he hf hg hh =
    let last : List Word = definitions.words ds ++ (nodes.words ns ++ semicolon.word tt ∷ []) in
    let rest : List Word = constructors.words cs ++ last in
    wrote-behind old a h (cyclist_word.word tt) (fo_word.word tt ∷ first_version.word tt ∷ semicolon.word tt ∷ rest) ha
    (wrote-behind a b h (fo_word.word tt) (first_version.word tt ∷ semicolon.word tt ∷ rest) hb
    (wrote-behind b c h (first_version.word tt) (semicolon.word tt ∷ rest) hc
    (wrote-behind c d h (semicolon.word tt) rest hd
    (wrote-both d e h (constructors.words cs) last he (wrote-ended e f g h (definitions.words ds) (nodes.words ns)
    (semicolon.word tt) hf hg hh)))))
