-- What is written for a run file is the words of its parts.
use Rattle.std.proofs.Common.{◌≡◌, List, [], ◌∷◌, ◌++◌}
use Rattle.cyc_lex.specs.Word.{Word}
use Rattle.cyc_lex.specs.Writing.{Written, write, write_all}
use Rattle.cyc_grammar.proofs.WrittenTexts.{wrote-behind, wrote-ended}
use Rattle.heap_syntax.specs.Words.{cyclist_word, semicolon}
use Rattle.model_file.specs.Versions.{model_version}
use Rattle.run_file.specs.Trees.{Run}
use Rattle.run_file.specs.Grammar.{run_word, claim, claim_of, course, course_of, body}

-- the whole of a run file
pub body-wrote : (old a b c d e f g : Written) (r : Run) → a ≡ write old (cyclist_word.word tt)
    → b ≡ write a (run_word.word tt) → c ≡ write b (model_version.word r.version) → d ≡ write c (semicolon.word tt)
    → e ≡ write_all d ((claim r.version).words (claim_of r))
    → f ≡ write_all e ((course r.version).words (course_of r))
    → g ≡ write f (semicolon.word tt) → g ≡ write_all old (body.words r)
unfolding body
body-wrote old a b c d e f g r ha hb hc hd he hf hg =
    let last : List Word = (course r.version).words (course_of r) ++ semicolon.word tt ∷ [] in
    let rest : List Word = (claim r.version).words (claim_of r) ++ last in
    wrote-behind old a g (cyclist_word.word tt)
    (run_word.word tt ∷ model_version.word r.version ∷ semicolon.word tt ∷ rest) ha
    (wrote-behind a b g (run_word.word tt) (model_version.word r.version ∷ semicolon.word tt ∷ rest) hb
    (wrote-behind b c g (model_version.word r.version) (semicolon.word tt ∷ rest) hc
    (wrote-behind c d g (semicolon.word tt) rest hd
    (wrote-ended d e f g ((claim r.version).words (claim_of r)) ((course r.version).words (course_of r)) (semicolon.word tt) he
    hf hg))))
