-- What is written for a list of numbers and for a whole model file.
use Rattle.std.proofs.Common.{◌≡◌, ℕ, List, [], ◌∷◌, ◌++◌}
use Rattle.cyc_lex.specs.Word.{Word}
use Rattle.cyc_lex.specs.Writing.{Written, write, write_all}
use Rattle.cyc_grammar.specs.Syntax.{one, after}
use Rattle.cyc_grammar.specs.Classes.{number}
use Rattle.cyc_grammar.proofs.WrittenTexts.{wrote-behind, wrote-both, wrote-ended}
use Rattle.heap_syntax.specs.Words.{cyclist_word, comma, semicolon}
use Rattle.heap_syntax.specs.DefinitionGrammar.{definitions}
use Rattle.model_file.specs.Trees.{Model}
use Rattle.model_file.specs.Versions.{model_version}
use Rattle.model_file.specs.Grammar.{model_word, question, state, body}

-- a word, some words, and a word after them
pub number-wrote : (old mid late new : Written) (first : Word) (ws : List Word) (last : Word) → mid ≡ write old first
    → late ≡ write_all mid ws → new ≡ write late last → new ≡ write_all old (first ∷ (ws ++ last ∷ []))
unfolding write_all
number-wrote old mid late new first ws last ha hb hc =
    wrote-behind old mid new first (ws ++ last ∷ []) ha (wrote-both mid late new ws (last ∷ []) hb hc)

-- a comma and a number
pub behind-comma-wrote : (old mid new : Written) (n : ℕ) → mid ≡ write old (comma.word tt)
    → new ≡ write mid (number.word n) → new ≡ write_all old ((after comma (one number)).words n)
unfolding write_all
behind-comma-wrote old mid new n ha hb = wrote-behind old mid new (comma.word tt) (number.word n ∷ []) ha hb

-- the whole of a model file
pub body-wrote : (old a b c d e f g h : Written) (m : Model) → a ≡ write old (cyclist_word.word tt)
    → b ≡ write a (model_word.word tt) → c ≡ write b (model_version.word m.version) → d ≡ write c (semicolon.word tt)
    → e ≡ write_all d (definitions.words m.definitions) → f ≡ write_all e (state.words (m.stack, m.cells))
    → g ≡ write_all f (question.words m.ask) → h ≡ write g (semicolon.word tt) → h ≡ write_all old (body.words m)
unfolding body
body-wrote old a b c d e f g h m ha hb hc hd he hf hg hh =
    let last : List Word = state.words (m.stack, m.cells) ++ (question.words m.ask ++ semicolon.word tt ∷ []) in
    let rest : List Word = definitions.words m.definitions ++ last in
    wrote-behind old a h (cyclist_word.word tt) (model_word.word tt ∷ model_version.word m.version ∷ semicolon.word tt ∷
    rest)
    ha
    (wrote-behind a b h (model_word.word tt) (model_version.word m.version ∷ semicolon.word tt ∷ rest) hb
    (wrote-behind b c h (model_version.word m.version) (semicolon.word tt ∷ rest) hc
    (wrote-behind c d h (semicolon.word tt) rest hd
    (wrote-both d e h (definitions.words m.definitions) last he
    (wrote-ended e f g h (state.words (m.stack, m.cells)) (question.words m.ask) (semicolon.word tt) hf hg hh)))))
