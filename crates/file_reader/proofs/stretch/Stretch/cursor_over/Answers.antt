use Rattle.std.proofs.Common.{◌≡◌, true, List, [], ◌∷◌, refl, sym, ap, subst, ◌∙◌}
use Rattle.std.specs.Prelude.{map}
use Rattle.cyc_lex.specs.declared.token.Token.{Token}
use Rattle.cyc_lex.specs.Placed.{placed}
use Rattle.cyc_lex.specs.Word.{Word, word, word_of}
use Rattle.cyc_grammar.specs.Classes.{are_tokens}
use Rattle.file_reader.proofs.stretch.Stretch.cursor_over.Goals as goal

placed-words : (ts : List Token) → map word ts ≡ map word_of (map placed ts)
placed-words [] = refl
placed-words (t ∷ ts) = λ i. word t ∷ placed-words ts i

pub new-requires : goal.new-requires
new-requires c =
    let same = placed-words c.args.kept.now ∙ ap (map word_of) (c.requires.kept c.if-kept-self.true) in
    subst (λ (ws : List Word). are_tokens ws ≡ true) (sym same) c.requires.tokens

pub returns-then-kept-self : goal.returns-then-kept-self
returns-then-kept-self c = c.new.ensures ∙ placed-words c.args.kept.now
    ∙ ap (map word_of) (c.requires.kept c.if-kept-self.true)
