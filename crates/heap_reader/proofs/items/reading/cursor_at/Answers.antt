use Rattle.std.proofs.Common.{◌≡◌, ◌∙◌, true, List, sym, subst}
use Rattle.cyc_lex.specs.Word.{Word}
use Rattle.cyc_grammar.specs.Classes.{are_tokens}
use Rattle.heap_reader.proofs.Parts.{slice_words, slice_tokens}
use Rattle.heap_reader.proofs.items.reading.cursor_at.Goals as goal

pub new-requires : goal.new-requires
new-requires c =
    subst (λ (ws : List Word). are_tokens ws ≡ true)
    (sym (slice_words c.as_slice.result.now c.args.tokens.now c.args.place c.as_slice.ensures))
    (slice_tokens c.args.tokens.now c.args.place c.requires.words)

pub returns : goal.returns
returns c = c.new.ensures ∙ slice_words c.as_slice.result.now c.args.tokens.now c.args.place c.as_slice.ensures
