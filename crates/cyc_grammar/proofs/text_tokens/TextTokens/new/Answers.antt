use Rattle.std.proofs.Common.{◌≡◌, ◌≤◌, ◌∙◌, length, List, true, sym, ap, subst}
use Rattle.std.specs.Prelude.{map, take}
use Rattle.std.proofs.lemmas.List.{take-map}
use Rattle.cyc_lex.specs.Placed.{Placed}
use Rattle.cyc_lex.specs.Word.{word_of}
use Rattle.cyc_lex.specs.Cutting.{cut_text}
use Rattle.cyc_lex.proofs.CutLaws.{cut-comment}
use Rattle.cyc_grammar.specs.Classes.{are_tokens}
use Rattle.cyc_grammar.proofs.TextLaws.{next-words, next-left}
use Rattle.cyc_grammar.proofs.text_tokens.TextTokens.new.Goals as goal

pub invariant_of-result : goal.invariant_of-result
invariant_of-result c =
    let same = cut-comment c.args.place c.skip_comment.result.1 c.args.comment c.args.text.now
    c.skip_comment.result.0.now c.skip_comment.ensures.rest c.skip_comment.ensures.place in
    next-left c.skip_comment.result.1 c.skip_comment.result.0.now c.cut_token-cut.result c.cut_token-cut.ensures
    c.args.count (subst (λ (ts : List Placed). c.args.count ≤ length ts) same c.requires.within)
    (subst (λ (ts : List Placed). are_tokens (take c.args.count (map word_of ts)) ≡ true) same
    (ap are_tokens (take-map word_of c.args.count (cut_text c.args.place c.args.comment c.args.text.now))
    ∙ c.requires.tokens))

pub returns : goal.returns
returns c =
    let same = cut-comment c.args.place c.skip_comment.result.1 c.args.comment c.args.text.now
    c.skip_comment.result.0.now c.skip_comment.ensures.rest c.skip_comment.ensures.place in
    next-words c.skip_comment.result.1 c.skip_comment.result.0.now c.cut_token-cut.result c.cut_token-cut.ensures
    c.args.count (subst (λ (ts : List Placed). c.args.count ≤ length ts) same c.requires.within)
    ∙ ap (λ (ts : List Placed). take c.args.count (map word_of ts)) (sym same)
    ∙ take-map word_of c.args.count (cut_text c.args.place c.args.comment c.args.text.now)
