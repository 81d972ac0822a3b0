use Rattle.std.proofs.Common.{◌≡◌, List, map, ap, ◌∙◌}
use Rattle.std.specs.Borrow.{Bor}
use Rattle.cyc_lex.specs.declared.token.Token.{Token}
use Rattle.cyc_lex.specs.Word.{word}
use Rattle.problem_syntax.specs.Numbering.{universals}
use Rattle.proof_picture.specs.Naming.{words_of}
use Rattle.proof_picture.specs.Titles.{lines_in, statements_in, title}
use Rattle.problem_syntax.specs.NameViews.{name_of}
use Rattle.problem_syntax.specs.Trees.{problem_of}
use Rattle.proof_picture.specs.Pieces.{pieces_of}
use Rattle.draw_top.specs.Answers.{called_in}
use Rattle.draw_top.proofs.Told.{titled_in}
use Rattle.draw_top.proofs.named.text_in.Goals as goal

pub returns : goal.returns
returns c =
    let tree = problem_of c.args.tree.now in
    let statements = statements_in (map word c.args.tokens.now) in
    let names : map name_of c.as_slice-3.result.now ≡ universals tree = ap (map name_of) c.as_slice-3.ensures.value
    ∙ c.in_ok-names.ensures.names in
    let lines : map words_of c.as_slice-4.result.now ≡ lines_in statements =
    ap (map words_of) c.as_slice-4.ensures.value ∙ c.in_ok-lines.ensures
    ∙ ap (λ (ss : List (Bor (List Token))). lines_in (map words_of ss)) c.as_slice.ensures.value
    ∙ ap lines_in c.in_ok-statements.ensures in
    let parts : pieces_of c.in_ok-title.title ≡ title statements =
    c.in_ok-title.ensures ∙ ap (λ (ss : List (Bor (List Token))). title (map words_of ss)) c.as_slice-2.ensures.value
    ∙ ap title c.in_ok-statements.ensures in
    titled_in (λ b. b.items) c.titled_text.result c.args.view c.args.file.now
    (record { names = map name_of c.as_slice-3.result.now; lines = map words_of c.as_slice-4.result.now })
    (called_in tree statements) (pieces_of c.in_ok-title.title) (title statements)
    (λ i. record { names = names i; lines = lines i }) parts c.titled_text.ensures
