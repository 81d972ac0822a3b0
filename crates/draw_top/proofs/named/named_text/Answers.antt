use Rattle.std.proofs.Common.{map}
use Rattle.cyc_lex.specs.Word.{word}
use Rattle.problem_syntax.specs.Trees.{problem_of}
use Rattle.draw_top.proofs.Told.{named_is, words_placed}
use Rattle.draw_top.proofs.named.named_text.Goals as goal

pub returns : goal.returns
returns c =
    named_is (λ b. b.items) c.text_in.result c.args.view c.args.file.now c.args.problem.now c.in-Ok.tokens
    (problem_of c.in-Ok-read_problem_tree.tree) (map word c.as_slice.result.now)
    c.in-Ok.ensures.exact c.in-Ok-read_problem_tree.ensures.exact
    (words_placed c.as_slice.result.now c.in-Ok.tokens c.as_slice.ensures) c.text_in.ensures
