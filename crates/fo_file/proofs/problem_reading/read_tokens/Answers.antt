use Rattle.std.proofs.Common.{length, sym, ap, ◌∙◌, arith}
use Rattle.std.proofs.lemmas.List.{length-map}
use Rattle.cyc_lex.specs.Word.{word_of}
use Rattle.heap_reader.proofs.WithinSpans.{flaw_within}
use Rattle.fo_syntax.specs.ProblemTrees.{problem_of}
use Rattle.fo_file.specs.Spans.{problem_end}
use Rattle.fo_file.specs.Flaws.{problem_flaw}
use Rattle.fo_file.proofs.Parsed.{problem_is}
use Rattle.fo_file.proofs.SpanLaws.{problem_words}
use Rattle.fo_file.proofs.WithinSpans.{problem_before}
use Rattle.fo_file.proofs.problem_reading.read_tokens.Goals as goal

pub problem_flaw-requires-clause-fits : goal.problem_flaw-requires-clause-fits
problem_flaw-requires-clause-fits c =
    let words = problem_words (problem_of c.in_ok-tree.tree) c.in_ok-tree.ensures.exact.0 in
    omega (arith, words, ap length c.in_ok-tree.ensures.exact.1, length-map c.args.tokens.now word_of, c.requires.few)

pub flaw_fault-requires-clause-there : goal.flaw_fault-requires-clause-there
flaw_fault-requires-clause-there c =
    let tree = problem_of c.in_ok-tree.tree in
    let is = problem_is tree c.in_ok-tree.ensures.exact.0 in
    let words = problem_words tree c.in_ok-tree.ensures.exact.0 in
    let before = flaw_within (problem_flaw tree) (problem_end tree) c.in-Some.flaw (problem_before tree is.0 is.1)
    (sym c.in_ok-flaw.ensures ∙ c.in-Some.is) in
    omega (arith, words, ap length c.in_ok-tree.ensures.exact.1, length-map c.args.tokens.now word_of, before)
