use Rattle.std.proofs.Common.{length, sym, ap, ◌∙◌, arith}
use Rattle.std.proofs.lemmas.List.{length-map}
use Rattle.cyc_lex.specs.Word.{word_of}
use Rattle.problem_syntax.specs.Trees.{problem_of as named_problem_of}
use Rattle.heap_reader.proofs.WithinSpans.{flaw_within}
use Rattle.problem_syntax.specs.Numbered.{problem_of}
use Rattle.formula_reader.specs.Spans.{problem_span}
use Rattle.formula_reader.specs.Flaws.{problem_flaw}
use Rattle.formula_reader.proofs.SpanLaws.{problem_words}
use Rattle.formula_reader.proofs.WithinSpans.{problem_before}
use Rattle.formula_reader.proofs.reading.read_tree.Goals as goal

pub numbers-requires : goal.numbers-requires
numbers-requires c =
    let words = problem_words (named_problem_of c.args.tree.now) c.requires.spelled.0 in
    omega (arith, words, ap length c.requires.spelled.1, length-map c.args.tokens.now word_of, c.requires.few)

pub problem_flaw-requires-clause-fits : goal.problem_flaw-requires-clause-fits
problem_flaw-requires-clause-fits c =
    let words = problem_words (named_problem_of c.args.tree.now) c.requires.spelled.0 in
    omega (
      arith,
      words,
      ap length c.requires.spelled.1,
      length-map c.args.tokens.now word_of,
      c.requires.few,
      ap problem_span c.in_ok-heads.ensures.numbers,
    )

pub flaw_fault-requires-clause-there : goal.flaw_fault-requires-clause-there
flaw_fault-requires-clause-there c =
    let p = problem_of c.in_ok-heads.tree in
    let words = problem_words (named_problem_of c.args.tree.now) c.requires.spelled.0 in
    let before = flaw_within (problem_flaw p) (problem_span p) c.in-Some.flaw (problem_before p)
    (sym c.problem_flaw.ensures ∙ c.in-Some.is) in
    omega (
      arith,
      words,
      ap length c.requires.spelled.1,
      length-map c.args.tokens.now word_of,
      before,
      ap problem_span c.in_ok-heads.ensures.numbers,
    )

pub problem_of_tree-requires-clause-text : goal.problem_of_tree-requires-clause-text
problem_of_tree-requires-clause-text c =
    (named_problem_of c.args.tree.now, c.requires.spelled.0, sym c.in_ok-heads.ensures.numbers)
