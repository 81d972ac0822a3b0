use Rattle.std.proofs.Common.{length, sym, ap, ◌∙◌, arith}
use Rattle.std.proofs.lemmas.List.{length-map}
use Rattle.cyc_lex.specs.Word.{word_of}
use Rattle.heap_reader.proofs.WithinSpans.{flaw_within}
use Rattle.fo_syntax.specs.ProofTrees.{file_of}
use Rattle.fo_file.specs.Spans.{file_end}
use Rattle.fo_file.specs.Flaws.{file_flaw}
use Rattle.fo_file.proofs.Parsed.{file_is}
use Rattle.fo_file.proofs.SpanLaws.{file_words}
use Rattle.fo_file.proofs.WithinSpans.{file_before}
use Rattle.fo_file.proofs.reading.read_tokens.Goals as goal

pub file_flaw-requires-clause-fits : goal.file_flaw-requires-clause-fits
file_flaw-requires-clause-fits c =
    let words = file_words (file_of c.in_ok-tree.tree) c.in_ok-tree.ensures.exact.0 in
    omega (arith, words, ap length c.in_ok-tree.ensures.exact.1, length-map c.args.tokens.now word_of, c.requires.few)

pub flaw_fault-requires-clause-there : goal.flaw_fault-requires-clause-there
flaw_fault-requires-clause-there c =
    let tree = file_of c.in_ok-tree.tree in
    let is = file_is tree c.in_ok-tree.ensures.exact.0 in
    let words = file_words tree c.in_ok-tree.ensures.exact.0 in
    let before = flaw_within (file_flaw tree) (file_end tree) c.in-Some.flaw (file_before tree is.0 is.1)
    (sym c.in_ok-flaw.ensures ∙ c.in-Some.is) in
    omega (arith, words, ap length c.in_ok-tree.ensures.exact.1, length-map c.args.tokens.now word_of, before)
