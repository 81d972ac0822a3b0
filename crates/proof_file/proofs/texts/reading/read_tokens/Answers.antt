use Rattle.std.proofs.Common.{◌+◌, List, length, map, sym, ap, ◌∙◌, arith}
use Rattle.std.proofs.lemmas.List.{length-map}
use Rattle.cyc_lex.specs.Word.{word_of}
use Rattle.heap_reader.specs.Spans.{total}
use Rattle.heap_reader.proofs.WithinSpans.{flaw_within}
use Rattle.heap_syntax.specs.declared.definitions.tree.DefinitionTree.{DefinitionTree}
use Rattle.proof_syntax.specs.Trees.{definition_of, file_of}
use Rattle.proof_file.specs.Spans.{node_span}
use Rattle.proof_file.specs.Flaws.{headings, first_node, file_flaw}
use Rattle.proof_file.proofs.SpanLaws.{file_words}
use Rattle.proof_file.proofs.WithinSpans.{file_before}
use Rattle.proof_file.proofs.texts.reading.read_tokens.Goals as goal

pub file_flaw-requires-clause-known : goal.file_flaw-requires-clause-known
file_flaw-requires-clause-known c =
    c.in_ok-heads.ensures ∙ ap (λ (ds : List DefinitionTree). headings (map definition_of ds)) c.deref.ensures.value

pub file_flaw-requires-clause-fits : goal.file_flaw-requires-clause-fits
file_flaw-requires-clause-fits c =
    let f = file_of c.in_ok-tree.tree in
    let words = file_words f c.in_ok-tree.ensures.exact.0 in
    omega (arith, words, ap length c.in_ok-tree.ensures.exact.1, length-map c.args.tokens.now word_of, c.requires.few)

pub flaw_fault-requires-clause-there : goal.flaw_fault-requires-clause-there
flaw_fault-requires-clause-there c =
    let f = file_of c.in_ok-tree.tree in
    let words = file_words f c.in_ok-tree.ensures.exact.0 in
    let before = flaw_within (file_flaw f) (first_node f + total node_span f.nodes) c.in-Some.flaw (file_before f)
    (sym c.file_flaw.ensures ∙ c.in-Some.is) in
    omega (arith, words, ap length c.in_ok-tree.ensures.exact.1, length-map c.args.tokens.now word_of, before)

pub file_of_tree-requires-clause-known : goal.file_of_tree-requires-clause-known
file_of_tree-requires-clause-known c =
    c.in_ok-heads.ensures ∙ ap (λ (ds : List DefinitionTree). headings (map definition_of ds)) c.deref.ensures.value
