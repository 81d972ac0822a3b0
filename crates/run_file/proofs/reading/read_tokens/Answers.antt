use Rattle.std.proofs.Common.{List, length, map, sym, ap, ◌∙◌, arith}
use Rattle.std.proofs.lemmas.List.{length-map}
use Rattle.cyc_lex.specs.Word.{word_of}
use Rattle.heap_reader.proofs.WithinSpans.{flaw_within}
use Rattle.heap_syntax.specs.declared.definitions.tree.DefinitionTree.{DefinitionTree}
use Rattle.heap_syntax.specs.DefinitionTrees.{definition_of}
use Rattle.heap_reader.specs.DefinitionFlaws.{headings}
use Rattle.run_file.specs.Trees.{run_of}
use Rattle.run_file.specs.Flaws.{outcome_place, run_flaw}
use Rattle.run_file.proofs.SpanLaws.{run_words}
use Rattle.run_file.proofs.WithinSpans.{run_before}
use Rattle.run_file.proofs.reading.read_tokens.Goals as goal

pub run_flaw-requires-clause-known : goal.run_flaw-requires-clause-known
run_flaw-requires-clause-known c =
    c.in_ok-heads.ensures ∙ ap (λ (ds : List DefinitionTree). headings (map definition_of ds)) c.deref.ensures.value

pub run_flaw-requires-clause-fits : goal.run_flaw-requires-clause-fits
run_flaw-requires-clause-fits c =
    let r = run_of c.in_ok-tree.tree in
    let words = run_words r c.in_ok-tree.ensures.exact.0 in
    omega (arith, words, ap length c.in_ok-tree.ensures.exact.1, length-map c.args.tokens.now word_of, c.requires.few)

pub flaw_fault-requires-clause-there : goal.flaw_fault-requires-clause-there
flaw_fault-requires-clause-there c =
    let r = run_of c.in_ok-tree.tree in
    let words = run_words r c.in_ok-tree.ensures.exact.0 in
    let before = flaw_within (run_flaw r) (outcome_place r) c.in-Some.flaw (run_before r)
    (sym c.run_flaw.ensures ∙ c.in-Some.is) in
    omega (arith, words, ap length c.in_ok-tree.ensures.exact.1, length-map c.args.tokens.now word_of, before)

pub run_of_tree-requires-clause-known : goal.run_of_tree-requires-clause-known
run_of_tree-requires-clause-known c =
    c.in_ok-heads.ensures ∙ ap (λ (ds : List DefinitionTree). headings (map definition_of ds)) c.deref.ensures.value
