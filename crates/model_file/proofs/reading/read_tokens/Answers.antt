use Rattle.std.proofs.Common.{◌+◌, List, length, map, sym, ap, ◌∙◌, arith}
use Rattle.std.proofs.lemmas.List.{length-map}
use Rattle.cyc_lex.specs.Word.{word_of}
use Rattle.heap_reader.specs.Spans.{heap_span}
use Rattle.heap_reader.proofs.WithinSpans.{flaw_within}
use Rattle.heap_syntax.specs.declared.definitions.tree.DefinitionTree.{DefinitionTree}
use Rattle.heap_syntax.specs.DefinitionTrees.{definition_of}
use Rattle.heap_reader.specs.DefinitionSpans.{term_span}
use Rattle.heap_reader.specs.DefinitionFlaws.{headings}
use Rattle.model_file.specs.Trees.{model_of}
use Rattle.model_file.specs.Flaws.{first_atom, model_flaw}
use Rattle.model_file.proofs.SpanLaws.{model_words}
use Rattle.model_file.proofs.WithinSpans.{model_before}
use Rattle.model_file.proofs.reading.read_tokens.Goals as goal

pub model_flaw-requires-clause-known : goal.model_flaw-requires-clause-known
model_flaw-requires-clause-known c =
    c.in_ok-heads.ensures ∙ ap (λ (ds : List DefinitionTree). headings (map definition_of ds)) c.deref.ensures.value

pub model_flaw-requires-clause-fits : goal.model_flaw-requires-clause-fits
model_flaw-requires-clause-fits c =
    let m = model_of c.in_ok-tree.tree in
    let words = model_words m c.in_ok-tree.ensures.exact.0 in
    omega (arith, words, ap length c.in_ok-tree.ensures.exact.1, length-map c.args.tokens.now word_of, c.requires.few)

pub flaw_fault-requires-clause-there : goal.flaw_fault-requires-clause-there
flaw_fault-requires-clause-there c =
    let m = model_of c.in_ok-tree.tree in
    let words = model_words m c.in_ok-tree.ensures.exact.0 in
    let before = flaw_within (model_flaw m) (first_atom m + heap_span term_span m.ask) c.in-Some.flaw (model_before m)
    (sym c.model_flaw.ensures ∙ c.in-Some.is) in
    omega (arith, words, ap length c.in_ok-tree.ensures.exact.1, length-map c.args.tokens.now word_of, before)

pub model_of_tree-requires-clause-known : goal.model_of_tree-requires-clause-known
model_of_tree-requires-clause-known c =
    c.in_ok-heads.ensures ∙ ap (λ (ds : List DefinitionTree). headings (map definition_of ds)) c.deref.ensures.value
