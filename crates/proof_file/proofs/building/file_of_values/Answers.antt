use Rattle.std.proofs.Common.{◌≡◌, true, List, length, map, sym, ap, ◌∙◌, subst, arith}
use Rattle.std.proofs.lemmas.List.{length-map}
use Rattle.heap_formula.specs.declared.commands.Command.{Command}
use Rattle.heap_formula.specs.Definitions.{Definition as DefinitionValue}
use Rattle.proof_syntax.specs.Grammar.{file}
use Rattle.proof_syntax.specs.Trees.{File}
use Rattle.heap_syntax.specs.Versions.{limits}
use Rattle.proof_file.specs.FileNodes.{FileNode}
use Rattle.proof_file.specs.Readable.{are_readable, are_universal_commands, are_at_lines, all_have_few_cases}
use Rattle.proof_file.specs.Flaws.{headings, file_flaw}
use Rattle.proof_file.specs.Written.{tree_of}
use Rattle.heap_reader.specs.LineValues.{line_value, variable_value, program_value}
use Rattle.heap_reader.specs.EndValues.{end_value}
use Rattle.heap_reader.proofs.EndFitting.{as_many_commands}
use Rattle.proof_file.specs.Values.{term_value, node_value}
use Rattle.proof_file.proofs.Fitting.{file_small}
use Rattle.proof_file.proofs.SpanLaws.{file_ends_some, nodes_some, file_some}
use Rattle.proof_file.proofs.TreesAgain.{tree_again}
use Rattle.proof_file.proofs.ReadableNodes.{nodes_readable, commands_universal, file_at_lines, cases_few}
use Rattle.proof_file.proofs.building.file_of_values.Goals as goal

pub invariant_of-result : goal.invariant_of-result
invariant_of-result c =
    let f = c.requires.0 in
    let fits = c.requires.1 in
    let right = c.requires.2 in
    let said = c.requires.3 in
    let small = file_small f (file_ends_some f fits) (nodes_some f fits) right in
    let some = file_some f fits in
    let few = small.nodes_few in
    let hs = headings f.definitions in
    let nodes_are = c.from_vec.ensures ∙ said.nodes in
    let same : f ≡ tree_of c.args.version c.args.defs.list c.args.program c.from_vec.result = sym
    ((λ i. tree_of (said.version i) (said.definitions i) (said.program i) (nodes_are i)) ∙ tree_again f right) in
    let size = length-map f.nodes (node_value hs) in
    let count = ap length said.program
    ∙ as_many_commands 0 (program_value f.lines) (map (end_value term_value hs) f.ends)
    ∙ length-map (map (line_value variable_value) f.lines) _ ∙ length-map f.lines (line_value variable_value) in
    record {
      some = omega (arith, some, size, ap length nodes_are);
      few = omega (arith, few, size, ap length nodes_are);
      readable = subst (λ (ns : List FileNode). are_readable ns ≡ true) (sym nodes_are) (nodes_readable f fits);
      universal = subst (λ (cs : List Command). are_universal_commands cs ≡ true) (sym said.program)
          (commands_universal f.lines (map (end_value term_value hs) f.ends));
      at_lines = (λ i. are_at_lines (count i) (nodes_are i)) ∙ file_at_lines f right;
      cases = subst (λ (ds : List DefinitionValue). all_have_few_cases ds ≡ true) (sym said.definitions)
          (cases_few f.definitions hs small.definitions);
      limit = said.most ∙ ap limits (sym said.version);
      fits = subst (λ (t : File). file.fits t) same fits;
      flawless = ap file_flaw (sym same) ∙ right;
    }
