use Rattle.std.proofs.Common.{◌≡◌, ◌+◌, List, length, map, sym, ap, ◌∙◌, subst, refl, arith}
use Rattle.std.proofs.lemmas.List.{length-map}
use Rattle.heap_formula.specs.Words.{Each}
use Rattle.rule_table.specs.Tests.{is_universal_heap}
use Rattle.heap_reader.specs.Values.{heap_value}
use Rattle.heap_reader.specs.EndValues.{end_value, ended_value}
use Rattle.heap_syntax.specs.declared.version.Version.{Version}
use Rattle.heap_syntax.specs.declared.definitions.tree.DefinitionTree.{DefinitionTree}
use Rattle.heap_syntax.specs.declared.definitions.tree.TermTree.{TermTree}
use Rattle.heap_syntax.specs.declared.ends.tree.EndTree.{EndTree}
use Rattle.heap_syntax.specs.NumberedEnds.{end_of, ends}
use Rattle.heap_syntax.specs.DefinitionTrees.{definition_of}
use Rattle.heap_reader.specs.DefinitionFlaws.{heading, headings}
use Rattle.heap_reader.specs.DefinitionValues.{term_value, definition_value}
use Rattle.heap_reader.proofs.DefinitionFitting.{definitions_small, outside_small}
use Rattle.proof_file.specs.Building.{front_of}
use Rattle.proof_file.specs.Flaws.{file_flaw}
use Rattle.proof_file.specs.Readable.{are_universal_commands}
use Rattle.proof_file.proofs.ReadableNodes.{commands_universal}
use Rattle.model_file.specs.declared.syntax.tree.CellTree.{CellTree}
use Rattle.model_file.specs.Trees.{cell_of}
use Rattle.model_file.specs.Small.{IsSmallCell}
use Rattle.model_file.specs.Values.{cells_value}
use Rattle.model_file.proofs.Parts.{limits_fit}
use Rattle.heap_syntax.specs.Versions.{limits}
use Rattle.run_file.specs.Grammar.{run}
use Rattle.run_file.specs.Trees.{Run, pick_of, run_of}
use Rattle.run_file.specs.Flaws.{allowed, from_place, run_flaw}
use Rattle.run_file.specs.Written.{tree_of}
use Rattle.run_file.proofs.Parts.{faultless, line_there, program_long}
use Rattle.run_file.proofs.RunsAgain.{ends_fit, sorted, sorted_fits, sorted_flawless, tree_again, state_universal}
use Rattle.run_file.proofs.RunsAgain.{run_small}
use Rattle.run_file.proofs.reading.run_of_tree.Goals as goal

pub front_values-requires-clause-known : goal.front_values-requires-clause-known
front_values-requires-clause-known c = c.requires.known
    ∙ ap (λ (ds : List DefinitionTree). headings (map definition_of ds)) (sym c.deref.ensures.value)

pub front_values-requires-clause-right : goal.front_values-requires-clause-right
front_values-requires-clause-right c =
    (λ i. file_flaw (front_of (c.format.ensures i) (map definition_of (c.deref.ensures.value i))
    (c.deref-2.ensures.value i) (map end_of (c.deref-3.ensures.value i))))
    ∙ (faultless (run_of c.args.tree.now) c.requires.right).front

pub front_values-requires-clause-fits : goal.front_values-requires-clause-fits
front_values-requires-clause-fits c =
    let r = run_of c.args.tree.now in
    subst (λ (p : Version × List (EndTree TermTree)). (ends p.0).fits (map end_of p.1))
    (λ i. (sym c.format.ensures i, sym c.deref-3.ensures.value i)) (ends_fit r c.requires.fits)

pub heap_value-requires-clause-small : goal.heap_value-requires-clause-small
heap_value-requires-clause-small c =
    let r = run_of c.args.tree.now in
    outside_small (allowed r) (limits_fit r.version) (headings r.definitions) (from_place r + 3) r.precondition
    (faultless r c.requires.right).precondition

pub heap_value-requires-clause-few : goal.heap_value-requires-clause-few
heap_value-requires-clause-few c =
    let r = run_of c.args.tree.now in
    let few = (definitions_small (allowed r) (limits_fit r.version) (headings r.definitions) 4 r.definitions
    (faultless r c.requires.right).definitions).1 in
    omega (arith, few, ap length c.requires.known, length-map r.definitions heading)

pub cells-requires : goal.cells-requires
cells-requires c =
    subst (λ (cs : List CellTree). Each IsSmallCell (map cell_of cs)) (sym c.deref-5.ensures.value)
    (run_small (run_of c.args.tree.now) c.requires.fits c.requires.right)

pub invariant_of-result : goal.invariant_of-result
invariant_of-result c =
    let r = run_of c.args.tree.now in
    let hs = headings r.definitions in
    let there = line_there r (faultless r c.requires.right) in
    let definitions_are = c.in_ok-front.ensures.definitions
    ∙ (λ i. map (definition_value (c.requires.known i)) (map definition_of (c.deref.ensures.value i))) in
    let program_is = c.in_ok-front.ensures.program ∙ (λ i. ended_value term_value (c.requires.known i)
    (c.deref-2.ensures.value i) (map end_of (c.deref-3.ensures.value i))) in
    let state_is = c.in_ok-precondition.ensures ∙ (λ i. heap_value term_value (c.requires.known i) r.precondition) in
    let stack_is = c.from_vec-stack.ensures ∙ c.in_ok-wide_numbers.ensures ∙ c.deref-4.ensures.value in
    let heap_is = c.in_ok-heap.ensures ∙ ap (λ (cs : List CellTree). cells_value (map cell_of cs))
    c.deref-5.ensures.value in
    let picks_are = c.in_ok-picks.ensures ∙ ap (map pick_of) c.deref-6.ensures.value in
    let ended = map (end_value term_value (headings r.definitions)) r.ends in
    let long = program_long r.lines ended in
    let same : sorted r
    ≡ tree_of r.version c.in_ok-front.front.defs.list c.in_ok-front.front.program r.line
    c.in_ok-precondition.precondition c.from_vec-stack.result c.in_ok-heap.heap c.in_ok-picks.picks.items
    c.in_ok-outcome.outcome =
    sym ((λ i. tree_of r.version (definitions_are i) (program_is i) r.line (state_is i) (stack_is i) (heap_is i)
    (picks_are i) (c.in_ok-outcome.ensures.cases i)) ∙ tree_again r c.requires.right) in
    record {
      limit = c.in_ok-front.ensures.most ∙ ap limits c.format.ensures;
      from_one = there.0;
      to_last = (let last = there.1 in omega (arith, last, long, ap length program_is));
      universal = ap are_universal_commands program_is ∙ commands_universal r.lines ended;
      state = ap is_universal_heap state_is ∙ state_universal r c.requires.fits;
      fits = subst (λ (t : Run). run.fits t) same (sorted_fits r c.requires.fits);
      flawless = ap run_flaw (sym same) ∙ sorted_flawless r c.requires.right;
    }

pub returns : goal.returns
returns c =
    let r = run_of c.args.tree.now in
    record {
      version = refl;
      most = c.in_ok-front.ensures.most ∙ ap limits c.format.ensures;
      definitions = c.in_ok-front.ensures.definitions
          ∙ (λ i. map (definition_value (c.requires.known i)) (map definition_of (c.deref.ensures.value i)));
      program = c.in_ok-front.ensures.program ∙ (λ i. ended_value term_value (c.requires.known i)
          (c.deref-2.ensures.value i) (map end_of (c.deref-3.ensures.value i)));
      line = refl;
      precondition = c.in_ok-precondition.ensures ∙ (λ i. heap_value term_value (c.requires.known i) r.precondition);
      stack = c.from_vec-stack.ensures ∙ c.in_ok-wide_numbers.ensures ∙ c.deref-4.ensures.value;
      heap = c.in_ok-heap.ensures ∙ ap (λ (cs : List CellTree). cells_value (map cell_of cs)) c.deref-5.ensures.value;
      picks = c.in_ok-picks.ensures ∙ ap (map pick_of) c.deref-6.ensures.value;
      outcome = c.in_ok-outcome.ensures.cases;
    }
