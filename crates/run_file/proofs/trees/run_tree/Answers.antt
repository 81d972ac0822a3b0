use Rattle.std.proofs.Common.{List, ℕ, map, sym, subst, ◌∙◌}
use Rattle.heap_formula.specs.Words.{Each}
use Rattle.general_models.specs.declared.runs.picks.Pick.{Pick}
use Rattle.model_file.specs.Small.{IsShortNumber}
use Rattle.heap_reader.specs.Written.{heap_tree, definition_tree, ends_tree}
use Rattle.run_file.specs.Small.{IsShortPick}
use Rattle.run_file.proofs.RunsAgain.{tree_of_run, run_short}
use Rattle.run_file.proofs.trees.run_tree.Goals as goal

pub narrow_numbers-requires : goal.narrow_numbers-requires
narrow_numbers-requires c =
    let r = c.args.run.now in
    subst (λ (ns : List ℕ). Each IsShortNumber ns) (sym c.as_slice.ensures) (run_short (tree_of_run r) r.fits).0

pub cells-requires : goal.cells-requires
cells-requires c =
    let r = c.args.run.now in
    (run_short (tree_of_run r) r.fits).1

pub picks-requires : goal.picks-requires
picks-requires c =
    let r = c.args.run.now in
    subst (λ (ps : List Pick). Each IsShortPick ps) (sym c.deref.ensures.value) (run_short (tree_of_run r) r.fits).2

pub returns : goal.returns
returns c =
    let r = c.args.run.now in
    let definitions = c.in_ok-definitions.ensures ∙ (λ i. map (definition_tree (c.as_slice-defs.ensures.value i))
    (c.as_slice-defs.ensures.value i)) in
    let lines = c.in_ok-lines.ensures in
    let ends = c.in_ok-ends.ensures ∙ (λ i. ends_tree (c.as_slice-defs.ensures.value i) r.program) in
    let precondition = c.in_ok-precondition.ensures ∙ (λ i. heap_tree (c.as_slice-defs.ensures.value i) r.precondition)
    in
    let stack = c.in_ok-stack.ensures ∙ c.as_slice.ensures in
    let cells = c.in_ok-cells.ensures in
    let picks = c.in_ok-picks.ensures ∙ c.deref.ensures.value in
    λ i. record {
      version = r.version;
      definitions = definitions i;
      lines = lines i;
      ends = ends i;
      line = r.line;
      precondition = precondition i;
      stack = stack i;
      cells = cells i;
      picks = picks i;
      outcome = c.in_ok-outcome.ensures.cases i;
    }
