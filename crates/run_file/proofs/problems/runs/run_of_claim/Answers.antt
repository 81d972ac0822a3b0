use Rattle.std.proofs.Common.{◌≡◌, List, length, ◌≤◌, sym, ap, subst, ◌∙◌}
use Rattle.heap_formula.specs.declared.commands.Command.{Command}
use Rattle.heap_formula.specs.Cells.{IsHeap}
use Rattle.pred_defs.specs.Book.{DefinitionBook}
use Rattle.rule_table.specs.Tests.{is_universal_heap}
use Rattle.proof_file.specs.Readable.{are_universal_commands}
use Rattle.formula_reader.proofs.Universal.{universal_heap_passes}
use Rattle.run_file.specs.Trees.{Run}
use Rattle.run_file.specs.Grammar.{run}
use Rattle.run_file.specs.Flaws.{run_flaw}
use Rattle.run_file.specs.Written.{tree_of}
use Rattle.run_file.proofs.RunTrees.{run_version, claim_within, run_fits, run_flawless, program_universal}
use Rattle.run_file.proofs.problems.runs.run_of_claim.Goals as goal

pub invariant_of-result : goal.invariant_of-result
invariant_of-result c =
    let p = c.args.problem.now in
    let a = c.args.precondition.now in
    let definitions_are = ap (λ (b : DefinitionBook). b.list) c.set_most.ensures
    ∙ ap (λ (b : DefinitionBook). b.list) c.in_ok-defs.ensures.cases in
    let program_is = c.in_ok-program.ensures.cases in
    let state_is = c.in_ok-precondition.ensures.cases in
    let proper = subst IsHeap c.heap.view_is c.heap.invariant in
    let within = claim_within p c.args.line a c.requires.claim in
    let same : tree_of (run_version p) p.defs.list p.program c.args.line a c.args.stack.items c.args.heap
    c.args.picks.items c.args.outcome
    ≡ tree_of c.for_version-version.result c.set_most.new.self.list c.in_ok-program.program c.args.line
    c.in_ok-precondition.precondition c.from_vec.result c.args.heap c.args.picks.items c.args.outcome =
    λ i. tree_of (sym c.for_version-version.ensures i) (sym definitions_are i) (sym program_is i) c.args.line
    (sym state_is i) (sym c.from_vec.ensures i) c.args.heap c.args.picks.items c.args.outcome in
    record {
      limit = ap (λ (b : DefinitionBook). b.most) c.set_most.ensures ∙ c.limits.ensures.value;
      from_one = within.form.0;
      to_last = subst (λ (cs : List Command). c.args.line ≤ length cs) (sym program_is) within.form.1;
      universal = ap are_universal_commands program_is ∙ program_universal p;
      state = ap is_universal_heap state_is ∙ universal_heap_passes a within.universal;
      fits = subst (λ (t : Run). run.fits t) same
          (run_fits p c.args.line a c.requires.claim c.args.stack.items c.args.heap
          c.args.picks.items c.args.outcome proper c.requires.room);
      flawless = ap run_flaw (sym same)
          ∙ run_flawless p c.args.line a c.requires.claim c.args.stack.items c.args.heap
          c.args.picks.items c.args.outcome proper c.requires.room;
    }
