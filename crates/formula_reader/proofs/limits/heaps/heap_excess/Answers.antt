use Rattle.std.proofs.Common.{sym, ◌∙◌}
use Rattle.formula_reader.proofs.Exact.{heap_exact, heap_none}
use Rattle.formula_reader.proofs.limits.heaps.heap_excess.Goals as goal

pub returns-clause-exact : goal.returns-clause-exact
returns-clause-exact c =
    let most = c.args.defs.now.most in
    let ds = c.args.defs.now.list in
    let a = c.args.heap.now in (
      λ none. heap_exact most ds a (sym c.first_excess.ensures ∙ none),
      λ w. c.first_excess.ensures
          ∙ heap_none most ds a w,
    )
