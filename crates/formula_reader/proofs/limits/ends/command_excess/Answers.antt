use Rattle.std.proofs.Common.{◌+◌, ◌∙◌, sym, ap, subst}
use Rattle.rule_book.specs.Limits.{IsCommandWithin}
use Rattle.formula_reader.specs.Excess.{first_of, end_disjunct_at}
use Rattle.formula_reader.proofs.Exact.{end_exact}
use Rattle.formula_reader.proofs.limits.ends.command_excess.Goals as goal

pub returns-in-Ends-clause-within : goal.returns-in-Ends-clause-within
returns-in-Ends-clause-within c none =
    let most = c.args.defs.now.most in
    let ds = c.args.defs.now.list in
    let line = c.args.n + 1 in
    let found = ap (first_of (end_disjunct_at most ds line) 0) (sym c.heaps.ensures.value) ∙ sym c.end_excess.ensures in
    subst (IsCommandWithin most ds) (sym c.in-Ends.is)
    (end_exact most ds line c.in-Ends.disjuncts (found ∙ none), c.heaps.ensures.some, c.heaps.ensures.few)
