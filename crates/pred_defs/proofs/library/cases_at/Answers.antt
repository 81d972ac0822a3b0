use Rattle.std.proofs.Common.{sym, ◌∙◌, ap}
use Rattle.pred_defs.proofs.CaseLists.{cases_in, cases_past}
use Rattle.pred_defs.proofs.library.cases_at.Goals as goal

pub returns-then-q-defs : goal.returns-then-q-defs
returns-then-q-defs c =
    c.heaps.ensures ∙ ap (λ d. d.cases) c.index-defs-q.is
    ∙ sym (cases_in c.args.defs.now c.args.q c.index-defs-q.result c.if-q-defs.true)

pub returns-else-q-defs : goal.returns-else-q-defs
returns-else-q-defs c = sym (cases_past c.args.defs.now c.args.q c.if-q-defs.false)
