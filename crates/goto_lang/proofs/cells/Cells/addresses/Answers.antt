use Rattle.std.proofs.Common.{◌∙◌, sym, ap, map}
use Rattle.goto_lang.proofs.Maps.{entries_are}
use Rattle.goto_lang.proofs.cells.Cells.addresses.Goals as goal

pub returns-clause-value : goal.returns-clause-value
returns-clause-value c =
    rw (← c.self.view_is) (c.in_ok-addresses.ensures.value ∙ ap (λ es. map (λ c. c.0) es)
    (sym (entries_are c.self.inside.cells.entries c.in_ok-addresses.ensures.ordered)))
