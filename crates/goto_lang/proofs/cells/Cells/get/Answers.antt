use Rattle.std.proofs.Common.{◌∙◌, sym, ap, Some}
use Rattle.std.specs.Option.{option_copied}
use Rattle.goto_lang.proofs.Maps.{at_is}
use Rattle.goto_lang.proofs.cells.Cells.get.Goals as goal

pub returns-in-Some-clause-value : goal.returns-in-Some-clause-value
returns-in-Some-clause-value c =
    rw (← c.self.view_is) (at_is c.self.inside.cells.entries c.args.address ∙ sym c.get.ensures.value
    ∙ ap option_copied c.in-Some.is ∙ ap Some (sym c.as_slice.ensures))

pub returns-in-None-clause-value : goal.returns-in-None-clause-value
returns-in-None-clause-value c =
    rw (← c.self.view_is) (at_is c.self.inside.cells.entries c.args.address ∙ sym c.get.ensures.value
    ∙ ap option_copied c.in-None.is)
