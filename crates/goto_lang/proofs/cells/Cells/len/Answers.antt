use Rattle.std.proofs.Common.{◌≡◌, ◌∙◌, sym, ap, length, arith}
use Rattle.std.specs.FinMap.{len-entries, len}
use Rattle.goto_lang.proofs.Maps.{entries_are}
use Rattle.goto_lang.proofs.cells.Cells.len.Goals as goal

pub returns : goal.returns
returns c =
    let e : len c.args.self.now ≡ c.len.result = rw (← c.self.view_is)
    (len-entries _ ∙ ap length (entries_are c.self.inside.cells.entries c.len.ensures.ordered)
    ∙ sym c.len.ensures.len) in
    let small = c.len.ensures.small in record { value = sym e; fits = omega arith }
