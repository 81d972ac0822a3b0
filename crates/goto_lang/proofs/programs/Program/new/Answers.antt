use Rattle.std.proofs.Common.{◌∙◌, sym, subst}
use Rattle.goto_lang.specs.Lines.{IsProgram}
use Rattle.goto_lang.proofs.Faultless.{faultless_is_program}
use Rattle.goto_lang.proofs.programs.Program.new.Goals as goal

pub invariant_of-result : goal.invariant_of-result
invariant_of-result c =
    subst IsProgram (sym c.in_ok-lines-in-None.ensures.value)
    (faultless_is_program c.args.lines.now (sym c.fault_of_lines.ensures ∙ c.in-None.is) c.requires)
