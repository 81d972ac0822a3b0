use Rattle.symbolic_exec.proofs.ProgramLines.{few_fields}
use Rattle.symbolic_exec.proofs.exec.exec.Goals as goal

pub command_premises-requires-clause-few : goal.command_premises-requires-clause-few
command_premises-requires-clause-few c =
    few_fields c.args.program.now c.lines-lines.ensures.program c.in-Term.line c.in-Some.command.now
    c.in-Some.ensures
