use Rattle.symbolic_exec.proofs.ProgramLines.{exec_sound, exec_keeps, exec_lines}
use Rattle.symbolic_exec.proofs.exec.premises_exec.Goals as goal

pub returns-clause-sound : goal.returns-clause-sound
returns-clause-sound c =
    exec_sound c.args.most c.args.program.now c.args.judgement.now c.exec.result c.lines-lines.ensures.program
    c.exec.ensures

pub returns-clause-keeps : goal.returns-clause-keeps
returns-clause-keeps c =
    exec_keeps c.args.most c.args.program.now c.args.judgement.now c.exec.result c.lines-lines.ensures.program
    c.exec.ensures

pub returns-clause-lines : goal.returns-clause-lines
returns-clause-lines c =
    exec_lines c.args.most c.args.program.now c.args.judgement.now c.exec.result c.lines-lines.ensures.program
    c.exec.ensures
