use Rattle.std.proofs.Common.{length, map, sym, ap, subst, ◌∙◌}
use Rattle.heap_formula.specs.Words.{Each}
use Rattle.goto_lang.specs.Lines.{IsUniversalCommand, commands_of}
use Rattle.heap_reader.specs.Trees.{end_of}
use Rattle.heap_reader.specs.LineValues.{line_value}
use Rattle.heap_reader.specs.EndValues.{end_value}
use Rattle.heap_reader.proofs.Programs.{lines_universal, lines_small}
use Rattle.heap_reader.proofs.EndFitting.{ended_commands, ended_universal}
use Rattle.heap_reader.proofs.ends.program_values.program.Goals as goal

pub commands-requires-clause-lines : goal.commands-requires-clause-lines
commands-requires-clause-lines g c =
    let ls = map (line_value g.V.VariableReader.value) c.args.lines.now in
    lines_small (length ls) 1 ls (lines_universal g.V.VariableReader.value c.args.lines.now) c.requires.lines

pub new-requires : goal.new-requires
new-requires g c =
    let ls = map (line_value g.V.VariableReader.value) c.args.lines.now in
    let es = map (end_value g.F.TermReader.value c.args.heads.now) (map end_of c.args.ends.now) in
    rw (c.deref.ensures.value, c.in_ok-made.ensures)
    (subst (Each IsUniversalCommand) (sym (ended_commands 0 ls es))
    (ended_universal 0 (commands_of ls) es (lines_universal g.V.VariableReader.value c.args.lines.now)))

pub returns-in-Ok : goal.returns-in-Ok
returns-in-Ok g c =
    let ls = map (line_value g.V.VariableReader.value) c.args.lines.now in
    let es = map (end_value g.F.TermReader.value c.args.heads.now) (map end_of c.args.ends.now) in
    c.in-Ok.ensures.value ∙ ap commands_of (c.deref.ensures.value ∙ c.in_ok-made.ensures) ∙ ended_commands 0 ls es
