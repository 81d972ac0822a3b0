use Rattle.std.proofs.Common.{◌≡◌, ◌+◌, ◌-◌, length, take, drop, map, sym, ap, subst, ◌∙◌, arith}
use Rattle.std.proofs.lemmas.List.{length-drop, drop-drop, take_all}
use Rattle.heap_formula.specs.Words.{Each}
use Rattle.cyc_grammar.proofs.WrittenTexts.{left-item}
use Rattle.heap_reader.specs.Trees.{end_of}
use Rattle.heap_reader.specs.LineSmall.{IsSmallLine}
use Rattle.heap_reader.specs.LineValues.{command_value, line_value}
use Rattle.heap_reader.specs.EndSmall.{IsSmallEnd}
use Rattle.heap_reader.specs.EndValues.{end_value, line_with_end}
use Rattle.heap_reader.proofs.Loops.{left_of}
use Rattle.heap_reader.proofs.EndLoops.{each_dropped, made_line}
use Rattle.heap_reader.proofs.ends.program_values.commands.Goals as goal

pub loop-i-preserved : goal.loop-i-preserved
loop-i-preserved g c =
    let was = c.loop-i.invariant in
    let i = c.loop-i.i in
    let done = c.loop-i.done in
    let taken = c.in_ok-command.taken in
    let lines = c.args.lines.now in
    let ends = c.args.ends.now in
    let tree = c.index-lines-i.result in
    let line = line_value g.V.VariableReader.value in
    let command = command_value g.V.VariableReader.value tree.command in
    let value = end_value g.F.TermReader.value c.args.heads.now in
    let slice : take (length ends - done) (drop done ends) ≡ drop done ends
    = take_all (length ends - done) (drop done ends) (omega (arith, length-drop done ends)) in
    let left = drop-drop taken done ends in (
      omega (arith, c.in_ok-command.ensures.taken, ap length slice, length-drop done ends, was.0),
      made_line i (line tree) (map line (drop i lines)) (map line (drop (i + 1) lines)) (map value
          (map end_of (drop done ends))) (map value (map end_of (drop (done + taken) ends)))
          c.in_ok-command.command c.loop-i.made.items c.push.new.self.items _
          (ap (map line) (left-item lines i tree c.loop-i-test.true c.index-lines-i.is))
          (c.in_ok-command.ensures.command
          ∙ ap (λ es. (line_with_end (i + 1) command (map value (map end_of es))).0) slice)
          (ap (λ es. map value (map end_of es)) (sym (ap (λ es. drop taken es) slice ∙ left))
          ∙ c.in_ok-command.ensures.left
          ∙ ap (λ es. (line_with_end (i + 1) command (map value (map end_of es))).1) slice)
          c.in_ok-push.ensures.items was.1,
      left_of line IsSmallLine lines i tree c.loop-i-test.true c.index-lines-i.is was.2,
      subst (λ es. Each (IsSmallEnd g.F.TermReader.value) (map end_of es)) left
          (each_dropped end_of (IsSmallEnd g.F.TermReader.value) taken (drop done ends) was.3),
    )
