use Rattle.std.proofs.Common.{List, ap, subst}
use Rattle.std.specs.Prelude.{map}
use Rattle.heap_syntax.specs.LineTrees.{line_of}
use Rattle.heap_syntax.proofs.SeenTrees.{gives-same}
use Rattle.proof_syntax.proofs.SeenTrees.{number_itself, lines-same}
use Rattle.proof_syntax.specs.Trees.{Line}
use Rattle.heap_syntax.specs.declared.version.Version.{Version}
use Rattle.cyc_grammar.specs.Giving.{Gives}
use Rattle.proof_syntax.specs.Grammar.{lines}
use Rattle.run_file.proofs.read_runs.lines.Goals as goal

pub returns : goal.returns
returns c =
    subst (λ (v : Version). Gives (λ x. (x.items, c.lines.new.cursor)) c.lines.result
    ((lines v).read c.args.cursor.now)) c.format.ensures
    (gives-same (λ x. (map (line_of number_itself) x.items, c.lines.new.cursor))
    (λ x. (x.items, c.lines.new.cursor)) (λ x. ap (λ (ls : List Line). (ls, c.lines.new.cursor)) (lines-same x.items))
    c.lines.result ((lines c.format.result).read c.args.cursor.now) c.lines.ensures)
