use Rattle.std.proofs.Common.{subst}
use Rattle.std.specs.Prelude.{map}
use Rattle.cyc_grammar.specs.Giving.{Gives}
use Rattle.heap_syntax.specs.declared.version.Version.{Version}
use Rattle.heap_syntax.specs.NumberedEnds.{end_of, ends}
use Rattle.run_file.proofs.read_runs.ends.Goals as goal

pub returns : goal.returns
returns c =
    subst (λ (v : Version). Gives (λ x. (map end_of x.items, c.ends.new.cursor)) c.ends.result
    ((ends v).read c.args.cursor.now)) c.format.ensures c.ends.ensures
