use Rattle.std.proofs.Common.{◌≡◌, sym, subst}
use Rattle.std.specs.Prelude.{OnOk, map}
use Rattle.cyc_lex.specs.Writing.{write_all}
use Rattle.heap_syntax.specs.declared.version.Version.{Version}
use Rattle.heap_syntax.specs.NumberedEnds.{end_of, ends}
use Rattle.run_file.proofs.write_runs.write_ends.Goals as goal

pub write_ends-requires : goal.write_ends-requires
write_ends-requires c =
    subst (λ (v : Version). (ends v).fits (map end_of c.args.trees.now)) (sym c.format.ensures) c.requires

pub returns : goal.returns
returns c =
    subst (λ (v : Version). OnOk c.write_ends.result
    (c.write_ends.new.writer ≡ write_all c.args.writer.now ((ends v).words (map end_of c.args.trees.now))))
    c.format.ensures c.write_ends.ensures
