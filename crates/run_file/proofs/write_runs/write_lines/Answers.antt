use Rattle.std.proofs.Common.{◌≡◌, List, sym, subst, refl}
use Rattle.std.specs.Prelude.{OnOk}
use Rattle.cyc_lex.specs.Writing.{write_all}
use Rattle.proof_syntax.proofs.SeenTrees.{lines-same}
use Rattle.proof_syntax.specs.Trees.{Line}
use Rattle.heap_syntax.specs.declared.version.Version.{Version}
use Rattle.proof_syntax.specs.Grammar.{lines}
use Rattle.run_file.proofs.write_runs.write_lines.Goals as goal

pub write_lines-requires : goal.write_lines-requires
write_lines-requires c = λ k. (
  (refl, tt),
  subst (λ (p : Version × List Line). (lines p.0).fits p.1)
      (λ i. (sym c.format.ensures i, sym (lines-same c.args.trees.now) i)) c.requires,
)

pub returns : goal.returns
returns c =
    subst (λ (p : Version × List Line). OnOk c.write_lines.result
    (c.write_lines.new.writer ≡ write_all c.args.writer.now ((lines p.0).words p.1)))
    (λ i. (c.format.ensures i, lines-same c.args.trees.now i)) c.write_lines.ensures
