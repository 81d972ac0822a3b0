use Rattle.std.proofs.Common.{◌≡◌, List, sym, subst, refl}
use Rattle.std.specs.Prelude.{OnOk}
use Rattle.cyc_lex.specs.Writing.{write_all}
use Rattle.proof_syntax.proofs.SeenTrees.{lines-same}
use Rattle.proof_syntax.specs.Trees.{Line}
use Rattle.proof_syntax.specs.Grammar.{lines}
use Rattle.proof_syntax.proofs.writing.files.write_lines.Goals as goal

pub write_lines-requires : goal.write_lines-requires
write_lines-requires c = λ k. (
  (refl, tt),
  subst (λ (ls : List Line). (lines c.args.version).fits ls)
      (sym (lines-same c.args.trees.now)) c.requires,
)

pub returns : goal.returns
returns c = subst (λ (ls : List Line). OnOk c.write_lines.result
    (c.write_lines.new.writer ≡ write_all c.args.writer.now ((lines c.args.version).words ls)))
    (lines-same c.args.trees.now) c.write_lines.ensures
