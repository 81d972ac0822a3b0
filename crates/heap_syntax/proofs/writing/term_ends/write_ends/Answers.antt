use Rattle.std.proofs.Common.{◌≡◌, List, sym, subst, refl}
use Rattle.std.specs.Prelude.{OnOk}
use Rattle.cyc_lex.specs.Writing.{write_all}
use Rattle.heap_syntax.proofs.SeenEnds.{ends-same}
use Rattle.heap_syntax.specs.NumberedEnds.{End, ends}
use Rattle.heap_syntax.proofs.writing.term_ends.write_ends.Goals as goal

pub write_ends-requires : goal.write_ends-requires
write_ends-requires c = λ k. (
  (refl, tt),
  subst (λ (es : List End). (ends c.args.version).fits es) (sym (ends-same c.args.trees.now)) c.requires,
)

pub returns : goal.returns
returns c = subst (λ (es : List End). OnOk c.write_ends.result
    (c.write_ends.new.writer ≡ write_all c.args.writer.now ((ends c.args.version).words es)))
    (ends-same c.args.trees.now) c.write_ends.ensures
