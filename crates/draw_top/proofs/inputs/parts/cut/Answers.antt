use Rattle.std.proofs.Common.{arith}
use Rattle.draw_top.proofs.Offsets.{offset-within}
use Rattle.draw_top.proofs.inputs.parts.cut.Goals as goal

pub split_at-requires : goal.split_at-requires
split_at-requires c = omega (
  arith,
  offset-within (record { line = 1; column = 1 }) c.args.start c.args.bytes.now,
  c.offset_of.ensures,
)
