use Rattle.std.proofs.Common.{arith}
use Rattle.model_file.proofs.trees.cell.Goals as goal

pub overflow_cast-result : goal.overflow_cast-result
overflow_cast-result c = let short = c.requires.short c.in-Some.fields.now c.in-Some.ensures.value in
    omega (arith, short.address)

pub narrow_numbers-requires : goal.narrow_numbers-requires
narrow_numbers-requires c = (c.requires.short c.in-Some.fields.now c.in-Some.ensures.value).fields
