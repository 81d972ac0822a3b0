use Rattle.std.proofs.Common.{◌≡◌}
use Rattle.model_check.specs.WideMasks.{number}
use Rattle.model_check.specs.MaskParts.{from_bits, stands}
use Rattle.model_check.proofs.satisfaction.whole_mask.Given as goal

abbrev pub invariant-loop-i : goal.invariant-loop-i
invariant-loop-i l = number l.mask ≡ from_bits (stands l.places.keys l.cells) l.i
