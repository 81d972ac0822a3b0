-- The two halves of a set.
use Rattle.std.proofs.Common.{◌≡◌, ◌<◌, ◌^◌, arith}
use Rattle.buchi_core.specs.declared.entry.Entry.{Entry}
use Rattle.buchi_core.specs.Mask.{set_mask}

pub mask_fits : (e : Entry) → set_mask e < 2 ^ 64
mask_fits e = let l : e.low < 4294967296 = e.low_fits in let h : e.high < 4294967296 = e.high_fits in omega arith

-- entries of one mask have the same halves
pub low_same : (x y : Entry) → set_mask x ≡ set_mask y → x.low ≡ y.low
low_same x y e =
    let a : x.low < 4294967296 = x.low_fits in let b : y.low < 4294967296 = y.low_fits in omega (arith, e)

pub high_same : (x y : Entry) → set_mask x ≡ set_mask y → x.high ≡ y.high
high_same x y e =
    let a : x.low < 4294967296 = x.low_fits in let b : y.low < 4294967296 = y.low_fits in omega (arith, e)
