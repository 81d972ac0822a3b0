use Rattle.std.proofs.Common.{◌≡◌, ℕ, length, arith}
use Rattle.std.specs.Prelude.{Some, None, nat_lt, if◌then◌else◌}
use Rattle.std.specs.Str.Lossy.{utf8_valid_len}
use Rattle.std.proofs.lemmas.Str.{utf8_valid_len-IsUtf8}
use Rattle.std.proofs.lemmas.Grind.{common_steps}
use Rattle.script_reader.proofs.trees.reading.first_broken.Goals as goal

none : (n m : ℕ) → n ≡ m → None ≡ (if nat_lt n m then Some n else None)
none n m e = grind (arith, common_steps)

pub returns-in-Ok : goal.returns-in-Ok
returns-in-Ok c = none (utf8_valid_len c.args.bytes.now) (length c.args.bytes.now)
    (utf8_valid_len-IsUtf8 c.args.bytes.now c.in-Ok.ensures.cases.1)
