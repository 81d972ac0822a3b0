-- What a source told.
use Rattle.std.proofs.Common.{◌≡◌, ℕ, ◌+◌, ◌<◌, List, [], length, length-append, refl, ap, arith, Option, Some, None}
use Rattle.cyc_io.specs.Bytes.{Came}
use Rattle.cyc_runs.specs.Runs.{IsTold, input_limit}

-- some list that is the one that was told
pub some_told : (told : Option (List ℕ)) → (input : List ℕ) × IsTold told input
some_told None = ([], tt)
some_told (Some xs) = (xs, refl)

-- where more bytes came than an input may have, the told input is too long
pub long_told : (told new : Option (List ℕ)) → Came told new (input_limit + 1)
    → (input : List ℕ) × IsTold told input × (input_limit < length input)
long_told None new came = (came.0, tt, omega (arith, came.2))
long_told (Some xs) None came = absurd came.1
long_told (Some xs) (Some ys) came = (xs, refl, omega (arith, came.2, ap length came.1, length-append came.0 ys))

-- the input that was told
pub told_is : (told : Option (List ℕ)) (input other : List ℕ) → told ≡ Some input → IsTold told other → input ≡ other
told_is None input other e told = cc
told_is (Some xs) input other e told = cc
