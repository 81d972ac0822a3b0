-- Bytes that go out or come in by pieces.
use Rattle.std.proofs.Common.{◌≡◌, ℕ, ◌+◌, ◌-◌, ◌<◌, ◌≤◌, min, List, [], ◌++◌, length, take, drop, refl, subst, arith}
use Rattle.std.proofs.Common.{length-drop}
use Rattle.std.proofs.lemmas.List.{drop-take, take-append-drop, drop-drop, take_rest}
use Rattle.std.proofs.lemmas.Grind.{common_steps}
use Rattle.std.proofs.KnownBytes.{Appends-trans}
use Rattle.std.specs.Prelude.{Option}
use Rattle.std.specs.Io.KnownBytes.{Appends}

-- the front of a list, and then the front of the rest
pub take-then : (d n : ℕ) (xs : List ℕ) → d + n ≤ length xs → take d xs ++ take n (drop d xs) ≡ take (d + n) xs
take-then d n xs fits = grind (arith, common_steps, drop-take d n xs, take-append-drop d (take (d + n) xs))

-- where the front is written, and then the front of the rest, the front of both is
pub Appends-then : (old mid new : Option (List ℕ)) (d n : ℕ) (xs : List ℕ) → d + n ≤ length xs
    → Appends old mid (take d xs) → Appends mid new (take n (drop d xs)) → Appends old new (take (d + n) xs)
Appends-then old mid new d n xs fits first second =
    subst (Appends old new) (take-then d n xs fits) (Appends-trans old mid new _ _ first second)

-- a piece copied to the front of a buffer: what stood at `at` is this piece and the rest, and the piece is empty only
-- at the end
pub piece-taken : (bytes buf new seen : List ℕ) (at n piece : ℕ) → seen ≡ bytes → at ≤ length bytes → 0 < piece
    → n ≡ min (min (length buf) piece) (length (take (length seen - at) (drop at seen)))
    → new ≡ take n (take (length seen - at) (drop at seen)) ++ drop n buf
    → (drop at bytes ≡ take n new ++ drop (at + n) bytes) × (n ≡ 0 → 0 < length new → drop (at + n) bytes ≡ [])
piece-taken bytes buf new seen at n piece same within some size copied =
    let part : take (length seen - at) (drop at seen) ≡ drop at bytes = rw (same, take_rest bytes at) refl in
    let len : length (drop at bytes) ≡ length bytes - at = length-drop at bytes in
    let size : n ≡ min (min (length buf) piece) (length bytes - at) = rw (part, len) at size in
    let copied : new ≡ take n (drop at bytes) ++ drop n buf = rw part at copied in
    let fits : n ≤ length (drop at bytes) = omega arith in (
      rw copied (grind (arith, common_steps, take-append-drop n (drop at bytes), drop-drop n at bytes)),
      λ none wide. grind (arith, common_steps, length-drop (at + n) bytes),
    )
