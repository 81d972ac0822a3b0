-- Parts of a text that end behind it, or before they begin.
use Rattle.std.proofs.Common.{◌≡◌, ◌∙◌, ◌≤◌, ◌-◌, ℕ, List, [], take, drop, length, ap, sym, arith}
use Rattle.std.proofs.Common.{length-drop}
use Rattle.std.proofs.Math.Seq.{take-nil}
use Rattle.std.proofs.Math.ListN.{drop_of_length-le}
use Rattle.std.proofs.lemmas.List.{take_all}

pub before_begin : (bytes : List ℕ) (from to : ℕ) → to ≤ from → [] ≡ take (to - from) (drop from bytes)
before_begin bytes from to h =
    let e : 0 ≡ to - from = omega arith in ap (λ k. take k (drop from bytes)) e

pub behind_end : (bytes : List ℕ) (from to : ℕ) → length bytes ≤ from → [] ≡ take (to - from) (drop from bytes)
behind_end bytes from to h =
    sym (ap (take (to - from)) (drop_of_length-le bytes h) ∙ take-nil (to - from))

pub up_to_end : (bytes : List ℕ) (from to : ℕ) → length bytes ≤ to
    → drop from bytes ≡ take (to - from) (drop from bytes)
up_to_end bytes from to h =
    let e = length-drop from bytes in sym (take_all (to - from) (drop from bytes) (omega (arith, e, h)))
