-- Parts of a heap as sets of bits.
use Rattle.std.specs.Prelude.{◌≡◌, ℕ, zero, suc, ◌+◌, ◌*◌, ◌^◌, List, [], ◌∷◌, Bool, cond, if◌then◌else◌, nat_eq, ◌&&◌}
use Rattle.std.specs.Prelude.{slice_index, length, Some}
use Rattle.std.specs.Option.{is_some}
use Rattle.std.specs.FinMap.{retain_keys}
use Rattle.heap_formula.specs.Cells.{Cells, cell_at}
use Rattle.cyc_basics.specs.Words.{IsMember}
use Rattle.cyc_basics.specs.Bits.{is_one}

-- the first place of an address, the length where it does not stand
abbrev pub place : List ℕ → ℕ → ℕ
place [] a = 0
place (x ∷ xs) a = if nat_eq x a then 0 else suc (place xs a)

-- the part of the heap at the places of the mask's bits
abbrev pub part_of : List ℕ → Cells → ℕ → Cells
part_of addresses h m = retain_keys h (λ a. is_one m (place addresses a))

-- the number below 2 ^ k with these bits
abbrev pub from_bits : (ℕ → Bool) → ℕ → ℕ
from_bits b zero = 0
from_bits b (suc k) = cond (b k) 1 0 * 2 ^ k + from_bits b k

-- the place has an address of the heap, which stands at no earlier place
abbrev pub stands : List ℕ → Cells → ℕ → Bool
stands addresses h i = nat_eq (place addresses (slice_index addresses i)) i && is_some
    (cell_at h (slice_index addresses i))

abbrev pub mask_of : List ℕ → Cells → ℕ
mask_of addresses h = from_bits (stands addresses h) (length addresses)

-- each address of the heap stands in the list
pub record Covers (addresses : List ℕ) (h : Cells) : Type 0 where
  pub listed : (a : ℕ) (vs : List ℕ) → cell_at h a ≡ Some vs → IsMember a addresses
