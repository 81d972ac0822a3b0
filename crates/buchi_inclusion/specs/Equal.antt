-- Whether two product states are equal.
use Rattle.std.specs.Prelude.{ℕ, Bool, true, false, ◌&&◌, Option, Some, None, nat_eq}
use Rattle.std.specs.Cmp.Lexicographic.{pointwise}
use Rattle.buchi_core.specs.Forest.{Entry}
use Rattle.buchi_inclusion.specs.Product.{State}

abbrev pub same_option : Option ℕ → Option ℕ → Bool
same_option None None = true
same_option None (Some y) = false
same_option (Some x) None = false
same_option (Some x) (Some y) = nat_eq x y

abbrev pub same_entry : Entry → Entry → Bool
same_entry a b = same_option a.parent b.parent && pointwise nat_eq a.set b.set

abbrev pub same_state : State → State → Bool
same_state s t = nat_eq s.node t.node && pointwise same_entry s.forest t.forest
