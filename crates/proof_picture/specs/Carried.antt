-- Which atoms stand out: those from which a trace leads on over a link, as the traces of a cycle do.
use Rattle.std.specs.Prelude.{ℕ, zero, suc, ◌-◌, Bool, false, ◌&&◌, ◌||◌, nat_eq, nat_le, List, [], ◌∷◌, ◌++◌, Option}
use Rattle.std.specs.Prelude.{Some, None, slice_get, unwrap_or, if◌then◌else◌, Vec}
use Rattle.std.specs.declared.alloc.Global.{Global}
use Rattle.std.specs.List.{list_any}
use Rattle.proof_picture.specs.Arrows.{Drawn, DrawnRow}

abbrev pub flags_of : Vec Bool Global → List Bool
flags_of flags = flags.items

abbrev pub flag_in : Option (List Bool) → ℕ → Bool
flag_in None k = false
flag_in (Some flags) k = unwrap_or (slice_get flags k) false

-- whether atom k of node u stands out, where the flags of the nodes after v are known; no other is asked for in a proof
-- in order, whose premises have greater numbers
abbrev pub flag_at : List (List Bool) → ℕ → ℕ → ℕ → Bool
flag_at behind v u k = if nat_le u v then false else flag_in (slice_get behind (u - v - 1)) k

-- a trace from atom k of node v follows the edge, and this is a link, or the trace goes on to one
abbrev pub goes_over : List (List Bool) → ℕ → Drawn → ℕ → Bool
goes_over behind v a k = list_any (λ p. nat_eq p.old k && (a.is_link || flag_at behind v a.target p.new)) a.pairs

abbrev pub is_carried : List (List Bool) → ℕ → List Drawn → ℕ → Bool
is_carried behind v arrows k = list_any (λ a. goes_over behind v a k) arrows

-- the first n values of a test
abbrev pub flags_to : (ℕ → Bool) → ℕ → List Bool
flags_to test zero = []
flags_to test (suc n) = flags_to test n ++ test n ∷ []

-- for each of the nodes from v on, and each spatial atom of its antecedent, whether the atom stands out
abbrev pub table : ℕ → List DrawnRow → List (List Bool)
table v [] = []
table v (row ∷ rows) = let behind = table (suc v) rows in flags_to (is_carried behind v row.arrows) row.atoms ∷ behind
