-- Which nodes have no box of their own, since another takes them in.
use Rattle.std.specs.Prelude.{ℕ, suc, Bool, true, false, nat_lt, List, [], ◌∷◌, length, Option, Some, None, slice_get}
use Rattle.std.specs.Prelude.{slice_set, if◌then◌else◌}
use Rattle.proof_picture.specs.Arrows.{Drawn}
use Rattle.proof_picture.specs.Pictures.{Box}
use Rattle.proof_picture.specs.declared.folds.fates.Fate.{Fate}
use Rattle.proof_picture.specs.Fates.{takes_in}

abbrev pub none_hidden : List Box → List Bool
none_hidden [] = []
none_hidden (b ∷ bs) = false ∷ none_hidden bs

abbrev pub hide : List Bool → Drawn → List Bool
hide flags a = if nat_lt a.target (length flags) then slice_set flags a.target true else flags

abbrev pub hide_all : List Bool → List Drawn → List Bool
hide_all flags [] = flags
hide_all flags (a ∷ others) = hide_all (hide flags a) others

abbrev pub hide_at : List Bool → List Fate → ℕ → List Drawn → List Bool
hide_at flags fates v arrows = if takes_in fates v arrows then hide_all flags arrows else flags

-- those flagged, and those that the nodes from v on take in
abbrev pub hidden_from : List Bool → List Fate → ℕ → List Box → List Bool
hidden_from flags fates v [] = flags
hidden_from flags fates v (b ∷ bs) = hidden_from (hide_at flags fates v b.arrows) fates (suc v) bs

abbrev pub hidden_in : List Fate → List Box → List Bool
hidden_in fates bs = hidden_from (none_hidden bs) fates 0 bs

abbrev pub flag_of : Option Bool → Bool
flag_of None = false
flag_of (Some flag) = flag

abbrev pub is_hidden : List Bool → ℕ → Bool
is_hidden flags v = flag_of (slice_get flags v)
