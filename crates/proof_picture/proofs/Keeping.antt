-- One node more to which names come, and the end of all nodes.
use Rattle.std.proofs.Common.{◌≡◌, ℕ, Bool, true, ◌<◌, ◌≤◌, List, [], ◌∷◌, ◌++◌, length, get_or, map, Some, refl, sym}
use Rattle.std.proofs.Common.{ap, ◌∙◌, arith}
use Rattle.std.specs.Prelude.{nat_lt, slice_get, slice_set, option_map, if◌then◌else◌, Vec}
use Rattle.std.specs.declared.alloc.Global.{Global}
use Rattle.std.proofs.lemmas.Bool.{lt-ltb}
use Rattle.std.proofs.lemmas.List.{append-nil, drop_all, length-map, map-set}
use Rattle.std.proofs.lemmas.Option.{slice_get-map, slice_get_read}
use Rattle.proof_file.specs.FileNodes.{FileNode}
use Rattle.proof_picture.specs.declared.arrows.Row.{Row}
use Rattle.proof_picture.specs.Arrows.{row_of}
use Rattle.proof_picture.specs.Carried.{flags_of}
use Rattle.proof_picture.specs.Labels.{flags_at, flags_in}
use Rattle.proof_picture.specs.Kept.{both, come, kept_from}
use Rattle.std.proofs.Common.{drop}

pub come-set : (count : ℕ) (ways : List (Vec Bool Global)) (target : ℕ) (names : List Bool) (old next : Vec Bool Global)
    → target < length ways → old ≡ get_or ways target old → next.items ≡ both count old.items names
    → map flags_of (slice_set ways target next) ≡ come count (map flags_of ways) target names
come-set count ways target names old next within is made =
    let flags = map flags_of ways in
    let within' : target < length flags = let size = length-map ways flags_of in omega arith in
    let at : slice_get ways target ≡ Some old = slice_get_read ways (length ways) target old refl within is in
    let found : flags_at flags target ≡ old.items = ap flags_in
    (slice_get-map flags_of ways target ∙ ap (option_map flags_of) at) in
    map-set flags_of ways target next
    ∙ ap (slice_set flags target) (made ∙ ap (λ (fs : List Bool). both count fs names) (sym found))
    ∙ ap (λ (b : Bool). if b then slice_set flags target (both count (flags_at flags target) names) else flags)
    (sym (lt-ltb target (length flags) within'))

no-rows : (count p : ℕ) (ways : List (List Bool)) (v : ℕ) (ns : List FileNode) → kept_from count p ways v ns [] ≡ []
no-rows count p ways v [] = refl
no-rows count p ways v (n ∷ ns) = refl

-- no rows are left
pub kept-done : (count p : ℕ) (ways : List (List Bool)) (v : ℕ) (ns : List FileNode) (rows : List Row) (k : ℕ)
    (names all : List (List Bool)) → length rows ≤ k → names ++ kept_from count p ways v ns (map row_of (drop k rows))
    ≡ all → names ≡ all
kept-done count p ways v ns rows k names all past so_far =
    sym (append-nil names)
    ∙ ap (λ more. names ++ more) (sym (no-rows count p ways v ns))
    ∙ ap (λ (rs : List Row). names ++ kept_from count p ways v ns (map row_of rs)) (sym (drop_all k rows past))
    ∙ so_far
