-- Whether a link is possible whose map begins with places that are made and whose substitution has pairs that are
-- known.
use Rattle.std.specs.Prelude.{ℕ, ◌≡◌, List, [], ◌∷◌, length, drop, Bool, true, not, ◌&&◌, ◌||◌, nat_le, if◌then◌else◌}
use Rattle.std.specs.Prelude.{Option, Some, slice_get}
use Rattle.std.specs.List.{list_any, list_all}
use Rattle.heap_formula.specs.declared.terms.Term.{Term}
use Rattle.heap_formula.specs.declared.atoms.Pure.{Pure}
use Rattle.heap_formula.specs.declared.atoms.Spatial.{Spatial}
use Rattle.heap_formula.specs.declared.judgements.Judgement.{Judgement}
use Rattle.heap_formula.specs.Symbolic.{SymbolicHeap}
use Rattle.heap_formula.specs.Words.{Each, OneOf}
use Rattle.heap_formula.specs.Judgements.{antecedent}
use Rattle.heap_formula.specs.Substitution.{Bindings}
use Rattle.rule_table.specs.Answer.{disjuncts}
use Rattle.rule_table.specs.Tests.{has_number}
use Rattle.back_links.specs.declared.prospects.Search.{Search}
use Rattle.back_links.specs.Branches.{by_pairs, by_places}
use Rattle.back_links.specs.Listing.{numbers}
use Rattle.back_links.specs.Prospects.{known_pure, could_follow, could_match, could_match_some}
use Rattle.back_links.specs.Searching.{may_send}

-- ---- the values that places force

-- no value but this one is left for the variable
abbrev pub IsForced : Search → List ℕ → ℕ → Option Term → Type 0
IsForced s places n forced =
    (v : Term) → forced ≡ Some v → (w : Term) → OneOf (λ x. x ≡ w) s.values.now
    → may_send s places ((n, w) ∷ []) n ≡ true → w ≡ v

-- pairs of sources with the values that are forced on them
abbrev pub AreForced : Search → List ℕ → Bindings → Type 0
AreForced s places pairs = Each (λ q. OneOf (λ n. n ≡ q.0) s.sources.now × IsForced s places q.0 (Some q.1)) pairs

-- ---- what pairs leave possible

-- each pure atom could follow
abbrev pub could_all_follow : List Pure → Bindings → List Pure → Bool
could_all_follow pures s xs = list_all (λ x. could_follow pures (known_pure s x)) xs

-- the atom could become one of the list, as it stands
abbrev pub could_be_among : Bindings → Spatial → List Spatial → Bool
could_be_among s z ws = list_any (could_match [] s z) ws

-- so could each atom of the first heap become one of the second
abbrev pub could_cover : Bindings → SymbolicHeap → SymbolicHeap → Bool
could_cover s c b = list_all (λ z. could_be_among s z b.spatial) c.spatial

abbrev pub could_cover_some : List SymbolicHeap → Bindings → SymbolicHeap → Bool
could_cover_some bs s c = list_any (could_cover s c) bs

-- each disjunct of the companion could cover one of the bud's
abbrev pub could_cover_each : List SymbolicHeap → Bindings → List SymbolicHeap → Bool
could_cover_each bs s cs = list_all (could_cover_some bs s) cs

-- place m is free, and the atom could match the one there
abbrev pub could_lie_at : List Pure → List Spatial → Bindings → List ℕ → Spatial → ℕ → Bool
could_lie_at pures atoms s places x m = not (has_number places m) && could_match_some pures s x (slice_get atoms m)

-- the atom could have a place that is free
abbrev pub could_lie : List Pure → List Spatial → Bindings → List ℕ → Spatial → Bool
could_lie pures atoms s places x = list_any (could_lie_at pures atoms s places x) (numbers atoms)

-- some atom could match the one at place m
abbrev pub could_some_match : List Pure → List Spatial → Bindings → List Spatial → ℕ → Bool
could_some_match pures atoms s xs m = list_any (λ x. could_match_some pures s x (slice_get atoms m)) xs

-- place m has its atom, or could have one
abbrev pub could_fill : List Pure → List Spatial → Bindings → List ℕ → List Spatial → ℕ → Bool
could_fill pures atoms s places xs m = has_number places m || could_some_match pures atoms s xs m

-- so could each place
abbrev pub could_fill_each : List Pure → List Spatial → Bindings → List ℕ → List Spatial → Bool
could_fill_each pures atoms s places xs = list_all (could_fill pures atoms s places xs) (numbers atoms)

-- the atoms without a place could have one each; and where that takes all places, each place could have an atom
abbrev pub could_lie_each : List Pure → List Spatial → Bindings → List ℕ → List Spatial → Bool → Bool
could_lie_each pures atoms s places xs whole =
    list_all (could_lie pures atoms s places) xs && (if whole then could_fill_each pures atoms s places xs else true)

-- a link is possible, as far as these tests say it
abbrev pub could_go_on : Judgement → Judgement → List ℕ → Bindings → Bool
could_go_on bud companion places s =
    could_all_follow (antecedent bud).pure s (antecedent companion).pure
    && (could_cover_each (disjuncts bud) s (disjuncts companion)
    && could_lie_each (antecedent bud).pure (antecedent bud).spatial s places
    (drop (length places) (antecedent companion).spatial)
    (nat_le (length (antecedent bud).spatial) (length (antecedent companion).spatial)))

-- there is no link whose map begins with the places
abbrev pub LeavesNone : Search → List ℕ → Type 0
LeavesNone s places =
    (rest : List (List ℕ))
    → by_places s.bud.now s.companion.now s.target s.variables s.values.now s.sources.now places rest ≡ []

-- there is none with this map whose substitution begins with the pairs
abbrev pub LeavesNoPairs : Search → List ℕ → Bindings → Type 0
LeavesNoPairs s places pairs =
    (rest : List Bindings) → by_pairs s.bud.now s.companion.now s.target s.variables places pairs rest ≡ []
