-- A link between two `from` judgements is sound.
use Rattle.std.proofs.Common.{◌≡◌, ℕ, zero, suc, ◌+◌, ◌<◌, ◌≤◌, ◌⊎◌, inl, inr, Bool, true, false, List, [], ◌∷◌, length, refl, sym, ap, ◌∙◌}
use Rattle.std.proofs.Common.{subst, arith, map}
use Rattle.std.specs.Prelude.{slice_index}
use Rattle.std.proofs.Math.ListN.{get_or}
use Rattle.std.proofs.lemmas.List.{length-map}
use Rattle.heap_formula.specs.declared.terms.Term.{Term}
use Rattle.heap_formula.specs.declared.terms.Term.TheVariants.{Nil, Univ, Exist}
use Rattle.heap_formula.specs.declared.atoms.Pure.{Pure}
use Rattle.heap_formula.specs.declared.atoms.Spatial.{Spatial}
use Rattle.heap_formula.specs.declared.commands.Command.{Command}
use Rattle.heap_formula.specs.declared.judgements.Judgement.TheVariants.{Term as Runs}
use Rattle.heap_formula.specs.declared.judgements.Pair.{Pair}
use Rattle.heap_formula.specs.Symbolic.{SymbolicHeap}
use Rattle.heap_formula.specs.Definitions.{Definition}
use Rattle.heap_formula.specs.Words.{Each}
use Rattle.heap_formula.specs.Values.{Stack, value}
use Rattle.heap_formula.specs.Cells.{Cells, no_cells, IsUnion}
use Rattle.heap_formula.specs.Meaning.{Family, PureHolds, SpatialHolds, Holds, at_stage, Stages}
use Rattle.heap_formula.specs.Programs.{Config, Halts, EndHolds, has_ends, start_at, first_values, program_variables}
use Rattle.heap_formula.specs.Judgements.{Follows, IsLocallySound}
use Rattle.heap_formula.specs.Positions.{chosen, chosen_place, pairs_from}
use Rattle.heap_formula.specs.Substitution.{Bindings, image, apply_term, apply_pure, apply_spatial, apply_heap}
use Rattle.heap_formula.specs.Fresh.{heap_bound}
use Rattle.rule_table.specs.RuleLink.{FollowsFrom, MapsInto, mapped_stages}
use Rattle.heap_formula.proofs.Unions.{union_assoc, empty_union_same}
use Rattle.heap_formula.proofs.EndLaws.{halts_alike}
use Rattle.rule_table.proofs.Substitutes.{holds_same, along, back_along}
use Rattle.rule_table.proofs.Agreement.{IsBelow, heap_below}
use Rattle.rule_table.proofs.Appends.{pairs_follow_if}
use Rattle.rule_table.proofs.Links.{follows_holds, mapped_hold, Chosen, left_over, length_left, none_left}
use Rattle.cyc_basics.proofs.Places.{tabulated-at}
use Rattle.cyc_basics.specs.Words.{tabulated}

-- ---- the stack on which the companion is used

-- the values of the substitution's terms
abbrev pub image_stack : Bindings → Stack → Stack → ℕ → Stack
image_stack ps s e n = tabulated (λ v. value s e (image ps v)) n

pub image_value : (ps : Bindings) (s e : Stack) (n : ℕ) (t : Term) → IsBelow n t
    → value s e (apply_term ps t) ≡ value (image_stack ps s e n) e t
image_value ps s e n Nil q = refl
image_value ps s e n (Exist j) q = refl
image_value ps s e n (Univ i) q = sym (tabulated-at (λ v. value s e (image ps v)) n i (omega arith))

pub first_values-same : (p : ℕ) (s t : Stack) → ((i : ℕ) → i < p → slice_index s i ≡ slice_index t i)
    → first_values p s ≡ first_values p t
first_values-same zero s t f = refl
first_values-same (suc p) [] [] f = refl
first_values-same (suc p) [] (v ∷ t) f = λ i. f 0 (omega arith) i
    ∷ first_values-same p [] t (λ j h. f (suc j) (omega arith)) i
first_values-same (suc p) (u ∷ s) [] f = λ i. f 0 (omega arith) i
    ∷ first_values-same p s [] (λ j h. f (suc j) (omega arith)) i
first_values-same (suc p) (u ∷ s) (v ∷ t) f = λ i. f 0 (omega arith) i
    ∷ first_values-same p s t (λ j h. f (suc j) (omega arith)) i

-- ---- all atoms are chosen at first

pub all_chosen : (xs : List Spatial) → chosen (λ _. true) xs ≡ xs
all_chosen [] = refl
all_chosen (x ∷ xs) = ap (λ ys. x ∷ ys) (all_chosen xs)

pub all_places : (xs : List Spatial) (k : ℕ) → chosen_place (λ _. true) xs k ≡ k
all_places [] k = refl
all_places (x ∷ xs) zero = refl
all_places (x ∷ xs) (suc k) = ap suc (all_places xs k)

pub each_follows : (pures : List Pure) (s e : Stack) → Each (PureHolds s e) pures → (xs : List Pure)
    → Each (FollowsFrom pures) xs → Each (PureHolds s e) xs
each_follows pures s e hold [] q = tt
each_follows pures s e hold (x ∷ xs) q = (follows_holds pures s e hold x q.0, each_follows pures s e hold xs q.1)

-- ---- the pairs

pub map_length : (pures : List Pure) (atoms : List Spatial) (p : ℕ → Bool) (ms : List ℕ) (xs : List Spatial)
    → MapsInto pures atoms p ms xs → length ms ≡ length xs
map_length pures atoms p [] [] m = refl
map_length pures atoms p [] (x ∷ xs) m = absurd m
map_length pures atoms p (k ∷ ms) [] m = absurd m
map_length pures atoms p (k ∷ ms) (x ∷ xs) m = ap suc (map_length pures atoms _ ms xs m.4)

pub mapped-at : (ms : List ℕ) (stages : Stages) (k : ℕ) → k < length ms
    → mapped_stages ms stages k ≡ stages (get_or ms k 0)
mapped-at [] stages k h = absurd (omega arith)
mapped-at (m ∷ ms) stages zero h = refl
mapped-at (m ∷ ms) stages (suc k) h = mapped-at ms stages k (omega arith)

-- from the map's entry at each predicate atom of the companion
abbrev pub link_pairs : List ℕ → List Spatial → List Pair
link_pairs ms xs = pairs_from (λ k. get_or ms k 0) 0 xs

-- where the map takes every atom, nothing is over
pub nothing_over : (G : ℕ → Family) (s e : Stack) (pures : List Pure) (atoms : List Spatial) (ms : List ℕ)
    (xs : List Spatial) (stages : Stages) (h : Cells) → MapsInto pures atoms (λ _. true) ms xs
    → length atoms ≤ length xs → Chosen G s e (left_over ms (λ _. true)) atoms stages h → h ≡ no_cells
nothing_over G s e pures atoms ms xs stages h maps le over =
    let l = length_left pures atoms (λ _. true) ms xs maps in
    let l' = ap length (all_chosen atoms) in
    none_left _ s e (chosen (left_over ms (λ _. true)) atoms) h (omega arith) over

pub link_runs_sound : (ds : List Definition) (lines : List Command) (line : ℕ) (a a' : SymbolicHeap) (ps : Bindings)
    (ms : List ℕ) (n : ℕ) → heap_bound a' ≤ n → program_variables lines ≤ n
    → ((v : ℕ) → v < program_variables lines → image ps v ≡ Univ v)
    → Each (FollowsFrom a.pure) (map (apply_pure ps) a'.pure)
    → MapsInto a.pure a.spatial (λ _. true) ms (map (apply_spatial ps) a'.spatial)
    → (has_ends lines ≡ false) ⊎ (length a.spatial ≤ length a'.spatial)
    → IsLocallySound ds lines (Runs line a) (record { judgement = Runs line a'; pairs = link_pairs ms a'.spatial } ∷ [])
link_runs_sound ds lines line a a' ps ms n below p_below fixed follow maps whole stages premises s part o w pos rest h
    is =
    let e = o.0 in
    let G = at_stage ds in
    let s' = image_stack ps s e n in
    let taken = mapped_hold G s e a.pure o.1.0 a.spatial ms (map (apply_spatial ps) a'.spatial) (λ _. true)
    stages part maps chosen_holds in
    let holds : Holds (λ k. G (mapped_stages ms stages k)) s e (apply_heap ps a') taken.part =
    (each_follows a.pure s e o.1.0 _ follow, taken.first) in
    let moved : Holds (λ k. G (mapped_stages ms stages k)) s' e a' taken.part =
    along (holds_same (IsBelow n) (apply_term ps) s e s' e (image_value ps s e n) (λ k. G (mapped_stages ms stages k))
    a' (heap_below n a' below) taken.part) holds in
    let follows : Follows (link_pairs ms a'.spatial) stages (mapped_stages ms stages) =
    pairs_follow_if (λ k. get_or ms k 0) stages (mapped_stages ms stages) 0 a'.spatial
    (λ i lt. let z : 0 + i ≡ i = omega arith in subst (λ q. mapped_stages ms stages q ≤ stages (get_or ms q 0))
    (sym z) (let l = map_length a.pure a.spatial (λ _. true) ms _ maps in
    let l' = length-map a'.spatial (apply_spatial ps) in let v = mapped-at ms stages i (omega arith) in
    omega arith)) in
    let split = union_assoc taken.union is in
    let r = premises.0 (mapped_stages ms stages) follows s' taken.part (e, moved) w pos split.0 h split.2 in
    let p = program_variables lines in
    let same : first_values p s' ≡ first_values p s = first_values-same p s' s
    (λ i lt. tabulated-at (λ v. value s e (image ps v)) n i (omega arith) ∙ ap (value s e) (fixed i lt)) in
    let ends = rest_kept whole (λ le. nothing_over G s e a.pure a.spatial ms (map (apply_spatial ps) a'.spatial) stages
    taken.rest maps (let l = length-map a'.spatial (apply_spatial ps) in omega arith) taken.others) split.0 split.1 w r.0
    (start_at lines line s' h) r.1 in
    (r.0, subst (λ st. Halts (EndHolds ds rest) lines w r.0 (record { line = line; stack = st; heap = h })) same ends)
  where
    -- the rest of the companion's part is the bud's, or nothing is asked at the ends
    rest_kept : {over : Cells} → (has_ends lines ≡ false) ⊎ (length a.spatial ≤ length a'.spatial)
        → (length a.spatial ≤ length a'.spatial → over ≡ no_cells) → (both : Cells) → IsUnion over rest both
        → (v m : ℕ) (c : Config) → Halts (EndHolds ds both) lines v m c → Halts (EndHolds ds rest) lines v m c
    rest_kept (inl none) f both u v m c r = halts_alike (EndHolds ds both) (EndHolds ds rest) lines none v m c r
    rest_kept (inr le) f both u v m c r =
        let same : rest ≡ both = empty_union_same (subst (λ g. IsUnion g rest both) (f le) u) in
        subst (λ g. Halts (EndHolds ds g) lines v m c) (sym same) r

    chosen_holds : Chosen (at_stage ds) s o.0 (λ _. true) a.spatial stages part
    chosen_holds =
        back_along (λ i. SpatialHolds (λ k. at_stage ds (stages (all_places a.spatial k i))) s o.0
        (all_chosen a.spatial i) part) o.1.1
