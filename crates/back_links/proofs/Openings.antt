-- A link without a fault meets the tests of the places that are made and of the values that they force.
use Rattle.std.proofs.Common.{◌≡◌, ◌≢◌, ℕ, zero, suc, ◌+◌, ◌<◌, ◌≤◌, Bool, true, false, not, ◌&&◌, ◌||◌, List, [], ◌∷◌}
use Rattle.std.proofs.Common.{◌++◌, map, length, drop, get_or, Option, Some, None, refl, sym, ap, ◌∙◌, subst, inl, inr}
use Rattle.std.proofs.Common.{arith, append_assoc}
use Rattle.std.specs.Prelude.{slice_get, nat_eq, nat_le, if◌then◌else◌}
use Rattle.std.specs.List.{list_all, range_with_len}
use Rattle.std.proofs.lemmas.List.{append-nil, length-map}
use Rattle.std.proofs.lemmas.Bool.{leb-true, and_from as both_true, and_parts}
use Rattle.std.proofs.lemmas.Bool.Decides.{Decides-eqb}
use Rattle.heap_formula.specs.declared.terms.Term.{Term}
use Rattle.heap_formula.specs.declared.atoms.Pure.{Pure}
use Rattle.heap_formula.specs.declared.atoms.Spatial.{Spatial}
use Rattle.heap_formula.specs.declared.atoms.Spatial.TheVariants.{Cell, Pred}
use Rattle.heap_formula.specs.declared.judgements.Judgement.{Judgement}
use Rattle.heap_formula.specs.declared.proof_rules.RuleFault.TheVariants.{LinkPure, LinkSpatial}
use Rattle.heap_formula.specs.Symbolic.{SymbolicHeap}
use Rattle.heap_formula.specs.Words.{Each, OneOf}
use Rattle.heap_formula.specs.Judgements.{antecedent}
use Rattle.heap_formula.specs.Positions.{chosen}
use Rattle.heap_formula.specs.Substitution.{Bindings, image, apply_pure, apply_spatial, apply_heap}
use Rattle.rule_table.specs.Answer.{disjuncts}
use Rattle.rule_table.specs.RuleLink.{minus, count_of, MapsInto, SameAtoms, DisjunctsCover}
use Rattle.rule_table.specs.Tests.{same_term, equated, follows, has_number}
use Rattle.rule_table.specs.LinkTable.{pure_fault, all_equated, matches, matches_some, spatial_fault}
use Rattle.rule_table.proofs.Multisets.{stands, counted_itself}
use Rattle.rule_table.proofs.Reflects.{same_term_self}
use Rattle.heap_formula.proofs.AllMembers.{each_last}
use Rattle.cyc_basics.proofs.Places.{tested_within}
use Rattle.back_links.specs.declared.prospects.Search.{Search}
use Rattle.back_links.specs.Listing.{value_choices, numbers}
use Rattle.back_links.specs.Prospects.{lookup, known_pure, could_follow, could_match, could_match_some}
use Rattle.back_links.specs.Outlook.{IsForced, AreForced, could_all_follow, could_be_among, could_cover}
use Rattle.back_links.specs.Outlook.{could_cover_some, could_cover_each, could_lie_at, could_lie, could_some_match}
use Rattle.back_links.specs.Outlook.{could_fill, could_fill_each, could_lie_each, could_go_on, LeavesNone}
use Rattle.back_links.specs.Outlook.{LeavesNoPairs}
use Rattle.back_links.proofs.Selecting.{IsSelection, every_true, any_in_range}
use Rattle.back_links.proofs.AlikeShapes.{count_minus, count_all, some_there}
use Rattle.back_links.proofs.Possible.{Agrees, or_right, follow_ok, match_ok, match_some_ok, cond_none, one_agrees}
use Rattle.back_links.proofs.Possible.{front_agrees, Fits, send_ok, sent}
use Rattle.back_links.proofs.Cuts.{open_cut, open_pairs_cut, true_false}

-- ---- tests

or_left : (a b : Bool) → a ≡ true → a || b ≡ true
or_left true b e = refl
or_left false b e = cc

neither : (a b : Bool) → a || b ≡ false → (a ≡ false) × (b ≡ false)
neither true b e = cc
neither false b e = (refl, e)

both_false : (a b : Bool) → a ≡ false → b ≡ false → a || b ≡ false
both_false true b e f = cc
both_false false b e f = f

unset : (b : Bool) → not b ≡ true → b ≡ false
unset true e = cc
unset false e = refl

-- by cases of a test
by_test : {A : Type 0} (b : Bool) → (b ≡ true → A) → (b ≡ false → A) → A
by_test true f g = f refl
by_test false f g = g refl

same_number : (m k : ℕ) → nat_eq m k ≡ true → m ≡ k
same_number m k e = (Decides-eqb m k).0 e

-- ---- lists of numbers

earlier : (seen : List ℕ) (m j : ℕ) → has_number (seen ++ m ∷ []) j ≡ false → has_number seen j ≡ false
earlier [] m j h = refl
earlier (i ∷ is) m j h =
    let n = neither (nat_eq j i) (has_number (is ++ m ∷ []) j) h in
    both_false (nat_eq j i) (has_number is j) n.0 (earlier is m j n.1)

behind : (front rest : List ℕ) (m : ℕ) → has_number (front ++ rest) m ≡ true → has_number front m ≡ false
    → has_number rest m ≡ true
behind [] rest m h none = h
behind (i ∷ is) rest m h none =
    let n = neither (nat_eq m i) (has_number is m) none in
    behind is rest m (ap (λ b. b || has_number (is ++ rest) m) (sym n.0) ∙ h) n.1

in_range : (a n m : ℕ) → OneOf (λ k. k ≡ m) (range_with_len a n) → m < a + n
in_range a zero m o = absurd o
in_range a (suc n) m (inl e) = omega arith
in_range a (suc n) m (inr o) = let h = in_range (a + 1) n m o in omega arith

slice_there : {X : Type 0} (xs : List X) (m : ℕ) → m < length xs → (x : X) × (slice_get xs m ≡ Some x)
slice_there [] m lt = absurd (omega arith)
slice_there (x ∷ xs) zero lt = (x, refl)
slice_there (x ∷ xs) (suc m) lt = slice_there xs m (omega arith)

minus_other : (m : ℕ) (p : ℕ → Bool) (k : ℕ) → k ≢ m → minus m p k ≡ p k
minus_other zero p zero ne = absurd (ne refl)
minus_other zero p (suc k) ne = refl
minus_other (suc m) p zero ne = refl
minus_other (suc m) p (suc k) ne = minus_other m (λ j. p (suc j)) k (λ e. ne (ap suc e))

-- a map of as many atoms as are free takes each of them
all_taken : (pures : List Pure) (atoms : List Spatial) (free : ℕ → Bool) (ms : List ℕ) (xs : List Spatial)
    → MapsInto pures atoms free ms xs → length (chosen free atoms) ≤ length xs → (m : ℕ) (y : Spatial)
    → slice_get atoms m ≡ Some y → free m ≡ true → has_number ms m ≡ true
all_taken pures atoms free [] [] maps few m y at t =
    let h = count_minus (λ _. true) atoms free m y at t in
    let a = count_all (chosen free atoms) in
    absurd (omega arith)
all_taken pures atoms free [] (x ∷ xs) maps few m y at t = absurd maps
all_taken pures atoms free (k ∷ ms) [] maps few m y at t = absurd maps
all_taken pures atoms free (k ∷ ms) (x ∷ xs) maps few m y at t =
    by_test (nat_eq m k) (λ e. or_left (nat_eq m k) (has_number ms m) e)
    (λ e. or_right (nat_eq m k) (all_taken pures atoms (minus k free) ms xs maps.4 fewer m y at
    (minus_other k free m (λ q. let bad = (Decides-eqb m k).1 q in cc) ∙ t)))
  where
    fewer : length (chosen (minus k free) atoms) ≤ length xs
    fewer =
        let h = count_minus (λ _. true) atoms free k maps.0 maps.1 maps.2 in
        let a = count_all (chosen free atoms) in
        let b = count_all (chosen (minus k free) atoms) in
        omega arith

all_free : (atoms : List Spatial) → length (chosen (λ _. true) atoms) ≡ length atoms
all_free [] = refl
all_free (x ∷ xs) = ap suc (all_free xs)

-- ---- terms as they stand

all_self : (ts : List Term) → all_equated [] ts ts ≡ true
all_self [] = refl
all_self (t ∷ ts) = both_true (equated [] t t) (all_equated [] ts ts) (or_left (same_term t t) false (same_term_self t))
    (all_self ts)

matches_self : (x : Spatial) → matches [] x x ≡ true
matches_self (Cell t ts) = both_true (equated [] t t) (all_equated [] ts ts)
    (or_left (same_term t t) false (same_term_self t)) (all_self ts)
matches_self (Pred p ts) = both_true (nat_eq p p) (all_equated [] ts ts) ((Decides-eqb p p).1 refl) (all_self ts)

module _ (s whole : Bindings) (agrees : Agrees s whole) where
  -- ---- the pure atoms

  all_follow_ok : (pures : List Pure) (k : ℕ) (xs : List Pure) → pure_fault pures k (map (apply_pure whole) xs) ≡ None
      → could_all_follow pures s xs ≡ true
  all_follow_ok pures k [] e = refl
  all_follow_ok pures k (x ∷ xs) e =
      let c = cond_none (follows pures (apply_pure whole x)) (pure_fault pures (suc k) (map (apply_pure whole) xs))
      (LinkPure k) e in
      both_true (could_follow pures (known_pure s x)) (could_all_follow pures s xs)
      (follow_ok s whole agrees pures x c.0) (all_follow_ok pures (suc k) xs c.1)

  -- ---- the disjuncts

  among_ok : (z : Spatial) (ws : List Spatial) → 0 < count_of (apply_spatial whole z) ws → could_be_among s z ws ≡ true
  among_ok z ws some =
      let r = stands (apply_spatial whole z) ws some in
      some_there (could_match [] s z) ws r.place (apply_spatial whole z) r.at
      (match_ok s whole agrees [] z (apply_spatial whole z) (matches_self (apply_spatial whole z)))

  counted : (z : Spatial) (zs : List Spatial) → OneOf (λ y. y ≡ z) zs
      → 0 < count_of (apply_spatial whole z) (map (apply_spatial whole) zs)
  counted z [] o = absurd o
  counted z (y ∷ ys) (inl e) =
      subst (λ (x : Spatial). 0 < count_of (apply_spatial whole z)
      (apply_spatial whole x ∷ map (apply_spatial whole) ys)) (sym e)
      (counted_itself (apply_spatial whole z) (map (apply_spatial whole) ys))
  counted z (y ∷ ys) (inr o) = let h = counted z ys o in omega arith

  cover_ok : (b c : SymbolicHeap) → SameAtoms b.spatial (map (apply_spatial whole) c.spatial) → could_cover s c b ≡ true
  cover_ok b c same =
      every_true (λ z. could_be_among s z b.spatial) c.spatial
      (λ z o. let n = counted z c.spatial o in let q = same (apply_spatial whole z) in
      among_ok z b.spatial (omega arith))

  covers_ok : (bs : List SymbolicHeap) (ks : List ℕ) (cs : List SymbolicHeap)
      → DisjunctsCover bs ks (map (apply_heap whole) cs) → could_cover_each bs s cs ≡ true
  covers_ok bs [] [] d = refl
  covers_ok bs (k ∷ ks) [] d = refl
  covers_ok bs [] (c ∷ cs) d = absurd d
  covers_ok bs (k ∷ ks) (c ∷ cs) d =
      both_true (could_cover_some bs s c) (could_cover_each bs s cs)
      (some_there (could_cover s c) bs k d.0 d.1 (cover_ok d.0 c d.2.spatial)) (covers_ok bs ks cs d.3)

  -- ---- the places

  module _ (pures : List Pure) (atoms : List Spatial) (all : Bool) where
    -- what is said of an entry
    entry : (seen : List ℕ) (k m : ℕ) (ms : List ℕ) (x : Spatial) (xs : List Spatial)
        → spatial_fault pures atoms all seen k (m ∷ ms) (map (apply_spatial whole) (x ∷ xs)) ≡ None
        → (has_number seen m ≡ false) × (could_match_some pures s x (slice_get atoms m) ≡ true) × (m < length atoms)
        × (spatial_fault pures atoms all (seen ++ m ∷ []) (suc k) ms (map (apply_spatial whole) xs) ≡ None)
    entry seen k m ms x xs e =
        let c = cond_none (not (has_number seen m) && matches_some pures (apply_spatial whole x) (slice_get atoms m))
        (spatial_fault pures atoms all (seen ++ m ∷ []) (suc k) ms (map (apply_spatial whole) xs)) (LinkSpatial k) e
        in
        let b = and_parts (not (has_number seen m)) (matches_some pures (apply_spatial whole x) (slice_get atoms m)) c.0
        in
        let l = tested_within (matches_some pures (apply_spatial whole x)) atoms m refl b.1 in (
          unset (has_number seen m) b.0,
          match_some_ok s whole agrees pures x (slice_get atoms m) b.1,
          (omega (arith, l)),
          c.1,
        )

    lie_ok : (places seen : List ℕ) (k : ℕ) (ms : List ℕ) (xs : List Spatial)
        → ((m : ℕ) → has_number seen m ≡ false → has_number places m ≡ false)
        → spatial_fault pures atoms all seen k ms (map (apply_spatial whole) xs) ≡ None
        → list_all (could_lie pures atoms s places) xs ≡ true
    lie_ok places seen k ms [] within e = refl
    lie_ok places seen k [] (x ∷ xs) within e = cc
    lie_ok places seen k (m ∷ ms) (x ∷ xs) within e =
        let t = entry seen k m ms x xs e in
        let here = both_true (not (has_number places m)) (could_match_some pures s x (slice_get atoms m))
        (ap not (within m t.0)) t.1 in
        both_true (could_lie pures atoms s places x) (list_all (could_lie pures atoms s places) xs)
        (any_in_range (could_lie_at pures atoms s places x) 0 (length atoms) m (omega arith)
        (let l = t.2 in omega arith) here)
        (lie_ok places (seen ++ m ∷ []) (suc k) ms xs (λ j h. within j (earlier seen m j h)) t.3)

    match_ok_at : (seen : List ℕ) (k : ℕ) (ms : List ℕ) (xs : List Spatial) (m : ℕ)
        → spatial_fault pures atoms all seen k ms (map (apply_spatial whole) xs) ≡ None → has_number ms m ≡ true
        → could_some_match pures atoms s xs m ≡ true
    match_ok_at seen k [] xs m e h = cc
    match_ok_at seen k (i ∷ is) [] m e h = cc
    match_ok_at seen k (i ∷ is) (x ∷ xs) m e h =
        let t = entry seen k i is x xs e in
        by_test (nat_eq m i)
        (λ q. or_left (could_match_some pures s x (slice_get atoms m)) (could_some_match pures atoms s xs m)
        (subst (λ (j : ℕ). could_match_some pures s x (slice_get atoms j) ≡ true) (sym (same_number m i q)) t.1))
        (λ q. or_right (could_match_some pures s x (slice_get atoms m))
        (match_ok_at (seen ++ i ∷ []) (suc k) is xs m t.3 (ap (λ b. b || has_number is m) (sym q) ∙ h)))

    -- the entries behind the first ones
    rest_fits : (seen : List ℕ) (k : ℕ) (ms rest : List ℕ) (xs : List Spatial)
        → spatial_fault pures atoms all seen k (ms ++ rest) (map (apply_spatial whole) xs) ≡ None
        → (j : ℕ) × (spatial_fault pures atoms all (seen ++ ms) j rest (map (apply_spatial whole) (drop (length ms) xs))
        ≡ None)
    rest_fits seen k [] rest xs e = (
      k,
      subst (λ (ns : List ℕ). spatial_fault pures atoms all ns k rest
          (map (apply_spatial whole) xs) ≡ None) (sym (append-nil seen)) e,
    )
    rest_fits seen k (m ∷ ms) rest [] e = cc
    rest_fits seen k (m ∷ ms) rest (x ∷ xs) e =
        let t = entry seen k m (ms ++ rest) x xs e in
        let r = rest_fits (seen ++ m ∷ []) (suc k) ms rest xs t.3 in (
          r.0,
          subst (λ (ns : List ℕ). spatial_fault pures atoms all ns r.0 rest
              (map (apply_spatial whole) (drop (length ms) xs)) ≡ None) (append_assoc seen (m ∷ []) ms) r.1,
        )

    fill_ok : (places rest : List ℕ) (j : ℕ) (xs : List Spatial) (m : ℕ) → has_number (places ++ rest) m ≡ true
        → spatial_fault pures atoms all places j rest (map (apply_spatial whole) xs) ≡ None
        → could_fill pures atoms s places xs m ≡ true
    fill_ok places rest j xs m h e =
        by_test (has_number places m)
        (λ q. or_left (has_number places m) (could_some_match pures atoms s xs m) q)
        (λ q. or_right (has_number places m) (match_ok_at places j rest xs m e (behind places rest m h q)))

-- ---- all tests

whole_if : (b : Bool) (t : Bool) → (b ≡ true → t ≡ true) → (if b then t else true) ≡ true
whole_if true t h = h refl
whole_if false t h = refl

go_on_ok : (bud companion : Judgement) (p : ℕ) (places rest : List ℕ) (s whole : Bindings) (ks : List ℕ)
    → Agrees s whole → Fits bud companion p (places ++ rest) whole ks → could_go_on bud companion places s ≡ true
go_on_ok bud companion p places rest s whole ks agrees f =
    let a = antecedent bud in
    let b = antecedent companion in
    let left = drop (length places) b.spatial in
    let r = rest_fits s whole agrees a.pure a.spatial f.all [] 0 places rest b.spatial f.spatial in
    both_true (could_all_follow a.pure s b.pure) (could_cover_each (disjuncts bud) s (disjuncts companion)
    && could_lie_each a.pure a.spatial s places left (nat_le (length a.spatial) (length b.spatial)))
    (all_follow_ok s whole agrees a.pure 0 b.pure f.pure)
    (both_true (could_cover_each (disjuncts bud) s (disjuncts companion))
    (could_lie_each a.pure a.spatial s places left (nat_le (length a.spatial) (length b.spatial)))
    (covers_ok s whole agrees (disjuncts bud) ks (disjuncts companion) f.covers)
    (both_true (list_all (could_lie a.pure a.spatial s places) left)
    (if nat_le (length a.spatial) (length b.spatial) then could_fill_each a.pure a.spatial s places left else true)
    (lie_ok s whole agrees a.pure a.spatial f.all places places r.0 rest left (λ m h. h) r.1)
    (whole_if (nat_le (length a.spatial) (length b.spatial)) (could_fill_each a.pure a.spatial s places left)
    (λ e. every_true (could_fill a.pure a.spatial s places left) (numbers a.spatial) (λ m o.
    let lt = in_range 0 (length a.spatial) m o in
    let y = slice_there a.spatial m (omega arith) in
    let le = leb-true (length a.spatial) (length b.spatial) e in
    let n = all_free a.spatial in
    let l = length-map b.spatial (apply_spatial whole) in
    fill_ok s whole agrees a.pure a.spatial f.all places rest r.0 left m
    (all_taken a.pure a.spatial (λ _. true) (places ++ rest) (map (apply_spatial whole) b.spatial) f.taken
    (omega arith) m y.0 y.1 refl) r.1)))))

-- ---- the values that are forced

looked_up : (P : ℕ → Term → Type 0) (pairs : Bindings) (n : ℕ) (v : Term) → lookup pairs n ≡ Some v
    → Each (λ q. P q.0 q.1) pairs → P n v
looked_up P [] n v e h = cc
looked_up P (q ∷ qs) n v e h = here (nat_eq n q.0) refl e (λ t. looked_up P qs n v t h.1)
  where
    here : (b : Bool) → nat_eq n q.0 ≡ b → (if b then Some q.1 else lookup qs n) ≡ Some v
        → (lookup qs n ≡ Some v → P n v) → P n v
    here true t e rest = let same : q.1 ≡ v = cc in
        subst (P n) same (subst (λ (k : ℕ). P k q.1) (sym (same_number n q.0 t)) h.0)
    here false t e rest = rest e

forced_agree : (q : Search) (places rest : List ℕ) (pairs whole : Bindings) (ks : List ℕ) → AreForced q places pairs
    → IsSelection (value_choices q.values.now q.sources.now) whole
    → Fits q.bud.now q.companion.now q.variables (places ++ rest) whole ks → Agrees pairs whole
forced_agree q places rest pairs whole ks forced chosen f n v e =
    let r = looked_up (λ (k : ℕ) (w : Term). OneOf (λ i. i ≡ k) q.sources.now × IsForced q places k (Some w))
    pairs n v e forced in
    r.1 v refl (image whole n)
    (sent q.bud.now q.companion.now q.variables q.values.now q.sources.now whole chosen n r.0)
    (send_ok q.bud.now q.companion.now q.variables places rest ((n, image whole n) ∷ []) whole n ks (one_agrees whole n)
    f)

-- no link begins with the places where a test fails
pub closed : (q : Search) (places : List ℕ) (pairs : Bindings) → AreForced q places pairs
    → could_go_on q.bud.now q.companion.now places pairs ≡ false → LeavesNone q places
closed q places pairs forced e rest =
    open_cut q.bud.now q.companion.now q.target q.variables q.values.now q.sources.now places rest (λ r s ks i f.
    true_false (could_go_on q.bud.now q.companion.now places pairs) e
    (go_on_ok q.bud.now q.companion.now q.variables places r pairs s ks
    (forced_agree q places r pairs s ks forced i f) f))

-- nor one with the map and the pairs where the disjuncts fail it
pub pairs_closed : (q : Search) (places : List ℕ) (pairs : Bindings)
    → could_cover_each (disjuncts q.bud.now) pairs (disjuncts q.companion.now) ≡ false → LeavesNoPairs q places pairs
pairs_closed q places pairs e rest =
    open_pairs_cut q.bud.now q.companion.now q.target q.variables places pairs rest (λ r ks f.
    true_false (could_cover_each (disjuncts q.bud.now) pairs (disjuncts q.companion.now)) e
    (covers_ok pairs (pairs ++ r) (front_agrees pairs r) (disjuncts q.bud.now) ks (disjuncts q.companion.now)
    f.covers))

-- ---- the loop over the sources

one_there : {X : Type 0} (xs : List X) (i : ℕ) (d : X) → i < length xs → OneOf (λ y. y ≡ get_or xs i d) xs
one_there [] i d lt = absurd (omega arith)
one_there (x ∷ xs) zero d lt = inl refl
one_there (x ∷ xs) (suc i) d lt = inr (one_there xs i d (omega arith))

-- one more source with the value that is forced on it
pub forced_pushed : (q : Search) (places : List ℕ) (old new : Bindings) (i : ℕ) (o : Option Term) (v : Term)
    → i < length q.sources.now → IsForced q places (get_or q.sources.now i 0) o → o ≡ Some v
    → new ≡ old ++ (get_or q.sources.now i 0, v) ∷ [] → AreForced q places old → AreForced q places new
forced_pushed q places old new i o v lt forced is grown before =
    let n = get_or q.sources.now i 0 in
    subst (AreForced q places) (sym grown) (each_last (λ (r : ℕ × Term). OneOf (λ k. k ≡ r.0) q.sources.now
    × IsForced q places r.0 (Some r.1)) old (n, v) before
    (one_there q.sources.now i 0 lt, subst (IsForced q places n) is forced))
