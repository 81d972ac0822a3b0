-- Each link without a fault, and with a substitution of the form that is wanted, is among the links.
use Rattle.std.proofs.Common.{◌≡◌, ℕ, suc, Bool, true, false, not, ◌&&◌, cond, List, [], ◌∷◌, ◌++◌, map, length, Option}
use Rattle.std.proofs.Common.{None, refl, sym, ap, ◌∙◌, subst, inl, inr, arith}
use Rattle.std.specs.Prelude.{slice_get}
use Rattle.std.specs.List.{filter, flat_map}
use Rattle.std.specs.Option.{is_none}
use Rattle.heap_formula.specs.declared.terms.Term.{Term}
use Rattle.heap_formula.specs.declared.atoms.Pure.{Pure}
use Rattle.heap_formula.specs.declared.atoms.Spatial.{Spatial}
use Rattle.heap_formula.specs.declared.judgements.Judgement.{Judgement}
use Rattle.heap_formula.specs.declared.proof_rules.Link.{Link}
use Rattle.heap_formula.specs.declared.proof_rules.RuleFault.{RuleFault}
use Rattle.heap_formula.specs.declared.proof_rules.RuleFault.TheVariants.{LinkSpatial, LinkDisjunct}
use Rattle.heap_formula.specs.Symbolic.{SymbolicHeap}
use Rattle.heap_formula.specs.Words.{OneOf}
use Rattle.heap_formula.specs.Judgements.{antecedent}
use Rattle.heap_formula.specs.Substitution.{Bindings, apply_spatial, apply_heap}
use Rattle.rule_table.specs.Answer.{disjuncts}
use Rattle.rule_table.specs.Tests.{has_number}
use Rattle.rule_table.specs.LinkTable.{matches_some, spatial_fault, covers_some, disjunct_fault, link_fault}
use Rattle.back_links.specs.Listing.{selections, number_choices, value_choices, values_of, universals, IsMade, maps}
use Rattle.back_links.specs.Listing.{substitutions, covers, link_of, candidates, links}
use Rattle.back_links.proofs.Selecting.{IsSelection, stands_in_range}
use Rattle.back_links.proofs.Possible.{fits, cond_none}
use Rattle.heap_formula.proofs.SomeMember.{one_front}
use Rattle.std.proofs.lemmas.Bool.{and_parts}
use Rattle.cyc_basics.proofs.Places.{tested_within}

-- ---- members of lists

one_after : {X : Type 0} (P : X → Type 0) (xs ys : List X) → OneOf P ys → OneOf P (xs ++ ys)
one_after P [] ys o = o
one_after P (x ∷ xs) ys o = inr (one_after P xs ys o)

one_flat_map : {X Y : Type 0} (P : Y → Type 0) (f : X → List Y) (x : X) (xs : List X) → OneOf (λ y. y ≡ x) xs
    → OneOf P (f x) → OneOf P (flat_map f xs)
one_flat_map P f x [] o q = absurd o
one_flat_map {X} P f x (y ∷ ys) (inl e) q = one_front P (f y) (flat_map f ys)
    (subst (λ (z : X). OneOf P (f z)) (sym e) q)
one_flat_map P f x (y ∷ ys) (inr o) q = one_after P (f y) (flat_map f ys) (one_flat_map P f x ys o q)

one_map : {X Y : Type 0} (f : X → Y) (x : X) (xs : List X) → OneOf (λ y. y ≡ x) xs → OneOf (λ y. y ≡ f x) (map f xs)
one_map f x [] o = absurd o
one_map f x (y ∷ ys) (inl e) = inl (ap f e)
one_map f x (y ∷ ys) (inr o) = inr (one_map f x ys o)

one_kept : {X : Type 0} (p : X → Bool) (x : X) (xs : List X) → OneOf (λ y. y ≡ x) xs → p x ≡ true
    → OneOf (λ y. y ≡ x) (filter p xs)
one_kept p x [] o t = absurd o
one_kept {X} p x (y ∷ ys) (inl e) t = subst (λ b. OneOf (λ z. z ≡ x) (cond b (y ∷ filter p ys) (filter p ys)))
    (sym (ap p e ∙ t)) (inl e)
one_kept {X} p x (y ∷ ys) (inr o) t = later (p y) (one_kept p x ys o t)
  where
    later : (b : Bool) → OneOf (λ z. z ≡ x) (filter p ys) → OneOf (λ z. z ≡ x) (cond b (y ∷ filter p ys) (filter p ys))
    later true r = inr r
    later false r = r

-- ---- selections

selected : {X : Type 0} (ds : List (List X)) (xs : List X) → IsSelection ds xs → OneOf (λ ys. ys ≡ xs) (selections ds)
selected [] [] s = inl refl
selected [] (x ∷ xs) s = absurd s
selected (choices ∷ rest) [] s = absurd s
selected {X} (choices ∷ rest) (x ∷ xs) s =
    one_flat_map (λ ys. ys ≡ x ∷ xs) (λ (y : X). map (λ (ys : List X). y ∷ ys) (selections rest)) x choices s.0
    (one_map (λ (ys : List X). x ∷ ys) xs (selections rest) (selected rest xs s.1))

places_selected : (pures : List Pure) (atoms : List Spatial) (all : Bool) (seen : List ℕ) (k : ℕ) (ms : List ℕ)
    (s : Bindings) (xs : List Spatial) → spatial_fault pures atoms all seen k ms (map (apply_spatial s) xs) ≡ None
    → IsSelection (number_choices atoms xs) ms
places_selected pures atoms all seen k [] s [] e = tt
places_selected pures atoms all seen k (m ∷ ms) s [] e = cc
places_selected pures atoms all seen k [] s (x ∷ xs) e = cc
places_selected pures atoms all seen k (m ∷ ms) s (x ∷ xs) e =
    let c = cond_none (not (has_number seen m) && matches_some pures (apply_spatial s x) (slice_get atoms m))
    (spatial_fault pures atoms all (seen ++ m ∷ []) (suc k) ms (map (apply_spatial s) xs)) (LinkSpatial k) e in
    let b = and_parts (not (has_number seen m)) (matches_some pures (apply_spatial s x) (slice_get atoms m)) c.0 in (
      stands_in_range 0 (length atoms) m (omega arith)
          (let l = tested_within (matches_some pures (apply_spatial s x)) atoms m refl b.1 in omega (arith, l)),
      places_selected pures atoms all (seen ++ m ∷ []) (suc k) ms s xs c.1,
    )

entries_selected : (bs : List SymbolicHeap) (k : ℕ) (ms : List ℕ) (s : Bindings) (cs : List SymbolicHeap)
    → disjunct_fault bs k ms (map (apply_heap s) cs) ≡ None → IsSelection (number_choices bs cs) ms
entries_selected bs k [] s [] e = tt
entries_selected bs k (m ∷ ms) s [] e = cc
entries_selected bs k [] s (c ∷ cs) e = cc
entries_selected bs k (m ∷ ms) s (c ∷ cs) e =
    let t = cond_none (covers_some (apply_heap s c) (slice_get bs m))
    (disjunct_fault bs (suc k) ms (map (apply_heap s) cs)) (LinkDisjunct k) e in (
      stands_in_range 0 (length bs) m (omega arith)
          (let l = tested_within (covers_some (apply_heap s c)) bs m refl t.0 in omega (arith, l)),
      entries_selected bs (suc k) ms s cs t.1,
    )

pairs_selected : (values : List Term) (sources : List ℕ) (s : Bindings) → IsMade values sources s
    → IsSelection (value_choices values sources) s
pairs_selected values [] [] m = tt
pairs_selected values [] (q ∷ s) m = absurd m
pairs_selected values (n ∷ ns) [] m = absurd m
pairs_selected values (n ∷ ns) (q ∷ s) m = (
  subst (λ k. OneOf {X = ℕ × Term} (λ r. r ≡ (k, q.1)) (map (λ (v : Term). (n, v)) values)) (sym m.0)
      (one_map (λ (v : Term). (n, v)) q.1 values m.1),
  pairs_selected values ns s m.2,
)

pub listed : (bud companion : Judgement) (target p : ℕ) (link : Link) → link.target ≡ target
    → IsMade (values_of bud) (universals companion) link.subst → link_fault bud companion link p ≡ None
    → OneOf (λ l. l ≡ link) (links bud companion target p)
listed bud companion target p link at made none =
    let f = fits bud companion p link none in
    let same : link_of target link.map link.subst link.disjuncts
    ≡ link = ap (λ (t : ℕ). link_of t link.map link.subst link.disjuncts) (sym at) in
    one_kept (λ (l : Link). is_none (link_fault bud companion l p)) link (candidates bud companion target)
    (one_flat_map (λ l. l ≡ link) (λ (ms : List ℕ). flat_map
    (λ (s : Bindings). map (λ (ks : List ℕ). link_of target ms s ks) (covers bud companion))
    (substitutions bud companion)) link.map (maps bud companion)
    (selected (number_choices (antecedent bud).spatial (antecedent companion).spatial) link.map
    (places_selected (antecedent bud).pure (antecedent bud).spatial f.all [] 0 link.map link.subst
    (antecedent companion).spatial f.spatial))
    (one_flat_map (λ l. l ≡ link) (λ (s : Bindings). map (λ (ks : List ℕ). link_of target link.map s ks)
    (covers bud companion)) link.subst (substitutions bud companion)
    (selected (value_choices (values_of bud) (universals companion)) link.subst
    (pairs_selected (values_of bud) (universals companion) link.subst made))
    (subst (λ (l : Link). OneOf (λ k. k ≡ l) (map (λ (ks : List ℕ). link_of target link.map link.subst ks)
    (covers bud companion))) same
    (one_map (λ (ks : List ℕ). link_of target link.map link.subst ks) link.disjuncts (covers bud companion)
    (selected (number_choices (disjuncts bud) (disjuncts companion)) link.disjuncts
    (entries_selected (disjuncts bud) 0 link.disjuncts link.subst (disjuncts companion) f.disjunct))))))
    (ap (λ (o : Option RuleFault). is_none o) none)
