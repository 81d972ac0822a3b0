-- Known terms, by steps.
use Rattle.std.proofs.Common.{get_or, add-one, drop-cons, length-append, ◌≡◌, ℕ, zero, suc, ◌<◌, ◌≤◌, ◌+◌, List, []}
use Rattle.std.proofs.Common.{◌∷◌, ◌++◌, length, drop, refl, sym, ap, ◌∙◌, subst, inl, inr, arith}
use Rattle.std.specs.Prelude.{◌↔◌, IsTrue, Bool}
use Rattle.heap_formula.specs.declared.terms.Term.{Term}
use Rattle.heap_formula.specs.declared.terms.Term.TheVariants.{Nil, Univ, Exist}
use Rattle.heap_formula.specs.declared.atoms.Pure.{Pure}
use Rattle.heap_formula.specs.declared.atoms.Pure.TheVariants.{Eq, Neq}
use Rattle.heap_formula.specs.declared.atoms.Spatial.{Spatial}
use Rattle.heap_formula.specs.declared.atoms.Spatial.TheVariants.{Cell, Pred}
use Rattle.heap_formula.specs.Symbolic.{SymbolicHeap}
use Rattle.heap_formula.specs.Closedness.{IsUniversal, InPure, InSpatial, InHeap}
use Rattle.heap_formula.specs.Words.{Each}
use Rattle.model_check.specs.declared.known.ValueStep.{ValueStep}
use Rattle.model_check.specs.declared.known.ValueStep.TheVariants.{Same, Field}
use Rattle.model_check.specs.Constructive.{Known, nil, universal, right_side, left_side, field, IsConstructive}
use Rattle.cyc_basics.specs.Words.{IsMember}
use Rattle.model_check.specs.Steps.{source, target, IsKnownIn, Learned, start, taken, AreLearned, AllTaken, Learns}
use Rattle.model_check.specs.Steps.{pure_steps, pures_steps, field_steps, spatial_steps, spatials_steps, steps_of}
use Rattle.model_check.proofs.OnlyLocals.{member_each, universal_known}
use Rattle.heap_formula.proofs.AllMembers.{each_imply, each_last, each_append}

pub learned_in : (steps : List ValueStep) (ks : List Term) (t : Term) → AreLearned steps ks → IsKnownIn ks t
    → Learned steps t
learned_in steps ks Nil a k = start Nil tt
learned_in steps ks (Univ n) a k = start (Univ n) tt
learned_in steps ks (Exist n) a k = member_each (Learned steps) (Exist n) ks k a

pub still_learned : (steps : List ValueStep) (old new : List Term) (step : ValueStep) → IsMember step steps
    → AreLearned steps old → Learns old new (source step) (target step) → AreLearned steps new
still_learned steps old new step m a (inl k) = subst (AreLearned steps) (sym k.0) a
still_learned steps old new step m a (inr k) =
    subst (AreLearned steps) (sym k.0) (each_last (Learned steps) old (target step) a
    (taken step m (learned_in steps old (source step) a k.1.0)))

pub member_at : {X : Type 0} (xs : List X) (i : ℕ) (d : X) → i < length xs → IsMember (get_or xs i d) xs
member_at [] i d h = absurd (omega arith)
member_at (x ∷ xs) zero d h = inl refl
member_at (x ∷ xs) (suc i) d h = inr (member_at xs i d (omega arith))

-- one more step of a round
round_step : (steps : List ValueStep) (i : ℕ) (d : ValueStep) (init : ℕ) (old new : List Term) → i < length steps
    → AreLearned steps old → init ≤ length old → (length old ≡ init → AllTaken old (drop i steps) → AllTaken old steps)
    → Learns old new (source (get_or steps i d)) (target (get_or steps i d))
    → AreLearned steps new × (init ≤ length new) × (length new ≡ init → AllTaken new (drop (i + 1) steps)
    → AllTaken new steps)
round_step steps i d init old new h a l f (inl k) =
    let s = still_learned steps old new (get_or steps i d) (member_at steps i d h) a (inl k) in
    let ln : length new ≡ length old = ap length k.0 in (
      s,
      omega arith,
      λ e r.
          let eo : length old ≡ init = sym ln ∙ e in
          let at_old = subst (λ ks. AllTaken ks (drop (i + 1) steps)) k.0 r in
          let split : drop i steps ≡ get_or steps i d ∷ drop (i + 1) steps = rw (add-one, drop-cons steps i d) in
          let all_old : AllTaken old steps = f eo (subst (AllTaken old) (sym split) (k.1, at_old)) in
          subst (λ ks. AllTaken ks steps) (sym k.0) all_old,
    )
round_step steps i d init old new h a l f (inr k) =
    let s = still_learned steps old new (get_or steps i d) (member_at steps i d h) a (inr k) in
    let ln : length new ≡ length old + 1 = ap length k.0 ∙ length-append old (target (get_or steps i d) ∷ []) in
    (s, omega arith, λ e r. absurd (omega arith))

-- the same, where the lengths are numbers of their own
pub round_step_at : (steps : List ValueStep) (i : ℕ) (d : ValueStep) (init m n : ℕ) (old new : List Term)
    → length old ≡ m → length new ≡ n → i < length steps → AreLearned steps old → init ≤ m
    → (m ≡ init → AllTaken old (drop i steps) → AllTaken old steps)
    → Learns old new (source (get_or steps i d)) (target (get_or steps i d))
    → AreLearned steps new × (init ≤ n) × (n ≡ init → AllTaken new (drop (i + 1) steps) → AllTaken new steps)
round_step_at steps i d init m n old new lo ln h a l f k =
    let r = round_step steps i d init old new h a (omega arith) (λ e. f (sym lo ∙ e)) k in
    (r.0, (let b : init ≤ length new = r.1 in omega arith), λ e. r.2 (ln ∙ e))

-- ---- known terms are those that the steps lead to

in_left : {X : Type 0} (xs ys : List X) (x : X) → IsMember x xs → IsMember x (xs ++ ys)
in_left [] ys x m = absurd m
in_left (z ∷ xs) ys x (inl e) = inl e
in_left (z ∷ xs) ys x (inr m) = inr (in_left xs ys x m)

in_right : {X : Type 0} (xs ys : List X) (x : X) → IsMember x ys → IsMember x (xs ++ ys)
in_right [] ys x m = m
in_right (z ∷ xs) ys x m = inr (in_right xs ys x m)

pures_member : (a : Pure) (xs : List Pure) (st : ValueStep) → IsMember a xs → IsMember st (pure_steps a)
    → IsMember st (pures_steps xs)
pures_member a [] st m k = absurd m
pures_member a (x ∷ xs) st (inl e) k = in_left (pure_steps x) (pures_steps xs) st
    (subst (λ y. IsMember st (pure_steps y)) (sym e) k)
pures_member a (x ∷ xs) st (inr m) k = in_right (pure_steps x) (pures_steps xs) st (pures_member a xs st m k)

spatials_member : (a : Spatial) (xs : List Spatial) (st : ValueStep) → IsMember a xs → IsMember st (spatial_steps a)
    → IsMember st (spatials_steps xs)
spatials_member a [] st m k = absurd m
spatials_member a (x ∷ xs) st (inl e) k = in_left (spatial_steps x) (spatials_steps xs) st
    (subst (λ y. IsMember st (spatial_steps y)) (sym e) k)
spatials_member a (x ∷ xs) st (inr m) k = in_right (spatial_steps x) (spatials_steps xs) st
    (spatials_member a xs st m k)

field_member : (t u : Term) (k : ℕ) (ts : List Term) → IsMember u ts
    → (j : ℕ) × IsMember (Field t j u) (field_steps t k ts)
field_member t u k [] m = absurd m
field_member t u k (x ∷ xs) (inl e) = (k, inl (ap (λ y. Field t k y) e))
field_member t u k (x ∷ xs) (inr m) = let r = field_member t u (suc k) xs m in (r.0, inr r.1)

module _ (a : SymbolicHeap) where
  -- what is closed under the steps has each known term
  pub known_in : (K : Term → Type 0) → ((t : Term) → IsUniversal t → K t)
      → Each (λ st. K (source st) → K (target st)) (steps_of a) → (t : Term) → Known a t → K t
  known_in K u c _ nil = u Nil tt
  known_in K u c _ (universal n) = u (Univ n) tt
  known_in K u c _ (right_side t v m k) =
      member_each (λ st. K (source st) → K (target st)) (Same t v) (steps_of a)
      (in_left (pures_steps a.pure) (spatials_steps a.spatial) (Same t v)
      (pures_member (Eq t v) a.pure (Same t v) m (inl refl))) c (known_in K u c t k)
  known_in K u c _ (left_side t v m k) =
      member_each (λ st. K (source st) → K (target st)) (Same v t) (steps_of a)
      (in_left (pures_steps a.pure) (spatials_steps a.spatial) (Same v t)
      (pures_member (Eq t v) a.pure (Same v t) m (inr (inl refl)))) c (known_in K u c v k)
  known_in K u c _ (field t v ts m n k) =
      let f = field_member t v 0 ts n in
      member_each (λ st. K (source st) → K (target st)) (Field t f.0 v) (steps_of a)
      (in_right (pures_steps a.pure) (spatials_steps a.spatial) (Field t f.0 v)
      (spatials_member (Cell t ts) a.spatial (Field t f.0 v) m f.1)) c (known_in K u c t k)

module _ (P Q : Term → Type 0) (f : (t : Term) → P t → Q t) where
  pub in_pure_map : (x : Pure) → InPure P x → InPure Q x
  in_pure_map (Eq t u) k = (f t k.0, f u k.1)
  in_pure_map (Neq t u) k = (f t k.0, f u k.1)

  pub in_spatial_map : (x : Spatial) → InSpatial P x → InSpatial Q x
  in_spatial_map (Cell t ts) k = (f t k.0, each_imply P Q f ts k.1)
  in_spatial_map (Pred p ts) k = each_imply P Q f ts k

  pub in_heap_map : (a : SymbolicHeap) → InHeap P a → InHeap Q a
  in_heap_map a k = (
    each_imply (InPure P) (InPure Q) in_pure_map a.pure k.0,
    each_imply (InSpatial P) (InSpatial Q) in_spatial_map a.spatial k.1,
  )

module _ (a : SymbolicHeap) where
  abbrev IsGood : ValueStep → Type 0
  IsGood st = Known a (source st) → Known a (target st)

  good_pure : (x : Pure) → IsMember x a.pure → Each IsGood (pure_steps x)
  good_pure (Eq t u) m = (right_side t u m, (left_side t u m, tt))
  good_pure (Neq t u) m = tt

  good_pures : (xs : List Pure) → ((x : Pure) → IsMember x xs → IsMember x a.pure) → Each IsGood (pures_steps xs)
  good_pures [] w = tt
  good_pures (x ∷ xs) w = each_append IsGood (pure_steps x) (pures_steps xs) (good_pure x (w x (inl refl)))
      (good_pures xs (λ y m. w y (inr m)))

  good_fields : (t : Term) (ts : List Term) → IsMember (Cell t ts) a.spatial → (k : ℕ) (us : List Term)
      → ((u : Term) → IsMember u us → IsMember u ts) → Each IsGood (field_steps t k us)
  good_fields t ts m k [] w = tt
  good_fields t ts m k (u ∷ us) w = (
    field t u ts m (w u (inl refl)),
    good_fields t ts m (suc k) us (λ v n. w v (inr n)),
  )

  good_spatial : (x : Spatial) → IsMember x a.spatial → Each IsGood (spatial_steps x)
  good_spatial (Cell t ts) m = good_fields t ts m 0 ts (λ u n. n)
  good_spatial (Pred p ts) m = tt

  good_spatials : (xs : List Spatial) → ((x : Spatial) → IsMember x xs → IsMember x a.spatial)
      → Each IsGood (spatials_steps xs)
  good_spatials [] w = tt
  good_spatials (x ∷ xs) w = each_append IsGood (spatial_steps x) (spatials_steps xs) (good_spatial x (w x (inl refl)))
      (good_spatials xs (λ y m. w y (inr m)))

  good_steps : Each IsGood (steps_of a)
  good_steps = each_append IsGood (pures_steps a.pure) (spatials_steps a.spatial) (good_pures a.pure (λ x m. m))
      (good_spatials a.spatial (λ x m. m))

  pub learned_known : (t : Term) → Learned (steps_of a) t → Known a t
  learned_known _ (start t u) = universal_known a t u
  learned_known _ (taken st m l) = member_each IsGood st (steps_of a) m good_steps (learned_known (source st) l)

  universal_in : (ks : List Term) (t : Term) → IsUniversal t → IsKnownIn ks t
  universal_in ks Nil u = tt
  universal_in ks (Univ n) u = tt
  universal_in ks (Exist n) u = absurd u

  pub decided : (ks : List Term) → AreLearned (steps_of a) ks → AllTaken ks (steps_of a) → InHeap (IsKnownIn ks) a
      ↔ IsConstructive a
  decided ks l c = (
    in_heap_map (IsKnownIn ks) (Known a) (λ t k. learned_known t (learned_in (steps_of a) ks t l k)) a,
    in_heap_map (Known a) (IsKnownIn ks) (λ t k. known_in a (IsKnownIn ks) (universal_in ks) c t k) a,
  )

pub decided_at : (a : SymbolicHeap) (b : Bool) (ss ts : List ValueStep) (ks us : List Term) → ts ≡ ss → ss ≡ steps_of a
    → us ≡ ks → AreLearned ts ks → AllTaken ks ts → IsTrue b ↔ InHeap (IsKnownIn us) a → IsTrue b ↔ IsConstructive a
decided_at a b ss ts ks us e f g l c i =
    let l' = subst (λ (xs : List ValueStep). AreLearned xs ks) (e ∙ f) l in
    let c' = subst (λ (xs : List ValueStep). AllTaken ks xs) (e ∙ f) c in
    let d = decided a ks l' c' in (
      λ t. d.0 (subst (λ (xs : List Term). InHeap (IsKnownIn xs) a) g (i.0 t)),
      λ k.
          i.1 (subst (λ (xs : List Term). InHeap (IsKnownIn xs) a) (sym g) (d.1 k)),
    )
