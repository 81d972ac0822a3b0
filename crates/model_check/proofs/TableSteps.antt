-- Steps of loops over tables.
use Rattle.std.specs.Prelude.{◌↔◌, slice_get, slice_set, slice_index, nat_eq, if◌then◌else◌}
use Rattle.std.proofs.lemmas.Bool.{cases_Bool, eqb-true, eqb-false}
use Rattle.std.proofs.Common.{◌≡◌, ◌≢◌, ℕ, zero, suc, ◌<◌, ◌≤◌, List, [], ◌∷◌, length, get_or, Bool, true, false, Some}
use Rattle.std.proofs.Common.{None, refl, sym, ap, ◌∙◌, subst, inl, inr, ◌⊎◌, arith}
use Rattle.heap_formula.specs.Words.{Each, OneOf}
use Rattle.model_check.specs.declared.ground.Piece.{Piece}
use Rattle.model_check.specs.declared.ground.Piece.TheVariants.{Here, Of}
use Rattle.model_check.specs.declared.ground.GroundRule.{GroundRule}
use Rattle.cyc_basics.specs.Words.{IsMember}
use Rattle.model_check.specs.Ground.{Unions, derived}
use Rattle.model_check.specs.WideMasks.{HoldsMask}
use Rattle.model_check.specs.Tables.{Row, Added, HasMask, AddsMask, AddsRule, IsDerived, IsClosed, HeadsFit, IsOld}
use Rattle.model_check.specs.Tables.{IsFresh, AreSettled, AreBefore}
use Rattle.model_check.proofs.Loops.{added_members}
use Rattle.model_check.proofs.Rounds.{union_map, gives_derived}

pub row_added : (t : List Row) (h mask : ℕ) (d new : Row) (b : Bool) → h < length t → Added (get_or t h d) new mask b
    → AddsMask h mask t (slice_set t h new)
row_added [] h mask d new b l a q m = absurd (omega arith)
row_added (row ∷ t) zero mask d new b l a zero m =
    let r = added_members row new mask b a m in (
      λ k. elim (r.0 k) as (λ z. HoldsMask m row ⊎ ((0 ≡ zero) × (mask ≡ m)))
          [ inl o ↦ inl o | inr e ↦ inr (refl, sym e) ],
      λ o. elim o as (λ z. HoldsMask m new)
          [ inl k ↦ r.1 (inl k) | inr e ↦ r.1 (inr (sym e.1)) ],
    )
row_added (row ∷ t) zero mask d new b l a (suc q) m = (
  λ k. inl k,
  λ o. elim o as (λ z. HasMask t q m) [
    | inl k ↦ k
    | inr e ↦ absurd
        (let z : suc q ≡ 0 = e.0 in omega arith)
  ],
)
row_added (row ∷ t) (suc h) mask d new b l a zero m = (
  λ k. inl k,
  λ o. elim o as (λ z. HoldsMask m row) [
    | inl k ↦ k
    | inr e ↦ absurd
        (let z : 0 ≡ suc h = e.0 in omega arith)
  ],
)
row_added (row ∷ t) (suc h) mask d new b l a (suc q) m =
    let r = row_added t h mask d new b (omega arith) a q m in (
      λ k. elim (r.0 k) as (λ z. HasMask t q m ⊎ ((suc q ≡ suc h) × (mask ≡ m)))
          [ inl o ↦ inl o | inr e ↦ inr (ap suc e.0, e.1) ],
      λ o. elim o as (λ z. HasMask (slice_set t h new) q m)
          [ inl k ↦ r.1 (inl k) | inr e ↦ r.1 (inr ((let z : suc q ≡ suc h = e.0 in omega arith), e.1)) ],
    )

pub row_same : (t : List Row) (h mask : ℕ) (d new : Row) → h < length t → new ≡ get_or t h d → slice_set t h new ≡ t
row_same [] h mask d new l a = absurd (omega arith)
row_same (row ∷ t) zero mask d new l a = ap (λ y. y ∷ t) a
row_same (row ∷ t) (suc h) mask d new l a = ap (λ ys. row ∷ ys) (row_same t h mask d new (omega arith) a)

both_parts : {X : Type 0} (A : Type 0) (P : X → Type 0) (xs : List X) → OneOf (λ y. A × P y) xs ↔ (A × OneOf P xs)
both_parts A P [] = (λ o. absurd o, λ r. absurd r.1)
both_parts A P (x ∷ xs) =
    let r = both_parts A P xs in (
      λ o. elim o as (λ z. A × (P x ⊎ OneOf P xs)) [ inl p ↦ (p.0, inl p.1) | inr q ↦ let t = r.0 q in (t.0, inr t.1) ],
      λ t. elim t.1 as (λ z. (A × P x) ⊎ OneOf (λ y. A × P y) xs) [ inl p ↦ inl (t.0, p) | inr q ↦ inr (r.1 (t.0, q)) ],
    )

pub masks_added : {X : Type 0} (M G A : Type 0) (P : X → Type 0) (xs : List X) → (M ↔ (G ⊎ OneOf (λ y. A × P y) xs))
    → (M ↔ (G ⊎ (A × OneOf P xs)))
masks_added M G A P xs f =
    let r = both_parts A P xs in (
      λ m. elim (f.0 m) as (λ z. G ⊎ (A × OneOf P xs)) [ inl g ↦ inl g | inr o ↦ inr (r.0 o) ],
      λ o. f.1 (elim o as (λ z. G ⊎ OneOf (λ y. A × P y) xs) [ inl g ↦ inl g | inr t ↦ inr (r.1 t) ]),
    )

cases_eq : (a b : ℕ) → (a ≡ b) ⊎ ¬ (a ≡ b)
cases_eq a b = elim (cases_Bool (nat_eq a b)) [ inl e ↦ inl (eqb-true a b e) | inr n ↦ inr (eqb-false a b n) ]

-- a rule that stands at a place is one of the rules
rule_member : (rules : List GroundRule) (i : ℕ) (r : GroundRule) → slice_get rules i ≡ Some r → IsMember r rules
rule_member [] i r e = absurd (let z : None ≡ Some r = e in cc)
rule_member (x ∷ rules) zero r e = let z : Some x ≡ Some r = e in inl cc
rule_member (x ∷ rules) (suc i) r e = inr (rule_member rules i r e)

pub rule_at : (rules : List GroundRule) (i : ℕ) (r : GroundRule) → i < length rules → r ≡ get_or rules i r
    → slice_get rules i ≡ Some r
rule_at [] i r h e = absurd (omega arith)
rule_at (x ∷ rules) zero r h e = ap Some (sym e)
rule_at (x ∷ rules) (suc i) r h e = rule_at rules i r (omega arith) e

pub heads_fit_at : (rules : List GroundRule) (i : ℕ) (r : GroundRule) (n : ℕ) → slice_get rules i ≡ Some r
    → HeadsFit n rules → r.head < n
heads_fit_at [] i r n e h = absurd (let z : None ≡ Some r = e in cc)
heads_fit_at (x ∷ rules) zero r n e h = let z : Some x ≡ Some r = e in let w : x ≡ r = cc in
    subst (λ y. y.head < n) w h.0
heads_fit_at (x ∷ rules) (suc i) r n e h = heads_fit_at rules i r n e h.1

-- what an applied rule adds is derived
pub rule_derived : (rules : List GroundRule) (i : ℕ) (r : GroundRule) (old new : List Row) → slice_get rules i ≡ Some r
    → IsDerived rules old → AddsRule r.head (Unions (HasMask old) r.pieces) old new → IsDerived rules new
rule_derived rules i r old new s d adds q x h = elim ((adds q x).0 h) as (λ z. derived rules q x) [
  | inl o ↦ d q x o
  | inr e ↦ subst (λ j. derived rules j x) (sym e.0)
      (gives_derived rules r x (rule_member rules i r s) (union_map (HasMask old) (derived rules) d r.pieces x e.1))
]

-- a rule whose table did not change is closed
pub rule_closed : (r : GroundRule) (old new : List Row) → new ≡ old
    → AddsRule r.head (Unions (HasMask old) r.pieces) old new → IsClosed new r
rule_closed r old new t adds = subst (λ w. IsClosed w r) (sym t)
    (λ x u. subst (λ w. HasMask w r.head x) t ((adds r.head x).1 (inr (refl, u))))

pub rule_closed_at : (rules : List GroundRule) (i : ℕ) (r x : GroundRule) (old new : List Row)
    → slice_get rules i ≡ Some r → slice_get rules i ≡ Some x → new ≡ old
    → AddsRule r.head (Unions (HasMask old) r.pieces) old new → IsClosed new x
rule_closed_at rules i r x old new s e t adds = let z : Some x ≡ Some r = sym e ∙ s in let w : x ≡ r = cc in
    subst (IsClosed new) (sym w) (rule_closed r old new t adds)

-- the piece does not ask this question
abbrev pub Avoids : ℕ → Piece → Type 0
Avoids head (Here k) = Unit {0}
Avoids head (Of q) = ¬ (q ≡ head)

module _ (head : ℕ) (U : ℕ → Type 0) (old new : List Row) (adds : AddsRule head U old new) where
  -- a question that did not grow
  row_kept : (q m : ℕ) → ¬ (q ≡ head) → HasMask new q m → HasMask old q m
  row_kept q m n h = elim ((adds q m).0 h) as (λ z. HasMask old q m) [ inl o ↦ o | inr e ↦ absurd (n e.0) ]

  -- what pieces that do not ask it give is as before
  unions_kept : (ys : List Piece) (m : ℕ) → Each (Avoids head) ys → Unions (HasMask new) ys m
      → Unions (HasMask old) ys m
  unions_kept [] m a u = u
  unions_kept (Here k ∷ ys) m a u = record {
    part = u.part;
    rest = u.rest;
    union = u.union;
    first = u.first;
    others = unions_kept ys u.rest a.1 u.others;
  }
  unions_kept (Of q ∷ ys) m a u = record {
    part = u.part;
    rest = u.rest;
    union = u.union;
    first = row_kept q u.part a.0 u.first;
    others = unions_kept ys u.rest a.1 u.others;
  }

  closed_kept : (r : GroundRule) → Each (Avoids head) r.pieces → IsClosed old r → IsClosed new r
  closed_kept r a k m u = (adds r.head m).1 (inl (k m (unions_kept r.pieces m a u)))

-- ---- times

at_set : (xs : List ℕ) (i j v : ℕ) → ¬ (j ≡ i) → slice_index (slice_set xs i v) j ≡ slice_index xs j
at_set [] i j v n = refl
at_set (x ∷ xs) zero zero v n = absurd (n refl)
at_set (x ∷ xs) zero (suc j) v n = refl
at_set (x ∷ xs) (suc i) zero v n = refl
at_set (x ∷ xs) (suc i) (suc j) v n = at_set xs i j v (λ e. n (ap suc e))

at_same : (xs : List ℕ) (i v : ℕ) → i < length xs → slice_index (slice_set xs i v) i ≡ v
at_same [] i v h = absurd (omega arith)
at_same (x ∷ xs) zero v h = refl
at_same (x ∷ xs) (suc i) v h = at_same xs i v (omega arith)

-- pieces that have not grown by a time before this one do not ask the question that grew now
old_avoids : (grown : List ℕ) (head now time : ℕ) (ys : List Piece) → head < length grown → time < now
    → Each (IsOld (slice_set grown head now) time) ys → Each (Avoids head) ys × Each (IsOld grown time) ys
old_avoids grown head now time [] h l o = (tt, tt)
old_avoids grown head now time (Here k ∷ ys) h l o = let r = old_avoids grown head now time ys h l o.1 in
    ((tt, r.0), (tt, r.1))
old_avoids grown head now time (Of q ∷ ys) h l o =
    let r = old_avoids grown head now time ys h l o.1 in
    let a : ¬ (q ≡ head) = λ e. let s : slice_index (slice_set grown head now) q
    ≡ now = ap (slice_index (slice_set grown head now)) e ∙ at_same grown head now h in
    let k : slice_index (slice_set grown head now) q ≤ time = o.0 in omega arith in
    ((a, r.0), (subst (λ n. n ≤ time) (at_set grown head q now a) o.0, r.1))

module _ (rules : List GroundRule) (i : ℕ) (r : GroundRule) (s : slice_get rules i ≡ Some r) (old new : List Row)
    (grown applied : List ℕ) (before after : ℕ) where
  same_rule : (x : GroundRule) → slice_get rules i ≡ Some x → x ≡ r
  same_rule x e = let z : Some x ≡ Some r = sym e ∙ s in cc

  module _ (k : AreSettled old grown applied rules) (adds : AddsRule r.head (Unions (HasMask old) r.pieces) old new)
    where
      -- the table did not change
      settled_same : new ≡ old → AreSettled new grown (slice_set applied i before) rules
      settled_same t j x e f = elim (cases_eq j i) as (λ z. IsClosed new x) [
        | inl y ↦ subst (IsClosed new) (sym (same_rule x (subst (λ n. slice_get rules n ≡ Some x) y e)))
            (rule_closed r old new t adds)
        | inr n ↦ subst (λ w. IsClosed w x) (sym t) (k j x e (subst (λ v. IsFresh grown v x.pieces)
            (at_set applied i j before n) f))
      ]

      -- the rule's question has grown
      settled_grown : before < after → AreBefore applied before → r.head < length grown → i < length applied
          → AreSettled new (slice_set grown r.head after) (slice_set applied i before) rules
      settled_grown l b h w j x e f = elim (cases_eq j i) as (λ z. IsClosed new x) [
        | inl y ↦
            let v : slice_index (slice_set applied i before) j ≡ before = ap (slice_index (slice_set applied i before)) y
            ∙ at_same applied i before w in
            let g : IsFresh (slice_set grown r.head after) before x.pieces = subst
            (λ t. IsFresh (slice_set grown r.head after) t x.pieces) v f in
            let a = old_avoids grown r.head after before x.pieces h l g.1 in
            let xr : x ≡ r = same_rule x (subst (λ n. slice_get rules n ≡ Some x) y e) in
            let ar : Each (Avoids r.head) r.pieces = subst (λ z. Each (Avoids r.head) z.pieces) xr a.0 in
            subst (IsClosed new) (sym xr) (λ m u. (adds r.head m).1
            (inr (refl, unions_kept r.head (Unions (HasMask old) r.pieces) old new adds r.pieces m ar u)))
        | inr n ↦
            let v : slice_index (slice_set applied i before) j ≡ slice_index applied j = at_set applied i j before n in
            let g : IsFresh (slice_set grown r.head after) (slice_index applied j) x.pieces = subst
            (λ t. IsFresh (slice_set grown r.head after) t x.pieces) v f in
            let c : slice_index applied j ≤ before = b j in
            let a = old_avoids grown r.head after (slice_index applied j) x.pieces h (omega arith) g.1 in
            closed_kept r.head (Unions (HasMask old) r.pieces) old new adds x a.0 (k j x e (g.0, a.1))
      ]

      pub settled_after : (grown' applied' : List ℕ) → applied' ≡ slice_set applied i before
          → grown' ≡ (if nat_eq before after then grown else slice_set grown r.head after) → before ≤ after
          → (after ≡ before → new ≡ old) → AreBefore applied before → r.head < length grown → i < length applied
          → AreSettled new grown' applied' rules
      settled_after grown' applied' ae ge le same b h w =
          subst (λ ts. AreSettled new grown' ts rules) (sym ae)
          (subst (λ ts. AreSettled new ts (slice_set applied i before) rules) (sym ge)
          (by (nat_eq before after) refl))
        where
          by : (c : Bool) → nat_eq before after ≡ c → AreSettled new (if c then grown else slice_set grown r.head after)
              (slice_set applied i before) rules
          by true e = settled_same (same (sym (eqb-true before after e)))
          by false e = settled_grown (let n : before ≢ after = eqb-false before after e in omega arith) b h w

-- ---- rounds, from the last rule to the first

-- each rule from this place on is closed
abbrev pub AreClosedFrom : List Row → ℕ → List GroundRule → Type 0
AreClosedFrom table from rules = (i : ℕ) (r : GroundRule) → from ≤ i → slice_get rules i ≡ Some r → IsClosed table r

pub row_added_at : (t : List Row) (h mask : ℕ) (old new : Row) (b : Bool) → h < length t → old ≡ get_or t h old
    → Added old new mask b → AddsMask h mask t (slice_set t h new)
row_added_at t h mask old new b l e a = row_added t h mask old new b l (subst (λ x. Added x new mask b) e a)

pub row_same_at : (t : List Row) (h mask : ℕ) (old new : Row) (b : Bool) → h < length t → old ≡ get_or t h old
    → b ≡ false → Added old new mask b → slice_set t h new ≡ t
row_same_at t h mask old new true l e f a = absurd (let z : true ≡ false = f in cc)
row_same_at t h mask old new false l e f a = row_same t h mask old new l (a.0 ∙ e)
