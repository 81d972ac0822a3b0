-- An entry that lives, over a step: its positions and those of its children come from positions of it or of its
-- children.
use Rattle.std.proofs.Common.{◌≡◌, ℕ, ◌<◌, ◌≤◌, ◌⊎◌, inl, inr, List, arith, Bool, true, ◌&&◌, Some, None, slice_get}
use Rattle.std.proofs.Common.{length, nat_eq, sym, refl, ap, ◌∙◌, subst, eqb-true}
use Rattle.std.proofs.lemmas.Bool.{both_ways, cases_eq, and_parts}
use Rattle.std.proofs.lemmas.Option.{slice_get_within}
use Rattle.buchi_core.specs.Forest.{Pair}
use Rattle.buchi_core.specs.declared.event.Event.{Event}
use Rattle.buchi_core.specs.declared.event.Event.TheVariants.{Dies, Green, Nothing}
use Rattle.buchi_core.specs.Forest.{Entry, has, leads, successors, progressing, grown, before_drop, set_at, is_full}
use Rattle.buchi_core.specs.Forest.{is_kept, child_has, rank, next_forest, event_of}
use Rattle.buchi_core.proofs.Lists.{any_at, has_filter, every_has}
use Rattle.buchi_core.proofs.Places.{rank_all}
use Rattle.buchi_core.proofs.Grown.{grown_cases, trim_at, get_filter, length-trim, length-grown}
use Rattle.buchi_core.proofs.Drop.{kept_parts, green_parts, full_parts, set_at_is, settled_at, renumbered_is}
use Rattle.buchi_core.proofs.Drop.{EventFacts, event_facts, IsBefore, child_at, not_lost}
use Rattle.buchi_core.proofs.Follow.{In, ChildIn, rank_one, parent_kept_too, settle_get}
use Rattle.cyc_basics.proofs.Places.{get_within}

-- no earlier than the green event at k
abbrev pub IsFromGreen : ℕ → Event → Type 0
IsFromGreen k (Dies i) = k < i
IsFromGreen k (Green i) = k ≤ i
IsFromGreen k Nothing = Unit {0}

-- a pair from q to r
pub record Paired (pairs : List Pair) (q r : ℕ) (now : Bool) : Type 0 where
  pub k : ℕ
  pub pair : Pair
  pub is_pair : slice_get pairs k ≡ Some pair
  pub old_is : pair.0 ≡ q
  pub new_is : pair.1 ≡ r
  pub progress_is : pair.2 ≡ now

pub from_moved : (pairs : List Pair) (positions set : List ℕ) (r : ℕ) → has (successors pairs positions set) r ≡ true
    → (q : ℕ) × (now : Bool) × (has set q ≡ true) × Paired pairs q r now
from_moved pairs positions set r h =
    let l = (has_filter (λ q. leads pairs set q) positions r h).0 in
    let a = any_at (λ p. has set p.0 && nat_eq p.1 r) pairs l in
    let both = and_parts (has set a.1.0) (nat_eq a.1.1 r) a.3 in (
      a.1.0,
      a.1.2,
      both.0,
      record {
        k = a.0;
        pair = a.1;
        is_pair = a.2;
        old_is = refl;
        new_is = eqb-true a.1.1 r both.1;
        progress_is = refl;
      },
    )

pub from_child : (pairs : List Pair) (positions set : List ℕ) (r : ℕ)
    → has (successors (progressing pairs) positions set) r ≡ true → (q : ℕ) × (has set q ≡ true) × Paired pairs q r true
from_child pairs positions set r h =
    let f = from_moved (progressing pairs) positions set r h in
    let g = get_filter (λ p. p.2) pairs f.3.k f.3.pair f.3.is_pair in (
      f.0,
      f.2,
      record {
        k = g.0;
        pair = f.3.pair;
        is_pair = g.1;
        old_is = f.3.old_is;
        new_is = f.3.new_is;
        progress_is = g.2;
      },
    )

-- where a position of a child of k comes from: one of k by a pair that progresses, or one of a child of k
pub record FromEntry (pairs : List Pair) (forest : List Entry) (k r : ℕ) : Type 0 where
  pub q : ℕ
  pub inside : In forest (Some k) q
  pub paired : Paired pairs q r true

pub record FromChild (pairs : List Pair) (forest : List Entry) (k r : ℕ) : Type 0 where
  pub q : ℕ
  pub j : ℕ
  pub now : Bool
  pub child : ChildIn forest (Some k) q j
  pub paired : Paired pairs q r now

module _ (pairs : List Pair) (positions : List ℕ) (forest : List Entry) (k : ℕ) (below : k < length forest) where
  module _ (passes : IsFromGreen k (event_of pairs positions forest)) where
    abbrev facts_of : EventFacts (before_drop pairs positions forest) 0 (length forest)
        (event_of pairs positions forest)
    facts_of = event_facts (before_drop pairs positions forest) 0 (length forest)

    before_of : (event : Event) (j : ℕ) → IsFromGreen k event → j < k → IsBefore event j
    before_of (Dies i) j p l = omega arith
    before_of (Green i) j p l = omega arith
    before_of Nothing j p l = tt

    kept_below : (j : ℕ) → j < k → is_kept (before_drop pairs positions forest) j ≡ true
    kept_below j l = (facts_of.clear j (omega arith) (omega arith)
        (before_of (event_of pairs positions forest) j passes l)).0

    kept_by : (event : Event) → event ≡ event_of pairs positions forest → IsFromGreen k event
        → is_kept (before_drop pairs positions forest) k ≡ true
    kept_by (Dies i) e p = (facts_of.clear k (omega arith) (omega arith) (subst (λ x. IsBefore x k) e p)).0
    kept_by (Green i) e p =
        elim (cases_eq k i) [
          | inl same ↦ subst (λ x. is_kept (before_drop pairs positions forest) x ≡ true) (sym same)
              (facts_of.green i (sym e)).2
          | inr other ↦ (let l : k < i = omega arith in (facts_of.clear k (omega arith) (omega arith)
              (subst (λ x. IsBefore x k) e l)).0)
        ]
    kept_by Nothing e p = (facts_of.clear k (omega arith) (omega arith) (subst (λ x. IsBefore x k) e tt)).0

    pub kept_here : is_kept (before_drop pairs positions forest) k ≡ true
    kept_here = kept_by (event_of pairs positions forest) refl passes

    pub rank_here : rank (is_kept (before_drop pairs positions forest)) k ≡ k
    rank_here = rank_all (is_kept (before_drop pairs positions forest)) k kept_below

    in_before : (r : ℕ) → In (next_forest pairs positions forest) (Some k) r
        → In (before_drop pairs positions forest) (Some k) r
    in_before r h =
        let s = settled_at (before_drop pairs positions forest) k h.0 h.1 in
        let i_is : s.i ≡ k = rank_one (is_kept (before_drop pairs positions forest)) s.i k s.kept kept_here
        (sym s.rank_is ∙ sym rank_here) in (
          s.from,
          subst (λ i. slice_get (before_drop pairs positions forest) i ≡ Some s.from) i_is s.is_from,
          subst (λ x. has x r ≡ true) s.set h.2,
        )

    -- the entry is there after the step
    pub lives : k < length (next_forest pairs positions forest)
    lives = by (get_within (before_drop pairs positions forest) k
        (omega (arith, below, length-trim (grown pairs positions forest), length-grown pairs positions forest)))
      where
        by : (e : Entry) × (slice_get (before_drop pairs positions forest) k ≡ Some e)
            → k < length (next_forest pairs positions forest)
        by e = let g = settle_get (before_drop pairs positions forest) k e.0 kept_here e.1 in
            omega (arith, rank_here, slice_get_within (next_forest pairs positions forest) _ _ g)

    -- a position of the entry comes from one
    pub back_same : (r : ℕ) → In (next_forest pairs positions forest) (Some k) r
        → (q : ℕ) × (now : Bool) × In forest (Some k) q × Paired pairs q r now
    back_same r h =
        let b = in_before r h in
        let t = trim_at (grown pairs positions forest) k b.0 b.1 in
        let m = t.less r b.2 in
        elim (grown_cases pairs positions forest k t.from t.is_from) [
          | inl o ↦ (let f = from_moved pairs positions o.from.set r (subst (λ s. has s r ≡ true) o.set m) in
              (f.0, f.1, (o.from, o.is_from, f.2), f.3))
          | inr (inl c) ↦ absurd (omega (arith, c.place, below))
          | inr (inr c) ↦ absurd (omega (arith, c.place, below))
        ]

    from_trimmed : (r i : ℕ) → ChildIn (before_drop pairs positions forest) (Some k) r i
        → FromEntry pairs forest k r ⊎ FromChild pairs forest k r
    from_trimmed r i c =
        let t = trim_at (grown pairs positions forest) i c.e c.is_e in
        let m = t.less r c.has_q in
        let par : t.from.parent ≡ Some k = sym t.parent ∙ c.parent in
        elim (grown_cases pairs positions forest i t.from t.is_from) [
          | inl o ↦ (let f = from_moved pairs positions o.from.set r (subst (λ s. has s r ≡ true) o.set m) in
              inr (record {
                q = f.0;
                j = i;
                now = f.1;
                child = record
                    { e = o.from; is_e = o.is_from; parent = sym o.parent ∙ par; has_q = f.2 };
                paired = f.3;
              }))
          | inr (inl o) ↦ (let f = from_child pairs positions o.from.set r (subst (λ s. has s r ≡ true) o.set m) in
              let of_is : o.of ≡ k = (let e : Some o.of ≡ Some k = sym o.parent ∙ par in cc) in
              inl (record {
                q = f.0;
                inside = (
                  o.from,
                  subst (λ x. slice_get forest x ≡ Some o.from) of_is o.is_from,
                  f.1,
                );
                paired = f.2;
              }))
          | inr (inr o) ↦ absurd (let e : None ≡ Some k = sym o.parent ∙ par in cc)
        ]

    child_before : (r j : ℕ) → ChildIn (next_forest pairs positions forest) (Some k) r j
        → (i : ℕ) × ChildIn (before_drop pairs positions forest) (Some k) r i
        × (is_kept (before_drop pairs positions forest) i ≡ true)
    child_before r j c =
        let s = settled_at (before_drop pairs positions forest) j c.e c.is_e in
        let m : has s.from.set r ≡ true = subst (λ x. has x r ≡ true) s.set c.has_q in
        let p = renumbered_is (is_kept (before_drop pairs positions forest)) s.from.parent k (sym s.parent ∙ c.parent)
        in
        let kp = parent_kept_too (grown pairs positions forest) s.i p.0 r s.from s.is_from p.1 m s.kept in
        let same : p.0 ≡ k = rank_one (is_kept (before_drop pairs positions forest)) p.0 k kp kept_here
        (sym p.2 ∙ sym rank_here) in
        (s.i, record { e = s.from; is_e = s.is_from; parent = p.1 ∙ ap Some same; has_q = m }, s.kept)

    pub back_child : (r j : ℕ) → ChildIn (next_forest pairs positions forest) (Some k) r j
        → FromEntry pairs forest k r ⊎ FromChild pairs forest k r
    back_child r j c = let b = child_before r j c in from_trimmed r b.0 b.1

    green_full : event_of pairs positions forest ≡ Green k → is_full (before_drop pairs positions forest) k ≡ true
    green_full g = (green_parts (before_drop pairs positions forest) k (facts_of.green k g).3).0

    -- a green entry has no child
    pub green_none : event_of pairs positions forest ≡ Green k → (r j : ℕ)
        → ChildIn (next_forest pairs positions forest) (Some k) r j → ⊥
    green_none g r j c =
        let b = child_before r j c in
        let l = (trim_at (grown pairs positions forest) b.0 b.1.e b.1.is_e).older r k b.1.has_q b.1.parent in
        both_ways (is_full (before_drop pairs positions forest) k)
        (not_lost (before_drop pairs positions forest) b.0 k b.1.e b.1.is_e b.1.parent l
        (kept_parts (before_drop pairs positions forest) b.0 b.2).1).0 (green_full g)

    -- and each of its positions was in a child
    pub green_child : event_of pairs positions forest ≡ Green k → (r : ℕ)
        → In (next_forest pairs positions forest) (Some k) r → FromEntry pairs forest k r ⊎ FromChild pairs forest k r
    green_child g r h =
        let b = in_before r h in
        let f = full_parts (before_drop pairs positions forest) k (green_full g) in
        let m : has (set_at (before_drop pairs positions forest) k) r
        ≡ true = subst (λ s. has s r ≡ true) (sym (set_at_is (before_drop pairs positions forest) k b.0 b.1)) b.2 in
        let c = child_at (before_drop pairs positions forest) k r
        (every_has (child_has (before_drop pairs positions forest) k)
        (set_at (before_drop pairs positions forest) k) r f.1 m) in
        from_trimmed r c.0 (record { e = c.1; is_e = c.2; parent = c.3; has_q = c.4 })
