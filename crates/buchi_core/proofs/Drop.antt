-- What a step drops, keeps and turns green, and the bounds after it.
use Rattle.std.proofs.Common.{◌≡◌, ℕ, zero, suc, ◌+◌, ◌<◌, ◌≤◌, ◌⊎◌, inl, inr, List, [], arith, Bool, true, false, cond}
use Rattle.std.proofs.Common.{◌&&◌, ◌||◌, not, Option, Some, None, slice_get, length, sym, refl, ap, ◌∙◌, subst}
use Rattle.std.proofs.Common.{eqb-true, ltb, get_or}
use Rattle.std.proofs.lemmas.Bool.{cases_Bool, cases_eq, and_parts, not-true, or_parts, ltb-true, cond-true, cond-false}
use Rattle.std.proofs.lemmas.Bool.{not_from_false, and_from, and_left, and_right, lt-ltb, not_from_true}
use Rattle.std.proofs.lemmas.Option.{slice_get_within, get_or_from_slice_get}
use Rattle.std.specs.List.{list_all}
use Rattle.buchi_core.specs.Forest.{Pair}
use Rattle.cyc_basics.specs.Sets.{Falls}
use Rattle.buchi_core.specs.declared.event.Event.{Event}
use Rattle.buchi_core.specs.declared.event.Event.TheVariants.{Dies, Green, Nothing}
use Rattle.buchi_core.specs.Forest.{Entry, has, grown, same_parent, before_drop, is_filled, set_at, set_of, is_full}
use Rattle.buchi_core.specs.Forest.{is_lost, losses, lost_below, is_set, is_kept, is_green, child_has, places, rank}
use Rattle.buchi_core.specs.Forest.{settled, settle, renumbered, parent_of, event_from, next_forest, event_of}
use Rattle.buchi_core.proofs.Lists.{any_at, ScanAt, scan_at, every_has}
use Rattle.buchi_core.proofs.Places.{bad_false, places_pass, places_rank, place_is_rank, rank_all, rank_less}
use Rattle.buchi_core.proofs.Grown.{get_map, length_moved, length-trim, length-grown}
use Rattle.buchi_core.proofs.Bounds.{Within, peak, peak_above, peak_below, Stages, stages_at}
use Rattle.buchi_core.proofs.Bits.{filled_has, has_filled}
use Rattle.cyc_basics.proofs.Places.{get_within}

-- an entry with a parent is lost exactly where the parent is full or lost
pub lost_at : (entries : List Entry) (i p : ℕ) (e : Entry) → slice_get entries i ≡ Some e → e.parent ≡ Some p → p < i
    → is_lost entries i ≡ (is_full entries p || is_lost entries p)
lost_at entries i p e h a l = by (scan_at (λ done x. lost_below entries done x.parent) entries [] i i e h (omega arith))
  where
    by : ScanAt (λ (done : List Bool) (x : Entry). lost_below entries done x.parent) (losses entries) i e
        → is_lost entries i ≡ (is_full entries p || is_lost entries p)
    by s =
        let y = get_within s.before p (omega (arith, s.long)) in
        let whole = s.same p y.0 y.1 in
        let v : is_lost entries i ≡ lost_below entries s.before e.parent = ap is_set s.value in
        let v' : lost_below entries s.before e.parent
        ≡ lost_below entries s.before (Some p) = ap (lost_below entries s.before) a in
        let u : is_set (slice_get s.before p) ≡ is_lost entries p = ap is_set (y.1 ∙ sym whole) in
        v ∙ (v' ∙ ap (λ z. is_full entries p || z) u)

pub not_lost : (entries : List Entry) (i p : ℕ) (e : Entry) → slice_get entries i ≡ Some e → e.parent ≡ Some p → p < i
    → is_lost entries i ≡ false → (is_full entries p ≡ false) × (is_lost entries p ≡ false)
not_lost entries i p e h a l n = or_parts (is_full entries p) (is_lost entries p)
    (sym (lost_at entries i p e h a l) ∙ n)

pub set_at_is : (entries : List Entry) (i : ℕ) (e : Entry) → slice_get entries i ≡ Some e → set_at entries i ≡ e.set
set_at_is entries i e h = ap set_of h

pub kept_parts : (entries : List Entry) (i : ℕ) → is_kept entries i ≡ true
    → (is_filled (set_at entries i) ≡ true) × (is_lost entries i ≡ false)
kept_parts entries i h = let r = and_parts (is_filled (set_at entries i)) (not (is_lost entries i)) h in
    (r.0, not-true _ r.1)

pub kept_from : (entries : List Entry) (i : ℕ) → is_filled (set_at entries i) ≡ true → is_lost entries i ≡ false
    → is_kept entries i ≡ true
kept_from entries i h n = and_from (is_filled (set_at entries i)) (not (is_lost entries i)) h (not_from_false _ n)

pub green_parts : (entries : List Entry) (i : ℕ) → is_green entries i ≡ true
    → (is_full entries i ≡ true) × (is_lost entries i ≡ false)
green_parts entries i h = let r = and_parts (is_full entries i) (not (is_lost entries i)) h in (r.0, not-true _ r.1)

pub full_parts : (entries : List Entry) (i : ℕ) → is_full entries i ≡ true
    → (is_filled (set_at entries i) ≡ true) × (list_all (child_has entries i) (set_at entries i) ≡ true)
full_parts entries i h = and_parts (is_filled (set_at entries i)) (list_all (child_has entries i) (set_at entries i)) h

pub same_parent_is : (o : Option ℕ) (p : ℕ) → same_parent o (Some p) ≡ true → o ≡ Some p
same_parent_is None p h = absurd (bad_false h)
same_parent_is (Some x) p h = ap Some (eqb-true x p h)

-- the child that has a position
pub child_at : (entries : List Entry) (k q : ℕ) → child_has entries k q ≡ true
    → (c : ℕ) × (e : Entry) × (slice_get entries c ≡ Some e) × (e.parent ≡ Some k) × (has e.set q ≡ true)
child_at entries k q h =
    let a = any_at (λ e. same_parent e.parent (Some k) && has e.set q) entries h in
    let both = and_parts (same_parent a.1.parent (Some k)) (has a.1.set q) a.3 in
    (a.0, a.1, a.2, same_parent_is a.1.parent k both.0, both.1)

-- an entry after the drop
pub record SettledAt (entries : List Entry) (j : ℕ) (e : Entry) : Type 0 where
  pub i : ℕ
  pub from : Entry
  pub is_from : slice_get entries i ≡ Some from
  pub place : slice_get (places (is_kept entries) 0 (length entries)) j ≡ Some i
  pub rank_is : j ≡ rank (is_kept entries) i
  pub kept : is_kept entries i ≡ true
  pub parent : e.parent ≡ renumbered (is_kept entries) from.parent
  pub set : e.set ≡ from.set

pub settled_at : (entries : List Entry) (j : ℕ) (e : Entry) → slice_get (settle entries) j ≡ Some e
    → SettledAt entries j e
settled_at entries j e h =
    let m = get_map (settled entries) (places (is_kept entries) 0 (length entries)) j e h in
    let p = places_pass (is_kept entries) 0 (length entries) j m.0 m.1 in
    let r = place_is_rank (is_kept entries) (length entries) 0 j m.0 m.1 in
    by m.0 m.1 m.2 p.0 (omega (arith, r)) (get_within entries m.0 (omega (arith, p.2)))
  where
    by : (i : ℕ) → slice_get (places (is_kept entries) 0 (length entries)) j ≡ Some i → e ≡ settled entries i
        → is_kept entries i ≡ true → j ≡ rank (is_kept entries) i →
        (f : Entry) × (slice_get entries i ≡ Some f) → SettledAt entries j e
    by i place eq kept rank_is f = record {
      i = i;
      from = f.0;
      is_from = f.1;
      place = place;
      rank_is = rank_is;
      kept = kept;
      parent = ap (λ (x : Entry). x.parent) eq ∙ ap (λ o. renumbered (is_kept entries) (parent_of o)) f.1;
      set = ap (λ (x : Entry). x.set) eq ∙ ap set_of f.1;
    }

pub renumbered_is : (keep : ℕ → Bool) (o : Option ℕ) (r : ℕ) → renumbered keep o ≡ Some r
    → (p : ℕ) × (o ≡ Some p) × (r ≡ rank keep p)
renumbered_is keep None r h = absurd (let e : None ≡ Some r = h in cc)
renumbered_is keep (Some p) r h = (p, refl, (let e : Some (rank keep p) ≡ Some r = h in cc))

-- the event
abbrev pub IsBefore : Event → ℕ → Type 0
IsBefore (Dies k) j = j < k
IsBefore (Green k) j = j < k
IsBefore Nothing j = Unit {0}

pub before_down : (event : Event) (i j : ℕ) → i < j → IsBefore event j → IsBefore event i
before_down (Dies k) i j l b = omega arith
before_down (Green k) i j l b = omega arith
before_down Nothing i j l b = tt

pub record EventFacts (entries : List Entry) (i n : ℕ) (event : Event) : Type 0 where
  pub clear : (j : ℕ) → i ≤ j → j < i + n → IsBefore event j → (is_kept entries j ≡ true) × (is_green entries j ≡ false)
  pub dies : (k : ℕ) → event ≡ Dies k → (i ≤ k) × (k < i + n) × (is_kept entries k ≡ false)
  pub green : (k : ℕ) → event ≡ Green k → (i ≤ k) × (k < i + n) × (is_kept entries k ≡ true)
      × (is_green entries k ≡ true)

dies_at : (entries : List Entry) (i n : ℕ) → is_kept entries i ≡ false → EventFacts entries i (suc n) (Dies i)
dies_at entries i n no' = record {
  clear = λ j a b c. absurd (omega arith);
  dies = λ k e. (let e' : i ≡ k = cc in (omega arith, omega arith, subst (λ x. is_kept entries x ≡ false) e' no'));
  green = λ k e. absurd (let e' : Dies i ≡ Green k = e in cc);
}

green_at : (entries : List Entry) (i n : ℕ) → is_kept entries i ≡ true → is_green entries i ≡ true
    → EventFacts entries i (suc n) (Green i)
green_at entries i n kept green = record {
  clear = λ j a b c. absurd (omega arith);
  dies = λ k e. absurd (let e' : Green i ≡ Dies k = e in cc);
  green = λ k e. (let e' : i ≡ k = cc in (
    omega arith,
    omega arith,
    subst (λ x. is_kept entries x ≡ true) e' kept,
    subst (λ x. is_green entries x ≡ true) e' green,
  ));
}

later : (entries : List Entry) (i n : ℕ) (event : Event) → is_kept entries i ≡ true → is_green entries i ≡ false
    → EventFacts entries (suc i) n event → EventFacts entries i (suc n) event
later entries i n event kept green f = record {
  clear = λ j a b c. elim (cases_eq i j) [
    | inl e ↦ (subst (λ x. is_kept entries x ≡ true) e kept, subst (λ x. is_green entries x ≡ false) e green)
    | inr ne ↦ f.clear j (omega arith) (omega arith) c
  ];
  dies = λ k e. (let r = f.dies k e in (omega arith, omega arith, r.2));
  green = λ k e. (let r = f.green k e in (omega arith, omega arith, r.2, r.3));
}

pub event_facts : (entries : List Entry) (i n : ℕ) → EventFacts entries i n (event_from entries i n)
event_facts entries i zero = record {
  clear = λ j a b c. absurd (omega arith);
  dies = λ k e. absurd (let e' : Nothing ≡ Dies k = e in cc);
  green = λ k e. absurd (let e' : Nothing ≡ Green k = e in cc);
}
event_facts entries i (suc n) =
    elim (cases_Bool (is_kept entries i)) [
      | inl kept ↦ elim (cases_Bool (is_green entries i)) [
        | inl green ↦ subst (EventFacts entries i (suc n)) (sym (cond-true _ _ _ kept ∙ cond-true _ _ _ green))
            (green_at entries i n kept green)
        | inr not_green ↦ subst (EventFacts entries i (suc n)) (sym (cond-true _ _ _ kept ∙ cond-false _ _ _ not_green))
            (later entries i n _ kept not_green (event_facts entries (suc i) n))
      ]
      | inr no' ↦ subst (EventFacts entries i (suc n)) (sym (cond-false _ _ _ no')) (dies_at entries i n no')
    ]

-- the bound of an entry before the drop: what it was, or the greatest stage in it where it is new or turns green
drop_bound : List Entry → ℕ → (ℕ → ℕ) → (ℕ → ℕ) → ℕ → ℕ
drop_bound entries m b τ i = cond (ltb i m && not (is_green entries i)) (b i) (peak τ (set_at entries i))

-- and by its place after the drop
pub new_bound : List Entry → ℕ → (ℕ → ℕ) → (ℕ → ℕ) → ℕ → ℕ
new_bound entries m b τ j = drop_bound entries m b τ (get_or (places (is_kept entries) 0 (length entries)) j 0)

new_bound_at : (entries : List Entry) (m : ℕ) (b τ : ℕ → ℕ) (j i : ℕ)
    → slice_get (places (is_kept entries) 0 (length entries)) j ≡ Some i
    → new_bound entries m b τ j ≡ drop_bound entries m b τ i
unfolding new_bound
new_bound_at entries m b τ j i h = ap (drop_bound entries m b τ) (get_or_from_slice_get _ j i 0 h)

bound_kept : (entries : List Entry) (m : ℕ) (b τ : ℕ → ℕ) (i : ℕ) → i < m → is_green entries i ≡ false
    → drop_bound entries m b τ i ≡ b i
unfolding drop_bound
bound_kept entries m b τ i l g = cond-true _ _ _ (and_from (ltb i m) (not (is_green entries i)) (lt-ltb i m l)
    (not_from_false _ g))

bound_green : (entries : List Entry) (m : ℕ) (b τ : ℕ → ℕ) (i : ℕ) → is_green entries i ≡ true
    → drop_bound entries m b τ i ≡ peak τ (set_at entries i)
unfolding drop_bound
bound_green entries m b τ i g = cond-false _ _ _ (and_right (ltb i m) (not (is_green entries i)) (not_from_true _ g))

bound_cases : (entries : List Entry) (m : ℕ) (b τ : ℕ → ℕ) (i : ℕ) →
    ((i < m) × (drop_bound entries m b τ i ≡ b i)) ⊎ (drop_bound entries m b τ i ≡ peak τ (set_at entries i))
unfolding drop_bound
bound_cases entries m b τ i =
    elim (cases_Bool (ltb i m && not (is_green entries i))) [
      | inl t ↦ inl (ltb-true i m (and_parts (ltb i m) (not (is_green entries i)) t).0, cond-true _ _ _ t)
      | inr f ↦ inr (cond-false _ _ _ f)
    ]

-- a step's forest, event and bounds
pub record Stepped (forest next : List Entry) (event : Event) (τ b c : ℕ → ℕ) : Type 0 where
  pub within : Within next τ c
  pub same : (j : ℕ) → j < length forest → IsBefore event j → (j < length next) × (c j ≡ b j)
  pub dies : (k : ℕ) → event ≡ Dies k → k < length forest
  pub green : (k : ℕ) → event ≡ Green k → (k < length forest) × (k < length next) × (c k < b k)

module _ (entries : List Entry) (forest : List Entry) (τ b : ℕ → ℕ) (long : length forest ≤ length entries)
    (stages : (i : ℕ) (e : Entry) → slice_get entries i ≡ Some e → Stages forest entries τ b i e) where
  bounded_after : (j q : ℕ) (e : Entry) → slice_get (settle entries) j ≡ Some e → has e.set q ≡ true
      → τ q ≤ new_bound entries (length forest) b τ j
  bounded_after j q e h m =
      let s = settled_at entries j e h in
      let n = new_bound_at entries (length forest) b τ j s.i s.place in
      let m' : has s.from.set q ≡ true = subst (λ x. has x q ≡ true) s.set m in
      elim (bound_cases entries (length forest) b τ s.i) [
        | inl a ↦ (let k = (stages s.i s.from s.is_from).kept q a.0 m' in omega (arith, k, n, a.1))
        | inr p ↦ (let k = peak_above τ (set_at entries s.i) q
            (subst (λ x. has x q ≡ true) (sym (set_at_is entries s.i s.from s.is_from)) m') in omega (arith, k, n, p))
      ]

  -- a kept entry's parent is kept, and isn't green
  parent_kept : (i p : ℕ) (e : Entry) → slice_get entries i ≡ Some e → e.parent ≡ Some p → is_kept entries i ≡ true
      → (is_kept entries p ≡ true) × (is_green entries p ≡ false)
  parent_kept i p e h a k =
      let st = stages i e h in
      let l = (st.older p a).0 in
      let kp = kept_parts entries i k in
      let nl = not_lost entries i p e h a l kp.1 in
      let f = filled_has e.set (subst (λ s. is_filled s ≡ true) (set_at_is entries i e h) kp.0) in
      let o = st.inside f.0 p f.1 a in
      let f' = has_filled o.0.set f.0 o.2 in (
        kept_from entries p (subst (λ s. is_filled s ≡ true) (sym (set_at_is entries p o.0 o.1)) f') nl.1,
        and_left (is_full entries p) (not (is_lost entries p)) nl.0,
      )

  nested_after : (j r : ℕ) (e : Entry) → slice_get (settle entries) j ≡ Some e → e.parent ≡ Some r
      → (r < j) × (new_bound entries (length forest) b τ j < new_bound entries (length forest) b τ r)
  nested_after j r e h a =
      let s = settled_at entries j e h in
      let p = renumbered_is (is_kept entries) s.from.parent r (sym s.parent ∙ a) in
      nested_by j r s.i p.0 s.from s.is_from s.place s.rank_is s.kept p.1 p.2
    where
      nested_by : (j r i p : ℕ) (f : Entry) → slice_get entries i ≡ Some f
          → slice_get (places (is_kept entries) 0 (length entries)) j ≡ Some i → j ≡ rank (is_kept entries) i
          → is_kept entries i ≡ true →
          f.parent ≡ Some p → r ≡ rank (is_kept entries) p
          → (r < j) × (new_bound entries (length forest) b τ j < new_bound entries (length forest) b τ r)
      nested_by j r i p f g place rank_is kept a e =
          let st = stages i f g in
          let ol = st.older p a in
          let pk = parent_kept i p f g a kept in
          let kp = kept_parts entries i kept in
          let less = rank_less (is_kept entries) p i pk.0 ol.0 in
          let place' = places_rank (is_kept entries) (length entries) 0 r p pk.0 (omega arith)
          (omega (arith, ol.1, long)) (omega arith) in
          let n = new_bound_at entries (length forest) b τ j i place in
          let n' = new_bound_at entries (length forest) b τ r p place' in
          let bp = bound_kept entries (length forest) b τ p ol.1 pk.1 in (
            omega arith,
            elim (bound_cases entries (length forest) b τ i) [
              | inl x ↦ (let y = st.falls p a x.0 in omega (arith, y, n, n', bp, x.1))
              | inr x ↦ (let y = peak_below τ (set_at entries i) (b p) kp.0
                  (λ q m. st.less p q a (subst (λ s. has s q ≡ true) (set_at_is entries i f g) m)) in
                  omega (arith, y, n, n', bp, x))
            ],
          )

  -- the entries up to a place below which nothing happens keep their places
  place_kept : (k : ℕ) → ((j : ℕ) → j < k → is_kept entries j ≡ true) → is_kept entries k ≡ true → k < length entries
      → slice_get (places (is_kept entries) 0 (length entries)) k ≡ Some k
  place_kept k below kept l = places_rank (is_kept entries) (length entries) 0 k k kept (omega arith) (omega arith)
      (omega (arith, rank_all (is_kept entries) k below))

  in_next : (k i : ℕ) → slice_get (places (is_kept entries) 0 (length entries)) k ≡ Some i → k < length (settle entries)
  in_next k i h = omega (
    arith,
    slice_get_within _ k i h,
    length_moved (settled entries)
        (places (is_kept entries) 0 (length entries)),
  )

  green_less : (k : ℕ) → is_green entries k ≡ true → k < length entries → peak τ (set_at entries k) < b k
  green_less k g l =
      let fl = full_parts entries k (green_parts entries k g).0 in
      peak_below τ (set_at entries k) (b k) fl.0 (λ q m. (
      let c = child_at entries k q (every_has (child_has entries k) (set_at entries k) q fl.1 m) in
      (stages c.0 c.1 c.2).less k q c.3 c.4))

  pub stepped_by : (event : Event) → EventFacts entries 0 (length forest) event
      → Stepped forest (settle entries) event τ b (new_bound entries (length forest) b τ)
  stepped_by event f = record {
    within = record { bounded = bounded_after; nested = λ j p e h a. nested_after j p e h a };
    same = λ j l be. (
        let at = f.clear j (omega arith) (omega arith) be in
        let pl = place_kept j (λ i li. (f.clear i (omega arith) (omega arith) (before_down event i j li be)).0) at.0
        (omega arith) in (
          in_next j j pl,
          new_bound_at entries (length forest) b τ j j pl
              ∙ bound_kept entries (length forest) b τ j l at.1,
        ));
    dies = λ k e. (let d = f.dies k e in omega arith);
    green = λ k e. (
        let g = f.green k e in
        let pl = place_kept k (λ i li. (f.clear i (omega arith) (omega arith) (subst (λ x. IsBefore x i) (sym e) li)).0)
        g.2 (omega arith) in
        let n = new_bound_at entries (length forest) b τ k k pl ∙ bound_green entries (length forest) b τ k g.3 in
        (omega arith, in_next k k pl, omega (arith, n, green_less k g.3 (omega arith))));
  }

pub stepped : (pairs : List Pair) (positions : List ℕ) (forest : List Entry) (σ τ b : ℕ → ℕ) → Falls pairs σ τ
    → Within forest σ b →
    (c : ℕ → ℕ) × Stepped forest (next_forest pairs positions forest) (event_of pairs positions forest) τ b c
stepped pairs positions forest σ τ b falls w =
    let entries = before_drop pairs positions forest in (
      new_bound entries (length forest) b τ,
      stepped_by entries forest τ b (omega (
        arith,
        length-trim (grown pairs positions forest),
        length-grown pairs positions forest,
      ))
          (stages_at pairs positions forest σ τ b falls w) (event_of pairs positions forest)
          (event_facts entries 0 (length forest)),
    )
