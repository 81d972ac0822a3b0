-- A position followed over a step: it stays among the children of an entry that nothing happens to, at a place that
-- doesn't rise.
use Rattle.std.proofs.Common.{◌≡◌, ℕ, zero, suc, ◌+◌, ◌<◌, ◌≤◌, inl, inr, List, [], ◌∷◌, ◌++◌, map, arith, le_refl}
use Rattle.std.proofs.Common.{Bool, true, false, ◌&&◌, not, Option, Some, None, slice_get, length, filter, nat_eq, sym}
use Rattle.std.proofs.Common.{refl, ap, ◌∙◌, subst, option_map}
use Rattle.std.proofs.lemmas.Bool.{cases_Bool, both_ways, cases_eq, cases_lt, or_parts, and_from, and_cases, not-false}
use Rattle.std.proofs.lemmas.Bool.{eq-eqb, cases_order, or_from}
use Rattle.std.proofs.lemmas.Option.{slice_get_within, slice_get-map}
use Rattle.buchi_core.specs.Forest.{Pair}
use Rattle.buchi_core.specs.declared.event.Event.{Event}
use Rattle.buchi_core.specs.declared.event.Event.TheVariants.{Dies, Green, Nothing}
use Rattle.buchi_core.specs.Forest.{Entry, has, leads, successors, progressing, moved, children, top, grown, trim}
use Rattle.buchi_core.specs.Forest.{before_drop, is_filled, is_full, is_lost, losses, lost_below, is_set, is_kept}
use Rattle.buchi_core.specs.Forest.{is_green, places, rank, settled, settle, renumbered, parent_of, next_forest}
use Rattle.buchi_core.specs.Forest.{event_of}
use Rattle.buchi_core.proofs.Lists.{get_one, get_append_right, at_any, filter_has, ScanAt, scan_at}
use Rattle.buchi_core.proofs.Places.{places_rank, rank_all, rank_less}
use Rattle.buchi_core.proofs.Grown.{trim_at, InParent, length-trim, length_moved, length-children, get_children}
use Rattle.buchi_core.proofs.Drop.{lost_at, kept_parts, kept_from, set_at_is, settled_at, renumbered_is, event_facts}
use Rattle.buchi_core.proofs.Drop.{IsBefore}
use Rattle.buchi_core.proofs.Bits.{has_filled}
use Rattle.cyc_basics.proofs.Places.{get_within, get_append_left}

abbrev pub In : List Entry → Option ℕ → ℕ → Type 0
In forest None q = Unit {0}
In forest (Some p) q = (f : Entry) × (slice_get forest p ≡ Some f) × (has f.set q ≡ true)

-- entry j, a child of o, or a top entry, has q
pub record ChildIn (forest : List Entry) (o : Option ℕ) (q j : ℕ) : Type 0 where
  pub e : Entry
  pub is_e : slice_get forest j ≡ Some e
  pub parent : e.parent ≡ o
  pub has_q : has e.set q ≡ true

abbrev pub IsAbove : ℕ → Event → Type 0
IsAbove p (Dies k) = p < k
IsAbove p (Green k) = p < k
IsAbove p Nothing = Unit {0}

abbrev pub AboveOf : Option ℕ → Event → Type 0
AboveOf None event = Unit {0}
AboveOf (Some p) event = IsAbove p event

pub rank_le : (keep : ℕ → Bool) (i : ℕ) → rank keep i ≤ i
rank_le keep zero = le_refl 0
rank_le keep (suc i) = let r = rank_le keep i in elim (cases_Bool (keep i))
    [ inl yes' ↦ rw yes' (omega arith) | inr no' ↦ rw no' (omega arith) ]

pub rank_full : (keep : ℕ → Bool) (i q : ℕ) → rank keep i ≡ i → q < i → keep q ≡ true
rank_full keep zero q e l = absurd (omega arith)
rank_full keep (suc i) q e l =
    elim (cases_Bool (keep i)) [
      | inl yes' ↦ (let e' : suc (rank keep i) ≡ suc i = rw yes' at e in
          elim (cases_eq q i) [
            | inl same ↦ subst (λ x. keep x ≡ true) (sym same) yes'
            | inr other ↦ rank_full keep i q
                (omega arith) (omega arith)
          ])
      | inr no' ↦ absurd (let e' : rank keep i ≡ suc i = rw no' at e in omega (arith, rank_le keep i))
    ]

pub rank_one : (keep : ℕ → Bool) (i j : ℕ) → keep i ≡ true → keep j ≡ true → rank keep i ≡ rank keep j → i ≡ j
rank_one keep i j a b e =
    elim (cases_order i j) [
      | inl same ↦ same
      | inr (inl l) ↦ absurd (omega (arith, rank_less keep i j a l))
      | inr (inr l) ↦ absurd (omega (arith, rank_less keep j i b l))
    ]

pub lost_none : (entries : List Entry) (i : ℕ) (e : Entry) → slice_get entries i ≡ Some e → e.parent ≡ None
    → is_lost entries i ≡ false
lost_none entries i e h a = by (scan_at (λ done x. lost_below entries done x.parent) entries [] i i e h (omega arith))
  where
    by : ScanAt (λ (done : List Bool) (x : Entry). lost_below entries done x.parent) (losses entries) i e
        → is_lost entries i ≡ false
    by s = ap is_set s.value ∙ ap (lost_below entries s.before) a

pub not_full : (entries : List Entry) (p : ℕ) → is_kept entries p ≡ true → is_green entries p ≡ false
    → is_full entries p ≡ false
not_full entries p k g =
    elim (and_cases (is_full entries p) (not (is_lost entries p)) g) [
      | inl f ↦ f
      | inr l ↦ absurd (both_ways (is_lost entries p) (kept_parts entries p k).1 (not-false _ l))
    ]

abbrev pub IsStable : List Entry → Option ℕ → Type 0
IsStable entries None = Unit {0}
IsStable entries (Some p) = (is_kept entries p ≡ true) × (is_green entries p ≡ false)

-- a child of what stays and doesn't turn green is kept where it has a position
pub kept_child : (entries : List Entry) (j q : ℕ) (e : Entry) (o : Option ℕ) → slice_get (trim entries) j ≡ Some e
    → e.parent ≡ o → has e.set q ≡ true → IsStable (trim entries) o → is_kept (trim entries) j ≡ true
kept_child entries j q e None h a m st =
    kept_from (trim entries) j (subst (λ s. is_filled s ≡ true) (sym (set_at_is (trim entries) j e h))
    (has_filled e.set q m)) (lost_none (trim entries) j e h a)
kept_child entries j q e (Some p) h a m st =
    let l = (trim_at entries j e h).older q p m a in
    let nl = lost_at (trim entries) j p e h a l in
    kept_from (trim entries) j (subst (λ s. is_filled s ≡ true) (sym (set_at_is (trim entries) j e h))
    (has_filled e.set q m))
    (nl ∙ or_from (is_full (trim entries) p) (is_lost (trim entries) p) (not_full (trim entries) p st.0 st.1)
    (kept_parts (trim entries) p st.0).1)

-- where it stands after the drop
pub settle_get : (entries : List Entry) (i : ℕ) (e : Entry) → is_kept entries i ≡ true → slice_get entries i ≡ Some e
    → slice_get (settle entries) (rank (is_kept entries) i) ≡ Some (settled entries i)
settle_get entries i e k h =
    slice_get-map (settled entries) (places (is_kept entries) 0 (length entries)) (rank (is_kept entries) i) ∙
    ap (option_map (settled entries)) (places_rank (is_kept entries) (length entries) 0 (rank (is_kept entries) i) i k
    (omega arith) (omega (arith, slice_get_within entries i e h)) (omega arith))

pub child_after : (entries : List Entry) (j q : ℕ) (e : Entry) (o : Option ℕ) → is_kept entries j ≡ true
    → slice_get entries j ≡ Some e → e.parent ≡ o → has e.set q ≡ true →
    ChildIn (settle entries) (renumbered (is_kept entries) o) q (rank (is_kept entries) j)
child_after entries j q e o k h a m = record {
  e = settled entries j;
  is_e = settle_get entries j e k h;
  parent = ap (λ x. renumbered (is_kept entries) (parent_of x)) h ∙ ap (renumbered (is_kept entries)) a;
  has_q = subst (λ s. has s q ≡ true) (sym (set_at_is entries j e h)) m;
}

-- the pair leads to q in the successors of each set that has its old position
pub leads_to : (pairs : List Pair) (positions set : List ℕ) (k : ℕ) (p : Pair) → slice_get pairs k ≡ Some p
    → has set p.0 ≡ true → has positions p.1 ≡ true → has (successors pairs positions set) p.1 ≡ true
leads_to pairs positions set k p h m n =
    filter_has (λ q. leads pairs set q) positions p.1
    (at_any (λ x. has set x.0 && nat_eq x.1 p.1) pairs k p h
    (and_from (has set p.0) (nat_eq p.1 p.1) m (eq-eqb p.1 p.1 refl))) n

abbrev pub OlderThan : Option ℕ → ℕ → Type 0
OlderThan None i = Unit {0}
OlderThan (Some p) i = p < i

in_parent : (entries : List Entry) (i : ℕ) (o : Option ℕ) (q : ℕ) → OlderThan o i → In entries o q
    → InParent entries i o q
in_parent entries i None q l m = tt
in_parent entries i (Some p) q l m = (m.0, l, m.1, m.2)

-- a child of o that has q
pub record Found (entries : List Entry) (o : Option ℕ) (q i : ℕ) : Type 0 where
  pub j : ℕ
  pub e : Entry
  pub no_later : j ≤ i
  pub is_e : slice_get entries j ≡ Some e
  pub parent : e.parent ≡ o
  pub has_q : has e.set q ≡ true

pub find_at : (entries : List Entry) (i q : ℕ) (g : Entry) → slice_get entries i ≡ Some g → has g.set q ≡ true
    → OlderThan g.parent i → In (trim entries) g.parent q → Found (trim entries) g.parent q i
find_at entries i q g h m l inside = at (get_within (trim entries) i
    (omega (arith, slice_get_within entries i g h, length-trim entries)))
  where
    at : (e : Entry) × (slice_get (trim entries) i ≡ Some e) → Found (trim entries) g.parent q i
    at e =
        let t = trim_at entries i e.0 e.1 in
        let fg : t.from ≡ g = get_one entries i t.from g t.is_from h in
        let par : e.0.parent ≡ g.parent = t.parent ∙ ap (λ (x : Entry). x.parent) fg in
        let r = t.stay q (subst (λ (x : Entry). has x.set q ≡ true) (sym fg) m)
        (subst (λ o. InParent (trim entries) i o q) (sym par) (in_parent (trim entries) i g.parent q l inside)) in
        record { j = r.0; e = r.1; no_later = r.2; is_e = r.3; parent = r.4 ∙ par; has_q = r.5 }

filter_get : {X : Type 0} (t : X → Bool) (xs : List X) (i : ℕ) (x : X) → slice_get xs i ≡ Some x → t x ≡ true
    → (j : ℕ) × (slice_get (filter t xs) j ≡ Some x)
filter_get t [] i x h p = absurd (let e : None ≡ Some x = h in cc)
filter_get t (y ∷ xs) zero x h p = (let e : Some y ≡ Some x = h in let e' : y ≡ x = cc in
    let ty : t y ≡ true = subst (λ z. t z ≡ true) (sym e') p in (0, rw ty (ap Some e')))
filter_get t (y ∷ xs) (suc i) x h p =
    let r = filter_get t xs i x h p in
    elim (cases_Bool (t y)) [ inl yes' ↦ (suc r.0, rw yes' r.1) | inr no' ↦ (r.0, rw no' r.1) ]

module _ (pairs : List Pair) (positions : List ℕ) (forest : List Entry) where
  old_at : (i : ℕ) (f : Entry) → slice_get forest i ≡ Some f
      → slice_get (grown pairs positions forest) i ≡ Some (moved pairs positions f)
  old_at i f h = get_append_left (map (moved pairs positions) forest) _ i (moved pairs positions f)
      (slice_get-map (moved pairs positions) forest i ∙ ap (option_map (moved pairs positions)) h)

  new_at : (i : ℕ) (f : Entry) → slice_get forest i ≡ Some f →
      (e : Entry) × (slice_get (grown pairs positions forest) (length forest + i) ≡ Some e) × (e.parent ≡ Some i)
      × (e.set ≡ successors (progressing pairs) positions f.set)
  new_at i f h = at (get_within (children pairs positions 0 forest) i
      (omega (arith, length-children pairs positions 0 forest, slice_get_within forest i f h)))
    where
      at : (e : Entry) × (slice_get (children pairs positions 0 forest) i ≡ Some e) →
          (e : Entry) × (slice_get (grown pairs positions forest) (length forest + i) ≡ Some e) × (e.parent ≡ Some i)
          × (e.set ≡ successors (progressing pairs) positions f.set)
      at e =
          let c = get_children pairs positions 0 forest i e.0 e.1 in
          let ff : c.0 ≡ f = get_one forest i c.0 f c.1 h in (
            e.0,
            get_append_right (map (moved pairs positions) forest)
                (children pairs positions 0 forest ++ (top positions ∷ [])) i (length forest + i)
                (omega (arith, length_moved (moved pairs positions) forest))
                ∙ get_append_left (children pairs positions 0 forest) (top positions ∷ []) i e.0 e.1,
            c.2 ∙ ap Some (omega arith),
            c.3 ∙ ap (λ (x : Entry). successors (progressing pairs) positions x.set) ff,
          )

  top_at : slice_get (grown pairs positions forest) (length forest + length forest) ≡ Some (top positions)
  top_at =
      get_append_right (map (moved pairs positions) forest) (children pairs positions 0 forest ++ (top positions ∷ []))
      (length forest) (length forest + length forest) (omega (arith, length_moved (moved pairs positions) forest))
      ∙ get_append_right (children pairs positions 0 forest) (top positions ∷ []) 0 (length forest)
      (omega (arith, length-children pairs positions 0 forest))

  pub find_follow : (o : Option ℕ) (q j k : ℕ) (p : Pair) → ChildIn forest o q j → slice_get pairs k ≡ Some p → p.0 ≡ q
      → has positions p.1 ≡ true → OlderThan o j → In (before_drop pairs positions forest) o p.1 →
      Found (before_drop pairs positions forest) o p.1 j
  find_follow o q j k p c at old new l inside =
      subst (λ x. Found (before_drop pairs positions forest) x p.1 j) c.parent
      (find_at (grown pairs positions forest) j p.1 (moved pairs positions c.e) (old_at j c.e c.is_e)
      (leads_to pairs positions c.e.set k p at (subst (λ x. has c.e.set x ≡ true) (sym old) c.has_q) new)
      (subst (λ x. OlderThan x j) (sym c.parent) l)
      (subst (λ x. In (before_drop pairs positions forest) x p.1) (sym c.parent) inside))

  pub find_enter : (i q k : ℕ) (f : Entry) (p : Pair) → slice_get forest i ≡ Some f → has f.set q ≡ true
      → slice_get pairs k ≡ Some p → p.0 ≡ q → p.2 ≡ true → has positions p.1 ≡ true →
      In (before_drop pairs positions forest) (Some i) p.1
      → Found (before_drop pairs positions forest) (Some i) p.1 (length forest + i)
  find_enter i q k f p h m at old progress new inside =
      let n = new_at i f h in
      let pr = filter_get (λ x. x.2) pairs k p at progress in
      subst (λ x. Found (before_drop pairs positions forest) x p.1 (length forest + i)) n.2
      (find_at (grown pairs positions forest) (length forest + i) p.1 n.0 n.1
      (subst (λ s. has s p.1 ≡ true) (sym n.3) (leads_to (progressing pairs) positions f.set pr.0 p pr.1
      (subst (λ x. has f.set x ≡ true) (sym old) m) new))
      (subst (λ x. OlderThan x (length forest + i)) (sym n.2) (omega (arith, slice_get_within forest i f h)))
      (subst (λ x. In (before_drop pairs positions forest) x p.1) (sym n.2) inside))

  pub find_cover : (q : ℕ) → has positions q ≡ true
      → Found (before_drop pairs positions forest) None q (length forest + length forest)
  find_cover q m = find_at (grown pairs positions forest) (length forest + length forest) q (top positions)
      top_at m tt tt

above_before : (p j : ℕ) (event : Event) → IsAbove p event → j ≤ p → IsBefore event j
above_before p j (Dies k) a l = omega arith
above_before p j (Green k) a l = omega arith
above_before p j Nothing a l = tt

abbrev pub NoDeath : ℕ → Event → Type 0
NoDeath j event = (k : ℕ) → event ≡ Dies k → j < k

-- after a step a child of o has q
pub record Followed (next : List Entry) (event : Event) (o : Option ℕ) (q j : ℕ) : Type 0 where
  pub place : ℕ
  pub no_later : place ≤ j
  pub child : ChildIn next o q place
  pub no_death : place ≡ j → NoDeath j event

-- a trimmed child's parent is kept
pub parent_kept_too : (entries : List Entry) (i p q : ℕ) (e : Entry) → slice_get (trim entries) i ≡ Some e
    → e.parent ≡ Some p → has e.set q ≡ true → is_kept (trim entries) i ≡ true → is_kept (trim entries) p ≡ true
parent_kept_too entries i p q e h a m k =
    let t = trim_at entries i e h in
    let l = t.older q p m a in
    let o = t.inside q p m a in
    let nl = or_parts (is_full (trim entries) p) (is_lost (trim entries) p)
    (sym (lost_at (trim entries) i p e h a l) ∙ (kept_parts (trim entries) i k).1) in
    kept_from (trim entries) p (subst (λ s. is_filled s ≡ true) (sym (set_at_is (trim entries) p o.0 o.1))
    (has_filled o.0.set q o.2)) nl.1

same_old : (keep : ℕ → Bool) (a b : Option ℕ) → ((p : ℕ) → a ≡ Some p → keep p ≡ true)
    → ((p : ℕ) → b ≡ Some p → keep p ≡ true) → renumbered keep a ≡ renumbered keep b → a ≡ b
same_old keep None None ka kb e = refl
same_old keep None (Some p) ka kb e = absurd (let e' : None ≡ Some (rank keep p) = e in cc)
same_old keep (Some p) None ka kb e = absurd (let e' : Some (rank keep p) ≡ None = e in cc)
same_old keep (Some p) (Some r) ka kb e = ap Some (rank_one keep p r (ka p refl) (kb r refl)
    (let e' : Some (rank keep p) ≡ Some (rank keep r) = e in cc))

module _ (pairs : List Pair) (positions : List ℕ) (forest : List Entry) where
  clear_at : (p q : ℕ) → In forest (Some p) q → IsAbove p (event_of pairs positions forest) → (j : ℕ) → j ≤ p →
      (is_kept (before_drop pairs positions forest) j ≡ true)
      × (is_green (before_drop pairs positions forest) j ≡ false)
  clear_at p q m a j l =
      (event_facts (before_drop pairs positions forest) 0 (length forest)).clear j (omega arith)
      (omega (arith, slice_get_within forest p m.0 m.1)) (above_before p j (event_of pairs positions forest) a l)

  stable : (o : Option ℕ) (q : ℕ) → In forest o q → AboveOf o (event_of pairs positions forest)
      → IsStable (before_drop pairs positions forest) o
  stable None q m a = tt
  stable (Some p) q m a = clear_at p q m a p (le_refl p)

  rank_stays : (p q : ℕ) → In forest (Some p) q → IsAbove p (event_of pairs positions forest)
      → rank (is_kept (before_drop pairs positions forest)) p ≡ p
  rank_stays p q m a = rank_all (is_kept (before_drop pairs positions forest)) p
      (λ j l. (clear_at p q m a j (omega arith)).0)

  renumbered_stays : (o : Option ℕ) (q : ℕ) → In forest o q → AboveOf o (event_of pairs positions forest)
      → renumbered (is_kept (before_drop pairs positions forest)) o ≡ o
  renumbered_stays None q m a = refl
  renumbered_stays (Some p) q m a = ap Some (rank_stays p q m a)

  in_trim : (o : Option ℕ) (q r : ℕ) → In forest o q → AboveOf o (event_of pairs positions forest)
      → In (next_forest pairs positions forest) o r → In (before_drop pairs positions forest) o r
  in_trim None q r m a h = tt
  in_trim (Some p) q r m a h =
      let s = settled_at (before_drop pairs positions forest) p h.0 h.1 in
      let i_is : s.i ≡ p = rank_one (is_kept (before_drop pairs positions forest)) s.i p s.kept
      (clear_at p q m a p (le_refl p)).0 (sym s.rank_is ∙ sym (rank_stays p q m a)) in (
        s.from,
        subst (λ i. slice_get (before_drop pairs positions forest) i ≡ Some s.from) i_is s.is_from,
        subst (λ x. has x r ≡ true) s.set h.2,
      )

  after_found : (o : Option ℕ) (q r j : ℕ) → In forest o q → AboveOf o (event_of pairs positions forest)
      → Found (before_drop pairs positions forest) o r j →
      Followed (next_forest pairs positions forest) (event_of pairs positions forest) o r j
  after_found o q r j m a f =
      let k = kept_child (grown pairs positions forest) f.j r f.e o f.is_e f.parent f.has_q (stable o q m a) in
      let c = child_after (before_drop pairs positions forest) f.j r f.e o k f.is_e f.parent f.has_q in
      record {
        place = rank (is_kept (before_drop pairs positions forest)) f.j;
        no_later = omega (arith, rank_le (is_kept (before_drop pairs positions forest)) f.j, f.no_later);
        child = subst (λ x. ChildIn (next_forest pairs positions forest) x r
            (rank (is_kept (before_drop pairs positions forest)) f.j)) (renumbered_stays o q m a) c;
        no_death = λ e k' ev. no_death_by f.j k (rank_le (is_kept (before_drop pairs positions forest)) f.j)
            f.no_later e k' ev;
      }
    where
      no_death_by : (i : ℕ) → is_kept (before_drop pairs positions forest) i ≡ true
          → rank (is_kept (before_drop pairs positions forest)) i ≤ i → i ≤ j →
          rank (is_kept (before_drop pairs positions forest)) i ≡ j → (k' : ℕ)
          → event_of pairs positions forest ≡ Dies k' → j < k'
      no_death_by i kept le l e k' ev =
          let d = (event_facts (before_drop pairs positions forest) 0 (length forest)).dies k' ev in
          elim (cases_lt j k') [
            | inl less ↦ less
            | inr no' ↦ absurd (elim (cases_eq k' i) [
              | inl same ↦ both_ways (is_kept (before_drop pairs positions forest) k') d.2
                  (subst (λ x. is_kept (before_drop pairs positions forest) x ≡ true) (sym same) kept)
              | inr other ↦ both_ways (is_kept (before_drop pairs positions forest) k') d.2
                  (rank_full (is_kept (before_drop pairs positions forest)) i k' (omega arith) (omega arith))
            ])
          ]

  pub step_follow : (o : Option ℕ) (q j k : ℕ) (p : Pair) → ChildIn forest o q j → slice_get pairs k ≡ Some p → p.0 ≡ q
      → has positions p.1 ≡ true → OlderThan o j →
      In forest o q → AboveOf o (event_of pairs positions forest) → In (next_forest pairs positions forest) o p.1 →
      Followed (next_forest pairs positions forest) (event_of pairs positions forest) o p.1 j
  step_follow o q j k p c at old new l m a inside =
      after_found o q p.1 j m a (find_follow pairs positions forest o q j k p c at old new l
      (in_trim o q p.1 m a inside))

  pub step_enter : (i q k : ℕ) (p : Pair) → slice_get pairs k ≡ Some p → p.0 ≡ q → p.2 ≡ true
      → has positions p.1 ≡ true →
      In forest (Some i) q → IsAbove i (event_of pairs positions forest)
      → In (next_forest pairs positions forest) (Some i) p.1 →
      (j : ℕ) × ChildIn (next_forest pairs positions forest) (Some i) p.1 j
  step_enter i q k p at old progress new m a inside =
      let r = after_found (Some i) q p.1 (length forest + i) m a
      (find_enter pairs positions forest i q k m.0 p m.1 m.2 at old progress new
      (in_trim (Some i) q p.1 m a inside)) in
      (r.place, r.child)

  pub step_cover : (q : ℕ) → has positions q ≡ true → (j : ℕ) × ChildIn (next_forest pairs positions forest) None q j
  step_cover q m =
      let f = find_cover pairs positions forest q m in
      let k = kept_child (grown pairs positions forest) f.j q f.e None f.is_e f.parent f.has_q tt in (
        rank (is_kept (before_drop pairs positions forest)) f.j,
        child_after (before_drop pairs positions forest) f.j q f.e None k f.is_e f.parent f.has_q,
      )

  -- siblings are disjoint, and a child is younger
  pub next_apart : (o : Option ℕ) (q i j : ℕ) → ChildIn (next_forest pairs positions forest) o q i
      → ChildIn (next_forest pairs positions forest) o q j → i ≡ j
  next_apart o q i j a b =
      let s = settled_at (before_drop pairs positions forest) i a.e a.is_e in
      let t = settled_at (before_drop pairs positions forest) j b.e b.is_e in
      let sq : has s.from.set q ≡ true = subst (λ x. has x q ≡ true) s.set a.has_q in
      let tq : has t.from.set q ≡ true = subst (λ x. has x q ≡ true) t.set b.has_q in
      let same : s.from.parent ≡ t.from.parent = same_old (is_kept (before_drop pairs positions forest))
      s.from.parent t.from.parent
      (λ p e. parent_kept_too (grown pairs positions forest) s.i p q s.from s.is_from e sq s.kept)
      (λ p e. parent_kept_too (grown pairs positions forest) t.i p q t.from t.is_from e tq t.kept)
      (sym s.parent ∙ (a.parent ∙ (sym b.parent ∙ t.parent))) in
      s.rank_is ∙ (ap (rank (is_kept (before_drop pairs positions forest)))
      (elim (cases_order s.i t.i) [
        | inl e ↦ e
        | inr (inl l) ↦ absurd ((trim_at (grown pairs positions forest)
            t.i t.from t.is_from).apart q s.i s.from tq l s.is_from same sq)
        | inr (inr l) ↦ absurd ((trim_at (grown pairs positions forest)
            s.i s.from s.is_from).apart q t.i t.from sq l t.is_from (sym same) tq)
      ]) ∙ sym t.rank_is)

  pub next_older : (o : Option ℕ) (q j : ℕ) → ChildIn (next_forest pairs positions forest) o q j → OlderThan o j
  next_older None q j c = tt
  next_older (Some p) q j c =
      let s = settled_at (before_drop pairs positions forest) j c.e c.is_e in
      let sq : has s.from.set q ≡ true = subst (λ x. has x q ≡ true) s.set c.has_q in
      let r = renumbered_is (is_kept (before_drop pairs positions forest)) s.from.parent p (sym s.parent ∙ c.parent) in
      let l = (trim_at (grown pairs positions forest) s.i s.from s.is_from).older q r.0 sq r.1 in
      omega (
        arith,
        s.rank_is,
        r.2,
        rank_less (is_kept (before_drop pairs positions forest)) r.0 s.i
            (parent_kept_too (grown pairs positions forest) s.i r.0 q s.from s.is_from r.1 sq s.kept) l,
      )
