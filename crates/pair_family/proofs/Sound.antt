-- A consistent combination of base pairs of the family has a stack and a heap: each base pair of the family is realised
-- over all values that respect it, with all other addresses past any bound.
use Rattle.std.proofs.Common.{◌≡◌, ◌≢◌, ℕ, suc, ◌+◌, ◌<◌, ◌≤◌, max, ◌⊎◌, inl, inr, List, [], ◌∷◌, ◌++◌, map, Bool, true}
use Rattle.std.proofs.Common.{false, cond, Some, None, arith, sym, refl, ap, ◌∙◌, subst}
use Rattle.std.specs.Ordering.{nat_cmp, eq_by_cmp}
use Rattle.std.specs.Cmp.{nat_cmp_total}
use Rattle.std.specs.FinMap.{empty, get-insert, get-empty}
use Rattle.std.proofs.lemmas.List.{length-map}
use Rattle.heap_formula.specs.declared.terms.Term.{Term}
use Rattle.heap_formula.specs.declared.atoms.Spatial.{Spatial}
use Rattle.heap_formula.specs.declared.atoms.Spatial.TheVariants.{Cell, Pred}
use Rattle.heap_formula.specs.Definitions.{Definition}
use Rattle.heap_formula.specs.Words.{Each}
use Rattle.heap_formula.specs.Values.{Stack, value, values}
use Rattle.heap_formula.specs.Cells.{Cells, cell_at, no_cells, one_cell}
use Rattle.heap_formula.specs.Meaning.{AtomHolds, SpatialHolds, at_stage}
use Rattle.heap_formula.proofs.StageLaws.{atom_within, spatial_within, stage_le}
use Rattle.pair_family.specs.BasePairs.{BasePair, element, entry, Respects}
use Rattle.pair_family.specs.Combination.{Two, Choice, next, atom_equations, atom_differences, atom_addresses}
use Rattle.pair_family.specs.Combination.{spatial_equations, spatial_differences, addresses, each_two}
use Rattle.pair_family.specs.Family.{PairFamily, IsChosenAt, IsChosen}
use Rattle.pair_family.specs.Closedness.{HasFields}
use Rattle.pair_family.proofs.Lists.{at_each, in_left, in_right, in_map, map_in}
use Rattle.cyc_basics.specs.Words.{IsMember}
use Rattle.pair_family.proofs.Two.{append_two_cross, append_two_right}
use Rattle.pair_family.proofs.Joining.{Has, Both, has_both, joins_from, union_of}
use Rattle.pair_family.proofs.Complete.{entry_value}
use Rattle.heap_formula.proofs.Insertions.{same_address}

-- a stage and a heap of which M holds; its addresses are among some, or past a bound
pub record Built (M : ℕ → Cells → Type 0) (w : ℕ) (among : List ℕ) : Type 0 where
  pub stage : ℕ
  pub heap : Cells
  pub top : ℕ
  pub holds : M stage heap
  pub below : (a : ℕ) → Has (cell_at heap a) → a < top
  pub found : (a : ℕ) → Has (cell_at heap a) → IsMember a among ⊎ (w ≤ a)

-- the base pair is realised over all values that respect it
abbrev pub IsRealised : List Definition → ℕ → BasePair → Type 0
IsRealised ds p b = (vs : List ℕ) (w : ℕ) → Respects b vs → Built (λ n. at_stage ds n p vs) w (map (entry vs) b.cells)

cond_some : (b : Bool) (vs : List ℕ) → Has (cond b (Some vs) None) → b ≡ true
cond_some true vs h = refl
cond_some false vs h = absurd h

one_cell_at : (a : ℕ) (vs : List ℕ) (q : ℕ) → Has (cell_at (one_cell a vs) q) → q ≡ a
one_cell_at a vs q h =
    let g : cell_at (one_cell a vs) q ≡ cond (eq_by_cmp nat_cmp q a) (Some vs)
    None = get-insert nat_cmp_total empty a vs q ∙ ap (cond (eq_by_cmp nat_cmp q a) (Some vs)) (get-empty nat_cmp q)
    in
    same_address q a (cond_some (eq_by_cmp nat_cmp q a) vs (subst Has g h))

no_cell_at : (q : ℕ) → Has (cell_at no_cells q) → ⊥
no_cell_at q h = subst Has (get-empty nat_cmp q) h

module _ (ds : List Definition) (G : PairFamily) (R : (p : ℕ) (b : BasePair) → G p b → IsRealised ds p b) (s e : Stack)
  where
    build_atom : (x : Spatial) (b : BasePair) → IsChosenAt G b x → HasFields x
        → ((q : Two) → IsMember q (atom_equations b x) → value s e q.0 ≡ value s e q.1)
        → ((q : Two) → IsMember q (atom_differences b x) → value s e q.0 ≢ value s e q.1)
        → ((t : Term) → IsMember t (atom_addresses b x) → 0 < value s e t) → (w : ℕ)
        → Built (λ n. AtomHolds (at_stage ds n) s e x) w (map (value s e) (atom_addresses b x))
    build_atom (Cell t ts) b m fields equal differ positive w = record {
      stage = 0;
      heap = one_cell (value s e t) (values s e ts);
      top = suc (value s e t);
      holds = (positive t (inl refl), (let l = length-map ts (value s e) in omega arith), refl);
      below = λ a h. let r = one_cell_at (value s e t) (values s e ts) a h in omega arith;
      found = λ a h. inl (inl (sym (one_cell_at (value s e t) (values s e ts) a h)));
    }
    build_atom (Pred p ts) b m fields equal differ positive w =
        let at = λ (i : ℕ). entry_value s e ts i in
        let respects : Respects b (values s e ts) = record {
          equal = at_each (λ q. entry (values s e ts) q.0 ≡ entry (values s e ts) q.1) b.same
              (λ q i. at q.0 ∙ equal (element ts q.0, element ts q.1)
              (in_map (λ q. (element ts q.0, element ts q.1)) q b.same i) ∙ sym (at q.1));
          apart = at_each (λ q. entry (values s e ts) q.0 ≢ entry (values s e ts) q.1) b.differ
              (λ q i o. differ (element ts q.0, element ts q.1)
              (in_map (λ q. (element ts q.0, element ts q.1)) q b.differ i) (sym (at q.0) ∙ o ∙ at q.1));
        } in
        let r = R p b m (values s e ts) w respects in
        record {
          stage = r.stage;
          heap = r.heap;
          top = r.top;
          holds = r.holds;
          below = r.below;
          found = λ a h. elim (r.found a h) [
            | inl i ↦
                (let c = map_in (entry (values s e ts)) a b.cells i in
                inl (subst (λ z. IsMember z (map (value s e) (map (element ts) b.cells))) (sym (at c.0) ∙ c.2)
                (in_map (value s e) (element ts c.0) (map (element ts) b.cells)
                (in_map (element ts) c.0 b.cells c.1))))
            | inr l ↦ inr l
          ];
        }

    pub build_list : (xs : List Spatial) (bs : Choice) → IsChosen G bs xs → Each HasFields xs
        → ((q : Two) → IsMember q (spatial_equations bs xs) → value s e q.0 ≡ value s e q.1)
        → ((q : Two) → IsMember q (spatial_differences bs xs) → value s e q.0 ≢ value s e q.1)
        → ((t : Term) → IsMember t (addresses bs xs) → 0 < value s e t)
        → ((q : Two) → IsMember q (each_two (addresses bs xs)) → value s e q.0 ≢ value s e q.1) → (w : ℕ)
        → ((t : Term) → IsMember t (addresses bs xs) → value s e t < w)
        → Built (λ n. SpatialHolds (λ _. at_stage ds n) s e xs) w (map (value s e) (addresses bs xs))
    build_list [] bs m fields equal differ positive apart w less = record {
      stage = 0;
      heap = no_cells;
      top = 0;
      holds = refl;
      below = λ a h. absurd (no_cell_at a h);
      found = λ a h. absurd (no_cell_at a h);
    }
    build_list (x ∷ xs) bs m fields equal differ positive apart w less =
        let cs = atom_addresses (bs 0) x in
        let ds' = addresses (next bs) xs in
        let l = build_atom x (bs 0) m.0 fields.0 (λ q i. equal q
        (in_left q (atom_equations (bs 0) x) (spatial_equations (next bs) xs) i))
        (λ q i. differ q (in_left q (atom_differences (bs 0) x) (spatial_differences (next bs) xs) i))
        (λ t i. positive t (in_left t cs ds' i)) w in
        let r = build_list xs (next bs) m.1 fields.1
        (λ q i. equal q (in_right q (atom_equations (bs 0) x) (spatial_equations (next bs) xs) i))
        (λ q i. differ q (in_right q (atom_differences (bs 0) x) (spatial_differences (next bs) xs) i))
        (λ t i. positive t (in_right t cs ds' i)) (λ q i. apart q (append_two_right q cs ds' i)) (max w l.top)
        (λ t i. let b = less t (in_right t cs ds' i) in omega arith) in
        let no_two : (a : ℕ) → Both (cell_at l.heap a) (cell_at r.heap a) → ⊥ = λ a both.
        let has = has_both (cell_at l.heap a) (cell_at r.heap a) both in
        let under = l.below a has.0 in
        elim (r.found a has.1) [
          | inl i ↦
              (let u = map_in (value s e) a ds' i in
              elim (l.found a has.0) [
                | inl j ↦ (let t = map_in (value s e) a cs j in
                    apart (t.0, u.0) (append_two_cross t.0 u.0 cs ds' t.1 u.1) (t.2 ∙ sym u.2))
                | inr past ↦ (let b = less u.0 (in_right u.0 cs ds' u.1) in let z = u.2 in absurd (omega arith))
              ])
          | inr past ↦ absurd (omega arith)
        ] in
        let whole = union_of l.heap r.heap no_two in
        let n = l.stage + r.stage in
        record {
          stage = n;
          heap = whole.0;
          top = max l.top r.top;
          holds = record {
            part = l.heap;
            rest = r.heap;
            union = whole.1;
            first = atom_within (at_stage ds l.stage) (at_stage ds n) (stage_le ds l.stage n (omega arith))
                s e x l.heap l.holds;
            others = spatial_within (λ _. at_stage ds r.stage) (λ _. at_stage ds n)
                (λ _. stage_le ds r.stage n (omega arith)) s e xs r.heap r.holds;
          };
          below = λ a h. elim (joins_from (cell_at l.heap a) (cell_at r.heap a) (cell_at whole.0 a) (whole.1.joins a) h) [
            | inl i ↦ (let b = l.below a i in omega arith)
            | inr i ↦ (let b = r.below a i in omega arith)
          ];
          found = λ a h. elim (joins_from (cell_at l.heap a) (cell_at r.heap a) (cell_at whole.0 a) (whole.1.joins a) h) [
            | inl i ↦ elim (l.found a i) [
              | inl j ↦ (let t = map_in (value s e) a cs j in inl
                  (subst (λ z. IsMember z (map (value s e) (cs ++ ds'))) t.2
                  (in_map (value s e) t.0 (cs ++ ds') (in_left t.0 cs ds' t.1))))
              | inr past ↦ inr past
            ]
            | inr i ↦ elim (r.found a i) [
              | inl j ↦ (let t = map_in (value s e) a ds' j in
                  inl (subst (λ z. IsMember z (map (value s e) (cs ++ ds'))) t.2
                  (in_map (value s e) t.0 (cs ++ ds') (in_right t.0 cs ds' t.1))))
              | inr past ↦ inr (omega arith)
            ]
          ];
        }
