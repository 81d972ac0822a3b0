-- A case whose atoms pass the limit is large.
use Rattle.std.proofs.Common.{◌≡◌, ◌↔◌, ℕ, inl, inr, List, [], ◌∷◌, ◌<◌, take, sym, subst, arith}
use Rattle.heap_formula.specs.declared.atoms.Pure.{Pure}
use Rattle.heap_formula.specs.declared.atoms.Spatial.{Spatial}
use Rattle.heap_formula.specs.Symbolic.{SymbolicHeap}
use Rattle.heap_formula.specs.Words.{Each}
use Rattle.pair_family.specs.BasePairs.{BasePair}
use Rattle.pair_family.specs.Combination.{AreConsistent, Choice, pure_facts}
use Rattle.pair_family.specs.Family.{CaseGives, IsChosen}
use Rattle.pair_family.specs.Folding.{FoldsTo}
use Rattle.pair_family.specs.Frames.{frames_of}
use Rattle.pair_family.specs.JoinOrder.{join_order}
use Rattle.pair_family.specs.LargeCases.{HasMore, IsLarge, IsStateAfter, sizes}
use Rattle.pair_family.specs.Reordering.{families_of}
use Rattle.pair_family.specs.States.{IsReached}
use Rattle.pair_family.specs.Tables.{Table, in_table}
use Rattle.cyc_basics.specs.Words.{IsMember}
use Rattle.pair_family.proofs.Large.{first_says, says_first, start_of, more_imply}
use Rattle.sat_pairs.specs.CaseStates.{Passes}
use Rattle.sat_pairs.specs.Numbers.{cell_pair_alone}
use Rattle.sat_pairs.specs.Atoms.{HasSome, lists_of}
use Rattle.sat_pairs.proofs.AtomLists.{chosen_some, first_in, first_out, some_chosen}

module _ (table : Table) (cell : List BasePair) (k : ℕ) (ps : List Pure) (xs : List Spatial) where
  abbrev start : BasePair
  start = start_of k ps xs

  abbrev Reached : ℕ → BasePair → Type 0
  Reached n d = IsReached (families_of (lists_of table cell xs)) (frames_of k xs) (start ∷ []) (take n xs) d

  reached_after : AreConsistent (pure_facts ps) → (n : ℕ) (d : BasePair) → Reached n d
      → IsStateAfter (in_table table) k ps xs n d
  reached_after first n d r =
      let b : start ≡ r.0 = elim r.1 [ inl s ↦ s | inr no' ↦ absurd no' ] in
      let bs = r.2.0 in
      let folds = subst (λ z. FoldsTo (frames_of k xs) z bs (take n xs) d) (sym b) r.2.2 in
      let s = first_says k ps xs n bs d first folds in
      record { chosen = bs; from_family = first_out table cell n xs bs r.2.1; consistent = s.0; said = s.1 }

  after_reached : (n : ℕ) (d : BasePair) → IsStateAfter (in_table table) k ps xs n d
      → Reached n d
  after_reached n d s =
      let f = says_first k ps xs n s.chosen d s.consistent s.said in
      (start, inl (λ i. start), (s.chosen, first_in table cell n xs s.chosen s.from_family, f.1))

  after_first : (n : ℕ) (d : BasePair) → IsStateAfter (in_table table) k ps xs n d → AreConsistent (pure_facts ps)
  after_first n d s = (says_first k ps xs n s.chosen d s.consistent s.said).0

  abbrev After : ℕ → BasePair → Type 0
  After n d = IsStateAfter (in_table table) k ps xs n d

  -- more than some number are not none
  some_of : (most : ℕ) (P : BasePair → Type 0) → HasMore most P → (d : BasePair) × P d
  some_of most P h = by h.list h.are h.more
    where
      by : (list : List BasePair) → Each P list → most < sizes list → (d : BasePair) × P d
      by [] a l = absurd (omega arith)
      by (d ∷ list) a l = (d, a.0)

  pub passes_after : (most : ℕ) → Passes most (families_of (lists_of table cell xs)) k ps xs
      → (n : ℕ) × HasMore most (After n)
  passes_after most p = (p.1.0, more_imply most (Reached p.1.0) (After p.1.0) (reached_after p.0 p.1.0) p.1.1)

  pub after_passes : (most : ℕ) (n : ℕ) → HasMore most (After n)
      → Passes most (families_of (lists_of table cell xs)) k ps xs
  after_passes most n h =
      let one = some_of most (After n) h in
      (after_first n one.0 one.1, (n, more_imply most (After n) (Reached n) (after_reached n) h))

-- atoms in the order of a join are those of a case
module _ (table : Table) (cell : List BasePair) (k most : ℕ) (a : SymbolicHeap) (xs : List Spatial)
    (order : xs ≡ join_order k a.spatial) where
  pub passes_large : HasSome table cell a.spatial → Passes most (families_of (lists_of table cell xs)) k a.pure xs
      → IsLarge most (in_table table) k a
  passes_large some p =
      let c = some_chosen table cell a.spatial some in
      let h = passes_after table cell k a.pure xs most p in
      record {
        chosen = c.0;
        from_family = c.1;
        taken = h.0;
        more = subst (λ z. HasMore most (IsStateAfter (in_table table) k a.pure z h.0)) order h.1;
      }

  pub large_passes : IsLarge most (in_table table) k a → Passes most (families_of (lists_of table cell xs)) k a.pure xs
  large_passes l =
      after_passes table cell k a.pure xs most l.taken
      (subst (λ z. HasMore most (IsStateAfter (in_table table) k a.pure z l.taken)) (sym order) l.more)

-- a case with an atom without base pairs is not large, and gives nothing
module _ (table : Table) (cell : List BasePair) (k : ℕ) (a : SymbolicHeap) (is : cell ≡ cell_pair_alone)
    (none : ¬ HasSome table cell a.spatial) where
  none_chosen : (cs : Choice) → IsChosen (in_table table) cs a.spatial → ⊥
  none_chosen cs c = none (chosen_some table cell a.spatial cs is c)

  pub none_given : (keys : List BasePair) → keys ≡ [] → (d : BasePair) → IsMember d keys
      ↔ CaseGives (in_table table) k d a
  none_given keys e d = (λ m. absurd (subst (IsMember d) e m), λ c. absurd (none_chosen c.chosen c.from_family))

  pub none_large : (most : ℕ) → ¬ IsLarge most (in_table table) k a
  none_large most l = none_chosen l.chosen l.from_family
