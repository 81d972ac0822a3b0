-- What atoms give with the base pairs of a table.
use Rattle.std.proofs.Common.{◌≡◌, ◌↔◌, ℕ, zero, suc, ◌<◌, take, arith, List, [], ◌∷◌, length, sym, refl, subst, inl}
use Rattle.heap_formula.specs.declared.atoms.Pure.{Pure}
use Rattle.heap_formula.specs.declared.atoms.Spatial.{Spatial}
use Rattle.heap_formula.specs.declared.atoms.Spatial.TheVariants.{Cell, Pred}
use Rattle.pair_family.specs.BasePairs.{BasePair, no_pair}
use Rattle.pair_family.specs.Combination.{Choice, next}
use Rattle.pair_family.specs.Family.{CaseGives, IsChosen, IsChosenAt}
use Rattle.pair_family.specs.Reordering.{families_of}
use Rattle.pair_family.specs.States.{IsChosenBy}
use Rattle.pair_family.specs.Tables.{Table, in_table, pairs_of}
use Rattle.cyc_basics.specs.Words.{IsMember}
use Rattle.sat_pairs.specs.Numbers.{cell_pair_alone}
use Rattle.sat_pairs.specs.Atoms.{atom_pairs, lists_of, AtomsGive, HasSome}
use Rattle.pair_family.proofs.Complete.{cons_choice}
use Rattle.sat_pairs.proofs.Steps.{of_list, HasCellPair}

module _ (table : Table) (cell : List BasePair) where
  -- ---- cells have their base pair

  pub atom_cell : (x : Spatial) → cell ≡ cell_pair_alone → HasCellPair x (atom_pairs table cell x)
  atom_cell (Cell t ts) e = e
  atom_cell (Pred p ts) e = tt

  -- ---- what is chosen for an atom is of its base pairs

  atom_out : (x : Spatial) (b : BasePair) → IsChosenAt (of_list (atom_pairs table cell x)) b x
      → IsChosenAt (in_table table) b x
  atom_out (Cell t ts) b m = tt
  atom_out (Pred p ts) b m = m

  atom_in : (x : Spatial) (b : BasePair) → IsChosenAt (in_table table) b x
      → IsChosenAt (of_list (atom_pairs table cell x)) b x
  atom_in (Cell t ts) b m = tt
  atom_in (Pred p ts) b m = m

  chosen_out : (xs : List Spatial) (cs : Choice) → IsChosenBy (families_of (lists_of table cell xs)) cs xs
      → IsChosen (in_table table) cs xs
  chosen_out [] cs c = tt
  chosen_out (x ∷ xs) cs c = (atom_out x (cs 0) c.0, chosen_out xs (next cs) c.1)

  chosen_in : (xs : List Spatial) (cs : Choice) → IsChosen (in_table table) cs xs
      → IsChosenBy (families_of (lists_of table cell xs)) cs xs
  chosen_in [] cs c = tt
  chosen_in (x ∷ xs) cs c = (atom_in x (cs 0) c.0, chosen_in xs (next cs) c.1)

  pub atoms_give : (k : ℕ) (ps : List Pure) (d : BasePair) (xs : List Spatial) → AtomsGive table cell k ps d xs
      ↔ CaseGives (in_table table) k d (record { pure = ps; spatial = xs })
  atoms_give k ps d xs = (
    λ g. record {
      chosen = g.chosen;
      from_family = chosen_out xs g.chosen g.from_families;
      consistent = g.consistent;
      projected = g.projected;
    },
    λ c. record {
      chosen = c.chosen;
      from_families = chosen_in xs c.chosen c.from_family;
      consistent = c.consistent;
      projected = c.projected;
    },
  )

  -- ---- the first atoms

  pub first_out : (n : ℕ) (xs : List Spatial) (cs : Choice)
      → IsChosenBy (families_of (lists_of table cell xs)) cs (take n xs) → IsChosen (in_table table) cs (take n xs)
  first_out n [] cs c = elim n as (λ n. IsChosenBy (families_of (lists_of table cell [])) cs (take n [])
      → IsChosen (in_table table) cs (take n [])) [ zero ↦ λ c. tt | suc n ↦ λ c. tt ] c
  first_out zero (x ∷ xs) cs c = tt
  first_out (suc n) (x ∷ xs) cs c = (atom_out x (cs 0) c.0, first_out n xs (next cs) c.1)

  pub first_in : (n : ℕ) (xs : List Spatial) (cs : Choice) → IsChosen (in_table table) cs (take n xs)
      → IsChosenBy (families_of (lists_of table cell xs)) cs (take n xs)
  first_in n [] cs c = elim n as (λ n. IsChosen (in_table table) cs (take n [])
      → IsChosenBy (families_of (lists_of table cell [])) cs (take n [])) [ zero ↦ λ c. tt | suc n ↦ λ c. tt ] c
  first_in zero (x ∷ xs) cs c = tt
  first_in (suc n) (x ∷ xs) cs c = (atom_in x (cs 0) c.0, first_in n xs (next cs) c.1)

  -- ---- some base pair for each

  first_of_some : (bs : List BasePair) → 0 < length bs → (b : BasePair) × IsMember b bs
  first_of_some [] l = absurd (omega arith)
  first_of_some (b ∷ bs) l = (b, inl refl)

  some_there : (bs : List BasePair) (b : BasePair) → IsMember b bs → 0 < length bs
  some_there [] b m = absurd m
  some_there (c ∷ bs) b m = omega arith

  one_chosen : (x : Spatial) → 0 < length (atom_pairs table cell x) → (b : BasePair) × IsChosenAt (in_table table) b x
  one_chosen (Cell t ts) l = (no_pair, tt)
  one_chosen (Pred p ts) l = first_of_some (pairs_of table p) l

  pub some_chosen : (xs : List Spatial) → HasSome table cell xs → (cs : Choice) × IsChosen (in_table table) cs xs
  some_chosen [] h = ((λ k. no_pair), tt)
  some_chosen (x ∷ xs) h =
      let b = one_chosen x h.0 in
      let r = some_chosen xs h.1 in
      (cons_choice b.0 r.0, (b.1, r.1))

  chosen_one : (x : Spatial) (b : BasePair) → cell ≡ cell_pair_alone → IsChosenAt (in_table table) b x
      → 0 < length (atom_pairs table cell x)
  chosen_one (Cell t ts) b is c = subst (λ z. 0 < length z) (sym is) (omega arith)
  chosen_one (Pred p ts) b is c = some_there (pairs_of table p) b c

  pub chosen_some : (xs : List Spatial) (cs : Choice) → cell ≡ cell_pair_alone → IsChosen (in_table table) cs xs
      → HasSome table cell xs
  chosen_some [] cs is c = tt
  chosen_some (x ∷ xs) cs is c = (chosen_one x (cs 0) is c.0, chosen_some xs (next cs) is c.1)
