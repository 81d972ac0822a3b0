-- Satisfiability by the base pairs of a table.
use Rattle.std.proofs.Common.{◌≡◌, ◌↔◌, inl, List, [], ◌∷◌, length, Bool, true, false, not, refl, arith}
use Rattle.std.specs.Prelude.{IsTrue}
use Rattle.std.proofs.lemmas.Bool.{both_ways}
use Rattle.heap_formula.specs.Symbolic.{SymbolicHeap}
use Rattle.heap_formula.specs.Definitions.{Definition}
use Rattle.heap_formula.specs.Words.{Each}
use Rattle.pair_family.specs.BasePairs.{BasePair}
use Rattle.pair_family.specs.Closedness.{HasFields, AreCases}
use Rattle.pair_family.specs.Combination.{projection}
use Rattle.pair_family.specs.Family.{CaseGives, InFamily, IsCombinable}
use Rattle.pair_family.specs.Statements.{IsSatisfiable}
use Rattle.pair_family.specs.Tables.{Table, in_table, IsTable}
use Rattle.cyc_basics.specs.Words.{IsMember}
use Rattle.pair_family.proofs.Rounds.{gives_within}
use Rattle.pair_family.proofs.Exact.{combinable_is_satisfiable}

module _ (ds : List Definition) (table : Table) (a : SymbolicHeap) (keys : List BasePair) (is : IsTable ds table)
    (given : (d : BasePair) → IsMember d keys ↔ CaseGives (in_table table) 0 d a) where
  combined_there : IsCombinable ds a → (d : BasePair) × IsMember d keys
  combined_there c =
      let d = projection 0 c.chosen a in
      let g : CaseGives (InFamily ds) 0 d a = record
      { chosen = c.chosen; from_family = c.from_family; consistent = c.consistent; projected = refl } in
      (d, (given d).1 (gives_within (InFamily ds) (in_table table) (λ p b. (is p b).1) 0 d a g))

  there_combined : (d : BasePair) → IsMember d keys → IsCombinable ds a
  there_combined d m =
      let g = gives_within (in_table table) (InFamily ds) (λ p b. (is p b).0) 0 d a ((given d).0 m) in
      record { chosen = g.chosen; from_family = g.from_family; consistent = g.consistent }

  none_there : (keys' : List BasePair) → length keys' ≡ 0 → (d : BasePair) → IsMember d keys' → ⊥
  none_there [] e d m = m
  none_there (k ∷ ks) e d m = absurd (omega arith)

  some_there : (keys' : List BasePair) → (length keys' ≡ 0 → ⊥) → (d : BasePair) × IsMember d keys'
  some_there [] n = absurd (n refl)
  some_there (k ∷ ks) n = (k, inl refl)

  pub satisfiable_is : AreCases ds → Each HasFields a.spatial → (e : Bool) → IsTrue e ↔ (length keys ≡ 0)
      → IsTrue (not e) ↔ IsSatisfiable ds a
  satisfiable_is closed fields true h = (
    λ b. absurd (both_ways false refl b),
    λ s. let c = (combinable_is_satisfiable ds a closed fields).1 s in
        let m = combined_there c in absurd (none_there keys (h.0 refl) m.0 m.1),
  )
  satisfiable_is closed fields false h = (
    λ b. let m = some_there keys (λ z. both_ways false refl (h.1 z)) in
        (combinable_is_satisfiable ds a closed fields).0 (there_combined m.0 m.1),
    λ s. refl,
  )
