-- The edges of a node to the nodes of its premises.
use Rattle.std.proofs.Common.{◌≡◌, ℕ, suc, ◌+◌, ◌≤◌, List, [], ◌∷◌, ◌++◌, append_assoc, length-append, arith, length}
use Rattle.std.proofs.Common.{drop, Some, slice_get, sym, ap, ◌∙◌}
use Rattle.heap_formula.specs.declared.judgements.NodeEdge.{NodeEdge}
use Rattle.heap_formula.specs.declared.judgements.Pair.{Pair}
use Rattle.heap_formula.specs.Edges.{edges_along}
use Rattle.cyc_basics.proofs.Places.{drop_get}

module _ {P : Type 0} (pairs : P → List Pair) where
  -- no more edges than premises
  pub edges_short : (ps : List P) (us : List ℕ) → length (edges_along pairs ps us) ≤ length ps
  edges_short [] us = omega arith
  edges_short (p ∷ ps) [] = omega arith
  edges_short (p ∷ ps) (u ∷ us) = let r = edges_short ps us in omega arith

  -- one turn of the loop over the premises
  pub edge_step : (edges pushed all : List NodeEdge) (rest next : List P) (us : List ℕ) (p : P) (u : ℕ)
      → rest ≡ p ∷ next → pushed ≡ edges ++ (record { target = u; pairs = pairs p } ∷ [])
      → slice_get us (length edges) ≡ Some u →
      (length edges + length rest ≡ length us) × (edges ++ edges_along pairs rest (drop (length edges) us) ≡ all)
      → (length pushed + length next ≡ length us) × (pushed ++ edges_along pairs next (drop (length pushed) us)
      ≡ all)
  edge_step edges pushed all rest next us p u is push at so_far =
      let size : length pushed ≡ suc (length edges) = ap length push ∙ length-append edges _ ∙ omega arith in (
        omega (arith, size, ap length is, so_far.0),
        (λ i. push i ++ edges_along pairs next (drop (size i) us))
            ∙ append_assoc edges (record { target = u; pairs = pairs p } ∷ [])
            (edges_along pairs next (drop (suc (length edges)) us))
            ∙ ap (λ (xs : List ℕ). edges ++ edges_along pairs (p ∷ next) xs) (sym (drop_get us (length edges) u at))
            ∙ ap (λ (ps : List P). edges ++ edges_along pairs ps (drop (length edges) us)) (sym is)
            ∙ so_far.1,
      )
