-- The countermodel of two lists with free tails: the stack 1, 0 and the cell 1 -> (0).
use Rattle.std.proofs.Common.{◌≡◌, ◌⊎◌, ℕ, zero, suc, List, [], ◌∷◌, Some, None, refl, subst, arith, inl, inr}
use Rattle.std.specs.Ordering.{nat_cmp}
use Rattle.std.specs.FinMap.{get-empty}
use Rattle.heap_formula.specs.Definitions.{Definition}
use Rattle.heap_formula.specs.Cells.{cell_at, no_cells, one_cell}
use Rattle.heap_formula.specs.Meaning.{at_stage, Satisfies, EntailmentHolds}
use Rattle.heap_formula.proofs.Unions.{union_empty}
use Rattle.heap_formula.proofs.Insertions.{one_cell_has}
use Rattle.fo_logic.specs.Samples.{two_locals, two_of_them}
use Rattle.heap_formula.specs.Symbolic.{emp}

pub empty_entails : (ds : List Definition) → EntailmentHolds ds emp (emp ∷ [])
empty_entails ds s h a = inl (a.0, ([], a.1.1))

none_at_nil : at_stage two_locals 1 0 (0 ∷ []) no_cells
none_at_nil = inl ([], ((refl, tt), refl))

one_at_one : at_stage two_locals 2 0 (1 ∷ []) (one_cell 1 (0 ∷ []))
one_at_one =
    inr (inl (
      0 ∷ 0 ∷ [],
      (
        tt,
        record {
          part = one_cell 1 (0 ∷ []);
          rest = no_cells;
          union = union_empty _;
          first = (omega arith, omega arith, refl);
          others = record {
            part = no_cells;
            rest = no_cells;
            union = union_empty no_cells;
            first = none_at_nil;
            others = refl;
          };
        },
      ),
    ))

abbrev stages : ℕ → ℕ
stages zero = 2
stages (suc k) = 1

antecedent_holds : Satisfies two_locals (1 ∷ 0 ∷ []) (one_cell 1 (0 ∷ [])) two_of_them
antecedent_holds = (
  stages,
  (
    [],
    (
      tt,
      record {
        part = one_cell 1 (0 ∷ []);
        rest = no_cells;
        union = union_empty _;
        first = one_at_one;
        others = record {
          part = no_cells;
          rest = no_cells;
          union = union_empty no_cells;
          first = none_at_nil;
          others = refl;
        };
      },
    ),
  ),
)

cell_is_not_empty : (one_cell 1 (0 ∷ [])) ≡ no_cells → ⊥
cell_is_not_empty e =
    let moved : cell_at no_cells 1 ≡ Some (0 ∷ []) = subst (λ g. cell_at g 1 ≡ Some (0 ∷ [])) e
    (one_cell_has 1 (0 ∷ [])) in
    let none : cell_at no_cells 1 ≡ None = get-empty nat_cmp 1 in
    cc

pub not_empty : ¬ EntailmentHolds two_locals two_of_them (emp ∷ [])
not_empty t = refuted (t (1 ∷ 0 ∷ []) (one_cell 1 (0 ∷ [])) antecedent_holds)
  where
    refuted : (Satisfies two_locals (1 ∷ 0 ∷ []) (one_cell 1 (0 ∷ [])) emp ⊎ ⊥) → ⊥
    refuted (inl a) = cell_is_not_empty a.1.1.1
    refuted (inr o) = o
