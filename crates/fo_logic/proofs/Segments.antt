-- The countermodel of acyclic segments: the stack 1, 2, 1 and the cells 1 -> (2), 2 -> (1).
use Rattle.std.proofs.Common.{◌≡◌, ◌≢◌, ◌⊎◌, ℕ, zero, suc, ◌<◌, [], ◌∷◌, Some, None, refl, sym, ◌∙◌, subst, arith, inl}
use Rattle.std.proofs.Common.{inr}
use Rattle.std.specs.Ordering.{nat_cmp}
use Rattle.std.specs.Cmp.{nat_cmp_total}
use Rattle.std.specs.FinMap.{insert, get-insert, get-empty}
use Rattle.heap_formula.specs.Cells.{Cells, cell_at, no_cells, one_cell, IsUnion}
use Rattle.heap_formula.specs.Meaning.{at_stage, Satisfies, EntailmentHolds}
use Rattle.heap_formula.proofs.Unions.{union_empty, empty_union, empty_union_same}
use Rattle.heap_formula.proofs.Insertions.{put_union, put_there}
use Rattle.fo_logic.specs.Samples.{acyclic_segments, two_segments, one_segment}

abbrev both : Cells
both = insert (one_cell 2 (1 ∷ [])) 1 (2 ∷ [])

-- an empty segment
nil_segment : (a : ℕ) → at_stage acyclic_segments 1 0 (a ∷ a ∷ []) no_cells
nil_segment a = inl ([], ((refl, tt), refl))

-- a segment of one cell
segment : (a b : ℕ) → 0 < a → a ≢ b → at_stage acyclic_segments 2 0 (a ∷ b ∷ []) (one_cell a (b ∷ []))
segment a b pos apart =
    inr (inl (
      b ∷ [],
      (
        (apart, tt),
        record {
          part = one_cell a (b ∷ []);
          rest = no_cells;
          union = union_empty _;
          first = (pos, omega arith, refl);
          others = record {
            part = no_cells;
            rest = no_cells;
            union = union_empty no_cells;
            first = nil_segment b;
            others = refl;
          };
        },
      ),
    ))

-- the two cells are apart
cells_join : IsUnion (one_cell 1 (2 ∷ [])) (one_cell 2 (1 ∷ [])) both
cells_join = put_union 1 (2 ∷ []) (get-insert nat_cmp_total no_cells 2 (1 ∷ []) 1 ∙ get-empty nat_cmp 1)
    (empty_union (one_cell 2 (1 ∷ [])))

antecedent_holds : Satisfies acyclic_segments (1 ∷ 2 ∷ 1 ∷ []) both two_segments
antecedent_holds = (
  λ _. 2,
  (
    [],
    (
      tt,
      record {
        part = one_cell 1 (2 ∷ []);
        rest = one_cell 2 (1 ∷ []);
        union = cells_join;
        first = segment 1 2 (omega arith) (λ e. omega (arith, e));
        others = record {
          part = one_cell 2 (1 ∷ []);
          rest = no_cells;
          union = union_empty _;
          first = segment 2 1 (omega arith) (λ e. omega (arith, e));
          others = refl;
        };
      },
    ),
  ),
)

not_empty : both ≢ no_cells
not_empty same =
    let moved : cell_at no_cells 1 ≡ Some (2 ∷ []) = subst (λ g. cell_at g 1 ≡ Some (2 ∷ [])) same
    (put_there (one_cell 2 (1 ∷ [])) 1 (2 ∷ [])) in
    let none : cell_at no_cells 1 ≡ None = get-empty nat_cmp 1 in
    cc

-- an acyclic segment from 1 to 1 is empty
no_round_segment : (n : ℕ) (h : Cells) → at_stage acyclic_segments n 0 (1 ∷ 1 ∷ []) h → h ≡ no_cells
no_round_segment zero h a = absurd a
no_round_segment (suc n) h (inl c) = c.1.1
no_round_segment (suc n) h (inr (inl c)) = absurd (c.1.0.0 refl)
no_round_segment (suc n) h (inr (inr c)) = absurd c

pub not_composing : ¬ EntailmentHolds acyclic_segments two_segments (one_segment ∷ [])
not_composing t = refuted (t (1 ∷ 2 ∷ 1 ∷ []) both antecedent_holds)
  where
    refuted : (Satisfies acyclic_segments (1 ∷ 2 ∷ 1 ∷ []) both one_segment ⊎ ⊥) → ⊥
    refuted (inl a) =
        let star = a.1.1.1 in
        let part_empty = no_round_segment (a.0 0) star.part star.first in
        let union : IsUnion no_cells star.rest both = subst (λ g. IsUnion g star.rest both) part_empty star.union in
        let whole : star.rest ≡ both = empty_union_same union in
        not_empty (sym whole ∙ star.others)
    refuted (inr o) = o
