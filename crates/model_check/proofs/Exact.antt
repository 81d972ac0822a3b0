-- The answer is exact.
use Rattle.std.specs.Prelude.{◌↔◌, ◌==◌, IsTrue}
use Rattle.std.proofs.Common.{◌≡◌, ℕ, ◌<◌, List, [], ◌∷◌, length, Bool, true, false, not, refl, sym, ap, ◌∙◌}
use Rattle.std.proofs.Common.{suc, subst, inl, arith}
use Rattle.std.proofs.lemmas.Bool.{ne_eqb}
use Rattle.heap_formula.specs.declared.atoms.Spatial.{Spatial}
use Rattle.heap_formula.specs.Symbolic.{SymbolicHeap}
use Rattle.heap_formula.specs.Definitions.{Definition}
use Rattle.heap_formula.specs.Values.{Stack}
use Rattle.heap_formula.specs.Cells.{Cells, no_cells}
use Rattle.heap_formula.proofs.Unions.{union_empty}
use Rattle.heap_formula.specs.Meaning.{at_stage, Satisfies}
use Rattle.model_check.proofs.OnlyLocals.{holds_fits, inside_all, left_inside}
use Rattle.model_check.proofs.MaskParts.{part_is_part, part_mask}
use Rattle.model_check.specs.declared.ground.Piece.{Piece}
use Rattle.model_check.specs.declared.ground.GroundRule.{GroundRule}
use Rattle.model_check.specs.Questions.{Question}
use Rattle.model_check.specs.Constructive.{Fits, Inside, IsOnly}
use Rattle.model_check.specs.MaskParts.{Covers, mask_of, part_of}
use Rattle.model_check.specs.Parts.{AreMasksOf, SomePartSatisfies}
use Rattle.model_check.specs.Ground.{Table, Unions, derived, IsSolved}
use Rattle.model_check.specs.WideMasks.{HoldsMask, number}
use Rattle.model_check.specs.Tables.{Row, HasMask, HeadsFit}
use Rattle.model_check.specs.Grounding.{PiecesFit, Extends, AskedPieces, IsRule, Grounds}
use Rattle.model_check.proofs.Asking.{pieces_kept}
use Rattle.model_check.proofs.QuestionLists.{question_within}
use Rattle.model_check.proofs.Rounds.{union_map, derived_in, part_satisfies, satisfied_unions}
use Rattle.heap_formula.proofs.AllMembers.{each_imply}

pub heads_fit : (ds : List Definition) (h : Cells) (ns : List ℕ) (qs : List Question) (rules : List GroundRule) (n : ℕ)
    → length qs ≡ n → Grounds ds h ns qs rules → HeadsFit n rules
heads_fit ds h ns qs rules n e g =
    subst (λ m. HeadsFit m rules) e (each_imply (IsRule ds h ns qs) (λ r. r.head < length qs)
    (λ r k. question_within qs r.head k.predicate k.values k.question) rules g.sound)

-- a solved table tells which parts of the heap satisfy the formula
pub exact : (ds : List Definition) (h : Cells) (ns : List ℕ) (qs : List Question) (rules : List GroundRule) (T : Table)
    (s e : Stack) (a : SymbolicHeap) (ys : List Piece) (out : Row) → Grounds ds h ns qs rules → IsSolved rules T
    → IsOnly h s e a → PiecesFit ns qs s e a.spatial ys → ((m : ℕ) → HoldsMask m out ↔ Unions T ys m)
    → AreMasksOf ds ns s h a out
exact ds h ns qs rules T s e a ys out g t k z u = record {
  satisfied = λ m held.
      part_satisfies ds h ns qs rules g.covers g.heap g.sound s e a ys m k.fits z
      (union_map T (derived rules) t.sound ys m ((u m).0 held));
  each = λ part is x.
      let w = satisfied_unions ds h ns qs rules g s e a ys part (left_inside part is.0 h is.1) k z x in
      (u (mask_of ns part)).1 (union_map (derived rules) T (derived_in rules T t) ys (mask_of ns part) w);
}

pub masks_exact : (ds : List Definition) (h : Cells) (ns : List ℕ) (q0 q1 q2 : List Question)
    (rules rs : List GroundRule) (table tv : List Row) (s e : Stack) (a : SymbolicHeap) (xs : List Spatial)
    (ys yv : List Piece) (out : Row) → xs ≡ a.spatial → rs ≡ rules → tv ≡ table → yv ≡ ys
    → AskedPieces ns q0 q1 s e xs ys → Extends q1 q2 → Grounds ds h ns q2 rules → IsSolved rs (HasMask table)
    → IsOnly h s e a → ((m : ℕ) → HoldsMask m out ↔ Unions (HasMask tv) yv m) → AreMasksOf ds ns s h a out
masks_exact ds h ns q0 q1 q2 rules rs table tv s e a xs ys yv out xe re te ye ask ext g t k u =
    let z1 = subst (λ ws. PiecesFit ns q1 s e ws ys) xe ask.pieces in
    let z : PiecesFit ns q2 s e a.spatial ys = pieces_kept ns q1 q2 ext s e a.spatial ys z1 in
    let t' = subst (λ ws. IsSolved ws (HasMask table)) re t in
    let v0 = subst (λ ws. (m : ℕ) → HoldsMask m out ↔ Unions (HasMask ws) yv m) te u in
    let v1 = subst (λ ws. (m : ℕ) → HoldsMask m out ↔ Unions (HasMask table) ws m) ye v0 in
    exact ds h ns q2 rules (HasMask table) s e a ys out g t' k z v1

-- the mask of the whole heap tells whether that satisfies the formula
pub answer : (ds : List Definition) (h : Cells) (ns : List ℕ) (s : Stack) (a : SymbolicHeap) (out ov : Row) (m : ℕ)
    (b : Bool) → Covers ns h → ov ≡ out → m ≡ mask_of ns h → AreMasksOf ds ns s h a out → IsTrue b ↔ HoldsMask m ov
    → IsTrue b ↔ Satisfies ds s h a
answer ds h ns s a out ov m b c oe me x i =
    let j0 = subst (λ ws. IsTrue b ↔ HoldsMask m ws) oe i in
    let j : IsTrue b ↔ HoldsMask (mask_of ns h) out = subst (λ n. IsTrue b ↔ HoldsMask n out) me j0 in
    let whole = part_mask ns h h c (inside_all h) in (
      λ y. subst (λ g. Satisfies ds s g a) whole (x.satisfied (mask_of ns h) (j.0 y)),
      λ y. j.1 (x.each h (no_cells, union_empty h) y),
    )

-- any mask tells whether some part of the heap satisfies the formula
pub some_part : (ds : List Definition) (h : Cells) (ns : List ℕ) (s : Stack) (a : SymbolicHeap) (out ov : Row)
    (b : Bool) → ov ≡ out → AreMasksOf ds ns s h a out → b ≡ (length ov == 0)
    → IsTrue (not b) ↔ SomePartSatisfies ds s h a
some_part ds h ns s a out ov b oe x e =
    subst (λ c. IsTrue (not c) ↔ SomePartSatisfies ds s h a) (sym (e ∙ ap (λ ws. length ws == 0) oe)) (any_part out x)
  where
    any_part : (masks : Row) → AreMasksOf ds ns s h a masks → IsTrue (not (length masks == 0))
        ↔ SomePartSatisfies ds s h a
    any_part [] y = (λ t. absurd (let z : false ≡ true = t in cc), λ p. absurd (y.each p.0 p.1 p.2))
    any_part (ws ∷ row) y = (
      λ t. (part_of ns h (number ws), part_is_part ns h (number ws), y.satisfied (number ws) (inl refl)),
      λ p. ap not (ne_eqb (suc (length row)) 0 (λ z. omega arith)),
    )

-- ---- where no values of the locals fit

no_part : (ds : List Definition) (h : Cells) (s : Stack) (a : SymbolicHeap) → ((e : Stack) → Fits h s e a → ⊥)
    → (part : Cells) → Inside part h → Satisfies ds s part a → ⊥
no_part ds h s a n part w x =
    n x.1.0 (holds_fits (λ k. at_stage ds (x.0 k)) s x.1.0 a part h w x.1.1)

pub never : (ds : List Definition) (h : Cells) (s : Stack) (a : SymbolicHeap) → ((e : Stack) → Fits h s e a → ⊥)
    → IsTrue false ↔ Satisfies ds s h a
never ds h s a n = (λ t. absurd (let z : false ≡ true = t in cc), λ x. absurd (no_part ds h s a n h (inside_all h) x))

pub never_part : (ds : List Definition) (h : Cells) (s : Stack) (a : SymbolicHeap) → ((e : Stack) → Fits h s e a → ⊥)
    → IsTrue false ↔ SomePartSatisfies ds s h a
never_part ds h s a n = (
  λ t. absurd (let z : false ≡ true = t in cc),
  λ x. absurd (no_part ds h s a n x.0 (left_inside x.0 x.1.0 h x.1.1) x.2),
)

pub heads_fit_at : (ds : List Definition) (h : Cells) (ns : List ℕ) (qs : List Question) (rules rs : List GroundRule)
    (n : ℕ) → length qs ≡ n → rs ≡ rules → Grounds ds h ns qs rules → HeadsFit n rs
heads_fit_at ds h ns qs rules rs n e w g = subst (HeadsFit n) (sym w) (heads_fit ds h ns qs rules n e g)

pub given : (U : ℕ → Type 0) (out ov : Row) (m : ℕ) (b : Bool) → ov ≡ out → ((n : ℕ) → HoldsMask n out ↔ U n) → IsTrue b
    ↔ HoldsMask m ov → IsTrue b ↔ U m
given U out ov m b e u i =
    let j = subst (λ ws. IsTrue b ↔ HoldsMask m ws) e i in
    (λ y. (u m).0 (j.0 y), λ y. j.1 ((u m).1 y))
