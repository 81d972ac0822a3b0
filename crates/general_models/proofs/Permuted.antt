-- A permutation of values that moves neither 0 nor a number of the heap does not change what a predicate holds of.
use Rattle.std.proofs.Common.{◌≡◌, ℕ, zero, suc, List, [], ◌∷◌, Some, refl, sym, ap, ◌∙◌, subst, map}
use Rattle.std.specs.Prelude.{slice_index}
use Rattle.heap_formula.specs.declared.terms.Term.{Term}
use Rattle.heap_formula.specs.declared.terms.Term.TheVariants.{Nil, Univ, Exist}
use Rattle.heap_formula.specs.declared.atoms.Pure.{Pure}
use Rattle.heap_formula.specs.declared.atoms.Pure.TheVariants.{Eq, Neq}
use Rattle.heap_formula.specs.declared.atoms.Spatial.{Spatial}
use Rattle.heap_formula.specs.declared.atoms.Spatial.TheVariants.{Cell, Pred}
use Rattle.heap_formula.specs.Symbolic.{SymbolicHeap}
use Rattle.heap_formula.specs.Definitions.{Definition}
use Rattle.heap_formula.specs.Words.{Each}
use Rattle.heap_formula.specs.Values.{Stack, value, values}
use Rattle.heap_formula.specs.Cells.{Cells, cell_at}
use Rattle.heap_formula.specs.Meaning.{Family, PureHolds, IsCell, AtomHolds, SpatialHolds, Holds, CaseHolds, cases_of}
use Rattle.heap_formula.specs.Meaning.{at_stage}
use Rattle.heap_formula.specs.Closedness.{InPure, InSpatial, InHeap}
use Rattle.heap_formula.proofs.StageLaws.{OneOf-map}
use Rattle.heap_formula.proofs.Insertions.{one_cell_has}
use Rattle.heap_formula.proofs.AllMembers.{each_any}
use Rattle.model_check.specs.Constructive.{Inside}
use Rattle.general_models.specs.Ranges.{Leaves}
use Rattle.model_check.proofs.OnlyLocals.{left_inside, right_inside, inside_trans}

-- what holds of all terms holds of those of a formula
in_pure_any : (Q : Term → Type 0) → ((t : Term) → Q t) → (x : Pure) → InPure Q x
in_pure_any Q q (Eq t u) = (q t, q u)
in_pure_any Q q (Neq t u) = (q t, q u)

in_spatial_any : (Q : Term → Type 0) → ((t : Term) → Q t) → (x : Spatial) → InSpatial Q x
in_spatial_any Q q (Cell t ts) = (q t, each_any Q q ts)
in_spatial_any Q q (Pred p ts) = each_any Q q ts

pub in_heap_any : (Q : Term → Type 0) → ((t : Term) → Q t) → (a : SymbolicHeap) → InHeap Q a
in_heap_any Q q a = (
  each_any (InPure Q) (in_pure_any Q q) a.pure,
  each_any (InSpatial Q) (in_spatial_any Q q) a.spatial,
)

module _ (move : ℕ → ℕ) (twice : (x : ℕ) → move (move x) ≡ x) (h : Cells) (leaves : Leaves move h) where
  -- a family that the permutation does not change, in the parts of the heap
  abbrev pub IsKept : Family → Type 0
  IsKept P = (p : ℕ) (vs : List ℕ) (g : Cells) → Inside g h → P p vs g → P p (map move vs) g

  injective : (x y : ℕ) → move x ≡ move y → x ≡ y
  injective x y e = sym (twice x) ∙ ap move e ∙ twice y

  module _ (s e s' e' : Stack) where
    -- the term's value is moved
    abbrev pub IsMoved : Term → Type 0
    IsMoved t = value s' e' t ≡ move (value s e t)

    values_moved : (ts : List Term) → Each IsMoved ts → values s' e' ts ≡ map move (values s e ts)
    values_moved [] m = refl
    values_moved (t ∷ ts) m = λ i. m.0 i ∷ values_moved ts m.1 i

    pure_moved : (x : Pure) → InPure IsMoved x → PureHolds s e x → PureHolds s' e' x
    pure_moved (Eq t u) m p = m.0 ∙ ap move p ∙ sym m.1
    pure_moved (Neq t u) m p = λ q. p (injective _ _ (sym m.0 ∙ q ∙ m.1))

    pures_moved : (xs : List Pure) → Each (InPure IsMoved) xs → Each (PureHolds s e) xs → Each (PureHolds s' e') xs
    pures_moved [] m p = tt
    pures_moved (x ∷ xs) m p = (pure_moved x m.0 p.0, pures_moved xs m.1 p.1)

    module _ (P : Family) (kept : IsKept P) where
      atom_moved : (x : Spatial) (g : Cells) → Inside g h → InSpatial IsMoved x → AtomHolds P s e x g
          → AtomHolds P s' e' x g
      atom_moved (Cell t ts) g w m c =
          let a = value s e t in
          let vs = values s e ts in
          let there : cell_at h a ≡ Some vs = w.same a vs (subst (λ f. cell_at f a ≡ Some vs) (sym c.2)
          (one_cell_has a vs)) in
          let k = leaves.cells a vs there in
          let address : a ≡ value s' e' t = sym (m.0 ∙ k.0) in
          let fields : vs ≡ values s' e' ts = sym (values_moved ts m.1 ∙ k.1) in
          subst (λ v. IsCell v (values s' e' ts) g) address (subst (λ us. IsCell a us g) fields c)
      atom_moved (Pred p ts) g w m a = subst (λ us. P p us g) (sym (values_moved ts m)) (kept p (values s e ts) g w a)

      spatial_moved : (xs : List Spatial) (g : Cells) → Inside g h → Each (InSpatial IsMoved) xs
          → SpatialHolds (λ _. P) s e xs g → SpatialHolds (λ _. P) s' e' xs g
      spatial_moved [] g w m a = a
      spatial_moved (x ∷ xs) g w m a =
          record {
            part = a.part;
            rest = a.rest;
            union = a.union;
            first = atom_moved x a.part (inside_trans a.part g h (left_inside a.part a.rest g a.union) w) m.0 a.first;
            others = spatial_moved xs a.rest (inside_trans a.rest g h (right_inside a.part a.rest g a.union) w)
                m.1 a.others;
          }

      pub holds_moved : (b : SymbolicHeap) (g : Cells) → Inside g h → InHeap IsMoved b → Holds (λ _. P) s e b g
          → Holds (λ _. P) s' e' b g
      holds_moved b g w m a = (pures_moved b.pure m.0 a.0, spatial_moved b.spatial g w m.1 a.1)

  pub index_moved : (s : Stack) (n : ℕ) → slice_index (map move s) n ≡ move (slice_index s n)
  index_moved [] n = sym leaves.nil
  index_moved (v ∷ s) zero = refl
  index_moved (v ∷ s) (suc n) = index_moved s n

  all_moved : (s e : Stack) (t : Term) → value (map move s) (map move e) t ≡ move (value s e t)
  all_moved s e Nil = sym leaves.nil
  all_moved s e (Univ n) = index_moved s n
  all_moved s e (Exist n) = index_moved e n

  pub stage_moved : (ds : List Definition) (n : ℕ) → IsKept (at_stage ds n)
  stage_moved ds zero p vs g w a = absurd a
  stage_moved ds (suc n) p vs g w a =
      OneOf-map (CaseHolds (at_stage ds n) vs g) (CaseHolds (at_stage ds n) (map move vs) g)
      (λ b c. (
        map move c.0,
        holds_moved vs c.0 (map move vs) (map move c.0) (at_stage ds n) (stage_moved ds n)
            b g w (in_heap_any (IsMoved vs c.0 (map move vs) (map move c.0)) (all_moved vs c.0) b) c.1,
      )) (cases_of ds p) a
