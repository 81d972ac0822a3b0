-- In a given heap the known terms of a formula have at most one value.
use Rattle.std.proofs.Common.{◌≡◌, ℕ, suc, List, [], ◌∷◌, Option, Some, None, refl, sym, ◌∙◌, subst, inl, inr, map}
use Rattle.heap_formula.specs.declared.terms.Term.{Term}
use Rattle.heap_formula.specs.declared.terms.Term.TheVariants.{Nil, Univ, Exist}
use Rattle.heap_formula.specs.declared.atoms.Pure.{Pure}
use Rattle.heap_formula.specs.declared.atoms.Pure.TheVariants.{Eq, Neq}
use Rattle.heap_formula.specs.declared.atoms.Spatial.{Spatial}
use Rattle.heap_formula.specs.declared.atoms.Spatial.TheVariants.{Cell, Pred}
use Rattle.heap_formula.specs.Symbolic.{SymbolicHeap}
use Rattle.heap_formula.specs.Words.{Each}
use Rattle.heap_formula.specs.Values.{Stack, value, values}
use Rattle.heap_formula.specs.Cells.{Cells, cell_at, Joins, IsUnion}
use Rattle.heap_formula.specs.Meaning.{Family, PureHolds, SpatialHolds, Holds}
use Rattle.heap_formula.specs.Closedness.{InPure, InSpatial, IsUniversal, IsUniversalHeap}
use Rattle.heap_formula.proofs.Unions.{union_comm}
use Rattle.model_check.specs.Constructive.{Known, nil, universal, right_side, left_side, field, IsConstructive}
use Rattle.model_check.specs.Constructive.{CellFits, Fits, IsOnly, Inside}
use Rattle.cyc_basics.specs.Words.{IsMember}
use Rattle.heap_formula.proofs.AllMembers.{each_imply}
use Rattle.heap_formula.proofs.Insertions.{one_cell_has}

pub member_each : {X : Type 0} (P : X → Type 0) (x : X) (xs : List X) → IsMember x xs → Each P xs → P x
member_each P x [] m a = absurd m
member_each P x (y ∷ ys) (inl e) a = subst P e a.0
member_each P x (y ∷ ys) (inr m) a = member_each P x ys m a.1

same_member : (f g : Term → ℕ) (u : Term) (ts : List Term) → IsMember u ts → map f ts ≡ map g ts → f u ≡ g u
same_member f g u [] m e = absurd m
same_member f g u (t ∷ ts) (inl h) e = let k : f t ≡ g t = cc in subst (λ v. f v ≡ g v) h k
same_member f g u (t ∷ ts) (inr m) e = let k : map f ts ≡ map g ts = cc in same_member f g u ts m k

module _ (h : Cells) (s e e' : Stack) (a : SymbolicHeap) (p : Fits h s e a) (q : Fits h s e' a) where
  pub agree : (t : Term) → Known a t → value s e t ≡ value s e' t
  agree _ nil = refl
  agree _ (universal n) = refl
  agree _ (right_side t u m k) =
      let x : value s e t ≡ value s e u = member_each (PureHolds s e) (Eq t u) a.pure m p.pure in
      let y : value s e' t ≡ value s e' u = member_each (PureHolds s e') (Eq t u) a.pure m q.pure in
      sym x ∙ agree t k ∙ y
  agree _ (left_side t u m k) =
      let x : value s e t ≡ value s e u = member_each (PureHolds s e) (Eq t u) a.pure m p.pure in
      let y : value s e' t ≡ value s e' u = member_each (PureHolds s e') (Eq t u) a.pure m q.pure in
      x ∙ agree u k ∙ sym y
  agree _ (field t u ts m n k) =
      let x : cell_at h (value s e t) ≡ Some (values s e ts) = member_each (CellFits h s e) (Cell t ts)
      a.spatial m p.cells in
      let y : cell_at h (value s e' t) ≡ Some (values s e' ts) = member_each (CellFits h s e') (Cell t ts)
      a.spatial m q.cells in
      let w : value s e t ≡ value s e' t = agree t k in
      let z : values s e ts ≡ values s e' ts = cc in
      same_member (value s e) (value s e') u ts n z

  agree_terms : (ts : List Term) → Each (Known a) ts → Each (λ t. value s e' t ≡ value s e t) ts
  agree_terms [] k = tt
  agree_terms (t ∷ ts) k = (sym (agree t k.0), agree_terms ts k.1)

  agree_pure : (x : Pure) → InPure (Known a) x → InPure (λ t. value s e' t ≡ value s e t) x
  agree_pure (Eq t u) k = (sym (agree t k.0), sym (agree u k.1))
  agree_pure (Neq t u) k = (sym (agree t k.0), sym (agree u k.1))

  agree_spatial : (x : Spatial) → InSpatial (Known a) x → InSpatial (λ t. value s e' t ≡ value s e t) x
  agree_spatial (Cell t ts) k = (sym (agree t k.0), agree_terms ts k.1)
  agree_spatial (Pred p ts) k = agree_terms ts k

-- values that fit a constructive formula are the only ones
pub only_fit : (h : Cells) (s e : Stack) (a : SymbolicHeap) → IsConstructive a → Fits h s e a → IsOnly h s e a
only_fit h s e a k p = record {
  fits = p;
  only = λ o q. (
    each_imply (InPure (Known a)) (InPure (λ t. value s o t ≡ value s e t)) (agree_pure h s e o a p q) a.pure k.0,
    each_imply (InSpatial (Known a)) (InSpatial (λ t. value s o t ≡ value s e t)) (agree_spatial h s e o a p q)
        a.spatial k.1,
  );
}

-- a formula without existentials is constructive
pub universal_known : (a : SymbolicHeap) (t : Term) → IsUniversal t → Known a t
universal_known a Nil u = nil
universal_known a (Univ n) u = universal n
universal_known a (Exist n) u = absurd u

universal_pure : (a : SymbolicHeap) (x : Pure) → InPure IsUniversal x → InPure (Known a) x
universal_pure a (Eq t u) k = (universal_known a t k.0, universal_known a u k.1)
universal_pure a (Neq t u) k = (universal_known a t k.0, universal_known a u k.1)

universal_spatial : (a : SymbolicHeap) (x : Spatial) → InSpatial IsUniversal x → InSpatial (Known a) x
universal_spatial a (Cell t ts) k = (
  universal_known a t k.0,
  each_imply IsUniversal (Known a) (universal_known a) ts k.1,
)
universal_spatial a (Pred p ts) k = each_imply IsUniversal (Known a) (universal_known a) ts k

pub universal_constructive : (a : SymbolicHeap) → IsUniversalHeap a → IsConstructive a
universal_constructive a u = (
  each_imply (InPure IsUniversal) (InPure (Known a)) (universal_pure a) a.pure u.0,
  each_imply (InSpatial IsUniversal) (InSpatial (Known a)) (universal_spatial a) a.spatial u.1,
)

-- ---- what holds of a part of the heap fits the heap

joins_first : {X : Type 0} (v : X) (y r : Option X) → Joins (Some v) y r → r ≡ Some v
joins_first v None r j = j
joins_first v (Some y) r j = absurd j

pub left_inside : (l r h : Cells) → IsUnion l r h → Inside l h
left_inside l r h u = record {
  same = λ a vs e. joins_first vs (cell_at r a) (cell_at h a)
      (subst (λ o. Joins o (cell_at r a) (cell_at h a)) e (u.joins a));
}

pub right_inside : (l r h : Cells) → IsUnion l r h → Inside r h
right_inside l r h u = left_inside r l h (union_comm u)

pub inside_trans : (f g h : Cells) → Inside f g → Inside g h → Inside f h
inside_trans f g h p q = record { same = λ a vs e. q.same a vs (p.same a vs e) }

pub inside_all : (h : Cells) → Inside h h
inside_all h = record { same = λ a vs e. e }

spatial_fits : (P : ℕ → Family) (s e : Stack) (h : Cells) (xs : List Spatial) (g : Cells) → Inside g h
    → SpatialHolds P s e xs g → Each (CellFits h s e) xs
spatial_fits P s e h [] g p x = tt
spatial_fits P s e h (Cell t ts ∷ xs) g p x = (
  (inside_trans x.part g h (left_inside x.part x.rest g x.union) p).same (value s e t) (values s e ts)
      (subst (λ c. cell_at c (value s e t) ≡ Some (values s e ts)) (sym x.first.2)
      (one_cell_has (value s e t) (values s e ts))),
  spatial_fits (λ k. P (suc k)) s e h xs x.rest (inside_trans x.rest g h (right_inside x.part x.rest g x.union) p)
      x.others,
)
spatial_fits P s e h (Pred p ts ∷ xs) g q x = (
  tt,
  spatial_fits (λ k. P (suc k)) s e h xs x.rest
      (inside_trans x.rest g h (right_inside x.part x.rest g x.union) q) x.others,
)

pub holds_fits : (P : ℕ → Family) (s e : Stack) (a : SymbolicHeap) (g h : Cells) → Inside g h → Holds P s e a g
    → Fits h s e a
holds_fits P s e a g h p x = record { pure = x.0; cells = spatial_fits P s e h a.spatial g p x.1 }
