-- Lists of atoms with the same members.
use Rattle.std.proofs.Common.{◌≡◌, ℕ, suc, ◌+◌, ◌<◌, Bool, true, false, List, [], ◌∷◌, Some, refl, sym, ap, subst}
use Rattle.std.proofs.Common.{arith}
use Rattle.std.specs.Prelude.{slice_get, if◌then◌else◌}
use Rattle.heap_formula.specs.declared.atoms.Spatial.{Spatial}
use Rattle.heap_formula.specs.contracts.atoms.SpatialPartialEq.TheImpl.{eq-value as spatial_eq}
use Rattle.heap_formula.specs.Symbolic.{SymbolicHeap}
use Rattle.heap_formula.specs.Definitions.{Definition}
use Rattle.heap_formula.specs.Values.{Stack}
use Rattle.heap_formula.specs.Cells.{Cells}
use Rattle.heap_formula.specs.Meaning.{Family, SpatialHolds, at_stage, least, Satisfies}
use Rattle.heap_formula.specs.Positions.{without}
use Rattle.rule_table.specs.RuleLink.{count_of, SameAtoms, Covers}
use Rattle.heap_formula.proofs.Equal.{spatial_eq-Decides}
use Rattle.heap_formula.proofs.Unions.{star_map}
use Rattle.rule_table.proofs.Frames.{take_out}
use Rattle.heap_formula.proofs.StageLaws.{one_stage, spatial_within}
use Rattle.rule_table.proofs.LinkRuns.{each_follows}

-- a place where a list has an atom that it counts
pub record StandsAt (x : Spatial) (ys : List Spatial) : Type 0 where
  pub place : ℕ
  pub at : slice_get ys place ≡ Some x
  pub others : (z : Spatial) → count_of z ys ≡ (if spatial_eq.it z x then 1 else 0) + count_of z (without place ys)

found : (b : Bool) (x y : Spatial) (ys : List Spatial) → spatial_eq.it x y ≡ b
    → 0 < (if b then 1 else 0) + count_of x ys → (0 < count_of x ys → StandsAt x ys) → StandsAt x (y ∷ ys)
found true x y ys t h rec =
    let same = (spatial_eq-Decides x y).0 t in
    record {
      place = 0;
      at = ap Some (sym same);
      others = λ z.
          ap (λ v. (if spatial_eq.it z v then 1 else 0) + count_of z ys) (sym same);
    }
found false x y ys t h rec =
    let r = rec (omega arith) in
    record { place = suc r.place; at = r.at; others = λ z. let e = r.others z in omega arith }

pub stands : (x : Spatial) (ys : List Spatial) → 0 < count_of x ys → StandsAt x ys
stands x [] h = absurd (omega arith)
stands x (y ∷ ys) h = found (spatial_eq.it x y) x y ys refl h (stands x ys)

pub counted_itself : (x : Spatial) (xs : List Spatial) → 0 < count_of x (x ∷ xs)
counted_itself x xs = let e : spatial_eq.it x x ≡ true = (spatial_eq-Decides x x).1 refl in
    subst (λ (b : Bool). 0 < (if b then 1 else 0) + count_of x xs) (sym e) (omega arith)

module _ (L : Family) (s e : Stack) where
  pub same_atoms_hold : (xs ys : List Spatial) (h : Cells) → SameAtoms xs ys → SpatialHolds (λ _. L) s e ys h
      → SpatialHolds (λ _. L) s e xs h
  same_atoms_hold [] [] h same a = a
  same_atoms_hold [] (y ∷ ys) h same a = let c = counted_itself y ys in let q = same y in absurd (omega arith)
  same_atoms_hold (x ∷ xs) ys h same a =
      let c = counted_itself x xs in
      let q = same x in
      let r = stands x ys (omega arith) in
      let rest : SameAtoms xs (without r.place ys) = λ z. let t = same z in let u = r.others z in omega arith in
      star_map (λ g b. b) (λ g b. same_atoms_hold xs (without r.place ys) g rest b)
      (take_out (λ _. L) s e ys r.place x (λ _. 0) h r.at a)

-- one heap satisfied, another that it covers
pub covered_holds : (ds : List Definition) (s : Stack) (h : Cells) (b c : SymbolicHeap) → Covers c b
    → Satisfies ds s h c → Satisfies ds s h b
covered_holds ds s h b c covers t =
    let e = t.1.0 in
    let all = spatial_within (λ k. at_stage ds (t.0 k)) (λ _. least ds) (λ k p vs g x. (t.0 k, x))
    s e c.spatial h t.1.1.1 in
    let moved = same_atoms_hold (least ds) s e b.spatial c.spatial h covers.spatial all in
    let r = one_stage ds s e b.spatial h moved in
    (λ _. r.0, (e, (each_follows c.pure s e t.1.1.0 b.pure covers.pure, r.1)))
