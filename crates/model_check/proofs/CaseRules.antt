-- The rule of a case.
use Rattle.std.proofs.Common.{◌≡◌, ℕ, List, [], ◌∷◌, ◌++◌, refl, sym, subst, inl, inr}
use Rattle.heap_formula.specs.declared.atoms.Spatial.{Spatial}
use Rattle.heap_formula.specs.declared.atoms.Spatial.TheVariants.{Cell, Pred}
use Rattle.heap_formula.specs.Symbolic.{SymbolicHeap}
use Rattle.heap_formula.specs.Words.{Each}
use Rattle.heap_formula.specs.Values.{Stack, value, values}
use Rattle.heap_formula.specs.Cells.{Cells}
use Rattle.model_check.specs.declared.ground.Piece.{Piece}
use Rattle.model_check.specs.declared.ground.GroundRule.{GroundRule}
use Rattle.model_check.specs.Questions.{Question}
use Rattle.model_check.specs.declared.locals.Local.{Local}
use Rattle.model_check.specs.ForcedLocals.{stack_of}
use Rattle.model_check.specs.Constructive.{CellFits, Fits, IsOnly}
use Rattle.model_check.specs.MaskParts.{Covers}
use Rattle.model_check.specs.Grounding.{IsListed, PiecesFit, HasRule, AskedPieces, GroundedCase}
use Rattle.model_check.proofs.Asking.{extends_all}
use Rattle.model_check.proofs.Rounds.{pieces_agree}
use Rattle.heap_formula.proofs.SomeMember.{one_last}

listed_all : (h : Cells) (ns : List ℕ) (s e : Stack) (xs : List Spatial) → Covers ns h → Each (CellFits h s e) xs
    → Each (IsListed ns s e) xs
listed_all h ns s e [] c f = tt
listed_all h ns s e (Cell t ts ∷ xs) c f = (c.listed (value s e t) (values s e ts) f.0, listed_all h ns s e xs c f.1)
listed_all h ns s e (Pred p ts ∷ xs) c f = (tt, listed_all h ns s e xs c f.1)

pub listed_case : (h : Cells) (ns : List ℕ) (s : Stack) (ls view : List Local) (b : SymbolicHeap) (xs : List Spatial)
    → Covers ns h → IsOnly h s (stack_of ls) b → view ≡ ls → xs ≡ b.spatial → Each (IsListed ns s (stack_of view)) xs
listed_case h ns s ls view b xs c k v w =
    subst (λ (ys : List Spatial). Each (IsListed ns s (stack_of view)) ys) (sym w)
    (subst (λ (ms : List Local). Each (IsListed ns s (stack_of ms)) b.spatial) (sym v)
    (listed_all h ns s (stack_of ls) b.spatial c k.fits.cells))

pub listed_only : (h : Cells) (ns : List ℕ) (s e : Stack) (b : SymbolicHeap) (xs : List Spatial) → Covers ns h
    → IsOnly h s e b → xs ≡ b.spatial → Each (IsListed ns s e) xs
listed_only h ns s e b xs c k w = subst (λ (ys : List Spatial). Each (IsListed ns s e) ys) (sym w)
    (listed_all h ns s e b.spatial c k.fits.cells)

pub no_case : (h : Cells) (ns : List ℕ) (qs : List Question) (rules : List GroundRule) (head : ℕ) (vs : List ℕ)
    (b : SymbolicHeap) → ((e : Stack) → Fits h vs e b → ⊥) → GroundedCase h ns qs qs rules rules head vs b
no_case h ns qs rules head vs b n = record { extends = extends_all qs; more = inl refl; has = λ e f. absurd (n e f) }

pub one_case : (h : Cells) (ns : List ℕ) (qs qs' : List Question) (rules rules' : List GroundRule) (head : ℕ)
    (vs : List ℕ) (b : SymbolicHeap) (ls view : List Local) (xs : List Spatial) (ys : List Piece)
    → IsOnly h vs (stack_of ls) b → view ≡ ls → xs ≡ b.spatial → AskedPieces ns qs qs' vs (stack_of view) xs ys
    → rules' ≡ rules ++ (record { head = head; pieces = ys }) ∷ [] → GroundedCase h ns qs qs' rules rules' head vs b
one_case h ns qs qs' rules rules' head vs b ls view xs ys k v w a z =
    let r : GroundRule = record { head = head; pieces = ys } in
    let p1 = subst (λ (zs : List Spatial). PiecesFit ns qs' vs (stack_of view) zs ys) w a.pieces in
    let p : PiecesFit ns qs' vs (stack_of ls) b.spatial ys = subst
    (λ (ms : List Local). PiecesFit ns qs' vs (stack_of ms) b.spatial ys) v p1 in
    record {
      extends = a.extends;
      more = inr (r, z, refl, (stack_of ls, k.fits, p));
      has = λ e f. subst (HasRule ns qs' rules' head vs e) refl
          (subst (λ rs. HasRule ns qs' rs head vs e b.spatial) (sym z)
          (one_last (λ x. (x.head ≡ head) × PiecesFit ns qs' vs e b.spatial x.pieces) rules r
          (refl, pieces_agree ns qs' vs (stack_of ls) vs e b.spatial ys (k.only e f).1 p)));
    }
