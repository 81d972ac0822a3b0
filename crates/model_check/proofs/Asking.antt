-- Questions that are added.
use Rattle.std.specs.Prelude.{slice_get, if◌then◌else◌}
use Rattle.std.specs.List.{list_any}
use Rattle.std.proofs.Common.{◌≡◌, ℕ, zero, suc, ◌+◌, ◌<◌, List, [], ◌∷◌, ◌++◌, length, take, get_or, Bool, true, false}
use Rattle.std.proofs.Common.{Some, None, sym, ap, ◌∙◌, subst}
use Rattle.std.proofs.lemmas.List.{take_more}
use Rattle.heap_formula.specs.declared.terms.Term.{Term}
use Rattle.heap_formula.specs.declared.atoms.Spatial.{Spatial}
use Rattle.heap_formula.specs.declared.atoms.Spatial.TheVariants.{Cell, Pred}
use Rattle.heap_formula.specs.Words.{Each}
use Rattle.heap_formula.specs.Values.{Stack, values}
use Rattle.model_check.specs.declared.ground.Piece.{Piece}
use Rattle.model_check.specs.declared.ground.Piece.TheVariants.{Here, Of}
use Rattle.model_check.specs.Questions.{Question, question_eq, question_same}
use Rattle.model_check.specs.Grounding.{IsQuestion, PieceFits, PiecesFit, Extends, Asked, AskedPiece, AskedPieces}
use Rattle.model_check.specs.Grounding.{IsListed}
use Rattle.model_check.proofs.OnlyLocals.{member_each}
use Rattle.model_check.proofs.KnownTerms.{member_at}

pub extends_all : (qs : List Question) → Extends qs qs
extends_all qs = record { kept = λ q p vs i. i }

pub extends_trans : (a b c : List Question) → Extends a b → Extends b c → Extends a c
extends_trans a b c f g = record { kept = λ q p vs i. g.kept q p vs (f.kept q p vs i) }

module _ (ns : List ℕ) (old new : List Question) (x : Extends old new) (s e : Stack) where
  piece_kept : (a : Spatial) (y : Piece) → PieceFits ns old s e a y → PieceFits ns new s e a y
  piece_kept (Cell t ts) y f = f
  piece_kept (Pred p ts) (Here m) f = f
  piece_kept (Pred p ts) (Of q) f = x.kept q p (values s e ts) f

  pub pieces_kept : (xs : List Spatial) (ys : List Piece) → PiecesFit ns old s e xs ys → PiecesFit ns new s e xs ys
  pieces_kept [] [] f = tt
  pieces_kept [] (y ∷ ys) f = absurd f
  pieces_kept (a ∷ xs) [] f = absurd f
  pieces_kept (a ∷ xs) (y ∷ ys) f = (piece_kept a y f.0, pieces_kept xs ys f.1)

pieces_end : (ns : List ℕ) (qs : List Question) (s e : Stack) (xs : List Spatial) (ys : List Piece) (x : Spatial)
    (y : Piece) → PiecesFit ns qs s e xs ys → PieceFits ns qs s e x y
    → PiecesFit ns qs s e (xs ++ x ∷ []) (ys ++ y ∷ [])
pieces_end ns qs s e [] [] x y f g = (g, tt)
pieces_end ns qs s e [] (z ∷ ys) x y f g = absurd f
pieces_end ns qs s e (a ∷ xs) [] x y f g = absurd f
pieces_end ns qs s e (a ∷ xs) (z ∷ ys) x y f g = (f.0, pieces_end ns qs s e xs ys x y f.1 g)

take_one : (xs : List Spatial) (i : ℕ) (d : Spatial) → i < length xs → take (i + 1) xs ≡ take i xs ++ get_or xs i d ∷ []
take_one xs i d h = take_more xs i d h

pub asked_next : (ns : List ℕ) (a b c : List Question) (s e : Stack) (xs : List Spatial) (i : ℕ) (d : Spatial)
    (ys zs : List Piece) (y : Piece) → i < length xs → AskedPieces ns a b s e (take i xs) ys
    → AskedPiece ns b c s e (get_or xs i d) y → zs ≡ ys ++ y ∷ [] → AskedPieces ns a c s e (take (i + 1) xs) zs
asked_next ns a b c s e xs i d ys zs y h f g z = record {
  extends = extends_trans a b c f.extends g.extends;
  pieces = subst (λ ws. PiecesFit ns c s e (take (i + 1) xs) ws) (sym z)
      (subst (λ ws. PiecesFit ns c s e ws (ys ++ y ∷ [])) (sym (take_one xs i d h))
      (pieces_end ns c s e (take i xs) ys (get_or xs i d) y (pieces_kept ns b c g.extends s e (take i xs) ys f.pieces)
      g.piece));
}

pub pred_asked : (ns : List ℕ) (old new : List Question) (s e : Stack) (a : Spatial) (p q : ℕ) (ts us : List Term)
    (vs : List ℕ) (y : Piece) → Of q ≡ y → a ≡ Pred p ts → us ≡ ts → vs ≡ values s e us → Asked old new q p vs
    → AskedPiece ns old new s e a y
pred_asked ns old new s e a p q ts us vs y ye ae ue ve k = record {
  extends = k.extends;
  piece = subst (λ z. PieceFits ns new s e a z) ye
      (subst (λ z. PieceFits ns new s e z (Of q)) (sym ae) (subst (λ ws. IsQuestion new q p ws)
      (ve ∙ ap (values s e) ue) k.question));
}

pub asked_next_at : (ns : List ℕ) (a b c : List Question) (s e : Stack) (xs : List Spatial) (i : ℕ) (x : Spatial)
    (ys zs : List Piece) (y : Piece) → i < length xs → x ≡ get_or xs i x → AskedPieces ns a b s e (take i xs) ys
    → AskedPiece ns b c s e x y → zs ≡ ys ++ y ∷ [] → AskedPieces ns a c s e (take (i + 1) xs) zs
asked_next_at ns a b c s e xs i x ys zs y h is f g z =
    asked_next ns a b c s e xs i x ys zs y h f (subst (λ w. AskedPiece ns b c s e w y) is g) z

pub listed_at : (ns : List ℕ) (s e : Stack) (xs : List Spatial) (i : ℕ) (x : Spatial) → i < length xs
    → x ≡ get_or xs i x → Each (IsListed ns s e) xs → IsListed ns s e x
listed_at ns s e xs i x h is a = subst (IsListed ns s e) (sym is)
    (member_each (IsListed ns s e) (get_or xs i x) xs (member_at xs i x h) a)

-- ---- what `insert_full` says

pushed : (qs more : List Question) (q p : ℕ) (vs : List ℕ) → IsQuestion qs q p vs → IsQuestion (qs ++ more) q p vs
pushed [] more q p vs i = absurd (let x : Question = record { predicate = p; values = vs } in let z : None ≡ Some x = i
    in cc)
pushed (x ∷ qs) more zero p vs i = i
pushed (x ∷ qs) more (suc q) p vs i = pushed qs more q p vs i

extends_full : (old new : List Question) (x : Question) (b : Bool) → new ≡ (if b then old else old ++ x ∷ [])
    → Extends old new
extends_full old new x true e = record { kept = λ q p vs i. subst (λ qs. IsQuestion qs q p vs) (sym e) i }
extends_full old new x false e = record {
  kept = λ q p vs i.
      subst (λ qs. IsQuestion qs q p vs) (sym e) (pushed old (x ∷ []) q p vs i);
}

pub asked_full : (old new : List Question) (x : Question) (p : ℕ) (vs : List ℕ) (q : ℕ)
    → x ≡ record { predicate = p; values = vs } → new ≡ (if list_any (question_eq x) old then old else old ++ x ∷ [])
    → (k : Question) × (slice_get new q ≡ Some k) × (question_eq x k ≡ true) → Asked old new q p vs
asked_full old new x p vs q xe e s = record {
  extends = extends_full old new x (list_any (question_eq x) old) e;
  question = s.1 ∙ ap Some (sym (question_same x s.0 s.2) ∙ xe);
}
