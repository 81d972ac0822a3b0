-- What rules derive in n rounds is what the definitions mean at stage n, in the parts of a heap.
use Rattle.std.proofs.Common.{◌≡◌, ℕ, zero, suc, ◌+◌, ◌^◌, arith, List, [], ◌∷◌, Some, refl, sym, ap, ◌∙◌, subst, inl}
use Rattle.std.proofs.Common.{inr}
use Rattle.heap_formula.specs.declared.atoms.Spatial.{Spatial}
use Rattle.heap_formula.specs.declared.atoms.Spatial.TheVariants.{Cell, Pred}
use Rattle.heap_formula.specs.declared.terms.Term.{Term}
use Rattle.heap_formula.specs.Closedness.{InSpatial}
use Rattle.heap_formula.specs.Symbolic.{SymbolicHeap}
use Rattle.heap_formula.specs.Definitions.{Definition}
use Rattle.heap_formula.specs.Words.{Each, OneOf}
use Rattle.heap_formula.specs.Values.{Stack, value, values}
use Rattle.heap_formula.specs.Cells.{Cells, IsHeap}
use Rattle.heap_formula.specs.Meaning.{Family, AtomHolds, SpatialHolds, CaseHolds, cases_of, at_stage, least, Satisfies}
use Rattle.heap_formula.proofs.StageLaws.{OneOf-map, spatial_within, one_stage}
use Rattle.model_check.specs.declared.ground.Piece.{Piece}
use Rattle.model_check.specs.declared.ground.Piece.TheVariants.{Here, Of}
use Rattle.model_check.specs.declared.ground.GroundRule.{GroundRule}
use Rattle.model_check.specs.Questions.{Question}
use Rattle.model_check.specs.Constructive.{CellFits, Fits, IsOnly, Inside}
use Rattle.cyc_basics.specs.Words.{IsMember}
use Rattle.model_check.specs.MaskParts.{place, part_of, mask_of, Covers}
use Rattle.model_check.specs.Ground.{Table, PieceIs, Unions, Gives, round, derived, IsSolved}
use Rattle.model_check.specs.Grounding.{IsQuestion, IsPiece, PieceFits, PiecesFit, IsRule, HasRule, Grounds}
use Rattle.model_check.proofs.OnlyLocals.{left_inside, right_inside, inside_trans, inside_all, holds_fits}
use Rattle.model_check.proofs.MaskParts.{part_union, mask_union, part_one, mask_one, part_zero, mask_zero, part_mask}

pub each_one : {X : Type 0} (P Q : X → Type 0) (xs : List X) → Each P xs → OneOf Q xs → OneOf (λ x. P x × Q x) xs
each_one P Q [] a o = absurd o
each_one P Q (x ∷ xs) a (inl q) = inl (a.0, q)
each_one P Q (x ∷ xs) a (inr o) = inr (each_one P Q xs a.1 o)

pub some_of : {X : Type 0} (P : X → Type 0) (xs : List X) → OneOf P xs → (x : X) × P x
some_of P [] o = absurd o
some_of P (x ∷ xs) (inl p) = (x, p)
some_of P (x ∷ xs) (inr o) = some_of P xs o

module _ (h : Cells) (ns : List ℕ) (qs : List Question) (c : Covers ns h) (k : IsHeap h) (s e : Stack) (T : Table)
    (P : Family) where
  -- from masks to parts
  module _ (up : (q f p : ℕ) (vs : List ℕ) → IsQuestion qs q p vs → T q f → P p vs (part_of ns h f)) where
    piece_atom : (x : Spatial) (y : Piece) (f : ℕ) → CellFits h s e x → PieceFits ns qs s e x y → PieceIs T y f
        → AtomHolds P s e x (part_of ns h f)
    piece_atom (Cell t ts) y f a z i =
        let a' = value s e t in
        let vs = values s e ts in
        let is : f ≡ 2 ^ place ns a' = subst (λ w. PieceIs T w f) z i in
        (k.positive a' vs a, k.fields a' vs a, ap (part_of ns h) is ∙ part_one ns h a' vs c a)
    piece_atom (Pred p ts) (Here m) f a z i = absurd z
    piece_atom (Pred p ts) (Of q) f a z i = up q f p (values s e ts) z i

    pub unions_spatial : (xs : List Spatial) (ys : List Piece) (m : ℕ) → Each (CellFits h s e) xs
        → PiecesFit ns qs s e xs ys → Unions T ys m → SpatialHolds (λ _. P) s e xs (part_of ns h m)
    unions_spatial [] [] m a z u = ap (part_of ns h) u ∙ part_zero ns h
    unions_spatial [] (y ∷ ys) m a z u = absurd z
    unions_spatial (x ∷ xs) [] m a z u = absurd z
    unions_spatial (x ∷ xs) (y ∷ ys) m a z u =
        record {
          part = part_of ns h u.part;
          rest = part_of ns h u.rest;
          union = part_union ns h u.part u.rest m u.union;
          first = piece_atom x y u.part a.0 z.0 u.first;
          others = unions_spatial xs ys u.rest a.1 z.1 u.others;
        }

  -- from parts to masks
  module _ (down : (q p : ℕ) (vs : List ℕ) (g : Cells) → IsQuestion qs q p vs → Inside g h → P p vs g
      → T q (mask_of ns g)) where
    atom_piece : (x : Spatial) (y : Piece) (g : Cells) → Inside g h → CellFits h s e x → PieceFits ns qs s e x y
        → AtomHolds P s e x g → PieceIs T y (mask_of ns g)
    atom_piece (Cell t ts) y g w a z i =
        let a' = value s e t in
        let vs = values s e ts in
        let m : mask_of ns g ≡ 2 ^ place ns a' = ap (mask_of ns) i.2 ∙ mask_one ns a' vs (c.listed a' vs a) in
        subst (λ v. PieceIs T v (mask_of ns g)) (sym z) m
    atom_piece (Pred p ts) (Here m) g w a z i = absurd z
    atom_piece (Pred p ts) (Of q) g w a z i = down q p (values s e ts) g z w i

    pub spatial_unions : (xs : List Spatial) (ys : List Piece) (g : Cells) → Inside g h → Each (CellFits h s e) xs
        → PiecesFit ns qs s e xs ys → SpatialHolds (λ _. P) s e xs g → Unions T ys (mask_of ns g)
    spatial_unions [] [] g w a z u = ap (mask_of ns) u ∙ mask_zero ns
    spatial_unions [] (y ∷ ys) g w a z u = absurd z
    spatial_unions (x ∷ xs) [] g w a z u = absurd z
    spatial_unions (x ∷ xs) (y ∷ ys) g w a z u =
        record {
          part = mask_of ns u.part;
          rest = mask_of ns u.rest;
          union = mask_union ns u.part u.rest g u.union;
          first = atom_piece x y u.part (inside_trans u.part g h (left_inside u.part u.rest g u.union) w)
              a.0 z.0 u.first;
          others = spatial_unions xs ys u.rest (inside_trans u.rest g h (right_inside u.part u.rest g u.union) w)
              a.1 z.1 u.others;
        }

module _ (ns : List ℕ) (qs : List Question) where
  values_agree : (s e s' o : Stack) (ts : List Term) → Each (λ t. value s' o t ≡ value s e t) ts
      → values s e ts ≡ values s' o ts
  values_agree s e s' o [] k = refl
  values_agree s e s' o (t ∷ ts) k = λ i. sym k.0 i ∷ values_agree s e s' o ts k.1 i

  piece_agrees : (s e s' o : Stack) (x : Spatial) (y : Piece) → InSpatial (λ t. value s' o t ≡ value s e t) x
      → PieceFits ns qs s e x y → PieceFits ns qs s' o x y
  piece_agrees s e s' o (Cell t ts) y k z = subst (λ a. y ≡ Here (place ns a)) (sym k.0) z
  piece_agrees s e s' o (Pred p ts) y k z = subst (λ vs. IsPiece qs p vs y) (values_agree s e s' o ts k) z

  pub pieces_agree : (s e s' o : Stack) (xs : List Spatial) (ys : List Piece)
      → Each (InSpatial (λ t. value s' o t ≡ value s e t)) xs → PiecesFit ns qs s e xs ys → PiecesFit ns qs s' o xs ys
  pieces_agree s e s' o [] [] k z = tt
  pieces_agree s e s' o [] (y ∷ ys) k z = absurd z
  pieces_agree s e s' o (x ∷ xs) [] k z = absurd z
  pieces_agree s e s' o (x ∷ xs) (y ∷ ys) k z = (piece_agrees s e s' o x y k.0 z.0, pieces_agree s e s' o xs ys k.1 z.1)

pub one_question : (qs : List Question) (q p u : ℕ) (vs us : List ℕ) → IsQuestion qs q p vs → IsQuestion qs q u us
    → (p ≡ u) × (vs ≡ us)
one_question qs q p u vs us i j =
    let x : Question = record { predicate = p; values = vs } in
    let y : Question = record { predicate = u; values = us } in
    let s : Some x ≡ Some y = sym i ∙ j in
    let e : x ≡ y = cc in
    (ap (λ z. z.predicate) e, ap (λ z. z.values) e)

module _ (ds : List Definition) (h : Cells) (ns : List ℕ) (qs : List Question) (rules : List GroundRule)
    (covers : Covers ns h) (heap : IsHeap h) (sound : Each (IsRule ds h ns qs) rules) where
  abbrev CaseRule : List ℕ → GroundRule → SymbolicHeap → Type 0
  CaseRule us r b = (e : Stack) × Fits h us e b × PiecesFit ns qs us e b.spatial r.pieces

  -- what is derived in n rounds holds at stage n
  pub round_stage : (n q m p : ℕ) (vs : List ℕ) → IsQuestion qs q p vs → round rules n q m
      → at_stage ds n p vs (part_of ns h m)
  round_stage zero q m p vs i d = absurd d
  round_stage (suc n) q m p vs i d =
      let r = some_of (λ r. IsRule ds h ns qs r × Gives (round rules n) q m r) rules
      (each_one (IsRule ds h ns qs) (Gives (round rules n) q m) rules sound d) in
      let t = r.1.0 in
      let asked : IsQuestion qs q t.predicate t.values = subst (λ j. IsQuestion qs j t.predicate t.values)
      r.1.1.0 t.question in
      let same = one_question qs q t.predicate p t.values vs asked i in
      let at_p = subst (λ us. OneOf (CaseRule us r.0) (cases_of ds t.predicate)) same.1 t.of_case in
      let at_vs : OneOf (CaseRule vs r.0) (cases_of ds p) = subst (λ u. OneOf (CaseRule vs r.0) (cases_of ds u))
      same.0 at_p in
      OneOf-map (CaseRule vs r.0) (CaseHolds (at_stage ds n) vs (part_of ns h m)) (λ b o. (
        o.0,
        (
          o.1.pure,
          unions_spatial h ns qs covers heap vs o.0 (round rules n) (at_stage ds n)
              (λ j f u us x y. round_stage n j f u us x y) b.spatial r.0.pieces m o.1.cells o.2 r.1.1.1,
        ),
      )) (cases_of ds p) at_vs

  -- ---- the question that is asked

  whole : part_of ns h (mask_of ns h) ≡ h
  whole = part_mask ns h h covers (inside_all h)

  pub part_satisfies : (s e : Stack) (a : SymbolicHeap) (ys : List Piece) (m : ℕ) → Fits h s e a
      → PiecesFit ns qs s e a.spatial ys → Unions (derived rules) ys m → Satisfies ds s (part_of ns h m) a
  part_satisfies s e a ys m f z u =
      let x = unions_spatial h ns qs covers heap s e (derived rules) (least ds)
      (λ j m p vs i d. (d.0, round_stage d.0 j m p vs i d.1)) a.spatial ys m f.cells z u in
      let w = one_stage ds s e a.spatial (part_of ns h m) x in
      (λ _. w.0, (e, (f.pure, w.1)))

  pub unions_satisfy : (s e : Stack) (a : SymbolicHeap) (ys : List Piece) → Fits h s e a
      → PiecesFit ns qs s e a.spatial ys → Unions (derived rules) ys (mask_of ns h) → Satisfies ds s h a
  unions_satisfy s e a ys f z u =
      subst (λ c. Satisfies ds s c a) whole (part_satisfies s e a ys (mask_of ns h) f z u)

module _ (ds : List Definition) (h : Cells) (ns : List ℕ) (qs : List Question) (rules : List GroundRule)
    (g : Grounds ds h ns qs rules) where
  -- what holds at stage n of a part is derived in n rounds
  pub stage_round : (n q p : ℕ) (vs : List ℕ) (part : Cells) → IsQuestion qs q p vs → Inside part h
      → at_stage ds n p vs part → round rules n q (mask_of ns part)
  stage_round zero q p vs part i w d = absurd d
  stage_round (suc n) q p vs part i w d =
      let a = g.complete q p vs i in
      let one = some_of (λ b. ((e : Stack) → Fits h vs e b → HasRule ns qs rules q vs e b.spatial)
      × CaseHolds (at_stage ds n) vs part b) (cases_of ds p)
      (each_one (λ b. (e : Stack) → Fits h vs e b → HasRule ns qs rules q vs e b.spatial)
      (CaseHolds (at_stage ds n) vs part) (cases_of ds p) a.has d) in
      let b = one.0 in
      let e = one.1.1.0 in
      let f : Fits h vs e b = holds_fits (λ _. at_stage ds n) vs e b part h w one.1.1.1 in
      OneOf-map (λ r. (r.head ≡ q) × PiecesFit ns qs vs e b.spatial r.pieces)
      (Gives (round rules n) q (mask_of ns part)) (λ r z. (
        z.0,
        spatial_unions h ns qs g.covers g.heap vs e (round rules n) (at_stage ds n)
            (λ j u us c x y t. stage_round n j u us c x y t) b.spatial r.pieces part w f.cells z.1 one.1.1.1.1,
      )) rules (one.1.0 e f)

  pub satisfied_unions : (s e : Stack) (a : SymbolicHeap) (ys : List Piece) (part : Cells) → Inside part h
      → IsOnly h s e a → PiecesFit ns qs s e a.spatial ys → Satisfies ds s part a
      → Unions (derived rules) ys (mask_of ns part)
  satisfied_unions s e a ys part w k z x =
      let o = x.1.0 in
      let f : Fits h s o a = holds_fits (λ k. at_stage ds (x.0 k)) s o a part h w x.1.1 in
      let y = spatial_within (λ k. at_stage ds (x.0 k)) (λ _. least ds) (λ k p vs c d. (x.0 k, d))
      s o a.spatial part x.1.1.1 in
      spatial_unions h ns qs g.covers g.heap s o (derived rules) (least ds)
      (λ j p vs c i w d. (d.0, stage_round d.0 j p vs c i w d.1)) a.spatial ys part w f.cells
      (pieces_agree ns qs s e s o a.spatial ys (k.only o f).1 z) y

-- ---- a table that is sound and closed has what is derived

pub union_map : (T U : Table) → ((q m : ℕ) → T q m → U q m) → (ys : List Piece) (m : ℕ) → Unions T ys m → Unions U ys m
union_map T U f [] m u = u
union_map T U f (Here n ∷ ys) m u = record {
  part = u.part;
  rest = u.rest;
  union = u.union;
  first = u.first;
  others = union_map T U f ys u.rest u.others;
}
union_map T U f (Of q ∷ ys) m u = record {
  part = u.part;
  rest = u.rest;
  union = u.union;
  first = f q u.part u.first;
  others = union_map T U f ys u.rest u.others;
}

pub round_in : (rules : List GroundRule) (T : Table) → IsSolved rules T → (n q m : ℕ) → round rules n q m → T q m
round_in rules T k zero q m d = absurd d
round_in rules T k (suc n) q m d =
    let r = some_of (λ r. ((m : ℕ) → Unions T r.pieces m → T r.head m) × Gives (round rules n) q m r) rules
    (each_one (λ r. (m : ℕ) → Unions T r.pieces m → T r.head m) (Gives (round rules n) q m) rules k.closed d) in
    subst (λ j. T j m) r.1.1.0 (r.1.0 m (union_map (round rules n) T (round_in rules T k n) r.0.pieces m r.1.1.1))

pub derived_in : (rules : List GroundRule) (T : Table) → IsSolved rules T → (q m : ℕ) → derived rules q m → T q m
derived_in rules T k q m d = round_in rules T k d.0 q m d.1

-- the stage of a derivation of rules whose pieces are derived
rounds_add : (rules : List GroundRule) (n q m : ℕ) → round rules n q m → round rules (suc n) q m
rounds_add rules zero q m d = absurd d
rounds_add rules (suc n) q m d = OneOf-map (Gives (round rules n) q m) (Gives (round rules (suc n)) q m)
    (λ r z. (z.0, union_map (round rules n) (round rules (suc n)) (rounds_add rules n) r.pieces m z.1)) rules d

rounds_le : (rules : List GroundRule) (n d q m : ℕ) → round rules n q m → round rules (n + d) q m
rounds_le rules n zero q m r = let e : n ≡ n + 0 = omega arith in subst (λ k. round rules k q m) e r
rounds_le rules n (suc d) q m r = let e : suc (n + d) ≡ n + suc d = omega arith in
    subst (λ k. round rules k q m) e (rounds_add rules (n + d) q m (rounds_le rules n d q m r))

one_round : (rules : List GroundRule) (ys : List Piece) (m : ℕ) → Unions (derived rules) ys m
    → (n : ℕ) × Unions (round rules n) ys m
one_round rules [] m u = (0, u)
one_round rules (Here k ∷ ys) m u = let r = one_round rules ys u.rest u.others in
    (r.0, record { part = u.part; rest = u.rest; union = u.union; first = u.first; others = r.1 })
one_round rules (Of q ∷ ys) m u =
    let r = one_round rules ys u.rest u.others in
    let n = u.first.0 + r.0 in
    let e : r.0 + u.first.0 ≡ n = omega arith in (
      n,
      record {
        part = u.part;
        rest = u.rest;
        union = u.union;
        first = rounds_le rules u.first.0 r.0 q u.part u.first.1;
        others = subst (λ k. Unions (round rules k) ys u.rest) e
            (union_map (round rules r.0) (round rules (r.0 + u.first.0)) (λ j m. rounds_le rules r.0 u.first.0 j m)
            ys u.rest r.1);
      },
    )

-- what a rule gives from derived masks is derived
pub gives_derived : (rules : List GroundRule) (r : GroundRule) (m : ℕ) → IsMember r rules
    → Unions (derived rules) r.pieces m → derived rules r.head m
gives_derived rules r m i u =
    let w = one_round rules r.pieces m u in (
      suc w.0,
      OneOf-map (λ y. y ≡ r) (Gives (round rules w.0) r.head m)
          (λ y e. (ap (λ z. z.head) e, subst (λ z. Unions (round rules w.0) z.pieces m) (sym e) w.1)) rules i,
    )
