-- Steps of loops over masks.
use Rattle.std.specs.Prelude.{◌==◌}
use Rattle.std.proofs.lemmas.Bool.{eqb-true, or_cases, both_ways}
use Rattle.std.proofs.lemmas.List.{at_drop_more, drop_all}
use Rattle.std.specs.List.{list_any}
use Rattle.std.specs.Cmp.Lexicographic.{pointwise}
use Rattle.model_check.specs.Questions.{lists_decide}
use Rattle.std.proofs.Common.{take, ◌-◌, ◌≡◌, ℕ, zero, suc, ◌+◌, ◌^◌, ◌<◌, ◌≤◌, List, [], ◌∷◌, ◌++◌, append_assoc}
use Rattle.std.proofs.Common.{length, drop, get_or, Bool, true, false, Option, Some, None, refl, sym, ap, ◌∙◌, subst}
use Rattle.std.proofs.Common.{inl, inr, ◌⊎◌, arith}
use Rattle.std.specs.Prelude.{◌↔◌, nat_eq, not, if◌then◌else◌, IsTrue, slice_get, Result, IfOk}
use Rattle.std.specs.Int.Bits.{bit_and, bit_or}
use Rattle.heap_formula.specs.Words.{OneOf}
use Rattle.model_check.specs.declared.ground.Piece.{Piece}
use Rattle.model_check.specs.declared.ground.Piece.TheVariants.{Here, Of}
use Rattle.model_check.specs.WideMasks.{number, HoldsMask}
use Rattle.model_check.specs.Ground.{Apart, Splits, Unions, PieceIs}
use Rattle.model_check.specs.Tables.{Row, Added, JoinsOne, JoinsSome, HasIn, HasMask, JoinsIn, JoinsPiece}
use Rattle.cyc_basics.proofs.Places.{drop_read}
use Rattle.std.proofs.lemmas.Result.{IfOk-weaker}

-- what each member adds to a list
pub appended : {X Y : Type 0} (F : List X → List Y) (one : X → List Y) (xs : List X) (i : ℕ) (d : X)
    (old new whole : List Y) → ((x : X) (ys : List X) → F (x ∷ ys) ≡ one x ++ F ys) → i < length xs
    → new ≡ old ++ one (get_or xs i d) → old ++ F (drop i xs) ≡ whole → new ++ F (drop (i + 1) xs) ≡ whole
appended F one xs i d old new whole step l e was =
    let rest = drop (i + 1) xs in
    ap (λ ys. ys ++ F rest) e ∙ append_assoc old (one (get_or xs i d)) (F rest)
    ∙ ap (λ ys. old ++ ys) (sym (at_drop_more F xs i d l ∙ step (get_or xs i d) rest)) ∙ was

pub loop_step : {X M N G : Type 0} (P : X → Type 0) (xs : List X) (i : ℕ) (x : X) → i < length xs → x ≡ get_or xs i x
    → (N ↔ (M ⊎ P x)) → ((M ⊎ OneOf P (drop i xs)) ↔ G) → ((N ⊎ OneOf P (drop (i + 1) xs)) ↔ G)
loop_step {M = M} {N = N} {G = G} P xs i x h is f g =
    let s = drop_read xs i x h is in
    let before : (M ⊎ (P x ⊎ OneOf P (drop (i + 1) xs))) ↔ G = subst (λ ys. (M ⊎ OneOf P ys) ↔ G) s g in (
      λ o. elim o [
        | inl n ↦ before.0 (elim (f.0 n) as (λ z. M ⊎ (P x ⊎ OneOf P (drop (i + 1) xs)))
            [ inl m ↦ inl m | inr p ↦ inr (inl p) ])
        | inr r ↦ before.0 (inr (inr r))
      ],
      λ y. elim (before.1 y) as (λ z. N ⊎ OneOf P (drop (i + 1) xs)) [
        | inl m ↦ inl (f.1 (inl m))
        | inr o ↦ elim o as (λ z. N ⊎ OneOf P (drop (i + 1) xs))
            [ inl p ↦ inl (f.1 (inr p)) | inr r ↦ inr r ]
      ],
    )

pub loop_end : {X M G : Type 0} (P : X → Type 0) (xs : List X) (i : ℕ) → length xs ≤ i → ((M ⊎ OneOf P (drop i xs)) ↔ G)
    → (M ↔ G)
loop_end {M = M} {G = G} P xs i h g =
    let e : (M ⊎ ⊥) ↔ G = subst (λ ys. (M ⊎ OneOf P ys) ↔ G) (drop_all i xs h) g in
    (λ m. e.0 (inl m), λ x. elim (e.1 x) as (λ z. M) [ inl m ↦ m | inr b ↦ absurd b ])

row_end : (m : ℕ) (ws : List ℕ) (row : Row) → HoldsMask m (row ++ ws ∷ []) ↔ (HoldsMask m row ⊎ (m ≡ number ws))
row_end m ws [] = (
  λ o. elim o as (λ z. ⊥ ⊎ (m ≡ number ws)) [ inl e ↦ inr (sym e) | inr b ↦ absurd b ],
  λ o.
      elim o as (λ z. (number ws ≡ m) ⊎ ⊥) [ inl b ↦ absurd b | inr e ↦ inl (sym e) ],
)
row_end m ws (v ∷ row) =
    let r = row_end m ws row in (
      λ o. elim o as (λ z. ((number v ≡ m) ⊎ HoldsMask m row) ⊎ (m ≡ number ws)) [
        | inl e ↦ inl (inl e)
        | inr k ↦ elim (r.0 k) as (λ z. ((number v ≡ m) ⊎ HoldsMask m row) ⊎ (m ≡ number ws))
            [ inl a ↦ inl (inr a) | inr b ↦ inr b ]
      ],
      λ o. elim o as (λ z. (number v ≡ m) ⊎ HoldsMask m (row ++ ws ∷ [])) [
        | inl k ↦ elim k as (λ z. (number v ≡ m) ⊎ HoldsMask m (row ++ ws ∷ []))
            [ inl e ↦ inl e | inr a ↦ inr (r.1 (inl a)) ]
        | inr b ↦ inr (r.1 (inr b))
      ],
    )

pub added_members : (old new : Row) (x : ℕ) (b : Bool) → Added old new x b → (m : ℕ) → HoldsMask m new
    ↔ (HoldsMask m old ⊎ (m ≡ x))
added_members old new x true a m = subst (λ n. HoldsMask m new ↔ (HoldsMask m old ⊎ (m ≡ n))) a.1
    (subst (λ ys. HoldsMask m ys ↔ (HoldsMask m old ⊎ (m ≡ number a.0))) (sym a.2) (row_end m a.0 old))
added_members old new x false a m =
    subst (λ ys. HoldsMask m ys ↔ (HoldsMask m old ⊎ (m ≡ x))) (sym a.0) (
      λ k. inl k,
      λ o. elim o as (λ z. HoldsMask m old) [
        | inl k ↦ k
        | inr e ↦ subst (λ y. HoldsMask y old) (sym e)
            a.1
      ],
    )

pub pair_added : (part rest : ℕ) (old new : Row) (x : ℕ) (b : Bool) → bit_and part rest ≡ 0 → x ≡ bit_or part rest
    → Added old new x b → (m : ℕ) → HoldsMask m new ↔ (HoldsMask m old ⊎ Apart part rest m)
pair_added part rest old new x b z w a m =
    let r = added_members old new x b a m in (
      λ k. elim (r.0 k) as (λ y. HoldsMask m old ⊎ Apart part rest m)
          [ inl o ↦ inl o | inr e ↦ inr (record { apart = z; whole = e ∙ w }) ],
      λ o. elim o as (λ y. HoldsMask m new) [ inl k ↦ r.1 (inl k) | inr p ↦ r.1 (inr (p.whole ∙ sym w)) ],
    )

-- one cell with each of the others, where it is the only mask of its list
pub cell_joined : (part : List ℕ) (place : ℕ) (parts others out : Row) (m : ℕ) → parts ≡ part ∷ []
    → number part ≡ 2 ^ place → (HoldsMask m out ↔ JoinsSome parts others m)
    → (HoldsMask m out ↔ JoinsOne (2 ^ place) others m)
cell_joined part place parts others out m e p k =
    let k' : HoldsMask m out ↔ (JoinsOne (2 ^ place) others m ⊎ ⊥) = subst
    (λ n. HoldsMask m out ↔ (JoinsOne n others m ⊎ ⊥)) p (subst (λ ps. HoldsMask m out ↔ JoinsSome ps others m) e k)
    in
    (λ h. elim (k'.0 h) as (λ z. JoinsOne (2 ^ place) others m) [ inl j ↦ j | inr b ↦ absurd b ], λ j. k'.1 (inl j))

-- what `insert_full` says
any_holds : (ws : List ℕ) (row : Row) → list_any (pointwise nat_eq ws) row ≡ true → HoldsMask (number ws) row
any_holds ws [] h = absurd (both_ways false refl h)
any_holds ws (v ∷ row) h = elim (or_cases (pointwise nat_eq ws v) (list_any (pointwise nat_eq ws) row) h)
    [ inl e ↦ inl (ap number (sym ((lists_decide ws v).0 e))) | inr r ↦ inr (any_holds ws row r) ]

pub added_full : (old new : Row) (ws : List ℕ) (b : Bool) → b ≡ not (list_any (pointwise nat_eq ws) old)
    → new ≡ (if list_any (pointwise nat_eq ws) old then old else old ++ ws ∷ []) → Added old new (number ws) b
added_full old new ws b f e = by (list_any (pointwise nat_eq ws) old) refl f e
  where
    by : (a : Bool) → list_any (pointwise nat_eq ws) old ≡ a → b ≡ not a → new ≡ (if a then old else old ++ ws ∷ [])
        → Added old new (number ws) b
    by true h f e = subst (Added old new (number ws)) (sym f) (e, any_holds ws old h)
    by false h f e = subst (Added old new (number ws)) (sym f) (ws, refl, e)

-- ---- unions

-- a piece whose question has no masks
pub row_lacks : (table : List Row) (x : Piece) (q : ℕ) (row view : Row) (m : ℕ) {b : Bool} → x ≡ Of q
    → row ≡ get_or table q row → view ≡ row → b ≡ (length view == 0) → IsTrue b → PieceIs (HasMask table) x m → ⊥
row_lacks table x q row view m xe s v e t p = none row (ap (λ ws. length ws == 0) (sym v) ∙ sym e ∙ t)
    (in_row table q row s (subst (λ y. PieceIs (HasMask table) y m) xe p))
  where
    in_row : (table : List Row) (q : ℕ) (row : Row) → row ≡ get_or table q row → HasMask table q m → HoldsMask m row
    in_row [] q row s h = absurd h
    in_row (r ∷ table) zero row s h = subst (HoldsMask m) (sym s) h
    in_row (r ∷ table) (suc q) row s h = in_row table q row s h

    none : (ws : Row) → (length ws == 0) ≡ true → HoldsMask m ws → ⊥
    none [] h k = k
    none (w ∷ ws) h k = let z : suc (length ws) ≡ 0 = eqb-true (suc (length ws)) 0 h in omega arith

-- a number that a row holds
holds_one : (P : ℕ → Type 0) (row : Row) → OneOf (λ ws. P (number ws)) row ↔ ((f : ℕ) × HoldsMask f row × P f)
holds_one P [] = (λ o. absurd o, λ r. absurd r.1)
holds_one P (v ∷ row) =
    let r = holds_one P row in (
      λ o. elim o as (λ z. (f : ℕ) × HoldsMask f (v ∷ row) × P f)
          [ inl p ↦ (number v, inl refl, p) | inr q ↦ let t = r.0 q in (t.0, inr t.1, t.2) ],
      λ t. elim t.1 as (λ z. P (number v) ⊎ OneOf (λ ws. P (number ws)) row)
          [ inl e ↦ inl (subst P (sym e) t.2) | inr k ↦ inr (r.1 (t.0, k, t.2)) ],
    )

joins_splits : (A B : ℕ → Type 0) (parts others : Row) (m : ℕ) → ((f : ℕ) → HoldsMask f parts ↔ A f)
    → ((r : ℕ) → HoldsMask r others ↔ B r) → JoinsSome parts others m ↔ Splits A B m
joins_splits A B parts others m a b = (
  λ j.
      let o = (holds_one (λ part. JoinsOne part others m) parts).0 j in
      let k = (holds_one (λ rest. Apart o.0 rest m) others).0 o.2 in
      record { part = o.0; rest = k.0; union = k.2; first = (a o.0).0 o.1; others = (b k.0).0 k.1 },
  λ s. (holds_one (λ part. JoinsOne part others m) parts).1 (
    s.part,
    (a s.part).1 s.first,
    (holds_one (λ rest. Apart s.part rest m) others).1
        (s.rest, (b s.rest).1 s.others, s.union),
  ),
)

joins_cell : (k : ℕ) (B : ℕ → Type 0) (others : Row) (m : ℕ) → ((r : ℕ) → HoldsMask r others ↔ B r)
    → JoinsOne (2 ^ k) others m ↔ Splits (λ f. f ≡ 2 ^ k) B m
joins_cell k B others m b = (
  λ j.
      let o = (holds_one (λ rest. Apart (2 ^ k) rest m) others).0 j in
      record { part = 2 ^ k; rest = o.0; union = o.2; first = refl; others = (b o.0).0 o.1 },
  λ s. (holds_one (λ rest. Apart (2 ^ k) rest m) others).1
      (s.rest, (b s.rest).1 s.others, subst (λ f. Apart f s.rest m) s.first s.union),
)

joins_in : (o : Option Row) (B : ℕ → Type 0) (others : Row) (m : ℕ) → ((r : ℕ) → HoldsMask r others ↔ B r)
    → JoinsIn o others m ↔ Splits (HasIn o) B m
joins_in None B others m b = (λ j. absurd j, λ s. absurd s.first)
joins_in (Some row) B others m b = joins_splits (λ f. HoldsMask f row) B row others m (λ f. (λ k. k, λ k. k)) b

pub joins_piece : (table : List Row) (x : Piece) (B : ℕ → Type 0) (others : Row) (m : ℕ)
    → ((r : ℕ) → HoldsMask r others ↔ B r) → JoinsPiece table x others m ↔ Splits (PieceIs (HasMask table) x) B m
joins_piece table (Here k) B others m b = joins_cell k B others m b
joins_piece table (Of q) B others m b = joins_in (slice_get table q) B others m b

pub unions_cons : (table : List Row) (xs : List Piece) (d : Piece) → 0 < length xs → (others : Row)
    → ((r : ℕ) → HoldsMask r others ↔ Unions (HasMask table) (drop 1 xs) r) → (m : ℕ)
    → JoinsPiece table (get_or xs 0 d) others m ↔ Unions (HasMask table) xs m
unions_cons table [] d h others b m = absurd (omega arith)
unions_cons table (x ∷ xs) d h others b m = joins_piece table x (Unions (HasMask table) xs) others m b

iff_trans : {A B C : Type 0} → (A ↔ B) → (B ↔ C) → (A ↔ C)
iff_trans f g = (λ a. g.0 (f.0 a), λ c. f.1 (g.1 c))

pub unions_returns : {E : Type 0} (table : List Row) (xs : List Piece) (d : Piece) → 0 < length xs → (others : Row)
    → ((r : ℕ) → HoldsMask r others ↔ Unions (HasMask table) (drop 1 xs) r) → (result : Result Row E)
    → IfOk result (λ out. (m : ℕ) → HoldsMask m out ↔ JoinsPiece table (get_or xs 0 d) others m)
    → IfOk result (λ out. (m : ℕ) → HoldsMask m out ↔ Unions (HasMask table) xs m)
unions_returns table xs d h others b result p =
    IfOk-weaker result (λ out. (m : ℕ) → HoldsMask m out ↔ JoinsPiece table (get_or xs 0 d) others m)
    (λ out. (m : ℕ) → HoldsMask m out ↔ Unions (HasMask table) xs m)
    (λ out q m. iff_trans (q m) (unions_cons table xs d h others b m)) p

take_empty : (n : ℕ) → ◌≡◌ {A = List Piece} (take n []) []
take_empty zero = refl
take_empty (suc n) = refl

take_whole : (xs : List Piece) (n : ℕ) → n ≡ length xs → take n xs ≡ xs
take_whole [] n e = take_empty n
take_whole (x ∷ xs) n e = subst (λ k. take k (x ∷ xs) ≡ x ∷ xs) (sym e)
    (ap (λ ys. x ∷ ys) (take_whole xs (length xs) refl))

pub unions_more : {E : Type 0} (table : List Row) (xs : List Piece) (d : Piece) → false ≡ (length xs == 0)
    → (others view : Row) → view ≡ others → ((r : ℕ) → HoldsMask r others
    ↔ Unions (HasMask table) (take (length xs - 1) (drop 1 xs)) r) → (result : Result Row E)
    → IfOk result (λ out. (m : ℕ) → HoldsMask m out ↔ JoinsPiece table (get_or xs 0 d) view m)
    → IfOk result (λ out. (m : ℕ) → HoldsMask m out ↔ Unions (HasMask table) xs m)
unions_more table [] d h others view v b result p = absurd (let z : false ≡ true = h in cc)
unions_more table (x ∷ xs) d h others view v b result p =
    let n : suc (length xs) - 1 ≡ length xs = omega arith in
    let b' = λ (r : ℕ). subst (λ ys. HoldsMask r others ↔ Unions (HasMask table) ys r)
    (take_whole xs (suc (length xs) - 1) n) (b r) in
    let b'' = λ (r : ℕ). subst (λ ys. HoldsMask r ys ↔ Unions (HasMask table) xs r) (sym v) (b' r) in
    unions_returns table (x ∷ xs) d (omega arith) view b'' result p
