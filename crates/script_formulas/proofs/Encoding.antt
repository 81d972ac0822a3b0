-- Heaps with sorts as heaps without: a cell has as many fields as tell its constructor.
use Rattle.std.proofs.Common.{◌≡◌, ℕ, zero, suc, ◌+◌, ◌<◌, Bool, true, false, cond, List, [], ◌∷◌, ◌++◌, length}
use Rattle.std.proofs.Common.{Option, Some, None, refl, sym, ap, ◌∙◌, subst, arith, ◌⊎◌, inl, inr}
use Rattle.std.specs.Prelude.{nat_eq, slice_index, replicate}
use Rattle.std.specs.Ordering.{nat_cmp, eq_by_cmp}
use Rattle.std.specs.Cmp.{nat_cmp_total, nat_eq_equiv}
use Rattle.std.specs.FinMap.{entries, get-entries, get-empty, insert, get-insert}
use Rattle.std.specs.FinMap.Entries.{find}
use Rattle.std.proofs.lemmas.Bool.{eqb-true}
use Rattle.heap_formula.specs.Cells.{Cells, cell_at, no_cells, one_cell, Joins, IsUnion}
use Rattle.heap_formula.proofs.Unions.{same_cells}
use Rattle.heap_formula.proofs.HeapLaws.{one_cell_at}
use Rattle.heap_formula.proofs.Insertions.{same_address, one_cell_has}
use Rattle.script_formulas.specs.Heaps.{SortedCells, no_sorted_cells, one_sorted_cell, IsSortedUnion}
use Rattle.script_formulas.specs.Translating.{AreToldApart}
use Rattle.script_formulas.specs.Spread.{IsApart}

-- ---- what stands in a union

pub joined_from : {X : Type 0} (x y r : Option X) (w : X) → Joins x y r → r ≡ Some w → (x ≡ Some w) ⊎ (y ≡ Some w)
joined_from None y r w j e = inr (sym j ∙ e)
joined_from (Some x) None r w j e = inl (sym j ∙ e)
joined_from (Some x) (Some y) r w j e = absurd j

pub joined_left : {X : Type 0} (x y r : Option X) (w : X) → Joins x y r → x ≡ Some w → r ≡ Some w
joined_left None y r w j e = absurd cc
joined_left (Some x) None r w j e = j ∙ e
joined_left (Some x) (Some y) r w j e = absurd j

pub joined_right : {X : Type 0} (x y r : Option X) (w : X) → Joins x y r → y ≡ Some w → r ≡ Some w
joined_right None y r w j e = j ∙ e
joined_right (Some x) None r w j e = absurd cc
joined_right (Some x) (Some y) r w j e = absurd j

pub joined_once : {X : Type 0} (x y r : Option X) (v w : X) → Joins x y r → x ≡ Some v → y ≡ Some w → ⊥
joined_once None y r v w j e f = cc
joined_once (Some x) None r v w j e f = cc
joined_once (Some x) (Some y) r v w j e f = j

same_options : {X : Type 0} (x y : Option X) → ((u : X) → x ≡ Some u → y ≡ Some u)
    → ((u : X) → y ≡ Some u → x ≡ Some u) → x ≡ y
same_options None None f g = refl
same_options None (Some y) f g = g y refl
same_options (Some x) y f g = sym (f x refl)

-- a union of heaps that have no address in common
pub over : List (ℕ × List ℕ) → Cells → Cells
over [] r = r
over (e ∷ es) r = insert (over es r) e.0 e.1

abbrev pub first_some : {X : Type 0} → Option X → Option X → Option X
first_some None y = y
first_some (Some x) y = Some x

pub over_at : (es : List (ℕ × List ℕ)) (r : Cells) (a : ℕ) → cell_at (over es r) a
    ≡ first_some (find nat_cmp a es) (cell_at r a)
unfolding over
over_at [] r a = refl
over_at (e ∷ es) r a =
    get-insert nat_cmp_total (over es r) e.0 e.1 a
    ∙ ap (cond (eq_by_cmp nat_cmp a e.0) (Some e.1)) (over_at es r a)
    ∙ elim (eq_by_cmp nat_cmp a e.0) as (λ b. cond b (Some e.1) (first_some (find nat_cmp a es) (cell_at r a))
    ≡ first_some (cond b (Some e.1) (find nat_cmp a es)) (cell_at r a)) [ true ↦ refl | false ↦ refl ]

joins_first : {X : Type 0} (x y : Option X) → ((v w : X) → x ≡ Some v → y ≡ Some w → ⊥) → Joins x y (first_some x y)
joins_first None y n = refl
joins_first (Some x) None n = refl
joins_first (Some x) (Some y) n = n x y refl refl

pub union_of : (l r : Cells) → ((a : ℕ) (v w : List ℕ) → cell_at l a ≡ Some v → cell_at r a ≡ Some w → ⊥)
    → (h : Cells) × IsUnion l r h
union_of l r n = (
  over (entries l) r,
  record {
    joins = λ a. subst (λ o. Joins (cell_at l a) (cell_at r a) o)
        (sym (over_at (entries l) r a ∙ ap (λ o. first_some o (cell_at r a)) (sym (get-entries l a))))
        (joins_first (cell_at l a) (cell_at r a) (n a));
  },
)

-- ---- the parts of a heap in which sorts are apart

pub part_apart : {l r h : SortedCells} → IsSortedUnion l r h → IsApart h → IsApart l
part_apart u p = record {
  same = λ sort other a x y e f. p.same sort other a x y (joined_left _ _ _ x ((u.at sort).joins a) e)
      (joined_left _ _ _ y ((u.at other).joins a) f);
}

pub rest_apart : {l r h : SortedCells} → IsSortedUnion l r h → IsApart h → IsApart r
rest_apart u p = record {
  same = λ sort other a x y e f. p.same sort other a x y (joined_right _ _ _ x ((u.at sort).joins a) e)
      (joined_right _ _ _ y ((u.at other).joins a) f);
}

-- ---- lists

front_same : (xs ys us bs : List ℕ) → length xs ≡ length ys → xs ++ us ≡ ys ++ bs → xs ≡ ys
front_same [] [] us bs e p = refl
front_same [] (y ∷ ys) us bs e p = absurd (omega arith)
front_same (x ∷ xs) [] us bs e p = absurd (omega arith)
front_same (x ∷ xs) (y ∷ ys) us bs e p =
    let head : x ≡ y = cc in
    let tail : xs ++ us ≡ ys ++ bs = cc in
    λ i. head i ∷ front_same xs ys us bs (omega arith) tail i

one_cell_is : (a : ℕ) (vs : List ℕ) (q : ℕ) (us : List ℕ) → cell_at (one_cell a vs) q ≡ Some us → (q ≡ a) × (us ≡ vs)
one_cell_is a vs q us e = found (eq_by_cmp nat_cmp q a) refl (sym (one_cell_at a vs q) ∙ e)
  where
    found : (b : Bool) → eq_by_cmp nat_cmp q a ≡ b → cond b (Some vs) None ≡ Some us → (q ≡ a) × (us ≡ vs)
    found true t e = (same_address q a t, cc)
    found false t e = absurd cc

pub same_numbers : (m n : ℕ) → nat_eq m n ≡ true → m ≡ n
same_numbers m n t = eqb-true m n t

itself : (n : ℕ) → nat_eq n n ≡ true
itself n = nat_eq_equiv.refl n

-- ---- encodings

module _ (locations fields widths : List ℕ) where
  -- what stands for a cell of a sort
  pub record IsCoded (sort : ℕ) (x : List ℕ) (o : Option (List ℕ)) : Type 0 where
    pub made : ℕ
    pub values : List ℕ
    pub more : ℕ
    pub is : x ≡ made ∷ values
    pub at_sort : sort ≡ slice_index locations made
    pub has_fields : length values ≡ slice_index fields made
    pub some : 0 < slice_index widths made
    pub wide : length values + more ≡ slice_index widths made
    pub there : o ≡ Some (values ++ replicate more 0)

  -- a heap without sorts has the cells of one with sorts
  pub record Encodes (H : SortedCells) (h : Cells) : Type 0 where
    pub to : (sort a : ℕ) (x : List ℕ) → cell_at (H sort) a ≡ Some x → IsCoded sort x (cell_at h a)
    pub back : (a : ℕ) (ws : List ℕ) → cell_at h a ≡ Some ws → (sort : ℕ) × (x : List ℕ) × (cell_at (H sort) a ≡ Some x)

  coded_there : (sort : ℕ) (x : List ℕ) (o q : Option (List ℕ)) → IsCoded sort x o → IsCoded sort x q → o ≡ q
  coded_there sort x o q k l =
      let made : k.made ≡ l.made = cc (k.is, l.is) in
      let values : k.values ≡ l.values = cc (k.is, l.is) in
      let width : slice_index widths k.made ≡ slice_index widths l.made = ap (slice_index widths) made in
      let long : length k.values ≡ length l.values = ap length values in
      let more : k.more ≡ l.more = omega (arith, k.wide, l.wide, width, long) in
      k.there ∙ (λ i. Some (values i ++ replicate (more i) 0)) ∙ sym l.there

  length_filled : (vs : List ℕ) (n : ℕ) → length (vs ++ replicate n 0) ≡ length vs + n
  length_filled [] zero = refl
  length_filled [] (suc n) = let e = length_filled [] n in omega arith
  length_filled (v ∷ vs) n = let e = length_filled vs n in omega arith

  module _ (told : AreToldApart widths) where
    coded_same : (sort other : ℕ) (x y : List ℕ) (o : Option (List ℕ)) → IsCoded sort x o → IsCoded other y o
        → (sort ≡ other) × (x ≡ y)
    coded_same sort other x y o k l =
        let both : k.values ++ replicate k.more 0 ≡ l.values ++ replicate l.more 0 = cc (k.there, l.there) in
        let long : length (k.values ++ replicate k.more 0) ≡ length (l.values ++ replicate l.more 0) = ap length both in
        let first = length_filled k.values k.more in
        let second = length_filled l.values l.more in
        let width : slice_index widths k.made ≡ slice_index widths l.made =
        omega (arith, k.wide, l.wide, long, first, second) in
        let made : k.made ≡ l.made = told k.made l.made k.some width in
        let count : length k.values ≡ length l.values = k.has_fields ∙ ap (slice_index fields) made ∙ sym
        l.has_fields in
        let values : k.values ≡ l.values = front_same k.values l.values (replicate k.more 0) (replicate l.more 0)
        count both in (
          k.at_sort ∙ ap (slice_index locations) made ∙ sym l.at_sort,
          k.is ∙ (λ i. made i ∷ values i) ∙ sym l.is,
        )

    pub encodes_apart : (H : SortedCells) (h : Cells) → Encodes H h → IsApart H
    encodes_apart H h c = record {
      same = λ sort other a x y e f. (coded_same sort other x y (cell_at h a) (c.to sort a x e) (c.to other a y f)).0;
    }

    sorted_within : (H G : SortedCells) (h : Cells) → Encodes H h → Encodes G h → (sort a : ℕ) (x : List ℕ)
        → cell_at (H sort) a ≡ Some x → cell_at (G sort) a ≡ Some x
    sorted_within H G h c d sort a x e =
        let k = c.to sort a x e in
        let b = d.back a (k.values ++ replicate k.more 0) k.there in
        let same = coded_same b.0 sort b.1 x (cell_at h a) (d.to b.0 a b.1 b.2) k in
        ap (λ t. cell_at (G t) a) (sym same.0) ∙ b.2 ∙ ap Some same.1

    -- one heap with sorts alone has such cells
    pub encodes_once : (H G : SortedCells) (h : Cells) → Encodes H h → Encodes G h → H ≡ G
    encodes_once H G h c d = λ i sort. same_cells (H sort) (G sort)
        (λ a. same_options (cell_at (H sort) a) (cell_at (G sort) a) (sorted_within H G h c d sort a)
        (sorted_within G H h d c sort a)) i

  within : (H : SortedCells) (g h : Cells) → Encodes H g → Encodes H h → (a : ℕ) (ws : List ℕ) → cell_at g a ≡ Some ws
      → cell_at h a ≡ Some ws
  within H g h c d a ws e =
      let b = c.back a ws e in
      coded_there b.0 b.1 (cell_at h a) (cell_at g a) (d.to b.0 a b.1 b.2) (c.to b.0 a b.1 b.2) ∙ e

  -- it has them in one heap alone
  pub encodes_same : (H : SortedCells) (g h : Cells) → Encodes H g → Encodes H h → g ≡ h
  encodes_same H g h c d = same_cells g h (λ a. same_options (cell_at g a) (cell_at h a) (within H g h c d a)
      (within H h g d c a))

  pub encodes_none : Encodes no_sorted_cells no_cells
  encodes_none = record {
    to = λ sort a x e. absurd (let g = get-empty {X = List ℕ} nat_cmp a in cc);
    back = λ a ws e. absurd (let g = get-empty {X = List ℕ} nat_cmp a in cc);
  }

  pub one_sorted_is : (sort a : ℕ) (x : List ℕ) (other b : ℕ) (y : List ℕ) (t : Bool) → nat_eq sort other ≡ t
      → cell_at (cond t (one_cell a x) no_cells) b ≡ Some y → (sort ≡ other) × (b ≡ a) × (y ≡ x)
  one_sorted_is sort a x other b y true t e =
      let is = one_cell_is a x b y e in (same_numbers sort other t, is.0, is.1)
  one_sorted_is sort a x other b y false t e = absurd (let g = get-empty {X = List ℕ} nat_cmp b in cc)

  pub encodes_one : (sort a : ℕ) (x ws : List ℕ) → IsCoded sort x (Some ws)
      → Encodes (one_sorted_cell sort a x) (one_cell a ws)
  encodes_one sort a x ws k = record {
    to = λ other b y e.
        let is = one_sorted_is sort a x other b y (nat_eq sort other) refl e in
        let there : Some ws ≡ cell_at (one_cell a ws) b = sym (one_cell_has a ws)
        ∙ ap (cell_at (one_cell a ws)) (sym is.1) in
        subst (λ o. IsCoded other y o) there (subst (λ z. IsCoded other z (Some ws)) (sym is.2)
        (subst (λ n. IsCoded n x (Some ws)) is.0 k));
    back = λ b us e.
        let is = one_cell_is a ws b us e in (
          sort,
          x,
          ap (λ t. cell_at (cond t (one_cell a x) no_cells) b) (itself sort) ∙ ap (cell_at (one_cell a x)) is.0
              ∙ one_cell_has a x,
        );
  }

  -- ---- unions

  pub encodes_joined : (L R H : SortedCells) (l r h : Cells) → Encodes L l → Encodes R r → IsSortedUnion L R H
      → IsUnion l r h → Encodes H h
  encodes_joined L R H l r h c d U u = record {
    to = λ sort a x e.
        let there : (cell_at (L sort) a ≡ Some x) ⊎ (cell_at (R sort) a ≡ Some x) =
        joined_from _ _ _ x ((U.at sort).joins a) e in
        elim there [
          | inl f ↦
              let k = c.to sort a x f in
              let w = k.values ++ replicate k.more 0 in
              subst (λ o. IsCoded sort x o) (k.there ∙ sym (joined_left _ _ _ w (u.joins a) k.there)) k
          | inr f ↦
              let k = d.to sort a x f in
              let w = k.values ++ replicate k.more 0 in
              subst (λ o. IsCoded sort x o) (k.there ∙ sym (joined_right _ _ _ w (u.joins a) k.there)) k
        ];
    back = λ a ws e.
        let there : (cell_at l a ≡ Some ws) ⊎ (cell_at r a ≡ Some ws) = joined_from _ _ _ ws (u.joins a) e in
        elim there [
          | inl f ↦ let b = c.back a ws f in (b.0, b.1, joined_left _ _ _ b.1 ((U.at b.0).joins a) b.2)
          | inr f ↦ let b = d.back a ws f in (b.0, b.1, joined_right _ _ _ b.1 ((U.at b.0).joins a) b.2)
        ];
  }

  -- the parts of a heap in which sorts are apart have a union without sorts
  pub union_without : (L R H : SortedCells) (l r : Cells) → Encodes L l → Encodes R r → IsSortedUnion L R H → IsApart H
      → (h : Cells) × Encodes H h × IsUnion l r h
  union_without L R H l r c d U apart =
      let none : (a : ℕ) (v w : List ℕ) → cell_at l a ≡ Some v → cell_at r a ≡ Some w → ⊥ = λ a v w e f.
      let b = c.back a v e in
      let q = d.back a w f in
      let same = apart.same b.0 q.0 a b.1 q.1 (joined_left _ _ _ b.1 ((U.at b.0).joins a) b.2)
      (joined_right _ _ _ q.1 ((U.at q.0).joins a) q.2) in
      joined_once _ _ _ b.1 q.1 ((U.at q.0).joins a) (subst (λ n. cell_at (L n) a ≡ Some b.1) same b.2) q.2 in
      let whole = union_of l r none in
      (whole.0, encodes_joined L R H l r whole.0 c d U whole.1, whole.1)

  -- the parts of a heap without sorts have a union with sorts
  pub union_with : (L R : SortedCells) (l r h : Cells) → Encodes L l → Encodes R r → IsUnion l r h
      → (H : SortedCells) × Encodes H h × IsSortedUnion L R H
  union_with L R l r h c d u =
      let none : (sort a : ℕ) (v w : List ℕ) → cell_at (L sort) a ≡ Some v → cell_at (R sort) a ≡ Some w → ⊥ =
      λ sort a v w e f.
      joined_once _ _ _ _ _ (u.joins a) (c.to sort a v e).there (d.to sort a w f).there in
      let whole = λ (sort : ℕ). union_of (L sort) (R sort) (none sort) in
      let U : IsSortedUnion L R (λ sort. (whole sort).0) = record { at = λ sort. (whole sort).1 } in
      ((λ sort. (whole sort).0), encodes_joined L R (λ sort. (whole sort).0) l r h c d U u, U)
