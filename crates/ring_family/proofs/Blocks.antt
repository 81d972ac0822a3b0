-- Lists in blocks of eight: what stands at each place.
use Rattle.std.proofs.Common.{◌≡◌, ℕ, zero, suc, ◌+◌, ◌-◌, ◌*◌, ◌<◌, ◌≤◌, ◌⊎◌, inl, inr, List, [], ◌∷◌, ◌++◌, arith}
use Rattle.std.proofs.Common.{Some, None, slice_get, length, map, sym, refl, ap, ◌∙◌, subst, length-append}
use Rattle.std.proofs.lemmas.Bool.{cases_eq}
use Rattle.std.proofs.lemmas.List.{map-append}
use Rattle.buchi_core.proofs.Lists.{get_append_right, get_append_cases}
use Rattle.ring_family.specs.Ring.{in_blocks}
use Rattle.cyc_basics.proofs.Places.{get_append_left}

-- member r of block m, counted from block i on
pub record InBlock {X : Type 0} (block : ℕ → List X) (i n v : ℕ) (x : X) : Type 0 where
  pub m : ℕ
  pub r : ℕ
  pub first : i ≤ m
  pub last : m < i + n
  pub place : v + 8 * i ≡ 8 * m + r
  pub is_x : slice_get (block m) r ≡ Some x

module _ {X : Type 0} (block : ℕ → List X) (last : X) (eight : (i : ℕ) → length (block i) ≡ 8) where
  pub blocks_long : (i n : ℕ) → length (in_blocks block last i n) ≡ 8 * n + 1
  blocks_long i zero = refl
  blocks_long i (suc n) = omega (
    arith,
    length-append (block i) (in_blocks block last (suc i) n),
    eight i,
    blocks_long (suc i) n,
  )

  pub blocks_cases : (i n v : ℕ) (x : X) → slice_get (in_blocks block last i n) v ≡ Some x
      → InBlock block i n v x ⊎ ((v ≡ 8 * n) × (last ≡ x))
  blocks_cases i zero zero x h = inr (refl, (cc))
  blocks_cases i zero (suc v) x h = absurd (let e : None ≡ Some x = h in cc)
  blocks_cases i (suc n) v x h =
      elim (get_append_cases (block i) (in_blocks block last (suc i) n) v x h) [
        | inl a ↦ inl (record {
          m = i;
          r = v;
          first = omega arith;
          last = omega arith;
          place = omega arith;
          is_x = a.1;
        })
        | inr b ↦ elim (blocks_cases (suc i) n b.0 x b.2) [
          | inl c ↦ inl (record {
            m = c.m;
            r = c.r;
            first = omega (arith, c.first);
            last = omega (arith, c.last);
            place = omega (arith, c.place, b.1, eight i);
            is_x = c.is_x;
          })
          | inr c ↦ inr (omega (arith, c.0, b.1, eight i), c.1)
        ]
      ]

  pub in_block : (i n v m r : ℕ) (x : X) → i ≤ m → m < i + n → v + 8 * i ≡ 8 * m + r → slice_get (block m) r ≡ Some x
      → slice_get (in_blocks block last i n) v ≡ Some x
  in_block i zero v m r x a b e h = absurd (omega arith)
  in_block i (suc n) v m r x a b e h =
      elim (cases_eq i m) [
        | inl same ↦
            (let v_is : r ≡ v = omega arith in
            get_append_left (block i) (in_blocks block last (suc i) n) v x
            (subst (λ w. slice_get (block i) w ≡ Some x) v_is
            (subst (λ w. slice_get (block w) r ≡ Some x) (sym same) h)))
        | inr other ↦
            (let lower : i < m = omega arith in
            get_append_right (block i) (in_blocks block last (suc i) n) (v - 8) v (omega (arith, eight i))
            ∙ in_block (suc i) n (v - 8) m r x (omega arith) (omega arith) (omega arith) h)
      ]

  pub at_last : (i n v : ℕ) → v ≡ 8 * n → slice_get (in_blocks block last i n) v ≡ Some last
  at_last i zero v e = let z : v ≡ 0 = omega arith in ap (slice_get (last ∷ [])) z
  at_last i (suc n) v e =
      get_append_right (block i) (in_blocks block last (suc i) n) (v - 8) v (omega (arith, eight i))
      ∙ at_last (suc i) n (v - 8) (omega arith)

-- P of each member with its place, the list beginning at place r
abbrev pub EachFrom : {X : Type 0} → (ℕ → X → Type 0) → ℕ → List X → Type 0
EachFrom P r [] = Unit {0}
EachFrom P r (x ∷ xs) = P r x × EachFrom P (suc r) xs

pub each_from : {X : Type 0} (P : ℕ → X → Type 0) (r i s : ℕ) (xs : List X) (x : X) → s ≡ r + i
    → slice_get xs i ≡ Some x → EachFrom P r xs → P s x
each_from P r i s [] x e h a = absurd (let f : None ≡ Some x = h in cc)
each_from P r zero s (y ∷ xs) x e h a =
    let place : r ≡ s = omega arith in
    let f : Some y ≡ Some x = h in
    let same : y ≡ x = cc in subst (λ w. P w x) place (subst (P r) same a.0)
each_from P r (suc i) s (y ∷ xs) x e h a = each_from P (suc r) i s xs x (omega arith) h a.1

-- a map of each block
pub blocks_map : {X Y : Type 0} (f : X → Y) (block : ℕ → List X) (last : X) (image : ℕ → List Y) (end : Y) (i n : ℕ) →
    ((m : ℕ) → i ≤ m → m < i + n → map f (block m) ≡ image m) → f last ≡ end
    → map f (in_blocks block last i n) ≡ in_blocks image end i n
blocks_map f block last image end i zero h e = ap (λ y. y ∷ []) e
blocks_map f block last image end i (suc n) h e =
    map-append f (block i) (in_blocks block last (suc i) n) ∙
    (ap (λ ys. ys ++ map f (in_blocks block last (suc i) n)) (h i (omega arith) (omega arith)) ∙
    ap (λ ys. image i ++ ys) (blocks_map f block last image end (suc i) n (λ m a b. h m (omega arith) (omega arith)) e))
