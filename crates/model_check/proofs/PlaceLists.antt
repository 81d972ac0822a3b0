-- The places of addresses.
use Rattle.std.specs.Int.Bits.{bit_or}
use Rattle.std.specs.Option.{is_some}
use Rattle.std.specs.Prelude.{slice_index, ◌&&◌, ◌^◌, nat_eq, nat_lt, position, if◌then◌else◌, not, ◌↔◌, Result, Ok}
use Rattle.std.specs.Prelude.{Err, IfOk}
use Rattle.std.proofs.Common.{◌≡◌, ℕ, zero, suc, ◌+◌, ◌<◌, ◌≤◌, List, [], ◌∷◌, ◌++◌, length, drop, get_or, drop-cons}
use Rattle.std.proofs.Common.{add-one, Bool, true, false, cond, Some, None, refl, sym, ap, ◌∙◌, subst, inl, inr, ◌⊎◌}
use Rattle.std.proofs.Common.{map, arith}
use Rattle.std.specs.List.{list_any, position_or_len}
use Rattle.std.specs.Ordering.{nat_cmp, eq_by_cmp}
use Rattle.std.specs.FinMap.{entries, find, get-entries}
use Rattle.std.proofs.lemmas.Bool.{lt-ltb, cases_Bool, cases_lt, eqb-true, or_cases, both_ways}
use Rattle.heap_formula.specs.Cells.{Cells, cell_at}
use Rattle.heap_formula.proofs.Insertions.{same_address}
use Rattle.cyc_basics.specs.Words.{IsMember}
use Rattle.model_check.specs.MaskParts.{place, from_bits, stands, Covers}
use Rattle.model_check.proofs.MaskParts.{turned_eq, more_bits, same_bits}
use Rattle.cyc_basics.proofs.Places.{position_at}

place_position : (ns : List ℕ) (a : ℕ) → position_or_len (nat_eq a) ns ≡ place ns a
place_position [] a = refl
place_position (x ∷ ns) a = ap (λ r. cond (not (nat_eq a x)) (1 + r) 0) (place_position ns a)
    ∙ by (nat_eq a x) (nat_eq x a) (turned_eq a x)
  where
    by : (b c : Bool) → b ≡ c → cond (not b) (1 + place ns a) 0 ≡ (if c then 0 else suc (place ns a))
    by true true e = refl
    by false false e = omega arith
    by true false e = absurd (both_ways false refl (sym e))
    by false true e = absurd (both_ways false refl e)

pub place_found : (ns : List ℕ) (a i : ℕ) → Some i ≡ position (nat_eq a) ns → i ≡ place ns a
place_found ns a i h = sym (position_at (nat_eq a) ns i (sym h)) ∙ place_position ns a

position_none : {X : Type 0} (p : X → Bool) (xs : List X) → position p xs ≡ None → length xs ≤ position_or_len p xs
position_none p xs h = by (nat_lt (position_or_len p xs) (length xs)) refl h
  where
    by : (b : Bool) → nat_lt (position_or_len p xs) (length xs) ≡ b → cond b (Some (position_or_len p xs)) None ≡ None
        → length xs ≤ position_or_len p xs
    by true l e = absurd (let z : Some (position_or_len p xs) ≡ None = e in cc)
    by false l e = elim (cases_lt (position_or_len p xs) (length xs)) [
      | inl k ↦ absurd (both_ways (nat_lt (position_or_len p xs) (length xs)) l
          (lt-ltb (position_or_len p xs) (length xs) k))
      | inr g ↦ g
    ]

place_most : (ns : List ℕ) (a : ℕ) → place ns a ≤ length ns
place_most [] a = omega arith
place_most (x ∷ ns) a = by (nat_eq x a) (place_most ns a)
  where
    by : (b : Bool) → place ns a ≤ length ns → (if b then 0 else suc (place ns a)) ≤ length (x ∷ ns)
    by true r = omega arith
    by false r = omega arith

pub place_missing : (ns : List ℕ) (a n : ℕ) → n ≡ length ns → None ≡ position (nat_eq a) ns → n ≡ place ns a
place_missing ns a n e h =
    let g : length ns ≤ position_or_len (nat_eq a) ns = position_none (nat_eq a) ns (sym h) in
    let p = place_position ns a in
    let m = place_most ns a in
    omega arith

-- ---- the set of addresses

member_last : (a x : ℕ) (ks : List ℕ) → IsMember a (ks ++ x ∷ []) ↔ (IsMember a ks ⊎ (x ≡ a))
member_last a x [] = (
  λ o. elim o as (λ z. ⊥ ⊎ (x ≡ a)) [ inl e ↦ inr e | inr b ↦ absurd b ],
  λ o.
      elim o as (λ z. (x ≡ a) ⊎ ⊥) [ inl b ↦ absurd b | inr e ↦ inl e ],
)
member_last a x (k ∷ ks) =
    let r = member_last a x ks in (
      λ o. elim o as (λ z. ((k ≡ a) ⊎ IsMember a ks) ⊎ (x ≡ a)) [
        | inl e ↦ inl (inl e)
        | inr m ↦ elim (r.0 m) as (λ z. ((k ≡ a) ⊎ IsMember a ks) ⊎ (x ≡ a))
            [ inl m' ↦ inl (inr m') | inr e ↦ inr e ]
      ],
      λ o. elim o as (λ z. (k ≡ a) ⊎ IsMember a (ks ++ x ∷ [])) [
        | inl m ↦ elim m as (λ z. (k ≡ a) ⊎ IsMember a (ks ++ x ∷ [])) [ inl e ↦ inl e | inr m' ↦ inr (r.1 (inl m')) ]
        | inr e ↦ inr (r.1 (inr e))
      ],
    )

any_member : (x : ℕ) (ks : List ℕ) → list_any (nat_eq x) ks ≡ true → IsMember x ks
any_member x [] h = absurd (both_ways false refl h)
any_member x (k ∷ ks) h = elim (or_cases (nat_eq x k) (list_any (nat_eq x) ks) h)
    [ inl e ↦ inl (sym (eqb-true x k e)) | inr r ↦ inr (any_member x ks r) ]

-- after an address is put in, it and those before stand there
pub inserted : (x : ℕ) (old new : List ℕ) → new ≡ (if list_any (nat_eq x) old then old else old ++ x ∷ []) → (a : ℕ)
    → (IsMember a old ⊎ (x ≡ a)) → IsMember a new
inserted x old new e a o = by (list_any (nat_eq x) old) refl e
  where
    by : (b : Bool) → list_any (nat_eq x) old ≡ b → new ≡ (if b then old else old ++ x ∷ []) → IsMember a new
    by true h e = subst (IsMember a) (sym e) (elim o as (λ z. IsMember a old)
        [ inl m ↦ m | inr k ↦ subst (λ y. IsMember y old) k (any_member x old h) ])
    by false h e = subst (IsMember a) (sym e) ((member_last a x old).1 o)

pub insert_step : (addresses : List ℕ) (i : ℕ) (old new : List ℕ) → i < length addresses
    → new ≡ (if list_any (nat_eq (get_or addresses i 0)) old then old else old ++ get_or addresses i 0 ∷ [])
    → ((a : ℕ) → IsMember a addresses → IsMember a old ⊎ IsMember a (drop i addresses)) → (a : ℕ) → IsMember a addresses
    → IsMember a new ⊎ IsMember a (drop (i + 1) addresses)
insert_step addresses i old new h e k a m =
    let x = get_or addresses i 0 in
    let s : drop i addresses ≡ x ∷ drop (i + 1) addresses = rw (add-one, drop-cons addresses i 0) refl in
    elim (k a m) as (λ z. IsMember a new ⊎ IsMember a (drop (i + 1) addresses)) [
      | inl o ↦ inl (inserted x old new e a (inl o))
      | inr d ↦ elim (subst (IsMember a) s d) as (λ z. IsMember a new ⊎ IsMember a (drop (i + 1) addresses))
          [ inl y ↦ inl (inserted x old new e a (inr y)) | inr r ↦ inr r ]
    ]

found_key : (es : List (ℕ × List ℕ)) (a : ℕ) (vs : List ℕ) → find nat_cmp a es ≡ Some vs
    → IsMember a (map (λ c. c.0) es)
found_key [] a vs f = absurd (let z : None ≡ Some vs = f in cc)
found_key (e ∷ es) a vs f = elim (cases_Bool (eq_by_cmp nat_cmp a e.0)) [
  | inl yes' ↦ inl (sym (same_address a e.0 yes'))
  | inr no' ↦ inr (found_key es a vs (rw no' at f))
]

-- a set with the heap's addresses covers it
pub covers_all : (h : Cells) (addresses keys : List ℕ) → addresses ≡ map (λ c. c.0) (entries h)
    → ((a : ℕ) → IsMember a addresses → IsMember a keys) → Covers keys h
covers_all h addresses keys e k = record {
  listed = λ a vs f.
      k a (subst (IsMember a) (sym e) (found_key (entries h) a vs (sym (get-entries h a) ∙ f)));
}

pub covers_result : {V E : Type 0} (keys : V → List ℕ) (h : Cells) (addresses : List ℕ)
    → addresses ≡ map (λ c. c.0) (entries h) → (r : Result V E)
    → IfOk r (λ p. (a : ℕ) → IsMember a addresses → IsMember a (keys p)) → IfOk r (λ p. Covers (keys p) h)
covers_result keys h addresses e (Ok p) k = covers_all h addresses (keys p) e k
covers_result keys h addresses e (Err x) k = tt

pub insert_end : (addresses : List ℕ) (i : ℕ) (keys : List ℕ) → length addresses ≤ i
    → ((a : ℕ) → IsMember a addresses → IsMember a keys ⊎ IsMember a (drop i addresses)) → (a : ℕ)
    → IsMember a addresses → IsMember a keys
insert_end addresses i keys h k a m = elim (k a m) as (λ z. IsMember a keys)
    [ inl o ↦ o | inr d ↦ absurd (none addresses i h d) ]
  where
    none : (xs : List ℕ) (i : ℕ) → length xs ≤ i → ¬ IsMember a (drop i xs)
    none [] zero h d = d
    none [] (suc i) h d = d
    none (x ∷ xs) zero h d = omega arith
    none (x ∷ xs) (suc i) h d = none xs i (omega arith) d

-- ---- the mask of the whole heap, a place at a time

pub standing_more : (ns : List ℕ) (h : Cells) (i a mask one m : ℕ) (b : Bool) → a ≡ slice_index ns i
    → mask ≡ from_bits (stands ns h) i → b ≡ (nat_eq (place ns a) i && is_some (cell_at h a)) → b ≡ true → one ≡ 2 ^ i
    → m ≡ bit_or mask one → m ≡ from_bits (stands ns h) (i + 1)
standing_more ns h i a mask one m b e k f t o w =
    let s : stands ns h i ≡ true = ap (λ q. nat_eq (place ns q) i && is_some (cell_at h q)) (sym e) ∙ sym f ∙ t in
    w ∙ ap (bit_or mask) o ∙ ap (λ n. bit_or n (2 ^ i)) k ∙ more_bits (stands ns h) i s

pub standing_result : {V E : Type 0} (num : V → ℕ) (ns : List ℕ) (h : Cells) (i a mask one : ℕ) (b : Bool)
    → a ≡ slice_index ns i → mask ≡ from_bits (stands ns h) i → b ≡ (nat_eq (place ns a) i && is_some (cell_at h a))
    → b ≡ true → one ≡ 2 ^ i → (r : Result V E) → IfOk r (λ m. num m ≡ bit_or mask one)
    → IfOk r (λ m. num m ≡ from_bits (stands ns h) (i + 1))
standing_result num ns h i a mask one b e k f t o (Ok m) w = standing_more ns h i a mask one (num m) b e k f t o w
standing_result num ns h i a mask one b e k f t o (Err x) w = tt

pub standing_same : (ns : List ℕ) (h : Cells) (i a mask : ℕ) (b : Bool) → a ≡ slice_index ns i
    → mask ≡ from_bits (stands ns h) i → b ≡ (nat_eq (place ns a) i && is_some (cell_at h a)) → b ≡ false
    → mask ≡ from_bits (stands ns h) (i + 1)
standing_same ns h i a mask b e k f t =
    let s : stands ns h i ≡ false = ap (λ q. nat_eq (place ns q) i && is_some (cell_at h q)) (sym e) ∙ sym f ∙ t in
    k ∙ same_bits (stands ns h) i s
