-- Where pairs lead, as masks: a turn of the loops over the pairs, and of the loop over the positions of a set.
use Rattle.std.proofs.Common.{◌≡◌, ℕ, ◌<◌, ◌^◌, ◌-◌, ◌*◌, ◌%◌, List, [], ◌∷◌, Bool, true, false, not, ◌&&◌}
use Rattle.std.proofs.Common.{◌||◌, nat_eq, get_or, set, bit_and, bit_or, arith, refl, sym, ap, ◌∙◌}
use Rattle.std.proofs.Common.{subst, inl, inr}
use Rattle.std.proofs.lemmas.Bool.{eq-eqb, ne_eqb, cases_eq, cases_lt, both_ways, and_left, and_parts}
use Rattle.std.proofs.lemmas.List.{get_or-set_same, get_or-set_other}
use Rattle.std.proofs.lemmas.Nat.{and_le_l}
use Rattle.std.proofs.lemmas.Nat.Bits.{bit_at-trailing_zeros}
use Rattle.std.specs.Int.{w64, trailing_zeros}
use Rattle.std.proofs.Math.Bool.{and-true, and-false, or-false, or-true}
use Rattle.buchi_core.specs.Forest.{Pair, has, leads}
use Rattle.buchi_core.specs.Moves.{AreMoves, leads_by}
use Rattle.buchi_core.specs.declared.leads.Leads.{Leads}
use Rattle.buchi_core.specs.View.{members}
use Rattle.cyc_basics.specs.declared.limits.TheConstants.{MOST_POSITIONS}
use Rattle.cyc_basics.specs.Bits.{is_one}
use Rattle.buchi_core.proofs.Bits.{has_members, has_members_not, member_is, one_not, one_pow, or_more}
use Rattle.cyc_basics.proofs.Bits.{one_and, one_or, one_zero}

-- no pair leads from anywhere
pub none_led : (targets : List ℕ) (p q : ℕ) (b : Bool) → ((is_one 0 p && is_one (get_or targets p 0) q) || b) ≡ b
none_led targets p q b = ap (λ z. (z && is_one (get_or targets p 0) q) || b) (one_zero p)

-- one pair more
pub led_more : (l : Leads) (sources : ℕ) (targets : List ℕ) (old new source before bit p q : ℕ) → old < MOST_POSITIONS
    → is_one source p ≡ nat_eq old p → is_one bit q ≡ nat_eq new q → is_one before q ≡ leads_by l old q
    → sources ≡ bit_or l.sources source → targets ≡ set l.targets old (bit_or before bit)
    → (is_one sources p && is_one (get_or targets p 0) q) ≡ (leads_by l p q || (nat_eq p old && nat_eq new q))
led_more l sources targets old new source before bit p q w s b f of_sources of_targets =
    elim (cases_eq p old) [
      | inl e ↦
          (let known : is_one sources p ≡ true = ap (λ z. is_one z p) of_sources ∙ (one_or l.sources source p
          ∙ (ap (λ z. is_one l.sources p || z) (s ∙ eq-eqb old p (sym e)) ∙ or-true (is_one l.sources p))) in
          let here : get_or targets p 0 ≡ bit_or before bit = ap (λ z. get_or targets z 0) e
          ∙ (ap (λ (xs : List ℕ). get_or xs old 0) of_targets
          ∙ get_or-set_same l.targets old (bit_or before bit) 0 (omega (arith, w, l.long))) in
          ap (λ z. z && is_one (get_or targets p 0) q) known ∙
          (ap (λ z. is_one z q) here ∙ (one_or before bit q ∙
          (ap (λ z. z || is_one bit q) (f ∙ ap (λ z. leads_by l z q) (sym e)) ∙
          (ap (λ z. leads_by l p q || z) b ∙
          ap (λ z. leads_by l p q || (z && nat_eq new q)) (sym (eq-eqb p old e)))))))
      | inr d ↦
          (let same : is_one sources p ≡ is_one l.sources p = ap (λ z. is_one z p) of_sources
          ∙ (one_or l.sources source p ∙ (ap (λ z. is_one l.sources p || z) (s ∙ ne_eqb old p (λ e. d (sym e)))
          ∙ or-false (is_one l.sources p))) in
          let here : get_or targets p 0 ≡ get_or l.targets p 0 = ap (λ (xs : List ℕ). get_or xs p 0) of_targets
          ∙ get_or-set_other l.targets old p (bit_or before bit) 0 d in
          ap (λ z. z && is_one (get_or targets p 0) q) same ∙
          (ap (λ z. is_one l.sources p && is_one z q) here ∙
          (sym (or-false (leads_by l p q)) ∙
          ap (λ z. leads_by l p q || (z && nat_eq new q)) (sym (ne_eqb p old d)))))
    ]

-- ---- the least position of a mask, and the mask without it
abbrev cleared : ℕ → ℕ → ℕ
cleared m p = bit_and m (18446744073709551615 - 1 * 2 ^ p % 18446744073709551616)

one_cleared : (m p q : ℕ) → p < MOST_POSITIONS → q < MOST_POSITIONS
    → is_one (cleared m p) q ≡ (is_one m q && not (nat_eq p q))
one_cleared m p q lp lq =
    one_and m (18446744073709551615 - 1 * 2 ^ p % 18446744073709551616) q
    ∙ ap (λ b. is_one m q && b) (one_not (1 * 2 ^ p % 18446744073709551616) q (omega arith) lq
    ∙ ap not (one_pow p q lp))

least_below : (m : ℕ) → 0 < m → m < 2 ^ 64 → trailing_zeros w64 m < MOST_POSITIONS
least_below m z l = (bit_at-trailing_zeros w64 m z l).0

least_one : (m : ℕ) → 0 < m → m < 2 ^ 64 → is_one m (trailing_zeros w64 m) ≡ true
least_one m z l = ap (λ x. nat_eq x 1) (bit_at-trailing_zeros w64 m z l).1

pub fewer : (m : ℕ) → 0 < m → m < 2 ^ 64 → cleared m (trailing_zeros w64 m) < m
fewer m z l =
    let p = trailing_zeros w64 m in
    let lp = least_below m z l in
    let gone : is_one (cleared m p) p ≡ false = one_cleared m p p lp lp
    ∙ (ap (λ b. is_one m p && not b) (eq-eqb p p refl) ∙ and-false (is_one m p)) in
    elim (cases_eq (cleared m p) m) [
      | inl e ↦ absurd (both_ways (is_one m p) (ap (λ z. is_one z p) (sym e) ∙ gone) (least_one m z l))
      | inr d ↦ omega (arith, d, and_le_l m (18446744073709551615 - 1 * 2 ^ p % 18446744073709551616))
    ]

rest_at : (m p x : ℕ) → p < MOST_POSITIONS → x < MOST_POSITIONS → is_one m p ≡ true
    → is_one m x ≡ ((nat_eq p x || false) || is_one (cleared m p) x)
rest_at m p x lp lx o =
    elim (cases_eq p x) [
      | inl e ↦ subst (λ z. is_one m z ≡ true) e o
          ∙ sym (ap (λ b. (b || false) || is_one (cleared m p) x) (eq-eqb p x e))
      | inr d ↦
          (let n : nat_eq p x ≡ false = ne_eqb p x d in
          sym (ap (λ b. (b || false) || is_one (cleared m p) x) n
          ∙ (one_cleared m p x lp lx ∙ (ap (λ b. is_one m x && not b) n ∙ and-true (is_one m x)))))
    ]

rest_has : (m p x : ℕ) → p < MOST_POSITIONS → is_one m p ≡ true
    → has (members m) x ≡ (has (p ∷ []) x || has (members (cleared m p)) x)
rest_has m p x lp o =
    elim (cases_lt x MOST_POSITIONS) [
      | inl l ↦ has_members m x l ∙ (rest_at m p x lp l o ∙ ap (λ b. (nat_eq p x || false) || b)
          (sym (has_members (cleared m p) x l)))
      | inr l ↦ has_members_not m x l ∙ sym (ap (λ b. (b || false) || has (members (cleared m p)) x)
          (ne_eqb p x (λ e. omega (arith, e, l, lp))) ∙ has_members_not (cleared m p) x l)
    ]

-- ---- where pairs lead from a set that is parted
parted : (a b e x y : Bool) → (((a || b) && e) || (x || y)) ≡ (((a && e) || x) || ((b && e) || y))
parted true true true x y = refl
parted true true false x y = refl
parted true false true x y = refl
parted true false false x y = refl
parted false true true true y = refl
parted false true true false y = refl
parted false true false x y = refl
parted false false true x y = refl
parted false false false x y = refl

leads_parted : (ps : List Pair) (xs ys zs : List ℕ) (q : ℕ) → ((x : ℕ) → has xs x ≡ (has ys x || has zs x))
    → leads ps xs q ≡ (leads ps ys q || leads ps zs q)
leads_parted [] xs ys zs q h = refl
leads_parted (r ∷ rs) xs ys zs q h =
    ap (λ b. (b && nat_eq r.1 q) || leads rs xs q) (h r.0) ∙
    (ap (λ b. ((has ys r.0 || has zs r.0) && nat_eq r.1 q) || b) (leads_parted rs xs ys zs q h)
    ∙ parted (has ys r.0) (has zs r.0) (nat_eq r.1 q) (leads rs ys q) (leads rs zs q))

leads_none : (ps : List Pair) (xs : List ℕ) (q : ℕ) → ((x : ℕ) → has xs x ≡ false) → leads ps xs q ≡ false
leads_none [] xs q h = refl
leads_none (r ∷ rs) xs q h = ap (λ b. (b && nat_eq r.1 q) || leads rs xs q) (h r.0) ∙ leads_none rs xs q h

-- ---- where pairs lead from the members of a set that some pair leads from
neither_true : (a b : Bool) → (a || b) ≡ false → (a ≡ false) × (b ≡ false)
neither_true true b e = absurd (both_ways true e refl)
neither_true false b e = (refl, e)

tested : (a s e : Bool) → (a ≡ true → s ≡ false → e ≡ false) → ((a && s) && e) ≡ (a && e)
tested false s e h = refl
tested true true e h = refl
tested true false e h = sym (h refl refl)

leads_within : (ps : List Pair) (xs ys : List ℕ) (q : ℕ) (s : ℕ → Bool) → ((x : ℕ) → has ys x ≡ (has xs x && s x))
    → ((x : ℕ) → has xs x ≡ true → s x ≡ false → leads ps (x ∷ []) q ≡ false) → leads ps ys q ≡ leads ps xs q
leads_within [] xs ys q s h none = refl
leads_within (r ∷ rs) xs ys q s h none =
    ap (λ b. (b && nat_eq r.1 q) || leads rs ys q) (h r.0) ∙
    (ap (λ b. b || leads rs ys q) (tested (has xs r.0) (s r.0) (nat_eq r.1 q) (λ m f.
    ap (λ b. (b || false) && nat_eq r.1 q) (sym (eq-eqb r.0 r.0 refl))
    ∙ (neither_true ((nat_eq r.0 r.0 || false) && nat_eq r.1 q) (leads rs (r.0 ∷ []) q) (none r.0 m f)).0))
    ∙ ap (λ b. (has xs r.0 && nat_eq r.1 q) || b) (leads_within rs xs ys q s h
    (λ x m f. (neither_true ((nat_eq x r.0 || false) && nat_eq r.1 q) (leads rs (x ∷ []) q) (none x m f)).1)))

has_both : (a b x : ℕ) → has (members (bit_and a b)) x ≡ (has (members a) x && is_one b x)
has_both a b x =
    elim (cases_lt x MOST_POSITIONS) [
      | inl l ↦ has_members (bit_and a b) x l ∙ (one_and a b x ∙ ap (λ z. z && is_one b x) (sym (has_members a x l)))
      | inr l ↦ has_members_not (bit_and a b) x l
          ∙ sym (and_left (has (members a) x) (is_one b x) (has_members_not a x l))
    ]

pub target_start : (pairs : List Pair) (l : Leads) (set q : ℕ) → AreMoves pairs l → q < MOST_POSITIONS
    → (is_one 0 q || leads pairs (members (bit_and set l.sources)) q) ≡ leads pairs (members set) q
target_start pairs l set q moves lq =
    ap (λ b. b || leads pairs (members (bit_and set l.sources)) q) (one_zero q) ∙
    leads_within pairs (members set) (members (bit_and set l.sources)) q (is_one l.sources) (has_both set l.sources)
    (λ x m f. sym (moves x q (member_is set x m).0 lq) ∙ and_left (is_one l.sources x) (is_one (get_or l.targets x 0) q)
    f)

pub known_start : (set sources p : ℕ) → is_one (bit_and set sources) p ≡ true → is_one sources p ≡ true
known_start set sources p h = (and_parts (is_one set p) (is_one sources p) (sym (one_and set sources p) ∙ h)).1

pub known_more : (sources rest p : ℕ) → 0 < rest → rest < 2 ^ 64 → p < MOST_POSITIONS
    → ((x : ℕ) → x < MOST_POSITIONS → is_one rest x ≡ true → is_one sources x ≡ true)
    → is_one (cleared rest (trailing_zeros w64 rest)) p ≡ true → is_one sources p ≡ true
known_more sources rest p z l lp known h =
    let t = trailing_zeros w64 rest in
    known p lp (and_parts (is_one rest p) (not (nat_eq t p))
    (sym (one_cleared rest t p (least_below rest z l) lp) ∙ h)).0

pub target_more : (pairs : List Pair) (l : Leads) (targets rest q : ℕ) (w : Bool) → AreMoves pairs l
    → q < MOST_POSITIONS → 0 < rest → rest < 2 ^ 64
    → ((x : ℕ) → x < MOST_POSITIONS → is_one rest x ≡ true → is_one l.sources x ≡ true)
    → (is_one targets q || leads pairs (members rest) q) ≡ w →
    (is_one (bit_or targets (get_or l.targets (trailing_zeros w64 rest) 0)) q || leads pairs
    (members (cleared rest (trailing_zeros w64 rest))) q) ≡ w
target_more pairs l targets rest q w moves lq z f known h =
    let p = trailing_zeros w64 rest in
    let lp = least_below rest z f in
    let o = least_one rest z f in
    let led : is_one (get_or l.targets p 0) q ≡ leads pairs (p ∷ []) q = ap
    (λ b. b && is_one (get_or l.targets p 0) q) (sym (known p lp o)) ∙ moves p q lp lq in
    or_more (is_one targets q) (leads pairs (p ∷ []) q) (is_one (bit_or targets (get_or l.targets p 0)) q)
    (leads pairs (members (cleared rest p)) q) w
    (one_or targets (get_or l.targets p 0) q ∙ ap (λ b. is_one targets q || b) led)
    (ap (λ b. is_one targets q || b) (sym (leads_parted pairs (members rest) (p ∷ []) (members (cleared rest p)) q
    (λ x. rest_has rest p x lp o))) ∙ h)

none_left : (rest x : ℕ) → rest ≡ 0 → has (members rest) x ≡ false
none_left rest x e =
    elim (cases_lt x MOST_POSITIONS) [
      | inl l ↦ has_members rest x l ∙ (ap (λ m. is_one m x) e ∙ one_zero x)
      | inr l ↦ has_members_not rest x l
    ]

pub target_end : (pairs : List Pair) (targets rest q : ℕ) (w : Bool) → rest ≡ 0
    → (is_one targets q || leads pairs (members rest) q) ≡ w → is_one targets q ≡ w
target_end pairs targets rest q w e h =
    sym (or-false (is_one targets q)) ∙ (sym (ap (λ b. is_one targets q || b)
    (leads_none pairs (members rest) q (λ x. none_left rest x e))) ∙ h)
