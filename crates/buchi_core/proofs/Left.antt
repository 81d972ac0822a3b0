-- What further children may have, as entries are made.
use Rattle.std.proofs.Common.{◌≡◌, ℕ, zero, suc, ◌-◌, ◌^◌, ◌<◌, ◌≤◌, inl, inr, List, [], ◌∷◌, ◌++◌, Bool, true, false}
use Rattle.std.proofs.Common.{not, ◌&&◌, ◌||◌, Option, None, Some, length, slice_get, get_or, set, nat_eq, ◌+◌, take}
use Rattle.std.proofs.Common.{bit_and, arith, sym, refl, ap, ◌∙◌, length-append}
use Rattle.std.specs.List.{list_any, refill}
use Rattle.std.proofs.lemmas.Bool.{cases_eq, cases_lt, cases_order, and_left, and_right, eq-eqb, ne_eqb}
use Rattle.std.proofs.lemmas.List.{get_or-set_same, get_or-set_other, length-map, length-set, map_push, drop_all}
use Rattle.std.proofs.lemmas.List.{take_all, append-nil}
use Rattle.std.proofs.lemmas.List.Folds.{list_any-append}
use Rattle.arrayvec.specs.ArrayVec.{ArrayVec}
use Rattle.buchi_core.specs.Forest.{Entry as AgeEntry, has, same_parent, entry_has, stays, trimmed, scan_from}
use Rattle.buchi_core.specs.declared.entry.Entry.{Entry}
use Rattle.buchi_core.specs.declared.young.Young.{Young}
use Rattle.buchi_core.specs.Mask.{set_mask}
use Rattle.buchi_core.specs.View.{members, entry_of, entries_of}
use Rattle.cyc_basics.specs.declared.limits.TheConstants.{MOST_POSITIONS}
use Rattle.cyc_basics.specs.Bits.{is_one}
use Rattle.buchi_core.specs.Young.{AreLeft, left_of, made}
use Rattle.buchi_core.proofs.Lists.{get_append_right}
use Rattle.buchi_core.proofs.Bits.{has_members, has_members_not, members_filter, one_not, one_all}
use Rattle.cyc_basics.proofs.Bits.{one_and, one_zero}
use Rattle.std.proofs.lemmas.Option.{slice_get_past}
use Rattle.cyc_basics.proofs.Places.{get_within, get_append_left}
use Rattle.std.proofs.Math.Bool.{or-false, and-true}

-- ---- tests
neither : (a s : Bool) → (not a && not s) ≡ not (a || s)
neither true s = refl
neither false s = refl

inside_neither : (h a s : Bool) → ((h && not a) && not s) ≡ (h && not (a || s))
inside_neither true a s = neither a s
inside_neither false a s = refl

get_or_past : (xs : List ℕ) (i d : ℕ) → length xs ≤ i → get_or xs i d ≡ d
get_or_past [] i d l = refl
get_or_past (x ∷ xs) zero d l = absurd (omega arith)
get_or_past (x ∷ xs) (suc i) d l = get_or_past xs i d (omega arith)

get_or_left : (xs ys : List ℕ) (i d : ℕ) → i < length xs → get_or (xs ++ ys) i d ≡ get_or xs i d
get_or_left [] ys i d l = absurd (omega arith)
get_or_left (x ∷ xs) ys zero d l = refl
get_or_left (x ∷ xs) ys (suc i) d l = get_or_left xs ys i d (omega arith)

get_or_last : (xs : List ℕ) (x i d : ℕ) → i ≡ length xs → get_or (xs ++ (x ∷ [])) i d ≡ x
get_or_last [] x zero d e = refl
get_or_last [] x (suc i) d e = absurd (omega (arith, e))
get_or_last (y ∷ ys) x zero d e = absurd (omega (arith, e))
get_or_last (y ∷ ys) x (suc i) d e = get_or_last ys x i d (omega (arith, e))

get_left : {X : Type 0} (xs ys : List X) (i : ℕ) → i < length xs → slice_get (xs ++ ys) i ≡ slice_get xs i
get_left xs ys i l = let r = get_within xs i l in get_append_left xs ys i r.0 r.1 ∙ sym r.1

-- ---- no entries
pub no_entries_left : (y : Young) → y.entries.items ≡ [] → y.left.items ≡ [] → y.top ≡ 18446744073709551615 → AreLeft y
no_entries_left y none left top = record {
  long = ap length left ∙ sym (ap length none);
  right = right;
  childless = λ p q l. ap (λ (es : List Entry). list_any (λ e. same_parent e.parent (Some p) && has e.set q)
      (entries_of es)) none;
}
  where
    right : (o : Option ℕ) (q : ℕ) → q < MOST_POSITIONS → is_one (left_of y o) q ≡ stays (made y) o q
    right None q l = ap (λ m. is_one m q) top ∙ (one_all q l
        ∙ sym (ap (λ (es : List Entry). stays (entries_of es) None q) none))
    right (Some p) q l =
        ap (λ (xs : List ℕ). is_one (get_or xs p 0) q) left ∙
        (one_zero q ∙ sym (ap (λ (es : List Entry). stays (entries_of es) (Some p) q) none))

-- ---- positions that are given to a child
without : (m k q : ℕ) → k < 2 ^ 64 → q < MOST_POSITIONS
    → is_one (bit_and m (18446744073709551615 - k)) q ≡ (is_one m q && not (is_one k q))
without m k q f l = one_and m (18446744073709551615 - k) q ∙ ap (λ b. is_one m q && b) (one_not k q f l)

pub give_none : (old new : Young) (k : ℕ) → k < 2 ^ 64 → new.left ≡ old.left
    → new.top ≡ bit_and old.top (18446744073709551615 - k) →
    (o : Option ℕ) (q : ℕ) → q < MOST_POSITIONS → is_one (left_of new o) q
    ≡ (is_one (left_of old o) q && not (same_parent None o && is_one k q))
give_none old new k f left top None q l = ap (λ m. is_one m q) top ∙ without old.top k q f l
give_none old new k f left top (Some p) q l = ap (λ (v : ArrayVec ℕ). is_one (get_or v.items p 0) q) left
    ∙ sym (and-true (is_one (get_or old.left.items p 0) q))

pub give_some : (old new : Young) (r k : ℕ) → k < 2 ^ 64 → new.top ≡ old.top
    → new.left.items ≡ set old.left.items r (bit_and (get_or old.left.items r 0) (18446744073709551615 - k))
    → r < length old.left.items →
    (o : Option ℕ) (q : ℕ) → q < MOST_POSITIONS → is_one (left_of new o) q
    ≡ (is_one (left_of old o) q && not (same_parent (Some r) o && is_one k q))
give_some old new r k f top left w None q l = ap (λ m. is_one m q) top ∙ sym (and-true (is_one old.top q))
give_some old new r k f top left w (Some p) q l =
    elim (cases_eq p r) [
      | inl e ↦
          (let here : get_or new.left.items p 0 ≡ bit_and (get_or old.left.items r 0) (18446744073709551615 - k) =
          ap (λ (xs : List ℕ). get_or xs p 0) left
          ∙ (ap (λ z. get_or (set old.left.items r (bit_and (get_or old.left.items r 0) (18446744073709551615 - k)))
          z 0) e ∙ get_or-set_same old.left.items r (bit_and (get_or old.left.items r 0) (18446744073709551615 - k)) 0 w) in
          let yes' : nat_eq r p ≡ true = eq-eqb r p (sym e) in
          ap (λ m. is_one m q) here ∙
          (without (get_or old.left.items r 0) k q f l ∙
          (ap (λ z. is_one (get_or old.left.items z 0) q && not (is_one k q)) (sym e)
          ∙ ap (λ b. is_one (get_or old.left.items p 0) q && not (b && is_one k q)) (sym yes'))))
      | inr d ↦
          (let no' : nat_eq r p ≡ false = ne_eqb r p (λ e. d (sym e)) in
          ap (λ m. is_one m q) (ap (λ (xs : List ℕ). get_or xs p 0) left ∙
          get_or-set_other old.left.items r p (bit_and (get_or old.left.items r 0) (18446744073709551615 - k)) 0 d) ∙
          (sym (and-true (is_one (get_or old.left.items p 0) q))
          ∙ ap (λ b. is_one (get_or old.left.items p 0) q && not (b && is_one k q)) (sym no')))
    ]

-- a list that is written again as a slice
refilled : (xs ws : List ℕ) → length ws ≡ length xs → refill (length xs) xs ws ≡ ws
refilled xs ws e =
    ap (λ (z : List ℕ). take (length xs) (ws ++ z)) (drop_all (length ws) xs (omega (arith, e))) ∙
    (ap (take (length xs)) (append-nil ws) ∙ take_all (length xs) ws (omega (arith, e)))

pub give_written : (old new : Young) (r k : ℕ) (ws : List ℕ) → k < 2 ^ 64 → new.top ≡ old.top → ws ≡ old.left.items
    → new.left.items ≡ refill (length old.left.items) old.left.items
    (set ws r (bit_and (get_or ws r 0) (18446744073709551615 - k)))
    → r < length old.left.items →
    (o : Option ℕ) (q : ℕ) → q < MOST_POSITIONS → is_one (left_of new o) q
    ≡ (is_one (left_of old o) q && not (same_parent (Some r) o && is_one k q))
give_written old new r k ws f top same left w =
    give_some old new r k f top (left ∙ (refilled old.left.items
    (set ws r (bit_and (get_or ws r 0) (18446744073709551615 - k)))
    (length-set ws r (bit_and (get_or ws r 0) (18446744073709551615 - k)) ∙ ap length same)
    ∙ ap (λ (xs : List ℕ). set xs r (bit_and (get_or xs r 0) (18446744073709551615 - k))) same)) w

-- a parent that has no mask gives nothing
pub give_past : (y : Young) (r k : ℕ) → length y.left.items ≤ r → (o : Option ℕ) (q : ℕ) → is_one (left_of y o) q
    ≡ (is_one (left_of y o) q && not (same_parent (Some r) o && is_one k q))
give_past y r k past None q = sym (and-true (is_one y.top q))
give_past y r k past (Some p) q =
    elim (cases_eq r p) [
      | inl e ↦
          (let none : is_one (get_or y.left.items p 0) q ≡ false = ap (λ m. is_one m q)
          (get_or_past y.left.items p 0 (omega (arith, past, e))) ∙ one_zero q in
          none ∙ sym (and_left (is_one (get_or y.left.items p 0) q) (not (nat_eq r p && is_one k q)) none))
      | inr d ↦ sym (and-true (is_one (get_or y.left.items p 0) q))
          ∙ ap (λ b. is_one (get_or y.left.items p 0) q && not (b && is_one k q)) (sym (ne_eqb r p d))
    ]

stays_past : (made_so_far : List AgeEntry) (p q : ℕ) → length made_so_far ≤ p → stays made_so_far (Some p) q ≡ false
stays_past made_so_far p q l = ap (λ (o : Option AgeEntry). entry_has o q && not
    (list_any (λ e. same_parent e.parent (Some p) && has e.set q) made_so_far)) (slice_get_past made_so_far p l)

-- ---- one entry more
module _ (made_so_far : List AgeEntry) (parent : Option ℕ) (given kept : ℕ)
    (keeps : (q : ℕ) → q < MOST_POSITIONS → is_one kept q ≡ (is_one given q && stays made_so_far parent q)) where
  no_self : (o : Option ℕ) → parent ≡ o → (p q : ℕ) → length made_so_far ≤ p → q < MOST_POSITIONS
      → (same_parent o (Some p) && is_one kept q) ≡ false
  no_self None e p q l k = refl
  no_self (Some r) e p q l k =
      elim (cases_eq r p) [
        | inl s ↦
            and_right (nat_eq r p) (is_one kept q)
            (keeps q k ∙ and_right (is_one given q) (stays made_so_far parent q)
            (ap (λ o. stays made_so_far o q) (e ∙ ap Some s) ∙ stays_past made_so_far p q l))
        | inr d ↦ and_left (nat_eq r p) (is_one kept q) (ne_eqb r p d)
      ]

  any_more : (o : Option ℕ) (q : ℕ) → q < MOST_POSITIONS →
      list_any (λ e. same_parent e.parent o && has e.set q)
      (made_so_far ++ (record { parent = parent; set = members kept } ∷ []))
      ≡ (list_any (λ e. same_parent e.parent o && has e.set q) made_so_far || (same_parent parent o && is_one kept q))
  any_more o q l =
      list_any-append (λ (e : AgeEntry). same_parent e.parent o && has e.set q) made_so_far
      (record { parent = parent; set = members kept } ∷ []) ∙
      ap (λ b. list_any (λ (e : AgeEntry). same_parent e.parent o && has e.set q) made_so_far || b)
      (or-false (same_parent parent o && has (members kept) q)
      ∙ ap (λ b. same_parent parent o && b) (has_members kept q l))

  pub childless_more : (p q : ℕ) → length made_so_far ≤ p
      → list_any (λ e. same_parent e.parent (Some p) && has e.set q) made_so_far ≡ false →
      list_any (λ e. same_parent e.parent (Some p) && has e.set q)
      (made_so_far ++ (record { parent = parent; set = members kept } ∷ [])) ≡ false
  childless_more p q l none =
      list_any-append (λ (e : AgeEntry). same_parent e.parent (Some p) && has e.set q) made_so_far
      (record { parent = parent; set = members kept } ∷ []) ∙
      (ap (λ b. b || ((same_parent parent (Some p) && has (members kept) q) || false)) none ∙
      (or-false (same_parent parent (Some p) && has (members kept) q) ∙
      elim (cases_lt q MOST_POSITIONS) [
        | inl k ↦ ap (λ b. same_parent parent (Some p) && b) (has_members kept q k) ∙ no_self parent refl p q l k
        | inr g ↦ and_right (same_parent parent (Some p)) (has (members kept) q) (has_members_not kept q g)
      ]))

  pub top_more : (q : ℕ) → q < MOST_POSITIONS
      → (stays made_so_far None q && not (same_parent parent None && is_one kept q))
      ≡ stays (made_so_far ++ (record { parent = parent; set = members kept } ∷ [])) None q
  top_more q l =
      neither (list_any (λ (e : AgeEntry). same_parent e.parent None && has e.set q) made_so_far)
      (same_parent parent None && is_one kept q) ∙ ap not (sym (any_more None q l))

  pub old_more : (p q : ℕ) → p < length made_so_far → q < MOST_POSITIONS
      → (stays made_so_far (Some p) q && not (same_parent parent (Some p) && is_one kept q))
      ≡ stays (made_so_far ++ (record { parent = parent; set = members kept } ∷ [])) (Some p) q
  old_more p q k l =
      inside_neither (entry_has (slice_get made_so_far p) q)
      (list_any (λ (e : AgeEntry). same_parent e.parent (Some p) && has e.set q) made_so_far)
      (same_parent parent (Some p) && is_one kept q) ∙
      (ap (λ b. entry_has (slice_get made_so_far p) q && not b) (sym (any_more (Some p) q l)) ∙
      ap (λ (o : Option AgeEntry). entry_has o q && not
      (list_any (λ (e : AgeEntry). same_parent e.parent (Some p) && has e.set q)
      (made_so_far ++ (record { parent = parent; set = members kept } ∷ []))))
      (sym (get_left made_so_far (record { parent = parent; set = members kept } ∷ []) p k)))

  pub new_more : (p q : ℕ) → p ≡ length made_so_far → q < MOST_POSITIONS
      → list_any (λ e. same_parent e.parent (Some p) && has e.set q) made_so_far ≡ false →
      is_one kept q ≡ stays (made_so_far ++ (record { parent = parent; set = members kept } ∷ [])) (Some p) q
  new_more p q k l none =
      let here : slice_get (made_so_far ++ (record { parent = parent; set = members kept } ∷ [])) p
      ≡ Some (record { parent = parent; set = members kept }) =
      get_append_right made_so_far (record { parent = parent; set = members kept } ∷ []) 0 p (omega (arith, k)) in
      let nobody : list_any (λ e. same_parent e.parent (Some p) && has e.set q)
      (made_so_far ++ (record { parent = parent; set = members kept } ∷ [])) ≡ false =
      childless_more p q (omega (arith, k)) none in
      sym (has_members kept q l) ∙
      (sym (and-true (has (members kept) q)) ∙
      (ap (λ b. has (members kept) q && not b) (sym nobody) ∙
      ap (λ (o : Option AgeEntry). entry_has o q && not
      (list_any (λ (e : AgeEntry). same_parent e.parent (Some p) && has e.set q)
      (made_so_far ++ (record { parent = parent; set = members kept } ∷ [])))) (sym here)))

-- what a push does
pub record IsPushed (old given new : Young) (parent : Option ℕ) (mask kept : ℕ) (e : Entry) : Type 0 where
  pub left : AreLeft old
  pub is_kept : kept ≡ bit_and mask (left_of old parent)
  pub gives : (o : Option ℕ) (q : ℕ) → q < MOST_POSITIONS → is_one (left_of given o) q
      ≡ (is_one (left_of old o) q && not (same_parent parent o && is_one kept q))
  pub long : length given.left.items ≡ length old.left.items
  pub top : new.top ≡ given.top
  pub masks : new.left.items ≡ given.left.items ++ (kept ∷ [])
  pub same : given.entries ≡ old.entries
  pub items : new.entries.items ≡ given.entries.items ++ (e ∷ [])
  pub parent_is : e.parent ≡ parent
  pub set_is : set_mask e ≡ kept

module _ (old given new : Young) (parent : Option ℕ) (mask kept : ℕ) (e : Entry)
    (p : IsPushed old given new parent mask kept e) where
  keeps : (q : ℕ) → q < MOST_POSITIONS → is_one kept q ≡ (is_one mask q && stays (made old) parent q)
  keeps q l = ap (λ m. is_one m q) p.is_kept ∙ (one_and mask (left_of old parent) q
      ∙ ap (λ b. is_one mask q && b) (p.left.right parent q l))

  items_are : new.entries.items ≡ old.entries.items ++ (e ∷ [])
  items_are = p.items ∙ ap (λ (v : ArrayVec Entry). v.items ++ (e ∷ [])) p.same

  made_is : made new ≡ made old ++ (record { parent = parent; set = members kept } ∷ [])
  made_is = ap entries_of items_are ∙ (map_push entry_of old.entries.items e
      ∙ ap (λ (x : AgeEntry). made old ++ (x ∷ [])) (λ i. record
      { parent = p.parent_is i; set = members (p.set_is i) }))

  pub push_made : made new ≡ made old ++ (trimmed (made old) (record { parent = parent; set = members mask }) ∷ [])
  push_made = made_is ∙ ap (λ (z : List ℕ). made old ++ (record { parent = parent; set = z } ∷ []))
      (members_filter kept mask (stays (made old) parent) keeps)

  long_is : length (made old) ≡ length old.entries.items
  long_is = length-map old.entries.items entry_of

  longer : length new.entries.items ≡ length old.entries.items + 1
  longer = ap length items_are ∙ length-append old.entries.items (e ∷ [])

  new_long : length new.left.items ≡ length new.entries.items
  new_long = omega (arith, ap length p.masks, length-append given.left.items (kept ∷ []), p.long, p.left.long, longer)

  right : (o : Option ℕ) (q : ℕ) → q < MOST_POSITIONS → is_one (left_of new o) q ≡ stays (made new) o q
  right None q l =
      ap (λ m. is_one m q) p.top ∙
      (p.gives None q l ∙
      (ap (λ b. b && not (same_parent parent None && is_one kept q)) (p.left.right None q l) ∙
      (top_more (made old) parent mask kept keeps q l ∙ ap (λ (z : List AgeEntry). stays z None q) (sym made_is))))
  right (Some r) q l =
      elim (cases_order r (length old.entries.items)) [
        | inl e' ↦
            ap (λ m. is_one m q) (ap (λ (xs : List ℕ). get_or xs r 0) p.masks
            ∙ get_or_last given.left.items kept r 0 (omega (arith, e', p.long, p.left.long))) ∙
            (new_more (made old) parent mask kept keeps r q (e' ∙ sym long_is) l
            (p.left.childless r q (omega (arith, e'))) ∙ ap (λ (z : List AgeEntry). stays z (Some r) q)
            (sym made_is))
        | inr (inl below) ↦
            ap (λ m. is_one m q) (ap (λ (xs : List ℕ). get_or xs r 0) p.masks
            ∙ get_or_left given.left.items (kept ∷ []) r 0 (omega (arith, below, p.long, p.left.long))) ∙
            (p.gives (Some r) q l ∙
            (ap (λ b. b && not (same_parent parent (Some r) && is_one kept q)) (p.left.right (Some r) q l) ∙
            (old_more (made old) parent mask kept keeps r q (omega (arith, below, long_is)) l
            ∙ ap (λ (z : List AgeEntry). stays z (Some r) q) (sym made_is))))
        | inr (inr above) ↦
            ap (λ m. is_one m q) (get_or_past new.left.items r 0 (omega (arith, above, longer, new_long))) ∙
            (one_zero q ∙ sym (stays_past (made new) r q
            (omega (arith, above, longer, length-map new.entries.items entry_of))))
      ]

  pub push_left : AreLeft new
  push_left = record {
    long = new_long;
    right = right;
    childless = λ r q l. (
        let more' : length old.entries.items < r = omega
        (arith, l, ap length items_are, length-append old.entries.items (e ∷ [])) in
        ap (λ (z : List AgeEntry). list_any (λ x. same_parent x.parent (Some r) && has x.set q) z) made_is ∙
        childless_more (made old) parent mask kept keeps r q (omega (arith, more', long_is))
        (p.left.childless r q (omega (arith, more'))));
  }

-- ---- the entries of a step
scan_append : {X Y : Type 0} (f : List Y → X → Y) (xs ys : List X) (done : List Y)
    → scan_from f done (xs ++ ys) ≡ scan_from f (scan_from f done xs) ys
scan_append f [] ys done = refl
scan_append f (x ∷ xs) ys done = scan_append f xs ys (done ++ (f done x ∷ []))

pub grown_is : (old young : List AgeEntry) (top : AgeEntry) (a b c d : List AgeEntry) → a ≡ []
    → b ≡ scan_from trimmed a old → c ≡ scan_from trimmed b young → d ≡ c ++ (trimmed c top ∷ []) →
    d ≡ scan_from trimmed [] (old ++ (young ++ (top ∷ [])))
grown_is old young top a b c d none moved born last =
    last ∙
    (ap (λ (z : List AgeEntry). scan_from trimmed z (top ∷ [])) born ∙
    (sym (scan_append trimmed young (top ∷ []) b) ∙
    (ap (λ (z : List AgeEntry). scan_from trimmed z (young ++ (top ∷ [])))
    (moved ∙ ap (λ (z : List AgeEntry). scan_from trimmed z old) none) ∙
    sym (scan_append trimmed old (young ++ (top ∷ [])) []))))
