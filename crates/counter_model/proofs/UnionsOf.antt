-- Disjoint unions, up to an address.
use Rattle.std.proofs.Common.{◌≡◌, ◌≢◌, ℕ, ◌<◌, ◌≤◌, List, [], ◌∷◌, ◌++◌, length, get_or, Bool, true, false, cond}
use Rattle.std.proofs.Common.{Option, Some, None, refl, sym, ap, ◌∙◌, subst, inl, inr, ◌⊎◌, arith}
use Rattle.std.specs.Prelude.{IsTrue}
use Rattle.std.specs.Ordering.{nat_cmp}
use Rattle.std.specs.Cmp.{nat_cmp_total, eq_by_cmp_equiv}
use Rattle.std.specs.FinMap.{insert, get-insert, get-empty}
use Rattle.std.proofs.lemmas.Bool.{cases_lt}
use Rattle.heap_formula.proofs.Unions.{same_cells}
use Rattle.cyc_basics.specs.Words.{IsMember}
use Rattle.heap_formula.proofs.StageLaws.{OneOf-map}
use Rattle.heap_formula.specs.Words.{Each, OneOf}
use Rattle.heap_formula.specs.Cells.{Cells, cell_at, no_cells, Joins, IsUnion, Star, IsHeap}
use Rattle.counter_model.specs.Bounds.{AreAtMost, IsWithin, SameUpTo, IsAmong, Unites}
use Rattle.counter_model.proofs.Loops.{one_at, pushed}
use Rattle.heap_formula.proofs.AllMembers.{each_last}
use Rattle.heap_formula.proofs.Addresses.{other_address}
use Rattle.std.specs.Option.{option_or}

-- ---- a cell that is put

pub put_here : (h g : Cells) (a : ℕ) (vs : List ℕ) → g ≡ insert h a vs → cell_at g a ≡ Some vs
put_here h g a vs e = ap (λ c. cell_at c a) e ∙ get-insert nat_cmp_total h a vs a
    ∙ ap (λ b. cond b (Some vs) (cell_at h a)) ((eq_by_cmp_equiv nat_cmp_total).refl a)

pub put_elsewhere : (h g : Cells) (a q : ℕ) (vs : List ℕ) → g ≡ insert h a vs → q ≢ a → cell_at g q ≡ cell_at h q
put_elsewhere h g a q vs e n = ap (λ c. cell_at c q) e ∙ get-insert nat_cmp_total h a vs q
    ∙ ap (λ b. cond b (Some vs) (cell_at h q)) (other_address q a n)

-- ---- unions

joins_either : {X : Type 0} (x y r : Option X) → Joins x y r → option_or y x ≡ r
joins_either None None r j = sym j
joins_either None (Some y) r j = sym j
joins_either (Some x) None r j = sym j
joins_either (Some x) (Some y) r j = absurd j

pub unites_same : (n : ℕ) (p r w h : Cells) → ((a : ℕ) → a ≤ n → cell_at w a ≡ option_or (cell_at r a) (cell_at p a))
    → Unites n p r h → SameUpTo n w h
unites_same n p r w h b u = record { same = at }
  where
    at : (a : ℕ) → a ≤ n → cell_at w a ≡ cell_at h a
    at a l =
        let e : cell_at p a ≡ cell_at u.part a = u.first.same a l in
        let f : cell_at r a ≡ cell_at u.rest a = u.others.same a l in
        b a l ∙ ap (λ x. option_or x (cell_at p a)) f ∙ ap (λ x. option_or (cell_at u.rest a) x) e
        ∙ joins_either (cell_at u.part a) (cell_at u.rest a) (cell_at h a) (u.union.joins a)

-- the union of two heaps is added if they are apart
pub union_added : (n : ℕ) (p r w h : Cells) (old new : List Cells)
    → ((a : ℕ) → a ≤ n → cell_at w a ≡ option_or (cell_at r a) (cell_at p a)) → new ≡ old ++ w ∷ []
    → (IsAmong n old h ⊎ Unites n p r h) → IsAmong n new h
union_added n p r w h old new b e o =
    pushed (λ g. SameUpTo n g h) old new w e (elim o as (λ z. IsAmong n old h ⊎ SameUpTo n w h)
    [ inl m ↦ inl m | inr u ↦ inr (unites_same n p r w h b u) ])

pub not_added : (n : ℕ) (p r h : Cells) (old new : List Cells) (b : Bool) → b ≡ false
    → ((g : Cells) → Unites n p r g → IsTrue b) → new ≡ old → (IsAmong n old h ⊎ Unites n p r h) → IsAmong n new h
not_added n p r h old new b z f e o =
    elim o as (λ x. IsAmong n new h) [
      | inl m ↦ subst (λ hs. IsAmong n hs h) (sym e) m
      | inr u ↦ absurd (let t : b ≡ true = f h u in let y : true ≡ false = sym t ∙ z in cc)
    ]

-- a heap with the same cells is there
pub same_there : (n : ℕ) (hs : List Cells) (i : ℕ) (k x h : Cells) → i < length hs → k ≡ get_or hs i k → SameUpTo n k x
    → IsAmong n (x ∷ []) h → IsAmong n hs h
same_there n hs i k x h l e s o =
    elim o as (λ z. IsAmong n hs h) [
      | inl t ↦ one_at (λ g. SameUpTo n g h) hs i k l e (record { same = λ a b. s.same a b ∙ t.same a b })
      | inr z ↦ absurd z
    ]

star_unites : (n : ℕ) (part rest h : Cells) → IsUnion part rest h → (ps rs : List Cells) → IsAmong n ps part
    → IsAmong n rs rest → OneOf (λ p. OneOf (λ r. Unites n p r h) rs) ps
star_unites n part rest h u ps rs a b =
    OneOf-map (λ p. SameUpTo n p part) (λ p. OneOf (λ r. Unites n p r h) rs)
    (λ p s. OneOf-map (λ r. SameUpTo n r rest) (λ r. Unites n p r h)
    (λ r t. record { part = part; rest = rest; first = s; others = t; union = u }) rs b) ps a

pub parts_unite : (n : ℕ) (ps rs : List Cells) (h : Cells) → Star (IsAmong n ps) (IsAmong n rs) h
    → OneOf (λ p. OneOf (λ r. Unites n p r h) rs) ps
parts_unite n ps rs h s = star_unites n s.part s.rest h s.union ps rs s.first s.others

pub put_either : (from h g : Cells) (a : ℕ) (vs us : List ℕ) → cell_at from a ≡ Some vs → us ≡ vs → g ≡ insert h a us
    → cell_at g a ≡ option_or (cell_at from a) (cell_at h a)
put_either from h g a vs us f u e = put_here h g a us e ∙ ap Some u ∙ ap (λ x. option_or x (cell_at h a)) (sym f)

-- ---- the cells up to an address

either_none : {X : Type 0} (x : Option X) → option_or x None ≡ x
either_none None = refl
either_none (Some v) = refl

no_cell_above : (n : ℕ) (h : Cells) (a : ℕ) → IsWithin n h → n < a → (o : Option (List ℕ)) → cell_at h a ≡ o
    → None ≡ cell_at h a
no_cell_above n h a w l None e = sym e
no_cell_above n h a w l (Some vs) e = absurd (let k : a ≤ n = (w.addresses a vs e).1 in omega arith)

pub cut_same : (n : ℕ) (none x w h : Cells) → none ≡ no_cells
    → ((a : ℕ) → a ≤ n → cell_at w a ≡ option_or (cell_at x a) (cell_at none a))
    → ((a : ℕ) → n < a → cell_at w a ≡ cell_at none a) → IsWithin n h → SameUpTo n x h → w ≡ h
cut_same n none x w h z below above k s = same_cells w h at
  where
    nothing : (a : ℕ) → cell_at none a ≡ None
    nothing a = ap (λ c. cell_at c a) z ∙ get-empty nat_cmp a

    at : (a : ℕ) → cell_at w a ≡ cell_at h a
    at a = elim (cases_lt n a) as (λ y. cell_at w a ≡ cell_at h a) [
      | inl lt ↦ above a lt ∙ nothing a ∙ no_cell_above n h a k lt (cell_at h a) refl
      | inr le ↦ let l : a ≤ n = omega arith in below a l ∙ ap (option_or (cell_at x a)) (nothing a)
          ∙ either_none (cell_at x a) ∙ s.same a l
    ]

pub cut_added : (n : ℕ) (none x w h : Cells) (old new : List Cells) → none ≡ no_cells
    → ((a : ℕ) → a ≤ n → cell_at w a ≡ option_or (cell_at x a) (cell_at none a))
    → ((a : ℕ) → n < a → cell_at w a ≡ cell_at none a) → new ≡ old ++ w ∷ [] → IsWithin n h
    → (IsMember h old ⊎ SameUpTo n x h) → IsMember h new
cut_added n none x w h old new z below above e k o =
    pushed (λ g. g ≡ h) old new w e (elim o as (λ y. IsMember h old ⊎ (w ≡ h))
    [ inl m ↦ inl m | inr s ↦ inr (cut_same n none x w h z below above k s) ])

-- ---- heaps that are kept if their fields are small

pub small_missing : (n : ℕ) (none x w h : Cells) (old : List Cells) (b : Bool) → none ≡ no_cells
    → ((a : ℕ) → a ≤ n → cell_at w a ≡ option_or (cell_at x a) (cell_at none a))
    → ((a : ℕ) → n < a → cell_at w a ≡ cell_at none a) → b ≡ false
    → (((a : ℕ) (vs : List ℕ) → a ≤ n → cell_at w a ≡ Some vs → AreAtMost n vs) → IsTrue b) → IsWithin n h
    → (IsMember h old ⊎ SameUpTo n x h) → IsMember h old
small_missing n none x w h old b z below above e f k o =
    elim o as (λ y. IsMember h old) [
      | inl m ↦ m
      | inr s ↦
          let same : w ≡ h = cut_same n none x w h z below above k s in
          absurd (let t : b ≡ true = f (λ a vs l g. k.fields a vs (ap (λ c. cell_at c a) (sym same) ∙ g)) in
          let y : true ≡ false = sym t ∙ e in cc)
    ]

cut_within : (n : ℕ) (none w : Cells) → none ≡ no_cells → IsHeap w → ((a : ℕ) → n < a → cell_at w a ≡ cell_at none a)
    → ((a : ℕ) (vs : List ℕ) → a ≤ n → cell_at w a ≡ Some vs → AreAtMost n vs) → IsWithin n w
cut_within n none w z i above f = record {
  addresses = λ a vs e. (i.positive a vs e, bounded a vs e);
  fields = λ a vs e. f a vs (bounded a vs e) e;
}
  where
    bounded : (a : ℕ) (vs : List ℕ) → cell_at w a ≡ Some vs → a ≤ n
    bounded a vs e = elim (cases_lt n a) as (λ y. a ≤ n) [
      | inl lt ↦ absurd (let q : None ≡ Some vs = sym (above a lt ∙ ap (λ c. cell_at c a) z ∙ get-empty nat_cmp a) ∙ e
          in cc)
      | inr le ↦ (let l : a ≤ n = omega arith in l)
    ]

pub small_kept : (n : ℕ) (none w : Cells) (old new : List Cells) → none ≡ no_cells → IsHeap w
    → ((a : ℕ) → n < a → cell_at w a ≡ cell_at none a) → ((a : ℕ) (vs : List ℕ) → a ≤ n → cell_at w a ≡ Some vs
    → AreAtMost n vs) → new ≡ old ++ w ∷ [] → Each (IsWithin n) old → Each (IsWithin n) new
small_kept n none w old new z i above f e k = subst (Each (IsWithin n)) (sym e)
    (each_last (IsWithin n) old w k (cut_within n none w z i above f))
