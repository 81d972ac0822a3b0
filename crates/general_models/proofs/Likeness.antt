-- What a state does, one that is like it may do: it stays like.
use Rattle.std.proofs.Common.{◌≡◌, ℕ, zero, suc, ◌+◌, ◌-◌, ◌<◌, ◌≤◌, Bool, true, false, cond, ◌⊎◌, inl, inr, List, []}
use Rattle.std.proofs.Common.{◌∷◌, length, get_or, Option, Some, None, refl, sym, ap, subst, ◌∙◌, arith}
use Rattle.std.specs.Prelude.{max, nat_eq, slice_get, slice_set}
use Rattle.std.proofs.lemmas.Bool.{eqb-true, eq-eqb}
use Rattle.std.specs.Ordering.{nat_cmp, eq_by_cmp}
use Rattle.std.specs.Cmp.{nat_cmp_total}
use Rattle.std.specs.FinMap.{entries, find, get-entries, insert, remove, get-insert, get-remove}
use Rattle.cyc_basics.specs.Words.{IsMember}
use Rattle.heap_formula.specs.declared.terms.Term.{Term}
use Rattle.heap_formula.specs.declared.terms.Term.TheVariants.{Nil, Univ, Exist}
use Rattle.heap_formula.specs.declared.commands.Command.{Command}
use Rattle.heap_formula.specs.declared.commands.Command.TheVariants.{Assign, Load, Store, New, Free, IfEq, IfNeq, IfAny}
use Rattle.heap_formula.specs.declared.commands.Command.TheVariants.{Goto, Stop, Ends}
use Rattle.heap_formula.specs.Words.{Each, max_of}
use Rattle.heap_formula.specs.Values.{Stack}
use Rattle.heap_formula.specs.Cells.{Cells, cell_at}
use Rattle.heap_formula.specs.Programs.{Config as State, Goes, MayPick, greatest, cell_numbers, value_in, field_of}
use Rattle.heap_formula.specs.Programs.{counted_from_one, next_line, jump}
use Rattle.heap_formula.proofs.StepLaws.{max_of-append}
use Rattle.heap_formula.proofs.Insertions.{same_address, itself, put_there}
use Rattle.goto_lang.specs.Steps.{MayTake, Leads}
use Rattle.general_models.specs.Growing.{EachPair, HasLike, Alike, IsAtHand, TakesFresh}

-- ---- pairs at the places of two lists

module _ (R : ℕ → ℕ → Type 0) where
  pub pair_length : (xs ys : List ℕ) → EachPair R xs ys → length xs ≡ length ys
  pair_length [] [] e = refl
  pair_length [] (y ∷ ys) e = absurd e
  pair_length (x ∷ xs) [] e = absurd e
  pair_length (x ∷ xs) (y ∷ ys) e = ap suc (pair_length xs ys e.1)

  pair_or : (xs ys : List ℕ) (i : ℕ) → R 0 0 → EachPair R xs ys → R (get_or xs i 0) (get_or ys i 0)
  pair_or [] [] i nil e = nil
  pair_or [] (y ∷ ys) i nil e = absurd e
  pair_or (x ∷ xs) [] i nil e = absurd e
  pair_or (x ∷ xs) (y ∷ ys) zero nil e = e.0
  pair_or (x ∷ xs) (y ∷ ys) (suc i) nil e = pair_or xs ys i nil e.1

  pair_get : (xs ys : List ℕ) (i x : ℕ) → EachPair R xs ys → slice_get xs i ≡ Some x
      → (y : ℕ) × (slice_get ys i ≡ Some y) × R x y
  pair_get [] ys i x e at = cc
  pair_get (u ∷ xs) [] i x e at = absurd e
  pair_get (u ∷ xs) (y ∷ ys) zero x e at = let same : u ≡ x = cc in (y, refl, subst (λ z. R z y) same e.0)
  pair_get (u ∷ xs) (y ∷ ys) (suc i) x e at = pair_get xs ys i x e.1 at

  pair_counted : (xs ys : List ℕ) (k x : ℕ) → EachPair R xs ys → counted_from_one xs k ≡ Some x
      → (y : ℕ) × (counted_from_one ys k ≡ Some y) × R x y
  pair_counted xs ys zero x e at = cc
  pair_counted xs ys (suc k) x e at = pair_get xs ys k x e at

  pair_set : (xs ys : List ℕ) (i x y : ℕ) → R x y → EachPair R xs ys → EachPair R (slice_set xs i x) (slice_set ys i y)
  pair_set [] [] i x y r e = tt
  pair_set [] (v ∷ ys) i x y r e = absurd e
  pair_set (u ∷ xs) [] i x y r e = absurd e
  pair_set (u ∷ xs) (v ∷ ys) zero x y r e = (r, e.1)
  pair_set (u ∷ xs) (v ∷ ys) (suc i) x y r e = (e.0, pair_set xs ys i x y r e.1)

  -- the partner of a member
  pair_member : (xs ys : List ℕ) (x : ℕ) → EachPair R xs ys → IsMember x xs → (y : ℕ) × R x y
  pair_member [] ys x e m = absurd m
  pair_member (u ∷ xs) [] x e m = absurd e
  pair_member (u ∷ xs) (y ∷ ys) x e (inl s) = (y, subst (λ z. R z y) s e.0)
  pair_member (u ∷ xs) (y ∷ ys) x e (inr m) = pair_member xs ys x e.1 m

pair_imply : (R S : ℕ → ℕ → Type 0) → ((x y : ℕ) → R x y → S x y) → (xs ys : List ℕ) → EachPair R xs ys
    → EachPair S xs ys
pair_imply R S f [] [] e = tt
pair_imply R S f [] (y ∷ ys) e = absurd e
pair_imply R S f (x ∷ xs) [] e = absurd e
pair_imply R S f (x ∷ xs) (y ∷ ys) e = (f x y e.0, pair_imply R S f xs ys e.1)

pair_through : (R S : ℕ → ℕ → Type 0) (xs ys zs : List ℕ) → EachPair R xs ys → EachPair S ys zs
    → EachPair (λ x z. (y : ℕ) × R x y × S y z) xs zs
pair_through R S [] [] [] e f = tt
pair_through R S [] [] (z ∷ zs) e f = absurd f
pair_through R S [] (y ∷ ys) zs e f = absurd e
pair_through R S (x ∷ xs) [] zs e f = absurd e
pair_through R S (x ∷ xs) (y ∷ ys) [] e f = absurd f
pair_through R S (x ∷ xs) (y ∷ ys) (z ∷ zs) e f = ((y, e.0, f.0), pair_through R S xs ys zs e.1 f.1)

pair_same : (xs : List ℕ) → EachPair (λ x y. x ≡ y) xs xs
pair_same [] = tt
pair_same (x ∷ xs) = (refl, pair_same xs)

-- ---- numbers of a state

all_below : (m : ℕ) (vs : List ℕ) → max_of vs ≤ m → Each (λ v. v ≤ m) vs
all_below m [] h = tt
all_below m (v ∷ vs) h = (omega arith, all_below m vs (omega arith))

tested : (m : ℕ) (b : Bool) (e : ℕ × List ℕ) (o : Option (List ℕ)) (a : ℕ) (vs : List ℕ)
    → (o ≡ Some vs → (a ≤ m) × Each (λ v. v ≤ m) vs) → max e.0 (max_of e.1) ≤ m → (b ≡ true → a ≡ e.0)
    → cond b (Some e.1) o ≡ Some vs → (a ≤ m) × Each (λ v. v ≤ m) vs
tested m true e o a vs rec le t is =
    let same : a ≡ e.0 = t refl in
    let fields : e.1 ≡ vs = cc in (omega arith, subst (Each (λ v. v ≤ m)) fields (all_below m e.1 (omega arith)))
tested m false e o a vs rec le t is = rec is

found_below : (m : ℕ) (es : List (ℕ × List ℕ)) (a : ℕ) (vs : List ℕ) → max_of (cell_numbers es) ≤ m
    → find nat_cmp a es ≡ Some vs → (a ≤ m) × Each (λ v. v ≤ m) vs
found_below m [] a vs le is = cc
found_below m (e ∷ es) a vs le is =
    let p = max_of-append e.1 (cell_numbers es) in
    tested m (eq_by_cmp nat_cmp a e.0) e (find nat_cmp a es) a vs (found_below m es a vs (omega arith))
    (omega arith) (same_address a e.0) is

-- the address and the fields of a cell are at most the greatest number
cell_below : (c : State) (a : ℕ) (vs : List ℕ) → cell_at c.heap a ≡ Some vs
    → (a ≤ greatest c) × Each (λ v. v ≤ greatest c) vs
cell_below c a vs is =
    found_below (greatest c) (entries c.heap) a vs (omega arith) (sym (get-entries c.heap a) ∙ is)

-- ---- heaps that change at an address

address_cases : (q a : ℕ) → ((q ≡ a) × (eq_by_cmp nat_cmp q a ≡ true))
    ⊎ ((q ≡ a → ⊥) × (eq_by_cmp nat_cmp q a ≡ false))
address_cases q a = of (eq_by_cmp nat_cmp q a) refl
  where
    of : (b : Bool) → eq_by_cmp nat_cmp q a ≡ b → ((q ≡ a) × (eq_by_cmp nat_cmp q a ≡ true))
        ⊎ ((q ≡ a → ⊥) × (eq_by_cmp nat_cmp q a ≡ false))
    of true t = inl (same_address q a t, t)
    of false f = inr (
      λ e. let z : true ≡ false = sym (itself a) ∙ ap (λ x. eq_by_cmp nat_cmp x a) (sym e) ∙ f in cc,
      f,
    )

put_other : (h : Cells) (a : ℕ) (vs : List ℕ) (q : ℕ) → (q ≡ a → ⊥) → cell_at (insert h a vs) q ≡ cell_at h q
put_other h a vs q n = elim (address_cases q a) [
  | inl e ↦ absurd (n e.0)
  | inr d ↦ get-insert nat_cmp_total h a vs q ∙ ap (λ b. cond b (Some vs) (cell_at h q)) d.1
]

removed_other : (h : Cells) (a q : ℕ) → (q ≡ a → ⊥) → cell_at (remove h a) q ≡ cell_at h q
removed_other h a q n = elim (address_cases q a) [
  | inl e ↦ absurd (n e.0)
  | inr d ↦ get-remove nat_cmp_total h a q ∙ ap (λ b. cond b None (cell_at h q)) d.1
]

removed_gone : (h : Cells) (a q : ℕ) → q ≡ a → cell_at (remove h a) q ≡ None
removed_gone h a q e =
    get-remove nat_cmp_total h a q
    ∙ ap (λ b. cond b None (cell_at h q)) (ap (λ x. eq_by_cmp nat_cmp x a) e ∙ itself a)

-- ---- one step

-- the command may lead from d to a state that is like this one
pub record Followed (x : Command) (w : ℕ) (d c : State) : Type 1 where
  pub related : ℕ → ℕ → Type 0
  pub state : State
  pub goes : Goes x w d state
  pub alike : Alike related c state

abbrev Rests : (ℕ → ℕ → Type 0) → Cells → Cells → Type 0
Rests R h g = (a b : ℕ) (vs : List ℕ) → R a b → cell_at h a ≡ Some vs → HasLike R vs g b

module _ (R : ℕ → ℕ → Type 0) (c d : State) (l : Alike R c d) where
  next_alike : (s t : Stack) (h g : Cells) → EachPair R s t → Rests R h g → Alike R (next_line c s h) (next_line d t g)
  next_alike s t h g e r = record {
    line = ap (λ n. n + 1) l.line;
    nil = l.nil;
    to_one = l.to_one;
    from_one = l.from_one;
    stack = e;
    cells = r;
  }

  jump_alike : (j k : ℕ) → j ≡ k → Alike R (jump c j) (jump d k)
  jump_alike j k e = record {
    line = e;
    nil = l.nil;
    to_one = l.to_one;
    from_one = l.from_one;
    stack = l.stack;
    cells = l.cells;
  }

  value_alike : (t : Term) → R (value_in c t) (value_in d t)
  value_alike Nil = l.nil
  value_alike (Univ n) = pair_or R c.stack d.stack n l.nil l.stack
  value_alike (Exist n) = l.nil

  same_test : (x y u v : ℕ) → R x u → R y v → nat_eq x y ≡ nat_eq u v
  same_test x y u v p q = of (nat_eq x y) (nat_eq u v)
      (λ e. let s = subst (λ z. R z v) (sym (eqb-true x y e)) q in eq-eqb u v (l.to_one x u v p s))
      (λ e. let s = subst (λ z. R y z) (sym (eqb-true u v e)) q in eq-eqb x y (l.from_one x y u p s))
    where
      of : (a b : Bool) → (a ≡ true → b ≡ true) → (b ≡ true → a ≡ true) → a ≡ b
      of true b f g = sym (f refl)
      of false true f g = g refl
      of false false f g = refl

  other : (a b p q : ℕ) → R a b → R p q → (p ≡ a → ⊥) → q ≡ b → ⊥
  other a b p q r s n e = n (l.from_one p a b (subst (λ z. R p z) e s) r)

  -- a cell that R relates is overwritten, and so is the other one
  put_rests : (a b : ℕ) (vs us : List ℕ) → R a b → EachPair R vs us → Rests R (insert c.heap a vs) (insert d.heap b us)
  put_rests a b vs us r e p q ws s at = elim (address_cases p a) [
    | inl here ↦
        let same : q ≡ b = l.to_one a q b (subst (λ z. R z q) here.0 s) r in
        let fields : vs ≡ ws = let z : Some vs ≡ Some ws = sym (put_there c.heap a vs)
        ∙ ap (cell_at (insert c.heap a vs)) (sym here.0) ∙ at in cc in
        (us, ap (cell_at (insert d.heap b us)) same ∙ put_there d.heap b us, subst (λ z. EachPair R z us) fields e)
    | inr away ↦
        let i = l.cells p q ws s (sym (put_other c.heap a vs p away.0) ∙ at) in
        (i.0, put_other d.heap b us q (other a b p q r s away.0) ∙ i.1, i.2)
  ]

  removed_rests : (a b : ℕ) → R a b → Rests R (remove c.heap a) (remove d.heap b)
  removed_rests a b r p q ws s at = elim (address_cases p a) [
    | inl here ↦ let z : None ≡ Some ws = sym (removed_gone c.heap a p here.0) ∙ at in absurd (cc)
    | inr away ↦
        let i = l.cells p q ws s (sym (removed_other c.heap a p away.0) ∙ at) in
        (i.0, removed_other d.heap b q (other a b p q r s away.0) ∙ i.1, i.2)
  ]

field_cell : (o : Option (List ℕ)) (k v : ℕ) → field_of o k ≡ Some v
    → (vs : List ℕ) × (o ≡ Some vs) × (counted_from_one vs k ≡ Some v)
field_cell None k v e = cc
field_cell (Some vs) k v e = (vs, refl, e)

-- ---- `new`

-- R where the numbers are at most these
abbrev Within : (ℕ → ℕ → Type 0) → ℕ → ℕ → ℕ → ℕ → Type 0
Within R m n x y = R x y × ((x ≤ m) × (y ≤ n))

-- the same, and these two numbers
abbrev With : (ℕ → ℕ → Type 0) → ℕ → ℕ → ℕ → ℕ → ℕ → ℕ → Type 0
With R m n a b x y = Within R m n x y ⊎ ((x ≡ a) × (y ≡ b))

pair_within : (R : ℕ → ℕ → Type 0) (m n : ℕ) (xs ys : List ℕ) → Each (λ v. v ≤ m) xs → Each (λ v. v ≤ n) ys
    → EachPair R xs ys → EachPair (Within R m n) xs ys
pair_within R m n [] [] p q e = tt
pair_within R m n [] (y ∷ ys) p q e = absurd e
pair_within R m n (x ∷ xs) [] p q e = absurd e
pair_within R m n (x ∷ xs) (y ∷ ys) p q e = ((e.0, (p.0, q.0)), pair_within R m n xs ys p.1 q.1 e.1)

-- what a new cell at b takes for these fields
record Fields (S : ℕ → ℕ → Type 0) (most : ℕ) (vs : List ℕ) : Type 0 where
  pub fields : List ℕ
  pub pairs : EachPair S vs fields
  pub within : Each (λ v. v ≤ most) fields

module _ (R : ℕ → ℕ → Type 0) (c d : State) (l : Alike R c d) (a b : ℕ) (over : greatest c < a)
    (next : b ≡ greatest d + 1) where
  abbrev More : ℕ → ℕ → Type 0
  More = With R (greatest c) (greatest d) a b

  stack_within : EachPair (Within R (greatest c) (greatest d)) c.stack d.stack
  stack_within =
      pair_within R (greatest c) (greatest d) c.stack d.stack (all_below (greatest c) c.stack (omega arith))
      (all_below (greatest d) d.stack (omega arith)) l.stack

  old : (xs ys : List ℕ) → EachPair (Within R (greatest c) (greatest d)) xs ys → EachPair More xs ys
  old xs ys e = pair_imply (Within R (greatest c) (greatest d)) More (λ x y r. inl r) xs ys e

  one_field : (v : ℕ) → IsAtHand a c.stack v → (u : ℕ) × More v u × (u ≤ b)
  one_field v (inl e) =
      (0, inl (subst (λ z. R z 0) (sym e) l.nil, (omega arith, omega arith)), omega arith)
  one_field v (inr (inl e)) = (b, inr (e, refl), omega arith)
  one_field v (inr (inr m)) =
      let p = pair_member (Within R (greatest c) (greatest d)) c.stack d.stack v stack_within m in
      let le : p.0 ≤ greatest d = p.1.1.1 in (p.0, inl p.1, omega arith)

  fields_for : (vs : List ℕ) → Each (IsAtHand a c.stack) vs → Fields More b vs
  fields_for [] e = record { fields = []; pairs = tt; within = tt }
  fields_for (v ∷ vs) e =
      let f = one_field v e.0 in let r = fields_for vs e.1 in
      record { fields = f.0 ∷ r.fields; pairs = (f.1, r.pairs); within = (f.2, r.within) }

  more_to : (x y z : ℕ) → More x y → More x z → y ≡ z
  more_to x y z (inl p) (inl q) = l.to_one x y z p.0 q.0
  more_to x y z (inl p) (inr q) = let le = p.1.0 in let e : x ≡ a = q.0 in absurd (omega arith)
  more_to x y z (inr p) (inl q) = let le = q.1.0 in let e : x ≡ a = p.0 in absurd (omega arith)
  more_to x y z (inr p) (inr q) = p.1 ∙ sym q.1

  more_from : (x y z : ℕ) → More x z → More y z → x ≡ y
  more_from x y z (inl p) (inl q) = l.from_one x y z p.0 q.0
  more_from x y z (inl p) (inr q) = let le = p.1.1 in let e : z ≡ b = q.1 in absurd (omega arith)
  more_from x y z (inr p) (inl q) = let le = q.1.1 in let e : z ≡ b = p.1 in absurd (omega arith)
  more_from x y z (inr p) (inr q) = p.0 ∙ sym q.0

  -- the cells that were there, and the new ones
  more_rests : (vs us : List ℕ) → EachPair More vs us → Rests More (insert c.heap a vs) (insert d.heap b us)
  more_rests vs us e p q ws (inr s) at =
      let fields : vs ≡ ws = let z : Some vs ≡ Some ws = sym (put_there c.heap a vs)
      ∙ ap (cell_at (insert c.heap a vs)) (sym s.0) ∙ at in cc in
      (us, ap (cell_at (insert d.heap b us)) s.1 ∙ put_there d.heap b us, subst (λ z. EachPair More z us) fields e)
  more_rests vs us e p q ws (inl s) at =
      let first = s.1.0 in
      let second = s.1.1 in
      let is = sym (put_other c.heap a vs p (λ z. omega arith)) ∙ at in
      let i = l.cells p q ws s.0 is in
      let there = cell_below c p ws is in
      let here = cell_below d q i.0 i.1 in (
        i.0,
        put_other d.heap b us q (λ z. omega arith) ∙ i.1,
        old ws i.0 (pair_within R (greatest c) (greatest d) ws i.0 there.1 here.1 i.2),
      )

  more_alike : (x : ℕ) (vs us : List ℕ) → EachPair More vs us
      → Alike More (next_line c (slice_set c.stack x a) (insert c.heap a vs))
      (next_line d (slice_set d.stack x b) (insert d.heap b us))
  more_alike x vs us e = record {
    line = ap (λ n. n + 1) l.line;
    nil = inl (l.nil, (omega arith, omega arith));
    to_one = more_to;
    from_one = more_from;
    stack = pair_set More c.stack d.stack x a b (inr (refl, refl)) (old c.stack d.stack stack_within);
    cells = more_rests vs us e;
  }

-- the number above the greatest is free
free_above : (d : State) (b : ℕ) → b ≡ greatest d + 1 → cell_at d.heap b ≡ None
free_above d b e = of (cell_at d.heap b) refl
  where
    of : (o : Option (List ℕ)) → cell_at d.heap b ≡ o → o ≡ None
    of None is = refl
    of (Some vs) is = let p = (cell_below d b vs is).0 in absurd (omega arith)

each_le : (m n : ℕ) → m ≤ n → (vs : List ℕ) → Each (λ v. v ≤ m) vs → Each (λ v. v ≤ n) vs
each_le m n le [] e = tt
each_le m n le (v ∷ vs) e = let here = e.0 in (omega arith, each_le m n le vs e.1)

new_followed : (R : ℕ → ℕ → Type 0) (c d e : State) (x k w a : ℕ) (vs : List ℕ) → Alike R c d → MayPick w c k a vs
    → greatest c < a → Each (IsAtHand a c.stack) vs
    → e ≡ next_line c (slice_set c.stack x a) (insert c.heap a vs) → Followed (New x k) w d e
new_followed R c d e x k w a vs l may over at_hand is =
    let b = greatest d + 1 in
    let within : a ≤ greatest c + w = may.within in
    let f = fields_for R c d l a b over refl vs at_hand in
    let us = f.fields in
    let state : State = next_line d (slice_set d.stack x b) (insert d.heap b us) in
    let pick : MayPick w d k b us = record {
      positive = omega arith;
      within = omega arith;
      free = free_above d b refl;
      count = sym (pair_length (More R c d l a b over refl) vs us f.pairs) ∙ may.count;
      values_within = each_le b (greatest d + w) (omega arith) us f.within;
    } in
    record {
      related = More R c d l a b over refl;
      state = state;
      goes = (b, us, pick, refl);
      alike = subst (λ z. Alike (More R c d l a b over refl) z state) (sym is)
          (more_alike R c d l a b over refl x vs us f.pairs);
    }

-- ---- each command

module _ (R : ℕ → ℕ → Type 0) (w : ℕ) (c d e : State) (l : Alike R c d) where
  -- the relation stays
  kept : (x : Command) (f : State) → Goes x w d f → Alike R e f → Followed x w d e
  kept x f g k = record { related = R; state = f; goes = g; alike = k }

  assigned : (x : ℕ) (t : Term) → e ≡ next_line c (slice_set c.stack x (value_in c t)) c.heap
      → Followed (Assign x t) w d e
  assigned x t is =
      let f : State = next_line d (slice_set d.stack x (value_in d t)) d.heap in
      kept (Assign x t) f refl (subst (λ z. Alike R z f) (sym is) (next_alike R c d l _ _ c.heap d.heap
      (pair_set R c.stack d.stack x _ _ (value_alike R c d l t) l.stack) l.cells))

  loaded : (x : ℕ) (t : Term) (k v : ℕ) → field_of (cell_at c.heap (value_in c t)) k ≡ Some v
      → e ≡ next_line c (slice_set c.stack x v) c.heap → Followed (Load x t k) w d e
  loaded x t k v at is =
      let p = field_cell (cell_at c.heap (value_in c t)) k v at in
      let i = l.cells (value_in c t) (value_in d t) p.0 (value_alike R c d l t) p.1 in
      let u = pair_counted R p.0 i.0 k v i.2 p.2 in
      let f : State = next_line d (slice_set d.stack x u.0) d.heap in
      kept (Load x t k) f (u.0, ap (λ o. field_of o k) i.1 ∙ u.1, refl) (subst (λ z. Alike R z f) (sym is)
      (next_alike R c d l _ _ c.heap d.heap (pair_set R c.stack d.stack x v u.0 u.2 l.stack) l.cells))

  stored : (t : Term) (k : ℕ) (u : Term) (vs : List ℕ) (v : ℕ) → cell_at c.heap (value_in c t) ≡ Some vs
      → counted_from_one vs k ≡ Some v
      → e ≡ next_line c c.stack (insert c.heap (value_in c t) (slice_set vs (k - 1) (value_in c u)))
      → Followed (Store t k u) w d e
  stored t k u vs v at counted is =
      let r = value_alike R c d l t in
      let i = l.cells (value_in c t) (value_in d t) vs r at in
      let y = pair_counted R vs i.0 k v i.2 counted in
      let us : List ℕ = slice_set i.0 (k - 1) (value_in d u) in
      let f : State = next_line d d.stack (insert d.heap (value_in d t) us) in
      kept (Store t k u) f (i.0, y.0, i.1, y.1, refl) (subst (λ z. Alike R z f) (sym is)
      (next_alike R c d l _ _ _ _ l.stack (put_rests R c d l _ _ _ us r
      (pair_set R vs i.0 (k - 1) _ _ (value_alike R c d l u) i.2))))

  freed : (t : Term) (vs : List ℕ) → cell_at c.heap (value_in c t) ≡ Some vs
      → e ≡ next_line c c.stack (remove c.heap (value_in c t)) → Followed (Free t) w d e
  freed t vs at is =
      let r = value_alike R c d l t in
      let i = l.cells (value_in c t) (value_in d t) vs r at in
      let f : State = next_line d d.stack (remove d.heap (value_in d t)) in
      kept (Free t) f (i.0, i.1, refl) (subst (λ z. Alike R z f) (sym is)
      (next_alike R c d l _ _ _ _ l.stack (removed_rests R c d l _ _ r)))

  jumped : (x : Command) (j k : ℕ) → Goes x w d (jump d k) → j ≡ k → e ≡ jump c j → Followed x w d e
  jumped x j k g same is = kept x (jump d k) g
      (subst (λ z. Alike R z (jump d k)) (sym is) (jump_alike R c d l j k same))

  tested_same : (t u : Term) → nat_eq (value_in c t) (value_in c u) ≡ nat_eq (value_in d t) (value_in d u)
  tested_same t u = same_test R c d l _ _ _ _ (value_alike R c d l t) (value_alike R c d l u)

  next_same : c.line + 1 ≡ d.line + 1
  next_same = ap (λ n. n + 1) l.line

  any_jump : (j : ℕ) (b : Bool) → e ≡ jump c (cond b j (c.line + 1)) → Followed (IfAny j) w d e
  any_jump j true is = jumped (IfAny j) j j (inl refl) refl is
  any_jump j false is = jumped (IfAny j) (c.line + 1) (d.line + 1) (inr refl) next_same is

pub step_followed : (x : Command) (R : ℕ → ℕ → Type 0) (w a : ℕ) (vs : List ℕ) (c d e : State) → Alike R c d
    → MayTake x w a vs c → TakesFresh x a vs c → Leads x a vs c e → Followed x w d e
step_followed (Assign x t) R w a vs c d e l may fresh leads = assigned R w c d e l x t leads
step_followed (Load x t k) R w a vs c d e l may fresh leads = loaded R w c d e l x t k leads.0 leads.1 leads.2
step_followed (Store t k u) R w a vs c d e l may fresh leads =
    stored R w c d e l t k u leads.0 leads.1 leads.2 leads.3 leads.4
step_followed (New x k) R w a vs c d e l may fresh leads =
    new_followed R c d e x k w a vs l may fresh.0 fresh.1 leads
step_followed (Free t) R w a vs c d e l may fresh leads = freed R w c d e l t leads.0 leads.1 leads.2
step_followed (IfEq t u j) R w a vs c d e l may fresh leads =
    jumped R w c d e l (IfEq t u j) _ _ refl
    (λ i. cond (tested_same R w c d e l t u i) j (next_same R w c d e l i)) leads
step_followed (IfNeq t u j) R w a vs c d e l may fresh leads =
    jumped R w c d e l (IfNeq t u j) _ _ refl
    (λ i. cond (tested_same R w c d e l t u i) (next_same R w c d e l i) j) leads
step_followed (IfAny j) R w a vs c d e l may fresh leads = any_jump R w c d e l j (nat_eq a 1) leads
step_followed (Goto j) R w a vs c d e l may fresh leads = jumped R w c d e l (Goto j) j j refl refl leads
step_followed Stop R w a vs c d e l may fresh leads = absurd leads
step_followed (Ends bs) R w a vs c d e l may fresh leads = absurd leads

-- ---- relations one after the other

pub alike_through : (R S : ℕ → ℕ → Type 0) (c d e : State) → Alike R c d → Alike S d e
    → Alike (λ x z. (y : ℕ) × R x y × S y z) c e
alike_through R S c d e l m = record {
  line = l.line ∙ m.line;
  nil = (0, l.nil, m.nil);
  to_one = λ x y z p q. m.to_one q.0 y z (subst (λ u. S u y) (l.to_one x p.0 q.0 p.1 q.1) p.2) q.2;
  from_one = λ x y z p q. l.from_one x y q.0 (subst (λ u. R x u) (m.from_one p.0 q.0 z p.2 q.2) p.1) q.1;
  stack = pair_through R S c.stack d.stack e.stack l.stack m.stack;
  cells = λ a b vs r at.
      let i = l.cells a r.0 vs r.1 at in
      let j = m.cells r.0 b i.0 r.2 i.1 in
      (j.0, j.1, pair_through R S vs i.0 j.0 i.2 j.2);
}

pub alike_same : (c : State) → Alike (λ x y. x ≡ y) c c
alike_same c = record {
  line = refl;
  nil = refl;
  to_one = λ x y z p q. sym p ∙ q;
  from_one = λ x y z p q. p ∙ sym q;
  stack = pair_same c.stack;
  cells = λ a b vs r at. (vs, ap (cell_at c.heap) (sym r) ∙ at, pair_same vs);
}
