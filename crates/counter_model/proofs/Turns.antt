-- Steps that leave all as it was where they find nothing.
use Rattle.std.specs.Prelude.{IsTrue, slice_get}
use Rattle.std.proofs.Common.{◌≡◌, ℕ, ◌+◌, ◌<◌, ◌≤◌, List, [], ◌∷◌, ◌++◌, length, drop, get_or, Bool, true, false, ◌||◌}
use Rattle.std.proofs.Common.{refl, sym, ap, ◌∙◌, subst, inl, inr, ◌⊎◌, arith}
use Rattle.heap_formula.specs.Words.{OneOf}
use Rattle.heap_formula.specs.Cells.{Cells, cell_at}
use Rattle.counter_model.specs.Bounds.{SameUpTo, IsAmong}
use Rattle.counter_model.specs.Findings.{Findings, heaps_in, IsFound, IsNewlyFound, UnlessGrown, size}
use Rattle.counter_model.proofs.Loops.{turn, done, pushed}
use Rattle.std.proofs.lemmas.Bool.{or_parts}

-- one of two steps has added something
larger_both : (t0 t1 t2 : Findings) (grown more : Bool) {P Q : Type 0} → UnlessGrown grown t0 t1 P
    → UnlessGrown more t1 t2 Q → (grown || more) ≡ true → size t0 < size t2
larger_both t0 t1 t2 true true a b e = let x = a.larger refl in let y = b.larger refl in omega arith
larger_both t0 t1 t2 true false a b e = subst (λ t. size t0 < size t) (sym (b.settled refl).0) (a.larger refl)
larger_both t0 t1 t2 false true a b e = subst (λ t. size t < size t2) (a.settled refl).0 (b.larger refl)
larger_both t0 t1 t2 false false a b e = cc

module _ (t0 t1 t2 : Findings) (grown more both : Bool) (either : both ≡ (grown || more)) where
  -- two steps, one after the other
  pub both_steps : (P : Findings → Type 0) (Q : Findings → Type 0) (R : Findings → Type 0)
      → ((t : Findings) → P t → Q t → R t) → UnlessGrown grown t0 t1 (P t0) → UnlessGrown more t1 t2 (Q t1)
      → UnlessGrown both t0 t2 (R t0)
  both_steps P Q R f a b = record {
    settled = λ e.
        let n = or_parts grown more (sym either ∙ e) in
        let x = a.settled n.0 in
        let y = b.settled n.1 in
        (y.0 ∙ x.0, f t0 x.1 (subst Q x.0 y.1));
    larger = λ e. larger_both t0 t1 t2 grown more a b (sym either ∙ e);
  }

  -- one more member of a list is done
  pub grown_turn : {X : Type 0} (M : Findings → Cells → Type 0) (Q : Findings → X → Cells → Type 0) (xs : List X)
      (i : ℕ) (x : X) → i < length xs → x ≡ get_or xs i x → UnlessGrown grown t0 t1
      ((h : Cells) → OneOf (λ y. Q t0 y h) xs → M t0 h ⊎ OneOf (λ y. Q t0 y h) (drop i xs))
      → UnlessGrown more t1 t2 ((h : Cells) → Q t1 x h → M t1 h)
      → UnlessGrown both t0 t2 ((h : Cells) → OneOf (λ y. Q t0 y h) xs
      → M t0 h ⊎ OneOf (λ y. Q t0 y h) (drop (i + 1) xs))
  grown_turn {X = X} M Q xs i x l is =
      both_steps (λ t. (h : Cells) → OneOf (λ y. Q t y h) xs → M t h ⊎ OneOf (λ y. Q t y h) (drop i xs))
      (λ t. (h : Cells) → Q t x h → M t h) (λ t. (h : Cells) → OneOf (λ y. Q t y h) xs
      → M t h ⊎ OneOf (λ y. Q t y h) (drop (i + 1) xs)) (λ t a b h o.
      turn (λ y. Q t y h) xs i x l is (λ z. elim z as (λ w. M t h) [ inl m ↦ m | inr q ↦ b h q ]) (a h o))

-- a step that does nothing
pub unchanged : (t : Findings) {P : Type 0} → P → UnlessGrown false t t P
unchanged t p = record { settled = λ _. (refl, p); larger = λ e. cc }

-- what follows where nothing was found
pub then : (t0 t1 : Findings) (grown : Bool) {P Q : Type 0} → (P → Q) → UnlessGrown grown t0 t1 P
    → UnlessGrown grown t0 t1 Q
then t0 t1 grown f a = record { settled = λ e. let r = a.settled e in (r.0, f r.1); larger = a.larger }

-- all members are done
pub grown_end : {X : Type 0} (t0 t1 : Findings) (grown : Bool) (M : Cells → Type 0) (Q : X → Cells → Type 0)
    (xs : List X) (i : ℕ) → length xs ≤ i → UnlessGrown grown t0 t1
    ((h : Cells) → OneOf (λ y. Q y h) xs → M h ⊎ OneOf (λ y. Q y h) (drop i xs))
    → UnlessGrown grown t0 t1 ((h : Cells) → OneOf (λ y. Q y h) xs → M h)
grown_end t0 t1 grown M Q xs i l = then t0 t1 grown (λ f h o. done (λ y. Q y h) xs i l (f h o))

-- a heap that is like one alone
pub alone : (t0 t1 : Findings) (grown : Bool) (n q : ℕ) (x : Cells)
    → UnlessGrown grown t0 t1 ((h : Cells) → IsAmong n (x ∷ []) h → IsFound n t0 q h)
    → UnlessGrown grown t0 t1 ((h : Cells) → SameUpTo n x h → IsFound n t0 q h)
alone t0 t1 grown n q x = then t0 t1 grown (λ f h s. f h (inl s))

-- a heap that was not there is there
pub newly : (n q : ℕ) (t0 t1 : Findings) (x h : Cells) (heaps : List Cells) (b : Bool)
    → heaps ≡ heaps_in (slice_get t0.found q) → (IsAmong n heaps h → IsTrue b) → b ≡ false
    → heaps_in (slice_get t1.found q) ≡ heaps_in (slice_get t0.found q) ++ x ∷ [] → x ≡ h → IsNewlyFound n t0 t1 q h
newly n q t0 t1 x h heaps b v f z e same = record {
  before = λ k. let t : b ≡ true = f (subst (λ hs. IsAmong n hs h) (sym v) k) in let y : true ≡ false = sym t ∙ z in cc;
  after = pushed (λ g. SameUpTo n g h) (heaps_in (slice_get t0.found q)) (heaps_in (slice_get t1.found q)) x e
      (inr (record { same = λ a l. ap (λ c. cell_at c a) same }));
}
