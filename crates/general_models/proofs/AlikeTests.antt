-- States are alike exactly where the tests of them pass.
use Rattle.std.proofs.Common.{◌≡◌, ℕ, inl, inr, List, [], ◌∷◌, length, Bool, true, false, refl, sym, ap, subst, ◌∙◌}
use Rattle.std.specs.Prelude.{◌↔◌, ◌≢◌, IsTrue}
use Rattle.cyc_basics.specs.Words.{IsMember}
use Rattle.heap_formula.specs.Words.{Each}
use Rattle.heap_formula.specs.Cells.{cell_at}
use Rattle.heap_formula.specs.Programs.{Config as State}
use Rattle.general_models.specs.declared.runs.growth.ValuePair.{ValuePair}
use Rattle.general_models.specs.Growing.{EachPair, Alike, IsPaired, AreOneToOne, IsPairedOnce, HasLikeCell}
use Rattle.general_models.proofs.Likeness.{pair_length}
use Rattle.general_models.proofs.SomeOf.{excluded, no}

-- lists of two lengths have no pairs
pub two_lengths : (R : ℕ → ℕ → Type 0) (xs ys : List ℕ) → length xs ≢ length ys → IsTrue false ↔ EachPair R xs ys
two_lengths R xs ys differ = (
  λ t. absurd (let z : false ≡ true = t in cc),
  λ e. absurd (differ (pair_length R xs ys e)),
)

-- ---- pairs that are listed

each_all : {X : Type 0} (Q : X → Type 0) (xs : List X) → ((x : X) → IsMember x xs → Q x) → Each Q xs
each_all Q [] f = tt
each_all Q (x ∷ xs) f = (f x (inl refl), each_all Q xs (λ y m. f y (inr m)))

each_of : (Q : ValuePair → Type 0) (ps : List ValuePair) (x y : ℕ) → Each Q ps → IsPaired ps x y
    → (p : ValuePair) × Q p × (p.before ≡ x) × (p.after ≡ y)
each_of Q [] x y e o = absurd o
each_of Q (p ∷ ps) x y e (inl h) = (p, e.0, h.0, h.1)
each_of Q (p ∷ ps) x y e (inr o) = each_of Q ps x y e.1 o

member_paired : (p : ValuePair) (ps : List ValuePair) → IsMember p ps → IsPaired ps p.before p.after
member_paired p [] m = absurd m
member_paired p (q ∷ ps) (inl e) = inl (ap (λ r. r.before) e, ap (λ r. r.after) e)
member_paired p (q ∷ ps) (inr m) = inr (member_paired p ps m)

module _ (pairs : List ValuePair) where
  once : AreOneToOne pairs → (x y u v : ℕ) → IsPaired pairs x y → IsPaired pairs u v → (u ≡ x) ↔ (v ≡ y)
  once e x y u v r s =
      let p = each_of (IsPairedOnce pairs) pairs x y e r in
      let q = each_of (λ q. (q.before ≡ p.0.before) ↔ (q.after ≡ p.0.after)) pairs u v p.1 s in (
        λ ux. sym q.3 ∙ q.1.0 (q.2 ∙ ux ∙ sym p.2) ∙ p.3,
        λ vy. sym q.2 ∙ q.1.1 (q.3 ∙ vy ∙ sym p.3) ∙ p.2,
      )

  module _ (c d : State) where
    pub alike_made : c.line ≡ d.line → IsPaired pairs 0 0 → AreOneToOne pairs
        → EachPair (IsPaired pairs) c.stack d.stack
        → Each (HasLikeCell pairs c.heap d.heap) pairs → Alike (IsPaired pairs) c d
    alike_made line nil one stack cells = record {
      line = line;
      nil = nil;
      to_one = λ x y z r s. sym ((once one x y x z r s).0 refl);
      from_one = λ x y z r s. sym ((once one x z y z r s).1 refl);
      stack = stack;
      cells = λ a b vs r at.
          let p = each_of (HasLikeCell pairs c.heap d.heap) pairs a b cells r in
          let h = p.1 vs (ap (cell_at c.heap) p.2 ∙ at) in
          (h.0, ap (cell_at d.heap) (sym p.3) ∙ h.1, h.2);
    }

    module _ (l : Alike (IsPaired pairs) c d) where
      pub alike_once : AreOneToOne pairs
      alike_once = each_all (IsPairedOnce pairs) pairs (λ p m. each_all _ pairs (λ q n.
          let r = member_paired p pairs m in
          let s = member_paired q pairs n in (
            λ e. l.to_one p.before q.after p.after (subst (λ x. IsPaired pairs x q.after) e s) r,
            λ e. l.from_one q.before p.before p.after (subst (λ y. IsPaired pairs q.before y) e s) r,
          )))

      pub alike_cells : Each (HasLikeCell pairs c.heap d.heap) pairs
      alike_cells = each_all (HasLikeCell pairs c.heap d.heap) pairs
          (λ p m vs at. l.cells p.before p.after vs (member_paired p pairs m) at)

    -- ---- the answers as the code has them

    pub not_alike_once : (b : Bool) → b ≡ false → IsTrue b ↔ AreOneToOne pairs
        → IsTrue false ↔ Alike (IsPaired pairs) c d
    not_alike_once b f i = no (λ l. excluded b f i (alike_once l))

    pub not_alike_stacks : (b : Bool) → b ≡ false → IsTrue b ↔ EachPair (IsPaired pairs) c.stack d.stack → IsTrue false
        ↔ Alike (IsPaired pairs) c d
    not_alike_stacks b f i = no (λ l. excluded b f i l.stack)

    pub alike_exact : (b : Bool) → c.line ≡ d.line → IsPaired pairs 0 0 → AreOneToOne pairs
        → EachPair (IsPaired pairs) c.stack d.stack → IsTrue b ↔ Each (HasLikeCell pairs c.heap d.heap) pairs → IsTrue b
        ↔ Alike (IsPaired pairs) c d
    alike_exact b line nil one stack i = (
      λ t. alike_made line nil one stack (i.0 t),
      λ l. i.1 (alike_cells l),
    )
