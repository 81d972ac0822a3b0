-- The rules without definitions are sound.
use Rattle.std.proofs.Common.{◌≡◌, ℕ, ◌+◌, ◌≤◌, Bool, true, false, List, [], ◌∷◌, ◌++◌, length, Some, slice_get, refl}
use Rattle.std.proofs.Common.{sym, ap, ◌∙◌, subst, arith, append-nil, inl, inr}
use Rattle.std.specs.Prelude.{nat_eq, if◌then◌else◌}
use Rattle.std.proofs.lemmas.Bool.{eqb-true}
use Rattle.heap_formula.specs.Words.{Each}
use Rattle.heap_formula.specs.Meaning.{Stages}
use Rattle.heap_formula.specs.Judgements.{Follows}
use Rattle.heap_formula.specs.Positions.{without, before}
use Rattle.heap_formula.specs.declared.judgements.Pair.{Pair}
use Rattle.fo_formula.specs.declared.terms.Sign.{Sign}
use Rattle.fo_formula.specs.declared.terms.Sign.TheVariants.{Universal, Local, Constructor}
use Rattle.fo_formula.specs.declared.atoms.FoAtom.{FoAtom}
use Rattle.fo_formula.specs.declared.atoms.FoAtom.TheVariants.{Equation, Predicate}
use Rattle.fo_formula.specs.declared.sequents.FoSequent.{FoSequent}
use Rattle.fo_formula.specs.declared.theory.FoTheory.{FoTheory}
use Rattle.fo_formula.specs.Words.{Word, IsTerm, in_atom}
use Rattle.fo_formula.specs.Values.{entry, value}
use Rattle.fo_formula.specs.Meaning.{AtomHolds, at_stage, least}
use Rattle.fo_formula.specs.Validity.{LeftHolds}
use Rattle.fo_formula.specs.Shapes.{HasConstant}
use Rattle.fo_formula.proofs.Lists.{one_append}
use Rattle.fo_formula.proofs.Replacing.{InAtom, IsValued, atom-replaced}
use Rattle.fo_formula.proofs.StageLaws.{atom_within}
use Rattle.fo_formula.specs.Traces.{pairs_from, same_pairs, kept_pairs}
use Rattle.fo_formula.specs.Tests.{is_absurd, have_one_constructor}
use Rattle.fo_formula.specs.Table.{image_sign, weakened_left, weakened_right, argument_equations, decomposed, with_term}
use Rattle.fo_formula.specs.Table.{contracted, cut_right, cut_left}
use Rattle.fo_formula.specs.Soundness.{IsLocallySound}
use Rattle.fo_formula.proofs.Lefts.{then_stages, then_stages-first, then_stages-others, left_without, left_at}
use Rattle.fo_formula.proofs.Lefts.{left_append, left_changed, pairs_follow, pairs_follow_if, one_without}
use Rattle.fo_formula.proofs.Agreement.{in_any_atom}
use Rattle.fo_formula.proofs.Readings.{absurd_differ, arguments_hold}
use Rattle.heap_formula.proofs.SomeMember.{one_at, one_unmap}

each_of_any : (Q : FoAtom → Type 0) → ((x : FoAtom) → Q x) → (xs : List FoAtom) → Each Q xs
each_of_any Q f [] = tt
each_of_any Q f (x ∷ xs) = (f x, each_of_any Q f xs)

pub pairs_append : (stages below : Stages) (xs ys : List Pair) → Follows xs stages below → Follows ys stages below
    → Follows (xs ++ ys) stages below
pairs_append stages below [] ys a b = b
pairs_append stages below (x ∷ xs) ys a b = (a.0, pairs_append stages below xs ys a.1 b)

module _ (t : FoTheory) (s : FoSequent) where
  -- what holds at a stage holds
  pub at_least : (n : ℕ) (v : List Word) (x : FoAtom) → AtomHolds (at_stage t n) v [] x → AtomHolds (least t) v [] x
  at_least n v x a = atom_within (at_stage t n) (least t) (λ p vs b. (n, b)) v [] x a

  pub axiom_lemma : (i j : ℕ) (x : FoAtom) → slice_get s.left i ≡ Some x → slice_get s.right j ≡ Some x
      → IsLocallySound t s []
  axiom_lemma i j x at there stages none v ok h =
      one_at (AtomHolds (least t) v []) s.right j x there
      (at_least (stages i) v x (left_at v (λ k. at_stage t (stages k)) s.left i x at h))

  pub refl_lemma : (j : ℕ) (l : Word) → slice_get s.right j ≡ Some (Equation l l) → IsLocallySound t s []
  refl_lemma j l at stages none v ok h = one_at (AtomHolds (least t) v []) s.right j (Equation l l) at refl

  pub clash_lemma : HasConstant t → (i : ℕ) (l r : Word) → slice_get s.left i ≡ Some (Equation l r)
      → is_absurd l r ≡ true → IsLocallySound t s []
  clash_lemma constant i l r at clash stages none v ok h =
      absurd (absurd_differ t.constructors constant v ok l r clash
      (left_at v (λ k. at_stage t (stages k)) s.left i (Equation l r) at h))

  pub weaken_left_lemma : (i : ℕ) → IsLocallySound t s (weakened_left s i ∷ [])
  weaken_left_lemma i stages premises v ok h =
      premises.0 (λ k. stages (before i k)) (pairs_follow (before i) stages 0 (without i s.left)) v ok
      (left_without v (λ k. at_stage t (stages k)) i s.left h)

  pub weaken_right_lemma : (j : ℕ) → IsLocallySound t s (weakened_right s j ∷ [])
  weaken_right_lemma j stages premises v ok h =
      one_without (AtomHolds (least t) v []) j s.right
      (premises.0 stages (pairs_follow (λ k. k) stages 0 s.left) v ok h)

  pub decompose_lemma : HasConstant t → (i : ℕ) (l r : Word) → slice_get s.left i ≡ Some (Equation l r)
      → have_one_constructor l r ≡ true → IsTerm l → IsTerm r → IsLocallySound t s (decomposed s i l r ∷ [])
  decompose_lemma constant i l r at same tl tr stages premises v ok h =
      let here = left_at v (λ k. at_stage t (stages k)) s.left i (Equation l r) at h in
      let others : Stages = λ k. 0 in
      let below = then_stages (without i s.left) (λ k. stages (before i k)) others in
      let follow : Follows (kept_pairs i s.left) stages below =
      pairs_follow_if (before i) stages below 0 (without i s.left)
      (λ k lt. let z : 0 + k ≡ k = omega arith in subst (λ q. below q ≤ stages (before i q)) (sym z)
      (let e = then_stages-first (without i s.left) (λ m. stages (before i m)) others k lt in omega arith)) in
      premises.0 below follow v ok (left_append v t (without i s.left) (argument_equations l r)
      (λ k. stages (before i k)) others (left_without v (λ k. at_stage t (stages k)) i s.left h)
      (arguments_hold t.constructors constant v ok (λ k. at_stage t (others k)) l r same tl tr here))

  -- ---- Replace

  image_valued : (v : List Word) (n : ℕ) (w : Word) → entry v n ≡ value v [] w → (m : ℕ) (b : Bool) → nat_eq m n ≡ b
      → value v [] (if b then w else Universal m ∷ []) ≡ entry v m
  image_valued v n w same m true e = let q = eqb-true m n e in sym same ∙ ap (entry v) (sym q)
  image_valued v n w same m false e = append-nil (entry v m)

  valued : (v : List Word) (n : ℕ) (w : Word) → entry v n ≡ value v [] w → (x : Sign)
      → IsValued v [] v [] (image_sign ((n, w) ∷ [])) x
  valued v n w same (Universal m) = image_valued v n w same m (nat_eq m n) refl
  valued v n w same (Local m) = append-nil (entry [] m)
  valued v n w same (Constructor c k) = refl

  pub replace_lemma : (i n : ℕ) (w : Word) → ((stages : Stages) (v : List Word)
      → LeftHolds (λ k. at_stage t (stages k)) v s.left → entry v n ≡ value v [] w)
      → IsLocallySound t s (with_term s i n w ∷ [])
  replace_lemma i n w equal stages premises v ok h =
      let same = equal stages v h in
      let g = image_sign ((n, w) ∷ []) in
      let all = λ (x : FoAtom). in_any_atom (IsValued v [] v [] g) (valued v n w same) x in
      let kept = left_without v (λ k. at_stage t (stages k)) i s.left h in
      let changed = left_changed v v (in_atom g) (InAtom (IsValued v [] v [] g))
      (λ P x q a. (atom-replaced v [] v [] g P x q).1 a) (λ k. at_stage t (stages (before i k))) (without i s.left)
      (each_of_any (InAtom (IsValued v [] v [] g)) all (without i s.left)) kept in
      let o = premises.0 (λ k. stages (before i k)) (pairs_follow (before i) stages 0 (without i s.left)) v ok changed
      in
      one_unmap (AtomHolds (least t) v []) (AtomHolds (least t) v []) (in_atom g)
      (λ x a. (atom-replaced v [] v [] g (least t) x (all x)).0 a) s.right o

  -- ---- Contract, Cut

  same_follow : (stages others : Stages) → Follows (same_pairs s.left) stages (then_stages s.left stages others)
  same_follow stages others =
      pairs_follow_if (λ k. k) stages (then_stages s.left stages others) 0 s.left
      (λ k lt. let z : 0 + k ≡ k = omega arith in subst (λ q. then_stages s.left stages others q ≤ stages q) (sym z)
      (let e = then_stages-first s.left stages others k lt in omega arith))

  pub contract_lemma : (i : ℕ) (x : FoAtom) → slice_get s.left i ≡ Some x → IsLocallySound t s (contracted s i x ∷ [])
  contract_lemma i x at stages premises v ok h =
      let here = left_at v (λ k. at_stage t (stages k)) s.left i x at h in
      let others : Stages = λ k. stages i in
      let below = then_stages s.left stages others in
      let copy : Follows (pairs_from (λ _. i) (length s.left) (x ∷ [])) stages below =
      pairs_follow_if (λ _. i) stages below (length s.left) (x ∷ [])
      (λ k lt. let e = then_stages-others s.left stages others k in omega arith) in
      let follow = pairs_append stages below (same_pairs s.left) (pairs_from (λ _. i) (length s.left) (x ∷ []))
      (same_follow stages others) copy in
      premises.0 below follow v ok (left_append v t s.left (x ∷ []) stages others h (here, tt))

  -- an atom that holds has a stage
  staged : (v : List Word) (x : FoAtom) → AtomHolds (least t) v [] x → (n : ℕ) × AtomHolds (at_stage t n) v [] x
  staged v (Equation l r) a = (0, a)
  staged v (Predicate p ts) a = a

  pub cut_lemma : (x : FoAtom) → IsLocallySound t s (cut_right s x ∷ cut_left s x ∷ [])
  cut_lemma x stages premises v ok h =
      elim (one_append (AtomHolds (least t) v []) s.right (x ∷ [])
      (premises.0 stages (pairs_follow (λ k. k) stages 0 s.left) v ok h)) [
        | inl o ↦ o
        | inr b ↦
            let a : AtomHolds (least t) v [] x = elim b [ inl c ↦ c | inr c ↦ absurd c ] in
            let n = staged v x a in
            let others : Stages = λ k. n.0 in
            premises.1.0 (then_stages s.left stages others) (same_follow stages others) v ok
            (left_append v t s.left (x ∷ []) stages others h (n.1, tt))
      ]
