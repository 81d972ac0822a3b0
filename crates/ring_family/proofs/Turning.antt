-- A graph in which every cycle lies on a ring, one trace goes on along it, and each turn progresses.
use Rattle.std.proofs.Common.{◌≡◌, ℕ, suc, ◌<◌, ◌≤◌, ◌⊎◌, inl, inr, List, [], ◌∷◌, arith, Bool, true, false, ◌||◌, Some}
use Rattle.std.proofs.Common.{slice_get, length, sym, refl, ap, subst}
use Rattle.std.proofs.lemmas.Bool.{cases_Bool, both_ways}
use Rattle.std.proofs.lemmas.List.{append-nil}
use Rattle.trace_pairs.specs.Graph.{Node, Edge, IsEdge}
use Rattle.trace_pairs.specs.Lasso.{IsPath, Joins, Trace, AllProgress}
use Rattle.trace_pairs.specs.declared.lasso.Step.{Step}

module _ (on : ℕ → Bool) (at : ℕ → ℕ) (rank : ℕ → ℕ) where
  -- a pair of the edge leads from the one place to the other, with progress, or the ranks rise
  pub record GoesOn (v : ℕ) (e : Edge) : Type 0 where
    pub progress : Bool
    pub i : ℕ
    pub is_pair : slice_get e.pairs i ≡ Some (at v, at e.target, progress)
    pub rises : (progress ≡ true) ⊎ ((progress ≡ false) × (rank v < rank e.target))

  -- off the ring the ranks rise, and no edge leads back
  pub record Turns (v : ℕ) (e : Edge) : Type 0 where
    pub off : on v ≡ false → (on e.target ≡ false) × (rank v < rank e.target)
    pub kept : on v ≡ true → on e.target ≡ true → GoesOn v e

  module _ (g : List Node) (all_turn : (v k : ℕ) (e : Edge) → IsEdge g v k e → Turns v e) where
    stays_off : (steps : List Step) (v w : ℕ) → IsPath g v steps w → on v ≡ false → (on w ≡ false) × (rank v ≤ rank w)
    stays_off [] v w p h = (subst (λ x. on x ≡ false) p h, (let e = ap rank p in omega (arith, e)))
    stays_off (s ∷ steps) v w p h =
        let t = (all_turn v s.edge p.1 p.2).off h in
        let r = stays_off steps p.1.target w p.3 t.0 in
        (r.0, omega (arith, t.1, r.1))

    never_back : (s : Step) (steps : List Step) (v : ℕ) → IsPath g v (s ∷ steps) v → on v ≡ false → ⊥
    never_back s steps v p h =
        let t = (all_turn v s.edge p.1 p.2).off h in
        let r = stays_off steps p.1.target v p.3 t.0 in
        omega (arith, t.1, r.1)

    -- a trace along the steps, with progress, or the ranks rise
    record Carries (steps : List Step) (v w : ℕ) : Type 0 where
      progress : Bool
      trace : Trace g steps (at v) (at w) progress
      rises : (progress ≡ true) ⊎ ((progress ≡ false) × (rank v ≤ rank w) × (0 < length steps → rank v < rank w))

    joined : (s : Step) (v : ℕ) (e : Edge) → s.node ≡ v → IsEdge g v s.edge e → (t : GoesOn v e)
        → Joins g s (at v) (at e.target) t.progress
    joined s v e same is_edge t =
        record {
          e = e;
          is_edge = subst (λ x. IsEdge g x s.edge e) (sym same) is_edge;
          k = t.i;
          pair = (at v, at e.target, t.progress);
          is_pair = t.is_pair;
          old_is = refl;
          new_is = refl;
          progress_is = refl;
        }

    carries : (steps : List Step) (v w : ℕ) → IsPath g v steps w → on v ≡ true → on w ≡ true → Carries steps v w
    carries [] v w p a b =
        record {
          progress = false;
          trace = (ap at p, refl);
          rises = inr (refl, (let e = ap rank p in omega (arith, e)), (λ h. absurd (omega (arith, h))));
        }
    carries (s ∷ steps) v w p a b =
        elim (cases_Bool (on p.1.target)) [
          | inl yes' ↦
              (let t = (all_turn v s.edge p.1 p.2).kept a yes' in
              let r = carries steps p.1.target w p.3 yes' b in
              record {
                progress = t.progress || r.progress;
                trace = (at p.1.target, t.progress, r.progress, joined s v p.1 p.0 p.2 t, r.trace, refl);
                rises = both t.progress r.progress (rank v) (rank p.1.target) (rank w) (length steps) t.rises r.rises;
              })
          | inr no' ↦ absurd (both_ways (on w) (stays_off steps p.1.target w p.3 no').0 b)
        ]
      where
        both : (x y : Bool) (i j k n : ℕ) → (x ≡ true) ⊎ ((x ≡ false) × (i < j))
            → (y ≡ true) ⊎ ((y ≡ false) × (j ≤ k) × (0 < n → j < k)) →
            ((x || y) ≡ true) ⊎ (((x || y) ≡ false) × (i ≤ k) × (0 < suc n → i < k))
        both true y i j k n c d = inl refl
        both false y i j k n (inl c) d = absurd (both_ways false refl c)
        both false y i j k n (inr c) (inl d) = inl d
        both false y i j k n (inr c) (inr d) = inr (d.0, omega (arith, c.1, d.1), (λ h. omega (arith, c.1, d.1)))

    whole_turn : (cycle : List Step) (v : ℕ) → IsPath g v cycle v → 0 < length cycle → (q : ℕ) × Trace g cycle q q true
    whole_turn [] v p h = absurd (omega (arith, h))
    whole_turn (s ∷ steps) v p h =
        elim (cases_Bool (on v)) [
          | inl yes' ↦
              (let c = carries (s ∷ steps) v v p yes' yes' in (
                at v,
                elim c.rises [
                  | inl t ↦ subst (λ b. Trace g (s ∷ steps) (at v) (at v) b) t c.trace
                  | inr f ↦ absurd (let lower = f.2 h in omega (arith, lower))
                ],
              ))
          | inr no' ↦ absurd (never_back s steps v p no')
        ]

    pub all_progress : AllProgress g
    all_progress l lasso =
        let t = whole_turn l.cycle lasso.first lasso.cycle lasso.taken in
        record { position = t.0; k = 0; trace = subst (λ c. Trace g c t.0 t.0 true) (sym (append-nil l.cycle)) t.1 }
