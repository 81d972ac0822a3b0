-- What states lead to, atom by atom.
use Rattle.std.proofs.Common.{◌≡◌, ◌↔◌, ℕ, zero, suc, ◌≤◌, inl, inr, List, [], ◌∷◌, take, sym, refl, subst}
use Rattle.heap_formula.specs.declared.atoms.Spatial.{Spatial}
use Rattle.heap_formula.specs.Words.{Each, OneOf}
use Rattle.pair_family.specs.BasePairs.{BasePair, no_pair}
use Rattle.pair_family.specs.Combination.{next}
use Rattle.pair_family.specs.Folding.{Frames, FoldsTo, next_frames, said_in, with_atom}
use Rattle.pair_family.specs.LargeCases.{HasMore, sizes}
use Rattle.pair_family.specs.States.{AreStates, Families, IsReached, Leads, next_families}
use Rattle.cyc_basics.specs.Words.{IsMember}
use Rattle.pair_family.proofs.Complete.{cons_choice}
use Rattle.pair_family.proofs.Large.{more_imply, not_more}
use Rattle.pair_family.proofs.Lists.{at_each, each_at}
use Rattle.pair_family.proofs.StatesFacts.{one_out, one_in}
use Rattle.sat_pairs.specs.CaseStates.{PassesFrom}

none_reached : (Fs : Families) (frames : Frames) (states : List BasePair) (d : BasePair)
    → IsReached Fs frames states [] d → IsMember d states
none_reached Fs frames states d r = subst (λ z. IsMember z states) (sym r.2.2) r.1

module _ (Fs : Families) (frames : Frames) (states : List BasePair) (x : Spatial) where
  abbrev From : BasePair → Type 0
  From d = OneOf (Leads (Fs 0) (frames 0) (frames 1) x d) states

  pub one_reached : (d : BasePair) → From d → IsReached Fs frames states (x ∷ []) d
  one_reached d o =
      let r = one_out (Leads (Fs 0) (frames 0) (frames 1) x d) states o in
      (r.0, r.1, (cons_choice r.2.0 (λ k. no_pair), (r.2.1, tt), (r.2.2, r.2.3)))

  module _ (after : List BasePair) (leads : (d : BasePair) → IsMember d after ↔ From d) (xs : List Spatial) where
    more_reached : (d : BasePair) → IsReached (next_families Fs) (next_frames frames) after xs d
        → IsReached Fs frames states (x ∷ xs) d
    more_reached d r =
        let o = one_out (Leads (Fs 0) (frames 0) (frames 1) x r.0) states ((leads r.0).0 r.1) in
        let c = o.2.0 in (
          o.0,
          o.1,
          (
            cons_choice c r.2.0,
            (o.2.1, r.2.1),
            (
              o.2.2,
              subst (λ b. FoldsTo (next_frames frames) b r.2.0 xs d) o.2.3 r.2.2,
            ),
          ),
        )

    less_reached : (d : BasePair) → IsReached Fs frames states (x ∷ xs) d
        → IsReached (next_families Fs) (next_frames frames) after xs d
    less_reached d r =
        let bs = r.2.0 in
        let e = said_in (frames 1) (with_atom (frames 0) r.0 (bs 0) x) in
        let here = (leads e).1 (one_in (Leads (Fs 0) (frames 0) (frames 1) x e) states r.0 r.1
        (bs 0, r.2.1.0, r.2.2.0, refl)) in
        (e, here, (next bs, r.2.1.1, r.2.2.1))

-- ---- lists with the same members

abbrev pub AreAlike : List BasePair → List BasePair → Type 0
AreAlike cs bs = (d : BasePair) → IsMember d cs ↔ IsMember d bs

pub alone_alike : (keys : List BasePair) (s : BasePair) → ((d : BasePair) → IsMember d keys ↔ (d ≡ s))
    → AreAlike keys (s ∷ [])
alone_alike keys s is d =
    (λ m. inl (sym ((is d).0 m)), λ m. (is d).1 (elim m [ inl e ↦ sym e | inr no' ↦ absurd no' ]))

one_alike : (P : BasePair → Type 0) (cs bs : List BasePair) → AreAlike cs bs → OneOf P cs → OneOf P bs
one_alike P cs bs same o = let r = one_out P cs o in one_in P bs r.0 ((same r.0).0 r.1) r.2

pub turned : (cs bs : List BasePair) → AreAlike cs bs → AreAlike bs cs
turned cs bs same d = ((same d).1, (same d).0)

pub each_alike : (P : BasePair → Type 0) (cs bs : List BasePair) → AreAlike cs bs → Each P bs → Each P cs
each_alike P cs bs same a = at_each P cs (λ d m. each_at P bs d a ((same d).0 m))

pub states_alike : (Fs : Families) (frames : Frames) (cs bs : List BasePair) (xs : List Spatial) (out : List BasePair)
    → AreAlike cs bs → AreStates Fs frames cs xs out → AreStates Fs frames bs xs out
states_alike Fs frames cs bs [] out same are =
    λ d. (λ m. (same d).0 ((are d).0 m), λ m. (are d).1 ((same d).1 m))
states_alike Fs frames cs bs (x ∷ xs) out same are =
    let P = λ (d : BasePair). Leads (Fs 0) (frames 0) (frames 1) x d in (
      are.0,
      (λ d. (
        λ m. one_alike (P d) cs bs same ((are.1 d).0 m),
        λ o.
            (are.1 d).1 (one_alike (P d) bs cs (turned cs bs same) o),
      )),
      are.2,
    )

pub passes_alike : (most : ℕ) (Fs : Families) (frames : Frames) (cs bs : List BasePair) (xs : List Spatial)
    → AreAlike cs bs → PassesFrom most Fs frames cs xs → PassesFrom most Fs frames bs xs
passes_alike most Fs frames cs bs xs same p = (
  p.0,
  more_imply most (IsReached Fs frames cs (take p.0 xs)) (IsReached Fs frames bs (take p.0 xs))
      (λ d r. (r.0, (same r.0).0 r.1, r.2)) p.1,
)

-- ---- the limit is passed, or not

pub passes_first : (most : ℕ) (Fs : Families) (frames : Frames) (s : BasePair) (xs : List Spatial)
    → HasMore most (λ d. d ≡ s) → PassesFrom most Fs frames (s ∷ []) xs
passes_first most Fs frames s xs h =
    (0, more_imply most (λ d. d ≡ s) (IsReached Fs frames (s ∷ []) (take 0 xs)) (λ d f. by xs d f) h)
  where
    by : (xs : List Spatial) (d : BasePair) → d ≡ s → IsReached Fs frames (s ∷ []) (take 0 xs) d
    by [] d f = (s, inl refl, ((λ k. no_pair), tt, f))
    by (x ∷ xs) d f = (s, inl refl, ((λ k. no_pair), tt, f))

pub passes_none : (most : ℕ) (Fs : Families) (frames : Frames) (states : List BasePair) → sizes states ≤ most
    → ¬ PassesFrom most Fs frames states []
passes_none most Fs frames states few p = not_more most (IsReached Fs frames states (take p.0 [])) states (by p.0)
    few p.1
  where
    by : (n : ℕ) (d : BasePair) → IsReached Fs frames states (take n []) d → IsMember d states
    by zero d r = none_reached Fs frames states d r
    by (suc n) d r = none_reached Fs frames states d r

module _ (most : ℕ) (Fs : Families) (frames : Frames) (states : List BasePair) (x : Spatial) (xs : List Spatial) where
  -- over the next atom
  pub passes_here : HasMore most (λ d. OneOf (Leads (Fs 0) (frames 0) (frames 1) x d) states)
      → PassesFrom most Fs frames states (x ∷ xs)
  passes_here h = (
    1,
    more_imply most (From Fs frames states x) (IsReached Fs frames states (take 1 (x ∷ xs)))
        (λ d o. by xs d (one_reached Fs frames states x d o)) h,
  )
    where
      by : (ys : List Spatial) (d : BasePair) → IsReached Fs frames states (x ∷ []) d
          → IsReached Fs frames states (take 1 (x ∷ ys)) d
      by [] d r = r
      by (y ∷ ys) d r = r

  module _ (after : List BasePair) (leads : (d : BasePair) → IsMember d after
      ↔ OneOf (Leads (Fs 0) (frames 0) (frames 1) x d) states) where
    -- over a later one
    pub passes_later : PassesFrom most (next_families Fs) (next_frames frames) after xs
        → PassesFrom most Fs frames states (x ∷ xs)
    passes_later p = (
      suc p.0,
      more_imply most (IsReached (next_families Fs) (next_frames frames) after (take p.0 xs))
          (IsReached Fs frames states (x ∷ take p.0 xs)) (more_reached Fs frames states x after leads (take p.0 xs))
          p.1,
    )

    pub passes_nowhere : sizes states ≤ most → ¬ PassesFrom most (next_families Fs) (next_frames frames) after xs
        → ¬ PassesFrom most Fs frames states (x ∷ xs)
    passes_nowhere few none p = by p.0 p.1
      where
        by : (n : ℕ) → HasMore most (IsReached Fs frames states (take n (x ∷ xs))) → ⊥
        by zero h = not_more most (IsReached Fs frames states []) states (none_reached Fs frames states) few h
        by (suc n) h = none (
          n,
          more_imply most (IsReached Fs frames states (x ∷ take n xs))
              (IsReached (next_families Fs) (next_frames frames) after (take n xs))
              (less_reached Fs frames states x after leads (take n xs)) h,
        )
