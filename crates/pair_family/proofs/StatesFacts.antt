-- The states at the end are what a case gives.
use Rattle.std.proofs.Common.{◌≡◌, ◌↔◌, inl, inr, ℕ, List, [], ◌∷◌, sym, refl, subst}
use Rattle.heap_formula.specs.declared.atoms.Spatial.{Spatial}
use Rattle.heap_formula.specs.Symbolic.{SymbolicHeap}
use Rattle.heap_formula.specs.Words.{OneOf}
use Rattle.pair_family.specs.BasePairs.{BasePair, no_pair}
use Rattle.pair_family.specs.Combination.{next, AreConsistent, pure_facts}
use Rattle.pair_family.specs.Folding.{Frames, next_frames, last_frame, AreFrames, said_in, with_atom, FoldsTo}
use Rattle.cyc_basics.specs.Words.{IsMember}
use Rattle.pair_family.specs.States.{Families, next_families, GivesBy, IsReached, Leads, AreStates}
use Rattle.pair_family.proofs.ByAtom.{IsOfParameters, fold_case, case_fold}
use Rattle.pair_family.proofs.Complete.{cons_choice}

pub one_out : {X : Type 0} (P : X → Type 0) (xs : List X) → OneOf P xs → (x : X) × IsMember x xs × P x
one_out P [] o = absurd o
one_out P (x ∷ xs) (inl p) = (x, inl refl, p)
one_out P (x ∷ xs) (inr o) = let r = one_out P xs o in (r.0, inr r.1, r.2)

pub one_in : {X : Type 0} (P : X → Type 0) (xs : List X) (x : X) → IsMember x xs → P x → OneOf P xs
one_in P [] x m p = absurd m
one_in P (y ∷ xs) x (inl s) p = inl (subst P (sym s) p)
one_in P (y ∷ xs) x (inr m) p = inr (one_in P xs x m p)

pub states_folded : (Fs : Families) (frames : Frames) (states : List BasePair) (xs : List Spatial) (out : List BasePair)
    → AreStates Fs frames states xs out → (d : BasePair) → IsMember d out → IsReached Fs frames states xs d
states_folded Fs frames states [] out are d m = (d, (are d).0 m, ((λ k. no_pair), tt, refl))
states_folded Fs frames states (x ∷ xs) out are d m =
    let r = states_folded (next_families Fs) (next_frames frames) are.0 xs out are.2 d m in
    let o = one_out (Leads (Fs 0) (frames 0) (frames 1) x r.0) states ((are.1 r.0).0 r.1) in
    let c = o.2.0 in (
      o.0,
      o.1,
      (
        cons_choice c r.2.0,
        (o.2.1, r.2.1),
        (
          o.2.2,
          subst (λ b. FoldsTo (next_frames frames) b r.2.0 xs d) o.2.3 r.2.2,
        ),
      ),
    )

pub folded_states : (Fs : Families) (frames : Frames) (states : List BasePair) (xs : List Spatial) (out : List BasePair)
    → AreStates Fs frames states xs out → (d : BasePair) → IsReached Fs frames states xs d → IsMember d out
folded_states Fs frames states [] out are d g = (are d).1 (subst (λ z. IsMember z states) (sym g.2.2) g.1)
folded_states Fs frames states (x ∷ xs) out are d g =
    let bs = g.2.0 in
    let after = said_in (frames 1) (with_atom (frames 0) g.0 (bs 0) x) in
    let here = (are.1 after).1 (one_in (Leads (Fs 0) (frames 0) (frames 1) x after) states g.0 g.1
    (bs 0, g.2.1.0, g.2.2.0, refl)) in
    folded_states (next_families Fs) (next_frames frames) are.0 xs out are.2 d
    (after, here, (next bs, g.2.1.1, g.2.2.1))

-- of a case whose pure atoms are consistent, from what these say
pub states_give : (Fs : Families) (k : ℕ) (frames : Frames) (a : SymbolicHeap) (out : List BasePair)
    → AreFrames frames a.spatial → IsOfParameters k (last_frame frames a.spatial) → AreConsistent (pure_facts a.pure)
    → AreStates Fs frames (said_in (frames 0) (pure_facts a.pure) ∷ []) a.spatial out → (d : BasePair) → IsMember d out
    ↔ GivesBy Fs k d a
states_give Fs k frames a out fr last first are d = (
  λ m.
      let g = states_folded Fs frames (said_in (frames 0) (pure_facts a.pure) ∷ []) a.spatial out are d m in
      let b : said_in (frames 0) (pure_facts a.pure) ≡ g.0 = elim g.1 [ inl s ↦ s | inr no' ↦ absurd no' ] in
      fold_case Fs k frames d a fr last (record {
        chosen = g.2.0;
        from_families = g.2.1;
        first = first;
        folds = subst (λ z. FoldsTo frames z g.2.0 a.spatial d) (sym b) g.2.2;
      }),
  λ c.
      let g = case_fold Fs k frames d a fr last c in
      folded_states Fs frames (said_in (frames 0) (pure_facts a.pure) ∷ []) a.spatial out are d
      (said_in (frames 0) (pure_facts a.pure), inl refl, (g.chosen, g.from_families, g.folds)),
)
