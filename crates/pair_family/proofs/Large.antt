-- Large cases: over a greater family, and atom by atom.
use Rattle.std.proofs.Common.{◌≡◌, ℕ, zero, suc, ◌≤◌, List, [], ◌∷◌, take, drop, arith, sym, refl, ap, ◌∙◌}
use Rattle.heap_formula.specs.declared.atoms.Pure.{Pure}
use Rattle.heap_formula.specs.declared.atoms.Spatial.{Spatial}
use Rattle.heap_formula.specs.Definitions.{Definition}
use Rattle.heap_formula.specs.Symbolic.{SymbolicHeap}
use Rattle.heap_formula.specs.Meaning.{cases_of}
use Rattle.pair_family.specs.BasePairs.{BasePair}
use Rattle.pair_family.specs.Combination.{Choice, AreConsistent, pure_facts, list_facts, combination}
use Rattle.pair_family.specs.Family.{PairFamily, arity_of}
use Rattle.pair_family.specs.Folding.{Frames, next_frames, last_frame, AreFrames, said_in, FoldsTo}
use Rattle.pair_family.specs.Frames.{frame_of, kept_terms, frames_of}
use Rattle.pair_family.specs.LargeCases.{size_of, sizes, HasMore, IsStateAfter, IsLarge, HasLargeCase, first_atoms}
use Rattle.pair_family.specs.JoinOrder.{join_order}
use Rattle.cyc_basics.specs.Words.{IsMember}
use Rattle.pair_family.proofs.ByAtom.{folds_says, says_folds, first_consistent}
use Rattle.pair_family.proofs.ListFrames.{are_frames}
use Rattle.pair_family.proofs.Rounds.{WithinPairs, chosen_within, distinct_sum}
use Rattle.heap_formula.proofs.AllMembers.{each_imply}
use Rattle.heap_formula.proofs.StageLaws.{OneOf-map}

-- ---- sizes

pub more_imply : (most : ℕ) (P Q : BasePair → Type 0) → ((d : BasePair) → P d → Q d) → HasMore most P → HasMore most Q
more_imply most P Q f h = record {
  list = h.list;
  distinct = h.distinct;
  are = each_imply P Q f h.list h.are;
  more = h.more;
}

-- members of a list of few facts are not more
pub not_more : (most : ℕ) (P : BasePair → Type 0) (all : List BasePair) → ((d : BasePair) → P d → IsMember d all)
    → sizes all ≤ most → ¬ HasMore most P
not_more most P all every few h =
    let r = distinct_sum size_of h.list all h.distinct (each_imply P (λ z. IsMember z all) every h.list h.are) in
    let m = h.more in omega arith

-- ---- over a greater family

module _ (F G : PairFamily) (within : WithinPairs F G) where
  state_within : (k : ℕ) (ps : List Pure) (xs : List Spatial) (n : ℕ) (d : BasePair) → IsStateAfter F k ps xs n d
      → IsStateAfter G k ps xs n d
  state_within k ps xs n d s = record {
    chosen = s.chosen;
    from_family = chosen_within F G within s.chosen (take n xs) s.from_family;
    consistent = s.consistent;
    said = s.said;
  }

  pub large_within : (most k : ℕ) (a : SymbolicHeap) → IsLarge most F k a → IsLarge most G k a
  large_within most k a l = record {
    chosen = l.chosen;
    from_family = chosen_within F G within l.chosen a.spatial l.from_family;
    taken = l.taken;
    more = more_imply most (IsStateAfter F k a.pure (join_order k a.spatial) l.taken)
        (IsStateAfter G k a.pure (join_order k a.spatial) l.taken)
        (state_within k a.pure (join_order k a.spatial) l.taken) l.more;
  }

  pub cases_within : (ds : List Definition) (most : ℕ) → HasLargeCase ds most F → HasLargeCase ds most G
  cases_within ds most h = (
    h.0,
    OneOf-map (IsLarge most F (arity_of ds h.0)) (IsLarge most G (arity_of ds h.0))
        (large_within most (arity_of ds h.0)) (cases_of ds h.0) h.1,
  )

-- ---- the first atoms

frames_first : (n : ℕ) (frames : Frames) (xs : List Spatial) → AreFrames frames xs → AreFrames frames (take n xs)
frames_first n frames [] a = elim n as (λ n. AreFrames frames (take n [])) [ zero ↦ tt | suc n ↦ tt ]
frames_first zero frames (x ∷ xs) a = tt
frames_first (suc n) frames (x ∷ xs) a = (a.0, a.1, a.2, frames_first n (next_frames frames) xs a.3)

last_first : (k n : ℕ) (xs : List Spatial) → last_frame (frames_of k xs) (take n xs)
    ≡ frame_of (kept_terms k (drop n xs))
last_first k n [] = elim n as (λ n. last_frame (frames_of k []) (take n []) ≡ frame_of (kept_terms k (drop n [])))
    [ zero ↦ refl | suc n ↦ refl ]
last_first k zero (x ∷ xs) = refl
last_first k (suc n) (x ∷ xs) = last_first k n xs

abbrev pub start_of : ℕ → List Pure → List Spatial → BasePair
start_of k ps xs = said_in (frames_of k xs 0) (pure_facts ps)

module _ (k : ℕ) (ps : List Pure) (xs : List Spatial) (n : ℕ) (bs : Choice) (d : BasePair) where
  abbrev whole : SymbolicHeap
  whole = first_atoms n ps xs

  -- a fold over the first atoms says what they say together
  pub first_says : AreConsistent (pure_facts ps) → FoldsTo (frames_of k xs) (start_of k ps xs) bs (take n xs) d
      → AreConsistent (combination bs whole) × (d ≡ said_in (frame_of (kept_terms k (drop n xs)))
      (combination bs whole))
  first_says c f =
      let s = folds_says (take n xs) (frames_of k xs) bs (pure_facts ps) d
      (frames_first n (frames_of k xs) xs (are_frames k xs)) c f in
      (s.0, s.1 ∙ ap (λ z. said_in z (combination bs whole)) (last_first k n xs))

  pub says_first : AreConsistent (combination bs whole)
      → d ≡ said_in (frame_of (kept_terms k (drop n xs))) (combination bs whole)
      → AreConsistent (pure_facts ps) × FoldsTo (frames_of k xs) (start_of k ps xs) bs (take n xs) d
  says_first c e =
      let first = first_consistent (pure_facts ps) (list_facts bs (take n xs)) c in (
        first,
        says_folds (take n xs) (frames_of k xs) bs (pure_facts ps) d
            (frames_first n (frames_of k xs) xs (are_frames k xs)) first
            (c, e ∙ ap (λ z. said_in z (combination bs whole)) (sym (last_first k n xs))),
      )
