-- One more atom, and all atoms: the code's states are those of the definition.
use Rattle.std.proofs.Common.{◌≡◌, ◌↔◌, inl, inr, ℕ, suc, ◌<◌, List, [], ◌∷◌, ◌++◌, map, length, Bool, true, false}
use Rattle.std.proofs.Common.{arith, sym, ap, ◌∙◌, subst}
use Rattle.std.proofs.lemmas.List.{length-map}
use Rattle.heap_formula.specs.declared.terms.Term.{Term}
use Rattle.heap_formula.specs.declared.terms.Term.TheVariants.{Nil}
use Rattle.heap_formula.specs.declared.atoms.Spatial.{Spatial}
use Rattle.heap_formula.specs.declared.atoms.Spatial.TheVariants.{Cell, Pred}
use Rattle.heap_formula.specs.Symbolic.{SymbolicHeap}
use Rattle.heap_formula.specs.Words.{Each, OneOf}
use Rattle.pair_family.specs.BasePairs.{BasePair, no_pair}
use Rattle.pair_family.specs.Within.{IsWithin}
use Rattle.pair_family.specs.Classes.{term_number, class_of}
use Rattle.pair_family.specs.Combination.{Facts, pure_facts, list_facts, AreConsistent, all_differ, said}
use Rattle.pair_family.specs.Family.{PairFamily}
use Rattle.pair_family.specs.Folding.{said_in, with_atom, spoken}
use Rattle.pair_family.specs.Frames.{term_at, frame_of, with_terms, kept_terms, frames_of}
use Rattle.pair_family.specs.LargeCases.{HasMore}
use Rattle.pair_family.specs.Reordering.{families_of}
use Rattle.pair_family.specs.States.{Leads, AreStates}
use Rattle.pair_family.specs.States as states
use Rattle.pair_family.proofs.Large.{more_imply}
use Rattle.pair_family.proofs.Lists.{at_each, each_at}
use Rattle.cyc_basics.specs.Words.{IsMember}
use Rattle.pair_family.proofs.Kernel.{kept_within}
use Rattle.pair_family.proofs.ListFrames.{terms_there, terms_after, are_frames, parameters_frame}
use Rattle.pair_family.proofs.StatesFacts.{states_give, one_out, one_in}
use Rattle.pair_family.proofs.ByAtom.{first_consistent}
use Rattle.pair_family.specs.Labels.{IsAdded, combined, Gives, Grows}
use Rattle.pair_family.proofs.Combined.{ArePlaces, apart_consistent, combined_is}
use Rattle.sat_pairs.specs.CaseStates.{GivesBy, GivesTo}
use Rattle.sat_pairs.specs.Numbers.{kept_numbers, places_in, count_from, cell_pair_alone}
use Rattle.sat_pairs.proofs.Placed.{kept_are, are_places, below_each}
use Rattle.sat_pairs.proofs.Starts.{first_terms, longer, IsStart}
use Rattle.pair_family.proofs.Classes.{same_number}

module _ (k : ℕ) (x : Spatial) (xs : List Spatial) where
  abbrev kept : List Term
  kept = kept_terms k xs

  abbrev all : List Term
  all = with_terms kept (spoken x)

  abbrev numbers : List ℕ
  numbers = map term_number (Nil ∷ all)

  abbrev facts : BasePair → BasePair → Facts
  facts b c = with_atom (frame_of all) b c (Pred 0 (spoken x))

  places : ArePlaces (Nil ∷ all) (spoken x) (places_in numbers (spoken x))
  places = are_places same_number all (spoken x) (at_each (λ t. IsMember t (Nil ∷ all)) (spoken x)
      (λ t m. terms_there kept (spoken x) t m))

  said_is : (b c : BasePair) → IsWithin (suc (length all)) b
      → combined numbers b (places_in numbers (spoken x)) c (count_from 0 (length (Nil ∷ kept)))
      ≡ said_in (frame_of kept) (facts b c)
  said_is b c w =
      let after = terms_after kept (spoken x) in
      let terms : map (term_at (Nil ∷ all)) (count_from 0 (length (Nil ∷ kept))) ≡ Nil
      ∷ kept = ap (λ z. map (term_at (Nil ∷ z)) (count_from 0 (length (Nil ∷ kept)))) after.1
      ∙ first_terms kept after.0 in
      let long : length (Nil ∷ kept) < suc (length (Nil ∷ all)) = subst
      (λ z. length (Nil ∷ kept) < suc (length (Nil ∷ z))) (sym after.1) (longer (Nil ∷ kept) after.0) in
      combined_is all 0 (spoken x) (places_in numbers (spoken x)) b c places w (length kept)
      (count_from 0 (length (Nil ∷ kept))) (below_each 0 (length (Nil ∷ kept)) (length (Nil ∷ all)) (omega arith))
      (ap length terms) ∙ ap (λ z. said (length kept) (term_at z) (facts b c)) terms

  abbrev Gives' : BasePair → BasePair → BasePair → Type 0
  Gives' d b c = Gives numbers b (places_in numbers (spoken x)) (count_from 0 (length (Nil ∷ kept))) d c

  abbrev Says' : BasePair → BasePair → BasePair → Type 0
  Says' d b c = AreConsistent (facts b c) × (d ≡ said_in (frame_of kept) (facts b c))

  gives_says : (b c d : BasePair) → IsWithin (suc (length all)) b → Gives' d b c → Says' d b c
  gives_says b c d w g = (
    (apart_consistent all 0 (spoken x) (places_in numbers (spoken x)) b c places w).0 g.0,
    g.1
        ∙ said_is b c w,
  )

  says_gives : (b c d : BasePair) → IsWithin (suc (length all)) b → Says' d b c → Gives' d b c
  says_gives b c d w s = (
    (apart_consistent all 0 (spoken x) (places_in numbers (spoken x)) b c places w).1 s.0,
    s.1
        ∙ sym (said_is b c w),
  )

-- a cell has its one base pair
abbrev pub HasCellPair : Spatial → List BasePair → Type 0
HasCellPair (Cell t ts) bs = bs ≡ cell_pair_alone
HasCellPair (Pred p ts) bs = Unit {0}

-- the members of a list, whatever the predicate
abbrev pub of_list : List BasePair → PairFamily
of_list bs p b = IsMember b bs

-- a cell is as a predicate of its address
leads_out : (k : ℕ) (x : Spatial) (xs : List Spatial) (bs : List BasePair) (b d : BasePair) → HasCellPair x bs
    → OneOf (Says' k x xs d b) bs → Leads (of_list bs) (frames_of k (x ∷ xs) 0) (frames_of k (x ∷ xs) 1) x d b
leads_out k (Cell t ts) xs bs b d e o =
    elim (subst (OneOf (Says' k (Cell t ts) xs d b)) e o) [ inl s ↦ (no_pair, tt, s.0, s.1) | inr no' ↦ absurd no' ]
leads_out k (Pred p ts) xs bs b d e o = let r = one_out (Says' k (Pred p ts) xs d b) bs o in (r.0, r.1, r.2.0, r.2.1)

leads_in : (k : ℕ) (x : Spatial) (xs : List Spatial) (bs : List BasePair) (b d : BasePair) → HasCellPair x bs
    → Leads (of_list bs) (frames_of k (x ∷ xs) 0) (frames_of k (x ∷ xs) 1) x d b → OneOf (Says' k x xs d b) bs
leads_in k (Cell t ts) xs bs b d e l = subst (OneOf (Says' k (Cell t ts) xs d b)) (sym e) (inl (l.2, l.3))
leads_in k (Pred p ts) xs bs b d e l = one_in (Says' k (Pred p ts) xs d b) bs l.0 l.1 (l.2, l.3)

one_change : {X : Type 0} (P Q : X → Type 0) (xs : List X) → ((x : X) → IsMember x xs → P x → Q x) → OneOf P xs
    → OneOf Q xs
one_change P Q xs f o = let r = one_out P xs o in one_in Q xs r.0 r.1 (f r.0 r.1 r.2)

module _ (k : ℕ) (x : Spatial) (xs : List Spatial) (bs states : List BasePair) (cell : HasCellPair x bs)
    (within : Each (IsWithin (suc (length (kept_terms k (x ∷ xs))))) states) where
  abbrev State : BasePair → Type 0
  State d = OneOf (λ b. OneOf (Gives' k x xs d b) bs) states

  abbrev Led : BasePair → Type 0
  Led d = OneOf (Leads (of_list bs) (frames_of k (x ∷ xs) 0) (frames_of k (x ∷ xs) 1) x d) states

  member_within : (b : BasePair) → IsMember b states → IsWithin (suc (length (kept_terms k (x ∷ xs)))) b
  member_within b m = each_at (IsWithin (suc (length (kept_terms k (x ∷ xs))))) states b within m

  state_led : (d : BasePair) → State d → Led d
  state_led d o =
      one_change (λ b. OneOf (Gives' k x xs d b) bs)
      (Leads (of_list bs) (frames_of k (x ∷ xs) 0) (frames_of k (x ∷ xs) 1) x d) states
      (λ b i o. leads_out k x xs bs b d cell (one_change (Gives' k x xs d b) (Says' k x xs d b) bs
      (λ c j h. gives_says k x xs b c d (member_within b i) h) o)) o

  led_state : (d : BasePair) → Led d → State d
  led_state d o =
      one_change (Leads (of_list bs) (frames_of k (x ∷ xs) 0) (frames_of k (x ∷ xs) 1) x d)
      (λ b. OneOf (Gives' k x xs d b) bs) states (λ b i l.
      one_change (Says' k x xs d b) (Gives' k x xs d b) bs (λ c j h. says_gives k x xs b c d (member_within b i) h)
      (leads_in k x xs bs b d cell l)) o

  step_leads : (next : List BasePair) → Grows [] next State → (d : BasePair) → IsMember d next ↔ Led d
  step_leads next g d = (
    λ m. elim ((g d).0 m) [ inl no' ↦ absurd no' | inr o ↦ state_led d o ],
    λ o. (g d).1 (inr (led_state d o)),
  )

-- what is said of kept terms speaks of their numbers
pub said_within : (terms : List Term) (f : Facts) (d : BasePair) → d ≡ said_in (frame_of terms) f
    → IsWithin (suc (length terms)) d
said_within terms f d e = subst (IsWithin (suc (length terms))) (sym e)
    (kept_within (length terms) (term_at (Nil ∷ terms)) (class_of f.equal) (all_differ f) f.cells)

next_within : (k : ℕ) (x : Spatial) (xs : List Spatial) (bs states next : List BasePair)
    → ((d : BasePair) → IsMember d next ↔ OneOf (Leads (of_list bs) (frames_of k (x ∷ xs) 0) (frames_of k (x ∷ xs) 1)
    x d) states) → Each (IsWithin (suc (length (kept_terms k xs)))) next
next_within k x xs bs states next g =
    at_each (IsWithin (suc (length (kept_terms k xs)))) next (λ d m.
    let r = one_out (Leads (of_list bs) (frames_of k (x ∷ xs) 0) (frames_of k (x ∷ xs) 1) x d) states ((g d).0 m) in
    said_within (kept_terms k xs) (with_atom (frames_of k (x ∷ xs) 0) r.0 r.2.0 x) d r.2.3)

-- ---- the fold over the atoms

abbrev pub Stepped : Spatial → List ℕ → ℕ → List BasePair → List BasePair → List BasePair → Type 0
Stepped x numbers' n bs states next = Grows [] next
    (λ d. OneOf (λ b. OneOf (Gives numbers' b (places_in numbers' (spoken x)) (count_from 0 n) d) bs) states)

-- the lists of numbers that the code has are those of the terms
mended : (P : List ℕ → ℕ → Type 0) (k : ℕ) (x : Spatial) (xs : List Spatial)
    → P (kept_numbers k (x ∷ xs)) (length (kept_numbers k xs)) → P (numbers k x xs) (length (Nil ∷ kept_terms k xs))
mended P k x xs g =
    let f = ap length (kept_are k xs) ∙ length-map (Nil ∷ kept_terms k xs) term_number in
    subst (λ z. P z (length (Nil ∷ kept_terms k xs))) (kept_are k (x ∷ xs)) (subst (P (kept_numbers k (x ∷ xs))) f g)

module _ (k : ℕ) (x : Spatial) (xs : List Spatial) (bs states next : List BasePair) (cell : HasCellPair x bs)
    (within : Each (IsWithin (suc (length (kept_terms k (x ∷ xs))))) states)
    (stepped : Stepped x (kept_numbers k (x ∷ xs)) (length (kept_numbers k xs)) bs states next) where
  pub leads : (d : BasePair) → IsMember d next ↔ OneOf (Leads (of_list bs) (frames_of k (x ∷ xs) 0)
      (frames_of k (x ∷ xs) 1) x d) states
  leads = step_leads k x xs bs states cell within next (mended (λ z n. Stepped x z n bs states next) k x xs stepped)

  -- the first atom's step keeps the bound for the rest
  pub fold_within : Each (IsWithin (suc (length (kept_terms k xs)))) next
  fold_within = next_within k x xs bs states next leads

  pub fold_more : (lists : List (List BasePair)) (out : List BasePair)
      → AreStates (families_of lists) (frames_of k xs) next xs out
      → AreStates (families_of (bs ∷ lists)) (frames_of k (x ∷ xs)) states (x ∷ xs) out
  fold_more lists out later = (next, leads, later)

-- states that the code's numbers give are led to
pub many_led : (most k : ℕ) (x : Spatial) (xs : List Spatial) (bs states : List BasePair) → HasCellPair x bs
    → Each (IsWithin (suc (length (kept_terms k (x ∷ xs))))) states → HasMore most (GivesTo k x xs bs states)
    → HasMore most (λ d. OneOf (Leads (of_list bs) (frames_of k (x ∷ xs) 0) (frames_of k (x ∷ xs) 1) x d) states)
many_led most k x xs bs states cell within h =
    more_imply most (State k x xs bs states cell within) (Led k x xs bs states cell within)
    (state_led k x xs bs states cell within) (mended (λ z n. HasMore most (GivesBy z n x bs states)) k x xs h)

-- ---- cases

pub case_none : (lists : List (List BasePair)) (k : ℕ) (a : SymbolicHeap) → (¬ AreConsistent (pure_facts a.pure))
    → (d : BasePair) → states.GivesBy (families_of lists) k d a → ⊥
case_none lists k a n d c = n (first_consistent (pure_facts a.pure) (list_facts c.chosen a.spatial) c.consistent)

pub case_states : (lists : List (List BasePair)) (k : ℕ) (a : SymbolicHeap) (s : BasePair) (out : List BasePair)
    → IsStart k a.spatial a.pure s → AreStates (families_of lists) (frames_of k a.spatial) (s ∷ []) a.spatial out
    → (d : BasePair) → IsMember d out ↔ states.GivesBy (families_of lists) k d a
case_states lists k a s out is are d =
    let are' = subst (λ z. AreStates (families_of lists) (frames_of k a.spatial) (z ∷ []) a.spatial out) is.1 are in
    states_give (families_of lists) k (frames_of k a.spatial) a out (are_frames k a.spatial)
    (parameters_frame k a.spatial) is.0 are' d

pub start_within : (k : ℕ) (a : SymbolicHeap) (s : BasePair) → IsStart k a.spatial a.pure s
    → Each (IsWithin (suc (length (kept_terms k a.spatial)))) (s ∷ [])
start_within k a s is = (said_within (kept_terms k a.spatial) (pure_facts a.pure) s is.1, tt)

pub added_alone : (old new : List BasePair) (k : BasePair) (b : Bool) → old ≡ [] → IsAdded old new k b → new ≡ k ∷ []
added_alone old new k true e a = a.1 ∙ ap (λ z. z ++ (k ∷ [])) e
added_alone old new k false e a = absurd (subst (IsMember k) e a.0)
