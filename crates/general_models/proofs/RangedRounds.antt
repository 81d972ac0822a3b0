-- Rules for locals of a range derive all that the definitions mean.
use Rattle.std.proofs.Common.{Bool, ◌≡◌, ℕ, zero, suc, ◌+◌, ◌<◌, ◌≤◌, List, [], ◌∷◌, length, inl, inr, sym, subst}
use Rattle.std.proofs.Common.{arith}
use Rattle.std.specs.Prelude.{◌↔◌, slice_index, IsTrue}
use Rattle.heap_formula.specs.declared.terms.Term.{Term}
use Rattle.heap_formula.specs.declared.terms.Term.TheVariants.{Nil, Univ, Exist}
use Rattle.heap_formula.specs.declared.atoms.Spatial.{Spatial}
use Rattle.heap_formula.specs.declared.atoms.Spatial.TheVariants.{Cell, Pred}
use Rattle.heap_formula.specs.Symbolic.{SymbolicHeap}
use Rattle.heap_formula.specs.Definitions.{Definition}
use Rattle.heap_formula.specs.Fresh.{heap_bound, heap_exists}
use Rattle.heap_formula.specs.Words.{Each, OneOf}
use Rattle.heap_formula.specs.Values.{Stack, value, values}
use Rattle.heap_formula.specs.Cells.{Cells}
use Rattle.heap_formula.specs.Meaning.{Family, AtomHolds, SpatialHolds, Holds, CaseHolds, cases_of, at_stage, least}
use Rattle.heap_formula.specs.Meaning.{Satisfies}
use Rattle.heap_formula.proofs.StageLaws.{OneOf-map, spatial_within}
use Rattle.heap_formula.proofs.AllMembers.{each_both, each_imply}
use Rattle.cyc_basics.specs.Words.{IsMember, tabulated}
use Rattle.model_check.specs.declared.ground.GroundRule.{GroundRule}
use Rattle.model_check.specs.Questions.{Question}
use Rattle.model_check.specs.Constructive.{IsConstructive, AreConstructive, Fits, Inside}
use Rattle.model_check.specs.FirstPlaces.{IsFirstBad, IsFirstBadCase, IsPlace}
use Rattle.model_check.specs.declared.places.Place.{Place}
use Rattle.model_check.specs.declared.places.Place.TheVariants.{Case, Ask}
use Rattle.model_check.proofs.QuestionLists.{question_within}
use Rattle.model_check.specs.MaskParts.{mask_of}
use Rattle.model_check.specs.Ground.{Unions, Gives, round, derived, IsSolved}
use Rattle.model_check.specs.Tables.{Row, HasMask, HeadsFit}
use Rattle.model_check.specs.Grounding.{IsQuestion, PiecesFit, Extends, IsRule, IsCaseRule}
use Rattle.model_check.proofs.OnlyLocals.{inside_all, holds_fits, member_each}
use Rattle.model_check.proofs.Rounds.{each_one, some_of, spatial_unions, unions_satisfy, union_map, derived_in}
use Rattle.model_check.proofs.Asking.{pieces_kept}
use Rattle.general_models.specs.Ranges.{Leaves, IsWithin, Occur, IsRange, HasFewVariables, HaveFewVariables}
use Rattle.general_models.specs.RangedGrounding.{IsAnsweredOver, GroundsOver, GroundedOver, Suffices, SolvesOver}
use Rattle.general_models.proofs.Permuted.{IsKept, stage_moved}
use Rattle.general_models.proofs.Narrowing.{narrowed, each_within, length_tabulated, tabulated_member}

-- the cases of each predicate have few variables
few_cases : (most : ℕ) (ds : List Definition) (p : ℕ) → HaveFewVariables most ds
    → Each (HasFewVariables most) (cases_of ds p)
few_cases most [] p f = tt
few_cases most (d ∷ ds) zero f = f.0
few_cases most (d ∷ ds) (suc p) f = few_cases most ds p f.1

-- all values are in the range
abbrev pub AreIn : List ℕ → List ℕ → Type 0
AreIn range vs = Each (λ v. IsMember v range) vs

-- P of values of the range
abbrev InRange : List ℕ → Family → Family
InRange range P p vs g = AreIn range vs × P p vs g

module _ (range : List ℕ) (nil : IsMember 0 range) (s e : Stack) (ins : IsWithin range s) (ine : IsWithin range e) where
  value_in : (t : Term) → IsMember (value s e t) range
  value_in Nil = nil
  value_in (Univ n) = ins n
  value_in (Exist n) = ine n

  values_in : (ts : List Term) → AreIn range (values s e ts)
  values_in [] = tt
  values_in (t ∷ ts) = (value_in t, values_in ts)

  module _ (P : Family) where
    atom_in : (x : Spatial) (g : Cells) → AtomHolds P s e x g → AtomHolds (InRange range P) s e x g
    atom_in (Cell t ts) g a = a
    atom_in (Pred p ts) g a = (values_in ts, a)

    spatial_in : (xs : List Spatial) (g : Cells) → SpatialHolds (λ _. P) s e xs g
        → SpatialHolds (λ _. InRange range P) s e xs g
    spatial_in [] g a = a
    spatial_in (x ∷ xs) g a =
        record {
          part = a.part;
          rest = a.rest;
          union = a.union;
          first = atom_in x a.part a.first;
          others = spatial_in xs a.rest a.others;
        }

module _ (ds : List Definition) (h : Cells) (ns : List ℕ) (qs : List Question) (rules : List GroundRule)
    (range numbers : List ℕ) (base fresh : ℕ) (o : Occur h numbers) (r : IsRange range numbers base fresh)
    (few : HaveFewVariables fresh ds) (g : GroundsOver range ds h ns qs rules) where
  nil_in : IsMember 0 range
  nil_in = r.kept 0 o.nil

  -- what a case makes of stage n is what some rule gives from round n
  case_round : (n : ℕ) → ((q p : ℕ) (vs : List ℕ) (part : Cells) → IsQuestion qs q p vs → Inside part h → AreIn range vs
      → at_stage ds n p vs part → round rules n q (mask_of ns part)) → (q : ℕ) (vs : List ℕ) (part : Cells)
      → Inside part h → IsWithin range vs → (b : SymbolicHeap) → HasFewVariables fresh b
      → IsAnsweredOver range h ns qs rules q vs b → (e : Stack) → Holds (λ _. at_stage ds n) vs e b part
      → OneOf (Gives (round rules n) q (mask_of ns part)) rules
  case_round n down q vs part w within b f answered e holds =
      let l : length (tabulated (slice_index vs) (heap_bound b))
      ≡ heap_bound b = length_tabulated (slice_index vs) (heap_bound b) in
      let few : heap_bound b + heap_exists b ≤ fresh = f in
      let m = narrowed h range numbers base fresh o r (at_stage ds n)
      (λ move twice leaves. stage_moved move twice h leaves ds n) vs b part w
      (tabulated (slice_index vs) (heap_bound b)) (λ j lt.
      (within j, inr (tabulated_member (slice_index vs) (heap_bound b) j lt))) (omega arith) e holds in
      let fit : Fits h vs m.0 b = holds_fits (λ _. at_stage ds n) vs m.0 b part h w m.2 in
      OneOf-map (λ x. (x.head ≡ q) × PiecesFit ns qs vs m.0 b.spatial x.pieces)
      (Gives (round rules n) q (mask_of ns part)) (λ x z. (
        z.0,
        spatial_unions h ns qs g.covers g.heap vs m.0 (round rules n) (InRange range (at_stage ds n))
            (λ j u us c y t k. down j u us c y t k.0 k.1) b.spatial x.pieces part w fit.cells z.1
            (spatial_in range nil_in vs m.0 within m.1 (at_stage ds n) b.spatial part m.2.1),
      )) rules (answered m.0 m.1 fit)

  -- what holds at stage n of a part and of values of the range is derived in n rounds
  pub stage_round_over : (n q p : ℕ) (vs : List ℕ) (part : Cells) → IsQuestion qs q p vs → Inside part h
      → AreIn range vs → at_stage ds n p vs part → round rules n q (mask_of ns part)
  stage_round_over zero q p vs part i w a d = absurd d
  stage_round_over (suc n) q p vs part i w a d =
      let both = each_both (HasFewVariables fresh) (IsAnsweredOver range h ns qs rules q vs) (cases_of ds p)
      (few_cases fresh ds p few) (g.complete q p vs i) in
      let one = some_of (λ b. (HasFewVariables fresh b × IsAnsweredOver range h ns qs rules q vs b)
      × CaseHolds (at_stage ds n) vs part b) (cases_of ds p)
      (each_one (λ b. HasFewVariables fresh b × IsAnsweredOver range h ns qs rules q vs b)
      (CaseHolds (at_stage ds n) vs part) (cases_of ds p) both d) in
      case_round n (stage_round_over n) q vs part w (each_within range vs nil_in a)
      one.0 one.1.0.0 one.1.0.1 one.1.1.0 one.1.1.1

least_kept : (move : ℕ → ℕ) (twice : (x : ℕ) → move (move x) ≡ x) (h : Cells) (leaves : Leaves move h)
    (ds : List Definition) → IsKept move twice h leaves (least ds)
least_kept move twice h leaves ds p vs g w d = (d.0, stage_moved move twice h leaves ds d.0 p vs g w d.1)

-- ---- the question that is asked

module _ (ds : List Definition) (h : Cells) (ns : List ℕ) (q0 q1 q2 : List Question) (rules asked : List GroundRule)
    (range : List ℕ) (s : Stack) (a : SymbolicHeap) (suffices : Suffices range ds s h a)
    (was : GroundedOver range h ns q0 q1 [] asked 0 s (a ∷ [])) (x : Extends q1 q2)
    (g : GroundsOver range ds h ns q2 rules) where
  abbrev GivesWhole : GroundRule → Type 0
  GivesWhole t = Unions (derived rules) t.pieces (mask_of ns h)

  sound_of : (t : GroundRule) → OneOf (λ b. (e : Stack) × Fits h s e b × PiecesFit ns q1 s e b.spatial t.pieces)
      (a ∷ []) → GivesWhole t → Satisfies ds s h a
  sound_of t (inl k) u =
      unions_satisfy ds h ns q2 rules g.covers g.heap g.sound s k.0 a t.pieces k.1
      (pieces_kept ns q1 q2 x s k.0 a.spatial t.pieces k.2) u
  sound_of t (inr k) u = absurd k

  some_satisfies : OneOf GivesWhole asked → Satisfies ds s h a
  some_satisfies u =
      let are = subst (Each (IsCaseRule h ns q1 0 s (a ∷ []))) (sym was.more) was.are in
      let t = some_of (λ t. IsCaseRule h ns q1 0 s (a ∷ []) t × GivesWhole t) asked
      (each_one (IsCaseRule h ns q1 0 s (a ∷ [])) GivesWhole asked are u) in
      sound_of t.0 t.1.0.1 t.1.1

  satisfied_some : Satisfies ds s h a → OneOf GivesWhole asked
  satisfied_some y =
      let f = suffices.is_range in
      let w = spatial_within (λ k. at_stage ds (y.0 k)) (λ _. least ds) (λ k p vs c d. (y.0 k, d))
      s y.1.0 a.spatial h y.1.1.1 in
      let few = suffices.formula in
      let m = narrowed h range f.numbers f.base suffices.fresh f.occur f.is_range (least ds)
      (λ move twice leaves. least_kept move twice h leaves ds) s a h (inside_all h) []
      (λ j lt. (within j, inl (below j))) (omega arith) y.1.0 (y.1.1.0, w) in
      let fit : Fits h s m.0 a = holds_fits (λ _. least ds) s m.0 a h h (inside_all h) m.2 in
      OneOf-map (λ t. (t.head ≡ 0) × PiecesFit ns q1 s m.0 a.spatial t.pieces) GivesWhole
      (λ t z. spatial_unions h ns q2 g.covers g.heap s m.0 (derived rules) (InRange range (least ds))
      (λ j p us c i k d. (
        d.1.0,
        stage_round_over ds h ns q2 rules range f.numbers f.base suffices.fresh f.occur f.is_range
            suffices.cases g d.1.0 j p us c i k d.0 d.1.1,
      )) a.spatial t.pieces h (inside_all h) fit.cells
      (pieces_kept ns q1 q2 x s m.0 a.spatial t.pieces z.1)
      (spatial_in range (f.is_range.kept 0 f.occur.nil) s m.0 within m.1 (least ds) a.spatial h m.2.1)) asked
      (was.has.0 m.0 m.1 fit)
    where
      in_range : (vs : List ℕ) → Each (λ v. IsMember v suffices.is_range.numbers) vs → AreIn range vs
      in_range [] e = tt
      in_range (v ∷ vs) e = (suffices.is_range.is_range.kept v e.0, in_range vs e.1)

      within : IsWithin range s
      within = each_within range s (suffices.is_range.is_range.kept 0 suffices.is_range.occur.nil)
          (in_range s suffices.is_range.stack)

      within_numbers : IsWithin suffices.is_range.numbers s
      within_numbers = each_within suffices.is_range.numbers s suffices.is_range.occur.nil suffices.is_range.stack

      below : (j : ℕ) → slice_index s j < suffices.is_range.base
      below j = member_each (λ v. v < suffices.is_range.base) (slice_index s j) suffices.is_range.numbers
          (within_numbers j) suffices.is_range.is_range.below

  -- one of the rules of the formula gives the whole heap exactly where the formula is satisfied
  pub asked_exact : (table : List Row) → IsSolved rules (HasMask table)
      → OneOf (λ t. Unions (HasMask table) t.pieces (mask_of ns h)) asked ↔ Satisfies ds s h a
  asked_exact table solved = (
    λ u. some_satisfies (OneOf-map (λ t. Unions (HasMask table) t.pieces (mask_of ns h)) GivesWhole
        (λ t. union_map (HasMask table) (derived rules) solved.sound t.pieces (mask_of ns h)) asked u),
    λ y. OneOf-map GivesWhole (λ t. Unions (HasMask table) t.pieces (mask_of ns h))
        (λ t. union_map (derived rules) (HasMask table) (derived_in rules (HasMask table) solved) t.pieces
        (mask_of ns h)) asked (satisfied_some y),
  )

pub answer_over : (ds : List Definition) (h : Cells) (ns : List ℕ) (q0 q1 q2 : List Question)
    (r0 asked av : List GroundRule) (range : List ℕ) (s : Stack) (a : SymbolicHeap) (table tv : List Row) (m : ℕ)
    (b : Bool) → r0 ≡ [] → av ≡ asked → tv ≡ table → m ≡ mask_of ns h → Suffices range ds s h a
    → GroundedOver range h ns q0 q1 r0 asked 0 s (a ∷ []) → SolvesOver range ds h ns q1 q2 table → IsTrue b
    ↔ OneOf (λ t. Unions (HasMask tv) t.pieces m) av → IsTrue b ↔ Satisfies ds s h a
answer_over ds h ns q0 q1 q2 r0 asked av range s a table tv m b re ae te me suffices was solved i =
    let w = subst (λ rs. GroundedOver range h ns q0 q1 rs asked 0 s (a ∷ [])) re was in
    let x = asked_exact ds h ns q0 q1 q2 solved.rules asked range s a suffices w solved.extends solved.grounds table
    solved.solved in
    let j0 = subst (λ rs. IsTrue b ↔ OneOf (λ t. Unions (HasMask tv) t.pieces m) rs) ae i in
    let j1 = subst (λ t'. IsTrue b ↔ OneOf (λ t. Unions (HasMask t') t.pieces m) asked) te j0 in
    let j : IsTrue b ↔ OneOf (λ t. Unions (HasMask table) t.pieces (mask_of ns h)) asked = subst
    (λ n. IsTrue b ↔ OneOf (λ t. Unions (HasMask table) t.pieces n) asked) me j1 in
    (λ y. x.0 (j.0 y), λ y. j.1 (x.1 y))

-- the questions that rules answer are there
pub heads_within : (range : List ℕ) (ds : List Definition) (h : Cells) (ns : List ℕ) (qs : List Question)
    (rules rs : List GroundRule) (n : ℕ) → length qs ≡ n → rs ≡ rules → GroundsOver range ds h ns qs rules
    → HeadsFit n rs
heads_within range ds h ns qs rules rs n e w g =
    subst (HeadsFit n) (sym w) (subst (λ m. HeadsFit m rules) e
    (each_imply (IsRule ds h ns qs) (λ r. r.head < length qs)
    (λ r k. question_within qs r.head k.predicate k.values k.question) rules g.sound))

-- a first place that is not constructive
pub some_place : (ds : List Definition) (a : SymbolicHeap) (p : Place) → IsPlace ds (a ∷ []) p → AreConstructive ds
    → IsConstructive a → ⊥
some_place ds a (Case p c) k all here = bad_case ds p c k all
  where
    bad : (bs : List SymbolicHeap) (i : ℕ) → IsFirstBad bs i → Each IsConstructive bs → ⊥
    bad [] i f e = f
    bad (b ∷ bs) zero f e = f e.0
    bad (b ∷ bs) (suc i) f e = bad bs i f.1 e.1

    bad_case : (ds : List Definition) (p c : ℕ) → IsFirstBadCase ds p c → AreConstructive ds → ⊥
    bad_case [] p c f e = f
    bad_case (d ∷ ds) zero c f e = bad d.cases c f e.0
    bad_case (d ∷ ds) (suc p) c f e = bad_case ds p c f.1 e.1
some_place ds a (Ask zero) k all here = k.1 here
some_place ds a (Ask (suc i)) k all here = k.1.1
