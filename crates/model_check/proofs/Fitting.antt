-- The values that are forced are the only ones that fit.
use Rattle.std.specs.Prelude.{◌↔◌, slice_get, slice_index, nat_eq, IsTrue}
use Rattle.std.proofs.lemmas.Bool.{cases_Bool, eqb-true, cases_lt}
use Rattle.std.proofs.Common.{◌≡◌, ℕ, zero, suc, ◌+◌, ◌<◌, ◌≤◌, map, List, [], ◌∷◌, ◌++◌, length, Bool, true, false}
use Rattle.std.proofs.Common.{Some, None, refl, sym, ap, ◌∙◌, subst, inl, inr, arith}
use Rattle.heap_formula.specs.declared.terms.Term.{Term}
use Rattle.heap_formula.specs.declared.terms.Term.TheVariants.{Nil, Univ, Exist}
use Rattle.heap_formula.specs.declared.atoms.Pure.{Pure}
use Rattle.heap_formula.specs.declared.atoms.Pure.TheVariants.{Eq, Neq}
use Rattle.heap_formula.specs.declared.atoms.Spatial.{Spatial}
use Rattle.heap_formula.specs.declared.atoms.Spatial.TheVariants.{Cell, Pred}
use Rattle.heap_formula.specs.Symbolic.{SymbolicHeap}
use Rattle.heap_formula.specs.Closedness.{InPure, InSpatial, InHeap, IsUniversal}
use Rattle.heap_formula.specs.Words.{Each, max_of}
use Rattle.heap_formula.specs.Values.{Stack, value, values}
use Rattle.heap_formula.specs.Cells.{Cells, cell_at}
use Rattle.heap_formula.specs.Meaning.{PureHolds}
use Rattle.model_check.specs.declared.locals.Local.{Local}
use Rattle.model_check.specs.Constructive.{Known, IsConstructive, CellFits, Fits, IsOnly}
use Rattle.model_check.specs.Steps.{pures_steps, field_steps, spatials_steps, steps_of}
use Rattle.model_check.specs.ForcedLocals.{local_value, term_value, or_zero, stack_of, field_of, StepHolds, StepsHold}
use Rattle.model_check.specs.ForcedLocals.{AreForced, IsValued, AllPassed, IsEvaluated}
use Rattle.cyc_basics.specs.Words.{tabulated}
use Rattle.model_check.proofs.KnownTerms.{known_in, in_heap_map}
use Rattle.model_check.proofs.OnlyLocals.{only_fit}
use Rattle.model_check.proofs.Forcing.{term_is}
use Rattle.heap_formula.proofs.AllMembers.{each_append}
use Rattle.cyc_basics.proofs.Places.{tabulated-at}

first_end : (f : ℕ → ℕ) (k n : ℕ) → k ≤ n → slice_index (tabulated f k) n ≡ 0
first_end f zero n l = refl
first_end f (suc k) zero l = absurd (omega arith)
first_end f (suc k) (suc n) l = first_end (λ i. f (suc i)) k n (omega arith)

no_local : (ls : List Local) (n : ℕ) → max_of (map (λ l. l.number) ls) < n → local_value ls n ≡ None
no_local [] n h = refl
no_local (x ∷ xs) n h = elim (cases_Bool (nat_eq n x.number)) [
  | inl yes' ↦ absurd (let e : n ≡ x.number = eqb-true n x.number yes' in omega arith)
  | inr no' ↦ rw no' (no_local xs n (omega arith))
]

stack_at : (ls : List Local) (n : ℕ) → slice_index (stack_of ls) n ≡ or_zero (local_value ls n)
stack_at ls n = elim (cases_lt n (max_of (map (λ l. l.number) ls) + 1)) [
  | inl l ↦ tabulated-at (λ i. or_zero (local_value ls i)) (max_of (map (λ l. l.number) ls) + 1) n l
  | inr h ↦ first_end (λ i. or_zero (local_value ls i)) (max_of (map (λ l. l.number) ls) + 1) n h
      ∙ ap or_zero (sym (no_local ls n (omega arith)))
]

pub now_is : (s : Stack) (ls : List Local) (t : Term) → or_zero (term_value s ls t) ≡ value s (stack_of ls) t
now_is s ls Nil = refl
now_is s ls (Univ n) = refl
now_is s ls (Exist n) = sym (stack_at ls n)

-- ---- what fits does the steps

field_holds : (h : Cells) (s e : Stack) (t : Term) (all ts done : List Term)
    → cell_at h (value s e t) ≡ Some (values s e all) → all ≡ done ++ ts → (k : ℕ) → k ≡ length done
    → Each (StepHolds h s e) (field_steps t k ts)
field_holds h s e t all [] done c w k l = tt
field_holds h s e t all (u ∷ us) done c w k l = (
  ap (λ o. field_of o k) c ∙ ap (λ xs. slice_get (values s e xs) k) w
      ∙ ap (λ j. slice_get (values s e (done ++ u ∷ us)) j) l ∙ seam done us,
  field_holds h s e t all us (done ++ u ∷ []) c (w ∙ sym (shift done us)) (suc k) (ap suc l ∙ sym (one_more done)),
)
  where
    seam : (xs ys : List Term) → slice_get (values s e (xs ++ u ∷ ys)) (length xs) ≡ Some (value s e u)
    seam [] ys = refl
    seam (x ∷ xs) ys = seam xs ys

    shift : (xs ys : List Term) → (xs ++ u ∷ []) ++ ys ≡ xs ++ u ∷ ys
    shift [] ys = refl
    shift (x ∷ xs) ys = ap (λ zs. x ∷ zs) (shift xs ys)

    one_more : (xs : List Term) → length (xs ++ u ∷ []) ≡ suc (length xs)
    one_more [] = refl
    one_more (x ∷ xs) = ap suc (one_more xs)

pures_hold : (h : Cells) (s e : Stack) (xs : List Pure) → Each (PureHolds s e) xs
    → Each (StepHolds h s e) (pures_steps xs)
pures_hold h s e [] p = tt
pures_hold h s e (Eq t u ∷ xs) p = (p.0, (sym p.0, pures_hold h s e xs p.1))
pures_hold h s e (Neq t u ∷ xs) p = pures_hold h s e xs p.1

spatials_hold : (h : Cells) (s e : Stack) (xs : List Spatial) → Each (CellFits h s e) xs
    → Each (StepHolds h s e) (spatials_steps xs)
spatials_hold h s e [] p = tt
spatials_hold h s e (Cell t ts ∷ xs) p = each_append (StepHolds h s e) (field_steps t 0 ts) (spatials_steps xs)
    (field_holds h s e t ts ts [] p.0 refl 0 refl) (spatials_hold h s e xs p.1)
spatials_hold h s e (Pred q ts ∷ xs) p = spatials_hold h s e xs p.1

pub fits_steps : (h : Cells) (s e : Stack) (a : SymbolicHeap) → Fits h s e a → StepsHold h s e (steps_of a)
fits_steps h s e a f = each_append (StepHolds h s e) (pures_steps a.pure) (spatials_steps a.spatial)
    (pures_hold h s e a.pure f.pure) (spatials_hold h s e a.spatial f.cells)

-- ---- values that agree with values that fit, fit

module _ (h : Cells) (s o s' e : Stack) where
  values_moved : (ts : List Term) → Each (λ t. value s o t ≡ value s' e t) ts → values s o ts ≡ values s' e ts
  values_moved [] k = refl
  values_moved (t ∷ ts) k = λ i. k.0 i ∷ values_moved ts k.1 i

  pures_moved : (xs : List Pure) → Each (InPure (λ t. value s o t ≡ value s' e t)) xs → Each (PureHolds s o) xs
      → Each (PureHolds s' e) xs
  pures_moved [] k p = tt
  pures_moved (Eq t u ∷ xs) k p = (sym k.0.0 ∙ p.0 ∙ k.0.1, pures_moved xs k.1 p.1)
  pures_moved (Neq t u ∷ xs) k p = (λ q. p.0 (k.0.0 ∙ q ∙ sym k.0.1), pures_moved xs k.1 p.1)

  cells_moved : (xs : List Spatial) → Each (InSpatial (λ t. value s o t ≡ value s' e t)) xs → Each (CellFits h s o) xs
      → Each (CellFits h s' e) xs
  cells_moved [] k p = tt
  cells_moved (Cell t ts ∷ xs) k p = (
    ap (cell_at h) (sym k.0.0) ∙ p.0 ∙ ap Some (values_moved ts k.0.1),
    cells_moved xs k.1 p.1,
  )
  cells_moved (Pred q ts ∷ xs) k p = (tt, cells_moved xs k.1 p.1)

  pub fits_moved : (a : SymbolicHeap) → InHeap (λ t. value s o t ≡ value s' e t) a → Fits h s o a → Fits h s' e a
  fits_moved a k f = record { pure = pures_moved a.pure k.0 f.pure; cells = cells_moved a.spatial k.1 f.cells }

universal_valued : (s : Stack) (ls : List Local) (t : Term) → IsUniversal t → IsValued s ls t
universal_valued s ls Nil u = (0, refl)
universal_valued s ls (Univ n) u = (slice_index s n, refl)
universal_valued s ls (Exist n) u = absurd u

-- values that fit agree with those that are forced
pub forced_agree : (h : Cells) (s : Stack) (a : SymbolicHeap) (ls : List Local) → IsConstructive a
    → AreForced h s (steps_of a) ls → AllPassed s ls (steps_of a) → (o : Stack) → Fits h s o a
    → InHeap (λ t. value s o t ≡ value s (stack_of ls) t) a
forced_agree h s a ls c f p o fits = in_heap_map (Known a) (λ t. value s o t ≡ value s (stack_of ls) t) same a c
  where
    same : (t : Term) → Known a t → value s o t ≡ value s (stack_of ls) t
    same t k =
        let v = known_in a (IsValued s ls) (universal_valued s ls) p t k in
        let w : value s o t ≡ v.0 = term_is h s o ls t v.0 (f o (fits_steps h s o a fits)) v.1 in
        w ∙ sym (ap or_zero v.1) ∙ now_is s ls t

pub forced_fit : (h : Cells) (s : Stack) (a : SymbolicHeap) (ls : List Local) → IsConstructive a
    → AreForced h s (steps_of a) ls → AllPassed s ls (steps_of a) → (o : Stack) → Fits h s o a
    → Fits h s (stack_of ls) a
forced_fit h s a ls c f p o fits = fits_moved h s o s (stack_of ls) a (forced_agree h s a ls c f p o fits) fits

-- ---- the answers as the code has them

pub none_fits : (h : Cells) (s : Stack) (a : SymbolicHeap) → IsEvaluated h s (steps_of a) None → (e : Stack)
    → Fits h s e a → ⊥
none_fits h s a v e f = v e (fits_steps h s e a f)

pub not_fit : (h : Cells) (s : Stack) (a : SymbolicHeap) (ls view : List Local) (yes : Bool) → IsConstructive a
    → IsEvaluated h s (steps_of a) (Some ls) → view ≡ ls → yes ≡ false → IsTrue yes ↔ Fits h s (stack_of view) a
    → (e : Stack) → Fits h s e a → ⊥
not_fit h s a ls view b c v w n i e f =
    let g = forced_fit h s a ls c v.0 v.1 e f in
    let t : IsTrue b = i.1 (subst (λ (xs : List Local). Fits h s (stack_of xs) a) (sym w) g) in
    let z : true ≡ false = sym t ∙ n in cc

pub yes_only : (h : Cells) (s : Stack) (a : SymbolicHeap) (ls view : List Local) (yes : Bool) → IsConstructive a
    → view ≡ ls → yes ≡ true → IsTrue yes ↔ Fits h s (stack_of view) a → IsOnly h s (stack_of ls) a
yes_only h s a ls view b c w y i =
    only_fit h s (stack_of ls) a c (subst (λ (xs : List Local). Fits h s (stack_of xs) a) w (i.0 y))
