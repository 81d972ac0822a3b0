-- Values that a heap forces on locals.
use Rattle.std.specs.Prelude.{slice_index, nat_eq}
use Rattle.std.proofs.lemmas.Bool.{cases_Bool, eqb-true}
use Rattle.std.proofs.Common.{◌≡◌, ℕ, ◌+◌, ◌<◌, ◌≤◌, List, [], ◌∷◌, length, length-append, drop, get_or, add-one}
use Rattle.std.proofs.Common.{drop-cons, Bool, true, false, Option, Some, None, refl, sym, ap, ◌∙◌, subst, inl, inr}
use Rattle.std.proofs.Common.{◌⊎◌, arith}
use Rattle.heap_formula.specs.declared.terms.Term.{Term}
use Rattle.heap_formula.specs.declared.terms.Term.TheVariants.{Nil, Univ, Exist}
use Rattle.heap_formula.specs.Words.{Each}
use Rattle.heap_formula.specs.Values.{Stack, value}
use Rattle.heap_formula.specs.Cells.{Cells, cell_at}
use Rattle.model_check.specs.declared.known.ValueStep.{ValueStep}
use Rattle.model_check.specs.declared.known.ValueStep.TheVariants.{Same, Field}
use Rattle.model_check.specs.declared.locals.Local.{Local}
use Rattle.model_check.specs.declared.locals.Forced.TheVariants.{Unknown, Value, Absent}
use Rattle.model_check.specs.Steps.{target}
use Rattle.model_check.specs.ForcedLocals.{local_value, term_value, field_of, from_value, from_field, from_address}
use Rattle.model_check.specs.ForcedLocals.{target_of, StepHolds, StepsHold, HasLocal, AreForced, IsValued, IsPassed}
use Rattle.model_check.specs.ForcedLocals.{AllPassed, Sets, Follows}
use Rattle.model_check.proofs.OnlyLocals.{member_each}
use Rattle.model_check.proofs.KnownTerms.{member_at}
use Rattle.heap_formula.proofs.AllMembers.{each_last}

module _ (h : Cells) (s e : Stack) where
  local_is : (ls : List Local) (n v : ℕ) → Each (HasLocal e) ls → local_value ls n ≡ Some v → slice_index e n ≡ v
  local_is [] n v a l = absurd (let z : None ≡ Some v = l in cc)
  local_is (x ∷ xs) n v a l = elim (cases_Bool (nat_eq n x.number)) [
    | inl yes' ↦
        let k : Some x.value ≡ Some v = rw yes' at l in
        let w : x.value ≡ v = cc in
        ap (slice_index e) (eqb-true n x.number yes') ∙ a.0 ∙ w
    | inr no' ↦ local_is xs n v a.1 (rw no' at l)
  ]

  pub term_is : (ls : List Local) (t : Term) (v : ℕ) → Each (HasLocal e) ls → term_value s ls t ≡ Some v
      → value s e t ≡ v
  term_is ls Nil v a l = let z : Some 0 ≡ Some v = l in let w : 0 ≡ v = cc in w
  term_is ls (Univ n) v a l = let z : Some (slice_index s n) ≡ Some v = l in let w : slice_index s n ≡ v = cc in w
  term_is ls (Exist n) v a l = local_is ls n v a l

from_value_is : (o : Option ℕ) (v : ℕ) → from_value o ≡ Value v → o ≡ Some v
from_value_is None v e = absurd (let z : Unknown ≡ Value v = e in cc)
from_value_is (Some w) v e = let z : Value w ≡ Value v = e in let k : w ≡ v = cc in ap Some k

from_value_never : (o : Option ℕ) → from_value o ≡ Absent → ⊥
from_value_never None e = let z : Unknown ≡ Absent = e in cc
from_value_never (Some w) e = let z : Value w ≡ Absent = e in cc

from_field_is : (o : Option ℕ) (v : ℕ) → from_field o ≡ Value v → o ≡ Some v
from_field_is None v e = absurd (let z : Absent ≡ Value v = e in cc)
from_field_is (Some w) v e = let z : Value w ≡ Value v = e in let k : w ≡ v = cc in ap Some k

from_field_none : (o : Option ℕ) → from_field o ≡ Absent → o ≡ None
from_field_none None e = refl
from_field_none (Some w) e = absurd (let z : Value w ≡ Absent = e in cc)

from_address_is : (h : Cells) (k : ℕ) (o : Option ℕ) (v : ℕ) → from_address h k o ≡ Value v
    → (a : ℕ) × (o ≡ Some a) × (field_of (cell_at h a) k ≡ Some v)
from_address_is h k None v e = absurd (let z : Unknown ≡ Value v = e in cc)
from_address_is h k (Some a) v e = (a, refl, from_field_is (field_of (cell_at h a) k) v e)

from_address_none : (h : Cells) (k : ℕ) (o : Option ℕ) → from_address h k o ≡ Absent
    → (a : ℕ) × (o ≡ Some a) × (field_of (cell_at h a) k ≡ None)
from_address_none h k None e = absurd (let z : Unknown ≡ Absent = e in cc)
from_address_none h k (Some a) e = (a, refl, from_field_none (field_of (cell_at h a) k) e)

module _ (h : Cells) (s : Stack) where
  target_forced : (e : Stack) (ls : List Local) (st : ValueStep) (v : ℕ) → target_of h s ls st ≡ Value v
      → StepHolds h s e st → Each (HasLocal e) ls → value s e (target st) ≡ v
  target_forced e ls (Same t u) v f holds a =
      sym holds ∙ term_is h s e ls t v a (from_value_is (term_value s ls t) v f)
  target_forced e ls (Field t k u) v f holds a =
      let r = from_address_is h k (term_value s ls t) v f in
      let w : value s e t ≡ r.0 = term_is h s e ls t r.0 a r.1 in
      let z : Some (value s e u) ≡ Some v = sym holds ∙ ap (λ x. field_of (cell_at h x) k) w ∙ r.2 in
      let y : value s e u ≡ v = cc in y

  target_absent : (e : Stack) (ls : List Local) (st : ValueStep) → target_of h s ls st ≡ Absent → StepHolds h s e st
      → Each (HasLocal e) ls → ⊥
  target_absent e ls (Same t u) f holds a = from_value_never (term_value s ls t) f
  target_absent e ls (Field t k u) f holds a =
      let r = from_address_none h k (term_value s ls t) f in
      let w : value s e t ≡ r.0 = term_is h s e ls t r.0 a r.1 in
      let z : None ≡ Some (value s e u) = sym (ap (λ x. field_of (cell_at h x) k) w ∙ r.2) ∙ holds in
      cc

  sets_forced : (e : Stack) (old new : List Local) (t : Term) (v : ℕ) → value s e t ≡ v → Sets s old new t v
      → Each (HasLocal e) old → Each (HasLocal e) new
  sets_forced e old new t v f (inl k) a = subst (Each (HasLocal e)) (sym k.0) a
  sets_forced e old new t v f (inr k) a =
      let w : slice_index e k.0 ≡ v = sym (ap (value s e) k.1) ∙ f in
      subst (Each (HasLocal e)) (sym k.2.0) (each_last (HasLocal e) old (record { number = k.0; value = v }) a w)

  sets_more : (old new : List Local) (st : ValueStep) (v : ℕ) → Sets s old new (target st) v
      → ((new ≡ old) × IsPassed s new st) ⊎ (length new ≡ length old + 1)
  sets_more old new st v (inl k) = inl (k.0, λ w. subst (λ ls. IsValued s ls (target st)) (sym k.0) k.1)
  sets_more old new st v (inr k) = inr (ap length k.2.0 ∙ length-append old ((record { number = k.0; value = v }) ∷ []))

  pub follow_value : (old new : List Local) (st : ValueStep) (v : ℕ) (b : Bool) → true ≡ b
      → target_of h s old st ≡ Value v → Sets s old new (target st) v → Follows h s st old new b
  follow_value old new st v b e f k =
      subst (Follows h s st old new) e (
        λ o holds a. sets_forced o old new (target st) v
            (target_forced o old st v f holds a) k a,
        sets_more old new st v k,
      )

  pub follow_absent : (old new : List Local) (st : ValueStep) (b : Bool) → false ≡ b → target_of h s old st ≡ Absent
      → Follows h s st old new b
  follow_absent old new st b e f = subst (Follows h s st old new) e (λ o holds a. target_absent o old st f holds a)

  split_steps : (steps : List ValueStep) (i : ℕ) (d : ValueStep) → i < length steps
      → drop i steps ≡ get_or steps i d ∷ drop (i + 1) steps
  split_steps steps i d l = rw (add-one, drop-cons steps i d)

  pub pass_step : (steps : List ValueStep) (i : ℕ) (d : ValueStep) (init m n : ℕ) (old new : List Local)
      → i < length steps → length old ≡ m → length new ≡ n → AreForced h s steps old → init ≤ m
      → (m ≡ init → AllPassed s old (drop i steps) → AllPassed s old steps)
      → Follows h s (get_or steps i d) old new true → AreForced h s steps new × (init ≤ n)
      × (n ≡ init → AllPassed s new (drop (i + 1) steps) → AllPassed s new steps)
  pass_step steps i d init m n old new l lo ln f le c k = (forced, longer k.1, closed k.1)
    where
      forced : AreForced h s steps new
      forced e all = k.0 e (member_each (StepHolds h s e) (get_or steps i d) steps (member_at steps i d l) all)
          (f e all)

      longer : ((new ≡ old) × IsPassed s new (get_or steps i d)) ⊎ (length new ≡ length old + 1) → init ≤ n
      longer (inl q) = let z : length new ≡ length old = ap length q.0 in omega arith
      longer (inr q) = omega arith

      closed : ((new ≡ old) × IsPassed s new (get_or steps i d)) ⊎ (length new ≡ length old + 1) → n ≡ init
          → AllPassed s new (drop (i + 1) steps) → AllPassed s new steps
      closed (inr q) e r = absurd (omega arith)
      closed (inl q) e r =
          let z : length new ≡ length old = ap length q.0 in
          let m_is : m ≡ init = omega arith in
          let r' = subst (λ ls. AllPassed s ls (drop (i + 1) steps)) q.0 r in
          let p' = subst (λ ls. IsPassed s ls (get_or steps i d)) q.0 q.1 in
          subst (λ ls. AllPassed s ls steps) (sym q.0)
          (c m_is (subst (AllPassed s old) (sym (split_steps steps i d l)) (p', r')))

  pub pass_none : (steps : List ValueStep) (i : ℕ) (d : ValueStep) (old new : List Local) → i < length steps
      → AreForced h s steps old → Follows h s (get_or steps i d) old new false → (e : Stack) → StepsHold h s e steps → ⊥
  pass_none steps i d old new l f k e all = k e (member_each (StepHolds h s e) (get_or steps i d) steps
      (member_at steps i d l) all) (f e all)
