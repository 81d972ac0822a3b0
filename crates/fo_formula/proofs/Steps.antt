-- An answer is sound where what follows each of its tests is.
use Rattle.std.proofs.Common.{◌≡◌, ℕ, ◌+◌, List, Bool, true, false, ◌&&◌, Option, Some, None, refl}
use Rattle.std.specs.Prelude.{nat_le, Ok}
use Rattle.std.specs.List.{list_all}
use Rattle.fo_formula.specs.declared.atoms.FoAtom.{FoAtom}
use Rattle.fo_formula.specs.declared.atoms.FoAtom.TheVariants.{Equation, Predicate}
use Rattle.fo_formula.specs.declared.sequents.FoSequent.{FoSequent}
use Rattle.fo_formula.specs.declared.theory.FoTheory.{FoTheory}
use Rattle.fo_formula.specs.Words.{Word}
use Rattle.fo_formula.specs.Sizes.{sequent_size}
use Rattle.fo_formula.specs.declared.table.faults.FoFault.{FoFault}
use Rattle.fo_formula.specs.declared.table.faults.FoFault.TheVariants.{TooManyAtoms, TooManyTerms}
use Rattle.fo_formula.specs.declared.table.premises.FoPremise.{FoPremise}
use Rattle.fo_formula.specs.Answers.{Answer, needs, finds, equation, predicate, is_short, is_small, within, limited}
use Rattle.fo_formula.specs.Soundness.{IsSound, IsLocallySound}

module _ (t : FoTheory) (s : FoSequent) where
  pub needs_sound : (b : Bool) (f : FoFault) (rest : Answer) → (b ≡ true → IsSound t s rest)
      → IsSound t s (needs b f rest)
  needs_sound true f rest g = g refl
  needs_sound false f rest g = tt

  pub finds_sound : {X : Type 0} (o : Option X) (f : FoFault) (rest : X → Answer)
      → ((x : X) → o ≡ Some x → IsSound t s (rest x)) → IsSound t s (finds o f rest)
  finds_sound None f rest g = tt
  finds_sound (Some x) f rest g = g x refl

  pub equation_sound : (x : FoAtom) (rest : Word → Word → Answer)
      → ((l r : Word) → x ≡ Equation l r → IsSound t s (rest l r)) → IsSound t s (equation x rest)
  equation_sound (Equation l r) rest g = g l r refl
  equation_sound (Predicate p ts) rest g = tt

  pub predicate_sound : (x : FoAtom) (rest : ℕ → List Word → Answer)
      → ((p : ℕ) (ts : List Word) → x ≡ Predicate p ts → IsSound t s (rest p ts)) → IsSound t s (predicate x rest)
  predicate_sound (Equation l r) rest g = tt
  predicate_sound (Predicate p ts) rest g = g p ts refl

  pub within_sound : (n : ℕ) (ps : List FoPremise) (rest : Answer) → IsSound t s rest → IsSound t s (within s n ps rest)
  within_sound n ps rest sound =
      needs_sound (list_all (λ (p : FoPremise). is_short p.sequent) ps) TooManyAtoms
      (needs (nat_le (sequent_size s + n) 4096 && list_all (λ (p : FoPremise). is_small p.sequent) ps)
      TooManyTerms rest) (λ _. needs_sound (nat_le (sequent_size s + n) 4096 && list_all
      (λ (p : FoPremise). is_small p.sequent) ps) TooManyTerms rest (λ _. sound))

  pub limited_sound : (n : ℕ) (ps : List FoPremise) → IsLocallySound t s ps → IsSound t s (limited s n ps)
  limited_sound n ps sound = within_sound n ps (Ok ps) sound
