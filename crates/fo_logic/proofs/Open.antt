-- What is within the limits is of terms over the constructors.
use Rattle.std.proofs.Common.{ℕ}
use Rattle.fo_formula.specs.declared.terms.Sign.{Sign}
use Rattle.fo_formula.specs.declared.terms.Sign.TheVariants.{Universal, Local, Constructor}
use Rattle.fo_formula.specs.declared.atoms.FoAtom.{FoAtom}
use Rattle.fo_formula.specs.declared.atoms.FoAtom.TheVariants.{Equation, Predicate}
use Rattle.fo_formula.specs.declared.nodes.FoReason.{FoReason}
use Rattle.fo_formula.specs.declared.nodes.FoReason.TheVariants.{Rule, Link}
use Rattle.fo_formula.specs.declared.nodes.FoRule.{FoRule}
use Rattle.fo_formula.specs.declared.nodes.FoRule.TheVariants.{Axiom, Refl, Clash, Decompose, Replace, WeakenLeft}
use Rattle.fo_formula.specs.declared.nodes.FoRule.TheVariants.{WeakenRight, Contract, Unfold, Cut, Right}
use Rattle.fo_formula.specs.declared.sequents.FoSequent.{FoSequent}
use Rattle.fo_formula.specs.declared.theory.FoTheory.{FoTheory}
use Rattle.fo_formula.specs.Words.{Word}
use Rattle.fo_formula.specs.Shapes.{IsOpenSign, IsOpenTerm, IsOpenAtom, IsOpenSequent}
use Rattle.fo_formula.specs.Soundness.{HasOpenTerms, HasOpenReason}
use Rattle.fo_logic.specs.Limits.{IsSignWithin, IsTermWithin, IsAtomWithin, HasAtomsWithin, IsRuleWithin, IsPairWithin}
use Rattle.fo_logic.specs.Limits.{IsReasonWithin}
use Rattle.heap_formula.proofs.AllMembers.{each_imply}

module _ (t : FoTheory) where
  sign_open : (s : Sign) → IsSignWithin t s → IsOpenSign t.constructors s
  sign_open (Universal n) h = tt
  sign_open (Local n) h = absurd h
  sign_open (Constructor c k) h = h

  term_open : (w : Word) → IsTermWithin t w → IsOpenTerm t.constructors w
  term_open w h = (h.0, each_imply (IsSignWithin t) (IsOpenSign t.constructors) sign_open w h.1)

  atom_open : (x : FoAtom) → IsAtomWithin t x → IsOpenAtom t.constructors x
  atom_open (Equation l r) h = (term_open l h.0, term_open r h.1)
  atom_open (Predicate p ts) h = each_imply (IsTermWithin t) (IsOpenTerm t.constructors) term_open ts h.1

  pub sequent_open : (s : FoSequent) → HasAtomsWithin t s → IsOpenSequent t.constructors s
  sequent_open s h = (
    each_imply (IsAtomWithin t) (IsOpenAtom t.constructors) atom_open s.left h.0,
    each_imply (IsAtomWithin t) (IsOpenAtom t.constructors) atom_open s.right h.1,
  )

  rule_open : (rule : FoRule) → IsRuleWithin t rule → HasOpenTerms t.constructors rule
  rule_open (Axiom i j) h = tt
  rule_open (Refl j) h = tt
  rule_open (Clash i) h = tt
  rule_open (Decompose i) h = tt
  rule_open (Replace i side) h = tt
  rule_open (WeakenLeft i) h = tt
  rule_open (WeakenRight j) h = tt
  rule_open (Contract i) h = tt
  rule_open (Unfold i) h = tt
  rule_open (Cut x) h = tt
  rule_open (Right j c terms) h = each_imply (IsTermWithin t) (IsOpenTerm t.constructors) term_open terms h

  pub reason_open : (r : FoReason) → IsReasonWithin t r → HasOpenReason t.constructors r
  reason_open (Rule rule) h = rule_open rule h
  reason_open (Link link) h =
      each_imply (IsPairWithin t) (λ (pair : ℕ × Word). IsOpenTerm t.constructors pair.1)
      (λ pair h. term_open pair.1 h.1) link.substitution h
