-- Sequents and definitions within the limits on atoms, cases and terms.
use Rattle.std.specs.Prelude.{◌≤◌, length, List}
use Rattle.cyc_basics.specs.declared.limits.TheConstants.{MOST_FIRST_ORDER_CASES, MOST_CASE_ATOMS, MOST_LEFT, MOST_RIGHT}
use Rattle.cyc_basics.specs.declared.limits.TheConstants.{MOST_TERMS}
use Rattle.heap_formula.specs.Words.{Each}
use Rattle.fo_formula.specs.declared.atoms.FoAtom.{FoAtom}
use Rattle.fo_formula.specs.declared.sequents.FoSequent.{FoSequent}
use Rattle.fo_formula.specs.declared.theory.FoDefinition.{FoDefinition}
use Rattle.fo_formula.specs.Sizes.{sequent_size}

-- at most 32 atoms on the left and 16 on the right, and at most 4,096 terms
pub record IsSmallSequent (s : FoSequent) : Type 0 where
  pub left : length s.left ≤ MOST_LEFT
  pub right : length s.right ≤ MOST_RIGHT
  pub size : sequent_size s ≤ MOST_TERMS

-- at most 16 cases, each of at most 16 atoms
pub record IsSmallDefinition (d : FoDefinition) : Type 0 where
  pub cases : length d.cases ≤ MOST_FIRST_ORDER_CASES
  pub atoms : Each (λ (c : List FoAtom). length c ≤ MOST_CASE_ATOMS) d.cases
