-- Which rules have no fault.
use Rattle.std.specs.Prelude.{ℕ, ◌≡◌, ◌≤◌, ◌+◌, Bool, true, false, is_ok, nat_le, length, Ok, Err}
use Rattle.cyc_basics.specs.declared.limits.TheConstants.{MOST_TERMS}
use Rattle.fo_formula.specs.declared.nodes.FoReason.{FoReason}
use Rattle.fo_formula.specs.declared.nodes.FoRule.{FoRule}
use Rattle.fo_formula.specs.declared.sequents.FoSequent.{FoSequent}
use Rattle.fo_formula.specs.declared.theory.FoTheory.{FoTheory}
use Rattle.fo_formula.specs.Sizes.{sequent_size, reason_size}
use Rattle.fo_formula.specs.Answers.{Answer}
use Rattle.fo_formula.specs.Table.{rule_answer}

-- the rule has no fault at the sequent
abbrev pub is_applicable : FoTheory → FoSequent → FoRule → Bool
is_applicable t s rule = is_ok (rule_answer t s rule)

abbrev pub HasPremises : FoTheory → FoSequent → FoRule → Type 0
HasPremises t s rule = is_applicable t s rule ≡ true

-- the sequent has, with the reason, at most 4,096 terms
abbrev pub HasRoomFor : FoSequent → FoReason → Type 0
HasRoomFor s reason = sequent_size s + reason_size reason ≤ MOST_TERMS

-- the answer has at most so many premises, and no fault
abbrev pub has_few : ℕ → Answer → Bool
has_few most (Ok ps) = nat_le (length ps) most
has_few most (Err fault) = false

-- the rule has no fault at the sequent, and leaves at most so many premises
abbrev pub is_applicable_within : ℕ → FoTheory → FoSequent → FoRule → Bool
is_applicable_within most t s rule = has_few most (rule_answer t s rule)
