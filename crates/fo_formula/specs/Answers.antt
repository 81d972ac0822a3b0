-- What a rule answers: its first fault, or its premises.
use Rattle.std.specs.Prelude.{ℕ, ◌+◌, List, length, Bool, true, false, ◌&&◌, nat_le, Option, Some, None, Result, Ok}
use Rattle.std.specs.Prelude.{Err}
use Rattle.std.specs.List.{list_all}
use Rattle.cyc_basics.specs.declared.limits.TheConstants.{MOST_LEFT, MOST_RIGHT, MOST_TERMS}
use Rattle.fo_formula.specs.declared.atoms.FoAtom.{FoAtom}
use Rattle.fo_formula.specs.declared.atoms.FoAtom.TheVariants.{Equation, Predicate}
use Rattle.fo_formula.specs.declared.sequents.FoSequent.{FoSequent}
use Rattle.fo_formula.specs.Words.{Word}
use Rattle.fo_formula.specs.Sizes.{sequent_size}
use Rattle.fo_formula.specs.declared.table.faults.FoFault.{FoFault}
use Rattle.fo_formula.specs.declared.table.faults.FoFault.TheVariants.{NoSuchAtom, NotEquation, TooManyAtoms}
use Rattle.fo_formula.specs.declared.table.faults.FoFault.TheVariants.{TooManyTerms}
use Rattle.fo_formula.specs.declared.table.premises.FoPremise.{FoPremise}

-- a rule's first fault, or its premises with their trace pairs
abbrev pub Answer : Type 0
Answer = Result (List FoPremise) FoFault

-- the fault unless the test holds; else what follows
abbrev pub needs : Bool → FoFault → Answer → Answer
needs true f rest = rest
needs false f rest = Err f

-- the fault if there is no such thing; else what follows of it
abbrev pub finds : {X : Type 0} → Option X → FoFault → (X → Answer) → Answer
finds None f rest = Err f
finds (Some x) f rest = rest x

-- for equations alone
abbrev pub equation : FoAtom → (Word → Word → Answer) → Answer
equation (Equation l r) rest = rest l r
equation (Predicate p ts) rest = Err NotEquation

-- for predicate atoms alone
abbrev pub predicate : FoAtom → (ℕ → List Word → Answer) → Answer
predicate (Equation l r) rest = Err NoSuchAtom
predicate (Predicate p ts) rest = rest p ts

-- at most 32 atoms on the left and 16 on the right
abbrev pub is_short : FoSequent → Bool
is_short s = nat_le (length s.left) MOST_LEFT && nat_le (length s.right) MOST_RIGHT

-- at most 4,096 variables and applications
abbrev pub is_small : FoSequent → Bool
is_small s = nat_le (sequent_size s) MOST_TERMS

-- the faults that come last: a premise has too many atoms; a premise, or the sequent with the n terms of its reason,
-- has too many terms
abbrev pub within : FoSequent → ℕ → List FoPremise → Answer → Answer
within s n ps rest =
    needs (list_all (λ (p : FoPremise). is_short p.sequent) ps) TooManyAtoms
    (needs (nat_le (sequent_size s + n) MOST_TERMS && list_all (λ (p : FoPremise). is_small p.sequent) ps)
    TooManyTerms rest)

abbrev pub limited : FoSequent → ℕ → List FoPremise → Answer
limited s n ps = within s n ps (Ok ps)
