-- Whether each variable of a formula is bound.
use Rattle.std.specs.Prelude.{◌≡◌, ℕ, ◌+◌, ◌<◌, ◌≤◌, List, [], Bool, true, ◌&&◌, nat_lt}
use Rattle.std.specs.List.{list_all}
use Rattle.heap_formula.specs.declared.terms.Term.{Term}
use Rattle.heap_formula.specs.declared.terms.Term.TheVariants.{Nil, Univ, Exist}
use Rattle.heap_formula.specs.declared.atoms.Pure.{Pure}
use Rattle.heap_formula.specs.declared.atoms.Pure.TheVariants.{Eq, Neq}
use Rattle.heap_formula.specs.Closedness.{InPure}
use Rattle.heap_formula.specs.Words.{Each}
use Rattle.script_formulas.specs.declared.formula.ScriptAtom.{ScriptAtom}
use Rattle.script_formulas.specs.declared.formula.ScriptAtom.TheVariants.{Cell, Call}
use Rattle.script_formulas.specs.Cases.{SymbolicCase}
use Rattle.script_formulas.specs.Formulas.{Formula, True, False, Empty, Says, Atom, Not, And, Or, Sep, Exists}

-- no quantified variable, or one with a number below d
abbrev pub IsBound : ℕ → Term → Type 0
IsBound d Nil = Unit {0}
IsBound d (Univ n) = Unit {0}
IsBound d (Exist n) = n < d

abbrev pub InAtom : (Term → Type 0) → ScriptAtom → Type 0
InAtom Q (Cell t c ts) = Q t × Each Q ts
InAtom Q (Call p ts) = Each Q ts

-- each quantified variable of a formula below d quantifiers is bound by one of them, or within the formula
abbrev pub IsBoundFormula : ℕ → Formula → Type 0
IsBoundFormula d True = Unit {0}
IsBoundFormula d False = Unit {0}
IsBoundFormula d Empty = Unit {0}
IsBoundFormula d (Says p) = InPure (IsBound d) p
IsBoundFormula d (Atom a) = InAtom (IsBound d) a
IsBoundFormula d (Not f) = IsBoundFormula d f
IsBoundFormula d (And f g) = IsBoundFormula d f × IsBoundFormula d g
IsBoundFormula d (Or f g) = IsBoundFormula d f × IsBoundFormula d g
IsBoundFormula d (Sep f g) = IsBoundFormula d f × IsBoundFormula d g
IsBoundFormula d (Exists sort f) = IsBoundFormula (d + 1) f

-- the tests, which also see that no quantifier has more than 1,024 around it
abbrev pub bound_term : ℕ → Term → Bool
bound_term d Nil = true
bound_term d (Univ n) = true
bound_term d (Exist n) = nat_lt n d

abbrev pub bound_pure : ℕ → Pure → Bool
bound_pure d (Eq t u) = bound_term d t && bound_term d u
bound_pure d (Neq t u) = bound_term d t && bound_term d u

abbrev pub bound_atom : ℕ → ScriptAtom → Bool
bound_atom d (Cell t c ts) = bound_term d t && list_all (bound_term d) ts
bound_atom d (Call p ts) = list_all (bound_term d) ts

abbrev pub bound_formula : ℕ → Formula → Bool
bound_formula d True = true
bound_formula d False = true
bound_formula d Empty = true
bound_formula d (Says p) = bound_pure d p
bound_formula d (Atom a) = bound_atom d a
bound_formula d (Not f) = bound_formula d f
bound_formula d (And f g) = bound_formula d f && bound_formula d g
bound_formula d (Or f g) = bound_formula d f && bound_formula d g
bound_formula d (Sep f g) = bound_formula d f && bound_formula d g
bound_formula d (Exists sort f) = nat_lt d 1024 && bound_formula (d + 1) f

-- ---- cases

-- a case of a formula below d quantifiers has few variables, which are bound, and has no atoms where it says nothing of
-- the heap
pub record IsFine (d : ℕ) (c : SymbolicCase) : Type 0 where
  pub few : c.quantified ≤ 1024
  pub pures : Each (InPure (IsBound (d + c.quantified))) c.pure
  pub heap : Each (InAtom (IsBound (d + c.quantified))) c.atoms
  pub open_heap : c.any_heap ≡ true → c.atoms ≡ []

abbrev pub AreFine : ℕ → List SymbolicCase → Type 0
AreFine d cs = Each (IsFine d) cs
