-- The cases of a formula.
use Rattle.std.specs.Prelude.{ℕ, ◌+◌, Bool, true, false, not, nat_le, if◌then◌else◌, List, [], ◌∷◌, Ok, Err}
use Rattle.heap_formula.specs.declared.atoms.Pure.{Pure}
use Rattle.heap_formula.specs.declared.atoms.Pure.TheVariants.{Eq, Neq}
use Rattle.script_formulas.specs.Formulas.{Formula, True, False, Empty, Says, Atom, Not, And, Or, Sep, Exists}
use Rattle.script_formulas.specs.declared.cases.refused.Unsupported.TheVariants.{Negation, Universal, Quantifiers}
use Rattle.script_formulas.specs.declared.cases.joining.Way.TheVariants.{Conjunction, Separation}
use Rattle.script_formulas.specs.Cases.{SymbolicCase, open_case, empty_case, pure_case, atom_case, Answer, after}
use Rattle.script_formulas.specs.Cases.{all_one_more}
use Rattle.script_formulas.specs.Joining.{join_all, all_of}

-- the atom itself, or its negation
abbrev pub signed : Bool → Pure → Pure
signed true p = p
signed false (Eq t u) = Neq t u
signed false (Neq t u) = Eq t u

abbrev pub truth : Bool → List SymbolicCase
truth true = open_case ∷ []
truth false = []

-- the cases in which both formulas hold, or in which one does
abbrev pub both_or_one : Bool → ℕ → List SymbolicCase → List SymbolicCase → Answer (List SymbolicCase)
both_or_one true d xs ys = join_all Conjunction d xs ys
both_or_one false d xs ys = all_of xs ys

-- the cases of a formula without quantifiers of its own that says nothing of the heap, or of its negation
abbrev pub literals : Bool → ℕ → Formula → Answer (List SymbolicCase)
literals sign d True = Ok (truth sign)
literals sign d False = Ok (truth (not sign))
literals sign d Empty = Err Negation
literals sign d (Says p) = Ok (pure_case (signed sign p) ∷ [])
literals sign d (Atom a) = Err Negation
literals sign d (Not f) = literals (not sign) d f
literals sign d (And f g) = after (literals sign d f) (λ xs. after (literals sign d g) (λ ys. both_or_one sign d xs ys))
literals sign d (Or f g) = after (literals sign d f)
    (λ xs. after (literals sign d g) (λ ys. both_or_one (not sign) d xs ys))
literals sign d (Sep f g) = Err Negation
literals sign d (Exists sort f) = Err Universal

-- the cases of a formula that stands below d quantifiers
abbrev pub formula_cases : ℕ → Formula → Answer (List SymbolicCase)
formula_cases d True = Ok (open_case ∷ [])
formula_cases d False = Ok []
formula_cases d Empty = Ok (empty_case ∷ [])
formula_cases d (Says p) = Ok (pure_case p ∷ [])
formula_cases d (Atom a) = Ok (atom_case a ∷ [])
formula_cases d (Not f) = literals false d f
formula_cases d (And f g) = after (formula_cases d f)
    (λ xs. after (formula_cases d g) (λ ys. join_all Conjunction d xs ys))
formula_cases d (Or f g) = after (formula_cases d f) (λ xs. after (formula_cases d g) (λ ys. all_of xs ys))
formula_cases d (Sep f g) = after (formula_cases d f)
    (λ xs. after (formula_cases d g) (λ ys. join_all Separation d xs ys))
formula_cases d (Exists sort f) =
    if nat_le 1024 d then Err Quantifiers else after (formula_cases (d + 1) f) (λ cs. all_one_more cs)
