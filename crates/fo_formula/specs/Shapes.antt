-- Terms over the constructors of a theory.
use Rattle.std.specs.Prelude.{List}
use Rattle.heap_formula.specs.Words.{Each}
use Rattle.fo_formula.specs.declared.terms.Sign.{Sign}
use Rattle.fo_formula.specs.declared.terms.Sign.TheVariants.{Universal, Local, Constructor}
use Rattle.fo_formula.specs.declared.atoms.FoAtom.{FoAtom}
use Rattle.fo_formula.specs.declared.atoms.FoAtom.TheVariants.{Equation, Predicate}
use Rattle.fo_formula.specs.declared.sequents.FoSequent.{FoSequent}
use Rattle.fo_formula.specs.declared.theory.FoTheory.{FoTheory}
use Rattle.fo_formula.specs.declared.theory.Constructor.{Constructor as ConstructorValue}
use Rattle.fo_formula.specs.Words.{Word, IsTerm}
use Rattle.fo_formula.specs.Values.{IsConstructor}

-- a sign of a term outside cases: a variable, or a constructor with its number of arguments
abbrev pub IsOpenSign : List ConstructorValue → Sign → Type 0
IsOpenSign cs (Universal n) = Unit {0}
IsOpenSign cs (Local n) = ⊥
IsOpenSign cs (Constructor c k) = IsConstructor cs c k

-- a term with variables
abbrev pub IsOpenTerm : List ConstructorValue → Word → Type 0
IsOpenTerm cs w = IsTerm w × Each (IsOpenSign cs) w

abbrev pub IsOpenAtom : List ConstructorValue → FoAtom → Type 0
IsOpenAtom cs (Equation l r) = IsOpenTerm cs l × IsOpenTerm cs r
IsOpenAtom cs (Predicate p ts) = Each (IsOpenTerm cs) ts

abbrev pub IsOpenSequent : List ConstructorValue → FoSequent → Type 0
IsOpenSequent cs s = Each (IsOpenAtom cs) s.left × Each (IsOpenAtom cs) s.right

-- the first constructor takes no arguments
abbrev pub HasConstant : FoTheory → Type 0
HasConstant t = IsConstructor t.constructors 0 0
