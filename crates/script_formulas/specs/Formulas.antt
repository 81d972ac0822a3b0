-- Formulas of scripts as plain data.
use Rattle.std.specs.Prelude.{ℕ}
use Rattle.heap_formula.specs.declared.atoms.Pure.{Pure}
use Rattle.script_formulas.specs.declared.formula.ScriptAtom.{ScriptAtom}
use Rattle.script_formulas.specs.declared.formula.ScriptFormula.{ScriptFormula}
use Rattle.script_formulas.specs.declared.formula.ScriptFormula.TheVariants as script

pub data Formula : Type 0 where
  True : Formula
  False : Formula
  Empty : Formula
  Says : Pure → Formula
  Atom : ScriptAtom → Formula
  Not : Formula → Formula
  And : Formula → Formula → Formula
  Or : Formula → Formula → Formula
  Sep : Formula → Formula → Formula
  Exists : ℕ → Formula → Formula

-- a formula without where its parts lie in memory
abbrev pub formula_of : ScriptFormula → Formula
formula_of script.True = True
formula_of script.False = False
formula_of script.Empty = Empty
formula_of (script.Pure p) = Says p
formula_of (script.Atom a) = Atom a
formula_of (script.Not' p f) = Not (formula_of f)
formula_of (script.And' p f q g) = And (formula_of f) (formula_of g)
formula_of (script.Or' p f q g) = Or (formula_of f) (formula_of g)
formula_of (script.Sep' p f q g) = Sep (formula_of f) (formula_of g)
formula_of (script.Exists' sort p f) = Exists sort (formula_of f)
