-- Quantified variables make room for others.
use Rattle.std.specs.Prelude.{ℕ, ◌+◌, ◌-◌, nat_le, ◌&&◌, if◌then◌else◌, map}
use Rattle.heap_formula.specs.declared.terms.Term.{Term}
use Rattle.heap_formula.specs.declared.terms.Term.TheVariants.{Nil, Univ, Exist}
use Rattle.script_formulas.specs.declared.formula.ScriptAtom.{ScriptAtom}
use Rattle.script_formulas.specs.declared.formula.ScriptAtom.TheVariants.{Cell, Call}

-- a variable from d on is raised by k, as far as numbers go
abbrev pub shift_term : ℕ → ℕ → Term → Term
shift_term d k Nil = Nil
shift_term d k (Univ n) = Univ n
shift_term d k (Exist n) = if nat_le d n && nat_le n (65535 - k) then Exist (n + k) else Exist n

-- a map of terms at each term of an atom
abbrev pub in_atom : (Term → Term) → ScriptAtom → ScriptAtom
in_atom f (Cell t c ts) = Cell (f t) c (map f ts)
in_atom f (Call p ts) = Call p (map f ts)
