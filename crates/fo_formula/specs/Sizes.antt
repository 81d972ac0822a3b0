-- How many variables and applications there are: each is a sign.
use Rattle.std.specs.Prelude.{ℕ, ◌+◌, List, map, length, sum}
use Rattle.fo_formula.specs.declared.atoms.FoAtom.{FoAtom}
use Rattle.fo_formula.specs.declared.atoms.FoAtom.TheVariants.{Equation, Predicate}
use Rattle.fo_formula.specs.declared.nodes.FoReason.{FoReason}
use Rattle.fo_formula.specs.declared.nodes.FoReason.TheVariants.{Rule, Link}
use Rattle.fo_formula.specs.declared.nodes.FoRule.{FoRule}
use Rattle.fo_formula.specs.declared.nodes.FoRule.TheVariants.{Cut, Right}
use Rattle.fo_formula.specs.declared.sequents.FoSequent.{FoSequent}
use Rattle.fo_formula.specs.Words.{Word}

abbrev pub words_size : List Word → ℕ
words_size ws = sum (map length ws)

abbrev pub atom_size : FoAtom → ℕ
atom_size (Equation l r) = length l + length r
atom_size (Predicate p ts) = words_size ts

abbrev pub atoms_size : List FoAtom → ℕ
atoms_size xs = sum (map atom_size xs)

abbrev pub sequent_size : FoSequent → ℕ
sequent_size s = atoms_size s.left + atoms_size s.right

-- the terms that a rule carries
abbrev pub rule_size : FoRule → ℕ
rule_size (Cut x) = atom_size x
rule_size (Right j c ts) = words_size ts
rule_size _ = 0

-- the terms that a reason carries; a link's are the values of its substitution
abbrev pub reason_size : FoReason → ℕ
reason_size (Rule rule) = rule_size rule
reason_size (Link link) = words_size (map (λ (pair : ℕ × Word). pair.1) link.substitution)
