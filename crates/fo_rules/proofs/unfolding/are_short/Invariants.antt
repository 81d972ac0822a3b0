use Rattle.std.proofs.Common.{◌≡◌, ◌+◌, List, drop, length}
use Rattle.std.specs.Prelude.{nat_le}
use Rattle.std.specs.List.{list_all}
use Rattle.fo_formula.specs.declared.atoms.FoAtom.{FoAtom}
use Rattle.fo_rules.proofs.unfolding.are_short.Given as goal

abbrev pub invariant-loop-case : goal.invariant-loop-case
invariant-loop-case l = list_all (λ (c : List FoAtom). nat_le (l.kept + length c) 32) (drop l.case-index l.cases)
    ≡ list_all (λ (c : List FoAtom). nat_le (l.kept + length c) 32) l.cases
