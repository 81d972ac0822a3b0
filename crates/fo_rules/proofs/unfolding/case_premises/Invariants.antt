use Rattle.std.proofs.Common.{◌≡◌, ◌+◌, ◌++◌, List, true, map, drop, length}
use Rattle.std.specs.Prelude.{nat_le}
use Rattle.std.specs.List.{list_all}
use Rattle.fo_formula.specs.declared.atoms.FoAtom.{FoAtom}
use Rattle.fo_formula.specs.Table.{is_numbered, unfold_premise}
use Rattle.fo_rules.proofs.unfolding.case_premises.Given as goal

abbrev pub invariant-loop-case : goal.invariant-loop-case
invariant-loop-case l =
    (l.premises.items ++ map (unfold_premise l.sequent l.i l.arguments l.number) (drop l.case-index l.cases)
    ≡ map (unfold_premise l.sequent l.i l.arguments l.number) l.cases)
    × (list_all (λ (c : List FoAtom). nat_le (l.kept + length c) 32) (drop l.case-index l.cases) ≡ true)
    × (list_all (is_numbered l.number) (drop l.case-index l.cases) ≡ true)
