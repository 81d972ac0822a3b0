use Rattle.std.proofs.Common.{◌≡◌, drop, map}
use Rattle.std.specs.List.{list_all}
use Rattle.heap_formula.specs.Substitution.{in_spatial}
use Rattle.rule_table.specs.Table.{right_term}
use Rattle.search_moves.specs.Entailments.{has_place}
use Rattle.search_moves.proofs.right_cases.have_places.Given as goal

abbrev pub invariant-loop-atom : goal.invariant-loop-atom
invariant-loop-atom l = list_all (has_place l.atoms) (map (in_spatial (right_term l.args 0)) (drop l.atom-index l.case))
    ≡ list_all (has_place l.atoms) (map (in_spatial (right_term l.args 0)) l.case)
