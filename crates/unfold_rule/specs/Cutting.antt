-- The premises of Cut, as the program makes them, and their sizes.
use Rattle.std.specs.Prelude.{ℕ, ◌+◌, length, Bool, ◌&&◌, nat_le, List, max}
use Rattle.std.specs.List.{list_all}
use Rattle.cyc_basics.specs.declared.limits.Limits.{Limits}
use Rattle.heap_formula.specs.declared.terms.Term.{Term}
use Rattle.heap_formula.specs.declared.judgements.Judgement.{Judgement}
use Rattle.heap_formula.specs.declared.judgements.Premise.{Premise}
use Rattle.heap_formula.specs.Symbolic.{SymbolicHeap}
use Rattle.heap_formula.specs.Substitution.{in_heap}
use Rattle.heap_formula.specs.Positions.{chosen, chosen_place, others_of, pairs_from}
use Rattle.heap_formula.specs.Judgements.{antecedent, with_antecedent}
use Rattle.rule_table.specs.Answer.{is_short, disjuncts, Answer, limited, two}
use Rattle.unfold_rule.specs.Joining.{joined}
use Rattle.heap_formula.specs.Fresh.{fresh_number, heap_bound}
use Rattle.rule_table.specs.RuleCut.{cut_left, cut_right}
use Rattle.rule_table.specs.Tests.{has_number}

-- with a map of terms for the formula's
abbrev pub cut_right_by : Judgement → (ℕ → Bool) → (Term → Term) → SymbolicHeap → Premise
cut_right_by j p f formula =
    record {
      judgement = with_antecedent j (joined (antecedent j).pure (chosen (others_of p) (antecedent j).spatial)
          (in_heap f formula));
      pairs = pairs_from (chosen_place (others_of p) (antecedent j).spatial) 0
          (chosen (others_of p) (antecedent j).spatial);
    }

-- both premises, with a map of terms for the formula's
abbrev pub cut_by : Judgement → List ℕ → (Term → Term) → SymbolicHeap → List Premise
cut_by j places f formula =
    two (cut_left (antecedent j) (has_number places) formula)
    (cut_right_by j (has_number places) f formula)

-- the answer of Cut at places that ascend
abbrev pub placed_cut_answer : Limits → ℕ → Judgement → List ℕ → SymbolicHeap → Answer
placed_cut_answer most p j places formula =
    limited most
    (two (cut_left (antecedent j) (has_number places) formula)
    (cut_right j (has_number places) formula (max (fresh_number p j) (heap_bound formula))))

-- both premises are within the limits, where n spatial atoms stay: the first has the others, the second these and the
-- formula's
abbrev pub cut_fits : Limits → Judgement → ℕ → SymbolicHeap → Bool
cut_fits most j n formula =
    nat_le (length (antecedent j).spatial) (n + most.spatial) &&
    (nat_le (length (antecedent j).pure + length formula.pure) most.pure &&
    (nat_le (n + length formula.spatial) most.spatial && list_all (is_short most) (disjuncts j)))
