-- The premises of Unfold and UnfoldRight, as the program makes them, and their sizes.
use Rattle.std.specs.Prelude.{ℕ, ◌+◌, [], ◌∷◌, ◌++◌, length, Bool, ◌&&◌, nat_le, List, map, slice_get}
use Rattle.std.specs.List.{list_all}
use Rattle.cyc_basics.specs.declared.limits.Limits.{Limits}
use Rattle.heap_formula.specs.declared.terms.Term.{Term}
use Rattle.heap_formula.specs.declared.judgements.Judgement.{Judgement}
use Rattle.heap_formula.specs.declared.judgements.Premise.{Premise}
use Rattle.heap_formula.specs.Symbolic.{SymbolicHeap}
use Rattle.heap_formula.specs.Substitution.{in_heap}
use Rattle.heap_formula.specs.Positions.{without, kept_pairs, child_pairs}
use Rattle.heap_formula.specs.Judgements.{antecedent, with_antecedent}
use Rattle.rule_table.specs.Answer.{is_short, disjuncts, Answer, limited, one, finds}
use Rattle.rule_table.specs.RuleUnfold.{unfolded, unfold_premise}
use Rattle.rule_table.specs.Table.{with_right, calls, right_term}
use Rattle.heap_formula.specs.declared.atoms.Spatial.{Spatial}
use Rattle.heap_formula.specs.declared.proof_rules.RuleFault.TheVariants.{NoSuchCase}
use Rattle.heap_formula.specs.Definitions.{Definition}
use Rattle.heap_formula.specs.Fresh.{fresh_number, heap_exists}
use Rattle.heap_formula.specs.Meaning.{cases_of}

-- with a map of terms for the case's
abbrev pub unfolded_by : Judgement → ℕ → (Term → Term) → SymbolicHeap → Premise
unfolded_by j k f case =
    record {
      judgement = with_antecedent j (unfolded (antecedent j) k (in_heap f case));
      pairs = kept_pairs k (antecedent j).spatial ++ child_pairs k (length (without k (antecedent j).spatial))
          (in_heap f case).spatial;
    }

-- the premise of this case is within the limits; one spatial atom goes
abbrev pub case_fits : Limits → Judgement → SymbolicHeap → Bool
case_fits most j case =
    nat_le (length (antecedent j).pure + length case.pure) most.pure &&
    (nat_le (length (antecedent j).spatial + length case.spatial) (most.spatial + 1) && list_all (is_short most)
    (disjuncts j))

-- with a map of terms for the case's
abbrev pub right_by : SymbolicHeap → SymbolicHeap → ℕ → (Term → Term) → SymbolicHeap → Premise
right_by a b k f case = with_right a (unfolded b k (in_heap f case) ∷ [])

-- the premise is within the limits; one spatial atom of the disjunct goes
abbrev pub right_fits : Limits → SymbolicHeap → SymbolicHeap → SymbolicHeap → Bool
right_fits most a b case =
    is_short most a && (nat_le (length b.pure + length case.pure) most.pure && nat_le
    (length b.spatial + length case.spatial) (most.spatial + 1))

-- ---- answers, from the atom and the case on that were found

-- of Unfold: a premise for each case of the predicate at these arguments
abbrev pub unfold_cases_answer : Limits → ℕ → Judgement → ℕ → List Term → List SymbolicHeap → Answer
unfold_cases_answer most p j k ts cases =
    limited most (map (unfold_premise j k ts (fresh_number p j)) cases)

-- of UnfoldRight: this case at these arguments, its locals as fresh existentials
abbrev pub right_case_answer :
    Limits → SymbolicHeap → SymbolicHeap → ℕ → List Term → SymbolicHeap → Answer
right_case_answer most a b k ts case =
    limited most (one (right_by a b k (right_term ts (heap_exists b)) case))

-- of UnfoldRight: case c of the predicate at this atom
abbrev pub right_call_answer :
    Limits → List Definition → SymbolicHeap → SymbolicHeap → ℕ → ℕ → Spatial → Answer
right_call_answer most ds a b k c x =
    calls x (λ q ts.
    finds (slice_get (cases_of ds q) c) NoSuchCase (λ case. right_case_answer most a b k ts case))
