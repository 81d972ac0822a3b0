-- The rules that a goal is offered have premises.
use Rattle.std.proofs.Common.{◌≡◌, ℕ, Bool, true, false, List, [], ◌∷◌, ◌++◌, map, Option, Some, None, Ok, refl, sym}
use Rattle.std.proofs.Common.{ap, subst}
use Rattle.std.specs.Prelude.{slice_get, ◌&&◌, if◌then◌else◌}
use Rattle.std.specs.List.{filter}
use Rattle.heap_formula.specs.declared.terms.Term.{Term}
use Rattle.heap_formula.specs.declared.terms.Term.TheVariants.{Nil, Univ, Exist}
use Rattle.heap_formula.specs.declared.atoms.Pure.{Pure}
use Rattle.heap_formula.specs.declared.atoms.Pure.TheVariants.{Eq, Neq}
use Rattle.heap_formula.specs.declared.judgements.Judgement.{Judgement}
use Rattle.heap_formula.specs.declared.judgements.Judgement.TheVariants.{Entail, Term as Runs}
use Rattle.heap_formula.specs.declared.judgements.Premise.{Premise}
use Rattle.heap_formula.specs.declared.proof_rules.Rule.TheVariants.{Absurd, Rewrite, Done, Exec}
use Rattle.heap_formula.specs.declared.proof_rules.RuleFault.TheVariants.{NoSuchAtom}
use Rattle.heap_formula.specs.declared.proof_rules.Side.{Side}
use Rattle.heap_formula.specs.declared.proof_rules.Side.TheVariants.{Left, Right}
use Rattle.heap_formula.specs.Closedness.{InPure, IsUniversal, IsUniversalHeap}
use Rattle.heap_formula.specs.Judgements.{antecedent}
use Rattle.heap_formula.specs.Programs.{counted_from_one, program_variables}
use Rattle.heap_formula.specs.Symbolic.{SymbolicHeap}
use Rattle.heap_formula.specs.Words.{Each}
use Rattle.rule_table.specs.Answer.{finds}
use Rattle.rule_table.specs.ExecTable.{exec_answer}
use Rattle.rule_table.specs.RuleBook.{variables_of}
use Rattle.rule_table.specs.Table.{named, unnamed, rewrite_side, rewrite_atom}
use Rattle.rule_table.specs.Tests.{same_term}
use Rattle.cyc_basics.specs.Words.{or_else}
use Rattle.search_moves.specs.Nodes.{OpenGoal, MadeNode}
use Rattle.search_moves.specs.Trying.{Theory, has_premises, is_applicable}
use Rattle.search_moves.specs.Entailments.{side_of, rewrite_at, rewrites, choices, unfolds, pure_rights, cell_frames}
use Rattle.search_moves.specs.Entailments.{predicate_frames, distincts, equation_instances, field_instances}
use Rattle.search_moves.specs.Entailments.{argument_instances, instance_rule, right_unfolds, entailment_before}
use Rattle.search_moves.specs.Entailments.{single_lines, entailment_after}
use Rattle.search_moves.specs.States.{is_logical, occurs_elsewhere, state_rewrite, state_rewrites, stops, stops_that_go}
use Rattle.search_moves.specs.States.{folds_if, misses_cell, unfolds_if, state_before}
use Rattle.search_moves.specs.Offering.{rules_before, rules_after, rules_offered}
use Rattle.proof_search.specs.Faultless.{HasPremises}
use Rattle.std.proofs.lemmas.Bool.{and_parts}
use Rattle.heap_formula.proofs.AllMembers.{each_at}
use Rattle.proof_search.proofs.Members.{beside, each_or_else, each_first_line, each_first_placed, each_passes}
use Rattle.proof_search.proofs.Members.{each_first_passes}

abbrev IsVariable : Term → Type 0
IsVariable (Univ n) = Unit {0}
IsVariable t = ⊥

-- ---- an equation whose named side is a variable, or whose sides are one, can be rewritten by

by_variable : (p : ℕ) (j : Judgement) (k : ℕ) (x : Pure) (b : Bool) (same : List Premise) (v u : Term) → IsVariable v
    → has_premises (if b then Ok same else rewrite_side p j k x v u) ≡ true
by_variable p j k x true same v u h = refl
by_variable p j k x false same (Univ n) u h = refl
by_variable p j k x false same v u h = absurd h

by_same : (p : ℕ) (j : Judgement) (k : ℕ) (x : Pure) (b : Bool) (same : List Premise) (v u : Term) → b ≡ true
    → has_premises (if b then Ok same else rewrite_side p j k x v u) ≡ true
by_same p j k x b same v u e = ap (λ c. has_premises (if c then Ok same else rewrite_side p j k x v u)) e

logical_variable : (p : ℕ) (u : Term) → is_logical p u ≡ true → IsVariable u
logical_variable p (Univ n) e = tt
logical_variable p u e = absurd cc

occurring_variable : (a : SymbolicHeap) (k : ℕ) (u : Term) → occurs_elsewhere a k u ≡ true → IsVariable u
occurring_variable a k (Univ n) e = tt
occurring_variable a k u e = absurd cc

module _ (t : Theory) (j : Judgement) (k : ℕ) where
  abbrev Stands : Pure → Type 0
  Stands x = slice_get (antecedent j).pure k ≡ Some x

  goes_by : (x : Pure) (side : Side) → Stands x → has_premises (rewrite_atom (variables_of t.lines j) j k side x) ≡ true
      → HasPremises t j (Rewrite k side)
  goes_by x side e h =
      subst (λ (o : Option Pure). has_premises (finds o NoSuchAtom (rewrite_atom (variables_of t.lines j) j k side))
      ≡ true) (sym e) h

  variable_goes : (side : Side) (u v : Term) → Stands (Eq u v) → IsVariable (named side u v)
      → HasPremises t j (Rewrite k side)
  variable_goes side u v e h =
      goes_by (Eq u v) side e (by_variable (variables_of t.lines j) j k (Eq u v) (same_term u v) _ (named side u v)
      (unnamed side u v) h)

  same_goes : (side : Side) (u v : Term) → Stands (Eq u v) → same_term u v ≡ true → HasPremises t j (Rewrite k side)
  same_goes side u v e h =
      goes_by (Eq u v) side e (by_same (variables_of t.lines j) j k (Eq u v) (same_term u v) _ (named side u v)
      (unnamed side u v) h)

  -- at an entailment
  side_goes : (x : Pure) → Stands x → InPure IsUniversal x → Each (HasPremises t j) (rewrite_at k (side_of x))
  side_goes (Eq Nil Nil) e h = (same_goes Left Nil Nil e refl, tt)
  side_goes (Eq Nil (Univ m)) e h = (variable_goes Right Nil (Univ m) e tt, tt)
  side_goes (Eq Nil (Exist m)) e h = absurd h.1
  side_goes (Eq (Univ n) u) e h = (variable_goes Left (Univ n) u e tt, tt)
  side_goes (Eq (Exist n) u) e h = absurd h.0
  side_goes (Neq u v) e h = tt

  choose : (b : Bool) (side : Side) (rest : Option Side) → (b ≡ true → HasPremises t j (Rewrite k side))
      → Each (HasPremises t j) (rewrite_at k rest) → Each (HasPremises t j)
      (rewrite_at k (if b then Some side else rest))
  choose true side rest h a = (h refl, tt)
  choose false side rest h a = a

  -- at a state of a program
  state_goes : (p : ℕ) (a : SymbolicHeap) (x : Pure) → Stands x → Each (HasPremises t j) (state_rewrite p a k x)
  state_goes p a (Neq u v) e = tt
  state_goes p a (Eq u v) e =
      choose (same_term u v) Left _ (λ s. same_goes Left u v e s)
      (choose (is_logical p u) Left _ (λ l. variable_goes Left u v e (logical_variable p u l))
      (choose (is_logical p v) Right _ (λ l. variable_goes Right u v e (logical_variable p v l))
      (choose (occurs_elsewhere a k u) Left _ (λ o. variable_goes Left u v e (occurring_variable a k u o))
      (choose (same_term u Nil && occurs_elsewhere a k v) Right None
      (λ o. variable_goes Right u v e (occurring_variable a k v
      (and_parts (same_term u Nil) (occurs_elsewhere a k v) o).1)) tt))))

-- ---- the lines

entailment_before_goes : (t : Theory) (a : SymbolicHeap) (bs : List SymbolicHeap) → IsUniversalHeap a
    → Each (HasPremises t (Entail a bs)) (entailment_before t (Entail a bs) a)
entailment_before_goes t a bs u =
    let j = Entail a bs in
    each_first_line (HasPremises t j) (filter (is_applicable t j) (Absurd ∷ []) ∷ rewrites a.pure ∷ [])
    (beside (each_passes (is_applicable t j) (Absurd ∷ []))
    (beside (each_first_placed (HasPremises t j) (λ k x. rewrite_at k (side_of x)) a.pure
    (λ k x e. side_goes t j k x e (each_at (InPure IsUniversal) a.pure k x e u.0))) tt))

single_lines_go : (t : Theory) (j : Judgement) (a b : SymbolicHeap)
    → Each (Each (HasPremises t j)) (single_lines t j a b)
single_lines_go t j a b =
    let first = each_first_passes (is_applicable t j) in
    beside (each_passes (is_applicable t j) (Done ∷ []))
    (beside (first (pure_rights b.pure))
    (beside (first (distincts a.spatial b.pure))
    (beside (first (cell_frames a.spatial b.spatial))
    (beside (first (map instance_rule (equation_instances b.pure)))
    (beside (first (map instance_rule (field_instances a.spatial b.spatial)))
    (beside (first (predicate_frames a.spatial b.spatial))
    (beside (each_passes (is_applicable t j) ((map instance_rule (argument_instances a.spatial b.spatial)
    ++ right_unfolds t j a b.spatial) ++ unfolds a.spatial)) tt)))))))

entailment_after_goes : (t : Theory) (j : Judgement) (a : SymbolicHeap) (bs : List SymbolicHeap)
    → Each (HasPremises t j) (entailment_after t j a bs)
entailment_after_goes t j a [] = tt
entailment_after_goes t j a (b ∷ []) = each_first_line (HasPremises t j) (single_lines t j a b)
    (single_lines_go t j a b)
entailment_after_goes t j a (b ∷ c ∷ bs) = each_passes (is_applicable t j) (choices (b ∷ c ∷ bs) ++ unfolds a.spatial)

state_before_goes : (t : Theory) (i : ℕ) (a : SymbolicHeap)
    → Each (HasPremises t (Runs i a)) (state_before t (Runs i a) i a)
state_before_goes t i a =
    let j = Runs i a in
    let p = program_variables t.lines in
    each_first_line (HasPremises t j) (filter (is_applicable t j) (Absurd ∷ []) ∷ stops_that_go t j i
    ∷ state_rewrites p a ∷ [])
    (beside (each_passes (is_applicable t j) (Absurd ∷ []))
    (beside (each_passes (is_applicable t j) (stops (counted_from_one t.lines i)))
    (beside (each_first_placed (HasPremises t j) (state_rewrite p a) a.pure (λ k x e. state_goes t j k p a x e)) tt)))

go_at : (t : Theory) (nodes : List MadeNode) (v : ℕ) (j : Judgement) → IsUniversalHeap (antecedent j)
    → Each (HasPremises t j) (or_else (rules_before t j) (rules_after t nodes v j))
go_at t nodes v (Entail a bs) u =
    each_or_else (HasPremises t (Entail a bs)) (rules_before t (Entail a bs)) (rules_after t nodes v (Entail a bs))
    (entailment_before_goes t a bs u) (entailment_after_goes t (Entail a bs) a bs)
go_at t nodes v (Runs i a) u =
    each_or_else (HasPremises t (Runs i a)) (rules_before t (Runs i a)) (rules_after t nodes v (Runs i a))
    (state_before_goes t i a)
    (each_passes (is_applicable t (Runs i a)) (folds_if t nodes v i a
    ++ (Exec ∷ unfolds_if (misses_cell (exec_answer t.most t.lines (Runs i a))) a (counted_from_one t.lines i))))

pub rules_go : (t : Theory) (nodes : List MadeNode) (g : OpenGoal) → IsUniversalHeap (antecedent g.premise.judgement)
    → Each (HasPremises t g.premise.judgement) (rules_offered t nodes g)
rules_go t nodes g = go_at t nodes g.parent g.premise.judgement
