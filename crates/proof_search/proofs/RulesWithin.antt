-- What a goal within the limits is offered brings in nothing beyond them.
use Rattle.std.proofs.Common.{ℕ, ◌<◌, List, [], ◌∷◌, ◌++◌, length, Option, Some, None}
use Rattle.std.specs.Prelude.{◌&&◌}
use Rattle.std.specs.List.{filter, list_any}
use Rattle.cyc_basics.specs.Limits.{AreLimits}
use Rattle.cyc_basics.specs.declared.limits.Limits.{Limits}
use Rattle.heap_formula.specs.declared.terms.Term.{Term}
use Rattle.heap_formula.specs.declared.judgements.Judgement.{Judgement}
use Rattle.heap_formula.specs.declared.judgements.Judgement.TheVariants.{Entail, Term as Runs}
use Rattle.heap_formula.specs.declared.proof_rules.Rule.TheVariants.{Absurd, Unfold, Exec}
use Rattle.heap_formula.specs.Definitions.{Definition}
use Rattle.heap_formula.specs.Programs.{counted_from_one, program_variables}
use Rattle.heap_formula.specs.Symbolic.{SymbolicHeap}
use Rattle.heap_formula.specs.Words.{Each}
use Rattle.goto_lang.specs.Lines.{IsProgram}
use Rattle.rule_table.specs.ExecTable.{exec_answer}
use Rattle.search_moves.specs.Folds.{folds}
use Rattle.search_moves.specs.Nodes.{OpenGoal, MadeNode}
use Rattle.search_moves.specs.Trying.{Theory, is_applicable}
use Rattle.search_moves.specs.States.{state_side, state_rewrite, state_rewrites, is_stop, stops, wanted_cell, reaches}
use Rattle.search_moves.specs.States.{unfold_for, misses_cell, unfolds_for, unfolds_if, climbs, works_on, folds_if}
use Rattle.search_moves.specs.States.{stops_that_go, state_before, state_after}
use Rattle.search_moves.specs.Offering.{rules_before, rules_after, rules_offered}
use Rattle.cyc_basics.specs.Words.{or_else}
use Rattle.rule_book.specs.Limits.{IsDefinitionWithin, IsHeapWithin, IsJudgementWithin, IsRuleWithin}
use Rattle.proof_search.proofs.Members.{beside, each_if, each_filter, each_or_else, each_first_line, each_anywhere}
use Rattle.proof_search.proofs.Members.{each_first_place}
use Rattle.rule_book.proofs.Heaps.{small}
use Rattle.heap_formula.proofs.AllMembers.{each_append}
use Rattle.proof_search.proofs.EntailmentLines.{rewrite_within, before_within, after_within}
use Rattle.proof_search.proofs.Folding.{folds_within}

-- ---- states of a program

module _ (most : Limits) (ds : List Definition) where
  unfolds_for_within : (a : SymbolicHeap) (o : Option Term) → Each (IsRuleWithin most ds) (unfolds_for a o)
  unfolds_for_within a None = tt
  unfolds_for_within a (Some t) = each_anywhere (IsRuleWithin most ds) (unfold_for a.pure t) a.spatial
      (λ k x. each_if (IsRuleWithin most ds) (reaches a.pure t x) (Unfold k ∷ []) (tt, tt))

  state_before_within : (t : Theory) (j : Judgement) (i : ℕ) (a : SymbolicHeap)
      → Each (IsRuleWithin most ds) (state_before t j i a)
  state_before_within t j i a =
      let command = counted_from_one t.lines i in
      let p = program_variables t.lines in
      each_first_line (IsRuleWithin most ds) (filter (is_applicable t j) (Absurd ∷ []) ∷ stops_that_go t j i
      ∷ state_rewrites p a ∷ [])
      (beside (each_filter (IsRuleWithin most ds) (is_applicable t j) (Absurd ∷ []) (tt, tt))
      (beside (each_filter (IsRuleWithin most ds) (is_applicable t j) (stops command)
      (each_if (IsRuleWithin most ds) (is_stop command) (Exec ∷ []) (tt, tt)))
      (beside (each_first_place (IsRuleWithin most ds) (state_rewrite p a) a.pure
      (λ k x. rewrite_within most ds k (state_side p a k x))) tt)))

state_after_within : (t : Theory) (nodes : List MadeNode) (v : ℕ) (j : Judgement) (i : ℕ) (a : SymbolicHeap)
    → 0 < t.most.spatial → AreLimits t.most → Each (IsDefinitionWithin t.most t.definitions) t.definitions
    → IsHeapWithin t.most t.definitions a
    → Each (IsRuleWithin t.most t.definitions) (state_after t nodes v j i a)
state_after_within t nodes v j i a some bounded ds w =
    let P = IsRuleWithin t.most t.definitions in
    let missing = misses_cell (exec_answer t.most t.lines j) in
    let wanted = wanted_cell (counted_from_one t.lines i) in
    let last = unfolds_if missing a (counted_from_one t.lines i) in
    each_filter P (is_applicable t j) (folds_if t nodes v i a ++ (Exec ∷ last))
    (each_append P (folds_if t nodes v i a) (Exec ∷ last)
    (each_if P (climbs nodes (length nodes) v && list_any (works_on i) nodes) (folds a t.definitions)
    (folds_within t.most some bounded t.definitions a (small t.most t.definitions a w).low.1 ds))
    (tt, each_if P missing (unfolds_for a wanted) (unfolds_for_within t.most t.definitions a wanted)))

-- ---- either judgement

within_at : (t : Theory) (nodes : List MadeNode) (v : ℕ) (j : Judgement) → 0 < t.most.spatial
    → AreLimits t.most → Each (IsDefinitionWithin t.most t.definitions) t.definitions → IsProgram t.lines
    → IsJudgementWithin t.most t.definitions (length t.lines) j
    → Each (IsRuleWithin t.most t.definitions) (or_else (rules_before t j) (rules_after t nodes v j))
within_at t nodes v (Entail a bs) some bounded ds lines w =
    each_or_else (IsRuleWithin t.most t.definitions) (rules_before t (Entail a bs))
    (rules_after t nodes v (Entail a bs)) (before_within t.most t.definitions t (Entail a bs) a)
    (after_within t.most t.definitions t (Entail a bs) a bs w.heaps.0 w.heaps.1 w.universal)
within_at t nodes v (Runs i a) some bounded ds lines w =
    each_or_else (IsRuleWithin t.most t.definitions) (rules_before t (Runs i a)) (rules_after t nodes v (Runs i a))
    (state_before_within t.most t.definitions t (Runs i a) i a)
    (state_after_within t nodes v (Runs i a) i a some bounded ds w.heaps.0)

pub rules_within : (t : Theory) (nodes : List MadeNode) (g : OpenGoal) → 0 < t.most.spatial
    → AreLimits t.most → Each (IsDefinitionWithin t.most t.definitions) t.definitions → IsProgram t.lines
    → IsJudgementWithin t.most t.definitions (length t.lines) g.premise.judgement
    → Each (IsRuleWithin t.most t.definitions) (rules_offered t nodes g)
rules_within t nodes g = within_at t nodes g.parent g.premise.judgement
