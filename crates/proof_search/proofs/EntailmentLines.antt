-- The rules that an entailment within the limits is offered bring in nothing beyond them.
use Rattle.std.proofs.Common.{ℕ, Bool, List, [], ◌∷◌, ◌++◌, map, Option, Some, None}
use Rattle.std.specs.List.{filter}
use Rattle.cyc_basics.specs.declared.limits.Limits.{Limits}
use Rattle.heap_formula.specs.declared.atoms.Pure.{Pure}
use Rattle.heap_formula.specs.declared.atoms.Spatial.{Spatial}
use Rattle.heap_formula.specs.declared.atoms.Spatial.TheVariants.{Cell, Pred}
use Rattle.heap_formula.specs.declared.judgements.Judgement.{Judgement}
use Rattle.heap_formula.specs.declared.proof_rules.Side.{Side}
use Rattle.heap_formula.specs.declared.proof_rules.Rule.TheVariants.{Absurd, Distinct, Unfold, Done, UnfoldRight}
use Rattle.heap_formula.specs.Closedness.{InHeap, IsUniversalHeap}
use Rattle.heap_formula.specs.Definitions.{Definition}
use Rattle.heap_formula.specs.Meaning.{cases_of}
use Rattle.heap_formula.specs.Substitution.{in_heap}
use Rattle.heap_formula.specs.Symbolic.{SymbolicHeap}
use Rattle.heap_formula.specs.Words.{Each}
use Rattle.rule_table.specs.Table.{right_term}
use Rattle.rule_table.specs.Tests.{address_of, is_universal_pure}
use Rattle.search_moves.specs.Kinds.{is_cell, is_predicate}
use Rattle.search_moves.specs.Trying.{Theory, is_applicable}
use Rattle.search_moves.specs.Entailments.{side_of, rewrite_at, rewrites, choice_at, choices, unfold_at, unfolds}
use Rattle.search_moves.specs.Entailments.{pure_right_at, pure_rights, frame_at, frames_from, frames_if, cell_frames}
use Rattle.search_moves.specs.Entailments.{predicate_frames, apart, is_or_mirrors, distinct_at, distincts_with}
use Rattle.search_moves.specs.Entailments.{distincts_for, distincts_if, distincts, equation_instances, field_instances}
use Rattle.search_moves.specs.Entailments.{argument_instances, instance_rule, may_unfold, right_unfold_at}
use Rattle.search_moves.specs.Entailments.{right_unfolds_of, right_unfolds, entailment_before, last_line, single_lines}
use Rattle.search_moves.specs.Entailments.{entailment_after}
use Rattle.rule_book.specs.Limits.{IsHeapWithin, IsRuleWithin}
use Rattle.proof_search.proofs.Members.{beside, each_if, each_filter, each_first_that, each_first_line, each_of_any}
use Rattle.proof_search.proofs.Members.{each_anywhere, each_first_place}
use Rattle.proof_search.proofs.HeapTerms.{HasTerms, spatials_within}
use Rattle.rule_book.proofs.Heaps.{IsLow, small}
use Rattle.heap_formula.proofs.AllMembers.{each_append}
use Rattle.proof_search.proofs.Instances.{instance_rules, equations_within, fields_within, arguments_within}

-- ---- rules without terms and formulas

module _ (most : Limits) (ds : List Definition) where
  pub rewrite_within : (k : ℕ) (o : Option Side) → Each (IsRuleWithin most ds) (rewrite_at k o)
  rewrite_within k None = tt
  rewrite_within k (Some side) = (tt, tt)

  unfolds_within : (xs : List Spatial) → Each (IsRuleWithin most ds) (unfolds xs)
  unfolds_within xs = each_anywhere (IsRuleWithin most ds) unfold_at xs
      (λ k x. each_if (IsRuleWithin most ds) (is_predicate x) (Unfold k ∷ []) (tt, tt))

  frames_within : (ys : List Spatial) (i : ℕ) (wanted : Bool) → Each (IsRuleWithin most ds) (frames_if ys i wanted)
  frames_within ys i wanted = each_if (IsRuleWithin most ds) wanted (frames_from ys i)
      (each_anywhere (IsRuleWithin most ds) (frame_at i) ys (λ k y. (tt, tt)))

  distincts_for_within : (ys : List Spatial) (x : Pure) → Each (IsRuleWithin most ds) (distincts_for ys x)
  distincts_for_within ys x =
      each_anywhere (IsRuleWithin most ds) (distincts_with x ys) ys
      (λ i y. each_anywhere (IsRuleWithin most ds) (distinct_at x i y) ys
      (λ k z. each_if (IsRuleWithin most ds) (is_or_mirrors x (apart i k (address_of y) (address_of z)))
      (Distinct i k ∷ []) (tt, tt)))

  distincts_within : (ys : List Spatial) (xs : List Pure) → Each (IsRuleWithin most ds) (distincts ys xs)
  distincts_within ys xs =
      each_of_any (IsRuleWithin most ds) (λ x. distincts_if ys (is_universal_pure x) x) xs
      (λ x. each_if (IsRuleWithin most ds) (is_universal_pure x) (distincts_for ys x) (distincts_for_within ys x))

  right_unfolds_of_within : (t : Theory) (j : Judgement) (a : SymbolicHeap) (k : ℕ) (y : Spatial)
      → Each (IsRuleWithin most ds) (right_unfolds_of t j a k y)
  right_unfolds_of_within t j a k (Cell u us) = tt
  right_unfolds_of_within t j a k (Pred q ts) =
      each_anywhere (IsRuleWithin most ds) (right_unfold_at t j a k ts) (cases_of t.definitions q)
      (λ c case. each_if (IsRuleWithin most ds) (may_unfold t j a (in_heap (right_term ts 0) case))
      (UnfoldRight k c ∷ []) (tt, tt))

  -- ---- the lines

  pub before_within : (t : Theory) (j : Judgement) (a : SymbolicHeap)
      → Each (IsRuleWithin most ds) (entailment_before t j a)
  before_within t j a =
      each_first_line (IsRuleWithin most ds) (filter (is_applicable t j) (Absurd ∷ []) ∷ rewrites a.pure ∷ [])
      (beside (each_filter (IsRuleWithin most ds) (is_applicable t j) (Absurd ∷ []) (tt, tt))
      (beside (each_first_place (IsRuleWithin most ds) (λ k x. rewrite_at k (side_of x)) a.pure
      (λ k x. rewrite_within k (side_of x))) tt))

  module _ (t : Theory) (j : Judgement) (a : SymbolicHeap) (b : SymbolicHeap) (left : Each HasTerms a.spatial)
      (right : InHeap IsLow b) where
    last_within : Each (IsRuleWithin most ds) (last_line t j a b)
    last_within =
        let instances = map instance_rule (argument_instances a.spatial b.spatial) in
        let unfolded = right_unfolds t j a b.spatial in
        each_filter (IsRuleWithin most ds) (is_applicable t j) ((instances ++ unfolded) ++ unfolds a.spatial)
        (each_append (IsRuleWithin most ds) (instances ++ unfolded) (unfolds a.spatial)
        (each_append (IsRuleWithin most ds) instances unfolded
        (instance_rules most ds (argument_instances a.spatial b.spatial)
        (arguments_within a.spatial b.spatial left right.1))
        (each_anywhere (IsRuleWithin most ds) (right_unfolds_of t j a) b.spatial (right_unfolds_of_within t j a)))
        (unfolds_within a.spatial))

    lines_within : Each (Each (IsRuleWithin most ds)) (single_lines t j a b)
    lines_within =
        let first = each_first_that (IsRuleWithin most ds) (is_applicable t j) in
        beside (each_filter (IsRuleWithin most ds) (is_applicable t j) (Done ∷ []) (tt, tt))
        (beside (first (pure_rights b.pure) (each_anywhere (IsRuleWithin most ds) pure_right_at b.pure
        (λ k x. (tt, tt))))
        (beside (first (distincts a.spatial b.pure) (distincts_within a.spatial b.pure))
        (beside (first (cell_frames a.spatial b.spatial)
        (each_anywhere (IsRuleWithin most ds) (λ i x. frames_if b.spatial i (is_cell x)) a.spatial
        (λ i x. frames_within b.spatial i (is_cell x))))
        (beside (first (map instance_rule (equation_instances b.pure))
        (instance_rules most ds (equation_instances b.pure) (equations_within b.pure right.0)))
        (beside (first (map instance_rule (field_instances a.spatial b.spatial))
        (instance_rules most ds (field_instances a.spatial b.spatial)
        (fields_within a.spatial b.spatial left right.1)))
        (beside (first (predicate_frames a.spatial b.spatial)
        (each_anywhere (IsRuleWithin most ds) (λ i x. frames_if b.spatial i (is_predicate x)) a.spatial
        (λ i x. frames_within b.spatial i (is_predicate x))))
        (beside last_within tt)))))))

  pub after_within : (t : Theory) (j : Judgement) (a : SymbolicHeap) (bs : List SymbolicHeap) → IsHeapWithin most ds a
      → Each (IsHeapWithin most ds) bs → IsUniversalHeap a → Each (IsRuleWithin most ds) (entailment_after t j a bs)
  after_within t j a [] w ws u = tt
  after_within t j a (b ∷ []) w ws u =
      each_first_line (IsRuleWithin most ds) (single_lines t j a b)
      (lines_within t j a b (spatials_within a.spatial u.1 (small most ds a w).low.1) (small most ds b ws.0).low)
  after_within t j a (b ∷ c ∷ bs) w ws u =
      each_filter (IsRuleWithin most ds) (is_applicable t j) (choices (b ∷ c ∷ bs) ++ unfolds a.spatial)
      (each_append (IsRuleWithin most ds) (choices (b ∷ c ∷ bs)) (unfolds a.spatial)
      (each_anywhere (IsRuleWithin most ds) choice_at (b ∷ c ∷ bs) (λ k x. (tt, tt))) (unfolds_within a.spatial))
