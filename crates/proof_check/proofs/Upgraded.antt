-- A file and the same file of a wider version are correct together, and have one trace graph then.
use Rattle.std.proofs.Common.{◌≡◌, ℕ, suc, ◌≤◌, true, List, [], ◌∷◌, map, length, Option, Some, None, refl, sym, ap}
use Rattle.std.proofs.Common.{subst, ◌∙◌, arith, ◌&&◌}
use Rattle.std.specs.Prelude.{Ok, Err, nat_eq, nat_lt, nat_le, slice_get}
use Rattle.heap_syntax.specs.declared.version.Version.{Version}
use Rattle.heap_syntax.specs.declared.version.Version.TheVariants.{One, Two, Three}
use Rattle.heap_syntax.specs.Versions.{limits}
use Rattle.cyc_basics.specs.Limits.{AreWithin}
use Rattle.cyc_basics.specs.declared.limits.Limits.{Limits}
use Rattle.heap_formula.specs.declared.commands.Command.{Command}
use Rattle.heap_formula.specs.declared.judgements.Judgement.{Judgement}
use Rattle.heap_formula.specs.declared.judgements.Judgement.TheVariants.{Entail, Term as Runs}
use Rattle.heap_formula.specs.declared.judgements.Premise.{Premise}
use Rattle.heap_formula.specs.declared.proof_rules.Reason.{Reason}
use Rattle.heap_formula.specs.declared.proof_rules.Reason.TheVariants.{Step, Back}
use Rattle.heap_formula.specs.declared.proof_rules.RuleFault.{RuleFault}
use Rattle.heap_formula.specs.declared.proof_rules.RuleFault.TheVariants.{NoSuchNode, PremiseCount, PremiseDiffers}
use Rattle.heap_formula.specs.Definitions.{Definition}
use Rattle.heap_formula.specs.Symbolic.{SymbolicHeap}
use Rattle.rule_table.specs.Answer.{Answer, heaps_of, each_heap}
use Rattle.rule_table.specs.Judgements.{same_heap, same_judgement}
use Rattle.rule_table.specs.RuleBook.{rule_answer}
use Rattle.rule_table.specs.Tests.{same_pure, same_spatial}
use Rattle.trace_pairs.specs.Lasso.{AllProgress}
use Rattle.proof_graph.specs.Traces.{positions_of}
use Rattle.logics.specs.declared.premises.Subgoal.{Subgoal}
use Rattle.logics.specs.Faults.{first_of, fault_unless, differs, premises_fault, rule_fault}
use Rattle.logics.specs.Graphs.{rule_edges}
use Rattle.logics.proofs.RightNodes.{none_of_two, no_fault}
use Rattle.rule_book.specs.Graphs.{edges_of}
use Rattle.rule_book.specs.SeparationLogic.{traced, traced_answer, separation_logic}
use Rattle.proof_file.specs.declared.file.ProofFile.{ProofFile}
use Rattle.proof_file.specs.Upgrades.{IsUpgrade, upgraded}
use Rattle.proof_check.specs.Widened.{IsWidened}
use Rattle.proof_file.proofs.FewAtoms.{node_is_few}
use Rattle.proof_check.specs.Files.{Node, node_fault, graph_node, graph_of, AreRight}
use Rattle.proof_check.specs.Verdicts.{file_graph, IsCorrect}
use Rattle.heap_reader.specs.Small.{is_short_heap}
use Rattle.proof_check.proofs.WiderRules.{rule_wide}
use Rattle.std.proofs.lemmas.Bool.{and_from, and_parts}
use Rattle.std.specs.List.{list_all}
use Rattle.std.specs.Cmp.Lexicographic.{pointwise, as_long}

-- ---- judgements that are one have as many atoms

heap_few : (most : Limits) (a b : SymbolicHeap) → same_heap a b ≡ true → is_short_heap most b ≡ true
    → is_short_heap most a ≡ true
heap_few most a b e few =
    let both = and_parts (pointwise same_pure a.pure b.pure) (pointwise same_spatial a.spatial b.spatial) e in
    let pure = as_long same_pure a.pure b.pure both.0 in
    let spatial = as_long same_spatial a.spatial b.spatial both.1 in
    (λ i. nat_le (pure i) most.pure && nat_le (spatial i) most.spatial) ∙ few

heaps_few : (most : Limits) (xs ys : List SymbolicHeap) → pointwise same_heap xs ys ≡ true
    → list_all (is_short_heap most) ys ≡ true → list_all (is_short_heap most) xs ≡ true
heaps_few most [] [] e few = refl
heaps_few most (a ∷ xs) (b ∷ ys) e few =
    let h = and_parts (same_heap a b) (pointwise same_heap xs ys) e in
    let f = and_parts (is_short_heap most b) (list_all (is_short_heap most) ys) few in
    and_from (is_short_heap most a) (list_all (is_short_heap most) xs) (heap_few most a b h.0 f.0)
    (heaps_few most xs ys h.1 f.1)
heaps_few most xs ys e few = absurd cc

judgement_few : (most : Limits) (i j : Judgement) → same_judgement i j ≡ true
    → list_all (is_short_heap most) (heaps_of j) ≡ true → list_all (is_short_heap most) (heaps_of i) ≡ true
judgement_few most (Entail a bs) (Entail b cs) e few = heaps_few most (a ∷ bs) (b ∷ cs) e few
judgement_few most (Runs i a) (Runs k b) e few =
    heaps_few most (a ∷ []) (b ∷ []) (and_from (same_heap a b) true (and_parts (nat_eq i k) (same_heap a b) e).1 refl)
    few
judgement_few most i j e few = absurd cc

-- ---- faults

-- an answer without a fault is a list of premises
record HasPremises (answer : Answer) : Type 0 where
  ps : List Premise
  is : answer ≡ Ok ps

module _ (most : Limits) (nodes : List Node) (few : (u : ℕ) (node : Node) → slice_get nodes u ≡ Some node
    → list_all (is_short_heap most) (heaps_of node.judgement) ≡ true) where
  -- the faults of premises speak of no limit, so that they are those of the logic under any
  abbrev Fault : ℕ → ℕ → List (Subgoal Judgement) → List ℕ → Option RuleFault
  Fault v i ps us = premises_fault (separation_logic most [] []) nodes v i ps us

  premise_few : (i u : ℕ) (p : Premise) (o : Option Node) → slice_get nodes u ≡ o
      → differs (separation_logic most [] []) i (traced p) o ≡ None
      → list_all (is_short_heap most) (heaps_of p.judgement) ≡ true
  premise_few i u p None at e = absurd cc
  premise_few i u p (Some node) at e =
      judgement_few most p.judgement node.judgement
      (no_fault (same_judgement p.judgement node.judgement) (PremiseDiffers i) e) (few u node at)

  -- the premises of a right node have few atoms, as its nodes have
  premises_few : (v i : ℕ) (ps : List Premise) (us : List ℕ) → Fault v i (map traced ps) us ≡ None
      → each_heap (is_short_heap most) ps ≡ true
  premises_few v i [] us e = refl
  premises_few v i (p ∷ ps) [] e = absurd cc
  premises_few v i (p ∷ ps) (u ∷ us) e =
      let a = none_of_two (fault_unless (nat_lt v u) NoSuchNode)
      (first_of (differs (separation_logic most [] []) i (traced p) (slice_get nodes u))
      (Fault v (suc i) (map traced ps) us)) e in
      let b = none_of_two (differs (separation_logic most [] []) i (traced p) (slice_get nodes u))
      (Fault v (suc i) (map traced ps) us) a.1 in
      and_from (list_all (is_short_heap most) (heaps_of p.judgement)) (each_heap (is_short_heap most) ps)
      (premise_few i u p (slice_get nodes u) refl b.0) (premises_few v (suc i) ps us b.1)

  module _ (more : Limits) (le : AreWithin most more) (ds : List Definition) (lines : List Command) where
    -- the fault of a rule with this answer
    abbrev rule_fault_of : ℕ → List ℕ → Answer → Option RuleFault
    rule_fault_of v us answer = rule_fault (separation_logic most ds lines) nodes v us (traced_answer answer)

    premises_of : (v : ℕ) (us : List ℕ) (answer : Answer) → rule_fault_of v us answer ≡ None → HasPremises answer
    premises_of v us (Ok ps) e = record { ps = ps; is = refl }
    premises_of v us (Err f) e = absurd cc

    few_of : (v : ℕ) (us : List ℕ) (ps : List Premise) → rule_fault_of v us (Ok ps) ≡ None
        → each_heap (is_short_heap most) ps ≡ true
    few_of v us ps e =
        premises_few v 0 ps us (none_of_two (fault_unless (nat_eq (length (map traced ps)) (length us)) PremiseCount)
        (Fault v 0 (map traced ps) us) e).1

    reason_rises : (v : ℕ) (node : Node) (r : Reason)
        → node_fault most ds lines nodes v (record node { reason = r }) ≡ None
        → node_fault more ds lines nodes v (record node { reason = r }) ≡ None
    reason_rises v node (Step rule) e =
        let h = premises_of v node.premises (rule_answer most ds lines node.judgement rule) e in
        let other = (rule_wide most more le ds lines node.judgement rule).rises h.ps h.is in
        ap (rule_fault_of v node.premises) (other ∙ sym h.is) ∙ e
    reason_rises v node (Back link) e = e

    reason_falls : (v : ℕ) (node : Node) (r : Reason)
        → node_fault more ds lines nodes v (record node { reason = r }) ≡ None
        → node_fault most ds lines nodes v (record node { reason = r }) ≡ None
    reason_falls v node (Step rule) e =
        let h = premises_of v node.premises (rule_answer more ds lines node.judgement rule) e in
        let other = (rule_wide most more le ds lines node.judgement rule).falls h.ps h.is
        (few_of v node.premises h.ps (ap (rule_fault_of v node.premises) (sym h.is) ∙ e)) in
        ap (rule_fault_of v node.premises) (other ∙ sym h.is) ∙ e
    reason_falls v node (Back link) e = e

    edges_same : (v : ℕ) (node : Node) (r : Reason)
        → node_fault most ds lines nodes v (record node { reason = r }) ≡ None
        → edges_of more ds lines nodes (record node { reason = r })
        ≡ edges_of most ds lines nodes (record node { reason = r })
    edges_same v node (Step rule) e =
        let h = premises_of v node.premises (rule_answer most ds lines node.judgement rule) e in
        ap (λ answer. rule_edges node.premises (traced_answer answer))
        ((rule_wide most more le ds lines node.judgement rule).rises h.ps h.is ∙ sym h.is)
    edges_same v node (Back link) e = refl

    right_rises : AreRight most ds lines nodes → AreRight more ds lines nodes
    right_rises right v node at = reason_rises v node node.reason (right v node at)

    right_falls : AreRight more ds lines nodes → AreRight most ds lines nodes
    right_falls right v node at = reason_falls v node node.reason (right v node at)

    -- right nodes have one graph
    graph_same : AreRight most ds lines nodes → graph_of more ds lines nodes ≡ graph_of most ds lines nodes
    graph_same right =
        same_map (graph_node more ds lines nodes) (graph_node most ds lines nodes) nodes (λ v node at. (
        let edges = edges_same v node node.reason (right v node at) in
        λ i. record { positions = positions_of node.judgement; edges = edges i }))
      where
        same_map : {X Y : Type 0} (f g : X → Y) (xs : List X) → ((v : ℕ) (x : X) → slice_get xs v ≡ Some x → f x ≡ g x)
            → map f xs ≡ map g xs
        same_map f g [] one = refl
        same_map f g (x ∷ xs) one = λ i. one 0 x refl i ∷ same_map f g xs (λ v y at. one (suc v) y at) i

-- ---- files

few_nodes : (f : ProofFile) (u : ℕ) (node : Node) → slice_get f.nodes u ≡ Some node
    → list_all (is_short_heap f.defs.most) (heaps_of node.judgement) ≡ true
few_nodes f u node at =
    subst (λ (most : Limits). list_all (is_short_heap most) (heaps_of node.judgement) ≡ true) (sym f.limit)
    (node_is_few f u node at)

module _ (f g : ProofFile) (up : IsWidened f g) where
  -- the nodes, definitions and lines of the one, under the limits of the other
  right_up : AreRight g.defs.most f.defs.list f.program f.nodes → AreRight g.defs.most g.defs.list g.program g.nodes
  right_up r = subst (λ (x : _). x)
      (λ i. AreRight g.defs.most (sym up.definitions i) (sym up.program i) (sym up.nodes i)) r

  right_down : AreRight g.defs.most g.defs.list g.program g.nodes → AreRight g.defs.most f.defs.list f.program f.nodes
  right_down r = subst (λ (x : _). x) (λ i. AreRight g.defs.most (up.definitions i) (up.program i) (up.nodes i)) r

  graph_up : graph_of g.defs.most f.defs.list f.program f.nodes ≡ file_graph g
  graph_up = λ i. graph_of g.defs.most (sym up.definitions i) (sym up.program i) (sym up.nodes i)

  right_graph : AreRight f.defs.most f.defs.list f.program f.nodes → file_graph g ≡ file_graph f
  right_graph right =
      sym graph_up ∙ graph_same f.defs.most f.nodes (few_nodes f) g.defs.most up.within f.defs.list f.program right

  pub same_graph : IsCorrect f → file_graph g ≡ file_graph f
  same_graph correct = right_graph correct.nodes

  pub correct_again : IsCorrect f → IsCorrect g
  correct_again correct = record {
    nodes = right_up
        (right_rises f.defs.most f.nodes (few_nodes f) g.defs.most up.within f.defs.list f.program correct.nodes);
    paths = subst AllProgress (sym (same_graph correct)) correct.paths;
  }

  pub correct_before : IsCorrect g → IsCorrect f
  correct_before correct =
      let right = right_falls f.defs.most f.nodes (few_nodes f) g.defs.most up.within f.defs.list f.program
      (right_down correct.nodes) in
      record { nodes = right; paths = subst AllProgress (right_graph right) correct.paths }

-- ---- upgrades

-- a later version allows as much
later_allows : (v : Version) → AreWithin (limits v) (limits (upgraded v))
later_allows One = record {
  arguments = omega arith;
  cases = omega arith;
  locals = omega arith;
  pure = omega arith;
  spatial = omega arith;
  cells = omega arith;
}
later_allows Two = record {
  arguments = omega arith;
  cases = omega arith;
  locals = omega arith;
  pure = omega arith;
  spatial = omega arith;
  cells = omega arith;
}
later_allows Three = record {
  arguments = omega arith;
  cases = omega arith;
  locals = omega arith;
  pure = omega arith;
  spatial = omega arith;
  cells = omega arith;
}

pub upgrade_widens : (f g : ProofFile) → IsUpgrade f g → IsWidened f g
upgrade_widens f g up =
    record {
      within = subst (λ (x : _). x) (λ i. AreWithin (sym f.limit i) ((ap limits (sym up.version) ∙ sym g.limit) i))
          (later_allows f.version);
      definitions = up.definitions;
      program = up.program;
      nodes = up.nodes;
    }
