-- Each node of the ring is right.
use Rattle.std.proofs.Common.{◌≡◌, ℕ, zero, suc, ◌+◌, ◌*◌, ◌<◌, ◌≤◌, inl, inr, List, [], ◌∷◌, map, arith, Bool, true}
use Rattle.std.proofs.Common.{false, Option, Some, None, length, refl, ap, ◌∙◌, subst}
use Rattle.std.specs.Prelude.{Ok, slice_get, if◌then◌else◌}
use Rattle.std.proofs.lemmas.Bool.{cases_eq, eq-eqb, ne_eqb, lt-ltb}
use Rattle.heap_formula.specs.declared.terms.Term.TheVariants.{Nil, Univ, Exist}
use Rattle.heap_formula.specs.declared.judgements.Judgement.{Judgement}
use Rattle.heap_formula.specs.declared.judgements.Premise.{Premise}
use Rattle.heap_formula.specs.declared.proof_rules.Rule.{Rule}
use Rattle.heap_formula.specs.declared.proof_rules.Rule.TheVariants.{Rewrite, Unfold, Done, PureRight, Instantiate}
use Rattle.heap_formula.specs.declared.proof_rules.Rule.TheVariants.{Frame, UnfoldRight}
use Rattle.heap_formula.specs.declared.proof_rules.Side.TheVariants.{Left}
use Rattle.heap_formula.specs.declared.proof_rules.Reason.{Reason}
use Rattle.heap_formula.specs.declared.proof_rules.RuleFault.{RuleFault}
use Rattle.heap_formula.specs.declared.proof_rules.RuleFault.TheVariants.{PremiseCount, PremiseDiffers, NoSuchNode}
use Rattle.heap_formula.specs.Definitions.{Definition}
use Rattle.heap_formula.specs.Symbolic.{SymbolicHeap}
use Rattle.heap_formula.specs.Meaning.{cases_of}
use Rattle.heap_syntax.specs.Versions.{limits}
use Rattle.heap_syntax.specs.declared.version.Version.TheVariants.{One}
use Rattle.cyc_basics.specs.declared.limits.Limits.{Limits}
use Rattle.rule_table.specs.Answer.{Answer}
use Rattle.rule_table.specs.Judgements.{same_judgement}
use Rattle.rule_table.specs.RuleBook.{rule_answer}
use Rattle.logics.specs.Logics.{LogicValue}
use Rattle.logics.specs.Faults.{first_of, fault_unless, differs, premises_fault, rule_fault}
use Rattle.rule_book.specs.Graphs.{Node, node_fault}
use Rattle.rule_book.specs.SeparationLogic.{traced, traced_answer, separation_logic}
use Rattle.ring_family.specs.Ring.{emp, is_nil, holds, cell_then, after, definitions_from, ring_definitions, by_rule}
use Rattle.ring_family.specs.Ring.{ring_block, ring_bud, ring_nodes}
use Rattle.proof_check.specs.Files.{AreRight}
use Rattle.ring_family.proofs.Answers.{entails, premise, pair, unfolds, rewrites, unfolds_nil, drops_pure, done'}
use Rattle.ring_family.proofs.Answers.{unfolds_cell, instantiates, frames}
use Rattle.ring_family.proofs.Blocks.{EachFrom, each_from, blocks_cases, in_block, at_last}
use Rattle.rule_table.proofs.SameJudgements.{same_judgement_self}

-- ---- nodes by rules

module _ (most : Limits) (ds : List Definition) (nodes : List Node) where
  -- a node of this number has this judgement
  pub record Stands (u : ℕ) (j : Judgement) : Type 0 where
    pub node : Node
    pub is_node : slice_get nodes u ≡ Some node
    pub has_judgement : j ≡ node.judgement

  abbrev logic : LogicValue Judgement Reason RuleFault
  logic = separation_logic most ds []

  -- the fault of premises from place i on
  abbrev fault_from : ℕ → ℕ → List Premise → List ℕ → Option RuleFault
  fault_from v i ps us = premises_fault logic nodes v i (map traced ps) us

  premise_right : (v i u : ℕ) (p : Premise) (ps : List Premise) (us : List ℕ) → v < u → Stands u p.judgement
      → fault_from v (suc i) ps us ≡ None → fault_from v i (p ∷ ps) (u ∷ us) ≡ None
  premise_right v i u p ps us lower s rest =
      let same : same_judgement p.judgement s.node.judgement
      ≡ true = subst (λ (x : Judgement). same_judgement p.judgement x ≡ true) s.has_judgement
      (same_judgement_self p.judgement) in
      ap (λ b. first_of (fault_unless b NoSuchNode) (first_of (differs logic i (traced p) (slice_get nodes u))
      (fault_from v (suc i) ps us))) (lt-ltb v u lower) ∙
      (ap (λ (o : Option Node). first_of (differs logic i (traced p) o) (fault_from v (suc i) ps us)) s.is_node ∙
      (ap (λ b. first_of (fault_unless b (PremiseDiffers i)) (fault_from v (suc i) ps us)) same ∙ rest))

  rule_right : (v : ℕ) (a b : SymbolicHeap) (rule : Rule) (us : List ℕ) (ps : List Premise)
      → rule_answer most ds [] (entails a b) rule ≡ Ok ps → length (map traced ps) ≡ length us
      → fault_from v 0 ps us ≡ None →
      node_fault most ds [] nodes v (by_rule a b rule us) ≡ None
  rule_right v a b rule us ps answer long right =
      ap (λ (t : Answer). rule_fault logic nodes v us (traced_answer t)) answer ∙
      (ap (λ t. first_of (fault_unless t PremiseCount) (fault_from v 0 ps us))
      (eq-eqb (length (map traced ps)) (length us) long) ∙ right)

  one_right : (v u : ℕ) (a b : SymbolicHeap) (rule : Rule) (p : Premise) → v < u
      → rule_answer most ds [] (entails a b) rule ≡ Ok (p ∷ []) → Stands u p.judgement
      → node_fault most ds [] nodes v (by_rule a b rule (u ∷ [])) ≡ None
  one_right v u a b rule p lower answer s =
      rule_right v a b rule (u ∷ []) (p ∷ []) answer refl (premise_right v 0 u p [] [] lower s refl)

  two_right : (v u w : ℕ) (a b : SymbolicHeap) (rule : Rule) (p q : Premise) → v < u → v < w
      → rule_answer most ds [] (entails a b) rule ≡ Ok (p ∷ q ∷ []) → Stands u p.judgement → Stands w q.judgement →
      node_fault most ds [] nodes v (by_rule a b rule (u ∷ w ∷ [])) ≡ None
  two_right v u w a b rule p q lower less answer s t =
      rule_right v a b rule (u ∷ w ∷ []) (p ∷ q ∷ []) answer refl
      (premise_right v 0 u p (q ∷ []) (w ∷ []) lower s (premise_right v 1 w q [] [] less t refl))

-- ---- definitions

pub cases_at : (k i n m p : ℕ) → m < i + n → m ≡ i + p
    → cases_of (definitions_from k i n) p ≡ is_nil (Univ 0) ∷ cell_then (Univ 0) (Exist 0) (after k m) ∷ []
cases_at k i zero m p b e = absurd (omega arith)
cases_at k i (suc n) m zero b e = let same : i ≡ m = omega arith in
    ap (λ w. is_nil (Univ 0) ∷ cell_then (Univ 0) (Exist 0) (after k w) ∷ []) same
cases_at k i (suc n) m (suc p) b e = cases_at k (suc i) n m p (omega arith) (omega arith)

pub cases_last : (k i n p : ℕ) → p ≡ n → cases_of (definitions_from k i n) p ≡ is_nil (Univ 0)
    ∷ cell_then (Univ 0) (Exist 0) k ∷ []
cases_last k i zero zero e = refl
cases_last k i zero (suc p) e = absurd (omega arith)
cases_last k i (suc n) zero e = absurd (omega arith)
cases_last k i (suc n) (suc p) e = cases_last k (suc i) n p (omega arith)

-- ---- the ring

module _ (k : ℕ) (one : 1 ≤ k) (few : k ≤ 2000) where
  abbrev nodes : List Node
  nodes = ring_nodes k

  abbrev ds : List Definition
  ds = ring_definitions k

  eight : (i : ℕ) → length (ring_block k i) ≡ 8
  eight i = refl

  pub node_at : (m r v : ℕ) (x : Node) → m < k → v ≡ 8 * m + r → slice_get (ring_block k m) r ≡ Some x
      → slice_get nodes v ≡ Some x
  node_at m r v x b e h = in_block (ring_block k) (ring_bud k) eight 0 k v m r x (omega arith) (omega arith)
      (omega arith) h

  inner : (m r v : ℕ) (x : Node) → m < k → v ≡ 8 * m + r → slice_get (ring_block k m) r ≡ Some x
      → Stands (limits One) ds nodes v x.judgement
  inner m r v x b e h = record { node = x; is_node = node_at m r v x b e h; has_judgement = refl }

  pub next_head : (m v : ℕ) → m < k → v ≡ 8 * m + 8
      → Stands (limits One) ds nodes v (entails (holds (after k m) (Univ (m + 1))) (holds k (Univ (m + 1))))
  next_head m v b e =
      elim (cases_eq (m + 1) k) [
        | inl same ↦
            record {
              node = ring_bud k;
              is_node = at_last (ring_block k) (ring_bud k) eight 0 k v (omega arith);
              has_judgement = ap (λ (t : Bool). entails (holds (if t then 0 else m + 1) (Univ (m + 1)))
                  (holds k (Univ (m + 1)))) (eq-eqb (m + 1) k same)
                  ∙ ap (λ n. entails (holds 0 (Univ n)) (holds k (Univ n))) same;
            }
        | inr other ↦
            record {
              node = _;
              is_node = node_at (m + 1) 0 v _ (omega arith) (omega arith) refl;
              has_judgement = ap (λ (t : Bool). entails (holds (if t then 0 else m + 1) (Univ (m + 1)))
                  (holds k (Univ (m + 1)))) (ne_eqb (m + 1) k other);
            }
      ]

  abbrev cell : ℕ → SymbolicHeap
  cell m = cell_then (Univ m) (Univ (m + 1)) (after k m)

  -- the nodes of a block
  block_right : (m : ℕ) → m < k
      → EachFrom (λ r x. node_fault (limits One) ds [] nodes (8 * m + r) x ≡ None) 0 (ring_block k m)
  block_right m b =
      let q = cases_last k 0 k k refl in
      let small : m ≤ 2000 = omega arith in
      let by_one = one_right (limits One) ds nodes in
      let at_place = (λ (r : ℕ) (x : Node) (h : slice_get (ring_block k m) r ≡ Some x). inner m r (8 * m + r)
      x b refl h) in
      let open' = cell_then (Univ m) (Exist 0) k in
      let shut = cell_then (Univ m) (Univ (m + 1)) k in (
        two_right (limits One) ds nodes (8 * m + 0) (8 * m + 1) (8 * m + 5) (holds m (Univ m)) (holds k (Univ m))
            (Unfold 0)
            (premise (is_nil (Univ m)) (holds k (Univ m)) []) (premise (cell m) (holds k (Univ m)) (pair 0 1 true ∷ []))
            (omega arith) (omega arith)
            (unfolds k m ds small (cases_at k 0 k m m (omega arith) (omega arith))) (at_place 1 _ refl)
            (at_place 5 _ refl),
        (
          by_one (8 * m + 1) (8 * m + 2) (is_nil (Univ m)) (holds k (Univ m)) (Rewrite 0 Left)
              (premise emp (holds k Nil) []) (omega arith) (rewrites k m ds small) (at_place 2 _ refl),
          (
            by_one (8 * m + 2) (8 * m + 3) emp (holds k Nil) (UnfoldRight 0 0) (premise emp (is_nil Nil) [])
                (omega arith) (unfolds_nil k m ds small q) (at_place 3 _ refl),
            (
              by_one (8 * m + 3) (8 * m + 4) emp (is_nil Nil) (PureRight 0) (premise emp emp []) (omega arith)
                  (drops_pure k m ds small) (at_place 4 _ refl),
              (
                rule_right (limits One) ds nodes (8 * m + 4) emp emp Done [] [] (done' k m ds small) refl refl,
                (
                  by_one (8 * m + 5) (8 * m + 6) (cell m) (holds k (Univ m)) (UnfoldRight 0 1)
                      (premise (cell m) open' (pair 1 1 false ∷ [])) (omega arith) (unfolds_cell k m ds small q)
                      (at_place 6 _ refl),
                  (
                    by_one (8 * m + 6) (8 * m + 7) (cell m) open' (Instantiate 0 (Univ (m + 1)))
                        (premise (cell m) shut (pair 1 1 false ∷ [])) (omega arith) (instantiates k m ds small)
                        (at_place 7 _ refl),
                    (
                      by_one (8 * m + 7) (8 * m + 8) (cell m) shut (Frame 0 0)
                          (premise (holds (after k m) (Univ (m + 1))) (holds k (Univ (m + 1))) (pair 1 0 false ∷ []))
                          (omega arith) (frames k m ds small) (next_head m (8 * m + 8) b refl),
                      tt,
                    ),
                  ),
                ),
              ),
            ),
          ),
        ),
      )

  bud_right : (v : ℕ) → node_fault (limits One) ds [] nodes v (ring_bud k) ≡ None
  bud_right v = rw (node_at 0 0 0 _ (omega arith) refl refl) (rw (eq-eqb k k refl))

  pub all_right : AreRight (limits One) ds [] nodes
  all_right v node h =
      elim (blocks_cases (ring_block k) (ring_bud k) eight 0 k v node h) [
        | inl b ↦
            (let place : 8 * b.m + b.r ≡ v = omega (arith, b.place) in
            subst (λ w. node_fault (limits One) ds [] nodes w node ≡ None) place
            (each_from (λ r x. node_fault (limits One) ds [] nodes (8 * b.m + r) x ≡ None) 0 b.r b.r
            (ring_block k b.m) node
            (omega arith) b.is_x (block_right b.m (omega (arith, b.last)))))
        | inr l ↦ subst (λ (x : Node). node_fault (limits One) ds [] nodes v x ≡ None) l.1 (bud_right v)
      ]
