-- What was searched, by a derivation that is still about the same.
use Rattle.std.proofs.Common.{◌≡◌, ℕ, ◌+◌, ◌-◌, ◌<◌, List, [], ◌∷◌, map, length, Option, Some, refl, sym, ap, ◌∙◌}
use Rattle.std.proofs.Common.{subst, arith}
use Rattle.std.proofs.lemmas.List.{length-map}
use Rattle.std.proofs.lemmas.Option.{same_Some}
use Rattle.trace_pairs.specs.Graph.{Node}
use Rattle.buchi_inclusion.specs.Answers.{state_limit}
use Rattle.derivations.proofs.Deepening.{outcome_at, answers_at}
use Rattle.derivations.specs.Engine.{IsDepthSearched}
use Rattle.derivations.specs.System.{System, search_of, search_from, IsFound}
use Rattle.derivations.specs.declared.search.Stop.{Stop}
use Rattle.derivations.specs.Stack.{front}
use Rattle.logics.specs.declared.node.ProofNode.{ProofNode}
use Rattle.logics.specs.Logics.{LogicValue}
use Rattle.derivations.specs.Tableau.{Made, Tableau, Calculus, replay}
use Rattle.derivations.specs.Search.{system_of}
use Rattle.derivations.proofs.TableauFound.{all_sized}
use Rattle.derivations.specs.declared.derivation.Derivation.{Derivation}
use Rattle.derivations.specs.Derivations.{IsInOrder, IsItsSearch, about, reasons_in, search_in, tableau_in}
use Rattle.derivations.specs.Found.{IsProof, IsSearchOf}
use Rattle.derivations.specs.LogicNodes.{nodes_with, proof_nodes}
use Rattle.derivations.proofs.LogicFound.{each_is_proof}
use Rattle.derivations.specs.Outcomes.{reasons_of, IsFoundProof}

-- all but the last are fewer
pub front_fewer : {X : Type 0} (xs : List X) → 0 < length xs → length (front xs) < length xs
front_fewer [] some = absurd (omega (arith, some))
front_fewer (x ∷ []) some = omega arith
front_fewer (x ∷ y ∷ ys) some = let fewer = front_fewer (y ∷ ys) (omega arith) in omega (arith, fewer)

pub fewer : {L J R : Type 0} (old new : Derivation L J R) → reasons_in new ≡ front (reasons_in old)
    → (old.made.items ≡ [] → ⊥) → length new.made.items < length old.made.items
fewer {L} {J} {R} old new is some = by_items old.made.items some (ap length is)
  where
    by_items : (ms : List (Made J R)) → (ms ≡ [] → ⊥)
        → length (reasons_in new) ≡ length (front (map (λ (m : Made J R). m.reason) ms))
        → length new.made.items < length ms
    by_items [] h size = absurd (h refl)
    by_items (m ∷ ms) h size =
        let less = front_fewer (map (λ (n : Made J R). n.reason) (m ∷ ms)) (omega arith) in
        omega (
          arith,
          less,
          size,
          length-map (m ∷ ms) (λ (n : Made J R). n.reason),
          length-map new.made.items (λ (n : Made J R). n.reason),
        )

reasons_with : {J R : Type 0} (target : _) (ns : List Node) (ms : List (Made J R)) → length ms ≡ length ns
    → reasons_of (nodes_with target ns ms) ≡ map (λ (m : Made J R). m.reason) ms
reasons_with target [] [] size = refl
reasons_with target [] (m ∷ ms) size = absurd (omega (arith, size))
reasons_with target (n ∷ ns) [] size = absurd (omega (arith, size))
reasons_with {J} {R} target (n ∷ ns) (m ∷ ms) size = ap (λ (rs : List R). m.reason ∷ rs)
    (reasons_with target ns ms (omega (arith, size)))

module _ {L J R : Type 0} (calculus : L → Calculus J R) (Occurs : L → J → Type 0) (Allows : L → R → Type 0)
    (start moves : Derivation L J R) (same : about moves ≡ about start) where
  -- the search is that of the start
  pub follows : IsItsSearch calculus moves (search_in calculus start)
  follows = λ i. let a = sym same i in system_of (calculus a.0) a.1.0 state_limit a.1.1

  -- the search stops at this depth
  pub stopped : (most depth bound : ℕ) (why : Stop) (o : Option Stop) (d : List R) → bound < depth + 1
      → ((s : System R) → IsItsSearch calculus moves s → IsDepthSearched s most bound d o) → o ≡ Some why →
      search_from (search_in calculus start) most bound (depth + 1 - bound)
      ≡ search_of (search_in calculus start) most depth → outcome_at why d
      ≡ search_of (search_in calculus start) most depth
  stopped most depth bound why o d below searched is so_far =
      answers_at (search_in calculus start) most bound (depth + 1 - bound) (depth - bound) why d o
      (omega (arith, below)) (searched (search_in calculus start) follows) is ∙ so_far

  module _ {F : Type 0} (c : LogicValue J R F) (of : IsSearchOf c (calculus start.logic) (Occurs start.logic)
      (Allows start.logic)) (begins : IsInOrder calculus Occurs Allows start)
      (order : IsInOrder calculus Occurs Allows moves)
      (most depth : ℕ) (found : IsFound (reasons_in moves) ≡ search_of (search_in calculus start) most depth) where
    abbrev k : Calculus J R
    k = calculus start.logic

    replayed : replay k start.root (reasons_in moves) ≡ Some (tableau_in moves)
    replayed = (λ i. let a = sym same i in replay (calculus a.0) a.1.1 (reasons_in moves)) ∙ order.replayed

    -- a trace graph's node for each node
    pub sized : length moves.made.items ≡ length moves.traces
    sized =
        let s = all_sized k (Occurs start.logic) (Allows start.logic)
        of.fair start.limit state_limit most depth start.root (reasons_in moves) begins.occurs (sym found) in
        let is : s.0 ≡ tableau_in moves = same_Some s.0 (tableau_in moves) (sym s.1 ∙ replayed) in
        sym (subst (λ (t : Tableau J R). length t.graph ≡ length t.nodes) is s.2)

    pub same_reasons : reasons_of (proof_nodes c.target (tableau_in moves)) ≡ reasons_in moves
    same_reasons = reasons_with c.target moves.traces moves.made.items sized

    -- what is found is a proof
    pub found_proof : (nodes : List (ProofNode J R)) → nodes ≡ proof_nodes c.target (tableau_in moves)
        → IsFoundProof c k start.root nodes
    found_proof nodes are = record {
      tableau = tableau_in moves;
      made = ap (replay k start.root) (ap reasons_of are ∙ same_reasons) ∙ replayed;
      are = are;
      proof = subst (IsProof c start.root) (sym are)
          (each_is_proof c k (Occurs start.logic) (Allows start.logic) of start.limit most depth start.root
          (reasons_in moves) (tableau_in moves) begins.occurs (sym found) replayed);
    }
