-- One turn of the loops over a rule's premises.
use Rattle.std.proofs.Common.{◌≡◌, ℕ, suc, ◌+◌, ◌<◌, List, [], ◌∷◌, ◌++◌, length, length-append, append_assoc, get_or}
use Rattle.std.proofs.Common.{drop, Option, None, Some, refl, sym, ap, ◌∙◌, add-one, drop-cons, arith}
use Rattle.std.specs.Prelude.{slice_get, nat_lt}
use Rattle.trace_pairs.specs.Graph.{Edge}
use Rattle.logics.specs.declared.premises.Subgoal.{Subgoal}
use Rattle.logics.specs.declared.node.ProofNode.{ProofNode}
use Rattle.logics.specs.Logics.{LogicValue}
use Rattle.logics.specs.Faults.{first_of, fault_unless, differs, premises_fault}
use Rattle.logics.specs.Graphs.{edges_to}
use Rattle.cyc_basics.proofs.Places.{drop_get}

skip : {F : Type 0} (a b rest : Option F) → first_of a b ≡ None → first_of a (first_of b rest) ≡ rest
skip None None rest e = refl
skip a b rest e = cc

pub premise_step : {J R F : Type 0} (c : LogicValue J R F) (nodes : List (ProofNode J R)) (v : ℕ)
    (ps : List (Subgoal J)) (us : List ℕ) (i : ℕ) (p : Subgoal J) → i < length ps → i < length us → get_or ps i p ≡ p →
    first_of (fault_unless (nat_lt v (get_or us i 0)) c.faults.no_such_node)
    (differs c i p (slice_get nodes (get_or us i 0))) ≡ None →
    premises_fault c nodes v (i + 1) (drop (i + 1) ps) (drop (i + 1) us)
    ≡ premises_fault c nodes v i (drop i ps) (drop i us)
premise_step {J} c nodes v ps us i p in_ps in_us is none =
    let u = get_or us i 0 in
    let a = drop-cons ps i p in_ps in
    let b = drop-cons us i 0 in_us in
    let h : premises_fault c nodes v i (drop i ps) (drop i us)
    ≡ premises_fault c nodes v (suc i) (drop (suc i) ps) (drop (suc i) us) =
    (λ k. premises_fault c nodes v i (a k) (b k))
    ∙ ap (λ (q : Subgoal J). premises_fault c nodes v i (q ∷ drop (suc i) ps) (u ∷ drop (suc i) us)) is
    ∙ skip (fault_unless (nat_lt v u) c.faults.no_such_node) (differs c i p (slice_get nodes u))
    (premises_fault c nodes v (suc i) (drop (suc i) ps) (drop (suc i) us)) none in
    rw add-one (sym h)

-- one more edge
pub edge_step : {J : Type 0} (edges pushed all' : List Edge) (rest next : List (Subgoal J)) (us : List ℕ)
    (p : Subgoal J) (u : ℕ) → rest ≡ p ∷ next → pushed ≡ edges ++ (record { target = u; pairs = p.pairs } ∷ [])
    → slice_get us (length edges) ≡ Some u →
    (length edges + length rest ≡ length us) × (edges ++ edges_to rest (drop (length edges) us) ≡ all')
    → (length pushed + length next ≡ length us) × (pushed ++ edges_to next (drop (length pushed) us) ≡ all')
edge_step {J} edges pushed all' rest next us p u is push at so_far =
    let size : length pushed ≡ suc (length edges) = ap length push ∙ length-append edges _ ∙ omega arith in (
      omega (arith, size, ap length is, so_far.0),
      (λ i. push i ++ edges_to next (drop (size i) us))
          ∙ append_assoc edges (record { target = u; pairs = p.pairs } ∷ [])
          (edges_to next (drop (suc (length edges)) us))
          ∙ ap (λ (xs : List ℕ). edges ++ edges_to (p ∷ next) xs) (sym (drop_get us (length edges) u at))
          ∙ ap (λ (ps : List (Subgoal J)). edges ++ edges_to ps (drop (length edges) us)) (sym is)
          ∙ so_far.1,
    )
