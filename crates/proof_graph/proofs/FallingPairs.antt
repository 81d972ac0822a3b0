-- Stages that follow a rule's pairs fall along them as the automata have them.
use Rattle.std.proofs.Common.{◌≡◌, ℕ, zero, suc, ◌<◌, ◌≤◌, Bool, true, false, List, [], ◌∷◌, map, subst, arith}
use Rattle.heap_formula.specs.declared.judgements.Pair.{Pair}
use Rattle.heap_formula.specs.Meaning.{Stages}
use Rattle.heap_formula.specs.Judgements.{IsBelow, Follows}
use Rattle.trace_pairs.specs.Graph.{Pair as GraphPair, Falls}
use Rattle.proof_graph.specs.Traces.{trace_pair}

kept_of : (b : Bool) (m n : ℕ) → IsBelow b m n → m ≤ n
kept_of true m n h = omega arith
kept_of false m n h = h

less_of : (b : Bool) (m n : ℕ) → IsBelow b m n → b ≡ true → m < n
less_of true m n h e = h
less_of false m n h e = absurd cc

pub falls_of : (pairs : List Pair) (σ τ : Stages) → Follows pairs σ τ → Falls (map trace_pair pairs) σ τ
falls_of [] σ τ f i p e = absurd cc
falls_of (q ∷ qs) σ τ f zero p e =
    let same : trace_pair q ≡ p = cc in
    subst (λ (r : GraphPair). (τ r.1 ≤ σ r.0) × (r.2 ≡ true → τ r.1 < σ r.0)) same
    (kept_of q.progress (τ q.new) (σ q.old) f.0, less_of q.progress (τ q.new) (σ q.old) f.0)
falls_of (q ∷ qs) σ τ f (suc i) p e = falls_of qs σ τ f.1 i p e
