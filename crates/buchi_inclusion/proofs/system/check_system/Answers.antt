-- The graph is in order, and where all its lassos progress node 0 holds.
use Rattle.std.proofs.Common.{sym, subst}
use Rattle.trace_pairs.specs.Graph.{IsGraph}
use Rattle.trace_pairs.specs.System.{NoneFaulty, IsLeastFaulty}
use Rattle.buchi_inclusion.proofs.Exploring.{none_of}
use Rattle.trace_pairs.proofs.Orders.{right_graph}
use Rattle.buchi_inclusion.proofs.Systems.{accepted}
use Rattle.buchi_inclusion.proofs.system.check_system.Goals as goal

pub included-requires : goal.included-requires
included-requires g c =
    let none = none_of (NoneFaulty (g.P.ProofSystem.graph_of c.args.proof.now)
    (g.P.ProofSystem.is_faulty c.args.proof.now)) (λ n. IsLeastFaulty (g.P.ProofSystem.graph_of c.args.proof.now)
    (g.P.ProofSystem.is_faulty c.args.proof.now) n) c.in_ok-faulty.faulty c.in_default.is c.in_ok-faulty.ensures in
    record {
      graph = subst IsGraph (sym c.in_ok-graph.ensures)
          (right_graph (g.P.ProofSystem.graph_of c.args.proof.now) (g.P.ProofSystem.is_faulty c.args.proof.now)
          (g.met.P.ProofSystem.right c.args.proof.now) none (g.met.P.ProofSystem.some_node c.args.proof.now));
    }

pub returns-in-Included : goal.returns-in-Included
returns-in-Included g c =
    let none = none_of (NoneFaulty (g.P.ProofSystem.graph_of c.args.proof.now)
    (g.P.ProofSystem.is_faulty c.args.proof.now)) (λ n. IsLeastFaulty (g.P.ProofSystem.graph_of c.args.proof.now)
    (g.P.ProofSystem.is_faulty c.args.proof.now) n) c.in_ok-faulty.faulty c.in_default.is c.in_ok-faulty.ensures in
    accepted (g.P.ProofSystem.graph_of c.args.proof.now) c.in_ok-graph.graph
    (g.P.ProofSystem.is_faulty c.args.proof.now) (g.P.ProofSystem.holds c.args.proof.now)
    c.args.limit c.in_ok-included.field-0 c.in_ok-graph.ensures c.in-Included.is
    (right_graph (g.P.ProofSystem.graph_of c.args.proof.now) (g.P.ProofSystem.is_faulty c.args.proof.now)
    (g.met.P.ProofSystem.right c.args.proof.now) none (g.met.P.ProofSystem.some_node c.args.proof.now))
    c.in_ok-included.ensures (g.met.P.ProofSystem.local c.args.proof.now) none
