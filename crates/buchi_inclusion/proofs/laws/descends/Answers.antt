-- The descent over the relation of a proof system.
use Rattle.trace_pairs.proofs.Orders.{right_graph}
use Rattle.buchi_inclusion.proofs.Exact.{descends_by_lassos}
use Rattle.buchi_inclusion.proofs.Systems.{local_all}
use Rattle.buchi_inclusion.proofs.laws.descends.Goals as goal

pub returns : goal.returns
returns g c =
    let proof = c.args._proof.now in
    let graph = g.P.ProofSystem.graph_of proof in
    let faulty = g.P.ProofSystem.is_faulty proof in
    descends_by_lassos graph (right_graph graph faulty (g.met.P.ProofSystem.right proof) c.requires.right
    (g.met.P.ProofSystem.some_node proof)) c.requires.lassos
    (g.P.ProofSystem.holds proof) (local_all graph faulty (g.P.ProofSystem.holds proof)
    (g.met.P.ProofSystem.local proof) c.requires.right)
