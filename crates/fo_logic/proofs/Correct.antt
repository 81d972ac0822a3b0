-- A correct proof holds; and a verdict on its nodes is one on the proof.
use Rattle.std.proofs.Common.{◌≡◌, ℕ, Some}
use Rattle.std.specs.Prelude.{slice_get}
use Rattle.fo_formula.specs.declared.nodes.FoFile.{FoFile}
use Rattle.fo_formula.specs.Nodes.{FoNode}
use Rattle.fo_formula.proofs.ValidityLaws.{holds-at_all}
use Rattle.heap_formula.proofs.AllMembers.{each_at}
use Rattle.logics.specs.declared.verdict.Verdict.TheVariants.{Accepted, RuleRefused, PathRefused, TooManyStates}
use Rattle.logics.specs.Laws.{MayStand}
use Rattle.logics.specs.Verdicts.{IsVerdict as IsVerdictOn}
use Rattle.logics.proofs.Checks.{root_holds}
use Rattle.fo_logic.specs.FirstOrder.{first_order, MayOccur, IsGiven, Holds}
use Rattle.fo_logic.specs.Files.{IsReadNode, IsFoProof}
use Rattle.fo_logic.specs.LogicLaws.{in_order, locally_sound}
use Rattle.fo_logic.specs.Places.{places_set}
use Rattle.fo_logic.specs.Verdicts.{FoVerdict, logic_of, IsCorrect, IsVerdict, RootHolds}

module _ (f : FoFile) (proof : IsFoProof f) where
  read_at : (v : ℕ) (node : FoNode) → slice_get f.nodes v ≡ Some node → IsReadNode f.theory.constructors node
  read_at v node at = each_at (IsReadNode f.theory.constructors) f.nodes v node at proof.nodes

  pub may_stand : MayStand (MayOccur f.theory) (IsGiven f.theory) f.nodes
  may_stand = record {
    occurs = λ v node at. (
        let r = read_at v node at in
        record { constant = proof.constant; definitions = proof.definitions; small = r.small; terms = r.sequent });
    allowed = λ v node at. (read_at v node at).reason;
  }

  pub correct_hold : IsCorrect f → RootHolds f
  correct_hold correct root at =
      (holds-at_all f.theory root.judgement).1 (λ σ.
      root_holds (first_order f.theory) f.nodes (MayOccur f.theory) (IsGiven f.theory) (in_order f.theory)
      may_stand proof.some correct.nodes
      (λ v node is. places_set node.judgement.left (read_at v node is).small.left) (Holds f.theory)
      (locally_sound f.theory) correct.paths root at σ)

pub verdict_on_file : (f : FoFile) (v : FoVerdict) → IsVerdictOn (logic_of f) (Holds f.theory) f.nodes v → IsVerdict f v
verdict_on_file f Accepted told = (
  told.0,
  told.1,
  λ root at.
      (holds-at_all f.theory root.judgement).1 (λ σ. told.2 root at σ),
)
verdict_on_file f (RuleRefused v fault) told = told
verdict_on_file f (PathRefused l) told = told
verdict_on_file f TooManyStates told = told
