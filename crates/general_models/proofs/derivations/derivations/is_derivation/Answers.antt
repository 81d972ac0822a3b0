use Rattle.general_models.proofs.Deriving.{begun}
use Rattle.general_models.proofs.Sound.{derivation_satisfies}
use Rattle.std.specs.Prelude.{◌↔◌, IsTrue}
use Rattle.general_models.specs.Derivations.{IsDerivation}
use Rattle.general_models.proofs.derivations.derivations.is_derivation.Goals as goal

pub returns : goal.returns
returns c =
    let exact : IsTrue c.in_ok-derives.derives
    ↔ IsDerivation c.args.defs.now.list c.args.stack.now c.args.heap.now c.args.ask.now c.args.steps.now = begun
    c.args.defs.now.list c.args.stack.now c.as_slice.result.now c.args.heap.now c.in_ok-left.left c.args.ask.now
    c.args.steps.now c.in_ok-open.field-0 c.in_ok-derives.derives c.new-pending.result.items
    c.open.new.pending.items c.open.new.left c.as_slice.ensures c.in_ok-left.ensures.cases
    c.new-pending.ensures.items c.in_ok-open.ensures.opens c.in_ok-open.ensures.pending c.if-not-branch.false
    c.in_ok-derives.ensures in
    record {
      exact = exact;
      satisfied = λ t.
          derivation_satisfies c.args.defs.now.list c.args.stack.now c.args.heap.now c.args.ask.now c.args.steps.now
          (exact.0 t);
    }
