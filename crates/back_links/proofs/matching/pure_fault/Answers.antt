use Rattle.std.proofs.Common.{sym, ◌∙◌, ap}
use Rattle.heap_formula.specs.declared.terms.Term.TheVariants.{Nil}
use Rattle.heap_formula.specs.declared.atoms.Pure.{Pure}
use Rattle.heap_formula.specs.declared.atoms.Pure.TheVariants.{Eq}
use Rattle.rule_table.specs.Tests.{follows}
use Rattle.back_links.proofs.LinkLoops.{pure_step}
use Rattle.back_links.proofs.matching.pure_fault.Goals as goal

pub loop-k-preserved : goal.loop-k-preserved
loop-k-preserved c =
    let t = ap (λ (y : Pure). follows c.args.pures.now y) (sym c.apply_to_pure.ensures) ∙ sym c.follows.ensures
    ∙ c.if-not-follows.false in
    pure_step c.args.pures.now c.args.subst.now c.args.atoms.now c.loop-k.k (Eq Nil Nil) c.loop-k-test.true t
    ∙ c.loop-k.invariant
