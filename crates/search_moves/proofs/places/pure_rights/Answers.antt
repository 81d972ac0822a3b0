use Rattle.heap_formula.specs.declared.terms.Term.TheVariants.{Nil}
use Rattle.heap_formula.specs.declared.atoms.Pure.TheVariants.{Eq}
use Rattle.search_moves.proofs.FoldPlaces.{placed}
use Rattle.search_moves.specs.Entailments.{pure_right_at}
use Rattle.search_moves.proofs.places.pure_rights.Goals as goal

pub loop-k-preserved : goal.loop-k-preserved
loop-k-preserved c =
    placed pure_right_at c.args.pures.now c.loop-k.k (Eq Nil Nil)
    c.loop-k.rules.items c.push.new.self.items _ c.loop-k-test.true c.in_ok-push.ensures.items c.loop-k.invariant
