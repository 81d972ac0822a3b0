use Rattle.refute_unfoldings.proofs.Consistent.{AreSoFar}
use Rattle.refute_unfoldings.proofs.unfolding.replace_class.Given as goal

abbrev pub invariant-loop-place : goal.invariant-loop-place
invariant-loop-place l = AreSoFar l.gone l.kept l.fn.classes.items l.classes.items l.place
