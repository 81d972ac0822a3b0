use Rattle.std.proofs.Common.{◌++◌, ap, ◌∙◌}
use Rattle.search_moves.proofs.FoldPlaces.{placed}
use Rattle.search_moves.specs.Entailments.{distincts_with}
use Rattle.search_moves.proofs.distincts.push_distincts_for.Goals as goal

pub loop-i-preserved : goal.loop-i-preserved
loop-i-preserved c =
    placed (distincts_with c.args.wanted c.args.atoms.now)
    c.args.atoms.now c.loop-i.i c.index-atoms-i.result c.loop-i.rules.items c.push_distincts.new.rules.items _
    c.loop-i-test.true (c.in_ok-push_distincts.ensures ∙ ap
    (λ x. c.loop-i.rules.items ++ distincts_with c.args.wanted c.args.atoms.now c.loop-i.i x) c.index-atoms-i.is)
    c.loop-i.invariant
