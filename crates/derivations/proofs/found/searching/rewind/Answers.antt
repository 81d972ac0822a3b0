use Rattle.std.proofs.Common.{sym, ◌∙◌}
use Rattle.derivations.proofs.Visiting.{some_items}
use Rattle.derivations.proofs.Searched.{fewer}
use Rattle.derivations.proofs.found.searching.rewind.Goals as goal

pub loop-moves-smaller : goal.loop-moves-smaller
loop-moves-smaller g c =
    fewer c.loop-moves.moves c.take_back.new.self c.in_ok-take_back.ensures.made
    (some_items c.loop-moves.moves.made.items _ (sym c.loop-moves.moves.made.ok.0)
    (sym c.is_empty.ensures ∙ c.loop-moves-test.true))
