use Rattle.std.proofs.Common.{sym, ◌∙◌}
use Rattle.search_moves.proofs.Unlinked.{none_to}
use Rattle.search_moves.proofs.companions.links_to.Goals as goal

pub returns-then-not-is_as_long : goal.returns-then-not-is_as_long
returns-then-not-is_as_long c =
    c.new.ensures.items ∙ sym (none_to 1000000 c.args.program.now c.args.judgement.now c.args.number c.args.node.now
    (sym c.is_as_long.ensures ∙ c.if-not-is_as_long.true))
