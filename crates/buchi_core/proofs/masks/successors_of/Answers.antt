-- The positions that pairs lead to.
use Rattle.std.proofs.Common.{◌∙◌, ap, ◌&&◌}
use Rattle.buchi_core.specs.Forest.{leads}
use Rattle.buchi_core.specs.View.{members}
use Rattle.cyc_basics.specs.Bits.{is_one}
use Rattle.buchi_core.proofs.Bits.{members_filter}
use Rattle.cyc_basics.proofs.Bits.{one_and}
use Rattle.buchi_core.proofs.masks.successors_of.Goals as goal

pub returns : goal.returns
returns c pairs moves =
    members_filter _ c.args.positions (leads pairs (members c.args.set))
    (λ q l. one_and c.args.positions c.targets_of.result q
    ∙ ap (λ b. is_one c.args.positions q && b) (c.targets_of.ensures pairs moves q l))
