use Rattle.rule_table.proofs.LinkRule.{link_is_sound}
use Rattle.rule_table.proofs.laws.links_are_sound.Goals as goal

pub returns : goal.returns
returns c = link_is_sound
