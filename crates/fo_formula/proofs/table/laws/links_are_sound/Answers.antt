use Rattle.fo_formula.proofs.Links.{link_is_sound}
use Rattle.fo_formula.proofs.table.laws.links_are_sound.Goals as goal

pub returns : goal.returns
returns c = link_is_sound
