use Rattle.ring_family.proofs.Short.{ring_text_short}
use Rattle.ring_family.proofs.laws.ring_texts_are_short.Goals as goal

pub returns : goal.returns
returns c = ring_text_short
