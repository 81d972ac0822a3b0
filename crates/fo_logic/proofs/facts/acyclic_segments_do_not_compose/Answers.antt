use Rattle.fo_logic.proofs.Segments.{not_composing}
use Rattle.fo_logic.proofs.facts.acyclic_segments_do_not_compose.Goals as goal

pub returns : goal.returns
returns c = not_composing
