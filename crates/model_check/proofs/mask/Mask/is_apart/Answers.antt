use Rattle.model_check.proofs.WideWords.{apart_result}
use Rattle.model_check.proofs.mask.Mask.is_apart.Goals as goal

pub returns : goal.returns
returns c = rw (← c.self.view_is, ← c.other.view_is)
    (apart_result c.self.inside.words.items c.other.inside.words.items c.deref.result.now c.deref-2.result.now
    c.are_apart.result c.self.invariant c.other.invariant c.deref.ensures.value c.deref-2.ensures.value
    c.are_apart.ensures)
