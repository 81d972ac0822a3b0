use Rattle.model_check.proofs.WideWords.{same_words}
use Rattle.model_check.proofs.mask.MaskPartialEq.eq.Goals as goal

pub returns-clause-exact : goal.returns-clause-exact
returns-clause-exact c = rw (← c.self.view_is, ← c.other.view_is)
    (same_words c.self.inside.words.items c.other.inside.words.items c.eq.result c.self.invariant c.other.invariant
    c.eq.ensures)
