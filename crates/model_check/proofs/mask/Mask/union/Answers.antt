use Rattle.model_check.proofs.WideWords.{union_normal, union_number}
use Rattle.model_check.proofs.mask.Mask.union.Goals as goal

pub invariant_of-result : goal.invariant_of-result
invariant_of-result c =
    union_normal c.self.inside.words.items c.other.inside.words.items c.deref.result.now c.deref-2.result.now
    c.in_ok-words.words.items c.self.invariant c.other.invariant c.deref.ensures.value c.deref-2.ensures.value
    c.in_ok-words.ensures

pub returns : goal.returns
returns c =
    rw (← c.self.view_is, ← c.other.view_is)
    (union_number c.self.inside.words.items c.other.inside.words.items c.deref.result.now c.deref-2.result.now
    c.in_ok-words.words.items c.self.invariant c.other.invariant c.deref.ensures.value c.deref-2.ensures.value
    c.in_ok-words.ensures)
