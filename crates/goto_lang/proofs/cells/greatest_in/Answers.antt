use Rattle.std.proofs.Common.{◌∙◌, ap}
use Rattle.std.specs.Prelude.{max}
use Rattle.std.specs.Map.Iter.{deref_pair}
use Rattle.std.proofs.lemmas.Map.Iter.{rest_more}
use Rattle.heap_formula.specs.Words.{max_of}
use Rattle.heap_formula.specs.Programs.{cell_numbers}
use Rattle.goto_lang.proofs.Maps.{max_of-append, greatest_step}
use Rattle.goto_lang.proofs.cells.greatest_in.Goals as goal

pub loop-address-preserved : goal.loop-address-preserved
loop-address-preserved c =
    let e = rest_more deref_pair c.loop-address.address-iterator c.next.new.self c.next.result
    (c.in-Some.address, c.in-Some.fields) c.in-Some.is c.next.ensures.steps in
    greatest_step c.loop-address.most c.in-Some.address.now (max_of c.in-Some.fields.now)
    (max_of (cell_numbers c.next.new.self)) _ _ _ _ c.loop-address.invariant
    (ap (λ es. max_of (cell_numbers es)) e ∙ ap (max c.in-Some.address.now)
    (max_of-append c.in-Some.fields.now (cell_numbers c.next.new.self))) c.max.ensures
    (c.max-most.ensures ∙ ap (max c.max.result) (c.greatest_of.ensures ∙ ap max_of c.as_slice.ensures))
