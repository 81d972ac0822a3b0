use Rattle.std.proofs.Common.{◌∙◌, get_or, length, sym, ap, refl}
use Rattle.std.specs.Prelude.{slice_get}
use Rattle.std.proofs.lemmas.Option.{slice_get_read}
use Rattle.script_formulas.specs.Defining.{IsDefinedIn}
use Rattle.script_formulas.proofs.Zipping.{zip_next}
use Rattle.script_formulas.proofs.goals.translation.define_predicates.Goals as goal

pub loop-number-preserved : goal.loop-number-preserved
loop-number-preserved c =
    let ps = c.deref-number-items.result.now in
    let i = c.loop-number.number-index in
    let predicates = c.args.script.now.predicates.items in
    let predicate = c.in-Some.predicate.now in
    let seen = c.deref.result.now in
    let more = c.in_ok-define_predicate.ensures in
    let numbers = c.args.numbers.now in
    let looked = slice_get_read seen (length seen) (get_or ps i 0) predicate refl c.in-Some.ensures.lookup.3.0
    c.in-Some.ensures.lookup.1 in
    let found = ap (λ l. slice_get l (get_or ps i 0)) (sym c.deref.ensures.value) ∙ looked in
    zip_next (IsDefinedIn predicates numbers) ps i 0 c.loop-number.building.defs.list
    c.define_predicate.new.building.defs.list more.0 c.loop-number-test.true more.2 c.loop-number.invariant
    (predicate, found, more.1)
