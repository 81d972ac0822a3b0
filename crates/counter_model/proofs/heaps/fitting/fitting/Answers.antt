use Rattle.std.proofs.Common.{subst, sym, List}
use Rattle.heap_formula.specs.declared.atoms.Pure.{Pure}
use Rattle.heap_formula.specs.Words.{Each}
use Rattle.heap_formula.specs.Meaning.{PureHolds}
use Rattle.counter_model.proofs.Complete.{all_among, not_both}
use Rattle.counter_model.proofs.heaps.fitting.fitting.Goals as goal

pub returns-then-not-grown : goal.returns-then-not-grown
returns-then-not-grown c =
    all_among c.args.defs.now.list c.args.greatest c.loop-turn.table c.unions.new.table c.refresh_all.new.table
    c.in_ok-heaps.asked c.in_ok-grown.grown c.args.stack.now c.args.ask.now c.spatial.result.now c.in_ok-heaps.heaps
    c.requires.definitions c.requires.stack c.requires.universal c.if-not-asked.true c.if-not-grown.true
    c.spatial.ensures.value c.in_ok-heaps.ensures c.in_ok-grown.ensures

pub returns-then-not-may_all_hold : goal.returns-then-not-may_all_hold
returns-then-not-may_all_hold c = λ h w x.
    absurd (not_both c.may_all_hold.result (c.may_all_hold.ensures x.1.0
    (subst (λ (ps : List Pure). Each (PureHolds c.args.stack.now x.1.0) ps) (sym c.pure.ensures.value) x.1.1.0))
    c.if-not-may_all_hold.true)
