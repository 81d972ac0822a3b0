use Rattle.std.proofs.Common.{◌≡◌, ℕ, ◌<◌, sym, ◌∙◌, ap, arith, length, Some}
use Rattle.heap_formula.specs.declared.proof_rules.RuleFault.TheVariants.{LinkDisjunct}
use Rattle.back_links.proofs.DisjunctLoops.{disjunct_step, disjunct_stop, disjuncts_left}
use Rattle.back_links.proofs.covering.disjunct_fault.Goals as goal

pub loop-k-preserved : goal.loop-k-preserved
loop-k-preserved c =
    let t = sym c.covers_entry.ensures ∙ c.if-not-covers_entry.false in (
      disjunct_step c.args.disjuncts.now c.args.subst.now c.args.entries.now c.args.cs.now c.loop-k.k c.index-cs-k.result
          c.if-k-entries.false c.loop-k-test.true (sym c.index-cs-k.is) t ∙ c.loop-k.invariant.0,
      omega arith,
    )

pub returns-then-not-covers_entry : goal.returns-then-not-covers_entry
returns-then-not-covers_entry c =
    let t = sym c.covers_entry.ensures ∙ c.if-not-covers_entry.true in
    sym (disjunct_stop c.args.disjuncts.now c.args.subst.now c.args.entries.now c.args.cs.now c.loop-k.k
    c.index-cs-k.result c.if-k-entries.false c.loop-k-test.true (sym c.index-cs-k.is) t) ∙ c.loop-k.invariant.0

pub returns-then-entries-cs : goal.returns-then-entries-cs
returns-then-entries-cs c =
    let same : c.loop-k.k ≡ length c.args.cs.now = omega arith in
    let more : c.loop-k.k < length c.args.entries.now = omega arith in
    ap (λ (n : ℕ). Some (LinkDisjunct n)) (sym same)
    ∙ sym (disjuncts_left c.args.disjuncts.now c.args.subst.now c.args.entries.now c.args.cs.now c.loop-k.k
    c.loop-k-test.false more) ∙ c.loop-k.invariant.0
