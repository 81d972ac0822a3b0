use Rattle.std.proofs.Common.{◌≡◌, ◌<◌, ◌≤◌, length, vec_len, sym, ◌∙◌, arith}
use Rattle.model_check.proofs.TableSteps.{rule_at, rule_derived, rule_closed_at, settled_after, heads_fit_at}
use Rattle.model_check.proofs.solving.refresh_rule.Goals as goal

pub returns-clause-sound : goal.returns-clause-sound
returns-clause-sound c =
    rule_derived c.args.rules.now c.args.i c.index-rules-i.result c.args.table.now.items c.apply_rule.new.table.items
    (rule_at c.args.rules.now c.args.i c.index-rules-i.result c.requires.within c.index-rules-i.is)
    c.requires.sound c.in_ok-apply_rule.ensures.members

pub returns-clause-closed : goal.returns-clause-closed
returns-clause-closed c = λ same r e.
    rule_closed_at c.args.rules.now c.args.i c.index-rules-i.result r c.args.table.now.items
    c.apply_rule.new.table.items
    (rule_at c.args.rules.now c.args.i c.index-rules-i.result c.requires.within c.index-rules-i.is) e
    (c.in_ok-apply_rule.ensures.same same) c.in_ok-apply_rule.ensures.members

pub returns-clause-settled : goal.returns-clause-settled
returns-clause-settled c =
    let before : c.len-before.result ≡ vec_len c.args.log.now = c.len-before.ensures in
    let after : c.len.result ≡ vec_len c.apply_rule.new.log = c.len.ensures in
    let longer : vec_len c.args.log.now ≤ vec_len c.apply_rule.new.log = c.in_ok-apply_rule.ensures.longer in
    let s = rule_at c.args.rules.now c.args.i c.index-rules-i.result c.requires.within c.index-rules-i.is in
    let within : c.args.i < length c.args.rules.now = c.requires.within in
    let al : vec_len c.args.applied.now ≡ length c.args.rules.now = c.requires.applied_length in
    let gl : vec_len c.args.grown.now ≡ vec_len c.args.table.now = c.requires.grown_length in
    let head : c.index-rules-i.result.head < vec_len c.args.table.now = heads_fit_at c.args.rules.now c.args.i
    c.index-rules-i.result (vec_len c.args.table.now) s c.requires.heads in
    settled_after c.args.rules.now c.args.i c.index-rules-i.result s c.args.table.now.items c.apply_rule.new.table.items
    c.args.grown.now.items c.args.applied.now.items c.len-before.result c.len.result c.requires.settled
    c.in_ok-apply_rule.ensures.members c.note_times.new.grown.items c.note_times.new.applied.items
    c.note_times.ensures.applied c.note_times.ensures.grown (omega arith)
    (λ e. c.in_ok-apply_rule.ensures.same (sym after ∙ e ∙ before))
    (λ j. let b = c.requires.before j in omega arith) (omega (arith, c.args.grown.now.ok.0))
    (omega (arith, c.args.applied.now.ok.0))
