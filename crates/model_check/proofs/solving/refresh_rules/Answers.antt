use Rattle.std.proofs.Common.{sym, subst, ◌∙◌, arith}
use Rattle.model_check.specs.Tables.{HeadsFit}
use Rattle.model_check.proofs.solving.refresh_rules.Goals as goal

pub refresh_rule-requires : goal.refresh_rule-requires
refresh_rule-requires c =
    let v = c.loop-k.invariant in
    record {
      within = omega arith;
      heads = subst (λ n. HeadsFit n c.args.rules.now) (sym v.rows) c.requires.heads;
      sound = v.sound;
      settled = v.settled;
      before = v.before;
      clock = omega (arith, v.longer, c.requires.clock);
      applied_length = v.applied_length ∙ c.requires.applied_length;
      grown_length = v.grown_length ∙ c.requires.grown_length ∙ sym v.rows;
    }
