use Rattle.std.proofs.Common.{refl}
use Rattle.proof_syntax.proofs.reason_word.ReasonWord.from_text.Goals as goal
use Rattle.cyc_basics.proofs.Tests.{other_text}

pub returns-in_default : goal.returns-in_default
returns-in_default c = rw (
  other_text _ _ c.in_default.not-Absurd,
  other_text _ _ c.in_default.not-Rewrite,
  other_text _ _ c.in_default.not-Split,
  other_text _ _ c.in_default.not-Distinct,
  other_text _ _ c.in_default.not-Weaken,
  other_text _ _ c.in_default.not-Unfold,
  other_text _ _ c.in_default.not-Cut,
  other_text _ _ c.in_default.not-Done,
  other_text _ _ c.in_default.not-Choose,
  other_text _ _ c.in_default.not-PureRight,
  other_text _ _ c.in_default.not-Instantiate,
  other_text _ _ c.in_default.not-Frame,
  other_text _ _ c.in_default.not-UnfoldRight,
  other_text _ _ c.in_default.not-Exec,
  other_text _ _ c.in_default.not-Drop,
  other_text _ _ c.in_default.not-Link,
)
    refl
