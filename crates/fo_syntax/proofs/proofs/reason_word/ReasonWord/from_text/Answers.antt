use Rattle.std.proofs.Common.{refl}
use Rattle.fo_syntax.proofs.proofs.reason_word.ReasonWord.from_text.Goals as goal
use Rattle.cyc_basics.proofs.Tests.{other_text}

pub returns-in_default : goal.returns-in_default
returns-in_default c = rw (
  other_text _ _ c.in_default.not-Axiom,
  other_text _ _ c.in_default.not-Refl,
  other_text _ _ c.in_default.not-Clash,
  other_text _ _ c.in_default.not-Decompose,
  other_text _ _ c.in_default.not-Replace,
  other_text _ _ c.in_default.not-WeakenLeft,
  other_text _ _ c.in_default.not-WeakenRight,
  other_text _ _ c.in_default.not-Contract,
  other_text _ _ c.in_default.not-Unfold,
  other_text _ _ c.in_default.not-Cut,
  other_text _ _ c.in_default.not-Right,
  other_text _ _ c.in_default.not-Link,
) refl
