use Rattle.std.proofs.Common.{Ok, refl}
use Rattle.cyc_top.proofs.upgrades.UpgraderTool.answer.Goals as goal

pub returns-in_ok-text-in-Ok-clause-answered : goal.returns-in_ok-text-in-Ok-clause-answered
returns-in_ok-text-in-Ok-clause-answered c = (
  c.requires,
  Ok c.in-Ok.file,
  c.in-Ok.ensures,
  (
    c.upgrade.result,
    c.upgrade.ensures,
    refl,
    c.in_ok-text-in-Ok.ensures.text,
  ),
)
