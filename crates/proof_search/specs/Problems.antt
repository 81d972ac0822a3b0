-- Problems within the limits of a proof file.
use Rattle.std.specs.Prelude.{◌<◌, length}
use Rattle.cyc_basics.specs.Limits.{AreLimits}
use Rattle.heap_formula.specs.declared.judgements.Judgement.{Judgement}
use Rattle.heap_formula.specs.declared.proof_rules.Reason.{Reason}
use Rattle.heap_formula.specs.Words.{Each}
use Rattle.goto_lang.specs.Lines.{IsProgram}
use Rattle.rule_book.specs.Limits.{IsDefinitionWithin, IsJudgementWithin, IsReasonWithin, AreEndsWithin}
use Rattle.search_moves.specs.Trying.{Theory}

-- the theory, and a judgement over it, are within the limits of a proof file
pub record IsWithinLimits (t : Theory) (goal : Judgement) : Type 0 where
  pub some : 0 < t.most.spatial
  pub most : AreLimits t.most
  pub definitions : Each (IsDefinitionWithin t.most t.definitions) t.definitions
  pub program : IsProgram t.lines
  pub ends : AreEndsWithin t.most t.definitions t.lines
  pub goal_within : IsJudgementWithin t.most t.definitions (length t.lines) goal

-- a reason brings in nothing beyond the limits
abbrev pub MayGive : Theory → Reason → Type 0
MayGive t r = IsReasonWithin t.most t.definitions r
