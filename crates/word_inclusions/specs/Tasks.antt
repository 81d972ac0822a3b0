-- What the program answers, and what success says.
use Rattle.std.specs.Prelude.{ℕ, List, Option}
use Rattle.cyc_runs.specs.Runs.{Answering}
use Rattle.rule_logics.specs.declared.texts.program.Task.{Task}
use Rattle.rule_logics.specs.Tasks as tasks
use Rattle.word_inclusions.specs.Inclusions.{word_rules}
use Rattle.word_inclusions.specs.Stages.{HoldsAt, IsInclusion}
use Rattle.word_inclusions.specs.Grammar.{word_text}

abbrev pub IsAnswer : Task → Answering
IsAnswer task = tasks.IsAnswer word_rules word_text HoldsAt task

abbrev pub Succeeded : Task → Option (List ℕ) → Option (List ℕ) → Option (List ℕ) → Type 0
Succeeded task told old new = tasks.Succeeded word_rules word_text HoldsAt IsInclusion task told old new
