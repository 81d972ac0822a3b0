-- The number tells the status, and what `run` says of that status is so.
use Rattle.std.proofs.Common.{◌≡◌, Ok, sym, ◌∙◌}
use Rattle.std.specs.Process.{exit_status}
use Rattle.cyc_runs.specs.declared.endings.Status.TheVariants.{Success, Refused}
use Rattle.check_answers.proofs.Exits.{zero_is_success, one_is_refusal}
use Rattle.check_answers.proofs.program.run_program.Goals.{in-Ok, in-Err}
use Rattle.check_answers.proofs.program.run_program.Goals as goal

pub returns-clause-headline : goal.returns-clause-headline
returns-clause-headline g c none =
    let e = zero_is_success c.match-words.ended (exit_status c.exit_code.result) c.exit_code.ensures none in
    elim c.match-words.branch [
      | in-Ok w ↦ w.run.ensures.headline (let f : Ok w.run.result ≡ Ok Success = sym w.ended-is ∙ e in cc)
      | in-Err w ↦ absurd (let f = sym w.ended-is ∙ e in cc)
    ]

pub returns-clause-refusal : goal.returns-clause-refusal
returns-clause-refusal g c one =
    let e = one_is_refusal c.match-words.ended (exit_status c.exit_code.result) c.exit_code.ensures one in
    elim c.match-words.branch [
      | in-Ok w ↦ w.run.ensures.refusal (let f : Ok w.run.result ≡ Ok Refused = sym w.ended-is ∙ e in cc)
      | in-Err w ↦ absurd (let f = sym w.ended-is ∙ e in cc)
    ]
