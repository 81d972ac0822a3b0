use Rattle.std.proofs.Common.{◌∙◌, map}
use Rattle.clap.specs.Words.{subcommand_rows_of}
use Rattle.cyc_words.proofs.Parses.{found_is, found_means, parsed, refused}
use Rattle.cyc_words.proofs.meaning.task_of_line.Goals as goal

pub task_of_matches-requires : goal.task_of_matches-requires
task_of_matches-requires c =
    found_means (map (λ s. s.now) c.args.line.now) (subcommand_rows_of c.in-Ok.matches)
    (parsed _ (map (λ s. s.now) c.args.line.now)
    c.in-Ok.matches c.in_ok-command.ensures.reads c.in-Ok.ensures.kinds c.in-Ok.ensures.matches)

pub returns-in-Ok : goal.returns-in-Ok
returns-in-Ok c =
    c.task_of_matches.ensures
    ∙ found_is (map (λ s. s.now) c.args.line.now) (subcommand_rows_of c.in-Ok.matches)
    (parsed _ (map (λ s. s.now) c.args.line.now)
    c.in-Ok.matches c.in_ok-command.ensures.reads c.in-Ok.ensures.kinds c.in-Ok.ensures.matches)

pub returns : goal.returns
returns c =
    refused _ (map (λ s. s.now) c.args.line.now) c.in-Err.error c.in_ok-command.ensures.reads c.in-Err.ensures.kinds
    (λ e. c.in_default.not-OutOfMemory (c.kind.ensures ∙ e))
