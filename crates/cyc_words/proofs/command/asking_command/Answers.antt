use Rattle.cyc_words.specs.Command.{proving_app, upgrade_app, sat_app, model_app}
use Rattle.clap.specs.Words.{with_subcommand}
use Rattle.cyc_words.proofs.command.asking_command.Goals as goal

pub returns : goal.returns
returns c =
    let upgrade = with_subcommand proving_app upgrade_app.top in
    let made = c.with-command.ensures proving_app upgrade_app c.proving_command.ensures
    (record { reads = c.new.ensures.app; local = c.new.ensures.local }) in
    let more = c.with-command-2.ensures upgrade sat_app made
    (record { reads = c.new-2.ensures.app; local = c.new-2.ensures.local }) in
    c.with.ensures (with_subcommand upgrade sat_app.top) model_app more
    (record { reads = c.new-3.ensures.app; local = c.new-3.ensures.local })
