use Rattle.cyc_words.specs.Command.{asking_app, disprove_app, fo_app, fo_check_app}
use Rattle.clap.specs.Words.{with_subcommand}
use Rattle.cyc_words.proofs.command.cyclist_command.Goals as goal

pub returns : goal.returns
returns c =
    let disprove = with_subcommand asking_app disprove_app.top in
    let made = c.with-command.ensures asking_app disprove_app c.asking_command.ensures c.disprove_command.ensures in
    let more = c.with-command-2.ensures disprove fo_app made c.fo_command.ensures in
    c.with.ensures (with_subcommand disprove fo_app.top) fo_check_app more
    (record { reads = c.new.ensures.app; local = c.new.ensures.local })
