use Rattle.cyc_words.specs.Command.{check_app, prove_app, ring_app}
use Rattle.clap.specs.Words.{new_app, with_subcommand}
use Rattle.std.specs.Prelude.{codes}
use Rattle.cyc_words.proofs.command.proving_command.Goals as goal

pub returns : goal.returns
returns c =
    let none = new_app (codes "cyclist") in
    let check = with_subcommand none check_app.top in
    let made = c.with-command.ensures none check_app (record { reads = c.new.ensures.app; local = c.new.ensures.local })
    (record { reads = c.new-2.ensures.app; local = c.new-2.ensures.local }) in
    c.with.ensures (with_subcommand check prove_app.top) ring_app
    (c.with-command-2.ensures check prove_app made c.prove_command.ensures) c.ring_command.ensures
