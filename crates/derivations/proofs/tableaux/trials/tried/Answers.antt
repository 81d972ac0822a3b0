use Rattle.derivations.proofs.Fares.{admitted_by, refused_by, many_by}
use Rattle.derivations.proofs.tableaux.trials.tried.Goals as goal

pub returns-in-Progresses : goal.returns-in-Progresses
returns-in-Progresses c = admitted_by c.args.traces.now c.in_ok-all_lassos_progress.field-0 c.requires
    c.in_ok-all_lassos_progress.ensures c.in-Progresses.is

pub returns-in-DoesNot : goal.returns-in-DoesNot
returns-in-DoesNot c = refused_by c.args.traces.now c.in_ok-all_lassos_progress.field-0 c.requires
    c.in_ok-all_lassos_progress.ensures c.in-DoesNot.is

pub returns-in-TooManyStates : goal.returns-in-TooManyStates
returns-in-TooManyStates c = many_by c.args.traces.now c.in_ok-all_lassos_progress.field-0 c.requires
    c.in_ok-all_lassos_progress.ensures c.in-TooManyStates.is
