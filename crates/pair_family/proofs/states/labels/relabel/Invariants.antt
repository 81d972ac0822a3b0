use Rattle.std.proofs.Common.{◌≡◌, map}
use Rattle.pair_family.specs.Labels.{relabelled}
use Rattle.pair_family.proofs.Relabelling.{changed_from}
use Rattle.pair_family.proofs.states.labels.relabel.Given as goal

abbrev pub invariant-loop-label : goal.invariant-loop-label
invariant-loop-label l = changed_from (relabelled l.old l.new) l.label-index l.labels
    ≡ map (relabelled l.old l.new) l.initial.labels
