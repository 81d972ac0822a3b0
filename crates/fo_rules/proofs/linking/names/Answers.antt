use Rattle.fo_formula.specs.Words.{in_atom}
use Rattle.fo_rules.specs.Putting.{put}
use Rattle.fo_rules.proofs.LinkMaking.{name_large}
use Rattle.fo_rules.proofs.linking.names.Goals as goal

pub returns-then-size_of_changed_atom-gt-MOST_TERMS : goal.returns-then-size_of_changed_atom-gt-MOST_TERMS
returns-then-size_of_changed_atom-gt-MOST_TERMS c =
    name_large (in_atom (put c.args.change.now) c.args.atom.now)
    c.in-Some.there.now c.args.bud.now c.args.m c.size_of_changed_atom.result c.in-Some.ensures c.requires
    c.size_of_changed_atom.ensures c.if-size_of_changed_atom-gt-MOST_TERMS.true
