use Rattle.fo_rules.proofs.replacing.replaced_side.Goals as goal

pub returns-in-Left : goal.returns-in-Left
returns-in-Left c = rw c.in-Left.is c.replaced_named.ensures

pub returns-in-Right : goal.returns-in-Right
returns-in-Right c = rw c.in-Right.is c.replaced_named-in-Right.ensures
