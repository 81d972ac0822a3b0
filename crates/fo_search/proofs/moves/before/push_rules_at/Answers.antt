use Rattle.fo_search.proofs.moves.before.push_rules_at.Goals as goal

pub returns-in-Replacements : goal.returns-in-Replacements
returns-in-Replacements c = rw c.in-Replacements.is c.push_replacements.ensures
