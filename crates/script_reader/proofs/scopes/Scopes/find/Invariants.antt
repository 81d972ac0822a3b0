use Rattle.script_reader.proofs.scopes.Scopes.find.Given as goal

abbrev pub decreases-frames : goal.decreases-frames
decreases-frames l = l.at
