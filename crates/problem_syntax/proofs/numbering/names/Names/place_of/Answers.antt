use Rattle.std.proofs.Common.{◌∙◌, sym}
use Rattle.problem_syntax.proofs.Firsts.{place_found, place_missing}
use Rattle.problem_syntax.proofs.numbering.names.Names.place_of.Goals as goal

pub returns-in-Some : goal.returns-in-Some
returns-in-Some c = place_found c.args.name c.args.self.now.all.keys c.in-Some.place (sym c.in-Some.ensures.index)

pub returns-in-None : goal.returns-in-None
returns-in-None c = c.len.ensures.len ∙ place_missing c.args.name c.args.self.now.all.keys (sym c.in-None.ensures.index)
