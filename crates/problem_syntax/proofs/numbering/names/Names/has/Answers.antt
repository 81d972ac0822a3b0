use Rattle.std.proofs.Common.{◌∙◌}
use Rattle.problem_syntax.proofs.Firsts.{has_use}
use Rattle.problem_syntax.proofs.numbering.names.Names.has.Goals as goal

pub returns : goal.returns
returns c = c.contains.ensures ∙ has_use c.args.name c.args.self.now.all.keys
