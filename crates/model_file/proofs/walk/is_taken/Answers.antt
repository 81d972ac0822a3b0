use Rattle.std.proofs.Common.{◌∙◌}
use Rattle.model_file.proofs.Taken.{first_addresses}
use Rattle.model_file.proofs.walk.is_taken.Goals as goal

pub returns : goal.returns
returns c = c.has_address.ensures ∙ first_addresses c.args.address c.args.n c.args.cells.now
