use Rattle.std.proofs.Common.{◌∙◌}
use Rattle.run_file.proofs.Taken.{first_addresses}
use Rattle.run_file.proofs.walk.is_taken.Goals as goal

pub returns : goal.returns
returns c = c.has_address.ensures ∙ first_addresses c.args.address c.args.n c.args.cells.now
