use Rattle.std.proofs.Common.{◌∙◌, ap, length}
use Rattle.script_reader.specs.Telling.{last_of}
use Rattle.script_reader.proofs.Standing.{last_place}
use Rattle.script_reader.proofs.trees.trees.Trees.end_offset.Goals as goal

pub returns-in-Some : goal.returns-in-Some
returns-in-Some c =
    last_place c.args.self.now c.args.tree _
    (c.last_token_of.ensures ∙ ap (last_of (length c.args.self.now.bytes.now)) c.in-Some.ensures)

pub returns-in-None : goal.returns-in-None
returns-in-None c =
    last_place c.args.self.now c.args.tree _
    (ap (last_of (length c.args.self.now.bytes.now)) c.in-None.ensures)
