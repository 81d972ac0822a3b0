use Rattle.std.proofs.Common.{ap, length}
use Rattle.script_reader.specs.Telling.{begin_of}
use Rattle.script_reader.proofs.Standing.{begin_place}
use Rattle.script_reader.proofs.trees.trees.Trees.offset.Goals as goal

pub returns-in-Some : goal.returns-in-Some
returns-in-Some c =
    begin_place c.args.self.now c.args.tree _ (ap (begin_of (length c.args.self.now.bytes.now)) c.in-Some.ensures)

pub returns-in-None : goal.returns-in-None
returns-in-None c =
    begin_place c.args.self.now c.args.tree _
    (ap (begin_of (length c.args.self.now.bytes.now)) c.in-None.ensures)
