use Rattle.std.proofs.Common.{subst}
use Rattle.file_reader.specs.Stages.{Parts}
use Rattle.file_reader.specs.Pieces.{KeepsLaw}
use Rattle.file_reader.proofs.PieceLaws.{one-piece}
use Rattle.file_reader.proofs.reader.read_file.Goals as goal

pub returns : goal.returns
returns c =
    one-piece c.args.bytes.now c.feed.new.self c.finish.result
    (subst (λ (s : Parts). KeepsLaw s c.args.bytes.now c.feed.new.self)
    c.new-reader.ensures.value c.in_ok-feed.ensures.law) c.finish.ensures
