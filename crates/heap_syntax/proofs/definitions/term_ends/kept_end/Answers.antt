use Rattle.std.proofs.Common.{ap}
use Rattle.heap_syntax.specs.EndTrees as shared
use Rattle.heap_syntax.proofs.SeenTrees.{itself, gives-same}
use Rattle.heap_syntax.proofs.SeenEnds.{end-same}
use Rattle.heap_syntax.specs.NumberedEnds.{End, end_of, kept_end}
use Rattle.heap_syntax.proofs.definitions.term_ends.kept_end.Goals as goal

pub returns : goal.returns
returns c = gives-same (λ x. (shared.end_of itself x, c.kept_end.new.cursor))
    (λ x. (end_of x, c.kept_end.new.cursor)) (λ x. ap (λ (e : End). (e, c.kept_end.new.cursor)) (end-same x))
    c.kept_end.result ((kept_end c.args.keep).read c.args.cursor.now) c.kept_end.ensures
