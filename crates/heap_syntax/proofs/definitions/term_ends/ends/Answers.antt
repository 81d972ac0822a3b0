use Rattle.std.proofs.Common.{List, ap}
use Rattle.std.specs.Prelude.{map}
use Rattle.heap_syntax.specs.EndTrees as shared
use Rattle.heap_syntax.proofs.SeenTrees.{itself, gives-same}
use Rattle.heap_syntax.proofs.SeenEnds.{ends-same}
use Rattle.heap_syntax.specs.NumberedEnds.{End, end_of, ends}
use Rattle.heap_syntax.proofs.definitions.term_ends.ends.Goals as goal

pub returns : goal.returns
returns c = gives-same (λ x. (map (shared.end_of itself) x.items, c.ends.new.cursor))
    (λ x. (map end_of x.items, c.ends.new.cursor)) (λ x. ap (λ (es : List End). (es, c.ends.new.cursor))
    (ends-same x.items)) c.ends.result ((ends c.args.version).read c.args.cursor.now) c.ends.ensures
