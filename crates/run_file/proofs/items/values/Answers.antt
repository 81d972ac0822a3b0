use Rattle.std.proofs.Common.{ℕ, List, ap}
use Rattle.std.specs.Prelude.{map}
use Rattle.heap_syntax.proofs.SeenTrees.{gives-same}
use Rattle.model_file.specs.Grammar.{numbers, values}
use Rattle.run_file.proofs.SeenItems.{items-same}
use Rattle.run_file.proofs.items.values.Goals as goal

pub returns : goal.returns
unfolding values numbers
returns c = gives-same (λ x. (map (λ (n : ℕ). n) x.items, c.listed_or_none.new.cursor))
    (λ x. (x.items, c.listed_or_none.new.cursor)) (λ x. ap (λ (ns : List ℕ). (ns, c.listed_or_none.new.cursor))
    (items-same x.items)) c.listed_or_none.result (values.read c.args.cursor.now) c.listed_or_none.ensures
