use Rattle.std.proofs.Common.{List, ap}
use Rattle.std.specs.Prelude.{map}
use Rattle.general_models.specs.declared.runs.growth.ValuePair.{ValuePair}
use Rattle.heap_syntax.proofs.SeenTrees.{gives-same}
use Rattle.run_file.specs.Grammar.{value_pairs}
use Rattle.run_file.proofs.SeenItems.{items-same}
use Rattle.run_file.proofs.items.value_pairs.Goals as goal

pub returns : goal.returns
unfolding value_pairs
returns c = gives-same (λ x. (map (λ (p : ValuePair). p) x.items, c.listed.new.cursor))
    (λ x. (x.items, c.listed.new.cursor)) (λ x. ap (λ (ps : List ValuePair). (ps, c.listed.new.cursor))
    (items-same x.items)) c.listed.result (value_pairs.read c.args.cursor.now) c.listed.ensures
