use Rattle.std.proofs.Common.{ℕ, List, ap}
use Rattle.std.specs.Prelude.{map}
use Rattle.cyc_grammar.specs.Classes.{symbol}
use Rattle.heap_syntax.proofs.SeenTrees.{gives-same}
use Rattle.model_file.specs.Grammar.{numbers}
use Rattle.run_file.proofs.SeenItems.{items-same}
use Rattle.run_file.proofs.items.numbers.Goals as goal

pub returns : goal.returns
unfolding numbers
returns c = gives-same (λ x. (map (λ (n : ℕ). n) x.items, c.listed.new.cursor)) (λ x. (x.items, c.listed.new.cursor))
    (λ x. ap (λ (ns : List ℕ). (ns, c.listed.new.cursor)) (items-same x.items)) c.listed.result
    ((numbers (symbol c.args.behind.now)).read c.args.cursor.now) c.listed.ensures
