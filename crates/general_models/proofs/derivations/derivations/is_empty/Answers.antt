use Rattle.std.proofs.Common.{ℕ, List, ap, sym, ◌∙◌}
use Rattle.std.specs.Ordering.{nat_cmp}
use Rattle.std.specs.FinMap.{len, len-empty, empty_of_len}
use Rattle.std.proofs.lemmas.Bool.{eqb-true, eq-eqb}
use Rattle.general_models.proofs.derivations.derivations.is_empty.Goals as goal

pub returns : goal.returns
returns c = (
  λ t. empty_of_len c.args.heap.now (sym c.len.ensures.value ∙ eqb-true c.len.result 0 t),
  λ e. eq-eqb c.len.result 0 (c.len.ensures.value ∙ ap len e ∙ len-empty nat_cmp (List ℕ)),
)
