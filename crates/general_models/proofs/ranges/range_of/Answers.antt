use Rattle.std.proofs.Common.{ℕ, ◌+◌, ◌∙◌, List, sym, subst}
use Rattle.general_models.specs.Ranges.{IsRange}
use Rattle.general_models.proofs.RangeSteps.{below_base}
use Rattle.general_models.proofs.ranges.range_of.Goals as goal

pub with_fresh-requires-clause-below : goal.with_fresh-requires-clause-below
with_fresh-requires-clause-below c =
    below_base c.greatest_of-most.result c.as_slice.result.now c.as_slice-2.result.now
    (c.as_slice-2.ensures.keys ∙ sym c.as_slice.ensures.keys) c.greatest_of-most.ensures

pub returns : goal.returns
returns c = record {
  numbers = c.in_ok-numbers.numbers.keys;
  base = c.greatest_of-most.result + 1;
  occur = c.in_ok-numbers.ensures.occur;
  stack = c.in_ok-numbers.ensures.stack;
  is_range = subst (λ (ns : List ℕ). IsRange c.in_ok-range.range.items ns (c.greatest_of-most.result + 1) c.args.fresh)
      c.as_slice-2.ensures.keys c.in_ok-range.ensures;
}
