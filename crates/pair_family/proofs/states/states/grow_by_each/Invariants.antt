use Rattle.std.proofs.Common.{◌+◌, ◌↔◌, ◌⊎◌, drop}
use Rattle.heap_formula.specs.Words.{OneOf}
use Rattle.pair_family.specs.BasePairs.{BasePair}
use Rattle.pair_family.specs.LargeCases.{sizes}
use Rattle.cyc_basics.specs.Words.{IsMember}
use Rattle.pair_family.specs.Labels.{Extends, Gives, HasRoom}
use Rattle.pair_family.proofs.states.states.grow_by_each.Given as goal

abbrev pub invariant-loop-pair : goal.invariant-loop-pair
invariant-loop-pair l = record {
  room : HasRoom (l.fn.room + sizes l.fn.set.keys) l.set.keys l.left;
  extends : Extends l.fn.set.keys l.set.keys;
  grown : (d : BasePair)
      → (IsMember d l.set.keys ⊎ OneOf (Gives l.step.numbers.now l.state l.step.places.now l.step.kept.now d)
      (drop l.pair-index l.pairs)) ↔ (IsMember d l.fn.set.keys
      ⊎ OneOf (Gives l.step.numbers.now l.state l.step.places.now l.step.kept.now d) l.pairs);
}
