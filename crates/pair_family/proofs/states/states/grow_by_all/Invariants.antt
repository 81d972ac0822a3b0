use Rattle.std.proofs.Common.{◌+◌, ◌↔◌, ◌⊎◌, drop}
use Rattle.heap_formula.specs.Words.{OneOf}
use Rattle.pair_family.specs.BasePairs.{BasePair}
use Rattle.pair_family.specs.LargeCases.{sizes}
use Rattle.cyc_basics.specs.Words.{IsMember}
use Rattle.pair_family.specs.Labels.{Extends, Gives, HasRoom}
use Rattle.pair_family.proofs.states.states.grow_by_all.Given as goal

abbrev pub invariant-loop-state : goal.invariant-loop-state
invariant-loop-state l = record {
  room : HasRoom (l.fn.room + sizes l.fn.set.keys) l.set.keys l.left;
  extends : Extends l.fn.set.keys l.set.keys;
  grown : (d : BasePair) → (IsMember d l.set.keys ⊎ OneOf (λ b.
      OneOf (Gives l.step.numbers.now b l.step.places.now l.step.kept.now d) l.pairs) (drop l.state-index l.states))
      ↔ (IsMember d l.fn.set.keys ⊎ OneOf (λ b. OneOf (Gives l.step.numbers.now b l.step.places.now l.step.kept.now d)
      l.pairs) l.states);
}
