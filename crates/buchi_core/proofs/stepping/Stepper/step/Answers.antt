-- There are at most as many entries as positions, and at most MOST_POSITIONS.
use Rattle.std.proofs.Common.{arith, length, ap}
use Rattle.buchi_core.specs.View.{members, entries_of}
use Rattle.buchi_core.proofs.Packed.{few_settled}
use Rattle.cyc_basics.proofs.Members.{set_short}
use Rattle.buchi_core.proofs.stepping.Stepper.step.Goals as goal

pub settle_all-requires-clause-few : goal.settle_all-requires-clause-few
settle_all-requires-clause-few c =
    omega (
      arith,
      few_settled c.args.pairs.now (members c.mask_of-mask.result) (entries_of c.args.forest.now)
          c.grow.new.young.entries.items c.as_slice-entries.result.now c.grow.ensures.grown
          c.as_slice-entries.ensures.value,
      ap length c.mask_of-mask.ensures,
      set_short c.args.positions.now c.requires.positions,
    )

pub returns-clause-few : goal.returns-clause-few
returns-clause-few c =
    omega (
      arith,
      few_settled c.args.pairs.now (members c.mask_of-mask.result) (entries_of c.args.forest.now)
          c.grow.new.young.entries.items c.as_slice-entries.result.now c.grow.ensures.grown
          c.as_slice-entries.ensures.value,
      ap length c.settle_all.ensures,
      ap length c.mask_of-mask.ensures,
    )
