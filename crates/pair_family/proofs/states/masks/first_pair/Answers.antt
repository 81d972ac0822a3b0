use Rattle.pair_family.proofs.MaskBits.{place_below, first_of_ones, fewer_ones}
use Rattle.pair_family.proofs.states.masks.first_pair.Goals as goal

pub bounds-place : goal.bounds-place
bounds-place c = place_below c.args.mask c.requires.some c.requires.within

pub returns-clause-first : goal.returns-clause-first
returns-clause-first c = first_of_ones c.args.mask c.requires.some c.requires.within

pub returns-clause-less : goal.returns-clause-less
returns-clause-less c = fewer_ones c.args.mask c.requires.some c.requires.within
