-- What the forms of a set of pairs stand for.
use Rattle.std.specs.Prelude.{ℕ, List, ◌<◌, ◌^◌}
use Rattle.pair_family.specs.declared.states.pairs.PairForm.{PairForm}
use Rattle.pair_family.specs.declared.states.pairs.PairForm.TheVariants.{Masked, Listed}
use Rattle.pair_family.specs.Masks.{pairs_in}

abbrev pub pairs_of_form : PairForm → List (ℕ × ℕ)
pairs_of_form (Masked mask) = pairs_in mask
pairs_of_form (Listed list) = list.items

-- a mask has no ones but those of its pairs
abbrev pub IsForm : PairForm → Type 0
IsForm (Masked mask) = mask < 2 ^ 55
IsForm (Listed list) = Unit {0}
