use Rattle.std.proofs.Common.{◌≡◌, ◌∙◌, length, sym, arith}
use Rattle.std.proofs.lemmas.Grind.{common_steps}
use Rattle.pair_family.proofs.MaskBits.{pairs_none, no_entries}
use Rattle.pair_family.proofs.states.pairs.PairSet.from_list.Goals as goal

pub returns-then-is_empty : goal.returns-then-is_empty
returns-then-is_empty c =
    let e : length c.args.pairs.items ≡ 0 = grind (arith, common_steps, c.is_empty.ensures, c.if-is_empty.true) in
    c.from_mask.ensures ∙ (pairs_none ∙ sym (no_entries c.args.pairs.items e))
