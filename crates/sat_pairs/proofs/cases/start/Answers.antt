use Rattle.std.proofs.Common.{◌≡◌, ◌∙◌, ap, refl, length}
use Rattle.std.proofs.lemmas.Result.{IfOk-weaker}
use Rattle.sat_pairs.specs.Numbers.{kept_numbers, with_pure_numbers, pure_pair_at, count_from}
use Rattle.sat_pairs.proofs.Starts.{start_is}
use Rattle.pair_family.specs.BasePairs.{no_pair}
use Rattle.sat_pairs.proofs.cases.start.Goals as goal

pub returns : goal.returns
returns c =
    let k = c.args.k in
    let xs = c.args.atoms.now in
    let ps = c.args.pure.now in
    let first : c.in_ok-numbers.numbers.items ≡ kept_numbers k xs = c.in_ok-numbers.ensures in
    let pushed : c.push_pure.new.numbers.items ≡ with_pure_numbers (kept_numbers k xs) ps = c.in_ok-push_pure.ensures
    ∙ ap (λ z. with_pure_numbers z ps) first in
    let numbers = c.deref.result.now in
    let count = c.len-count.ensures ∙ (c.in_ok-numbers.numbers.ok.0 ∙ ap length first) in
    IfOk-weaker c.start_at.result _ _ (λ o h. start_is k xs ps o numbers (count_from 0 c.len-count.result)
    (pure_pair_at numbers ps) no_pair (c.deref.ensures.value ∙ pushed) refl refl (ap (count_from 0) count) h)
    c.start_at.ensures
