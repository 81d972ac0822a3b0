use Rattle.std.proofs.Common.{◌≡◌, ◌∙◌, [], subst}
use Rattle.pair_family.specs.BasePairs.{no_pair}
use Rattle.pair_family.specs.Labels.{IfApart, combined, combined_pairs}
use Rattle.sat_pairs.specs.Numbers.{count_from, pure_pair_at}
use Rattle.sat_pairs.proofs.cases.start_at.Goals as goal

pub returns : goal.returns
returns c =
    let ns = c.args.numbers.now in
    let o = c.in_ok-combined.field-0 in
    let stated : c.in_ok-stated.stated ≡ pure_pair_at ns c.args.atoms.now = c.in_ok-stated.ensures in
    let none : c.new-none.result ≡ no_pair = c.new-none.ensures
    ∙ (λ i. record {
      same = c.new.ensures.items i;
      differ = c.new-2.ensures.items i;
      cells = c.new-3.ensures.items i;
    }) in
    let kept : c.deref.result.now ≡ count_from 0 c.args.count = c.deref.ensures.value ∙ c.in_ok-kept.ensures in
    subst (λ z. IfApart (combined_pairs ns z [] no_pair) (combined ns z [] no_pair (count_from 0 c.args.count)) o)
    stated (subst (λ z. IfApart (combined_pairs ns c.in_ok-stated.stated [] z)
    (combined ns c.in_ok-stated.stated [] z (count_from 0 c.args.count)) o) none
    (subst (λ z. IfApart (combined_pairs ns c.in_ok-stated.stated [] c.new-none.result)
    (combined ns c.in_ok-stated.stated [] c.new-none.result z) o) kept c.in_ok-combined.ensures))
