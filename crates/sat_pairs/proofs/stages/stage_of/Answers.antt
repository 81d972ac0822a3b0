use Rattle.std.proofs.Common.{◌∙◌, ap, length, refl}
use Rattle.pair_family.specs.Folding.{spoken}
use Rattle.sat_pairs.specs.Numbers.{count_from, places_in, with_numbers}
use Rattle.sat_pairs.proofs.stages.stage_of.Goals as goal

pub returns : goal.returns
returns c =
    let x = c.args.atom.now in
    let numbers = c.in_ok-push_spoken.ensures ∙ ap (λ z. with_numbers z (spoken x)) c.in_ok-numbers.ensures in
    record {
      atom = refl;
      at = record {
        numbers = numbers;
        places = c.in_ok-places.ensures ∙ ap (λ z. places_in z (spoken x)) (c.deref.ensures.value ∙ numbers);
        kept = c.in_ok-kept.ensures ∙ ap (count_from 0) (c.len.ensures ∙ (c.in_ok-numbers.numbers.ok.0
            ∙ ap length c.in_ok-numbers.ensures));
      };
      taken = refl;
      states = c.new.ensures.empty;
      room = refl;
    }
