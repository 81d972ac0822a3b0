use Rattle.std.proofs.Common.{sym, ap, subst, ◌∙◌}
use Rattle.heap_reader.specs.Indexes.{IsIndex}
use Rattle.indexmap.proofs.CallerLemmas.{insert_entry-new}
use Rattle.heap_reader.proofs.Indexes.{index_notes, index_keeps}
use Rattle.heap_reader.proofs.head.first_places.Goals as goal
use Rattle.heap_reader.proofs.head.first_places.Goals.{then-not-contains_key+in_ok-insert, else-not-contains_key}
use Rattle.cyc_basics.proofs.Options.{not_some}

pub loop-i-preserved : goal.loop-i-preserved
loop-i-preserved c =
    elim c.if-not-contains_key.branch [
      | then-not-contains_key+in_ok-insert w ↦ index_notes c.args.list.now c.loop-i.i _ c.loop-i.places.entries
          c.if-not-contains_key.places.entries c.loop-i-test.true c.loop-i.invariant
          (ap (λ m. m.entries) w.places-is ∙ w.in_ok-insert.ensures.entries
          ∙ insert_entry-new _ c.loop-i.places _ _ (not_some _ (sym w.if-not-contains_key.ensures)))
      | else-not-contains_key w ↦ subst (IsIndex _) (ap (λ m. m.entries) (sym w.places-is))
          (index_keeps c.args.list.now c.loop-i.i _ c.loop-i.places.entries c.loop-i-test.true c.loop-i.invariant
          (sym w.if-not-contains_key.ensures))
    ]
