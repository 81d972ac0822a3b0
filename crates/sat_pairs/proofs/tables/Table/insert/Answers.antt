use Rattle.std.proofs.Common.{◌≡◌, ◌<◌, ◌∙◌, map, length, sym, ap, subst, arith}
use Rattle.std.specs.Prelude.{slice_set}
use Rattle.std.proofs.lemmas.List.{length-map}
use Rattle.sat_pairs.specs.Growth.{IsAddedTo}
use Rattle.sat_pairs.proofs.Tabled.{table_added}
use Rattle.sat_pairs.proofs.tables.Table.insert.Goals as goal

pub returns : goal.returns
returns c =
    let rows = c.self.inside.rows.items in
    let new = c.add.new.set in
    let l : length rows ≡ length c.args.self.now = sym (length-map rows (λ s. s.keys)) ∙ ap length c.self.view_is in
    let within : c.args.pred < length c.args.self.now = c.requires in
    subst (λ T. IsAddedTo T (map (λ s. s.keys) (slice_set rows c.args.pred new))
    c.args.pred c.args.known c.in_ok-is_new.is_new) c.self.view_is
    (table_added (λ s. s.keys) rows c.args.pred c.index_mut.result.now new c.args.known c.in_ok-is_new.is_new
    (omega arith) (sym c.index_mut.ensures.value) c.in_ok-is_new.ensures)
