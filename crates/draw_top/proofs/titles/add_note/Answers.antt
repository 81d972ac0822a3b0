use Rattle.std.proofs.Common.{Bool, ◌++◌, map, sym, ap, ◌∙◌, refl}
use Rattle.draw_top.specs.Graphs.{run_of}
use Rattle.draw_top.specs.Titles.{note_runs}
use Rattle.draw_top.proofs.Loops.{two_pushed}
use Rattle.draw_top.proofs.titles.add_note.Goals as goal

pub returns-in_ok-push-2 : goal.returns-in_ok-push-2
returns-in_ok-push-2 c =
    two_pushed run_of c.args.runs.now.items c.push.new.self.items c.push-then-is_large.new.self.items
    c.in_ok-plain.field-0 _ _ _ c.in_ok-push.ensures.items c.in_ok-push-2.ensures.items c.in_ok-plain.ensures refl
    ∙ ap (λ (b : Bool). map run_of c.args.runs.now.items ++ note_runs b) (sym c.if-is_large.true)
