use Rattle.solve_top.proofs.PassedOver.{same-words, notes-passed-over}
use Rattle.solve_top.proofs.explanations.laws.notes_are_passed_over.Goals as goal

pub returns : goal.returns
returns g c = record {
  value = λ notes text value h r. notes-passed-over notes text h g.F.TextFormat.format value r;
  words = λ notes text words h. same-words notes text h words;
}
