use Rattle.proof_picture.proofs.Marking.{all_standing}
use Rattle.proof_picture.proofs.names.marks.marks.Goals as goal

pub returns : goal.returns
returns c = all_standing (λ f. f.items) c.marks_of.result c.args.judgement.now c.args.count c.marks_of.ensures
