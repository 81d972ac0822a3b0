use Rattle.std.proofs.Common.{◌≡◌, IfOk, subst}
use Rattle.model_file.specs.Written.{text_of_model}
use Rattle.command_answers.proofs.ModelTrees.{plain_state}
use Rattle.command_answers.proofs.disprove.model_files.model_text.Goals as goal

pub plain_model-requires-clause-plain : goal.plain_model-requires-clause-plain
plain_model-requires-clause-plain c =
    plain_state c.args._cells c.args.problem.now c.args.antecedent.now c.args.disjuncts.now c.args.stack c.args.heap
    c.requires.size c.requires.goal c.requires.few c.requires.first.size

pub returns : goal.returns
returns c =
    let e = c.in_ok-model.ensures in
    subst (λ text. IfOk c.write_model.result (λ v. v.items ≡ text))
    (λ i. text_of_model (e.version i) (e.definitions i) (e.stack i) (e.heap i) (e.ask i)) c.write_model.ensures.text
