use Rattle.std.proofs.Common.{◌∙◌, inl, inr, refl, subst}
use Rattle.solve_top.specs.Answers.{IsCertified, fails_line}
use Rattle.solve_top.proofs.questions.answer_to_model.Goals as goal

pub returns-clause-said : goal.returns-clause-said
returns-clause-said c =
    let certificate = c.deref.ensures.value ∙ c.in_ok-file.ensures.text in
    let said = subst (λ bytes. IsCertified fails_line bytes c.in_ok-text.text.items) certificate c.in_ok-text.ensures in
    inr (inr (inl (refl, (c.args.model.now, c.requires.none, said))))
