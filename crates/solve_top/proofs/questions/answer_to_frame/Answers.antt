use Rattle.std.proofs.Common.{◌∙◌, inl, refl, subst}
use Rattle.solve_top.specs.Answers.{IsAsked, holds_line, proof_text}
use Rattle.solve_top.proofs.questions.answer_to_frame.Goals as goal

pub returns-clause-said : goal.returns-clause-said
returns-clause-said c =
    let found = c.args.found.now in
    let certificate = c.deref-3.ensures.value ∙ c.in_ok-proof.ensures.text in
    let told = subst (λ bytes. IsAsked holds_line c.deref-2.result.now bytes c.in_ok-text.text.items) certificate
    c.in_ok-text.ensures in
    inl (
      refl,
      record {
        found = found;
        is_found = c.requires.is;
        possible = c.requires.possible;
        said = subst (λ bytes. IsAsked holds_line bytes (proof_text found.proof.file) c.in_ok-text.text.items)
            c.deref-2.ensures.value told;
      },
    )
