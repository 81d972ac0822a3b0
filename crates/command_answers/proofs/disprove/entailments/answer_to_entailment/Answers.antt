use Rattle.std.proofs.Common.{refl, inl, inr}
use Rattle.command_answers.proofs.Answered.{found_few, not_found_few}
use Rattle.command_answers.proofs.disprove.entailments.answer_to_entailment.Goals as goal

pub model_text-requires-clause-first : goal.model_text-requires-clause-first
model_text-requires-clause-first c = c.in_ok-refute.ensures.found c.in-Found.stack c.in-Found.heap c.in-Found.is

pub returns-in_ok-text-in-NotFound-clause-said : goal.returns-in_ok-text-in-NotFound-clause-said
returns-in_ok-text-in-NotFound-clause-said c =
    inr (inr
    (inl (
      record {
        few = not_found_few c.in_ok-refute.field-0 _ c.in-NotFound.is c.in_ok-refute.ensures.too_many.1;
        constructive = c.in_ok-refute.ensures.not_found_searched c.in-NotFound.is;
      },
      c.in_ok-refute.ensures.not_found c.in-NotFound.is,
      refl,
      c.in_ok-text-in-NotFound.ensures,
    )))

pub returns-in_ok-text-in-Found-clause-said : goal.returns-in_ok-text-in-Found-clause-said
returns-in_ok-text-in-Found-clause-said c =
    inr (inr (inr (
      c.in-Found.stack,
      c.in-Found.heap,
      record {
        few = found_few c.in_ok-refute.field-0 c.in-Found.stack c.in-Found.heap _ c.in-Found.is
            c.in_ok-refute.ensures.too_many.1;
        constructive = c.in_ok-refute.ensures.found_searched c.in-Found.stack c.in-Found.heap c.in-Found.is;
      },
      c.in_ok-refute.ensures.found c.in-Found.stack c.in-Found.heap c.in-Found.is,
      refl,
      c.in_ok-text-in-Found.ensures,
    )))
