use Rattle.std.proofs.Common.{arith}
use Rattle.fo_formula.proofs.Fine.{cases_few}
use Rattle.text_tests.proofs.fo_moves_tests.is_offered.Goals as goal

pub all_after-requires-clause-few_cases : goal.all_after-requires-clause-few_cases
all_after-requires-clause-few_cases c p = let few = cases_few c.args.file.now.theory.definitions c.requires.definitions
    p in omega arith
