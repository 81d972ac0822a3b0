use Rattle.std.proofs.Common.{◌≡◌, true, List, sym, subst}
use Rattle.std.specs.Prelude.{map}
use Rattle.cyc_lex.specs.Word.{Word, word_of}
use Rattle.cyc_grammar.specs.Syntax.{read_whole}
use Rattle.cyc_grammar.specs.Classes.{are_tokens}
use Rattle.cyc_grammar.specs.Giving.{Gives}
use Rattle.cyc_grammar.proofs.WholeTexts.{words-placed, all-tokens, ok-exact, ok-again, err-within, err-exact}
use Rattle.cyc_grammar.proofs.WholeTexts.{err-again}
use Rattle.fo_syntax.specs.ProblemGrammar.{problem}
use Rattle.fo_syntax.specs.ProblemTrees.{problem_of}
use Rattle.fo_syntax.proofs.TheoryLaws.{problem-law}
use Rattle.fo_syntax.proofs.TheoryEnds.{problem-last}
use Rattle.fo_syntax.proofs.problems.problems.read_problem_tree.Goals as goal

pub whole_problem-requires : goal.whole_problem-requires
whole_problem-requires c =
    let same = words-placed c.as_slice.result.now c.args.tokens.now c.as_slice.ensures in
    subst (λ (ws : List Word). are_tokens ws ≡ true) (sym same)
    (all-tokens (map word_of c.args.tokens.now) c.requires.words)

pub read_fault-requires-clause-within : goal.read_fault-requires-clause-within
read_fault-requires-clause-within c =
    let same = words-placed c.as_slice.result.now c.args.tokens.now c.as_slice.ensures in
    let given = subst (λ (ws : List Word). Gives problem_of c.whole_problem.result (read_whole problem ws))
    same c.whole_problem.ensures in
    err-within problem problem-law problem-last problem_of c.args.tokens.now c.whole_problem.result c.in-Err.refusal
    c.in-Err.is given c.requires.words

pub returns-in-Ok-clause-exact : goal.returns-in-Ok-clause-exact
returns-in-Ok-clause-exact c =
    let same = words-placed c.as_slice.result.now c.args.tokens.now c.as_slice.ensures in
    let given = subst (λ (ws : List Word). Gives problem_of c.whole_problem.result (read_whole problem ws))
    same c.whole_problem.ensures in
    ok-exact problem problem-law problem_of (map word_of c.args.tokens.now)
    c.whole_problem.result c.in-Ok.tree c.in-Ok.is given

pub returns-in-Ok-clause-again : goal.returns-in-Ok-clause-again
returns-in-Ok-clause-again c =
    let same = words-placed c.as_slice.result.now c.args.tokens.now c.as_slice.ensures in
    let given = subst (λ (ws : List Word). Gives problem_of c.whole_problem.result (read_whole problem ws))
    same c.whole_problem.ensures in
    ok-again problem problem-law problem_of (map word_of c.args.tokens.now)
    c.whole_problem.result c.in-Ok.tree c.in-Ok.is given

pub returns-in-Err-clause-exact : goal.returns-in-Err-clause-exact
returns-in-Err-clause-exact c =
    let same = words-placed c.as_slice.result.now c.args.tokens.now c.as_slice.ensures in
    let given = subst (λ (ws : List Word). Gives problem_of c.whole_problem.result (read_whole problem ws))
    same c.whole_problem.ensures in
    let within = err-within problem problem-law problem-last problem_of c.args.tokens.now c.whole_problem.result
    c.in-Err.refusal c.in-Err.is given c.requires.words in
    err-exact problem problem-law problem_of c.args.tokens.now c.whole_problem.result c.in-Err.refusal
    c.read_fault.result c.in-Err.is given within c.read_fault.ensures

pub returns-in-Err-clause-again : goal.returns-in-Err-clause-again
returns-in-Err-clause-again c =
    let same = words-placed c.as_slice.result.now c.args.tokens.now c.as_slice.ensures in
    let given = subst (λ (ws : List Word). Gives problem_of c.whole_problem.result (read_whole problem ws))
    same c.whole_problem.ensures in
    err-again problem problem-law problem_of c.args.tokens.now c.whole_problem.result c.in-Err.refusal
    c.read_fault.result c.in-Err.is given c.read_fault.ensures
