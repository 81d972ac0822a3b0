use Rattle.std.proofs.Common.{◌≡◌, true, List, sym, subst}
use Rattle.std.specs.Prelude.{map}
use Rattle.cyc_lex.specs.Word.{Word, word_of}
use Rattle.cyc_grammar.specs.Syntax.{read_whole}
use Rattle.cyc_grammar.specs.Classes.{are_tokens}
use Rattle.cyc_grammar.specs.Giving.{Gives}
use Rattle.cyc_grammar.proofs.WholeTexts.{words-placed, all-tokens, ok-exact, ok-again, err-within, err-exact}
use Rattle.cyc_grammar.proofs.WholeTexts.{err-again}
use Rattle.run_file.specs.Grammar.{run}
use Rattle.run_file.specs.Trees.{run_of}
use Rattle.run_file.proofs.RunLaws.{run-law}
use Rattle.run_file.proofs.RunEnds.{run-last}
use Rattle.run_file.proofs.read_runs.read_tree.Goals as goal

pub whole_run-requires : goal.whole_run-requires
whole_run-requires c =
    let same = words-placed c.as_slice.result.now c.args.tokens.now c.as_slice.ensures in
    subst (λ (ws : List Word). are_tokens ws ≡ true) (sym same)
    (all-tokens (map word_of c.args.tokens.now) c.requires.words)

pub read_fault-requires-clause-within : goal.read_fault-requires-clause-within
read_fault-requires-clause-within c =
    let same = words-placed c.as_slice.result.now c.args.tokens.now c.as_slice.ensures in
    let given = subst (λ (ws : List Word). Gives run_of c.whole_run.result (read_whole run ws)) same c.whole_run.ensures
    in
    err-within run run-law run-last run_of c.args.tokens.now c.whole_run.result c.in-Err.refusal c.in-Err.is given
    c.requires.words

pub returns-in-Ok-clause-exact : goal.returns-in-Ok-clause-exact
returns-in-Ok-clause-exact c =
    let same = words-placed c.as_slice.result.now c.args.tokens.now c.as_slice.ensures in
    let given = subst (λ (ws : List Word). Gives run_of c.whole_run.result (read_whole run ws)) same c.whole_run.ensures
    in
    ok-exact run run-law run_of (map word_of c.args.tokens.now) c.whole_run.result c.in-Ok.tree c.in-Ok.is given

pub returns-in-Ok-clause-again : goal.returns-in-Ok-clause-again
returns-in-Ok-clause-again c =
    let same = words-placed c.as_slice.result.now c.args.tokens.now c.as_slice.ensures in
    let given = subst (λ (ws : List Word). Gives run_of c.whole_run.result (read_whole run ws)) same c.whole_run.ensures
    in
    ok-again run run-law run_of (map word_of c.args.tokens.now) c.whole_run.result c.in-Ok.tree c.in-Ok.is given

pub returns-in-Err-clause-exact : goal.returns-in-Err-clause-exact
returns-in-Err-clause-exact c =
    let same = words-placed c.as_slice.result.now c.args.tokens.now c.as_slice.ensures in
    let given = subst (λ (ws : List Word). Gives run_of c.whole_run.result (read_whole run ws)) same c.whole_run.ensures
    in
    let within = err-within run run-law run-last run_of c.args.tokens.now c.whole_run.result c.in-Err.refusal
    c.in-Err.is given c.requires.words in
    err-exact run run-law run_of c.args.tokens.now c.whole_run.result c.in-Err.refusal c.read_fault.result c.in-Err.is
    given within c.read_fault.ensures

pub returns-in-Err-clause-again : goal.returns-in-Err-clause-again
returns-in-Err-clause-again c =
    let same = words-placed c.as_slice.result.now c.args.tokens.now c.as_slice.ensures in
    let given = subst (λ (ws : List Word). Gives run_of c.whole_run.result (read_whole run ws)) same c.whole_run.ensures
    in
    err-again run run-law run_of c.args.tokens.now c.whole_run.result c.in-Err.refusal c.read_fault.result c.in-Err.is
    given c.read_fault.ensures
