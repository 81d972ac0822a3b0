use Rattle.std.proofs.Common.{◌≡◌, true, List, sym, subst}
use Rattle.std.specs.Prelude.{map}
use Rattle.cyc_lex.specs.Word.{Word, word_of}
use Rattle.cyc_grammar.specs.Syntax.{read_whole}
use Rattle.cyc_grammar.specs.Classes.{are_tokens}
use Rattle.cyc_grammar.specs.Giving.{Gives}
use Rattle.cyc_grammar.proofs.WholeTexts.{words-placed, all-tokens, ok-exact, ok-again, err-within, err-exact}
use Rattle.cyc_grammar.proofs.WholeTexts.{err-again}
use Rattle.model_file.specs.Grammar.{model}
use Rattle.model_file.specs.Trees.{model_of}
use Rattle.model_file.proofs.ModelLaws.{model-law}
use Rattle.model_file.proofs.ModelEnds.{model-last}
use Rattle.model_file.proofs.syntax.read_models.read_tree.Goals as goal

pub whole_model-requires : goal.whole_model-requires
whole_model-requires c =
    let same = words-placed c.as_slice.result.now c.args.tokens.now c.as_slice.ensures in
    subst (λ (ws : List Word). are_tokens ws ≡ true) (sym same)
    (all-tokens (map word_of c.args.tokens.now) c.requires.words)

pub read_fault-requires-clause-within : goal.read_fault-requires-clause-within
read_fault-requires-clause-within c =
    let same = words-placed c.as_slice.result.now c.args.tokens.now c.as_slice.ensures in
    let given = subst (λ (ws : List Word). Gives model_of c.whole_model.result (read_whole model ws))
    same c.whole_model.ensures in
    err-within model model-law model-last model_of c.args.tokens.now c.whole_model.result c.in-Err.refusal c.in-Err.is
    given c.requires.words

pub returns-in-Ok-clause-exact : goal.returns-in-Ok-clause-exact
returns-in-Ok-clause-exact c =
    let same = words-placed c.as_slice.result.now c.args.tokens.now c.as_slice.ensures in
    let given = subst (λ (ws : List Word). Gives model_of c.whole_model.result (read_whole model ws))
    same c.whole_model.ensures in
    ok-exact model model-law model_of (map word_of c.args.tokens.now) c.whole_model.result c.in-Ok.tree c.in-Ok.is given

pub returns-in-Ok-clause-again : goal.returns-in-Ok-clause-again
returns-in-Ok-clause-again c =
    let same = words-placed c.as_slice.result.now c.args.tokens.now c.as_slice.ensures in
    let given = subst (λ (ws : List Word). Gives model_of c.whole_model.result (read_whole model ws))
    same c.whole_model.ensures in
    ok-again model model-law model_of (map word_of c.args.tokens.now) c.whole_model.result c.in-Ok.tree c.in-Ok.is given

pub returns-in-Err-clause-exact : goal.returns-in-Err-clause-exact
returns-in-Err-clause-exact c =
    let same = words-placed c.as_slice.result.now c.args.tokens.now c.as_slice.ensures in
    let given = subst (λ (ws : List Word). Gives model_of c.whole_model.result (read_whole model ws))
    same c.whole_model.ensures in
    let within = err-within model model-law model-last model_of c.args.tokens.now c.whole_model.result c.in-Err.refusal
    c.in-Err.is given c.requires.words in
    err-exact model model-law model_of c.args.tokens.now c.whole_model.result c.in-Err.refusal c.read_fault.result
    c.in-Err.is given within c.read_fault.ensures

pub returns-in-Err-clause-again : goal.returns-in-Err-clause-again
returns-in-Err-clause-again c =
    let same = words-placed c.as_slice.result.now c.args.tokens.now c.as_slice.ensures in
    let given = subst (λ (ws : List Word). Gives model_of c.whole_model.result (read_whole model ws))
    same c.whole_model.ensures in
    err-again model model-law model_of c.args.tokens.now c.whole_model.result c.in-Err.refusal c.read_fault.result
    c.in-Err.is given c.read_fault.ensures
