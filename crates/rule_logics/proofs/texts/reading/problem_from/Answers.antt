use Rattle.std.proofs.Common.{◌≡◌, true, List, sym, subst, ap, ◌∙◌}
use Rattle.std.specs.Prelude.{map}
use Rattle.cyc_lex.specs.Word.{Word, word_of}
use Rattle.cyc_grammar.specs.Classes.{are_tokens}
use Rattle.cyc_grammar.specs.Giving.{Fails}
use Rattle.cyc_grammar.proofs.WholeTexts.{words-placed, all-tokens}
use Rattle.rule_logics.specs.Grammar.{read_problem}
use Rattle.rule_logics.specs.Reading.{whole}
use Rattle.rule_logics.proofs.Answered.{told}
use Rattle.rule_logics.proofs.texts.reading.problem_from.Goals as goal

pub new-requires : goal.new-requires
new-requires g c =
    let same = words-placed c.as_slice.result.now c.args.tokens.now c.as_slice.ensures in
    subst (λ (ws : List Word). are_tokens ws ≡ true) (sym same)
    (all-tokens (map word_of c.args.tokens.now) c.requires.words)

pub returns-in-Ok : goal.returns-in-Ok
returns-in-Ok g c =
    let same = c.new.ensures ∙ words-placed c.as_slice.result.now c.args.tokens.now c.as_slice.ensures in
    ap (λ (ws : List Word). whole (read_problem (g.T.RuleText.text c.args.texts.now) ws)) (sym same) ∙ c.in-Ok.ensures

pub returns-in-Err : goal.returns-in-Err
returns-in-Err g c =
    let x = g.T.RuleText.text c.args.texts.now in
    let same = c.new.ensures ∙ words-placed c.as_slice.result.now c.args.tokens.now c.as_slice.ensures in
    told (λ i. i) (read_problem x) c.args.tokens.now c.in-Err.refusal c.fault_of.result
    (subst (λ (ws : List Word). Fails c.in-Err.refusal (whole (read_problem x ws))) same c.in-Err.ensures)
    c.fault_of.ensures
