use Rattle.std.proofs.Common.{◌≡◌, ℕ, List, Ok, map, ap, subst, ◌∙◌}
use Rattle.std.specs.Prelude.{IfOk}
use Rattle.cyc_lex.specs.Lexing.{tokens_of}
use Rattle.cyc_lex.specs.Word.{Word, word}
use Rattle.proof_syntax.specs.Trees.{node_of}
use Rattle.proof_picture.specs.Layout.{label}
use Rattle.proof_picture.specs.Pieces.{piece_of}
use Rattle.proof_picture.proofs.Alone.{tokens_between}
use Rattle.proof_picture.specs.Words.{named_words, scope_of}
use Rattle.proof_picture.proofs.names.labels.node_words.Goals as goal

pub statement-requires : goal.statement-requires
statement-requires c =
    let told = subst (λ (bs : List ℕ). tokens_of bs ≡ Ok c.in_ok-tokens.tokens)
    c.deref.ensures.value c.in_ok-tokens.ensures.0 in
    let both = tokens_between (node_of c.args.node)
    c.in_ok-text.text.items c.in_ok-tokens.tokens c.as_slice.result.now c.in_ok-text.ensures told c.as_slice.ensures
    in
    both.0

pub returns : goal.returns
returns c =
    let told = subst (λ (bs : List ℕ). tokens_of bs ≡ Ok c.in_ok-tokens.tokens)
    c.deref.ensures.value c.in_ok-tokens.ensures.0 in
    let both = tokens_between (node_of c.args.node)
    c.in_ok-text.text.items c.in_ok-tokens.tokens c.as_slice.result.now c.in_ok-text.ensures told c.as_slice.ensures
    in
    let words = ap (map word) c.statement.ensures ∙ both.1 in
    subst (λ (ws : List Word). IfOk c.lay_out_named.result
    (λ v. map piece_of v.items ≡ label c.args.flags.now (named_words (scope_of c.args.scope.now) ws)))
    words c.lay_out_named.ensures
