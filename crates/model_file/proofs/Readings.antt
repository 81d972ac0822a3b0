-- What is written is read again.
use Rattle.std.proofs.Common.{◌≡◌, ℕ, List, Result, Ok, Err, sym, ap, subst, ◌∙◌}
use Rattle.std.specs.Prelude.{IfOk}
use Rattle.cyc_lex.specs.declared.fault.ReadFault.{ReadFault}
use Rattle.cyc_lex.specs.Spacing.{text_of}
use Rattle.cyc_lex.proofs.Lexemes.{lexemes-read}
use Rattle.heap_reader.specs.Reading.{Spells}
use Rattle.heap_reader.proofs.Readings.{again, ok_tokens, one_value}
use Rattle.model_file.specs.Trees as trees
use Rattle.model_file.specs.Grammar.{body, model}
use Rattle.model_file.proofs.ModelLaws.{model-law}
use Rattle.model_file.proofs.ModelEnds.{body-inner}
use Rattle.model_file.specs.declared.file.Model.{Model}
use Rattle.model_file.specs.Written.{tree_of, text_of_model}
use Rattle.model_file.specs.Reading.{AreSame, IsModelOf, IsRead, IsReadAgain, Reads, model_files}
use Rattle.model_file.proofs.ModelsAgain.{model_known}

-- a tree says one model
pub one_model : (t : trees.Model) (m n : Model) → IsModelOf t m → IsModelOf t n → AreSame m n
one_model t m n first second = record {
  version = first.version ∙ sym second.version;
  most = first.most ∙ sym second.most;
  definitions = first.definitions ∙ sym second.definitions;
  stack = first.stack ∙ sym second.stack;
  heap = first.heap ∙ sym second.heap;
  ask = first.ask ∙ sym second.ask;
}

-- bytes spell one model
pub one_spelled : (bytes : List ℕ) (m n : Model) → IsRead bytes (Ok m) → IsRead bytes (Ok n) → AreSame m n
one_spelled bytes m n first second =
    one_value model_files model-law AreSame one_model first.0 m n first.2
    (subst (λ ts. Spells model_files ts n) (ok_tokens first.0 second.0 bytes first.1 second.1) second.2)

-- ---- what is written

-- a model's text spells it
pub text_is_read : (m : Model) → IsRead (text_of_model m.version m.defs.list m.stack m.heap m.ask) (Ok m)
unfolding model
text_is_read m =
    let t = tree_of m.version m.defs.list m.stack m.heap m.ask in
    let has = lexemes-read (body.words t) (body-inner.inner t m.fits) in
    (has.0, has.1, (t, (m.fits, has.2), m.flawless, model_known m))

-- what is written of a model, if anything, spells it
pub written_is_read : {V E : Type 0} (items : V → List ℕ) (m : Model) (t : trees.Model) (r : Result V E)
    → t ≡ tree_of m.version m.defs.list m.stack m.heap m.ask → IfOk r (λ v. items v ≡ text_of (body.words t))
    → IfOk r (λ v. IsRead (items v) (Ok m))
written_is_read items m t (Ok v) same h =
    subst (λ bs. IsRead bs (Ok m)) (sym (h ∙ ap (λ u. text_of (body.words u)) same)) (text_is_read m)
written_is_read items m t (Err e) same h = tt

-- what is read of a model's text is that model
pub text_read_again : (m : Model) (bytes : List ℕ) (answer : Result Model ReadFault)
    → bytes ≡ text_of_model m.version m.defs.list m.stack m.heap m.ask → Reads bytes answer → IsReadAgain m answer
text_read_again m bytes answer same =
    again model_files model-law AreSame one_model m bytes answer
    (subst (λ bs. IsRead bs (Ok m)) (sym same) (text_is_read m))
