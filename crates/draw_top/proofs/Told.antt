-- What is answered to a file, and to words.
use Rattle.std.proofs.Common.{◌≡◌, ◌≤◌, ℕ, List, [], ◌∷◌, map, Result, Ok, Err, Option, Some, None, refl, sym, ap}
use Rattle.std.proofs.Common.{subst, ◌∙◌}
use Rattle.std.specs.Prelude.{IfOk}
use Rattle.std.specs.Io.KnownBytes.{Appends}
use Rattle.cyc_io.specs.Bytes.{AppendsProperPrefix}
use Rattle.cyc_runs.specs.Runs.{IsAnswerOf, WroteAnswer, WrotePart}
use Rattle.cyc_runs.specs.declared.endings.Status.{Status}
use Rattle.cyc_runs.specs.declared.endings.Status.TheVariants.{Usage}
use Rattle.cyc_runs.proofs.Told.{some_told}
use Rattle.draw_top.specs.declared.words.View.{View}
use Rattle.draw_top.specs.Graphs.{Drawing}
use Rattle.draw_top.specs.Texts.{graph_text}
use Rattle.draw_top.specs.Words.{view_of}
use Rattle.proof_file.specs.declared.file.ProofFile.{ProofFile}
use Rattle.proof_check.specs.Verdicts.{Verdict}
use Rattle.proof_check.specs.Verdicts.{IsVerdict}
use Rattle.proof_picture.specs.declared.picture.Picture.{Picture}
use Rattle.proof_picture.specs.Pictures.{box_of, IsPicture}
use Rattle.draw_top.specs.Titles.{titled}
use Rattle.cyc_lex.specs.declared.token.Token.{Token}
use Rattle.cyc_lex.specs.Lexing.{tokens_of}
use Rattle.cyc_lex.specs.Placed.{Placed, placed}
use Rattle.cyc_lex.specs.Word.{Word, word, word_of}
use Rattle.formula_reader.specs.Reading.{SpellsTree}
use Rattle.proof_picture.specs.Naming.{Called}
use Rattle.proof_picture.specs.NamedPictures.{IsNamedPicture}
use Rattle.problem_syntax.specs.Trees as named
use Rattle.proof_picture.specs.Pieces.{LabelPart}
use Rattle.draw_top.specs.Answers.{IsAnswerIn, IsDrawn, IsNamedTextOf, IsTextIn, IsTextOf, IsTitledText, WroteDrawing}
use Rattle.draw_top.specs.Answers.{WrotePartOfDrawing, drawing_in, usage_text}

-- the text of a drawing of the picture
pub text_is : {V E : Type 0} (items : V → List ℕ) (r : Result V E) (view : View) (f : ProofFile) (v : Verdict)
    (p : Picture) (d : Drawing) → IsVerdict f v → IsPicture f v p
    → d ≡ drawing_in view (map box_of p.boxes.items) p.is_large → IfOk r (λ b. items b ≡ graph_text d)
    → IfOk r (λ b. IsTextOf view f (items b))
text_is items (Ok b) view f v p d known drawn is h =
    (v, known, h ∙ ap graph_text (is ∙ (λ i. drawing_in view (drawn.boxes i) (drawn.is_large i))))
text_is items (Err e) view f v p d known drawn is h = tt

-- the same with a title, in the words of a problem
pub titled_is : {V E : Type 0} (items : V → List ℕ) (r : Result V E) (view : View) (f : ProofFile) (called : Called)
    (v : Verdict) (p : Picture) (parts : List LabelPart) (g d : Drawing) → IsVerdict f v → IsNamedPicture called f v p
    → g ≡ drawing_in view (map box_of p.boxes.items) p.is_large → d ≡ titled parts p.is_large g
    → IfOk r (λ b. items b ≡ graph_text d) → IfOk r (λ b. IsTitledText view f called parts (items b))
titled_is items (Ok b) view f called v p parts g d known drawn is with h = (
  v,
  known,
  h ∙ ap graph_text (with ∙ ap (titled parts p.is_large) is
      ∙ (λ i. titled parts (drawn.is_large i) (drawing_in view (drawn.boxes i) (drawn.is_large i)))),
)
titled_is items (Err e) view f called v p parts g d known drawn is with h = tt

pub titled_in : {V E : Type 0} (items : V → List ℕ) (r : Result V E) (view : View) (f : ProofFile)
    (called same : Called) (parts others : List LabelPart) → called ≡ same → parts ≡ others
    → IfOk r (λ b. IsTitledText view f called parts (items b)) → IfOk r (λ b. IsTitledText view f same others (items b))
titled_in items r view f called same parts others c p h =
    let first = subst (λ (c : Called). IfOk r (λ b. IsTitledText view f c parts (items b))) c h in
    subst (λ (ps : List LabelPart). IfOk r (λ b. IsTitledText view f same ps (items b))) p first

pub named_is : {V E : Type 0} (items : V → List ℕ) (r : Result V E) (view : View) (f : ProofFile) (problem : List ℕ)
    (tokens : List Placed) (tree : named.Problem) (words : List Word) → tokens_of problem ≡ Ok tokens
    → SpellsTree tokens tree → words ≡ map word_of tokens → IfOk r (λ b. IsTextIn view f tree words (items b))
    → IfOk r (λ b. IsNamedTextOf view f problem (items b))
named_is items (Ok b) view f problem tokens tree words has spelled is h =
    (tokens, tree, has, spelled, subst (λ (ws : List Word). IsTextIn view f tree ws (items b)) is h)
named_is items (Err e) view f problem tokens tree words has spelled is h = tt

pub words_placed : (ts : List Token) (tokens : List Placed) → map placed ts ≡ tokens → map word ts ≡ map word_of tokens
words_placed ts tokens is = words_of_placed ts ∙ ap (map word_of) is
  where
    words_of_placed : (ts : List Token) → map word ts ≡ map word_of (map placed ts)
    words_of_placed [] = refl
    words_of_placed (t ∷ ts) = ap (λ ws. word t ∷ ws) (words_of_placed ts)

-- words that ask for a view were answered by a drawing
pub view_wrote : (words : List (List ℕ)) (view : View) (told old new : Option (List ℕ)) (ending : Status)
    → view_of words ≡ Some view → WroteAnswer (IsAnswerOf (IsDrawn view)) told old new ending
    → WroteDrawing words told old new ending
view_wrote words view told old new ending is wrote = subst
    (λ (v : Option View). WroteAnswer (IsAnswerIn v) told old new ending) (sym is) wrote

pub view_part : (words : List (List ℕ)) (view : View) (told old new : Option (List ℕ)) → view_of words ≡ Some view
    → WrotePart (IsAnswerOf (IsDrawn view)) told old new → WrotePartOfDrawing words told old new
view_part words view told old new is wrote = subst (λ (v : Option View). WrotePart (IsAnswerIn v) told old new) (sym is)
    wrote

-- words without a meaning were answered by the usage
pub usage_wrote : (words : List (List ℕ)) (told old new : Option (List ℕ)) (ending : Status) → view_of words ≡ None
    → (ending ≡ Usage) × Appends old new usage_text → WroteDrawing words told old new ending
usage_wrote words told old new ending is wrote =
    let t = some_told told in
    let answer : WroteAnswer (IsAnswerIn None) told old new ending = (usage_text, (t.0, t.1, (wrote.0, refl)), wrote.1)
    in
    subst (λ (v : Option View). WroteAnswer (IsAnswerIn v) told old new ending) (sym is) answer

pub usage_part : (words : List (List ℕ)) (told old new : Option (List ℕ)) → view_of words ≡ None
    → AppendsProperPrefix old new usage_text → WrotePartOfDrawing words told old new
usage_part words told old new is wrote =
    let t = some_told told in
    let answer : WrotePart (IsAnswerIn None) told old new = (Usage, (usage_text, (t.0, t.1, (refl, refl)), wrote)) in
    subst (λ (v : Option View). WrotePart (IsAnswerIn v) told old new) (sym is) answer
