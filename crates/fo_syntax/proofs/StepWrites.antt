-- Writing items one after the other, where each tells what may come next.
use Rattle.std.proofs.Common.{◌≡◌, List, [], ◌∷◌, sym, ap, subst, ◌∙◌}
use Rattle.cyc_lex.specs.Writing.{Written, write_all}
use Rattle.cyc_lex.proofs.WritingLaws.{write_all_on}
use Rattle.fo_syntax.specs.Steps.{Steps, words_steps, fits_steps}

-- an item was written, and the rest is still to be written
pub wrote-step : {S A : Type 0} (p : Steps S A) (s : S) (now next total : Written) (x : A) (rest whole : List A)
    → whole ≡ x ∷ rest → next ≡ write_all now ((p.item s).words x) → write_all now (words_steps p s whole) ≡ total
    → write_all next (words_steps p (p.next s x) rest) ≡ total
wrote-step p s now next total x rest whole e wrote so_far =
    ap (λ w. write_all w (words_steps p (p.next s x) rest)) wrote
    ∙ sym (write_all_on now ((p.item s).words x) (words_steps p (p.next s x) rest))
    ∙ ap (λ xs. write_all now (words_steps p s xs)) (sym e) ∙ so_far

pub wrote-steps : {S A : Type 0} (p : Steps S A) (s : S) (now total : Written) (whole : List A) → whole ≡ []
    → write_all now (words_steps p s whole) ≡ total → now ≡ total
unfolding write_all
wrote-steps p s now total whole e so_far = sym (ap (λ xs. write_all now (words_steps p s xs)) e) ∙ so_far

pub step-fits : {S A : Type 0} (p : Steps S A) (s : S) (x : A) (rest whole : List A) → whole ≡ x ∷ rest
    → fits_steps p s whole → (p.item s).fits x × fits_steps p (p.next s x) rest
step-fits {A = A} p s x rest whole e h = (subst (λ (xs : List A). fits_steps p s xs) e h).1
