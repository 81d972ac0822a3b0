-- The words of a reason are its word and those after it, which have a text where the reason has one.
use Rattle.std.proofs.Common.{◌≡◌, ◌∷◌, refl}
use Rattle.proof_syntax.specs.Trees.{Reason, Absurd, Rewrite, Split, Distinct, Weaken, Unfold, Cut, Done, Choose}
use Rattle.proof_syntax.specs.Trees.{PureRight, Instantiate, Frame, UnfoldRight, Exec, Drop, Link}
use Rattle.proof_syntax.specs.Grammar.{parts, reason_word, reason}
use Rattle.proof_syntax.specs.ReasonParts.{word_of_reason, behind_word, FitsBehind}

pub reason-words : (r : Reason) → reason.words r ≡ reason_word.word (word_of_reason r) ∷ behind_word r
unfolding reason parts
reason-words Absurd = refl
reason-words (Rewrite k s) = refl
reason-words (Split t u) = refl
reason-words (Distinct i j) = refl
reason-words (Weaken k) = refl
reason-words (Unfold k) = refl
reason-words (Cut positions formula) = refl
reason-words Done = refl
reason-words (Choose j) = refl
reason-words (PureRight k) = refl
reason-words (Instantiate v t) = refl
reason-words (Frame i j) = refl
reason-words (UnfoldRight j c) = refl
reason-words Exec = refl
reason-words (Drop k) = refl
reason-words (Link l) = refl

pub reason-fits : (r : Reason) → reason.fits r → FitsBehind r
unfolding reason parts
reason-fits Absurd f = tt
reason-fits (Rewrite k s) f = f.1.1
reason-fits (Split t u) f = f.1.1
reason-fits (Distinct i j) f = f.1.1
reason-fits (Weaken k) f = f.1.1
reason-fits (Unfold k) f = f.1.1
reason-fits (Cut positions formula) f = f.1.1
reason-fits Done f = tt
reason-fits (Choose j) f = f.1.1
reason-fits (PureRight k) f = f.1.1
reason-fits (Instantiate v t) f = f.1.1
reason-fits (Frame i j) f = f.1.1
reason-fits (UnfoldRight j c) f = f.1.1
reason-fits Exec f = tt
reason-fits (Drop k) f = f.1.1
reason-fits (Link l) f = f.1.1
