-- The word with which a reason begins, and what stands after it.
use Rattle.std.specs.Prelude.{List, []}
use Rattle.cyc_lex.specs.Word.{Word}
use Rattle.cyc_grammar.specs.Syntax.{one}
use Rattle.cyc_grammar.specs.Classes.{number}
use Rattle.proof_syntax.specs.declared.reason_word.ReasonWord.{ReasonWord}
use Rattle.proof_syntax.specs.declared.reason_word.ReasonWord.TheVariants as words
use Rattle.proof_syntax.specs.Trees.{Reason, Absurd, Rewrite, Split, Distinct, Weaken, Unfold, Cut, Done, Choose}
use Rattle.proof_syntax.specs.Trees.{PureRight, Instantiate, Frame, UnfoldRight, Exec, Drop, Link}
use Rattle.proof_syntax.specs.Grammar.{two_numbers, rewrite, split, cut, instantiate, link}

-- the word with which a reason begins
abbrev pub word_of_reason : Reason → ReasonWord
word_of_reason Absurd = words.Absurd
word_of_reason (Rewrite k side) = words.Rewrite
word_of_reason (Split t u) = words.Split
word_of_reason (Distinct i j) = words.Distinct
word_of_reason (Weaken k) = words.Weaken
word_of_reason (Unfold k) = words.Unfold
word_of_reason (Cut positions formula) = words.Cut
word_of_reason Done = words.Done
word_of_reason (Choose j) = words.Choose
word_of_reason (PureRight k) = words.PureRight
word_of_reason (Instantiate v t) = words.Instantiate
word_of_reason (Frame i j) = words.Frame
word_of_reason (UnfoldRight j c) = words.UnfoldRight
word_of_reason Exec = words.Exec
word_of_reason (Drop k) = words.Drop
word_of_reason (Link l) = words.Link

-- the words after a rule's word, case by case
abbrev pub behind_word : Reason → List Word
behind_word Absurd = []
behind_word (Rewrite k s) = rewrite.words (k, s)
behind_word (Split t u) = split.words (t, u)
behind_word (Distinct i j) = two_numbers.words (i, j)
behind_word (Weaken k) = (one number).words k
behind_word (Unfold k) = (one number).words k
behind_word (Cut positions formula) = cut.words (positions, formula)
behind_word Done = []
behind_word (Choose j) = (one number).words j
behind_word (PureRight k) = (one number).words k
behind_word (Instantiate v t) = instantiate.words (v, t)
behind_word (Frame i j) = two_numbers.words (i, j)
behind_word (UnfoldRight j c) = two_numbers.words (j, c)
behind_word Exec = []
behind_word (Drop k) = (one number).words k
behind_word (Link l) = link.words l

-- these words have a text
abbrev pub FitsBehind : Reason → Type 0
FitsBehind Absurd = Unit {0}
FitsBehind (Rewrite k s) = rewrite.fits (k, s)
FitsBehind (Split t u) = split.fits (t, u)
FitsBehind (Distinct i j) = two_numbers.fits (i, j)
FitsBehind (Weaken k) = (one number).fits k
FitsBehind (Unfold k) = (one number).fits k
FitsBehind (Cut positions formula) = cut.fits (positions, formula)
FitsBehind Done = Unit {0}
FitsBehind (Choose j) = (one number).fits j
FitsBehind (PureRight k) = (one number).fits k
FitsBehind (Instantiate v t) = instantiate.fits (v, t)
FitsBehind (Frame i j) = two_numbers.fits (i, j)
FitsBehind (UnfoldRight j c) = two_numbers.fits (j, c)
FitsBehind Exec = Unit {0}
FitsBehind (Drop k) = (one number).fits k
FitsBehind (Link l) = link.fits l
