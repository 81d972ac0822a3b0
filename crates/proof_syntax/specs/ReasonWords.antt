-- The words that name a rule, and those that name a side.
use Rattle.std.specs.Prelude.{ℕ, List, [], ◌∷◌, codes}
use Rattle.proof_syntax.specs.declared.tree.SideTree.{SideTree}
use Rattle.proof_syntax.specs.declared.tree.SideTree.TheVariants.{Left, Right}
use Rattle.proof_syntax.specs.declared.reason_word.ReasonWord.{ReasonWord}
use Rattle.proof_syntax.specs.declared.reason_word.ReasonWord.TheVariants.{Absurd, Rewrite, Split, Distinct, Weaken}
use Rattle.proof_syntax.specs.declared.reason_word.ReasonWord.TheVariants.{Unfold, Cut, Done, Choose, PureRight}
use Rattle.proof_syntax.specs.declared.reason_word.ReasonWord.TheVariants.{Instantiate, Frame, UnfoldRight, Exec, Drop}
use Rattle.proof_syntax.specs.declared.reason_word.ReasonWord.TheVariants.{Link}

-- the text of a rule's word
abbrev pub reason_text : ReasonWord → List ℕ
reason_text Absurd = codes "Absurd"
reason_text Rewrite = codes "Rewrite"
reason_text Split = codes "Split"
reason_text Distinct = codes "Distinct"
reason_text Weaken = codes "Weaken"
reason_text Unfold = codes "Unfold"
reason_text Cut = codes "Cut"
reason_text Done = codes "Done"
reason_text Choose = codes "Choose"
reason_text PureRight = codes "PureRight"
reason_text Instantiate = codes "Instantiate"
reason_text Frame = codes "Frame"
reason_text UnfoldRight = codes "UnfoldRight"
reason_text Exec = codes "Exec"
reason_text Drop = codes "Drop"
reason_text Link = codes "Link"

-- all of them
abbrev pub reason_words : List ReasonWord
reason_words = Absurd ∷ Rewrite ∷ Split ∷ Distinct ∷ Weaken ∷ Unfold ∷ Cut ∷ Done ∷ Choose ∷ PureRight ∷ Instantiate
    ∷ Frame ∷ UnfoldRight ∷ Exec ∷ Drop ∷ Link ∷ []

-- the text of a side
abbrev pub side_text : SideTree → List ℕ
side_text Left = codes "left"
side_text Right = codes "right"

-- both of them
abbrev pub sides : List SideTree
sides = Left ∷ Right ∷ []
