-- The words of proof files of first-order logic that are not those of theories.
use Rattle.std.specs.Prelude.{ℕ, List, [], ◌∷◌, codes}
use Rattle.cyc_grammar.specs.Syntax.{Class}
use Rattle.cyc_grammar.specs.Classes.{keyword, keyword_of}
use Rattle.fo_syntax.specs.declared.proofs.tree.SideTree.{SideTree}
use Rattle.fo_syntax.specs.declared.proofs.tree.SideTree.TheVariants as sided
use Rattle.fo_syntax.specs.declared.proofs.reason_word.ReasonWord.{ReasonWord}
use Rattle.fo_syntax.specs.declared.proofs.reason_word.ReasonWord.TheVariants.{Axiom, Refl, Clash, Decompose, Replace}
use Rattle.fo_syntax.specs.declared.proofs.reason_word.ReasonWord.TheVariants.{WeakenLeft, WeakenRight, Contract}
use Rattle.fo_syntax.specs.declared.proofs.reason_word.ReasonWord.TheVariants.{Unfold, Cut, Right, Link}

abbrev pub fo_word : Class (Unit {0})
fo_word = keyword (codes "fo")

-- the text of a side
abbrev pub side_text : SideTree → List ℕ
side_text sided.Left = codes "left"
side_text sided.Right = codes "right"

-- both of them
abbrev pub sides : List SideTree
sides = sided.Left ∷ sided.Right ∷ []

abbrev pub side_word : Class SideTree
side_word = keyword_of side_text sides

-- the text of a rule's word
abbrev pub reason_text : ReasonWord → List ℕ
reason_text Axiom = codes "Axiom"
reason_text Refl = codes "Refl"
reason_text Clash = codes "Clash"
reason_text Decompose = codes "Decompose"
reason_text Replace = codes "Replace"
reason_text WeakenLeft = codes "WeakenLeft"
reason_text WeakenRight = codes "WeakenRight"
reason_text Contract = codes "Contract"
reason_text Unfold = codes "Unfold"
reason_text Cut = codes "Cut"
reason_text Right = codes "Right"
reason_text Link = codes "Link"

-- all of them
abbrev pub reason_words : List ReasonWord
reason_words = Axiom ∷ Refl ∷ Clash ∷ Decompose ∷ Replace ∷ WeakenLeft ∷ WeakenRight ∷ Contract ∷ Unfold ∷ Cut ∷ Right
    ∷ Link ∷ []

abbrev pub reason_word : Class ReasonWord
reason_word = keyword_of reason_text reason_words
