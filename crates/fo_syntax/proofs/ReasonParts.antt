-- What is read after a rule's word, and a fault there.
use Rattle.std.proofs.Common.{◌≡◌, Ok, List, ◌∷◌, refl, sym, subst}
use Rattle.cyc_lex.specs.Word.{Word}
use Rattle.cyc_grammar.specs.declared.cursor.Refusal.{Refusal}
use Rattle.cyc_grammar.specs.Giving.{Fails}
use Rattle.cyc_grammar.proofs.Loop.{passed_on}
use Rattle.fo_syntax.specs.declared.proofs.reason_word.ReasonWord.{ReasonWord}
use Rattle.fo_syntax.specs.ProofWords.{reason_word}
use Rattle.fo_syntax.specs.ProofGrammar.{Parts, parts, made_of, parts_read, reason, behind_word, FitsBehind}
use Rattle.fo_syntax.specs.ProofTrees.{Reason, Axiom, Refl, Clash, Decompose, Replace, WeakenLeft, WeakenRight}
use Rattle.fo_syntax.specs.ProofTrees.{Contract, Unfold, Cut, Right, Link, word_of_reason}

pub part_at : (v w : ReasonWord) (ws : List Word) (p : Parts v) (rest : List Word) → w ≡ v
    → (parts v).read ws ≡ Ok (p, rest) → parts_read w ws ≡ Ok (made_of v p, rest)
part_at v w ws p rest same h = subst (λ (u : ReasonWord). parts_read u ws ≡ Ok (made_of v p, rest)) (sym same)
    (rw h refl)

pub fault_at : (v w : ReasonWord) (ws : List Word) (e : Refusal) → w ≡ v → Fails e ((parts v).read ws)
    → Fails e (parts_read w ws)
fault_at v w ws e same h = subst (λ (u : ReasonWord). Fails e (parts_read u ws)) (sym same)
    (passed_on e ((parts v).read ws) (λ y. Ok (made_of v y.0, y.1)) h)

pub reason-words : (r : Reason) → reason.words r ≡ reason_word.word (word_of_reason r) ∷ behind_word r
unfolding reason parts
reason-words (Axiom i j) = refl
reason-words (Refl j) = refl
reason-words (Clash i) = refl
reason-words (Decompose i) = refl
reason-words (Replace i s) = refl
reason-words (WeakenLeft i) = refl
reason-words (WeakenRight i) = refl
reason-words (Contract i) = refl
reason-words (Unfold i) = refl
reason-words (Cut a) = refl
reason-words (Right j k ts) = refl
reason-words (Link l) = refl

pub reason-fits : (r : Reason) → reason.fits r → FitsBehind r
unfolding reason parts
reason-fits (Axiom i j) f = f.1.1
reason-fits (Refl j) f = f.1.1
reason-fits (Clash i) f = f.1.1
reason-fits (Decompose i) f = f.1.1
reason-fits (Replace i s) f = f.1.1
reason-fits (WeakenLeft i) f = f.1.1
reason-fits (WeakenRight i) f = f.1.1
reason-fits (Contract i) f = f.1.1
reason-fits (Unfold i) f = f.1.1
reason-fits (Cut a) f = f.1.1
reason-fits (Right j k ts) f = f.1.1
reason-fits (Link l) f = f.1.1
