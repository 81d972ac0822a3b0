-- What is written for premises.
use Rattle.std.proofs.Common.{◌≡◌, ℕ, List, [], ◌∷◌, ◌++◌}
use Rattle.cyc_lex.specs.Word.{Word}
use Rattle.cyc_lex.specs.Writing.{Written, write, write_all}
use Rattle.cyc_grammar.specs.Classes.{number}
use Rattle.cyc_grammar.proofs.WrittenTexts.{wrote-behind, wrote-both}
use Rattle.heap_syntax.specs.Words.{to_word, semicolon}
use Rattle.heap_syntax.specs.Numbers.{numbers, premises}

pub premises-wrote : (old a b c d : Written) (n : ℕ) (ns : List ℕ) → a ≡ write old (to_word.word tt)
    → b ≡ write a (number.word n) → c ≡ write_all b (numbers.words ns) → d ≡ write c (semicolon.word tt)
    → d ≡ write_all old (premises.words (n ∷ ns))
unfolding premises write_all
premises-wrote old a b c d n ns ha hb hc hd =
    let rest : List Word = numbers.words ns ++ semicolon.word tt ∷ [] in
    wrote-behind old a d (to_word.word tt) (number.word n ∷ rest) ha
    (wrote-behind a b d (number.word n) rest hb (wrote-both b c d (numbers.words ns) (semicolon.word tt ∷ [])
    hc hd))
