-- Ends with numbered variables are lawful, and their texts are of lexemes.
use Rattle.std.proofs.Common.{◌≡◌, ℕ, false, List, refl}
use Rattle.std.specs.Prelude.{map}
use Rattle.cyc_lex.specs.Word.{Word}
use Rattle.cyc_grammar.specs.Syntax.{is_one}
use Rattle.cyc_grammar.proofs.Laws.{Lawful}
use Rattle.cyc_grammar.proofs.Ends.{Inner}
use Rattle.heap_syntax.specs.declared.keep.Keep.{Keep}
use Rattle.heap_syntax.specs.declared.keep.Keep.TheVariants.{All, Beyond}
use Rattle.heap_syntax.specs.declared.version.Version.{Version}
use Rattle.heap_syntax.specs.Words.{or_word, semicolon}
use Rattle.heap_syntax.specs.Grammar as shared
use Rattle.heap_syntax.specs.Grammar.{some_heap}
use Rattle.heap_syntax.specs.Keeping.{heap_front}
use Rattle.heap_syntax.specs.EndKeeping.{end_front}
use Rattle.heap_syntax.specs.EndGrammar as grammar
use Rattle.heap_syntax.specs.EndGrammar.{ends_word}
use Rattle.heap_syntax.specs.NumberedEnds.{End, end, kept_end, ends}
use Rattle.heap_syntax.specs.DefinitionGrammar.{terms, terms_of, spatial, heap}
use Rattle.heap_syntax.proofs.Fronts.{Fronts}
use Rattle.heap_syntax.proofs.FrontFits.{listed-fits, all-fit}
use Rattle.heap_syntax.proofs.DefinitionFrontFits.{heap-fits}
use Rattle.heap_syntax.proofs.DefinitionLaws.{terms-all, spatial-lawful}
use Rattle.heap_syntax.proofs.DefinitionEnds.{terms-inner, spatial-of}
use Rattle.heap_syntax.proofs.EndLaws as laws

pub end-law : Lawful end
end-law = laws.end-law (terms_of (terms false)) (spatial (terms false)) (terms-all false) (spatial-lawful false)

pub end-closed : (e : End) (d : Word) → end.more e d ≡ false
end-closed e d = laws.end-closed (terms_of (terms false)) (spatial (terms false)) e d

pub ends-law : (version : Version) → Lawful (ends version)
ends-law version = laws.ends-law (terms_of (terms false)) (spatial (terms false)) version (terms-all false)
    (spatial-lawful false)

-- ends go on at the word "ends" alone
pub ends-end : (version : Version) (d : Word) → is_one ends_word d ≡ false → (es : List End)
    → (ends version).more es d ≡ false
ends-end version d h es = laws.ends-end (terms_of (terms false)) (spatial (terms false)) version d h es

pub ends-inner : (version : Version) → Inner (ends version)
ends-inner version = laws.ends-inner (terms_of (terms false)) (spatial (terms false)) version (terms-inner false)
    (spatial-of false)

-- ---- what is kept

pub end-front : (k : Keep) → Fronts (end_front k) end (kept_end k)
end-front k = laws.end-front (terms_of (terms false)) (spatial (terms false)) k

pub end-fits : (m : ℕ) (e : End) → end.fits e → end.fits (end_front (Beyond m) e)
unfolding grammar.end
end-fits m e f = (
  tt,
  (
    f.1.0,
    listed-fits m some_heap or_word semicolon (heap (terms false)) (map (heap_front (Beyond m)) e.disjuncts)
        (all-fit (heap_front (Beyond m)) some_heap or_word semicolon (heap (terms false)) (heap-fits false m) e.disjuncts
        f.1.1),
  ),
)

-- where all is kept
pub whole-end : kept_end All ≡ end
unfolding grammar.end grammar.kept_end shared.heap shared.kept_heap shared.pures shared.pures1 shared.kept_pures
    shared.listed shared.kept_listed shared.spatials shared.spatials1 shared.kept_spatials
whole-end = refl
