-- What is kept of a heap has a text where the heap has one.
use Rattle.std.proofs.Common.{ℕ, Bool, List, [], ◌∷◌, arith}
use Rattle.cyc_grammar.specs.Syntax.{after}
use Rattle.heap_syntax.specs.declared.keep.Keep.TheVariants.{Beyond}
use Rattle.heap_syntax.specs.Words.{comma, colon, star}
use Rattle.heap_syntax.specs.Keeping.{members}
use Rattle.heap_syntax.specs.Grammar as shared
use Rattle.heap_syntax.specs.Grammar.{pure}
use Rattle.heap_syntax.proofs.FrontFits.{taken-fits, listed-fits}
use Rattle.heap_syntax.specs.DefinitionTrees.{PureTree, Spatial, Heap}
use Rattle.heap_syntax.specs.DefinitionKeeping.{heap_front}
use Rattle.heap_syntax.specs.DefinitionGrammar.{terms, some_pure, pures, spatial, spatials, heap}

pures-fit : (b : Bool) (m : ℕ) (xs : List PureTree) → (pures (terms b)).fits xs
    → (pures (terms b)).fits (members (Beyond m) xs)
unfolding shared.pures shared.pures1
pures-fit b m [] f = f
pures-fit b m (x ∷ xs) f = (tt, listed-fits m some_pure comma colon (pure (terms b)) (x ∷ xs) f.1)

spatials-fit : (b : Bool) (m : ℕ) (xs : List Spatial) → (spatials (terms b)).fits xs
    → (spatials (terms b)).fits (members (Beyond m) xs)
unfolding shared.spatials shared.spatials1
spatials-fit b m [] f = f
spatials-fit b m (x ∷ xs) f = (tt, (omega arith, (f.1.1.0, taken-fits (after star (spatial (terms b))) m xs f.1.1.1)))

pub heap-fits : (b : Bool) (m : ℕ) (h : Heap) → (heap (terms b)).fits h
    → (heap (terms b)).fits (heap_front (Beyond m) h)
unfolding shared.heap
heap-fits b m h f = (tt, (pures-fit b m h.pure f.1.0, spatials-fit b m h.spatial f.1.1))
