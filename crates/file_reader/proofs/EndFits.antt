-- Ends that are read as statements have a text in the version's files, and so has what is kept of them.
use Rattle.std.proofs.Common.{ℕ, Bool, true, false, List, [], ◌∷◌, ◌++◌, inl, inr}
use Rattle.std.specs.Prelude.{map}
use Rattle.cyc_grammar.specs.Syntax.{fits_many}
use Rattle.heap_syntax.specs.declared.keep.Keep.TheVariants.{Beyond}
use Rattle.heap_syntax.specs.declared.version.Version.{Version}
use Rattle.heap_syntax.specs.LineGrammar.{has_ends}
use Rattle.heap_syntax.specs.Grammar.{some_heap}
use Rattle.heap_syntax.specs.EndGrammar as grammar
use Rattle.heap_syntax.specs.DefinitionGrammar.{terms_of, terms, spatial, heap}
use Rattle.heap_syntax.specs.DefinitionKeeping.{heap_front}
use Rattle.heap_syntax.specs.EndKeeping.{end_front}
use Rattle.heap_syntax.specs.Words.{or_word, semicolon}
use Rattle.heap_syntax.proofs.FrontFits.{listed-fits, all-fit}
use Rattle.heap_syntax.proofs.DefinitionFrontFits.{heap-fits}
use Rattle.proof_syntax.specs.Trees.{End, Node}
use Rattle.proof_syntax.specs.Grammar.{end, ends, node}
use Rattle.proof_syntax.specs.Left.{end_or_node, end_or_node_over}

-- ---- one end

end-fits : (m : ℕ) (e : End) → end.fits e → end.fits (end_front (Beyond m) e)
unfolding grammar.end
end-fits m e f = (
  f.0,
  (
    f.1.0,
    listed-fits m some_heap or_word semicolon (heap (terms false)) (map (heap_front (Beyond m)) e.disjuncts)
        (all-fit (heap_front (Beyond m)) some_heap or_word semicolon (heap (terms false)) (heap-fits false m) e.disjuncts
        f.1.1),
  ),
)

-- ---- ends, where the version has them or not

many-more : (es : List End) (e : End) → fits_many end es → end.fits e → fits_many end (es ++ e ∷ [])
many-more [] e f g = (g, tt)
many-more (x ∷ es) e f g = (f.0, many-more es e f.1 g)

many-kept : (m : ℕ) (es : List End) → fits_many end es → fits_many end (map (end_front (Beyond m)) es)
many-kept m [] f = tt
many-kept m (e ∷ es) f = (end-fits m e f.0, many-kept m es f.1)

abbrev AllFit : Bool → List End → Type 0
AllFit b es = (grammar.ends_where b (terms_of (terms false)) (spatial (terms false))).fits es

where-more : (b : Bool) (es : List End) (e : End) → AllFit b es → (end_or_node_over b end node).fits (inl e)
    → AllFit b (es ++ e ∷ [])
where-more true es e f g = many-more es e f g
where-more false es e f g = absurd g.0

where-kept : (b : Bool) (m : ℕ) (es : List End) → AllFit b es → AllFit b (map (end_front (Beyond m)) es)
where-kept true m es f = many-kept m es f
where-kept false m [] f = f
where-kept false m (e ∷ es) f = absurd f.0

where-node : (b : Bool) (n : Node) → (end_or_node_over b end node).fits (inr n) → node.fits n
where-node true n f = f
where-node false n f = f.1

where-none : (b : Bool) → AllFit b []
where-none true = tt
where-none false = (tt, tt)

pub ends-none : (v : Version) → (ends v).fits []
unfolding grammar.ends
ends-none v = where-none (has_ends v)

pub ends-more : (v : Version) (es : List End) (e : End) → (ends v).fits es → (end_or_node v).fits (inl e)
    → (ends v).fits (es ++ e ∷ [])
unfolding grammar.ends end_or_node
ends-more v es e f g = where-more (has_ends v) es e f g

pub ends-kept : (v : Version) (m : ℕ) (es : List End) → (ends v).fits es
    → (ends v).fits (map (end_front (Beyond m)) es)
unfolding grammar.ends
ends-kept v m es f = where-kept (has_ends v) m es f

pub later-node : (v : Version) (n : Node) → (end_or_node v).fits (inr n) → node.fits n
unfolding end_or_node
later-node v n f = where-node (has_ends v) n f
