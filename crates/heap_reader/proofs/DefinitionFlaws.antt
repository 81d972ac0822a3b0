-- The first flaw of what is kept of definitions is the first flaw of the definitions, and without a flaw all is kept.
use Rattle.std.proofs.Common.{◌≡◌, ℕ, ◌+◌, ◌≤◌, List, [], ◌∷◌, None, refl, ap}
use Rattle.std.specs.Prelude.{map}
use Rattle.cyc_basics.specs.declared.limits.Limits.{Limits}
use Rattle.cyc_lex.specs.declared.fault.What.TheVariants.{Cases}
use Rattle.heap_syntax.specs.declared.keep.Keep.TheVariants.{Beyond}
use Rattle.heap_syntax.specs.DefinitionKeeping.{definition_front}
use Rattle.heap_syntax.specs.DefinitionTrees.{Heap, Definition}
use Rattle.heap_reader.specs.Trees.{Heading}
use Rattle.heap_reader.specs.Flaws.{or_later, listed_flaw, heaps_flaw}
use Rattle.heap_reader.proofs.NoFlaw.{neither}
use Rattle.heap_reader.proofs.FlawFronts.{mapped_flaw, mapped_whole, fronts_flaw, fronts_whole}
use Rattle.heap_reader.specs.declared.definitions.scope.Scope.TheVariants.{Case as InCase}
use Rattle.heap_reader.specs.DefinitionSpans.{term_span, definition_span}
use Rattle.heap_reader.specs.DefinitionFlaws.{term_flaw, heading, headings, head_flaw, definition_flaw}

module _ (most : Limits) (m : ℕ) (pures_within : most.pure ≤ m) (spatials_within : most.spatial ≤ m)
    (cases_within : most.cases ≤ m) (hs : List Heading) where
  definition_same : (n k : ℕ) (d : Definition) → definition_flaw most hs n k (definition_front (Beyond m) d)
      ≡ definition_flaw most hs n k d
  definition_same n k d = ap (λ o. or_later (head_flaw most hs n k d) o)
      (fronts_flaw (term_flaw (InCase d.arity most.locals)) term_span most hs m pures_within spatials_within Cases
      cases_within
      (k + 6) d.cases)

  definition_whole : (n k : ℕ) (d : Definition) → definition_flaw most hs n k d ≡ None
      → definition_front (Beyond m) d ≡ d
  definition_whole n k d e =
      let both = neither (head_flaw most hs n k d) (heaps_flaw (term_flaw (InCase d.arity most.locals)) term_span most
      hs Cases (k + 6)
      d.cases) e in
      ap (λ (cases : List Heap). record { name = d.name; arity = d.arity; cases = cases })
      (fronts_whole (term_flaw (InCase d.arity most.locals)) term_span most hs m pures_within spatials_within Cases
      cases_within
      (k + 6) d.cases both.1)

  pub definitions_flaw : (n k : ℕ) (ds : List Definition)
      → listed_flaw (definition_flaw most hs) definition_span n k (map (definition_front (Beyond m)) ds)
      ≡ listed_flaw (definition_flaw most hs) definition_span n k ds
  definitions_flaw n k ds = mapped_flaw (definition_flaw most hs) definition_span (definition_front (Beyond m))
      definition_same definition_whole n k ds

  pub definitions_whole : (n k : ℕ) (ds : List Definition)
      → listed_flaw (definition_flaw most hs) definition_span n k ds ≡ None → map (definition_front (Beyond m)) ds ≡ ds
  definitions_whole n k ds e = mapped_whole (definition_flaw most hs) definition_span (definition_front (Beyond m))
      definition_same definition_whole n k ds e

pub same_headings : (m : ℕ) (ds : List Definition) → headings (map (definition_front (Beyond m)) ds) ≡ headings ds
same_headings m [] = refl
same_headings m (d ∷ ds) = ap (λ (hs : List Heading). heading d ∷ hs) (same_headings m ds)
