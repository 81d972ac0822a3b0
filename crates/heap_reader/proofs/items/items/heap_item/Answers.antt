use Rattle.std.proofs.Common.{◌≡◌, ◌∙◌, List, Some, None, refl, sym, ap, subst}
use Rattle.std.proofs.lemmas.List.{append-nil}
use Rattle.cyc_basics.specs.Limits.{AreLimits}
use Rattle.heap_reader.specs.Trees.{Heading, defined_headings}
use Rattle.heap_reader.specs.Flaws.{heap_flaw}
use Rattle.heap_reader.specs.Values.{heap_value}
use Rattle.heap_syntax.specs.DefinitionTrees.{heap_of}
use Rattle.heap_reader.specs.declared.definitions.scope.Scope.TheVariants.{Outside}
use Rattle.heap_reader.specs.DefinitionSpans.{term_span}
use Rattle.heap_reader.specs.DefinitionFlaws.{term_flaw}
use Rattle.heap_reader.specs.DefinitionValues.{term_value}
use Rattle.heap_reader.proofs.DefinitionFitting.{outside_small}
use Rattle.heap_reader.proofs.Stable.{heap_stable, stays, stays_none}
use Rattle.heap_reader.proofs.items.items.heap_item.Goals as goal

pub heap_value-requires-clause-small : goal.heap_value-requires-clause-small
heap_value-requires-clause-small c = outside_small c.most.result
    (subst AreLimits (sym c.most.ensures.value) c.most.ensures.fits) c.in_ok-heads.heads c.args.at
    (heap_of c.args.tree) c.in-Ok.ensures.0

pub returns-in-Ok : goal.returns-in-Ok
returns-in-Ok c =
    let book = c.args.defs.now in
    let heads_are = c.in_ok-heads.ensures ∙ c.in_ok-heads_of.ensures ∙ ap defined_headings c.as_slice.ensures.value in
    let none : heap_flaw (term_flaw Outside) term_span book.most (defined_headings book.list) c.args.at
    (heap_of c.args.tree) ≡ None =
    sym (λ i. heap_flaw (term_flaw Outside) term_span (c.most.ensures.value i) (heads_are i) c.args.at
    (heap_of c.args.tree)) ∙ c.in-Ok.ensures.0 in (
      (λ more. stays_none _ _ none (heap_stable (term_flaw Outside) term_span book.most (defined_headings book.list)
          more c.args.at (heap_of c.args.tree))),
      c.in_ok-heap_value-in-Ok.ensures ∙ ap (λ (hs : List Heading). heap_value term_value hs (heap_of c.args.tree))
          heads_are,
    )

pub returns-in-Err : goal.returns-in-Err
returns-in-Err c =
    let book = c.args.defs.now in
    let heads_are = c.in_ok-heads.ensures ∙ c.in_ok-heads_of.ensures ∙ ap defined_headings c.as_slice.ensures.value in
    let found : heap_flaw (term_flaw Outside) term_span book.most (defined_headings book.list) c.args.at
    (heap_of c.args.tree) ≡ Some c.in-Err.flaw =
    sym (λ i. heap_flaw (term_flaw Outside) term_span (c.most.ensures.value i) (heads_are i) c.args.at
    (heap_of c.args.tree)) ∙ c.in-Err.ensures in (
      ap (λ (hs : List Heading). heap_flaw (term_flaw Outside) term_span book.most hs c.args.at (heap_of c.args.tree))
          (append-nil (defined_headings book.list)) ∙ found,
      sym c.is_open.ensures ∙ c.if-is_open.true,
      refl,
    )

pub returns : goal.returns
returns c =
    let book = c.args.defs.now in
    let heads_are = c.in_ok-heads.ensures ∙ c.in_ok-heads_of.ensures ∙ ap defined_headings c.as_slice.ensures.value in
    let found : heap_flaw (term_flaw Outside) term_span book.most (defined_headings book.list) c.args.at
    (heap_of c.args.tree) ≡ Some c.in-Err.flaw =
    sym (λ i. heap_flaw (term_flaw Outside) term_span (c.most.ensures.value i) (heads_are i) c.args.at
    (heap_of c.args.tree)) ∙ c.in-Err.ensures in
    λ more. stays _ _ c.in-Err.flaw found (sym c.is_open.ensures ∙ c.if-is_open.false)
    (heap_stable (term_flaw Outside) term_span book.most (defined_headings book.list) more c.args.at
    (heap_of c.args.tree))
