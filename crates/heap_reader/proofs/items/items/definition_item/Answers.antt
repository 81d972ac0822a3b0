use Rattle.std.proofs.Common.{◌≡◌, ◌∙◌, ◌+◌, ℕ, List, [], ◌∷◌, ◌++◌, length, map, Some, None, refl, sym, ap, subst}
use Rattle.std.proofs.Common.{arith, length-append, append_assoc}
use Rattle.std.proofs.lemmas.List.{length-map}
use Rattle.cyc_basics.specs.Limits.{AreLimits}
use Rattle.cyc_basics.specs.declared.limits.Limits.{Limits}
use Rattle.heap_formula.specs.Words.{Each}
use Rattle.heap_formula.specs.Definitions.{Definition as DefinitionValue}
use Rattle.heap_reader.specs.Trees.{Heading, defined_headings}
use Rattle.heap_reader.specs.Flaws.{Found}
use Rattle.heap_reader.specs.Small.{IsSmallHeap}
use Rattle.heap_syntax.specs.declared.tree.HeapTree.{HeapTree}
use Rattle.heap_syntax.specs.declared.definitions.tree.TermTree.{TermTree}
use Rattle.heap_syntax.specs.DefinitionTrees.{Definition, heap_of, definition_of}
use Rattle.heap_reader.specs.DefinitionFlaws.{heading, definition_flaw}
use Rattle.heap_reader.specs.DefinitionValues.{term_value, definition_value}
use Rattle.heap_reader.proofs.DefinitionFitting.{definition_small}
use Rattle.pred_defs.specs.Book.{DefinitionBook}
use Rattle.heap_reader.specs.Items.{definition_found}
use Rattle.heap_reader.proofs.Stable.{Stable, definition_stable, stays, stays_none}
use Rattle.heap_reader.proofs.items.items.definition_item.Goals as goal

-- the flaw with definitions to come, over that with the definition alone
with_more : (book : DefinitionBook) (k : ℕ) (d : Definition) (more : List Heading)
    → Stable (definition_flaw book.most (defined_headings book.list ++ heading d ∷ []) (length book.list) k d)
    (definition_found book k d more)
with_more book k d more =
    let hs = defined_headings book.list in
    let size : length (hs ++ heading d ∷ []) ≡ length hs + 1 = length-append hs (heading d ∷ []) in
    let own = length-map {B = Heading} book.list (λ (e : DefinitionValue). record { name = e.name; arity = e.arity }) in
    subst (λ (all : List Heading). Stable (definition_flaw book.most (hs ++ heading d ∷ []) (length book.list) k d)
    (definition_flaw book.most all (length book.list) k d)) (append_assoc hs (heading d ∷ []) more)
    (definition_stable book.most (hs ++ heading d ∷ []) more (length book.list) k d (omega (arith, size, own)))

-- the walk's flaw is that of the definition after those so far
walked : (book : DefinitionBook) (k : ℕ) (d : Definition) (most : Limits) (n : ℕ) (heads : List Heading)
    (so_far : List DefinitionValue) (found : Found) → most ≡ book.most → so_far ≡ book.list → n ≡ length so_far
    → heads ≡ defined_headings so_far ++ heading d ∷ [] → definition_flaw most heads n k d ≡ found
    → definition_flaw book.most (defined_headings book.list ++ heading d ∷ []) (length book.list) k d ≡ found
walked book k d most n heads so_far found most_is list_is n_is heads_is e =
    sym (λ i. definition_flaw (most_is i) ((heads_is ∙ ap (λ (ds : List DefinitionValue). defined_headings ds
    ++ heading d ∷ []) list_is) i) ((n_is ∙ ap length list_is) i) k d) ∙ e

pub definition_value-requires-clause-small : goal.definition_value-requires-clause-small
definition_value-requires-clause-small c =
    let few = subst AreLimits (sym c.most-most.ensures.value) c.most-most.ensures.fits in
    let small = definition_small c.most-most.result few c.in_ok-heads.heads (length c.as_slice-so_far.result.now)
    c.args.at
    (definition_of c.args.tree) c.in-Ok.ensures in
    subst (λ (hs : List (HeapTree TermTree)). Each (IsSmallHeap term_value) (map heap_of hs))
    (sym c.deref.ensures.value) small.1.cases

pub returns-in-Ok : goal.returns-in-Ok
returns-in-Ok c =
    let book = c.args.defs.now in
    let d = definition_of c.args.tree in
    let heads_are = c.in_ok-heads.ensures ∙ ap (λ (ds : List DefinitionValue). defined_headings ds ++ heading d ∷ [])
    c.as_slice-so_far.ensures.value in
    let none = walked book c.args.at d c.most-most.result (length c.as_slice-so_far.result.now)
    c.in_ok-heads.heads c.as_slice-so_far.result.now None c.most-most.ensures.value c.as_slice-so_far.ensures.value refl
    c.in_ok-heads.ensures c.in-Ok.ensures in (
      (λ more. stays_none _ _ none (with_more book c.args.at d more)),
      c.in_ok-value-in-Ok.ensures ∙ (λ i. definition_value (heads_are i)
          (record { name = d.name; arity = d.arity; cases = map heap_of (c.deref.ensures.value i) })),
    )

pub returns : goal.returns
returns c =
    let book = c.args.defs.now in
    let d = definition_of c.args.tree in
    let found = walked book c.args.at d c.most-most.result (length c.as_slice-so_far.result.now)
    c.in_ok-heads.heads c.as_slice-so_far.result.now (Some c.in-Err.flaw)
    c.most-most.ensures.value c.as_slice-so_far.ensures.value refl c.in_ok-heads.ensures c.in-Err.ensures in
    λ more. stays _ _ c.in-Err.flaw found (sym c.is_open.ensures ∙ c.if-is_open.false) (with_more book c.args.at d more)
