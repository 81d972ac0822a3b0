-- A term is seen as it is, so a heap is too.
use Rattle.std.proofs.Common.{◌≡◌, List, [], ◌∷◌, Result, Ok, Err, refl, ap, ◌∙◌}
use Rattle.std.specs.Prelude.{map}
use Rattle.std.proofs.lemmas.List.{map-id}
use Rattle.cyc_grammar.specs.declared.cursor.Refusal.{Refusal}
use Rattle.cyc_grammar.specs.Giving.{Gives}
use Rattle.heap_syntax.specs.declared.tree.SpatialTree.{SpatialTree}
use Rattle.heap_syntax.specs.declared.tree.SpatialTree.TheVariants.{Cell, Predicate}
use Rattle.heap_syntax.specs.declared.tree.HeapTree.{HeapTree}
use Rattle.heap_syntax.specs.Trees as shared
use Rattle.heap_syntax.specs.declared.definitions.tree.TermTree.{TermTree}
use Rattle.heap_syntax.specs.DefinitionTrees.{spatial_of, heap_of}

pub map-same : {A B : Type 0} (f g : A → B) → ((x : A) → f x ≡ g x) → (xs : List A) → map f xs ≡ map g xs
map-same f g same [] = refl
map-same f g same (x ∷ xs) = rw (same x, map-same f g same xs) refl

abbrev pub itself : TermTree → TermTree
itself t = t

spatial-same : (x : SpatialTree TermTree) → shared.spatial_of itself x ≡ spatial_of x
spatial-same (Cell address fields) = rw (map-id fields.items) refl
spatial-same (Predicate name args) = rw (map-id args.items) refl

pub heap-same : (h : HeapTree TermTree) → shared.heap_of itself h ≡ heap_of h
heap-same h = rw (map-id h.pure.items, map-same (shared.spatial_of itself) spatial_of spatial-same h.spatial.items) refl

pub heaps-same : (hs : List (HeapTree TermTree)) → map (shared.heap_of itself) hs ≡ map heap_of hs
heaps-same hs = map-same (shared.heap_of itself) heap_of heap-same hs

-- a result seen in one way or the other
pub gives-same : {X Y : Type 0} (f g : X → Y) → ((x : X) → f x ≡ g x) → (r : Result X Refusal) (read : Result Y _)
    → Gives f r read → Gives g r read
gives-same f g same (Ok x) read h = h ∙ ap Ok (same x)
gives-same f g same (Err e) read h = h
