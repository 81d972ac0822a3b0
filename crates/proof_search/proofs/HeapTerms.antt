-- The terms of a heap within the limits.
use Rattle.std.proofs.Common.{◌≤◌, List, [], ◌∷◌, map, arith, leb-true}
use Rattle.cyc_basics.specs.declared.limits.Limits.{Limits}
use Rattle.heap_formula.specs.declared.atoms.Spatial.{Spatial}
use Rattle.heap_formula.specs.declared.atoms.Spatial.TheVariants.{Cell, Pred}
use Rattle.heap_formula.specs.declared.judgements.Judgement.{Judgement}
use Rattle.heap_formula.specs.declared.judgements.Judgement.TheVariants.{Entail, Term as Runs}
use Rattle.heap_formula.specs.Closedness.{InSpatial, IsUniversal, IsUniversalSpatial}
use Rattle.heap_formula.specs.Definitions.{Definition}
use Rattle.heap_formula.specs.Fresh.{heap_bound, judgement_bound, heap_numbers}
use Rattle.heap_formula.specs.Symbolic.{SymbolicHeap}
use Rattle.heap_formula.specs.Words.{Each, max_of}
use Rattle.rule_table.specs.Answer.{heaps_of}
use Rattle.rule_book.specs.Limits.{IsHeapWithin, IsTermWithin}
use Rattle.heap_formula.proofs.AllMembers.{each_both}
use Rattle.search_moves.proofs.LeftNumbers.{heap_below as heap_le}
use Rattle.rule_book.proofs.Heaps.{IsLow}
use Rattle.formula_reader.proofs.Lists.{each_of_both}

-- ---- an antecedent's atoms

abbrev pub HasTerms : Spatial → Type 0
HasTerms = InSpatial IsTermWithin

spatial_within : (x : Spatial) → IsUniversalSpatial x → InSpatial IsLow x → HasTerms x
spatial_within (Cell t ts) u n = ((u.0, n.0), each_both IsUniversal IsLow ts u.1 n.1)
spatial_within (Pred p ts) u n = each_both IsUniversal IsLow ts u n

pub spatials_within : (xs : List Spatial) → Each IsUniversalSpatial xs → Each (InSpatial IsLow) xs → Each HasTerms xs
spatials_within = each_of_both IsUniversalSpatial (InSpatial IsLow) HasTerms spatial_within

-- ---- universal numbers are numbers

heap_below : (most : Limits) (ds : List Definition) (a : SymbolicHeap) → IsHeapWithin most ds a → heap_numbers a ≤ 65535
heap_below most ds a w = leb-true (heap_numbers a) 65535 w.numbers

heaps_le : (most : Limits) (ds : List Definition) (bs : List SymbolicHeap) → Each (IsHeapWithin most ds) bs
    → max_of (map heap_bound bs) ≤ 65535
heaps_le most ds [] a = omega arith
heaps_le most ds (b ∷ bs) a = let h = heap_below most ds b a.0 in let l = heap_le b in let r = heaps_le most ds bs a.1
    in omega arith

-- the universal numbers of a judgement's heaps
pub judgement_below : (most : Limits) (ds : List Definition) (j : Judgement) → Each (IsHeapWithin most ds) (heaps_of j)
    → judgement_bound j ≤ 65535
judgement_below most ds (Entail a bs) w = let h = heap_below most ds a w.0 in let l = heap_le a in
    let r = heaps_le most ds bs w.1 in omega arith
judgement_below most ds (Runs i a) w = let h = heap_below most ds a w.0 in let l = heap_le a in omega arith
