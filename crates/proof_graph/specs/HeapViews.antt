-- What heaps and judgements in an arena stand for.
use Rattle.std.specs.Prelude.{map}
use Rattle.heap_formula.specs.Symbolic.{SymbolicHeap}
use Rattle.heap_formula.specs.declared.judgements.Judgement.{Judgement}
use Rattle.heap_formula.specs.declared.judgements.Judgement.TheVariants.{Entail, Term}
use Rattle.proof_graph.specs.declared.heap_views.HeapView.{HeapView}
use Rattle.proof_graph.specs.declared.heap_views.JudgementView.{JudgementView}
use Rattle.proof_graph.specs.declared.heap_views.JudgementView.TheVariants.{Entail as entail_view, Term as term_view}

-- the heap of these atoms
abbrev pub heap_of : HeapView → SymbolicHeap
heap_of h = record { pure = h.pure.now; spatial = h.spatial.now }

-- the judgement of these heaps
abbrev pub judgement_of : JudgementView → Judgement
judgement_of (entail_view a bs) = Entail (heap_of a) (map heap_of bs.heaps.now)
judgement_of (term_view line a) = Term line (heap_of a)
