-- Judgements that are one as they stand, and what a reader sees to of a judgement and its reason.
use Rattle.std.specs.Prelude.{Bool, false, ◌&&◌, nat_eq}
use Rattle.std.specs.Cmp.Lexicographic.{pointwise}
use Rattle.heap_formula.specs.declared.judgements.Judgement.{Judgement}
use Rattle.heap_formula.specs.declared.judgements.Judgement.TheVariants.{Entail, Term as Runs}
use Rattle.heap_formula.specs.declared.proof_rules.Reason.{Reason}
use Rattle.heap_formula.specs.declared.proof_rules.Reason.TheVariants.{Step, Back}
use Rattle.heap_formula.specs.Symbolic.{SymbolicHeap}
use Rattle.heap_formula.specs.Closedness.{IsUniversalHeap}
use Rattle.heap_formula.specs.Judgements.{antecedent}
use Rattle.rule_table.specs.Soundness.{AreUniversal}
use Rattle.rule_table.specs.Tests.{same_pure, same_spatial}

-- two heaps are one as they stand
abbrev pub same_heap : SymbolicHeap → SymbolicHeap → Bool
same_heap a b = pointwise same_pure a.pure b.pure && pointwise same_spatial a.spatial b.spatial

-- two judgements are one as they stand
abbrev pub same_judgement : Judgement → Judgement → Bool
same_judgement (Entail a bs) (Entail b cs) = same_heap a b && pointwise same_heap bs cs
same_judgement (Runs i a) (Runs k b) = nat_eq i k && same_heap a b
same_judgement (Entail a bs) (Runs k b) = false
same_judgement (Runs i a) (Entail b cs) = false

-- what the reader of a file sees to: no existential in an antecedent, nor in a substitution
abbrev pub IsReadable : Judgement → Reason → Type 0
IsReadable j (Step rule) = IsUniversalHeap (antecedent j)
IsReadable j (Back link) = AreUniversal link.subst
