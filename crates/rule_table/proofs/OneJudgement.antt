-- Judgements that are one as they stand are one as data.
use Rattle.std.proofs.Common.{◌≡◌, true}
use Rattle.std.specs.Prelude.{nat_eq}
use Rattle.std.proofs.lemmas.Bool.Decides.{Decides-eqb}
use Rattle.std.proofs.lemmas.Bool.{and_parts}
use Rattle.std.specs.Cmp.Lexicographic.{pointwise}
use Rattle.heap_formula.specs.declared.judgements.Judgement.{Judgement}
use Rattle.heap_formula.specs.declared.judgements.Judgement.TheVariants.{Entail, Term as Runs}
use Rattle.heap_formula.specs.Symbolic.{SymbolicHeap}
use Rattle.rule_table.specs.Tests.{same_pure, same_spatial}
use Rattle.rule_table.specs.Judgements.{same_heap, same_judgement}
use Rattle.rule_table.proofs.Reflects.{same_pure_is, same_spatial_is}
use Rattle.cyc_basics.proofs.Tests.{pointwise_is}

same_heap_is : (a b : SymbolicHeap) → same_heap a b ≡ true → a ≡ b
same_heap_is a b e =
    let t = and_parts (pointwise same_pure a.pure b.pure) (pointwise same_spatial a.spatial b.spatial) e in
    let p = pointwise_is same_pure same_pure_is a.pure b.pure t.0 in
    let s = pointwise_is same_spatial same_spatial_is a.spatial b.spatial t.1 in
    λ i. record { pure = p i; spatial = s i }

pub same_judgement_is : (j k : Judgement) → same_judgement j k ≡ true → j ≡ k
same_judgement_is (Entail a bs) (Entail b cs) e =
    let t = and_parts (same_heap a b) (pointwise same_heap bs cs) e in
    λ i. Entail (same_heap_is a b t.0 i) (pointwise_is same_heap same_heap_is bs cs t.1 i)
same_judgement_is (Runs m a) (Runs n b) e =
    let t = and_parts (nat_eq m n) (same_heap a b) e in λ i. Runs ((Decides-eqb m n).0 t.0 i) (same_heap_is a b t.1 i)
same_judgement_is (Entail a bs) (Runs n b) e = cc
same_judgement_is (Runs m a) (Entail b cs) e = cc
