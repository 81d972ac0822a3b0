-- Two judgements are one as data exactly where the table's test says so.
use Rattle.std.proofs.Common.{◌≡◌, ◌↔◌, Bool, true, refl, subst}
use Rattle.std.specs.Prelude.{nat_eq}
use Rattle.std.proofs.lemmas.Bool.Decides.{Decides-eqb}
use Rattle.heap_formula.specs.declared.atoms.Pure.{Pure}
use Rattle.heap_formula.specs.declared.atoms.Pure.TheVariants.{Eq, Neq}
use Rattle.heap_formula.specs.declared.judgements.Judgement.{Judgement}
use Rattle.heap_formula.specs.declared.judgements.Judgement.TheVariants.{Entail, Term as Runs}
use Rattle.heap_formula.specs.Symbolic.{SymbolicHeap}
use Rattle.rule_table.specs.Tests.{same_term, same_pure, same_spatial}
use Rattle.rule_table.specs.Judgements.{same_heap, same_judgement}
use Rattle.rule_table.proofs.Reflects.{same_term_self, same_spatial_self}
use Rattle.rule_table.proofs.OneJudgement.{same_judgement_is}
use Rattle.std.proofs.lemmas.Bool.{and_from as both_true}
use Rattle.std.specs.Cmp.Lexicographic.{pointwise}
use Rattle.cyc_basics.proofs.Tests.{bool_same, pointwise_self}

same_pure_self : (x : Pure) → same_pure x x ≡ true
same_pure_self (Eq t u) = both_true (same_term t t) (same_term u u) (same_term_self t) (same_term_self u)
same_pure_self (Neq t u) = both_true (same_term t t) (same_term u u) (same_term_self t) (same_term_self u)

pub same_heap_self : (a : SymbolicHeap) → same_heap a a ≡ true
same_heap_self a =
    both_true (pointwise same_pure a.pure a.pure) (pointwise same_spatial a.spatial a.spatial)
    (pointwise_self same_pure same_pure_self a.pure) (pointwise_self same_spatial same_spatial_self a.spatial)

pub same_judgement_self : (j : Judgement) → same_judgement j j ≡ true
same_judgement_self (Entail a bs) =
    both_true (same_heap a a) (pointwise same_heap bs bs) (same_heap_self a)
    (pointwise_self same_heap same_heap_self bs)
same_judgement_self (Runs i a) = both_true (nat_eq i i) (same_heap a a) ((Decides-eqb i i).1 refl) (same_heap_self a)

pub decided_judgement : (r : Bool) (j k : Judgement) → ((r ≡ true) ↔ (j ≡ k)) → r ≡ same_judgement j k
decided_judgement r j k h =
    bool_same r (same_judgement j k) (λ t. let e = h.0 t in subst (λ (x : Judgement). same_judgement j x ≡ true) e
    (same_judgement_self j)) (λ t. h.1 (same_judgement_is j k t))
