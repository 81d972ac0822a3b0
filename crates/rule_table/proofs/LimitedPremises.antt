-- The limits of premises as the program makes them.
use Rattle.std.proofs.Common.{◌≡◌, ℕ, Bool, true, false, ◌&&◌, List, refl, sym, subst}
use Rattle.std.specs.Prelude.{Result, Ok, Vec}
use Rattle.std.specs.declared.alloc.Global.{Global}
use Rattle.cyc_basics.specs.declared.limits.Limits.{Limits}
use Rattle.heap_formula.specs.declared.judgements.Judgement.{Judgement}
use Rattle.heap_formula.specs.declared.judgements.Judgement.TheVariants.{Entail, Term as Runs}
use Rattle.heap_formula.specs.declared.judgements.Premise.{Premise}
use Rattle.heap_formula.specs.declared.proof_rules.RuleError.{RuleError}
use Rattle.heap_formula.specs.declared.proof_rules.RuleFault.TheVariants.{TooManyAtoms, NoFreshVariable}
use Rattle.heap_formula.specs.Symbolic.{SymbolicHeap}
use Rattle.heap_formula.specs.Judgements.{with_antecedent}
use Rattle.rule_table.specs.Answer.{needs, limited, is_short, has_numbers, each_heap, heaps_of, disjuncts}
use Rattle.rule_table.specs.Answered.{IsAnswer}
use Rattle.std.proofs.lemmas.Bool.{and_parts}
use Rattle.std.specs.List.{list_all}

pub and_assoc : (p q r : Bool) → (p && q) && r ≡ p && (q && r)
and_assoc true q r = refl
and_assoc false q r = refl

-- the heaps of a judgement with another antecedent
pub heaps_short : (most : Limits) (j : Judgement) (a : SymbolicHeap)
    → list_all (is_short most) (heaps_of (with_antecedent j a))
    ≡ is_short most a && list_all (is_short most) (disjuncts j)
heaps_short most (Entail b bs) a = refl
heaps_short most (Runs i b) a = refl

pub any_numbers : (i : Judgement) (b c : SymbolicHeap) → has_numbers b ≡ has_numbers c
    → list_all has_numbers (heaps_of (with_antecedent i b)) ≡ list_all has_numbers (heaps_of (with_antecedent i c))
any_numbers (Entail d bs) b c e = λ i. e i && list_all has_numbers bs
any_numbers (Runs n d) b c e = λ i. e i && true

pub any_first : (i : Judgement) (b : SymbolicHeap) → list_all has_numbers (heaps_of (with_antecedent i b)) ≡ true
    → has_numbers b ≡ true
any_first (Entail d bs) b e = (and_parts (has_numbers b) (list_all has_numbers bs) e).0
any_first (Runs n d) b e = (and_parts (has_numbers b) true e).0

-- the answer from premises as the program makes them
pub limited_changed : (most : Limits) (r : Result (Vec Premise Global) RuleError) (ps qs xs : List Premise) → xs ≡ qs
    → each_heap (is_short most) ps ≡ true → each_heap has_numbers qs ≡ each_heap has_numbers ps
    → (each_heap has_numbers ps ≡ true → qs ≡ ps) → IsAnswer r
    (needs (each_heap has_numbers xs) NoFreshVariable (Ok xs)) → IsAnswer r (limited most ps)
limited_changed most r ps qs xs made short numbers same is =
    subst (λ b. IsAnswer r (needs b TooManyAtoms (needs (each_heap has_numbers ps) NoFreshVariable (Ok ps))))
    (sym short) (by (each_heap has_numbers ps) refl)
  where
    at_qs : IsAnswer r (needs (each_heap has_numbers ps) NoFreshVariable (Ok qs))
    at_qs =
        subst (λ b. IsAnswer r (needs b NoFreshVariable (Ok qs))) numbers
        (subst (λ ys. IsAnswer r (needs (each_heap has_numbers ys) NoFreshVariable (Ok ys))) made is)

    by : (b : Bool) → each_heap has_numbers ps ≡ b
        → IsAnswer r (needs (each_heap has_numbers ps) NoFreshVariable (Ok ps))
    by true e = subst (λ ys. IsAnswer r (needs (each_heap has_numbers ps) NoFreshVariable (Ok ys))) (same e) at_qs
    by false e =
        let none = subst (λ b. IsAnswer r (needs b NoFreshVariable (Ok qs))) e at_qs in
        subst (λ b. IsAnswer r (needs b NoFreshVariable (Ok ps))) (sym e) none
