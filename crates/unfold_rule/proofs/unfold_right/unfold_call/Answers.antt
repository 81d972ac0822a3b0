use Rattle.std.proofs.Common.{◌≡◌, Option, Some, List, ap, sym, subst, ◌∙◌}
use Rattle.std.specs.Prelude.{slice_get, ℕ}
use Rattle.cyc_basics.specs.declared.limits.Limits.{Limits}
use Rattle.heap_formula.specs.declared.atoms.Spatial.{Spatial}
use Rattle.heap_formula.specs.declared.atoms.Spatial.TheVariants.{Pred}
use Rattle.heap_formula.specs.declared.proof_rules.RuleFault.TheVariants.{NoSuchCase}
use Rattle.heap_formula.specs.Fresh.{heap_exists}
use Rattle.heap_formula.specs.Meaning.{cases_of}
use Rattle.heap_formula.specs.Symbolic.{SymbolicHeap}
use Rattle.rule_table.specs.Answer.{finds, limited, one}
use Rattle.rule_table.specs.Answered.{IsAnswer}
use Rattle.rule_table.specs.Table.{calls, right_term}
use Rattle.unfold_rule.specs.Unfolding.{right_by}
use Rattle.unfold_rule.proofs.unfold_right.unfold_call.Goals as goal

pub returns : goal.returns
returns c =
    let a = c.args.a.now in
    let b = c.args.b.now in
    let r = c.unfold_case.result in
    let x_is : c.args.x.now ≡ Pred c.in-Pred.q c.in-Pred.args = c.in-Pred.is in
    let case_is : slice_get (cases_of c.args.defs.now.list c.in-Pred.q) c.args.c
    ≡ Some c.in-Some.case.now = ap (λ (xs : List SymbolicHeap). slice_get xs c.args.c) (sym c.cases.ensures)
    ∙ c.in-Some.ensures in
    let here = subst (λ (most : Limits). IsAnswer r (limited most
    (one (right_by a b c.args.k (right_term c.in-Pred.args (heap_exists b)) c.in-Some.case.now))))
    c.most-most.ensures.value c.unfold_case.ensures in
    subst (λ (y : Spatial). IsAnswer r (calls y (λ q ts. finds (slice_get (cases_of c.args.defs.now.list q) c.args.c)
    NoSuchCase (λ case. limited c.args.defs.now.most (one
    (right_by a b c.args.k (right_term ts (heap_exists b)) case)))))) (sym x_is)
    (subst (λ (o : Option SymbolicHeap). IsAnswer r (finds o NoSuchCase
    (λ case. limited c.args.defs.now.most (one (right_by a b c.args.k (right_term c.in-Pred.args (heap_exists b))
    case))))) (sym case_is) here)
