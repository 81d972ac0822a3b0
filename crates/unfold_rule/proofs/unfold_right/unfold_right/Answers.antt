use Rattle.std.proofs.Common.{◌≡◌, Option, Some, List, [], ◌∷◌, sym, subst, ◌∙◌, ap}
use Rattle.std.specs.Prelude.{slice_get}
use Rattle.heap_formula.specs.declared.atoms.Spatial.{Spatial}
use Rattle.heap_formula.specs.declared.judgements.Judgement.{Judgement}
use Rattle.heap_formula.specs.declared.judgements.Judgement.TheVariants.{Entail}
use Rattle.heap_formula.specs.declared.proof_rules.RuleFault.TheVariants.{NoSuchCase, NoSuchAtom}
use Rattle.heap_formula.specs.Fresh.{heap_exists}
use Rattle.heap_formula.specs.Meaning.{cases_of}
use Rattle.heap_formula.specs.Symbolic.{SymbolicHeap}
use Rattle.rule_table.specs.Answer.{finds, limited, one}
use Rattle.rule_table.specs.Answered.{IsAnswer}
use Rattle.rule_table.specs.Table.{calls, right_term, unfold_right_answer}
use Rattle.unfold_rule.specs.Unfolding.{right_by}
use Rattle.unfold_rule.proofs.RightLimits.{only_one}
use Rattle.unfold_rule.proofs.unfold_right.unfold_right.Goals as goal

pub returns : goal.returns
returns c =
    let a = c.in-Entail.a in
    let b = c.b-item.result in
    let r = c.unfold_call.result in
    let whole : c.args.judgement.now ≡ Entail a (b ∷ []) = c.in-Entail.is
    ∙ ap (λ (bs : List SymbolicHeap). Entail a bs) (sym c.heaps.ensures.value
    ∙ only_one c.heaps.result.now b c.in-len1.len_at_least c.in-len1.len_below c.b-item.is) in
    let at : slice_get b.spatial c.args.k ≡ Some c.in-Some.x.now = c.in-Some.ensures in
    subst (λ (j : Judgement). IsAnswer r
    (unfold_right_answer c.args.defs.now.most c.args.defs.now.list j c.args.k c.args.c)) (sym whole)
    (subst (λ (o : Option Spatial). IsAnswer r (finds o NoSuchAtom
    (λ x. calls x (λ q ts. finds (slice_get (cases_of c.args.defs.now.list q) c.args.c) NoSuchCase
    (λ case. limited c.args.defs.now.most (one (right_by a b c.args.k (right_term ts (heap_exists b)) case)))))))
    (sym at) c.unfold_call.ensures)
