use Rattle.std.proofs.Common.{ap, ◌∙◌}
use Rattle.std.proofs.lemmas.Result.{IfOk-weaker}
use Rattle.heap_formula.specs.declared.atoms.Pure.TheVariants.{Eq}
use Rattle.heap_formula.specs.declared.terms.Term.TheVariants.{Univ}
use Rattle.heap_formula.specs.Substitution.{Bindings, apply_heap, apply_term}
use Rattle.rule_table.specs.ExecTable.{with_atom}
use Rattle.symbolic_exec.proofs.states.assigned.Goals as goal

pub returns : goal.returns
returns c =
    let old = c.in_ok-old.ensures ∙ ap (λ (s : Bindings). apply_heap s c.args.a.now) c.in_ok-subst.ensures in
    let term = c.apply_to_term.ensures ∙ ap (λ (s : Bindings). apply_term s c.args.t) c.in_ok-subst.ensures in
    IfOk-weaker c.with_atom.result _ _ (λ h made. made ∙ (λ i. with_atom (old i) (Eq (Univ c.args.x) (term i))))
    c.with_atom.ensures
