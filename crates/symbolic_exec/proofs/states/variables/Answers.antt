use Rattle.std.proofs.Common.{◌<◌, ◌++◌, ◌∷◌, [], length, sym, ◌∙◌, arith}
use Rattle.std.proofs.lemmas.List.{take_more_set, length-set}
use Rattle.heap_formula.specs.declared.terms.Term.TheVariants.{Univ}
use Rattle.symbolic_exec.proofs.FreshNumbers.{one_more_variable}
use Rattle.symbolic_exec.proofs.states.variables.Goals as goal

pub loop-i-preserved : goal.loop-i-preserved
loop-i-preserved c =
    let terms = c.loop-i.terms in
    let i = c.loop-i.i in
    let so_far = c.loop-i.invariant in
    let within : i < length terms = omega (arith, so_far.1, c.loop-i-test.true, c.requires.few) in (
      take_more_set terms i (Univ c.number.result) within ∙ (λ q. so_far.0 q ++ Univ (c.number.ensures q) ∷ [])
          ∙ sym (one_more_variable c.args.n i),
      length-set terms i (Univ c.number.result) ∙ so_far.1,
    )
