use Rattle.std.proofs.Common.{◌∙◌, ap, refl}
use Rattle.heap_formula.specs.declared.judgements.Judgement.TheVariants.{Entail}
use Rattle.solve_top.proofs.findings.is_framed_goal.Goals as goal

pub returns-then-eq : goal.returns-then-eq
returns-then-eq c = λ t.
    let both = c.in-Entail-Entail in
    let joined = c.are_framed.ensures.joined t in
    record {
      antecedent = both.left;
      asked = joined.0;
      disjuncts = both.disjuncts;
      is_question = both.is-0 ∙ ap (λ bs. Entail both.left bs) joined.1;
      is_framed = both.is-1 ∙ ap (λ a. Entail a both.disjuncts) (c.if-eq.ensures.exact.0 refl);
      some = c.are_framed.ensures.some t;
      joined = joined.2;
    }
