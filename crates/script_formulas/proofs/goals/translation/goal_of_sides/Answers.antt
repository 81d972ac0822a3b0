use Rattle.std.proofs.Common.{◌≡◌, map, length, subst, refl, sym}
use Rattle.std.specs.Prelude.{IfOk}
use Rattle.script_formulas.specs.Translating.{AreToldApart}
use Rattle.script_formulas.specs.Defining.{IsAsked, IsJudgement}
use Rattle.script_formulas.proofs.goals.translation.goal_of_sides.Goals as goal

pub returns : goal.returns
returns c =
    let script = c.args.script.now in
    let numbers = c.in_ok-numbers.numbers in
    let first = c.args.sides.now.asserted.items in
    let second = c.args.sides.now.denied.items in
    let own = c.in_ok-building.building.defs.list in
    let called = c.judgement_of-goal.new.building.defs.list in
    let question = c.in_ok-question.question in
    let given = c.in_ok-constants.constants in
    let order = c.in_ok-order.order.items in
    let size : given ≡ length script.constants.items = subst (λ r. IfOk r (λ n. n ≡ length script.constants.items))
    c.in_ok-constants.ensures c.constant_count.ensures in
    let made = subst (λ r. IfOk r (λ goal. IsJudgement numbers given c.deref-3.result.now first second own called goal))
    c.in_ok-goal.ensures c.judgement_of-goal.ensures in
    let judged = subst (λ l. IsJudgement numbers given l first second own called c.in_ok-goal.goal)
    c.deref-3.ensures.value made in
    record {
      sorted = c.requires.sorted;
      numbers = numbers;
      first = first;
      second = second;
      own = own;
      sides = c.requires.sides;
      fine_first = c.requires.first;
      fine_second = c.requires.second;
      told = subst (λ r. IfOk r (λ n. AreToldApart n.widths.items)) c.in_ok-numbers.ensures c.numbers_of.ensures.told;
      fields = subst (λ r. IfOk r (λ n. n.fields.items ≡ map (λ k. length k.fields.items) script.constructors.items))
          c.in_ok-numbers.ensures c.numbers_of.ensures.fields;
      used = refl;
      asked = subst (λ l. IsAsked question first l) c.deref-2.ensures.value (subst (λ l. IsAsked question l
          c.deref-2.result.now) c.deref.ensures.value c.in_ok-question.ensures);
      defined = c.in_ok-building.ensures;
      order = order;
      judged = subst (λ ds. IsJudgement numbers (length script.constants.items) order first second own ds
          c.in_ok-goal.goal) (sym c.finished-defs.ensures)
          (subst (λ n. IsJudgement numbers n order first second own called c.in_ok-goal.goal) size judged);
    }
