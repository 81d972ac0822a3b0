use Rattle.std.proofs.Common.{◌≡◌, ◌∙◌, ◌≤◌, ap, subst, arith, vec_len, length, false, true}
use Rattle.script_reader.specs.declared.commands.After.{After}
use Rattle.script_reader.specs.Commands.{asks_from, commands_in}
use Rattle.script_reader.proofs.Asking.{Reaches, on_ok, reached_last, reaches}
use Rattle.script_reader.proofs.script.read_commands.Goals as goal

pub commands-preserved-in-Goes : goal.commands-preserved-in-Goes
commands-preserved-in-Goes c =
    let bytes = c.args.trees.now.bytes.now in
    let nodes = c.args.trees.now.nodes.items in
    let counted = ap (λ i. i.end) c.all-items.ensures in
    let fits : c.commands.items.end ≤ 18446744073709551615 = omega (arith, c.commands.invariant.ends, counted) in
    record {
      ends = c.in-Some.ensures.taken.3 ∙ c.commands.invariant.ends;
      reached = λ all is.
          subst (λ (a : After). Reaches bytes nodes all c.take.new.items.next c.commands.asked a) c.in-Goes.is
          (reaches bytes nodes all c.commands.items.next c.take.new.items.next c.commands.asked c.in-Some.tree
          c.commands.items.end (vec_len c.args.trees.now.nodes) 18446744073709551615 c.in_ok-command.field-0
          (c.commands.invariant.reached all is) c.in-Some.ensures.taken.0 c.in-Some.ensures.taken.1
          c.commands.invariant.ends c.args.trees.now.nodes.ok.0 fits c.in-Some.ensures.behind
          c.in_ok-command.ensures.rules);
    }

pub commands-preserved : goal.commands-preserved
commands-preserved c =
    let bytes = c.args.trees.now.bytes.now in
    let nodes = c.args.trees.now.nodes.items in
    let counted = ap (λ i. i.end) c.all-items.ensures in
    let fits : c.commands.items.end ≤ 18446744073709551615 = omega (arith, c.commands.invariant.ends, counted) in
    record {
      ends = c.in-Some.ensures.taken.3 ∙ c.commands.invariant.ends;
      reached = λ all is.
          subst (λ (a : After). Reaches bytes nodes all c.take.new.items.next c.commands.asked a) c.in-Asks.is
          (reaches bytes nodes all c.commands.items.next c.take.new.items.next c.commands.asked c.in-Some.tree
          c.commands.items.end (vec_len c.args.trees.now.nodes) 18446744073709551615 c.in_ok-command.field-0
          (c.commands.invariant.reached all is) c.in-Some.ensures.taken.0 c.in-Some.ensures.taken.1
          c.commands.invariant.ends c.args.trees.now.nodes.ok.0 fits c.in-Some.ensures.behind
          c.in_ok-command.ensures.rules);
    }

pub returns-in-Ends-clause-asked : goal.returns-in-Ends-clause-asked
returns-in-Ends-clause-asked c all is =
    let bytes = c.args.trees.now.bytes.now in
    let nodes = c.args.trees.now.nodes.items in
    let counted = ap (λ i. i.end) c.all-items.ensures in
    let fits : c.commands.items.end ≤ 18446744073709551615 = omega (arith, c.commands.invariant.ends, counted) in
    on_ok _ c.with_question.result (c.commands.asked ≡ true) (asks_from false (commands_in bytes all) ≡ true)
    c.with_question.ensures.asked
    (subst (λ (a : After). Reaches bytes nodes all c.take.new.items.next c.commands.asked a) c.in-Ends.is
    (reaches bytes nodes all c.commands.items.next c.take.new.items.next c.commands.asked c.in-Some.tree
    c.commands.items.end (vec_len c.args.trees.now.nodes) 18446744073709551615 c.in_ok-command.field-0
    (c.commands.invariant.reached all is) c.in-Some.ensures.taken.0 c.in-Some.ensures.taken.1
    c.commands.invariant.ends c.args.trees.now.nodes.ok.0 fits c.in-Some.ensures.behind
    c.in_ok-command.ensures.rules))

pub returns-clause-asked : goal.returns-clause-asked
returns-clause-asked c all is =
    let bytes = c.args.trees.now.bytes.now in
    let nodes = c.args.trees.now.nodes.items in
    let counted = c.args.trees.now.nodes.ok.0 in
    let past : length nodes ≤ c.commands.items.next =
    omega (arith, c.commands.invariant.ends, counted, c.in_default.ensures.end) in
    on_ok _ c.with_question-2.result (c.commands.asked ≡ true) (asks_from false (commands_in bytes all) ≡ true)
    c.with_question-2.ensures.asked
    (reached_last bytes nodes all c.commands.items.next c.commands.asked (c.commands.invariant.reached all is) past)
