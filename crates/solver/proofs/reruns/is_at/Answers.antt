use Rattle.std.proofs.Common.{◌≡◌, ℕ, false, subst}
use Rattle.std.specs.Prelude.{◌↔◌, IsTrue, nat_eq}
use Rattle.std.proofs.lemmas.Bool.Decides.{Decides-eqb}
use Rattle.heap_formula.specs.Programs.{Config as State}
use Rattle.goto_lang.specs.States.{state_of}
use Rattle.solver.specs.Runs.{IsAt}
use Rattle.solver.proofs.RunEnds.{ended_before, reached}
use Rattle.solver.proofs.reruns.is_at.Goals as goal

pub returns-in-Ends : goal.returns-in-Ends
returns-in-Ends c =
    subst (λ (n : ℕ). IsTrue false ↔ IsAt c.args.program.now c.args.w c.args.picks.now (state_of c.args.start.now)
    n c.args.line) c.from.ensures
    (ended_before c.args.program.now c.args.w c.args.picks.now (state_of c.args.start.now)
    c.from.result (λ (d : State). d.line ≡ c.args.line) c.in_ok-run.field-0 c.in-Ends.field-0 c.in-Ends.field-1
    c.in-Ends.is c.in_ok-run.ensures.answer)

pub returns-in-Reached : goal.returns-in-Reached
returns-in-Reached c =
    subst (λ (n : ℕ). IsTrue (nat_eq c.in-Reached.config.line c.args.line)
    ↔ IsAt c.args.program.now c.args.w c.args.picks.now (state_of c.args.start.now) n c.args.line) c.from.ensures
    (reached c.args.program.now c.args.w c.args.picks.now (state_of c.args.start.now)
    c.from.result (λ (d : State). d.line ≡ c.args.line) c.in_ok-run.field-0 c.in-Reached.config
    (nat_eq c.in-Reached.config.line c.args.line) c.in-Reached.is c.in_ok-run.ensures.answer
    (Decides-eqb c.in-Reached.config.line c.args.line))
