-- Where a run is after so many steps.
use Rattle.std.proofs.Common.{◌≡◌, ℕ, ◌<◌, ◌≤◌, List, Bool, true, false, sym, subst, arith}
use Rattle.std.specs.Prelude.{◌↔◌, IsTrue}
use Rattle.heap_formula.specs.declared.commands.Command.{Command}
use Rattle.heap_formula.specs.Programs.{Config as State}
use Rattle.goto_lang.specs.declared.configs.Config.{Config}
use Rattle.goto_lang.specs.States.{state_of}
use Rattle.general_models.specs.declared.runs.picks.Pick.{Pick}
use Rattle.general_models.specs.declared.runs.running.Cause.{Cause}
use Rattle.general_models.specs.declared.runs.running.RunEnd.{RunEnd}
use Rattle.general_models.specs.declared.runs.running.RunEnd.TheVariants.{Ends, Reached}
use Rattle.general_models.specs.Runs.{IsRunEnd}
use Rattle.general_models.proofs.Halting.{run_same}
use Rattle.general_models.proofs.RunEnds.{not_beyond}
use Rattle.general_models.specs.Picks.{headroom_of}
use Rattle.heap_formula.specs.Definitions.{Definition}
use Rattle.run_file.specs.declared.tree.Outcome.{Outcome}
use Rattle.solver.specs.Runs.{ComesTo, EndsSo}

module _ (lines : List Command) (w : ℕ) (picks : List Pick) (c : State) (steps : ℕ) (Property : State → Type 0) where
  -- a run that ends before makes no such step
  pub ended_before : (r : RunEnd) (n : ℕ) (cause : Cause) → r ≡ Ends n cause
      → ((q : RunEnd) → (r ≡ q) ↔ IsRunEnd lines w picks steps c q)
      → IsTrue false ↔ ComesTo lines w picks c steps Property
  ended_before r n cause is exact =
      let e = (exact (Ends n cause)).0 is in (
        λ t. absurd (let z : false ≡ true = t in cc),
        λ to. absurd
            (let m : n < steps = e.0 in
            let l : steps ≤ n = not_beyond lines w picks c n steps e.1 to.0 e.2 to.1 cause e.3 e.4 to.2 in omega arith),
      )

  -- a run that makes them all is where it is then
  pub reached : (r : RunEnd) (d : Config) (said : Bool) → r ≡ Reached d
      → ((q : RunEnd) → (r ≡ q) ↔ IsRunEnd lines w picks steps c q) → IsTrue said ↔ Property (state_of d)
      → IsTrue said ↔ ComesTo lines w picks c steps Property
  reached r d said is exact tells =
      let e = (exact (Reached d)).0 is in (
        λ t. (e.0, state_of d, e.1, tells.0 t),
        λ to. tells.1
            (subst Property (sym (run_same lines w picks steps c e.0 to.0 (state_of d) to.1 e.1 to.2).1) to.3),
      )

-- ---- how a run ends

module _ (ds : List Definition) (lines : List Command) (picks : List Pick) (c : State) where
  -- of the headroom and of the outcome that are told
  pub ends_told : (w : ℕ) (told found : Outcome) (said : Bool) → w ≡ headroom_of picks → told ≡ found
      → IsTrue said ↔ EndsSo ds lines w picks c found → IsTrue said ↔ EndsSo ds lines (headroom_of picks) picks c told
  ends_told w told found said same is tells =
      subst (λ (v : ℕ). IsTrue said ↔ EndsSo ds lines v picks c told) same
      (subst (λ (o : Outcome). IsTrue said ↔ EndsSo ds lines w picks c o) (sym is) tells)
