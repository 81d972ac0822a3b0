-- The steps that a verdict refuses.
use Rattle.std.specs.Prelude.{ℕ, Bool, ◌&&◌, nat_eq, List, [], ◌++◌}
use Rattle.std.specs.List.{list_any}
use Rattle.trace_pairs.specs.declared.lasso.Step.{Step}
use Rattle.proof_check.specs.Verdicts.{Verdict}
use Rattle.logics.specs.declared.verdict.Verdict.TheVariants.{Accepted, RuleRefused, PathRefused, TooManyStates}
use Rattle.proof_picture.specs.declared.steps.Taken.{Taken}

-- the steps of a path that is refused, stem and cycle
abbrev pub refused_steps : Verdict → List Step
refused_steps Accepted = []
refused_steps (RuleRefused u fault) = []
refused_steps (PathRefused lasso) = lasso.stem ++ lasso.cycle
refused_steps TooManyStates = []

-- one of the steps takes edge i of node v
abbrev pub has_step : List Step → ℕ → ℕ → Bool
has_step steps v i = list_any (λ s. nat_eq s.node v && nat_eq s.edge i) steps

-- the same of steps that are kept to be found
abbrev pub step_in : List Taken → ℕ → ℕ → Bool
step_in steps v i = list_any (λ s. nat_eq v s.node && nat_eq i s.edge) steps
