-- Run files for problems.
use Rattle.std.specs.Prelude.{◌≡◌, ℕ, true, List}
use Rattle.heap_formula.specs.declared.judgements.Judgement.{Judgement}
use Rattle.heap_formula.specs.declared.judgements.Judgement.TheVariants.{Entail, Term as Halting}
use Rattle.heap_formula.specs.Cells.{Cells}
use Rattle.heap_syntax.specs.declared.version.Version.{Version}
use Rattle.formula_reader.specs.declared.problem.Problem.{Problem}
use Rattle.general_models.specs.declared.runs.picks.Pick.{Pick}
use Rattle.model_file.specs.Versions.{version_for}
use Rattle.run_file.specs.declared.tree.Outcome.{Outcome}
use Rattle.run_file.specs.declared.file.RunFile.{RunFile}
use Rattle.run_file.specs.Limits.{is_short_run}

-- the goal is a claim of termination, and a run file for a problem of this version has room for the run
abbrev pub HasFile : Version → Judgement → List ℕ → Cells → List Pick → Outcome → Type 0
HasFile version (Entail a bs) s h ps o = ⊥
HasFile version (Halting i a) s h ps o = is_short_run (version_for version) s h ps o ≡ true

-- a run file of the version for the problem's, with the problem's definitions, program and goal, and with this run
pub record IsRunFor (p : Problem) (s : List ℕ) (h : Cells) (ps : List Pick) (o : Outcome) (r : RunFile) : Type 0 where
  pub version : r.version ≡ version_for p.version
  pub definitions : r.defs.list ≡ p.defs.list
  pub program : r.program ≡ p.program
  pub goal : p.goal ≡ Halting r.line r.precondition
  pub stack : r.stack ≡ s
  pub heap : r.heap ≡ h
  pub picks : r.picks.items ≡ ps
  pub outcome : r.outcome ≡ o
