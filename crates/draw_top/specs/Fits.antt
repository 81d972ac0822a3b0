-- Whether a proof is one of a problem's goal.
use Rattle.std.specs.Prelude.{◌≡◌, List, [], ◌∷◌, Option, Some, None}
use Rattle.heap_formula.specs.declared.judgements.Judgement.{Judgement}
use Rattle.formula_reader.specs.declared.problem.Problem.{Problem}
use Rattle.proof_file.specs.declared.file.ProofFile.{ProofFile}
use Rattle.proof_file.specs.FileNodes.{FileNode}
use Rattle.draw_top.specs.declared.inputs.fits.Misfit.{Misfit}
use Rattle.draw_top.specs.declared.inputs.fits.Misfit.TheVariants.{Definitions, Program, Goal}

abbrev pub HasDefinitions : ProofFile → Problem → Type 0
HasDefinitions f p = f.defs.list ≡ p.defs.list

abbrev pub HasProgram : ProofFile → Problem → Type 0
HasProgram f p = f.program ≡ p.program

-- node 0 has the goal
abbrev pub HasGoal : List FileNode → Judgement → Type 0
HasGoal [] goal = ⊥
HasGoal (root ∷ ns) goal = root.judgement ≡ goal

-- the proof is one of the problem's goal; or its definitions are others; or else its program; or else its goal
abbrev pub IsMisfit : ProofFile → Problem → Option Misfit → Type 0
IsMisfit f p None = HasDefinitions f p × HasProgram f p × HasGoal f.nodes p.goal
IsMisfit f p (Some Definitions) = ¬ (HasDefinitions f p)
IsMisfit f p (Some Program) = HasDefinitions f p × ¬ (HasProgram f p)
IsMisfit f p (Some Goal) = HasDefinitions f p × HasProgram f p × ¬ (HasGoal f.nodes p.goal)
