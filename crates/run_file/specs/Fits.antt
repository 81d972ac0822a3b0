-- A tree fits the grammar of run files in one way.
use Rattle.std.specs.Prelude.{ℕ, Bool, true, false, List, [], ◌∷◌}
use Rattle.std.proofs.Common.{ap, lit<, inl, inr}
use Rattle.std.specs.Coded.{×_prop, Unit-prop, le_prop}
use Rattle.general_models.specs.declared.runs.picks.Pick.TheVariants.{Cell as CellPicked, Jumps}
use Rattle.cyc_grammar.specs.Syntax.{one}
use Rattle.cyc_grammar.specs.Classes.{number}
use Rattle.heap_syntax.specs.Words.{comma, semicolon, closing}
use Rattle.heap_syntax.specs.Grammar as shared
use Rattle.heap_syntax.specs.Fits.{HasOneFit, listed-fit}
use Rattle.heap_syntax.specs.DefinitionGrammar.{definitions}
use Rattle.proof_syntax.specs.Trees.{File, From, Done}
use Rattle.proof_syntax.specs.Grammar as proofs
use Rattle.proof_file.specs.Fits.{file-fit}
use Rattle.model_file.specs.declared.version.ModelVersion.{ModelVersion}
use Rattle.model_file.specs.declared.version.ModelVersion.TheVariants.{One}
use Rattle.model_file.specs.Versions.{format_of}
use Rattle.model_file.specs.Trees.{Cell, Model}
use Rattle.model_file.specs.Grammar as models
use Rattle.model_file.specs.Fits.{model-fit}
use Rattle.run_file.specs.declared.tree.Outcome.TheVariants.{Faults, Repeats, Grows, Breaks}
use Rattle.run_file.specs.Grammar.{Claim, state_claimed, claim, claim_of, pick, some_pick, picks1, picks, then_step}
use Rattle.run_file.specs.Grammar.{faulting, repeating, value_pair, some_pair, value_pairs, growing, breaking}
use Rattle.run_file.specs.Grammar.{has_breaks, breaking_or_growing, outcome, ending, course, body, run}

-- ---- the claim, as that of a proof file with one node

abbrev pub file_of : ModelVersion → Claim → File
file_of v c = record {
  version = format_of v;
  definitions = c.0;
  lines = c.1.0;
  ends = c.1.1.0;
  nodes = record { judgement = From c.1.1.1.0 c.1.1.1.1; reason = Done; premises = [] } ∷ [];
}

unfoldable pub in_file : (v : ModelVersion) (c : Claim) → (claim v).fits c
    → proofs.file.fits (file_of v c)
unfolding claim state_claimed proofs.file proofs.body proofs.nodes proofs.more_nodes proofs.node proofs.judgement
    proofs.state proofs.reason proofs.parts proofs.premises
in_file v c p =
    (tt, (tt, (p.0, (p.1.0, (p.1.1.0, (lit< tt, ((tt, ((tt, p.1.1.1), ((tt, (tt, tt)), (tt, tt)))), tt)))))))

unfoldable of_file : (v : ModelVersion) (c : Claim)
    → proofs.file.fits (file_of v c) → (claim v).fits c
unfolding claim state_claimed proofs.file proofs.body proofs.nodes proofs.more_nodes proofs.node proofs.judgement
    proofs.state proofs.reason proofs.parts proofs.premises
of_file v c f = (f.1.1.0, (f.1.1.1.0, (f.1.1.1.1.0, f.1.1.1.1.1.1.0.1.0.1)))

claim-fit : (v : ModelVersion) → HasOneFit (claim v)
unfolding in_file of_file
claim-fit v c p q = ap (of_file v c) (file-fit (file_of v c) (in_file v c p) (in_file v c q))

-- ---- the stack and the heap, as those of a model file

abbrev model_of : List ℕ × List Cell → Model
model_of s = record { version = One; definitions = []; stack = s.0; cells = s.1; ask = shared.some_heap }

unfoldable in_model : (s : List ℕ × List Cell) → models.state.fits s → models.model.fits (model_of s)
unfolding models.model models.body models.question definitions shared.heap shared.pures shared.spatials
in_model s p = (tt, (tt, (tt, (p, (tt, ((tt, tt), (tt, tt)))))))

unfoldable of_model : (s : List ℕ × List Cell) → models.model.fits (model_of s) → models.state.fits s
unfolding models.model models.body
of_model s f = f.1.1.1.0

state-fit : HasOneFit models.state
unfolding in_model of_model
state-fit s p q = ap (of_model s) (model-fit (model_of s) (in_model s p) (in_model s q))

-- ---- picks and the outcome

pick-fit : HasOneFit pick
unfolding pick models.cell models.numbers
pick-fit (CellPicked a vs) = ×_prop Unit-prop (×_prop Unit-prop
    (×_prop le_prop (listed-fit 0 comma closing (one number) (λ n. le_prop) vs)))
pick-fit (Jumps true) = ×_prop Unit-prop Unit-prop
pick-fit (Jumps false) = ×_prop Unit-prop Unit-prop

picks-fit : HasOneFit picks
unfolding picks picks1
picks-fit [] = ×_prop Unit-prop Unit-prop
picks-fit (p ∷ ps) = ×_prop Unit-prop (listed-fit some_pick comma semicolon pick pick-fit (p ∷ ps))

value_pair-fit : HasOneFit value_pair
unfolding value_pair
value_pair-fit p = ×_prop Unit-prop (×_prop le_prop le_prop)

growing-fit : HasOneFit growing
unfolding growing then_step value_pairs
growing-fit g = ×_prop Unit-prop (×_prop (×_prop le_prop le_prop)
    (listed-fit some_pair comma closing value_pair value_pair-fit g.renaming))

breaking_or_growing-fit : (b : Bool) → HasOneFit (breaking_or_growing b)
unfolding breaking_or_growing breaking
breaking_or_growing-fit true (inl n) = le_prop
breaking_or_growing-fit true (inr g) = growing-fit g
breaking_or_growing-fit false (inl n) = λ p q. absurd p.0
breaking_or_growing-fit false (inr g) = ×_prop Unit-prop (growing-fit g)

outcome-fit : (v : ModelVersion) → HasOneFit (outcome v)
unfolding outcome faulting repeating then_step
outcome-fit v (Faults l n) = ×_prop Unit-prop (×_prop le_prop le_prop)
outcome-fit v (Repeats m n) = ×_prop Unit-prop (×_prop le_prop le_prop)
outcome-fit v (Breaks n) = ×_prop Unit-prop (breaking_or_growing-fit (has_breaks v) (inl n))
outcome-fit v (Grows g) = ×_prop Unit-prop (breaking_or_growing-fit (has_breaks v) (inr g))

-- ---- run files

pub run-fit : HasOneFit run
unfolding run body course ending
run-fit r =
    ×_prop Unit-prop (×_prop Unit-prop (×_prop (claim-fit r.version (claim_of r))
    (×_prop (state-fit (r.stack, r.cells)) (×_prop (picks-fit r.picks) (outcome-fit r.version r.outcome)))))
