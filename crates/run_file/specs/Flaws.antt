-- The first flaw of a run file that the grammar has: what is ill-formed or passes a limit, and at which token.
use Rattle.std.specs.Prelude.{ℕ, ◌+◌, List, length, None}
use Rattle.general_models.specs.declared.runs.picks.Pick.{Pick}
use Rattle.general_models.specs.declared.runs.picks.Pick.TheVariants.{Cell, Jumps}
use Rattle.cyc_basics.specs.declared.limits.Limits.{Limits}
use Rattle.heap_syntax.specs.declared.version.Version.{Version}
use Rattle.heap_reader.specs.Spans.{heap_span}
use Rattle.heap_reader.specs.Flaws.{Found, or_later, listed_flaw}
use Rattle.heap_reader.specs.DefinitionSpans.{term_span}
use Rattle.heap_reader.specs.DefinitionFlaws.{headings}
use Rattle.proof_file.specs.Building.{front_of}
use Rattle.proof_file.specs.Flaws.{state_flaw, first_node, file_flaw}
use Rattle.model_file.specs.Versions.{format_of, model_limits}
use Rattle.model_file.specs.Spans.{values_span, cells_span}
use Rattle.model_file.specs.Flaws.{stack_flaw, fields_flaw, cells_flaw}
use Rattle.run_file.specs.Trees.{Run}
use Rattle.run_file.specs.Spans.{pick_span, picks_span}

-- ---- picks, the first of which begins at token k; a cell has at most so many fields

abbrev pub pick_flaw : Limits → ℕ → Pick → Found
pick_flaw most k (Cell a vs) = fields_flaw most (k + 3) vs
pick_flaw most k (Jumps b) = None

abbrev pub picks_flaw : Limits → ℕ → List Pick → Found
picks_flaw most k ps = listed_flaw (λ n. pick_flaw most) pick_span 0 k ps

-- ---- what a run file may have

-- the version of proof files that has its definitions, its lines, its ends and its claim
abbrev pub format : Run → Version
format r = format_of r.version

abbrev pub allowed : Run → Limits
allowed r = model_limits r.version

-- ---- where the parts of a run file stand

-- the word "from", as the first node of a proof file
abbrev pub from_place : Run → ℕ
from_place r = first_node (front_of (format r) r.definitions r.lines r.ends)

-- what stands behind the words "stack", "heap" and "picks"
abbrev pub first_value : Run → ℕ
first_value r = from_place r + 3 + heap_span term_span r.precondition + 1

abbrev pub first_cell : Run → ℕ
first_cell r = first_value r + values_span r.stack + 1

abbrev pub first_pick : Run → ℕ
first_pick r = first_cell r + cells_span r.cells + 1

-- the first word of the outcome
abbrev pub outcome_place : Run → ℕ
outcome_place r = first_pick r + picks_span r.picks

-- ---- run files: definitions, lines, ends and the claim are as in a proof file, the stack and the heap as in a model
-- ---- file

abbrev pub front_flaw : Run → Found
front_flaw r = file_flaw (front_of (format r) r.definitions r.lines r.ends)

abbrev pub claim_flaw : Run → Found
claim_flaw r = state_flaw (allowed r) (headings r.definitions) (length r.lines) (from_place r) r.line r.precondition

abbrev pub state_given_flaw : Run → Found
state_given_flaw r = or_later (stack_flaw (first_value r) r.stack) (cells_flaw (allowed r) (first_cell r) r.cells)

abbrev pub run_flaw : Run → Found
run_flaw r =
    or_later (front_flaw r) (or_later (claim_flaw r) (or_later (state_given_flaw r)
    (picks_flaw (allowed r) (first_pick r) r.picks)))
