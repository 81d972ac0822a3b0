-- The text of each printed line.
use Rattle.std.specs.Prelude.{ℕ, List, [], ◌∷◌, ◌++◌, codes, decimal, Option, Some, None}
use Rattle.std.specs.Prelude.{if◌then◌else◌}
use Rattle.heap_formula.specs.declared.commands.Command.{Command}
use Rattle.heap_formula.specs.Programs.{has_ends}
use Rattle.heap_formula.specs.declared.judgements.Judgement.{Judgement}
use Rattle.heap_formula.specs.declared.judgements.Judgement.TheVariants.{Entail, Term}
use Rattle.heap_formula.specs.declared.proof_rules.RuleFault.{RuleFault}
use Rattle.trace_pairs.specs.declared.lasso.Step.{Step}
use Rattle.cyc_lex.specs.declared.fault.IllFault.{IllFault}
use Rattle.cyc_lex.specs.declared.fault.What.{What}
use Rattle.cyc_lex.specs.declared.fault.LexFault.{LexFault}
use Rattle.cyc_lex.specs.declared.fault.LexFault.TheVariants.{BadByte, BadUtf8, LongNumber, LongName, OutOfMemory}
use Rattle.trace_pairs.specs.Walk.{Walk}
use Rattle.cyc_runs.specs.Names.{fault_name_of, fault_number_of, ill_name_of, limit_name_of}

-- what a judgement on the program claims, in one word: a run from a line that stops at an end leaves what it says
abbrev pub claim_text : List Command → Judgement → List ℕ
claim_text lines (Entail a bs) = codes "entailment"
claim_text lines (Term i a) = if has_ends lines then codes "correctness" else codes "termination"

-- a proof of this judgement is right, and has so many nodes, of which so many are links
abbrev pub accepted_text : List Command → Judgement → ℕ → ℕ → List ℕ
accepted_text lines judgement nodes links =
    codes "accepted " ++ claim_text lines judgement ++ codes " nodes " ++ decimal nodes ++ codes " links "
    ++ decimal links ++ codes "\n"

-- the number that a fault carries, after a space
abbrev pub number_text : Option ℕ → List ℕ
number_text None = []
number_text (Some k) = codes " " ++ decimal k

-- a node has this fault
abbrev pub node_refused_text : ℕ → RuleFault → List ℕ
node_refused_text node fault =
    codes "refused node " ++ decimal node ++ codes " " ++ fault_name_of fault ++ number_text (fault_number_of fault)
    ++ codes "\n"

-- a step of a path, after a space: a node, and which of its edges is taken
abbrev pub step_text : Step → List ℕ
step_text step = codes " " ++ decimal step.node ++ codes "." ++ decimal step.edge

-- the steps of a path
abbrev pub steps_text : List Step → List ℕ
steps_text [] = []
steps_text (step ∷ steps) = step_text step ++ steps_text steps

-- a path round whose cycle no trace progresses
abbrev pub path_refused_text : Walk → List ℕ
path_refused_text walk =
    codes "refused path stem" ++ steps_text walk.stem ++ codes " cycle" ++ steps_text walk.cycle ++ codes "\n"

-- the line and column of a place, counted from 1, which end a printed line
abbrev pub place_text : ℕ → ℕ → List ℕ
place_text line column = codes " line " ++ decimal line ++ codes " column " ++ decimal column ++ codes "\n"

-- the number of a token, counted from 0, with its place
abbrev pub token_text : ℕ → ℕ → ℕ → List ℕ
token_text token line column = codes " token " ++ decimal token ++ place_text line column

-- the input has no tokens because of what stands so many bytes from its start
abbrev pub unreadable_text : List ℕ → ℕ → ℕ → ℕ → List ℕ
unreadable_text kind offset line column =
    codes "unreadable " ++ kind ++ codes " offset " ++ decimal offset ++ place_text line column

-- the first bad place of the input
abbrev pub lexical_text : LexFault → List ℕ
lexical_text (BadByte offset line column) = unreadable_text (codes "byte") offset line column
lexical_text (BadUtf8 offset line column) = unreadable_text (codes "utf8") offset line column
lexical_text (LongNumber offset line column) = unreadable_text (codes "number") offset line column
lexical_text (LongName offset line column) = unreadable_text (codes "name") offset line column
lexical_text OutOfMemory = []

-- the tokens up to this one begin no text of the grammar
abbrev pub syntax_text : ℕ → ℕ → ℕ → List ℕ
syntax_text token line column = codes "unreadable syntax" ++ token_text token line column

-- the input is ill-formed at this token
abbrev pub ill_formed_text : IllFault → ℕ → ℕ → ℕ → List ℕ
ill_formed_text fault token line column = codes "ill-formed " ++ ill_name_of fault ++ token_text token line column

-- a limit is passed at this token
abbrev pub limit_text : What → ℕ → ℕ → ℕ → List ℕ
limit_text what token line column = codes "limit " ++ limit_name_of what ++ token_text token line column

-- the input is too long
abbrev pub input_limit_text : List ℕ
input_limit_text = codes "limit input\n"

-- there are too many product states
abbrev pub states_limit_text : List ℕ
states_limit_text = codes "limit states\n"

-- there are too many partial derivations at one depth
abbrev pub derivations_limit_text : List ℕ
derivations_limit_text = codes "limit derivations\n"

-- there are too many base pairs
abbrev pub pairs_limit_text : List ℕ
pairs_limit_text = codes "limit pairs\n"

-- some stack and heap satisfy the antecedent
abbrev pub satisfiable_text : List ℕ
satisfiable_text = codes "satisfiable\n"

-- none do
abbrev pub unsatisfiable_text : List ℕ
unsatisfiable_text = codes "unsatisfiable\n"

-- no proof was found within this depth
abbrev pub not_found_text : ℕ → List ℕ
not_found_text depth = codes "not found depth " ++ decimal depth ++ codes "\n"

-- the proof of a ring of k predicates is right, and has so many nodes, of which so many are links
abbrev pub ring_text : ℕ → ℕ → ℕ → List ℕ
ring_text k nodes links =
    codes "ring " ++ decimal k ++ codes " accepted nodes " ++ decimal nodes ++ codes " links " ++ decimal links
    ++ codes "\n"
