-- What is tried at a symbolic state of a program, line by line.
use Rattle.std.specs.Prelude.{ℕ, zero, suc, List, [], ◌∷◌, ◌++◌, length, slice_get, Bool, true, false, not, ◌&&◌, ◌||◌}
use Rattle.std.specs.Prelude.{if◌then◌else◌, nat_eq, nat_le, Option, Some, None, Ok, Err}
use Rattle.std.specs.List.{filter, list_any}
use Rattle.heap_formula.specs.declared.terms.Term.{Term}
use Rattle.heap_formula.specs.declared.terms.Term.TheVariants.{Nil, Univ, Exist}
use Rattle.heap_formula.specs.declared.atoms.Pure.{Pure}
use Rattle.heap_formula.specs.declared.atoms.Pure.TheVariants.{Eq, Neq}
use Rattle.heap_formula.specs.declared.atoms.Spatial.{Spatial}
use Rattle.heap_formula.specs.declared.atoms.Spatial.TheVariants.{Cell, Pred}
use Rattle.heap_formula.specs.declared.commands.Command.{Command}
use Rattle.heap_formula.specs.declared.commands.Command.TheVariants.{Assign, Load, Store, New, Free, IfEq, IfNeq, IfAny}
use Rattle.heap_formula.specs.declared.commands.Command.TheVariants.{Goto, Stop, Ends}
use Rattle.heap_formula.specs.declared.judgements.Judgement.{Judgement}
use Rattle.heap_formula.specs.declared.judgements.Judgement.TheVariants.{Entail, Term as Runs}
use Rattle.heap_formula.specs.declared.proof_rules.Side.{Side}
use Rattle.heap_formula.specs.declared.proof_rules.Side.TheVariants.{Left, Right}
use Rattle.heap_formula.specs.declared.proof_rules.Rule.{Rule}
use Rattle.heap_formula.specs.declared.proof_rules.Rule.TheVariants.{Absurd, Rewrite, Split, Distinct, Weaken, Unfold}
use Rattle.heap_formula.specs.declared.proof_rules.Rule.TheVariants.{Cut, Done, Choose, PureRight, Instantiate, Frame}
use Rattle.heap_formula.specs.declared.proof_rules.Rule.TheVariants.{UnfoldRight, Exec, Drop}
use Rattle.heap_formula.specs.declared.proof_rules.RuleFault.{RuleFault}
use Rattle.heap_formula.specs.declared.proof_rules.RuleFault.TheVariants.{NoSuchAtom, NotEquation, AtomsDiffer}
use Rattle.heap_formula.specs.declared.proof_rules.RuleFault.TheVariants.{NotSingle, HasExistential, NotFollowing}
use Rattle.heap_formula.specs.declared.proof_rules.RuleFault.TheVariants.{NotAbsurd, NotEmpty, NoSuchCase}
use Rattle.heap_formula.specs.declared.proof_rules.RuleFault.TheVariants.{WrongJudgement, NoCell, LineDiffers}
use Rattle.heap_formula.specs.declared.proof_rules.RuleFault.TheVariants.{LinkProgramVariable, LinkPure, LinkSpatial}
use Rattle.heap_formula.specs.declared.proof_rules.RuleFault.TheVariants.{LinkDisjunct, TooManyAtoms, NoFreshVariable}
use Rattle.heap_formula.specs.declared.proof_rules.RuleFault.TheVariants.{PremiseCount, PremiseDiffers, NoSuchNode}
use Rattle.heap_formula.specs.declared.proof_rules.Reason.{Reason}
use Rattle.heap_formula.specs.declared.proof_rules.Reason.TheVariants.{Step, Back}
use Rattle.heap_formula.specs.Symbolic.{SymbolicHeap}
use Rattle.heap_formula.specs.Programs.{counted_from_one, program_variables}
use Rattle.rule_table.specs.Answer.{Answer}
use Rattle.rule_table.specs.Tests.{same_term, equated}
use Rattle.rule_table.specs.ExecTable.{exec_answer}
use Rattle.back_links.specs.Listing.{stands_in_pure, stands_in_spatial}
use Rattle.search_moves.specs.Places.{each_place, first_place, first_line}
use Rattle.search_moves.specs.Trying.{Theory, is_applicable}
use Rattle.search_moves.specs.Nodes.{MadeNode, judgement_of}
use Rattle.search_moves.specs.Entailments.{rewrite_at}
use Rattle.search_moves.specs.Folds.{folds}

-- ---- equations of the state

abbrev pub stands_in_others : ℕ → ℕ → ℕ → Pure → Bool
stands_in_others n k i x = not (nat_eq i k) && stands_in_pure n x

-- the variable stands in a pure atom but atom k; the list begins at place i
abbrev pub some_other_has : ℕ → ℕ → ℕ → List Pure → Bool
some_other_has n k i [] = false
some_other_has n k i (x ∷ xs) = stands_in_others n k i x || some_other_has n k (suc i) xs

-- the variable stands in the state outside pure atom k
abbrev pub stands_elsewhere : SymbolicHeap → ℕ → ℕ → Bool
stands_elsewhere a k n = some_other_has n k 0 a.pure || list_any (stands_in_spatial n) a.spatial

-- a variable that is no program variable
abbrev pub is_logical : ℕ → Term → Bool
is_logical p Nil = false
is_logical p (Univ n) = nat_le p n
is_logical p (Exist n) = false

abbrev pub occurs_elsewhere : SymbolicHeap → ℕ → Term → Bool
occurs_elsewhere a k Nil = false
occurs_elsewhere a k (Univ n) = stands_elsewhere a k n
occurs_elsewhere a k (Exist n) = false

-- the side of pure atom k that gives way, by the first test that holds
abbrev pub state_side : ℕ → SymbolicHeap → ℕ → Pure → Option Side
state_side p a k (Neq t u) = None
state_side p a k (Eq t u) =
    if same_term t u then Some Left else (if is_logical p t then Some Left else
    (if is_logical p u then Some Right else (if occurs_elsewhere a k t then Some Left else
    (if same_term t Nil && occurs_elsewhere a k u then Some Right else None))))

abbrev pub state_rewrite : ℕ → SymbolicHeap → ℕ → Pure → List Rule
state_rewrite p a k x = rewrite_at k (state_side p a k x)

-- by the first equation of which some side gives way
abbrev pub state_rewrites : ℕ → SymbolicHeap → List Rule
state_rewrites p a = first_place (state_rewrite p a) a.pure

-- ---- commands

-- `stop`, with an end or without
abbrev pub is_stop : Option Command → Bool
is_stop (Some Stop) = true
is_stop (Some (Ends bs)) = true
is_stop (Some (Assign x t)) = false
is_stop (Some (Load x t k)) = false
is_stop (Some (Store t k u)) = false
is_stop (Some (New x k)) = false
is_stop (Some (Free t)) = false
is_stop (Some (IfEq t u i)) = false
is_stop (Some (IfNeq t u i)) = false
is_stop (Some (IfAny i)) = false
is_stop (Some (Goto i)) = false
is_stop None = false

abbrev pub stops : Option Command → List Rule
stops c = if is_stop c then Exec ∷ [] else []

-- the address at which the command wants a cell
abbrev pub wanted_cell : Option Command → Option Term
wanted_cell (Some (Load x t k)) = Some t
wanted_cell (Some (Store t k u)) = Some t
wanted_cell (Some (Free t)) = Some t
wanted_cell (Some (Assign x t)) = None
wanted_cell (Some (New x k)) = None
wanted_cell (Some (IfEq t u i)) = None
wanted_cell (Some (IfNeq t u i)) = None
wanted_cell (Some (IfAny i)) = None
wanted_cell (Some (Goto i)) = None
wanted_cell (Some Stop) = None
wanted_cell (Some (Ends bs)) = None
wanted_cell None = None

-- the predicate has an argument that is the term or stands with it in an equation
abbrev pub reaches : List Pure → Term → Spatial → Bool
reaches pures t (Cell u us) = false
reaches pures t (Pred q us) = list_any (λ u. equated pures u t) us

abbrev pub unfold_for : List Pure → Term → ℕ → Spatial → List Rule
unfold_for pures t k x = if reaches pures t x then Unfold k ∷ [] else []

abbrev pub unfolds_at : SymbolicHeap → Term → List Rule
unfolds_at a t = each_place (unfold_for a.pure t) a.spatial

abbrev pub is_no_cell : RuleFault → Bool
is_no_cell NoSuchAtom = false
is_no_cell NotEquation = false
is_no_cell AtomsDiffer = false
is_no_cell NotSingle = false
is_no_cell HasExistential = false
is_no_cell NotFollowing = false
is_no_cell NotAbsurd = false
is_no_cell NotEmpty = false
is_no_cell NoSuchCase = false
is_no_cell WrongJudgement = false
is_no_cell NoCell = true
is_no_cell LineDiffers = false
is_no_cell LinkProgramVariable = false
is_no_cell (LinkPure k) = false
is_no_cell (LinkSpatial k) = false
is_no_cell (LinkDisjunct k) = false
is_no_cell TooManyAtoms = false
is_no_cell NoFreshVariable = false
is_no_cell PremiseCount = false
is_no_cell (PremiseDiffers i) = false
is_no_cell NoSuchNode = false

abbrev pub misses_cell : Answer → Bool
misses_cell (Ok ps) = false
misses_cell (Err f) = is_no_cell f

abbrev pub unfolds_for : SymbolicHeap → Option Term → List Rule
unfolds_for a None = []
unfolds_for a (Some t) = unfolds_at a t

-- where Exec wants a cell and there is none: the predicates that may have it
abbrev pub unfolds_if : Bool → SymbolicHeap → Option Command → List Rule
unfolds_if missing a c = if missing then unfolds_for a (wanted_cell c) else []

-- Exec has no cell where it wants one
abbrev pub lacks_cell : Theory → Judgement → Bool
lacks_cell t j = misses_cell (exec_answer t.most t.lines j)

-- the predicates that may have the cell that the line wants and that is not there
abbrev pub cell_unfolds : Theory → Judgement → ℕ → SymbolicHeap → List Rule
cell_unfolds t j i a = unfolds_if (lacks_cell t j) a (counted_from_one t.lines i)

-- ---- the nodes before

-- the rule unfolds an atom or executes a command
abbrev pub is_work : Rule → Bool
is_work Absurd = false
is_work (Rewrite k side) = false
is_work (Split t u) = false
is_work (Distinct i k) = false
is_work (Weaken k) = false
is_work (Unfold k) = true
is_work (Cut places f) = false
is_work Done = false
is_work (Choose k) = false
is_work (PureRight k) = false
is_work (Instantiate v t) = false
is_work (Frame i k) = false
is_work (UnfoldRight k c) = false
is_work Exec = true
is_work (Drop k) = false

abbrev pub is_unfold : Rule → Bool
is_unfold Absurd = false
is_unfold (Rewrite k side) = false
is_unfold (Split t u) = false
is_unfold (Distinct i k) = false
is_unfold (Weaken k) = false
is_unfold (Unfold k) = true
is_unfold (Cut places f) = false
is_unfold Done = false
is_unfold (Choose k) = false
is_unfold (PureRight k) = false
is_unfold (Instantiate v t) = false
is_unfold (Frame i k) = false
is_unfold (UnfoldRight k c) = false
is_unfold Exec = false
is_unfold (Drop k) = false

-- the reason is such a rule
abbrev pub has_rule : (Rule → Bool) → Reason → Bool
has_rule test (Step rule) = test rule
has_rule test (Back link) = false

-- what a rule says of the way up to Exec, where above says what the nodes above it say
abbrev pub by_exec : Bool → Rule → Bool
by_exec above Absurd = false
by_exec above (Rewrite k side) = above
by_exec above (Split t u) = false
by_exec above (Distinct i k) = false
by_exec above (Weaken k) = false
by_exec above (Unfold k) = false
by_exec above (Cut places f) = above
by_exec above Done = false
by_exec above (Choose k) = false
by_exec above (PureRight k) = false
by_exec above (Instantiate v t) = false
by_exec above (Frame i k) = false
by_exec above (UnfoldRight k c) = false
by_exec above Exec = true
by_exec above (Drop k) = false

-- the node decides, where f says what the node above it says
abbrev pub climb_by : (ℕ → Bool) → Option MadeNode → Bool
climb_by f None = false
climb_by f (Some node) = has_rule (by_exec (f node.goal.parent)) node.reason

-- going up from node v, at most n nodes, over Rewrite and Cut: the first other rule is Exec
abbrev pub climbs : List MadeNode → ℕ → ℕ → Bool
climbs nodes zero v = false
climbs nodes (suc n) v = climb_by (climbs nodes n) (slice_get nodes v)

abbrev pub is_on_line : ℕ → Judgement → Bool
is_on_line i (Entail a bs) = false
is_on_line i (Runs k a) = nat_eq k i

-- a node of the line that unfolds or executes
abbrev pub works_on : ℕ → MadeNode → Bool
works_on i node = is_on_line i (judgement_of node) && has_rule is_work node.reason

-- ---- the lines

-- folds are tried after Exec alone, where the line was worked on before; node v is above the goal
abbrev pub folds_if : Theory → List MadeNode → ℕ → ℕ → SymbolicHeap → List Rule
folds_if t nodes v i a =
    if climbs nodes (length nodes) v && list_any (works_on i) nodes then folds a t.definitions else []

abbrev pub stops_that_go : Theory → Judgement → ℕ → List Rule
stops_that_go t j i = filter (is_applicable t j) (stops (counted_from_one t.lines i))

-- before links are looked at
abbrev pub state_before : Theory → Judgement → ℕ → SymbolicHeap → List Rule
state_before t j i a =
    first_line (filter (is_applicable t j) (Absurd ∷ []) ∷ stops_that_go t j i
    ∷ state_rewrites (program_variables t.lines) a ∷ [])

-- where no link is admitted
abbrev pub state_after : Theory → List MadeNode → ℕ → Judgement → ℕ → SymbolicHeap → List Rule
state_after t nodes v j i a =
    filter (is_applicable t j) (folds_if t nodes v i a ++ (Exec ∷ cell_unfolds t j i a))
