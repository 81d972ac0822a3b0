-- One step of a run as the code makes it, and one step more.
use Rattle.std.proofs.Common.{◌≡◌, ℕ, zero, suc, ◌+◌, ◌≤◌, List, [], ◌∷◌, ◌++◌, length, true, Option, Some, refl, sym}
use Rattle.std.proofs.Common.{ap, subst, ◌∙◌, arith}
use Rattle.std.specs.Prelude.{◌↔◌, slice_get, slice_index}
use Rattle.heap_formula.specs.declared.commands.Command.{Command}
use Rattle.heap_formula.specs.declared.commands.Command.TheVariants.{Assign, Load, Store, New, Free, IfEq, IfNeq, IfAny}
use Rattle.heap_formula.specs.declared.commands.Command.TheVariants.{Goto, Stop as StopCommand, Ends}
use Rattle.heap_formula.specs.Values.{Stack}
use Rattle.heap_formula.specs.Programs.{Config as State, command_at, first_values}
use Rattle.goto_lang.specs.declared.configs.Config.{Config}
use Rattle.goto_lang.specs.declared.steps.Stepped.{Stepped}
use Rattle.goto_lang.specs.declared.steps.Stepped.TheVariants.{Stop, Fault, To, BadPick}
use Rattle.goto_lang.specs.States.{state_of, IsStateOf}
use Rattle.goto_lang.specs.Steps.{MayTake, Leads, IsStep}
use Rattle.goto_lang.proofs.Moves.{one_command}
use Rattle.general_models.specs.declared.runs.picks.Pick.{Pick}
use Rattle.general_models.specs.declared.runs.running.Cause.TheVariants.{Stop as AtStop, Fault as AtFault}
use Rattle.general_models.specs.declared.runs.running.Cause.TheVariants.{BadPick as AtBadPick}
use Rattle.general_models.specs.declared.runs.running.Move.{Move}
use Rattle.general_models.specs.declared.runs.running.Move.TheVariants.{To as MoveTo}
use Rattle.general_models.specs.Picks.{suits, picks_of, address_of, fields_of}
use Rattle.general_models.specs.Runs.{HasRoom, PickedStep, PickedRun, IsCause}
use Rattle.general_models.specs.Moves.{IsMove}

module _ (lines : List Command) (w : ℕ) (pick : Option Pick) (c : State) (command : Command) (a : ℕ) (vs : List ℕ)
    (r : Stepped) (room : HasRoom w c) (at : command_at lines c ≡ Some command) (fits : suits command pick ≡ true)
    (ae : a ≡ address_of pick) (ve : vs ≡ fields_of pick) (answer : (q : Stepped) → (r ≡ q) ↔ IsStep lines w a vs c q)
  where
    pub stop_move : r ≡ Stop → IsCause lines w pick c AtStop
    stop_move e = (room, (answer Stop).0 e)

    pub fault_move : r ≡ Fault → IsCause lines w pick c AtFault
    fault_move e = (room, (answer Fault).0 e)

    pub bad_move : r ≡ BadPick → IsCause lines w pick c AtBadPick
    bad_move e =
        let s = (answer BadPick).0 e in (
          room,
          (
            s.0,
            s.1,
            subst (λ x. suits x pick ≡ true) (one_command command s.0 at s.1) fits,
            (λ m. s.2 (subst (λ b. MayTake s.0 w b vs c) (sym ae)
                (subst (λ us. MayTake s.0 w (address_of pick) us c) (sym ve) m))),
          ),
        )

    pub to_move : (d : Config) → r ≡ To d → PickedStep lines w pick c (state_of d)
    to_move d e =
        let s = (answer (To d)).0 e in
        record {
          room = room;
          command = s.0;
          at = s.1;
          suited = subst (λ x. suits x pick ≡ true) (one_command command s.0 at s.1) fits;
          may = subst (λ us. MayTake s.0 w (address_of pick) us c) ve (subst (λ b. MayTake s.0 w b vs c) ae s.2);
          leads = subst (λ us. Leads s.0 (address_of pick) us c (state_of d)) ve
              (subst (λ b. Leads s.0 b vs c (state_of d)) ae s.3);
        }

-- a command takes one pick at most
pub few_picks : (x : Command) → picks_of x ≤ 1
few_picks (Assign x t) = omega arith
few_picks (Load x t k) = omega arith
few_picks (Store t k u) = omega arith
few_picks (New x k) = omega arith
few_picks (Free t) = omega arith
few_picks (IfEq t u j) = omega arith
few_picks (IfNeq t u j) = omega arith
few_picks (IfAny j) = omega arith
few_picks (Goto j) = omega arith
few_picks StopCommand = omega arith
few_picks (Ends bs) = omega arith

pub run_more : (lines : List Command) (w : ℕ) (picks : List Pick) (n : ℕ) (c : State) (j : ℕ) (d : State)
    (command : Command) (taken : ℕ) (r : Move) (next : Config) → PickedRun lines w picks n c j d
    → command_at lines d ≡ Some command → taken ≡ picks_of command → IsMove lines w (slice_get picks j) d r
    → r ≡ MoveTo next → PickedRun lines w picks (n + 1) c (j + taken) (state_of next) × IsStateOf lines (state_of next)
run_more lines w picks n c j d command taken r next run at te h e =
    let m : PickedStep lines w (slice_get picks j) d (state_of next)
    × IsStateOf lines (state_of next) = subst (IsMove lines w (slice_get picks j) d) e h in
    let same : command ≡ m.0.command = one_command command m.0.command at m.0.at in
    let k : j + taken ≡ j + picks_of m.0.command = ap (λ i. j + i) (te ∙ ap picks_of same) in
    let longer : PickedRun lines w picks (suc n) c (j + taken) (state_of next) = (j, d, run, m.0, k) in
    let f : suc n ≡ n + 1 = omega arith in
    (subst (λ i. PickedRun lines w picks i c (j + taken) (state_of next)) f longer, m.1)

-- ---- where a run begins

first_more : (i : ℕ) (s : Stack) → first_values (suc i) s ≡ first_values i s ++ slice_index s i ∷ []
first_more zero [] = refl
first_more zero (v ∷ s) = refl
first_more (suc i) [] = ap (λ u. 0 ∷ u) (first_more i [])
first_more (suc i) (v ∷ s) = ap (λ u. v ∷ u) (first_more i s)

pub next_first : (i : ℕ) (s values new : List ℕ) (v : ℕ) → new ≡ values ++ v ∷ [] → v ≡ slice_index s i
    → values ≡ first_values i s → new ≡ first_values (i + 1) s
next_first i s values new v ne ve is =
    let f : suc i ≡ i + 1 = omega arith in
    ne ∙ ap (λ u. values ++ u ∷ []) ve ∙ ap (λ xs. xs ++ slice_index s i ∷ []) is ∙ sym (first_more i s)
    ∙ ap (λ n. first_values n s) f

pub length_first : (p : ℕ) (s : Stack) → length (first_values p s) ≡ p
length_first zero s = refl
length_first (suc p) [] = ap suc (length_first p [])
length_first (suc p) (v ∷ s) = ap suc (length_first p s)
