-- Exec at `new 0` is unsound: the premise's cell without fields holds of nothing.
use Rattle.std.proofs.Common.{◌≡◌, ℕ, zero, suc, ◌<◌, List, [], ◌∷◌, refl, ap, subst, inl, inr, arith}
use Rattle.std.specs.FinMap.{get-empty}
use Rattle.std.specs.Ordering.{nat_cmp}
use Rattle.heap_formula.specs.declared.terms.Term.TheVariants.{Univ}
use Rattle.heap_formula.specs.declared.commands.Command.{Command}
use Rattle.heap_formula.specs.declared.commands.Command.TheVariants.{New, Load}
use Rattle.heap_formula.specs.declared.judgements.Judgement.TheVariants.{Term as Runs}
use Rattle.heap_formula.specs.declared.judgements.Premise.{Premise}
use Rattle.heap_formula.specs.Symbolic.{emp}
use Rattle.heap_formula.specs.Cells.{no_cells, one_cell}
use Rattle.heap_formula.specs.Programs.{Config, Halts, EndHolds, Stops, StopsWith, MayPick, Goes, Faults, field_of, start_at}
use Rattle.heap_formula.specs.Judgements.{IsLocallySound}
use Rattle.heap_formula.proofs.Unions.{empty_union}
use Rattle.rule_table.specs.Answer.{one}
use Rattle.rule_table.specs.ExecTable.{at_line, with_cell, renamed}
use Rattle.rule_table.proofs.CellsIn.{one_cell_has}

-- $0 := new 0; $0 := $0.1
abbrev lines : List Command
lines = New 0 0 ∷ Load 0 (Univ 0) 1 ∷ []

-- what the table would give: from 2 given true : $0 -> ()
abbrev premise : Premise
premise = at_line 2 emp (with_cell (renamed 0 1 emp) 0 [])

abbrev picked : Config
picked = record { line = 2; stack = 1 ∷ []; heap = one_cell 1 [] }

load_faults : Faults (Load 0 (Univ 0) 1) picked
load_faults = ap (λ o. field_of o 1) (one_cell_has 1 [])

load_goes_on : Stops (EndHolds [] no_cells) lines picked → ⊥
load_goes_on h =
    let is : Load 0 (Univ 0) 1 ≡ h.0 = (let e = h.1 in cc) in
    subst (λ (x : Command). StopsWith (EndHolds [] no_cells) x picked → ⊥) is (λ s. s) h.2

stuck : (n : ℕ) → Halts (EndHolds [] no_cells) lines 1 n picked → ⊥
stuck zero h = load_goes_on h
stuck (suc n) (inl h) = load_goes_on h
stuck (suc n) (inr r) =
    let is : Load 0 (Univ 0) 1 ≡ r.0 = (let e = r.1 in cc) in
    r.2.1 (subst (λ (x : Command). Faults x picked) is load_faults)

new_goes_on : Stops (EndHolds [] no_cells) lines (start_at lines 1 [] no_cells) → ⊥
new_goes_on h =
    let is : New 0 0 ≡ h.0 = (let e = h.1 in cc) in
    subst (λ (x : Command). StopsWith (EndHolds [] no_cells) x (start_at lines 1 [] no_cells) → ⊥) is (λ s. s) h.2

runs_on : (n : ℕ) → Halts (EndHolds [] no_cells) lines 1 n (start_at lines 1 [] no_cells) → ⊥
runs_on zero h = new_goes_on h
runs_on (suc n) (inl h) = new_goes_on h
runs_on (suc n) (inr r) =
    let is : New 0 0 ≡ r.0 = (let e = r.1 in cc) in
    let pick : MayPick 1 (start_at lines 1 [] no_cells) 0 1 [] = record
    { positive = omega arith; within = omega arith; free = get-empty nat_cmp 1; count = refl; values_within = tt }
    in
    let way : Goes (New 0 0) 1 (start_at lines 1 [] no_cells) picked = (1, [], pick, refl) in
    stuck n (r.3 picked (subst (λ (x : Command). Goes x 1 (start_at lines 1 [] no_cells) picked) is way))

pub new_zero_is_unsound : IsLocallySound [] lines (Runs 1 emp) (one premise) → ⊥
new_zero_is_unsound sound =
    let r = sound (λ _. 0) (
      (λ below follows s h o w pos rest g union. absurd (let c : 0 < 0 = o.1.1.first.1 in omega arith)),
      tt,
    ) [] no_cells ([], (tt, refl)) 1 (omega arith) no_cells no_cells (empty_union no_cells) in
    runs_on r.0 r.1
