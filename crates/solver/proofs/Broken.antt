-- A run that stops at an end that does not hold excludes that the program halts.
use Rattle.std.proofs.Common.{◌≡◌, ℕ, zero, suc, ◌<◌, List, [], Bool, true, false, Option, Some, None, inl, inr, refl}
use Rattle.std.proofs.Common.{sym, ap, subst, ◌∙◌}
use Rattle.std.specs.Prelude.{◌↔◌, IsTrue, slice_get}
use Rattle.heap_formula.specs.declared.commands.Command.{Command}
use Rattle.heap_formula.specs.declared.commands.Command.TheVariants as commands
use Rattle.heap_formula.specs.Cells.{Cells, no_cells}
use Rattle.heap_formula.specs.Definitions.{Definition}
use Rattle.heap_formula.specs.Meaning.{Satisfies, SatisfiesOne}
use Rattle.heap_formula.specs.Programs.{Config as State, EndMeaning, Stops, StopsWith, GoesOn, Halts, EndHolds}
use Rattle.heap_formula.specs.Programs.{TerminationHolds, command_at, start_at, is_end}
use Rattle.heap_formula.specs.Symbolic.{SymbolicHeap}
use Rattle.heap_formula.specs.Values.{Stack}
use Rattle.heap_formula.proofs.Unions.{union_empty, union_same}
use Rattle.goto_lang.proofs.Moves.{one_command}
use Rattle.general_models.specs.declared.runs.picks.Pick.{Pick}
use Rattle.general_models.specs.Runs.{PickedRun}
use Rattle.general_models.proofs.Chains.{Chain, halts_chain}
use Rattle.general_models.proofs.Halting.{picked_goes}
use Rattle.general_models.proofs.SomeOf.{no}
use Rattle.solver.specs.Runs.{ComesTo, BreaksEnd}

-- a program that halts does so from each state of a run
still_halts : (End : EndMeaning) (lines : List Command) (w : ℕ) (picks : List Pick) (n m : ℕ) (c : State) (k : ℕ)
    (d : State) → PickedRun lines w picks n c k d → Halts End lines w m c → (j : ℕ) × Halts End lines w j d
still_halts End lines w picks zero m c k d r h = (m, subst (Halts End lines w m) (sym r.1) h)
still_halts End lines w picks (suc n) m c k d r h =
    let before = still_halts End lines w picks n m c r.0 r.1 r.2 h in
    let step : Chain lines w 1 r.1 d = (r.1, refl, picked_goes lines w (slice_get picks r.0) r.1 d r.3) in
    let after = halts_chain End lines w 1 before.0 r.1 d step before.1 in (after.0, after.2)

module _ (ds : List Definition) (lines : List Command) (d : State) (bs : List SymbolicHeap)
    (at : command_at lines d ≡ Some (commands.Ends bs)) where
  -- with nothing left over an end is satisfied by the whole heap
  stops_satisfied : Stops (EndHolds ds no_cells) lines d → SatisfiesOne ds d.stack d.heap bs
  stops_satisfied s =
      let holds : EndHolds ds no_cells bs d = subst (λ (x : Command). StopsWith (EndHolds ds no_cells) x d)
      (one_command s.0 (commands.Ends bs) s.1 at) s.2 in
      subst (λ (h : Cells). SatisfiesOne ds d.stack h bs) (union_same (union_empty holds.0) holds.1) holds.2

  halts_satisfied : (w n : ℕ) → Halts (EndHolds ds no_cells) lines w n d → SatisfiesOne ds d.stack d.heap bs
  halts_satisfied w zero h = stops_satisfied h
  halts_satisfied w (suc n) (inl h) = stops_satisfied h
  halts_satisfied w (suc n) (inr h) =
      let goes : GoesOn (commands.Ends bs) d = subst (λ (x : Command). GoesOn x d)
      (one_command h.0 (commands.Ends bs) h.1 at) h.2 in absurd (goes.0 tt)

pub broken_fails : (ds : List Definition) (lines : List Command) (i : ℕ) (a : SymbolicHeap) (s : Stack) (h : Cells)
    (w : ℕ) (picks : List Pick) (steps : ℕ) → 0 < w → Satisfies ds s h a
    → ComesTo lines w picks (start_at lines i s h) steps (BreaksEnd ds lines) → TerminationHolds ds lines i a → ⊥
broken_fails ds lines i a s h w picks steps positive begins broken holds =
    let from_start = holds w positive s h no_cells h (union_empty h) begins in
    let there = still_halts (EndHolds ds no_cells) lines w picks steps from_start.0 (start_at lines i s h) broken.0
    broken.1 broken.2 from_start.1 in
    broken.3.2 (halts_satisfied ds lines broken.1 broken.3.0 broken.3.1 w there.0 there.1)

-- ---- what a test of a state tells

module _ (ds : List Definition) (lines : List Command) (d : State) where
  pub at_end : (bs : List SymbolicHeap) (said : Bool) → command_at lines d ≡ Some (commands.Ends bs)
      → IsTrue said ↔ (¬ SatisfiesOne ds d.stack d.heap bs) → IsTrue said ↔ BreaksEnd ds lines d
  at_end bs said at tells = (
    λ t. (bs, at, tells.0 t),
    λ b. tells.1
        (let same : b.0 ≡ bs = ap disjuncts_of (one_command (commands.Ends b.0) (commands.Ends bs) b.1 at) in
        subst (λ (x : List SymbolicHeap). ¬ SatisfiesOne ds d.stack d.heap x) same b.2),
  )
    where
      disjuncts_of : Command → List SymbolicHeap
      disjuncts_of (commands.Ends x) = x
      disjuncts_of x = []

  pub no_line : command_at lines d ≡ None → IsTrue false ↔ BreaksEnd ds lines d
  no_line at = no (λ b. let z : None ≡ Some (commands.Ends b.0) = sym at ∙ b.1 in cc)

  pub no_end : (x : Command) → command_at lines d ≡ Some x → is_end x ≡ false → IsTrue false ↔ BreaksEnd ds lines d
  no_end x at none =
      no (λ b. let z : true ≡ false = ap is_end (one_command (commands.Ends b.0) x b.1 at) ∙ none in cc)
