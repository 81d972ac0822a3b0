-- Steps of the machine one after the other, and a program that halts.
use Rattle.std.proofs.Common.{◌≡◌, ℕ, zero, suc, ◌+◌, inl, inr, List, sym, subst, arith}
use Rattle.heap_formula.specs.declared.commands.Command.{Command}
use Rattle.heap_formula.specs.Programs.{Config as State, Goes, IsStop, EndMeaning, Stops, Halts}
use Rattle.heap_formula.proofs.EndLaws.{at_each_stop, stops_is_stop}
use Rattle.goto_lang.specs.Steps.{IsSuccessor}
use Rattle.goto_lang.proofs.Moves.{one_command}

-- n steps from c to d
abbrev pub Chain : List Command → ℕ → ℕ → State → State → Type 0
Chain lines w zero c d = d ≡ c
Chain lines w (suc n) c d = (m : State) × Chain lines w n c m × IsSuccessor lines w m d

-- no step leads from a state in which the run may stop
no_step : (End : EndMeaning) (lines : List Command) (w : ℕ) (c d : State) → IsSuccessor lines w c d
    → Stops End lines c → ⊥
no_step End lines w c d s h =
    at_each_stop (λ x. Goes x w c d → ⊥) (λ g. g) (λ bs g. g) s.0
    (subst IsStop (one_command h.0 s.0 h.1 s.1) (stops_is_stop End h.0 c h.2)) s.2

module _ (End : EndMeaning) (lines : List Command) (w : ℕ) where
  halts_step : (m : ℕ) (c d : State) → IsSuccessor lines w c d → Halts End lines w m c
      → (n : ℕ) × (m ≡ n + 1) × Halts End lines w n d
  halts_step zero c d s h = absurd (no_step End lines w c d s h)
  halts_step (suc m) c d s (inl h) = absurd (no_step End lines w c d s h)
  halts_step (suc m) c d s (inr h) =
      (m, omega arith, h.3 d (subst (λ x. Goes x w c d) (one_command s.0 h.0 s.1 h.1) s.2))

  pub halts_chain : (n m : ℕ) (c d : State) → Chain lines w n c d → Halts End lines w m c
      → (k : ℕ) × (m ≡ k + n) × Halts End lines w k d
  halts_chain zero m c d r h = (m, omega arith, subst (Halts End lines w m) (sym r) h)
  halts_chain (suc n) m c d r h =
      let a = halts_chain n m c r.0 r.1 h in
      let b = halts_step a.0 r.0 d r.2 a.2 in
      let e : m ≡ a.0 + n = a.1 in
      let f : a.0 ≡ b.0 + 1 = b.1 in (b.0, omega arith, b.2)
