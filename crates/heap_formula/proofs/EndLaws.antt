-- Facts of each `stop`; and where no line has an end, what ends mean makes no difference.
use Rattle.std.proofs.Common.{◌≡◌, ℕ, zero, suc, Bool, true, false, ◌||◌, List, [], ◌∷◌, Some, slice_get, inl, inr, refl}
use Rattle.std.proofs.Common.{sym, ◌∙◌, ap}
use Rattle.heap_formula.specs.declared.commands.Command.{Command}
use Rattle.heap_formula.specs.declared.commands.Command.TheVariants.{Assign, Load, Store, New, Free, IfEq, IfNeq, IfAny}
use Rattle.heap_formula.specs.declared.commands.Command.TheVariants.{Goto, Stop, Ends}
use Rattle.heap_formula.specs.Symbolic.{SymbolicHeap}
use Rattle.heap_formula.specs.Programs.{Config, IsStop, EndMeaning, StopsWith, Stops, Halts, is_end, has_ends, command_at}
use Rattle.heap_formula.specs.Programs.{counted_from_one}

-- what is so of `stop` and of each end is so of each command at which a run stops
pub at_each_stop : (P : Command → Type 0) → P Stop → ((bs : List SymbolicHeap) → P (Ends bs)) → (x : Command)
    → IsStop x → P x
at_each_stop P p q (Assign x t) s = absurd s
at_each_stop P p q (Load x t k) s = absurd s
at_each_stop P p q (Store t k u) s = absurd s
at_each_stop P p q (New x k) s = absurd s
at_each_stop P p q (Free t) s = absurd s
at_each_stop P p q (IfEq t u j) s = absurd s
at_each_stop P p q (IfNeq t u j) s = absurd s
at_each_stop P p q (IfAny j) s = absurd s
at_each_stop P p q (Goto j) s = absurd s
at_each_stop P p q Stop s = p
at_each_stop P p q (Ends bs) s = q bs

-- a command with which a run may stop is one
pub stops_is_stop : (End : EndMeaning) (x : Command) (c : Config) → StopsWith End x c → IsStop x
stops_is_stop End (Assign x t) c s = s
stops_is_stop End (Load x t k) c s = s
stops_is_stop End (Store t k u) c s = s
stops_is_stop End (New x k) c s = s
stops_is_stop End (Free t) c s = s
stops_is_stop End (IfEq t u j) c s = s
stops_is_stop End (IfNeq t u j) c s = s
stops_is_stop End (IfAny j) c s = s
stops_is_stop End (Goto j) c s = s
stops_is_stop End Stop c s = tt
stops_is_stop End (Ends bs) c s = tt

neither : (a b : Bool) → (a || b) ≡ false → (a ≡ false) × (b ≡ false)
neither true b e = cc
neither false b e = (refl, e)

no_end_among : (lines : List Command) (i : ℕ) (x : Command) → has_ends lines ≡ false → slice_get lines i ≡ Some x
    → is_end x ≡ false
no_end_among [] i x none at = cc
no_end_among (y ∷ ys) zero x none at =
    let same : y ≡ x = cc in ap is_end (sym same) ∙ (neither (is_end y) (has_ends ys) none).0
no_end_among (y ∷ ys) (suc i) x none at = no_end_among ys i x (neither (is_end y) (has_ends ys) none).1 at

no_end_at : (lines : List Command) (i : ℕ) (x : Command) → has_ends lines ≡ false → counted_from_one lines i ≡ Some x
    → is_end x ≡ false
no_end_at lines zero x none at = cc
no_end_at lines (suc i) x none at = no_end_among lines i x none at

module _ (End Other : EndMeaning) (lines : List Command) (none : has_ends lines ≡ false) where
  with_alike : (c : Config) (x : Command) → is_end x ≡ false → StopsWith End x c → StopsWith Other x c
  with_alike c (Assign x t) e s = s
  with_alike c (Load x t k) e s = s
  with_alike c (Store t k u) e s = s
  with_alike c (New x k) e s = s
  with_alike c (Free t) e s = s
  with_alike c (IfEq t u j) e s = s
  with_alike c (IfNeq t u j) e s = s
  with_alike c (IfAny j) e s = s
  with_alike c (Goto j) e s = s
  with_alike c Stop e s = s
  with_alike c (Ends bs) e s = cc

  stops_alike : (c : Config) → Stops End lines c → Stops Other lines c
  stops_alike c s = (s.0, s.1, with_alike c s.0 (no_end_at lines c.line s.0 none s.1) s.2)

  pub halts_alike : (w n : ℕ) (c : Config) → Halts End lines w n c → Halts Other lines w n c
  halts_alike w zero c h = stops_alike c h
  halts_alike w (suc n) c (inl h) = inl (stops_alike c h)
  halts_alike w (suc n) c (inr r) = inr (r.0, r.1, r.2, λ d g. halts_alike w n d (r.3 d g))
