-- Runs with the least free address: each step is one of the machine's, and a run ends in one way.
use Rattle.std.proofs.Common.{◌≡◌, ◌≢◌, ℕ, zero, suc, ◌+◌, ◌<◌, ◌≤◌, ◌⊎◌, inl, inr, List, length, Option, Some, None}
use Rattle.std.proofs.Common.{refl, sym, ap, subst, ◌∙◌, arith}
use Rattle.std.specs.Prelude.{◌↔◌, IsSome, replicate}
use Rattle.std.proofs.Math.ListN.{length-replicate}
use Rattle.std.proofs.lemmas.Bool.{cases_lt, cases_order}
use Rattle.heap_formula.specs.declared.commands.Command.{Command}
use Rattle.heap_formula.specs.declared.commands.Command.TheVariants.{Assign, Load, Store, New, Free, IfEq, IfNeq, IfAny}
use Rattle.heap_formula.specs.declared.commands.Command.TheVariants.{Goto, Stop as StopCommand, Ends}
use Rattle.heap_formula.specs.Cells.{Cells, cell_at}
use Rattle.heap_formula.specs.Programs.{Config as State, Faults, IsStop, IsAtStop, MayPick, command_at, greatest}
use Rattle.heap_formula.proofs.StepLaws.{may_pick}
use Rattle.goto_lang.specs.declared.configs.Config.{Config}
use Rattle.goto_lang.specs.declared.steps.Stepped.{Stepped}
use Rattle.goto_lang.specs.declared.steps.Stepped.TheVariants.{Stop, Fault, To, BadPick}
use Rattle.goto_lang.specs.declared.runs.Ran.{Ran}
use Rattle.goto_lang.specs.declared.runs.Ran.TheVariants.{Stopped, Faulted, Running}
use Rattle.goto_lang.specs.Lines.{IsProgram, MayStandAt}
use Rattle.goto_lang.specs.States.{state_of, IsStateOf, IsLeastFree}
use Rattle.goto_lang.specs.Steps.{MayTake, Leads, IsSuccessor}
use Rattle.goto_lang.specs.Effects.{Makes}
use Rattle.goto_lang.specs.Endings.{zero_fields, IsLowestPick, LowestStep, LowestRun, IsEnding, IsLowest}
use Rattle.goto_lang.proofs.Moves.{goes, leads_same, leads_well, one_command, leads_stay, stop_well}
use Rattle.goto_lang.proofs.Moves.{stop_stays}

-- ---- the least free address

none_is_none : {X : Type 0} (o : Option X) → o ≡ None → IsSome o → ⊥
none_is_none None e s = cc
none_is_none (Some x) e s = cc

least_same : (h : Cells) (a b : ℕ) → IsLeastFree h a → IsLeastFree h b → a ≡ b
least_same h a b p q =
    elim (cases_order a b) [
      | inl e ↦ e
      | inr o ↦ elim o [
        | inl l ↦ absurd (none_is_none (cell_at h a) p.free (q.least a p.positive l))
        | inr l ↦ absurd (none_is_none (cell_at h b) q.free (p.least b q.positive l))
      ]
    ]

pick_same : (x : Command) (h : Cells) (a b : ℕ) → IsLowestPick x h a → IsLowestPick x h b → a ≡ b
pick_same (Assign x t) h a b p q = least_same h a b p q
pick_same (Load x t k) h a b p q = least_same h a b p q
pick_same (Store t k u) h a b p q = least_same h a b p q
pick_same (New x k) h a b p q = least_same h a b p q
pick_same (Free t) h a b p q = least_same h a b p q
pick_same (IfEq t u j) h a b p q = least_same h a b p q
pick_same (IfNeq t u j) h a b p q = least_same h a b p q
pick_same (IfAny j) h a b p q = p ∙ sym q
pick_same (Goto j) h a b p q = least_same h a b p q
pick_same StopCommand h a b p q = least_same h a b p q
pick_same (Ends bs) h a b p q = least_same h a b p q

-- it is at most one above the greatest number
least_within : (w : ℕ) (c : State) (a k : ℕ) → 0 < w → IsLeastFree c.heap a → MayPick w c k a (replicate k 0)
least_within w c a k pos l =
    let m = may_pick w c k pos in record {
      positive = l.positive;
      within = within (cases_lt (suc (greatest c)) a) m;
      free = l.free;
      count = length-replicate k 0;
      values_within = m.values_within;
    }
  where
    within : ((suc (greatest c) < a) ⊎ (a ≤ suc (greatest c))) → MayPick w c k (suc (greatest c)) (replicate k 0)
        → a ≤ greatest c + w
    within (inl above) m = absurd (none_is_none (cell_at c.heap (suc (greatest c))) m.free
        (l.least (suc (greatest c)) m.positive above))
    within (inr below) m = omega arith

zero_may : (x : Command) (w : ℕ) (c : State) (a : ℕ) → 0 < w → IsLowestPick x c.heap a → MayTake x w a (zero_fields x) c
zero_may (New x k) w c a pos l = least_within w c a k pos l
zero_may (Assign x t) w c a pos l = tt
zero_may (Load x t k) w c a pos l = tt
zero_may (Store t k u) w c a pos l = tt
zero_may (Free t) w c a pos l = tt
zero_may (IfEq t u j) w c a pos l = tt
zero_may (IfNeq t u j) w c a pos l = tt
zero_may (IfAny j) w c a pos l = omega arith
zero_may (Goto j) w c a pos l = tt
zero_may StopCommand w c a pos l = tt
zero_may (Ends bs) w c a pos l = tt

pub lowest_is_step : (lines : List Command) (w : ℕ) → 0 < w → (c d : State) → LowestStep lines c d
    → IsSuccessor lines w c d
lowest_is_step lines w pos c d s = (s.0, s.2, goes s.0 w s.1 (zero_fields s.0) c d (zero_may s.0 w c s.1 pos s.3) s.4)

pub zero_takes : (x : Command) (h : Cells) (a n i : ℕ) → IsLowestPick x h a → MayStandAt n i x → (y k : ℕ) → x ≡ New y k
    → (0 < a) × (0 < length (zero_fields x))
zero_takes (New x k) h a n i l s y j e = (l.positive, subst (λ (m : ℕ). 0 < m) (sym (length-replicate k 0)) s.1.0)
zero_takes (Assign x t) h a n i l s y j e = cc
zero_takes (Load x t k) h a n i l s y j e = cc
zero_takes (Store t k u) h a n i l s y j e = cc
zero_takes (Free t) h a n i l s y j e = cc
zero_takes (IfEq t u k) h a n i l s y j e = cc
zero_takes (IfNeq t u k) h a n i l s y j e = cc
zero_takes (IfAny k) h a n i l s y j e = cc
zero_takes (Goto k) h a n i l s y j e = cc
zero_takes StopCommand h a n i l s y j e = cc
zero_takes (Ends bs) h a n i l s y j e = cc

pub makes_lowest : (lines : List Command) (c : State) (x : Command) (a : ℕ) (vs : List ℕ) (r : Stepped)
    → IsProgram lines → IsStateOf lines c → command_at lines c ≡ Some x → IsLowestPick x c.heap a → vs ≡ zero_fields x
    → Makes x a vs c r → IsLowest lines c r
makes_lowest lines c x a vs Stop program is at l e m = (x, at, m)
makes_lowest lines c x a vs Fault program is at l e m = (x, at, m)
makes_lowest lines c x a vs (To d) program is at l e m = (
  (x, a, at, l, subst (λ us. Leads x a us c (state_of d)) e m),
  leads_stay lines x a vs c (state_of d) is (program.commands c.line x at) m,
)
makes_lowest lines c x a vs BadPick program is at l e m = absurd m

-- ---- a run ends in one way

lowest_same : (lines : List Command) (c d e : State) → LowestStep lines c d → LowestStep lines c e → d ≡ e
lowest_same lines c d e p q =
    let x = one_command p.0 q.0 p.2 q.2 in
    let a = pick_same q.0 c.heap p.1 q.1 (subst (λ y. IsLowestPick y c.heap p.1) x p.3) q.3 in
    leads_same q.0 q.1 (zero_fields q.0) c d e (subst (λ b. Leads q.0 b (zero_fields q.0) c d) a
    (subst (λ y. Leads y p.1 (zero_fields y) c d) x p.4)) q.4

run_same : (lines : List Command) (n : ℕ) (c d e : State) → LowestRun lines n c d → LowestRun lines n c e → d ≡ e
run_same lines zero c d e p q = p ∙ sym q
run_same lines (suc n) c d e p q =
    lowest_same lines q.0 d e (subst (λ m. LowestStep lines m d) (run_same lines n c p.0 q.0 p.1 q.1) p.2) q.2

-- no step leads on
abbrev IsStuck : List Command → State → Type 0
IsStuck lines d = (e : State) → LowestStep lines d e → ⊥

not_beyond : (lines : List Command) (n m : ℕ) (c d e : State) → LowestRun lines n c d → IsStuck lines d
    → LowestRun lines m c e → m ≤ n
not_beyond lines n zero c d e p stuck q = omega arith
not_beyond lines n (suc m) c d e p stuck q =
    let le = not_beyond lines n m c d q.0 p stuck q.1 in
    elim (cases_lt m n) [
      | inl l ↦ omega arith
      | inr l ↦ let same : m ≡ n = omega arith in absurd (stuck e
          (subst (λ s. LowestStep lines s e) (run_same lines n c q.0 d (subst (λ k. LowestRun lines k c q.0) same q.1)
          p) q.2))
    ]

stop_stuck : (lines : List Command) (d : State) → IsAtStop lines d → IsStuck lines d
stop_stuck lines d at e s =
    stop_stays s.0 s.1 (zero_fields s.0) d e (subst IsStop (one_command at.0 s.0 at.1 s.2) at.2) s.4

fault_stuck : (lines : List Command) (d : State) (x : Command) → command_at lines d ≡ Some x → Faults x d
    → IsStuck lines d
fault_stuck lines d x at f e s = leads_well s.0 s.1 (zero_fields s.0) d e s.4
    (subst (λ y. Faults y d) (one_command x s.0 at s.2) f)

same_end : (lines : List Command) (n m : ℕ) (c d e : State) → LowestRun lines n c d → IsStuck lines d
    → LowestRun lines m c e → IsStuck lines e → n ≡ m
same_end lines n m c d e p s q t =
    let a = not_beyond lines n m c d e p s q in
    let b = not_beyond lines m n c e d q t p in omega arith

-- a run of all the steps has not gone on from where nothing leads on
same_last : (lines : List Command) (steps n : ℕ) (c d e : State) → n ≤ steps → LowestRun lines n c d → IsStuck lines d
    → LowestRun lines steps c e → d ≡ e
same_last lines steps n c d e le p stuck q =
    let back = not_beyond lines n steps c d e p stuck q in
    let same : n ≡ steps = omega arith in run_same lines steps c d e (subst (λ k. LowestRun lines k c d) same p) q

stop_not_running : (lines : List Command) (steps n : ℕ) (c d e : State) (x : Command) → n ≤ steps
    → LowestRun lines n c d → IsAtStop lines d → LowestRun lines steps c e → command_at lines e ≡ Some x
    → (¬ IsStop x) → ⊥
stop_not_running lines steps n c d e x le p at q there not_stop =
    let same = same_last lines steps n c d e le p (stop_stuck lines d at) q in
    not_stop (subst IsStop (one_command at.0 x (subst (λ s. command_at lines s ≡ Some at.0) same at.1) there) at.2)

fault_not_running : (lines : List Command) (steps n : ℕ) (c d e : State) (y x : Command) → n ≤ steps
    → LowestRun lines n c d → command_at lines d ≡ Some y → Faults y d → LowestRun lines steps c e
    → command_at lines e ≡ Some x → (¬ Faults x e) → ⊥
fault_not_running lines steps n c d e y x le p at f q there well =
    let same = same_last lines steps n c d e le p (fault_stuck lines d y at f) q in
    let command = one_command y x (subst (λ s. command_at lines s ≡ Some y) same at) there in
    well (subst (λ z. Faults z e) command (subst (λ s. Faults y s) same f))

stop_is_no_fault : (lines : List Command) (n m : ℕ) (c d e : State) (x : Command) → LowestRun lines n c d
    → IsAtStop lines d → LowestRun lines m c e → command_at lines e ≡ Some x → Faults x e → ⊥
stop_is_no_fault lines n m c d e x p at q there f =
    let same = same_end lines n m c d e p (stop_stuck lines d at) q (fault_stuck lines e x there f) in
    let state = run_same lines m c d e (subst (λ k. LowestRun lines k c d) same p) q in
    stop_well x e (subst IsStop (one_command at.0 x (subst (λ s. command_at lines s ≡ Some at.0) state at.1) there)
    at.2) f

one_ending : (lines : List Command) (steps : ℕ) (c : State) (r q : Ran) → IsEnding lines steps c r
    → IsEnding lines steps c q → r ≡ q
one_ending lines steps c (Stopped n) (Stopped m) h g =
    ap Stopped (same_end lines n m c h.1 g.1 h.2 (stop_stuck lines h.1 h.3) g.2 (stop_stuck lines g.1 g.3))
one_ending lines steps c (Stopped n) (Faulted m) h g = absurd
    (stop_is_no_fault lines n m c h.1 g.1 g.2 h.2 h.3 g.3 g.4 g.5)
one_ending lines steps c (Stopped n) Running h g = absurd
    (stop_not_running lines steps n c h.1 g.0 g.1 h.0 h.2 h.3 g.2 g.3 g.4)
one_ending lines steps c (Faulted n) (Stopped m) h g = absurd
    (stop_is_no_fault lines m n c g.1 h.1 h.2 g.2 g.3 h.3 h.4 h.5)
one_ending lines steps c (Faulted n) (Faulted m) h g =
    ap Faulted (same_end lines n m c h.1 g.1 h.3 (fault_stuck lines h.1 h.2 h.4 h.5) g.3
    (fault_stuck lines g.1 g.2 g.4 g.5))
one_ending lines steps c (Faulted n) Running h g = absurd
    (fault_not_running lines steps n c h.1 g.0 h.2 g.1 h.0 h.3 h.4 h.5 g.2 g.3 g.5)
one_ending lines steps c Running (Stopped m) h g = absurd
    (stop_not_running lines steps m c g.1 h.0 h.1 g.0 g.2 g.3 h.2 h.3 h.4)
one_ending lines steps c Running (Faulted m) h g = absurd
    (fault_not_running lines steps m c g.1 h.0 g.2 h.1 g.0 g.3 g.4 g.5 h.2 h.3 h.5)
one_ending lines steps c Running Running h g = refl

pub exact_ending : (lines : List Command) (steps : ℕ) (c : State) (r : Ran) → IsEnding lines steps c r → (q : Ran)
    → (r ≡ q) ↔ IsEnding lines steps c q
exact_ending lines steps c r h q = (λ e. subst (IsEnding lines steps c) e h, λ g. one_ending lines steps c r q h g)

-- ---- after n steps

pub stopped_here : (lines : List Command) (steps n : ℕ) (c d : State) (r : Stepped) → n ≤ steps → LowestRun lines n c d
    → IsLowest lines d r → r ≡ Stop → IsEnding lines steps c (Stopped n)
stopped_here lines steps n c d r le run h e = (le, d, run, subst (IsLowest lines d) e h)

pub faulted_here : (lines : List Command) (steps n : ℕ) (c d : State) (r : Stepped) → n ≤ steps → LowestRun lines n c d
    → IsLowest lines d r → r ≡ Fault → IsEnding lines steps c (Faulted n)
faulted_here lines steps n c d r le run h e =
    let f : (x : Command) × (command_at lines d ≡ Some x) × Faults x d = subst (IsLowest lines d) e h in
    (le, d, f.0, run, f.1, f.2)

pub running_here : (lines : List Command) (steps : ℕ) (c d : State) (r : Stepped) (next : Config)
    → LowestRun lines steps c d → IsLowest lines d r → r ≡ To next → IsEnding lines steps c Running
running_here lines steps c d r next run h e =
    let g : LowestStep lines d (state_of next) × IsStateOf lines (state_of next) = subst (IsLowest lines d) e h in
    let s = g.0 in (
      d,
      s.0,
      run,
      s.2,
      (λ is. stop_stays s.0 s.1 (zero_fields s.0) d (state_of next) is s.4),
      leads_well s.0 s.1 (zero_fields s.0) d (state_of next) s.4,
    )

pub one_more : (lines : List Command) (n : ℕ) (c d : State) (r : Stepped) (next : Config) → LowestRun lines n c d
    → IsLowest lines d r → r ≡ To next → LowestRun lines (n + 1) c (state_of next) × IsStateOf lines (state_of next)
one_more lines n c d r next run h e =
    let g : LowestStep lines d (state_of next) × IsStateOf lines (state_of next) = subst (IsLowest lines d) e h in
    let same : suc n ≡ n + 1 = omega arith in
    let longer : LowestRun lines (suc n) c (state_of next) = (d, run, g.0) in
    (subst (λ k. LowestRun lines k c (state_of next)) same longer, g.1)
