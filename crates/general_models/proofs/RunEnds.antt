-- A run with given picks ends in one way.
use Rattle.std.proofs.Common.{◌≡◌, ℕ, zero, suc, ◌+◌, ◌<◌, ◌≤◌, ◌^◌, inl, inr, List, Bool, true, false, Option, Some}
use Rattle.std.proofs.Common.{refl, sym, ap, subst, ◌∙◌, arith}
use Rattle.std.specs.Prelude.{◌↔◌, slice_get, IsTrue}
use Rattle.std.proofs.lemmas.Bool.{cases_lt}
use Rattle.heap_formula.specs.declared.commands.Command.{Command}
use Rattle.heap_formula.specs.declared.commands.Command.TheVariants.{Assign, Load, Store, New, Free, IfEq, IfNeq, IfAny}
use Rattle.heap_formula.specs.declared.commands.Command.TheVariants.{Goto, Stop as StopCommand, Ends as EndsCommand}
use Rattle.heap_formula.specs.Programs.{Config as State, Faults, IsStop, IsAtStop, command_at, greatest}
use Rattle.goto_lang.specs.declared.configs.Config.{Config}
use Rattle.goto_lang.specs.States.{state_of, IsStateOf}
use Rattle.goto_lang.specs.Steps.{MayTake, Leads}
use Rattle.heap_formula.proofs.EndLaws.{at_each_stop}
use Rattle.goto_lang.proofs.Moves.{stop_well, stop_takes, stop_stays, leads_well, one_command, same_config}
use Rattle.general_models.specs.declared.runs.picks.Pick.{Pick}
use Rattle.general_models.specs.declared.runs.running.Cause.{Cause}
use Rattle.general_models.specs.declared.runs.running.Cause.TheVariants.{Stop, Fault, NoPick, BadPick, TooGreat}
use Rattle.general_models.specs.declared.runs.running.RunEnd.{RunEnd}
use Rattle.general_models.specs.declared.runs.running.RunEnd.TheVariants.{Ends, Reached}
use Rattle.general_models.specs.declared.runs.refuting.Ending.TheVariants.{FaultAfter, Repeat, Grow}
use Rattle.general_models.specs.Refuting.{IsRefuting}
use Rattle.general_models.specs.Picks.{suits, address_of, fields_of, picks_of}
use Rattle.general_models.specs.Runs.{HasRoom, PickedStep, PickedRun, IsCause, IsRunEnd}
use Rattle.general_models.specs.Moves.{IsMove}
use Rattle.general_models.specs.Growing.{Alike, TakesFresh, FreshRun, IsPaired}
use Rattle.general_models.specs.declared.runs.growth.Growth.{Growth}
use Rattle.general_models.specs.declared.runs.running.Move.{Move}
use Rattle.general_models.specs.declared.runs.running.Move.TheVariants.{To as MoveTo}
use Rattle.general_models.proofs.Halting.{run_same, forget}

module _ (lines : List Command) (w : ℕ) (pick : Option Pick) (d : State) where
  -- a command that faults takes no pick
  fault_suits : (x : Command) → Faults x d → suits x pick ≡ true
  fault_suits (Assign x t) f = absurd f
  fault_suits (Load x t k) f = refl
  fault_suits (Store t k u) f = refl
  fault_suits (New x k) f = absurd f
  fault_suits (Free t) f = refl
  fault_suits (IfEq t u j) f = absurd f
  fault_suits (IfNeq t u j) f = absurd f
  fault_suits (IfAny j) f = absurd f
  fault_suits (Goto j) f = absurd f
  fault_suits StopCommand f = absurd f
  fault_suits (EndsCommand bs) f = absurd f

  fault_may : (x : Command) → Faults x d → MayTake x w (address_of pick) (fields_of pick) d
  fault_may (Assign x t) f = absurd f
  fault_may (Load x t k) f = tt
  fault_may (Store t k u) f = tt
  fault_may (New x k) f = absurd f
  fault_may (Free t) f = tt
  fault_may (IfEq t u j) f = absurd f
  fault_may (IfNeq t u j) f = absurd f
  fault_may (IfAny j) f = absurd f
  fault_may (Goto j) f = absurd f
  fault_may StopCommand f = absurd f
  fault_may (EndsCommand bs) f = absurd f

  -- `stop` takes no pick
  stop_suits : (x : Command) → IsStop x → suits x pick ≡ true
  stop_suits = at_each_stop (λ x. suits x pick ≡ true) refl (λ bs. refl)

  stop_may : (x : Command) → IsStop x → MayTake x w (address_of pick) (fields_of pick) d
  stop_may x = stop_takes x w (address_of pick) (fields_of pick) d

  pub cause_stuck : (cause : Cause) (e : State) → IsCause lines w pick d cause → PickedStep lines w pick d e → ⊥
  cause_stuck Stop e h s = stop_stays s.command (address_of pick) (fields_of pick) d e
      (subst IsStop (one_command h.1.0 s.command h.1.1 s.at) h.1.2) s.leads
  cause_stuck Fault e h s = leads_well s.command (address_of pick) (fields_of pick) d e s.leads
      (subst (λ x. Faults x d) (one_command h.1.0 s.command h.1.1 s.at) h.1.2)
  cause_stuck NoPick e h s =
      let no = subst (λ x. suits x pick ≡ false) (one_command h.1.0 s.command h.1.1 s.at) h.1.2 in
      let z : true ≡ false = sym s.suited ∙ no in cc
  cause_stuck BadPick e h s = h.1.3 (subst (λ x. MayTake x w (address_of pick) (fields_of pick) d)
      (one_command s.command h.1.0 s.at h.1.1) s.may)
  cause_stuck TooGreat e h s = let r : greatest d + w < 2 ^ 64 = s.room in let g : 2 ^ 64 ≤ greatest d + w = h in
      omega arith

  no_room : {X : Type 0} → HasRoom w d → 2 ^ 64 ≤ greatest d + w → X
  no_room r g = absurd (omega arith)

  stop_fault : {X : Type 0} (x : Command) → IsAtStop lines d → command_at lines d ≡ Some x → Faults x d → X
  stop_fault x s at f = absurd (stop_well x d (subst IsStop (one_command s.0 x s.1 at) s.2) f)

  no_kind : {X : Type 0} (x y : Command) → command_at lines d ≡ Some x → command_at lines d ≡ Some y
      → suits x pick ≡ true → suits y pick ≡ false → X
  no_kind x y at there s n =
      let z : true ≡ false = sym (subst (λ c. suits c pick ≡ true) (one_command x y at there) s) ∙ n in cc

  no_leave : {X : Type 0} (x y : Command) → command_at lines d ≡ Some x → command_at lines d ≡ Some y
      → MayTake x w (address_of pick) (fields_of pick) d → (MayTake y w (address_of pick) (fields_of pick) d → ⊥) → X
  no_leave x y at there m n = absurd (n (subst (λ c. MayTake c w (address_of pick) (fields_of pick) d)
      (one_command x y at there) m))

  pub cause_same : (a b : Cause) → IsCause lines w pick d a → IsCause lines w pick d b → a ≡ b
  cause_same Stop Stop h g = refl
  cause_same Stop Fault h g = stop_fault g.1.0 h.1 g.1.1 g.1.2
  cause_same Stop NoPick h g = no_kind h.1.0 g.1.0 h.1.1 g.1.1 (stop_suits h.1.0 h.1.2) g.1.2
  cause_same Stop BadPick h g = no_leave h.1.0 g.1.0 h.1.1 g.1.1 (stop_may h.1.0 h.1.2) g.1.3
  cause_same Stop TooGreat h g = no_room h.0 g
  cause_same Fault Stop h g = stop_fault h.1.0 g.1 h.1.1 h.1.2
  cause_same Fault Fault h g = refl
  cause_same Fault NoPick h g = no_kind h.1.0 g.1.0 h.1.1 g.1.1 (fault_suits h.1.0 h.1.2) g.1.2
  cause_same Fault BadPick h g = no_leave h.1.0 g.1.0 h.1.1 g.1.1 (fault_may h.1.0 h.1.2) g.1.3
  cause_same Fault TooGreat h g = no_room h.0 g
  cause_same NoPick Stop h g = no_kind g.1.0 h.1.0 g.1.1 h.1.1 (stop_suits g.1.0 g.1.2) h.1.2
  cause_same NoPick Fault h g = no_kind g.1.0 h.1.0 g.1.1 h.1.1 (fault_suits g.1.0 g.1.2) h.1.2
  cause_same NoPick NoPick h g = refl
  cause_same NoPick BadPick h g = no_kind g.1.0 h.1.0 g.1.1 h.1.1 g.1.2 h.1.2
  cause_same NoPick TooGreat h g = no_room h.0 g
  cause_same BadPick Stop h g = no_leave g.1.0 h.1.0 g.1.1 h.1.1 (stop_may g.1.0 g.1.2) h.1.3
  cause_same BadPick Fault h g = no_leave g.1.0 h.1.0 g.1.1 h.1.1 (fault_may g.1.0 g.1.2) h.1.3
  cause_same BadPick NoPick h g = no_kind h.1.0 g.1.0 h.1.1 g.1.1 h.1.2 g.1.2
  cause_same BadPick BadPick h g = refl
  cause_same BadPick TooGreat h g = no_room h.0 g
  cause_same TooGreat Stop h g = no_room g.0 h
  cause_same TooGreat Fault h g = no_room g.0 h
  cause_same TooGreat NoPick h g = no_room g.0 h
  cause_same TooGreat BadPick h g = no_room g.0 h
  cause_same TooGreat TooGreat h g = refl

module _ (lines : List Command) (w : ℕ) (picks : List Pick) (c : State) where
  pub not_beyond : (n m k j : ℕ) (d e : State) (cause : Cause) → PickedRun lines w picks n c k d
      → IsCause lines w (slice_get picks k) d cause → PickedRun lines w picks m c j e → m ≤ n
  not_beyond n zero k j d e cause p h q = omega arith
  not_beyond n (suc m) k j d e cause p h q =
      let le = not_beyond n m k q.0 d q.1 cause p h q.2 in
      elim (cases_lt m n) [
        | inl l ↦ omega arith
        | inr l ↦
            let same : m ≡ n = omega arith in
            let r = run_same lines w picks n c q.0 k q.1 d (subst (λ i. PickedRun lines w picks i c q.0 q.1) same q.2) p
            in
            let s1 = subst (λ i. PickedStep lines w (slice_get picks i) q.1 e) r.0 q.3 in
            let s2 = subst (λ s. PickedStep lines w (slice_get picks k) s e) r.1 s1 in
            absurd (cause_stuck lines w (slice_get picks k) d cause e h s2)
      ]

  ends_same : (n m k j : ℕ) (d e : State) (a b : Cause) → PickedRun lines w picks n c k d
      → IsCause lines w (slice_get picks k) d a → PickedRun lines w picks m c j e
      → IsCause lines w (slice_get picks j) e b → (n ≡ m) × (a ≡ b)
  ends_same n m k j d e a b p h q g =
      let l1 = not_beyond n m k j d e a p h q in
      let l2 = not_beyond m n j k e d b q g p in
      let same : n ≡ m = omega arith in
      let r = run_same lines w picks m c k j d e (subst (λ i. PickedRun lines w picks i c k d) same p) q in
      let h1 = subst (λ i. IsCause lines w (slice_get picks i) d a) r.0 h in
      let h2 = subst (λ s. IsCause lines w (slice_get picks j) s a) r.1 h1 in
      (same, cause_same lines w (slice_get picks j) e a b h2 g)

  one_end : (steps : ℕ) (r q : RunEnd) → IsRunEnd lines w picks steps c r → IsRunEnd lines w picks steps c q → r ≡ q
  one_end steps (Ends n a) (Ends m b) h g =
      let s = ends_same n m h.1 g.1 h.2 g.2 a b h.3 h.4 g.3 g.4 in λ i. Ends (s.0 i) (s.1 i)
  one_end steps (Ends n a) (Reached e) h g =
      let l = not_beyond n steps h.1 g.0 h.2 (state_of e) a h.3 h.4 g.1 in let m : n < steps = h.0 in
      absurd (omega arith)
  one_end steps (Reached d) (Ends m b) h g =
      let l = not_beyond m steps g.1 h.0 g.2 (state_of d) b g.3 g.4 h.1 in let n : m < steps = g.0 in
      absurd (omega arith)
  one_end steps (Reached d) (Reached e) h g =
      ap Reached (same_config d e (run_same lines w picks steps c h.0 g.0 (state_of d) (state_of e) h.1 g.1).1)

  pub exact_end : (steps : ℕ) (r : RunEnd) → IsRunEnd lines w picks steps c r → (q : RunEnd) → (r ≡ q)
      ↔ IsRunEnd lines w picks steps c q
  exact_end steps r h q = (λ e. subst (IsRunEnd lines w picks steps c) e h, λ g. one_end steps r q h g)

-- ---- what a run tells of its ending

module _ (lines : List Command) (w : ℕ) (picks : List Pick) (c : State) (steps : ℕ) (end : RunEnd)
    (exact : (q : RunEnd) → (end ≡ q) ↔ IsRunEnd lines w picks steps c q) where
  pub fault_refutes : (n : ℕ) (b : Bool) → steps ≡ n + 1 → IsTrue b ↔ (end ≡ Ends n Fault) → IsTrue b
      ↔ IsRefuting lines w picks c (FaultAfter n)
  fault_refutes n b e i = (
    λ t. let h = (exact (Ends n Fault)).0 (i.0 t) in (h.1, h.2, h.3, h.4),
    λ r. i.1 ((exact (Ends n Fault)).1 (omega arith, r.0, r.1, r.2, r.3)),
  )

  pub not_reached : (n : ℕ) (cause : Cause) → end ≡ Ends n cause → (k : ℕ) (d : State)
      → PickedRun lines w picks steps c k d → ⊥
  not_reached n cause e k d run =
      let h = (exact (Ends n cause)).0 e in
      let lt : n < steps = h.0 in
      let le = not_beyond lines w picks c n steps h.1 k h.2 d cause h.3 h.4 run in omega arith

  pub reached : (e : Config) → end ≡ Reached e → (k : ℕ) × PickedRun lines w picks steps c k (state_of e)
  reached e is = (exact (Reached e)).0 is

pub repeat_exact : (lines : List Command) (w : ℕ) (picks : List Pick) (c : State) (s t : ℕ) (one other : Config)
    (b : Bool) → s < t → (j : ℕ) × PickedRun lines w picks s c j (state_of one)
    → (k : ℕ) × PickedRun lines w picks t c k (state_of other) → IsTrue b ↔ (state_of one ≡ state_of other) → IsTrue b
    ↔ IsRefuting lines w picks c (Repeat s t)
repeat_exact lines w picks c s t one other b lt p q i = (
  λ y. (lt, p.0, q.0, state_of one, p.1, subst (PickedRun lines w picks t c q.0) (sym (i.0 y)) q.1),
  λ r. i.1 ((run_same lines w picks s c p.0 r.1 (state_of one) r.3 p.1 r.4).1
      ∙ (run_same lines w picks t c r.2 q.0 r.3 (state_of other) r.5 q.1).1),
)

-- ---- runs whose new cells are fresh

module _ (lines : List Command) (w : ℕ) (picks : List Pick) (s : ℕ) (c : State) where
  -- the state and the step after so many of them
  step_at : (n t k : ℕ) (e : State) → n < t → FreshRun lines w picks s t c k e → (j : ℕ) × (m : State) × (d : State)
      × FreshRun lines w picks s n c j m × (p : PickedStep lines w (slice_get picks j) m d)
      × (s ≤ n → TakesFresh p.command (address_of (slice_get picks j)) (fields_of (slice_get picks j)) m)
  step_at n zero k e lt r = absurd (omega arith)
  step_at n (suc t) k e lt r = elim (cases_lt n t) [
    | inl l ↦ step_at n t r.0 r.1 l r.2
    | inr l ↦
        let same : t ≡ n = omega arith in
        (r.0, r.1, e, subst (λ i. FreshRun lines w picks s i c r.0 r.1) same r.2, r.3, (λ le. r.4 (omega arith)))
  ]

  fresh_same : (n : ℕ) (j k : ℕ) (d e : State) → FreshRun lines w picks s n c j d → FreshRun lines w picks s n c k e
      → (j ≡ k) × (d ≡ e)
  fresh_same n j k d e p q =
      run_same lines w picks n c j k d e (forget lines w picks s n c j d p) (forget lines w picks s n c k e q)

  pub fresh_stuck : (n t j k : ℕ) (d e : State) (cause : Cause) → n < t → FreshRun lines w picks s n c j d
      → IsCause lines w (slice_get picks j) d cause → FreshRun lines w picks s t c k e → ⊥
  fresh_stuck n t j k d e cause lt r h q =
      let x = step_at n t k e lt q in
      let same = fresh_same n j x.0 d x.1 r x.3 in
      let h1 = subst (λ i. IsCause lines w (slice_get picks i) d cause) same.0 h in
      let h2 = subst (λ m. IsCause lines w (slice_get picks x.0) m cause) same.1 h1 in
      cause_stuck lines w (slice_get picks x.0) x.1 cause x.2 h2 x.4

  pub not_fresh : (n t j k : ℕ) (d e : State) (command : Command) → n < t → FreshRun lines w picks s n c j d
      → command_at lines d ≡ Some command
      → ((s ≤ n → TakesFresh command (address_of (slice_get picks j)) (fields_of (slice_get picks j)) d) → ⊥)
      → FreshRun lines w picks s t c k e → ⊥
  not_fresh n t j k d e command lt r at never q =
      let x = step_at n t k e lt q in
      let same = fresh_same n j x.0 d x.1 r x.3 in
      let at1 = subst (λ m. command_at lines m ≡ Some command) same.1 at in
      let is : x.4.command ≡ command = one_command x.4.command command x.4.at at1 in
      never (λ le.
      let f1 = subst (λ y. TakesFresh y (address_of (slice_get picks x.0)) (fields_of (slice_get picks x.0)) x.1) is
      (x.5 le) in
      let f2 = subst (λ m. TakesFresh command (address_of (slice_get picks x.0)) (fields_of (slice_get picks x.0)) m)
      (sym same.1) f1 in
      subst (λ i. TakesFresh command (address_of (slice_get picks i)) (fields_of (slice_get picks i)) d)
      (sym same.0) f2)

  pub fresh_more : (n j : ℕ) (d : State) (command : Command) (taken : ℕ) (r : Move) (next : Config)
      → FreshRun lines w picks s n c j d → command_at lines d ≡ Some command → taken ≡ picks_of command
      → (s ≤ n → TakesFresh command (address_of (slice_get picks j)) (fields_of (slice_get picks j)) d)
      → IsMove lines w (slice_get picks j) d r → r ≡ MoveTo next
      → FreshRun lines w picks s (n + 1) c (j + taken) (state_of next) × IsStateOf lines (state_of next)
  fresh_more n j d command taken r next run at te fresh h e =
      let m : PickedStep lines w (slice_get picks j) d (state_of next)
      × IsStateOf lines (state_of next) = subst (IsMove lines w (slice_get picks j) d) e h in
      let same : command ≡ m.0.command = one_command command m.0.command at m.0.at in
      let k : j + taken ≡ j + picks_of m.0.command = ap (λ i. j + i) (te ∙ ap picks_of same) in
      let longer : FreshRun lines w picks s (suc n) c (j + taken) (state_of next) = (
        j,
        d,
        run,
        m.0,
        (λ le. subst (λ y. TakesFresh y (address_of (slice_get picks j)) (fields_of (slice_get picks j)) d) same
            (fresh le)),
        k,
      ) in
      let f : suc n ≡ n + 1 = omega arith in
      (subst (λ i. FreshRun lines w picks s i c (j + taken) (state_of next)) f longer, m.1)

pub growth_exact : (lines : List Command) (w : ℕ) (picks : List Pick) (c : State) (g : Growth) (one other : Config)
    (b : Bool) → g.first < g.again → (j : ℕ) × PickedRun lines w picks g.first c j (state_of one)
    → (k : ℕ) × FreshRun lines w picks g.first g.again c k (state_of other)
    → IsTrue b ↔ Alike (IsPaired g.renaming) (state_of one) (state_of other)
    → IsTrue b ↔ IsRefuting lines w picks c (Grow g)
growth_exact lines w picks c g one other b lt p q i = (
  λ y. (lt, p.0, q.0, state_of one, state_of other, p.1, q.1, i.0 y),
  λ r.
      let same = run_same lines w picks g.first c r.1 p.0 r.3 (state_of one) r.5 p.1 in
      let later = fresh_same lines w picks g.first c g.again r.2 q.0 r.4 (state_of other) r.6 q.1 in
      i.1 (subst (λ e. Alike (IsPaired g.renaming) (state_of one) e) later.1
      (subst (λ d. Alike (IsPaired g.renaming) d r.4) same.1 r.7)),
)
