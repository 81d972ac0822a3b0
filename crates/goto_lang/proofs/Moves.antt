-- One step: what a command makes of a state, that no two answers fit, and that the state stays one of the program.
use Rattle.std.proofs.Common.{◌≡◌, ◌≢◌, ℕ, zero, suc, ◌+◌, ◌-◌, ◌<◌, ◌≤◌, ◌^◌, Bool, true, false, cond, ◌⊎◌, inl, inr}
use Rattle.std.proofs.Common.{List, [], ◌∷◌, length, Option, Some, None, refl, sym, ap, subst, ◌∙◌, arith}
use Rattle.std.specs.Prelude.{◌↔◌, nat_eq, slice_get, slice_set}
use Rattle.std.proofs.lemmas.List.{length-set}
use Rattle.std.specs.FinMap.{insert}
use Rattle.heap_formula.specs.declared.commands.Command.{Command}
use Rattle.heap_formula.specs.declared.commands.Command.TheVariants.{Assign, Load, Store, New, Free, IfEq, IfNeq, IfAny}
use Rattle.heap_formula.specs.declared.commands.Command.TheVariants.{Goto, Stop as StopCommand, Ends}
use Rattle.heap_formula.specs.Words.{Each}
use Rattle.heap_formula.specs.Programs.{Config as State, Goes, Faults, command_at, counted_from_one, field_of, value_in}
use Rattle.heap_formula.specs.Programs.{IsStop, greatest, next_line, jump}
use Rattle.heap_formula.proofs.StepLaws.{step_exists}
use Rattle.heap_formula.proofs.EndLaws.{at_each_stop}
use Rattle.goto_lang.specs.declared.configs.Config.{Config}
use Rattle.goto_lang.specs.declared.steps.Stepped.{Stepped}
use Rattle.goto_lang.specs.declared.steps.Stepped.TheVariants.{Stop, Fault, To, BadPick}
use Rattle.goto_lang.specs.Lines.{IsProgram, MayStandAt, IsLineOf}
use Rattle.goto_lang.specs.States.{state_of, IsStateOf}
use Rattle.goto_lang.specs.Steps.{MayTake, Leads, IsStep, IsSuccessor}
use Rattle.goto_lang.specs.Effects.{Makes}

-- ---- the commands

-- ---- fields

pub some_field : (vs : List ℕ) (k : ℕ) → 0 < k → k ≤ length vs → (v : ℕ) × (counted_from_one vs k ≡ Some v)
some_field vs zero p h = absurd (omega arith)
some_field vs (suc k) p h = there vs k (omega arith)
  where
    there : (vs : List ℕ) (k : ℕ) → k < length vs → (v : ℕ) × (slice_get vs k ≡ Some v)
    there [] k h = absurd (omega arith)
    there (v ∷ vs) zero h = (v, refl)
    there (v ∷ vs) (suc k) h = there vs k (omega arith)

-- ---- one answer at most

pub leads_same : (x : Command) (a : ℕ) (vs : List ℕ) (c d e : State) → Leads x a vs c d → Leads x a vs c e → d ≡ e
leads_same (Assign x t) a vs c d e p q = p ∙ sym q
leads_same (Load x t k) a vs c d e p q =
    let same : p.0 ≡ q.0 = cc (p.1, q.1) in
    p.2 ∙ ap (λ v. next_line c (slice_set c.stack x v) c.heap) same ∙ sym q.2
leads_same (Store t k u) a vs c d e p q =
    let same : p.0 ≡ q.0 = cc (p.2, q.2) in
    p.4 ∙ ap (λ us. next_line c c.stack (insert c.heap (value_in c t) (slice_set us (k - 1) (value_in c u)))) same
    ∙ sym q.4
leads_same (New x k) a vs c d e p q = p ∙ sym q
leads_same (Free t) a vs c d e p q = p.2 ∙ sym q.2
leads_same (IfEq t u j) a vs c d e p q = p ∙ sym q
leads_same (IfNeq t u j) a vs c d e p q = p ∙ sym q
leads_same (IfAny j) a vs c d e p q = p ∙ sym q
leads_same (Goto j) a vs c d e p q = p ∙ sym q
leads_same StopCommand a vs c d e p q = absurd p
leads_same (Ends bs) a vs c d e p q = absurd p

pub leads_well : (x : Command) (a : ℕ) (vs : List ℕ) (c d : State) → Leads x a vs c d → Faults x c → ⊥
leads_well (Assign x t) a vs c d p f = f
leads_well (Load x t k) a vs c d p f = let no : Some p.0 ≡ None = sym p.1 ∙ f in cc
leads_well (Store t k u) a vs c d p f =
    let no : Some p.1 ≡ None = sym p.3 ∙ sym (ap (λ o. field_of o k) p.2) ∙ f in cc
leads_well (New x k) a vs c d p f = f
leads_well (Free t) a vs c d p f = let no : Some p.0 ≡ None = sym p.1 ∙ f in cc
leads_well (IfEq t u j) a vs c d p f = f
leads_well (IfNeq t u j) a vs c d p f = f
leads_well (IfAny j) a vs c d p f = f
leads_well (Goto j) a vs c d p f = f
leads_well StopCommand a vs c d p f = f
leads_well (Ends bs) a vs c d p f = f

faults_take : (x : Command) (w a : ℕ) (vs : List ℕ) (c : State) → Faults x c → MayTake x w a vs c
faults_take (Assign x t) w a vs c f = tt
faults_take (Load x t k) w a vs c f = tt
faults_take (Store t k u) w a vs c f = tt
faults_take (New x k) w a vs c f = absurd f
faults_take (Free t) w a vs c f = tt
faults_take (IfEq t u j) w a vs c f = tt
faults_take (IfNeq t u j) w a vs c f = tt
faults_take (IfAny j) w a vs c f = absurd f
faults_take (Goto j) w a vs c f = tt
faults_take StopCommand w a vs c f = tt
faults_take (Ends bs) w a vs c f = tt

pub one_command : {o : Option Command} (x y : Command) → o ≡ Some x → o ≡ Some y → x ≡ y
one_command x y p q = cc

pub same_config : (d e : Config) → state_of d ≡ state_of e → d ≡ e
same_config d e p = λ i. record { line = (p i).line; stack = (p i).stack; heap = (p i).heap }

-- at `stop` nothing faults, nothing is taken, and nothing leads on
pub stop_well : (x : Command) (c : State) → IsStop x → Faults x c → ⊥
stop_well x c = at_each_stop (λ y. Faults y c → ⊥) (λ f. f) (λ bs f. f) x

pub stop_takes : (x : Command) (w a : ℕ) (vs : List ℕ) (c : State) → IsStop x → MayTake x w a vs c
stop_takes x w a vs c = at_each_stop (λ y. MayTake y w a vs c) tt (λ bs. tt) x

pub stop_stays : (x : Command) (a : ℕ) (vs : List ℕ) (c d : State) → IsStop x → Leads x a vs c d → ⊥
stop_stays x a vs c d = at_each_stop (λ y. Leads y a vs c d → ⊥) (λ l. l) (λ bs l. l) x

pub one_answer : (lines : List Command) (w a : ℕ) (vs : List ℕ) (c : State) (r q : Stepped) → IsStep lines w a vs c r
    → IsStep lines w a vs c q → r ≡ q
one_answer lines w a vs c Stop Stop h g = refl
one_answer lines w a vs c Stop Fault h g = absurd
    (stop_well g.0 c (subst IsStop (one_command h.0 g.0 h.1 g.1) h.2) g.2)
one_answer lines w a vs c Stop (To d) h g = absurd
    (stop_stays g.0 a vs c (state_of d) (subst IsStop (one_command h.0 g.0 h.1 g.1) h.2) g.3)
one_answer lines w a vs c Stop BadPick h g = absurd
    (g.2 (stop_takes g.0 w a vs c (subst IsStop (one_command h.0 g.0 h.1 g.1) h.2)))
one_answer lines w a vs c Fault Stop h g = absurd
    (stop_well h.0 c (subst IsStop (one_command g.0 h.0 g.1 h.1) g.2) h.2)
one_answer lines w a vs c Fault Fault h g = refl
one_answer lines w a vs c Fault (To d) h g = absurd
    (leads_well g.0 a vs c (state_of d) g.3 (subst (λ x. Faults x c) (one_command h.0 g.0 h.1 g.1) h.2))
one_answer lines w a vs c Fault BadPick h g = absurd
    (g.2 (faults_take g.0 w a vs c (subst (λ x. Faults x c) (one_command h.0 g.0 h.1 g.1) h.2)))
one_answer lines w a vs c (To d) Stop h g = absurd
    (stop_stays h.0 a vs c (state_of d) (subst IsStop (one_command g.0 h.0 g.1 h.1) g.2) h.3)
one_answer lines w a vs c (To d) Fault h g = absurd
    (leads_well h.0 a vs c (state_of d) h.3 (subst (λ x. Faults x c) (one_command g.0 h.0 g.1 h.1) g.2))
one_answer lines w a vs c (To d) (To e) h g =
    ap To (same_config d e (leads_same h.0 a vs c (state_of d) (state_of e) h.3
    (subst (λ x. Leads x a vs c (state_of e)) (one_command g.0 h.0 g.1 h.1) g.3)))
one_answer lines w a vs c (To d) BadPick h g = absurd
    (g.2 (subst (λ x. MayTake x w a vs c) (one_command h.0 g.0 h.1 g.1) h.2))
one_answer lines w a vs c BadPick Stop h g = absurd
    (h.2 (stop_takes h.0 w a vs c (subst IsStop (one_command g.0 h.0 g.1 h.1) g.2)))
one_answer lines w a vs c BadPick Fault h g = absurd
    (h.2 (faults_take h.0 w a vs c (subst (λ x. Faults x c) (one_command g.0 h.0 g.1 h.1) g.2)))
one_answer lines w a vs c BadPick (To d) h g = absurd
    (h.2 (subst (λ x. MayTake x w a vs c) (one_command g.0 h.0 g.1 h.1) g.2))
one_answer lines w a vs c BadPick BadPick h g = refl

pub exactly : (lines : List Command) (w a : ℕ) (vs : List ℕ) (c : State) (r : Stepped) → IsStep lines w a vs c r
    → (q : Stepped) → (r ≡ q) ↔ IsStep lines w a vs c q
exactly lines w a vs c r h q = (λ e. subst (IsStep lines w a vs c) e h, λ g. one_answer lines w a vs c r q h g)

pub makes_step : (lines : List Command) (w a : ℕ) (vs : List ℕ) (c : State) (x : Command) (r : Stepped)
    → command_at lines c ≡ Some x → MayTake x w a vs c → Makes x a vs c r → IsStep lines w a vs c r
makes_step lines w a vs c x Stop at may m = (x, at, m)
makes_step lines w a vs c x Fault at may m = (x, at, m)
makes_step lines w a vs c x (To d) at may m = (x, at, may, m)
makes_step lines w a vs c x BadPick at may m = absurd m

-- ---- successors

all_below : (m : ℕ) (vs : List ℕ) → m < 2 ^ 64 → Each (λ v. v ≤ m) vs → Each (λ v. v < 2 ^ 64) vs
all_below m [] h e = tt
all_below m (v ∷ vs) h e = let l = e.0 in (omega arith, all_below m vs h e.1)

-- what a successor takes
pub record Taken (x : Command) (w : ℕ) (c d : State) : Type 0 where
  pub address : ℕ
  pub fields : List ℕ
  pub fits : address < 2 ^ 64
  pub fields_fit : Each (λ v. v < 2 ^ 64) fields
  pub may : MayTake x w address fields c
  pub leads : Leads x address fields c d

pub taken : (x : Command) (w : ℕ) (c d : State) → greatest c + w < 2 ^ 64 → Goes x w c d → Taken x w c d
taken (Assign x t) w c d h g = record {
  address = 0;
  fields = [];
  fits = omega arith;
  fields_fit = tt;
  may = tt;
  leads = g;
}
taken (Load x t k) w c d h g = record {
  address = 0;
  fields = [];
  fits = omega arith;
  fields_fit = tt;
  may = tt;
  leads = g;
}
taken (Store t k u) w c d h g = record {
  address = 0;
  fields = [];
  fits = omega arith;
  fields_fit = tt;
  may = tt;
  leads = g;
}
taken (New x k) w c d h g =
    let l = g.2.within in record {
      address = g.0;
      fields = g.1;
      fits = omega arith;
      fields_fit = all_below (greatest c + w) g.1 h g.2.values_within;
      may = g.2;
      leads = g.3;
    }
taken (Free t) w c d h g = record { address = 0; fields = []; fits = omega arith; fields_fit = tt; may = tt; leads = g }
taken (IfEq t u j) w c d h g = record {
  address = 0;
  fields = [];
  fits = omega arith;
  fields_fit = tt;
  may = tt;
  leads = g;
}
taken (IfNeq t u j) w c d h g = record {
  address = 0;
  fields = [];
  fits = omega arith;
  fields_fit = tt;
  may = tt;
  leads = g;
}
taken (IfAny j) w c d h (inl g) = record {
  address = 1;
  fields = [];
  fits = omega arith;
  fields_fit = tt;
  may = omega arith;
  leads = g;
}
taken (IfAny j) w c d h (inr g) = record {
  address = 0;
  fields = [];
  fits = omega arith;
  fields_fit = tt;
  may = omega arith;
  leads = g;
}
taken (Goto j) w c d h g = record { address = 0; fields = []; fits = omega arith; fields_fit = tt; may = tt; leads = g }
taken StopCommand w c d h g = absurd g
taken (Ends bs) w c d h g = absurd g

one_of_two : (b : Bool) (j k : ℕ) (c d : State) → d ≡ jump c (cond b j k) → (d ≡ jump c j) ⊎ (d ≡ jump c k)
one_of_two true j k c d e = inl e
one_of_two false j k c d e = inr e

pub goes : (x : Command) (w a : ℕ) (vs : List ℕ) (c d : State) → MayTake x w a vs c → Leads x a vs c d → Goes x w c d
goes (Assign x t) w a vs c d may l = l
goes (Load x t k) w a vs c d may l = l
goes (Store t k u) w a vs c d may l = l
goes (New x k) w a vs c d may l = (a, vs, may, l)
goes (Free t) w a vs c d may l = l
goes (IfEq t u j) w a vs c d may l = l
goes (IfNeq t u j) w a vs c d may l = l
goes (IfAny j) w a vs c d may l = one_of_two (nat_eq a 1) j (c.line + 1) c d l
goes (Goto j) w a vs c d may l = l
goes StopCommand w a vs c d may l = l
goes (Ends bs) w a vs c d may l = l

pub successors : (lines : List Command) (w : ℕ) (c : State) (d : Config) → greatest c + w < 2 ^ 64
    → IsSuccessor lines w c (state_of d) ↔ ((a : ℕ) × (vs : List ℕ) × (a < 2 ^ 64) × Each (λ v. v < 2 ^ 64) vs
    × IsStep lines w a vs c (To d))
successors lines w c d h = (
  λ s. let t = taken s.0 w c (state_of d) h s.2 in
      (t.address, t.fields, t.fits, t.fields_fit, (s.0, s.1, t.may, t.leads)),
  λ s. let i = s.4 in (i.0, i.1, goes i.0 w s.0 s.1 c (state_of d) i.2 i.3),
)

-- a state as a configuration
abbrev made : State → Config
made d = record { line = d.line; stack = d.stack; heap = d.heap }

-- with positive headroom there is a step
pub some_step : (lines : List Command) (w : ℕ) (c : Config) (x : Command) → 0 < w
    → command_at lines (state_of c) ≡ Some x → (¬ IsStop x) → (¬ Faults x (state_of c))
    → (a : ℕ) × (vs : List ℕ) × (d : Config) × IsStep lines w a vs (state_of c) (To d)
some_step lines w c x pos at ns nf =
    let s = step_exists lines w (state_of c) x pos at ns nf in picked x at s.0 s.1
  where
    picked : (x : Command) → command_at lines (state_of c) ≡ Some x → (d : State) → Goes x w (state_of c) d
        → (a : ℕ) × (vs : List ℕ) × (d : Config) × IsStep lines w a vs (state_of c) (To d)
    picked (New x k) at d g = (g.0, g.1, made d, (New x k, at, g.2, g.3))
    picked (Assign x t) at d g = (0, [], made d, (_, at, tt, g))
    picked (Load x t k) at d g = (0, [], made d, (_, at, tt, g))
    picked (Store t k u) at d g = (0, [], made d, (_, at, tt, g))
    picked (Free t) at d g = (0, [], made d, (_, at, tt, g))
    picked (IfEq t u j) at d g = (0, [], made d, (_, at, tt, g))
    picked (IfNeq t u j) at d g = (0, [], made d, (_, at, tt, g))
    picked (IfAny j) at d (inl g) = (1, [], made d, (_, at, omega arith, g))
    picked (IfAny j) at d (inr g) = (0, [], made d, (_, at, omega arith, g))
    picked (Goto j) at d g = (0, [], made d, (_, at, tt, g))
    picked StopCommand at d g = absurd g
    picked (Ends bs) at d g = absurd g

-- ---- states of the program

next_stays : (lines : List Command) (c d : State) (s : List ℕ) (h : _) → IsStateOf lines c → c.line < length lines
    → length s ≡ length c.stack → d ≡ next_line c s h → IsStateOf lines d
next_stays lines c d s h is le same e =
    let v = is.values in subst (IsStateOf lines) (sym e) (record
    { from_one = omega arith; to_last = omega arith; values = same ∙ v })

jump_stays : (lines : List Command) (c d : State) (j : ℕ) → IsStateOf lines c → IsLineOf (length lines) j → d ≡ jump c j
    → IsStateOf lines d
jump_stays lines c d j is l e =
    subst (IsStateOf lines) (sym e) (record { from_one = l.0; to_last = l.1; values = is.values })

either : (n : ℕ) (b : Bool) (i j : ℕ) → IsLineOf n i → IsLineOf n j → IsLineOf n (cond b i j)
either n true i j p q = p
either n false i j p q = q

pub leads_stay : (lines : List Command) (x : Command) (a : ℕ) (vs : List ℕ) (c d : State) → IsStateOf lines c
    → MayStandAt (length lines) c.line x → Leads x a vs c d → IsStateOf lines d
leads_stay lines (Assign x t) a vs c d is may l = next_stays lines c d _ _ is may (length-set c.stack x _) l
leads_stay lines (Load x t k) a vs c d is may l = next_stays lines c d _ _ is may.0 (length-set c.stack x _) l.2
leads_stay lines (Store t k u) a vs c d is may l = next_stays lines c d _ _ is may.0 refl l.4
leads_stay lines (New x k) a vs c d is may l = next_stays lines c d _ _ is may.0 (length-set c.stack x _) l
leads_stay lines (Free t) a vs c d is may l = next_stays lines c d _ _ is may refl l.2
leads_stay lines (IfEq t u j) a vs c d is may l = let lt = may.0 in
    jump_stays lines c d _ is (either (length lines) _ j (c.line + 1) may.1 (omega arith, omega arith)) l
leads_stay lines (IfNeq t u j) a vs c d is may l = let lt = may.0 in
    jump_stays lines c d _ is (either (length lines) _ (c.line + 1) j (omega arith, omega arith) may.1) l
leads_stay lines (IfAny j) a vs c d is may l = let lt = may.0 in
    jump_stays lines c d _ is (either (length lines) _ j (c.line + 1) may.1 (omega arith, omega arith)) l
leads_stay lines (Goto j) a vs c d is may l = jump_stays lines c d j is may l
leads_stay lines StopCommand a vs c d is may l = absurd l
leads_stay lines (Ends bs) a vs c d is may l = absurd l

pub new_takes : (x : Command) (w a : ℕ) (vs : List ℕ) (c : State) (n i : ℕ) → MayTake x w a vs c → MayStandAt n i x
    → (y k : ℕ) → x ≡ New y k → (0 < a) × (0 < length vs)
new_takes (New x k) w a vs c n i may s y j e = let l = s.1.0 in let m = may.count in (may.positive, omega arith)
new_takes (Assign x t) w a vs c n i may s y j e = cc
new_takes (Load x t k) w a vs c n i may s y j e = cc
new_takes (Store t k u) w a vs c n i may s y j e = cc
new_takes (Free t) w a vs c n i may s y j e = cc
new_takes (IfEq t u k) w a vs c n i may s y j e = cc
new_takes (IfNeq t u k) w a vs c n i may s y j e = cc
new_takes (IfAny k) w a vs c n i may s y j e = cc
new_takes (Goto k) w a vs c n i may s y j e = cc
new_takes StopCommand w a vs c n i may s y j e = cc
new_takes (Ends bs) w a vs c n i may s y j e = cc

pub makes_stay : (lines : List Command) (a : ℕ) (vs : List ℕ) (c : State) (x : Command) (r : Stepped) (d : Config)
    → IsProgram lines → IsStateOf lines c → command_at lines c ≡ Some x → Makes x a vs c r → r ≡ To d
    → IsStateOf lines (state_of d)
makes_stay lines a vs c x r d program is at m e =
    leads_stay lines x a vs c (state_of d) is (program.commands c.line x at) (subst (Makes x a vs c) e m)
