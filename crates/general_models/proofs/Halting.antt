-- A run that faults or comes back, perhaps with more, excludes that the program halts.
use Rattle.std.proofs.Common.{◌≡◌, ℕ, zero, suc, ◌+◌, ◌<◌, ◌≤◌, inl, inr, List, [], ◌∷◌, length, Option, Some, None}
use Rattle.std.proofs.Common.{refl, sym, ap, subst, ◌∙◌, arith}
use Rattle.std.specs.Prelude.{◌↔◌, slice_get}
use Rattle.std.proofs.lemmas.Bool.{cases_lt}
use Rattle.heap_formula.specs.declared.commands.Command.{Command}
use Rattle.heap_formula.specs.Words.{Each, max_of}
use Rattle.heap_formula.specs.Cells.{Cells, IsPart, cell_at}
use Rattle.heap_formula.specs.Definitions.{Definition}
use Rattle.heap_formula.specs.Symbolic.{SymbolicHeap}
use Rattle.heap_formula.specs.Values.{Stack}
use Rattle.heap_formula.specs.Meaning.{Satisfies}
use Rattle.heap_formula.specs.Programs.{Config as State, Faults, IsStop, MayPick, EndMeaning, Stops, Halts, greatest}
use Rattle.heap_formula.specs.Programs.{EndHolds, TerminationHolds, command_at, start_at}
use Rattle.heap_formula.proofs.EndLaws.{stops_is_stop}
use Rattle.goto_lang.specs.Steps.{Leads, IsSuccessor}
use Rattle.goto_lang.proofs.Moves.{goes, leads_same, one_command, stop_well}
use Rattle.general_models.specs.declared.runs.picks.Pick.{Pick}
use Rattle.general_models.specs.declared.runs.refuting.Ending.{Ending}
use Rattle.general_models.specs.declared.runs.refuting.Ending.TheVariants.{FaultAfter, Repeat, Grow}
use Rattle.general_models.specs.declared.runs.picks.Pick.TheVariants.{Cell}
use Rattle.general_models.specs.Picks.{address_of, fields_of, picks_of, pick_most, headroom_of}
use Rattle.heap_formula.proofs.AllMembers.{each_at}
use Rattle.heap_formula.proofs.Greatest.{each_below}
use Rattle.general_models.specs.Runs.{PickedStep, PickedRun}
use Rattle.general_models.specs.Growing.{FreshRun, IsPaired}
use Rattle.general_models.specs.Refuting.{IsRefuting}
use Rattle.general_models.proofs.Chains.{Chain, halts_chain}
use Rattle.general_models.proofs.Growing.{FreshStep, FreshChain, never_grows}

pub picked_goes : (lines : List Command) (w : ℕ) (pick : Option Pick) (c d : State) → PickedStep lines w pick c d
    → IsSuccessor lines w c d
picked_goes lines w pick c d s = (
  s.command,
  s.at,
  goes s.command w (address_of pick) (fields_of pick)
      c d s.may s.leads,
)

named_may : (w k a : ℕ) (vs : List ℕ) (c : State) → a ≤ w → Each (λ v. v ≤ w) vs → MayPick w c k a vs
    ↔ ((0 < a) × (cell_at c.heap a ≡ None) × (length vs ≡ k))
named_may w k a vs c l ls = (
  λ m. (m.positive, m.free, m.count),
  λ m. record { positive = m.0; within = omega arith; free = m.1; count = m.2; values_within = more vs ls },
)
  where
    more : (us : List ℕ) → Each (λ v. v ≤ w) us → Each (λ v. v ≤ greatest c + w) us
    more [] e = tt
    more (u ∷ us) e = let l = e.0 in (omega arith, more us e.1)

-- a bound on all, in a list of bounds
all_below : (m : ℕ) (vs : List ℕ) → max_of vs ≤ m → Each (λ v. v ≤ m) vs
all_below m [] h = tt
all_below m (v ∷ vs) h = (omega arith, all_below m vs (omega arith))

pub named_allowed : (picks : List Pick) (i k a : ℕ) (vs : List ℕ) (c : State) → slice_get picks i ≡ Some (Cell a vs)
    → MayPick (headroom_of picks) c k a vs ↔ ((0 < a) × (cell_at c.heap a ≡ None) × (length vs ≡ k))
named_allowed picks i k a vs c at =
    let l : pick_most (Cell a vs) ≤ headroom_of picks = each_at (λ p. pick_most p ≤ headroom_of picks) picks i
    (Cell a vs) at (each_below pick_most (headroom_of picks) picks (omega arith)) in
    named_may (headroom_of picks) k a vs c (omega arith) (all_below (headroom_of picks) vs (omega arith))

-- ---- n steps of the machine

run_chain : (lines : List Command) (w : ℕ) (picks : List Pick) (n : ℕ) (c : State) (k : ℕ) (d : State)
    → PickedRun lines w picks n c k d → Chain lines w n c d
run_chain lines w picks zero c k d r = r.1
run_chain lines w picks (suc n) c k d r =
    (r.1, run_chain lines w picks n c r.0 r.1 r.2, picked_goes lines w (slice_get picks r.0) r.1 d r.3)

no_circle : (End : EndMeaning) (lines : List Command) (w n : ℕ) (c : State) → 0 < n → Chain lines w n c c → (bound m : ℕ) → m < bound
    → Halts End lines w m c → ⊥
no_circle End lines w n c pos r zero m l h = absurd (omega arith)
no_circle End lines w n c pos r (suc bound) m l h =
    let a = halts_chain End lines w n m c c r h in
    let e : m ≡ a.0 + n = a.1 in no_circle End lines w n c pos r bound a.0 (omega arith) a.2

stops_well : (End : EndMeaning) (lines : List Command) (d : State) (x : Command) → command_at lines d ≡ Some x
    → Faults x d → Stops End lines d → ⊥
stops_well End lines d x at f h =
    stop_well x d (subst IsStop (one_command h.0 x h.1 at) (stops_is_stop End h.0 d h.2)) f

no_fault : (End : EndMeaning) (lines : List Command) (w m : ℕ) (d : State) (x : Command) → command_at lines d ≡ Some x → Faults x d
    → Halts End lines w m d → ⊥
no_fault End lines w zero d x at f h = stops_well End lines d x at f h
no_fault End lines w (suc m) d x at f (inl h) = stops_well End lines d x at f h
no_fault End lines w (suc m) d x at f (inr h) = h.2.1 (subst (λ y. Faults y d) (one_command x h.0 at h.1) f)

-- ---- a run with given picks is one run

pub picked_same : (lines : List Command) (w : ℕ) (p q : Option Pick) (c b d e : State) → p ≡ q → c ≡ b
    → (s : PickedStep lines w p c d) (t : PickedStep lines w q b e) → (s.command ≡ t.command) × (d ≡ e)
picked_same lines w p q c b d e pe ce s t =
    let at : command_at lines b ≡ Some s.command = subst (λ z. command_at lines z ≡ Some s.command) ce s.at in
    let x : s.command ≡ t.command = one_command s.command t.command at t.at in
    let l1 = subst (λ z. Leads s.command (address_of p) (fields_of p) z d) ce s.leads in
    let l2 = subst (λ o. Leads s.command (address_of o) (fields_of o) b d) pe l1 in
    let l3 = subst (λ y. Leads y (address_of q) (fields_of q) b d) x l2 in
    (x, leads_same t.command (address_of q) (fields_of q) b d e l3 t.leads)

pub run_same : (lines : List Command) (w : ℕ) (picks : List Pick) (n : ℕ) (c : State) (j k : ℕ) (d e : State)
    → PickedRun lines w picks n c j d → PickedRun lines w picks n c k e → (j ≡ k) × (d ≡ e)
run_same lines w picks zero c j k d e p q = (p.0 ∙ sym q.0, p.1 ∙ sym q.1)
run_same lines w picks (suc n) c j k d e p q =
    let r = run_same lines w picks n c p.0 q.0 p.1 q.1 p.2 q.2 in
    let s = picked_same lines w (slice_get picks p.0) (slice_get picks q.0) p.1 q.1 d e (ap (slice_get picks) r.0)
    r.1 p.3 q.3 in
    let f : j ≡ p.0 + picks_of p.3.command = p.4 in
    let g : k ≡ q.0 + picks_of q.3.command = q.4 in
    let h : picks_of p.3.command ≡ picks_of q.3.command = ap picks_of s.0 in
    let i : p.0 ≡ q.0 = r.0 in (omega arith, s.1)

-- the first steps of a run, and the others
split : (lines : List Command) (w : ℕ) (picks : List Pick) (t s : ℕ) (c : State) (k : ℕ) (d : State) → s ≤ t
    → PickedRun lines w picks t c k d → (n : ℕ) × (t ≡ s + n) × (j : ℕ) × (m : State) × PickedRun lines w picks s c j m
    × Chain lines w n m d
split lines w picks zero s c k d l r =
    let z : 0 ≡ s = omega arith in
    (0, omega arith, k, d, subst (λ n. PickedRun lines w picks n c k d) z r, refl)
split lines w picks (suc t) s c k d l r = elim (cases_lt t s) [
  | inl above ↦
      let z : suc t ≡ s = omega arith in
      (0, omega arith, k, d, subst (λ n. PickedRun lines w picks n c k d) z r, refl)
  | inr below ↦
      let x = split lines w picks t s c r.0 r.1 below r.2 in
      let e : t ≡ s + x.0 = x.1 in
      (suc x.0, omega arith, x.2, x.3, x.4, (r.1, x.5, picked_goes lines w (slice_get picks r.0) r.1 d r.3))
]

-- ---- steps whose new cells are fresh

pub forget : (lines : List Command) (w : ℕ) (picks : List Pick) (s n : ℕ) (c : State) (k : ℕ) (d : State)
    → FreshRun lines w picks s n c k d → PickedRun lines w picks n c k d
forget lines w picks s zero c k d r = r
forget lines w picks s (suc n) c k d r = (r.0, r.1, forget lines w picks s n c r.0 r.1 r.2, r.3, r.5)

fresh_part : (lines : List Command) (w : ℕ) (picks : List Pick) (t s : ℕ) (c : State) (j k : ℕ) (d e : State) → s ≤ t
    → PickedRun lines w picks s c j d → FreshRun lines w picks s t c k e → (n : ℕ) × (t ≡ s + n)
    × FreshChain lines w n d e
fresh_part lines w picks zero s c j k d e le p r =
    let z : 0 ≡ s = omega arith in
    let f = subst (λ n. PickedRun lines w picks n c k e) z (forget lines w picks s zero c k e r) in
    (0, omega arith, (run_same lines w picks s c k j e d f p).1)
fresh_part lines w picks (suc t) s c j k d e le p r = elim (cases_lt t s) [
  | inl above ↦
      let z : suc t ≡ s = omega arith in
      let f = subst (λ n. PickedRun lines w picks n c k e) z (forget lines w picks s (suc t) c k e r) in
      (0, omega arith, (run_same lines w picks s c k j e d f p).1)
  | inr below ↦
      let x = fresh_part lines w picks t s c j r.0 d r.1 below p r.2 in
      let same : t ≡ s + x.0 = x.1 in
      let step : FreshStep lines w r.1 e = record {
        command = r.3.command;
        address = address_of (slice_get picks r.0);
        fields = fields_of (slice_get picks r.0);
        at = r.3.at;
        may = r.3.may;
        fresh = r.4 below;
        leads = r.3.leads;
      } in (suc x.0, omega arith, (r.1, x.2, step))
]

-- ---- the laws

pub never_halts : (End : EndMeaning) (lines : List Command) (w : ℕ) (picks : List Pick) (c : State) (ending : Ending)
    → IsRefuting lines w picks c ending → (n : ℕ) → Halts End lines w n c → ⊥
never_halts End lines w picks c (FaultAfter t) r n h =
    let a = halts_chain End lines w t n c r.1 (run_chain lines w picks t c r.0 r.1 r.2) h in
    no_fault End lines w a.0 r.1 r.3.1.0 r.3.1.1 r.3.1.2 a.2
never_halts End lines w picks c (Repeat s t) r n h =
    let lt : s < t = r.0 in
    let x = split lines w picks t s c r.2 r.3 (omega arith) r.5 in
    let same = run_same lines w picks s c x.2 r.1 x.3 r.3 x.4 r.4 in
    let circle = subst (λ m. Chain lines w x.0 m r.3) same.1 x.5 in
    let e : t ≡ s + x.0 = x.1 in
    let a = halts_chain End lines w s n c r.3 (run_chain lines w picks s c r.1 r.3 r.4) h in
    no_circle End lines w x.0 r.3 (omega arith) circle (suc a.0) a.0 (omega arith) a.2
never_halts End lines w picks c (Grow g) r n h =
    let lt : g.first < g.again = r.0 in
    let x = fresh_part lines w picks g.again g.first c r.1 r.2 r.3 r.4 (omega arith) r.5 r.6 in
    let same : g.again ≡ g.first + x.0 = x.1 in
    let a = halts_chain End lines w g.first n c r.3 (run_chain lines w picks g.first c r.1 r.3 r.5) h in
    never_grows End lines w r.3 x.0 r.4 (omega arith) x.2 (IsPaired g.renaming) r.7 a.0 a.2

pub no_termination : (ds : List Definition) (lines : List Command) (i : ℕ) (a : SymbolicHeap) (s : Stack)
    (h part : Cells) (w : ℕ) (picks : List Pick) (ending : Ending) → 0 < w → IsPart part h → Satisfies ds s part a
    → IsRefuting lines w picks (start_at lines i s h) ending → TerminationHolds ds lines i a → ⊥
no_termination ds lines i a s h part w picks ending pos is sat r t =
    let x = t w pos s part is.0 h is.1 sat in
    never_halts (EndHolds ds is.0) lines w picks (start_at lines i s h) ending r x.0 x.1
