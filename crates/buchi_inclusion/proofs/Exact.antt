-- All lassos progress exactly where no reachable cycle of the product is bad, and then a local relation holds at node
-- 0; where a bad cycle is to be looked for; and the number of states.
use Rattle.std.proofs.Common.{◌≡◌, ℕ, ◌<◌, ◌≤◌, ◌↔◌, inl, inr, List, [], ◌∷◌, ◌++◌, arith, Some, slice_get, length, sym}
use Rattle.std.proofs.Common.{refl, subst}
use Rattle.std.proofs.lemmas.Option.{slice_get_within}
use Rattle.trace_pairs.specs.Graph.{Node, IsLocal}
use Rattle.buchi_core.specs.declared.event.Event.{Event}
use Rattle.buchi_core.specs.declared.event.Event.TheVariants.{Dies}
use Rattle.buchi_inclusion.specs.Product.{State, Moves, Run, Each, Occurs, IsFrom, BadCycle, Reachable}
use Rattle.trace_pairs.specs.Graph.{IsGraph}
use Rattle.trace_pairs.specs.Lasso.{AllProgress}
use Rattle.buchi_inclusion.specs.Answers.{AreReached, AreAllReached, HasAtMost, HasMoreThan, LeastFirst}
use Rattle.buchi_core.proofs.Lists.{get_one}
use Rattle.buchi_inclusion.proofs.Descent.{descends}
use Rattle.buchi_inclusion.proofs.Runs.{each_append}
use Rattle.buchi_inclusion.proofs.Progressing.{good_from_lassos}
use Rattle.buchi_inclusion.proofs.Lassos.{progresses}
use Rattle.buchi_inclusion.specs.States.{states_from}
use Rattle.buchi_inclusion.proofs.Universe.{closed_universe}
use Rattle.buchi_core.proofs.Entries.{injective_le}
use Rattle.cyc_basics.proofs.Places.{get_within}

pub exact : (g : List Node) → IsGraph g → AllProgress g ↔ (BadCycle g → ⊥)
exact g i = (
  good_from_lassos g i.fit,
  (λ good. progresses g (states_from 0 g) (closed_universe g i.root i.is_root)
      i.targets good),
)

pub descends_by_lassos : (g : List Node) → IsGraph g → AllProgress g → (Holds : ℕ → (ℕ → ℕ) → Type 0) → IsLocal g Holds
    → (σ : ℕ → ℕ) → Holds 0 σ
descends_by_lassos g i all Holds local σ =
    descends g (states_from 0 g) (closed_universe g i.root i.is_root) (good_from_lassos g i.fit all)
    i.targets Holds local σ

-- runs joined
pub run_append : (g : List Node) (s t u : State) (events later : List Event) → Run g s t events → Run g t u later
    → Run g s u (events ++ later)
run_append g s t u [] later a b = subst (λ x. Run g x u later) (sym a) b
run_append g s t u (event ∷ events) later a b = (a.0, a.1, run_append g a.0 t u events later a.2 b)

pub reach_run : (g : List Node) (s t : State) (events : List Event) → Reachable g s → Run g s t events → Reachable g t
reach_run g s t events r run = record {
  from = r.from;
  starts = r.starts;
  events = r.events ++ events;
  run = run_append g r.from s t r.events events r.run run;
}

-- a run cut where an event occurs
record Cut (g : List Node) (P : Event → Type 0) (s t : State) (x : Event) : Type 0 where
  pub before : List Event
  pub after : List Event
  pub u : State
  pub w : State
  pub to : Run g s u before
  pub move : Moves g u w x
  pub from : Run g w t after
  pub each_before : Each P before
  pub each_after : Each P after

cut : (g : List Node) (P : Event → Type 0) (s t : State) (x : Event) (events : List Event) → Run g s t events
    → Each P events → Occurs x events → Cut g P s t x
cut g P s t x [] run e o = absurd o
cut g P s t x (event ∷ events) run e o =
    elim o [
      | inl is ↦ record {
        before = [];
        after = events;
        u = s;
        w = run.0;
        to = refl;
        move = subst (Moves g s run.0) is run.1;
        from = run.2;
        each_before = tt;
        each_after = e.1;
      }
      | inr later ↦
          (let c = cut g P run.0 t x events run.2 e.1 later in
          record {
            before = event ∷ c.before;
            after = c.after;
            u = c.u;
            w = c.w;
            to = (run.0, run.1, c.to);
            move = c.move;
            from = c.from;
            each_before = (e.0, c.each_before);
            each_after = c.each_after;
          })
    ]

-- a bad cycle can begin with its least event
pub least_first : (g : List Node) → BadCycle g → LeastFirst g
least_first g b =
    elim b.bad [
      | inl quiet ↦ record {
        s = b.state;
        t = b.run.0;
        event = b.first;
        reachable = b.reachable;
        move = b.run.1;
        events = b.rest;
        back = b.run.2;
        least = inl quiet;
      }
      | inr death ↦
          (let c = cut g (IsFrom death.0) b.state b.state (Dies death.0) (b.first ∷ b.rest) b.run death.2 death.1 in
          record {
            s = c.u;
            t = c.w;
            event = Dies death.0;
            reachable = reach_run g b.state c.u c.before b.reachable c.to;
            move = c.move;
            events = c.after ++ c.before;
            back = run_append g c.w b.state c.u c.after c.before c.from c.to;
            least = inr (death.0, refl, each_append (IsFrom death.0) c.after c.before c.each_after c.each_before);
          })
    ]

-- of two lists of reachable states, the one with each state of the other is no shorter
pub no_longer : (g : List Node) (some all : List State) → AreReached g some → AreAllReached g all
    → length some ≤ length all
no_longer g some all s a = injective_le (length some) (length all) place
    (λ i l. slice_get_within all (place i l) (at i l).0 (listed i l).1) same
  where
    at : (i : ℕ) → i < length some → (t : State) × (slice_get some i ≡ Some t)
    at i l = get_within some i l

    listed : (i : ℕ) (l : i < length some) → (j : ℕ) × (slice_get all j ≡ Some (at i l).0)
    listed i l = a.all' (at i l).0 (s.reached i (at i l).0 (at i l).1)

    place : (i : ℕ) → i < length some → ℕ
    place i l = (listed i l).0

    same : (i j : ℕ) (l : i < length some) (k : j < length some) → place i l ≡ place j k → i ≡ j
    same i j l k e =
        let t : (at i l).0 ≡ (at j k).0 = get_one all (place j k) (at i l).0 (at j k).0
        (subst (λ x. slice_get all x ≡ Some (at i l).0) e (listed i l).1) (listed j k).1 in
        s.apart i j (at j k).0 (subst (λ x. slice_get some i ≡ Some x) t (at i l).1) (at j k).1

-- and isn't both at most n and above it
pub not_both : (g : List Node) (n : ℕ) → HasAtMost g n → HasMoreThan g n → ⊥
not_both g n a m = omega (arith, no_longer g m.0 a.0 m.1 a.1, a.2, m.2)
