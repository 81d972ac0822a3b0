-- Ways as runs, and the cycles of bad moves.
use Rattle.std.proofs.Common.{◌≡◌, ℕ, ◌<◌, inl, inr, List, [], ◌∷◌, ◌++◌, Some, None, slice_get, length, sym, refl, ap}
use Rattle.std.proofs.Common.{◌∙◌, subst, Vec, Global}
use Rattle.trace_pairs.specs.Graph.{Node}
use Rattle.trace_pairs.specs.Lasso.{AllProgress}
use Rattle.trace_pairs.specs.Graph.{IsGraph}
use Rattle.trace_pairs.proofs.Grow.{get_push_cases}
use Rattle.trace_pairs.specs.declared.lasso.Step.{Step}
use Rattle.buchi_core.specs.declared.event.Event.{Event}
use Rattle.buchi_core.proofs.Lists.{get_one}
use Rattle.buchi_inclusion.specs.declared.product.Transition.{Transition}
use Rattle.buchi_inclusion.specs.declared.decision.BadMove.{BadMove}
use Rattle.buchi_inclusion.specs.Product.{State, Moves, Run, BadCycle}
use Rattle.buchi_inclusion.specs.Table.{IsItem, IsTable}
use Rattle.buchi_inclusion.specs.Decision.{IsAtLeast, IsWalk, HasWay, AreLed}
use Rattle.buchi_inclusion.specs.BadMoves.{IsBadMove}
use Rattle.buchi_inclusion.proofs.Runs.{over_run, each_append}
use Rattle.buchi_inclusion.proofs.Exact.{exact, run_append}
use Rattle.buchi_inclusion.proofs.Deciding.{bad_is}
use Rattle.cyc_basics.proofs.Places.{get_within, get_append_left, get_end}

pub way_of_walk : (g : List Node) (states : List State) (least : Event) (from to : ℕ) (steps : List Step)
    → IsWalk g states least from to steps → HasWay g states least from to
way_of_walk g states least from to steps w =
    record {
      s = w.s;
      t = w.t;
      is_s = w.is_s;
      is_t = w.is_t;
      events = w.events;
      run = over_run g w.s w.t steps w.events w.over;
      ok = w.ok;
    }

-- a way and one move more
pub way_on : (g : List Node) (states : List State) (least : Event) (from place k : ℕ) (m : Transition)
    → HasWay g states least from place → IsItem g states place k m → IsAtLeast least m.event
    → HasWay g states least from m.target
way_on g states least from place k m w item allowed =
    let same : item.s ≡ w.t = get_one states place item.s w.t item.is_s w.is_t in
    let move : Moves g w.t item.t m.event = subst (λ x. Moves g x item.t m.event) same item.step.move in
    record {
      s = w.s;
      t = item.t;
      is_s = w.is_s;
      is_t = item.is_t;
      events = w.events ++ (m.event ∷ []);
      run = run_append g w.s w.t item.t w.events (m.event ∷ []) w.run (item.t, move, refl);
      ok = each_append (IsAtLeast least) w.events (m.event ∷ []) w.ok (allowed, tt);
    }

pub led_more : (g : List Node) (states : List State) (least : Event) (from place : ℕ) (places more : List ℕ)
    → AreLed g states least from places → more ≡ places ++ (place ∷ []) → HasWay g states least from place
    → AreLed g states least from more
led_more g states least from place places more led are way i x at =
    elim (get_push_cases places place x i (subst (λ xs. slice_get xs i ≡ Some x) are at)) [
      | inl old ↦ led i x old
      | inr new ↦ subst (HasWay g states least from) new.1 way
    ]

pub led_first : (g : List Node) (states : List State) (least : Event) (from : ℕ) (places more : List ℕ)
    → from < length states → places ≡ [] → more ≡ places ++ (from ∷ []) → AreLed g states least from more
led_first g states least from places more within none are =
    let s = get_within states from within in
    led_more g states least from from [] more (λ i x at. absurd (let e : None ≡ Some x = at in cc))
    (are ∙ ap (λ xs. xs ++ (from ∷ [])) none)
    (record { s = s.0; t = s.0; is_s = s.1; is_t = s.1; events = []; run = refl; ok = tt })

-- the last place, and those before it
pub led_parts : (g : List Node) (states : List State) (least : Event) (from place : ℕ) (places less : List ℕ)
    → AreLed g states least from places → places ≡ less ++ (place ∷ [])
    → AreLed g states least from less × HasWay g states least from place
led_parts g states least from place places less led are = (
  (λ i x at. led i x (subst (λ xs. slice_get xs i ≡ Some x) (sym are) (get_append_left less (place ∷ []) i x at))),
  led (length less) place (subst (λ xs. slice_get xs (length less) ≡ Some place) (sym are) (get_end less place)),
)

-- the cycle of a bad move
pub bad_cycle : (g : List Node) (states : List State) (rows : List (Vec Transition Global)) (m : BadMove)
    → IsTable g states rows → IsBadMove g states m → BadCycle g
bad_cycle g states rows m t b =
    let from : b.back.s ≡ b.is_item.t = get_one states m.target b.back.s b.is_item.t b.back.is_s
    (subst (λ x. slice_get states x ≡ Some b.is_item.t) b.target b.is_item.is_t) in
    let to : b.back.t ≡ b.is_item.s = get_one states m.place b.back.t b.is_item.s b.back.is_t b.is_item.is_s in
    record {
      state = b.is_item.s;
      reachable = (t.found m.place b.is_item.s b.is_item.is_s).reached;
      first = b.item.event;
      rest = b.back.events;
      run = (
        b.is_item.t,
        b.is_item.step.move,
        subst (λ x. Run g x b.is_item.s b.back.events) from
            (subst (λ x. Run g b.back.s x b.back.events) to b.back.run),
      );
      bad = bad_is m.least b.item.event b.back.events b.least b.first b.back.ok;
    }

-- so not every lasso progresses
pub bad_fails : (g : List Node) (states : List State) (rows : List (Vec Transition Global)) (m : BadMove) → IsGraph g
    → IsTable g states rows → IsBadMove g states m → AllProgress g → ⊥
bad_fails g states rows m graph t b all = (exact g graph).0 all (bad_cycle g states rows m t b)
