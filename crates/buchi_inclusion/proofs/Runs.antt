-- Runs of the product over the steps of the graph.
use Rattle.std.proofs.Common.{◌≡◌, ℕ, zero, suc, inl, inr, List, [], ◌∷◌, ◌++◌, Some, slice_get, sym, refl, ap, subst}
use Rattle.std.proofs.Common.{length, ◌<◌, arith}
use Rattle.trace_pairs.specs.Graph.{Node, Edge, IsEdge}
use Rattle.buchi_core.specs.declared.event.Event.{Event}
use Rattle.buchi_core.specs.declared.event.Event.TheVariants.{Dies}
use Rattle.buchi_inclusion.specs.Product.{State, Run, IsFrom, IsNothing, Each, Occurs, IsBad}
use Rattle.trace_pairs.specs.declared.lasso.Step.{Step}
use Rattle.trace_pairs.specs.Lasso.{IsPath, turns}
use Rattle.buchi_inclusion.specs.Product.{Over}

pub edge_one : (g : List Node) (v k : ℕ) (e f : Edge) → IsEdge g v k e → IsEdge g v k f → e ≡ f
edge_one g v k e f a b =
    let n : a.node ≡ b.node = (let p = a.is_node in let q = b.is_node in cc) in
    let p = a.is_edge in
    let q : slice_get a.node.edges k ≡ Some f = subst (λ (x : Node). slice_get x.edges k ≡ Some f) (sym n) b.is_edge in
    cc

pub run_steps : (g : List Node) (s t : State) (events : List Event) → Run g s t events
    → (steps : List Step) × Over g s t steps events
run_steps g s t [] r = ([], r)
run_steps g s t (event ∷ events) r =
    let rest = run_steps g r.0 t events r.2 in (
      record { node = s.node; edge = r.1.k } ∷ rest.0,
      (
        r.0,
        record { move = r.1; node_is = refl; edge_is = refl },
        rest.1,
      ),
    )

pub over_run : (g : List Node) (s t : State) (steps : List Step) (events : List Event) → Over g s t steps events
    → Run g s t events
over_run g s t [] [] o = o
over_run g s t [] (event ∷ events) o = absurd o
over_run g s t (step ∷ steps) [] o = absurd o
over_run g s t (step ∷ steps) (event ∷ events) o = (o.0, o.1.move, over_run g o.0 t steps events o.2)

pub over_path : (g : List Node) (s t : State) (steps : List Step) (events : List Event) → Over g s t steps events
    → IsPath g s.node steps t.node
over_path g s t [] [] o = ap (λ (x : State). x.node) o
over_path g s t [] (event ∷ events) o = absurd o
over_path g s t (step ∷ steps) [] o = absurd o
over_path g s t (step ∷ steps) (event ∷ events) o = (
  o.1.node_is,
  o.1.move.e,
  subst (λ k. IsEdge g s.node k o.1.move.e) (sym o.1.edge_is) o.1.move.is_edge,
  subst (λ v. IsPath g v steps t.node) o.1.move.node_is (over_path g o.0 t steps events o.2),
)

pub over_append : (g : List Node) (s t u : State) (steps more : List Step) (events later : List Event)
    → Over g s t steps events → Over g t u more later → Over g s u (steps ++ more) (events ++ later)
over_append g s t u [] more [] later a b = subst (λ x. Over g x u more later) (sym a) b
over_append g s t u [] more (event ∷ events) later a b = absurd a
over_append g s t u (step ∷ steps) more [] later a b = absurd a
over_append g s t u (step ∷ steps) more (event ∷ events) later a b =
    (a.0, a.1, over_append g a.0 t u steps more events later a.2 b)

abbrev pub repeated : ℕ → List Event → List Event
repeated zero events = []
repeated (suc k) events = events ++ repeated k events

pub over_turns : (g : List Node) (s : State) (steps : List Step) (events : List Event) (k : ℕ) → Over g s s steps events
    → Over g s s (turns k steps) (repeated k events)
over_turns g s steps events zero o = refl
over_turns g s steps events (suc k) o = over_append g s s s steps (turns k steps) events (repeated k events) o
    (over_turns g s steps events k o)

pub each_append : (P : Event → Type 0) (xs ys : List Event) → Each P xs → Each P ys → Each P (xs ++ ys)
each_append P [] ys a b = b
each_append P (x ∷ xs) ys a b = (a.0, each_append P xs ys a.1 b)

pub each_repeated : (P : Event → Type 0) (events : List Event) (k : ℕ) → Each P events → Each P (repeated k events)
each_repeated P events zero e = tt
each_repeated P events (suc k) e = each_append P events (repeated k events) e (each_repeated P events k e)

pub occurs_append : (x : Event) (xs ys : List Event) → Occurs x xs → Occurs x (xs ++ ys)
occurs_append x [] ys o = absurd o
occurs_append x (y ∷ xs) ys o = elim o [ inl e ↦ inl e | inr m ↦ inr (occurs_append x xs ys m) ]

pub bad_repeated : (events : List Event) (k : ℕ) → IsBad events → IsBad (repeated (suc k) events)
bad_repeated events k b =
    elim b [
      | inl quiet ↦ inl (each_repeated IsNothing events (suc k) quiet)
      | inr death ↦ inr (
        death.0,
        occurs_append (Dies death.0) events (repeated k events) death.1,
        each_repeated (IsFrom death.0) events (suc k) death.2,
      )
    ]

pub each_weaker : (P Q : Event → Type 0) → ((event : Event) → P event → Q event) → (events : List Event) → Each P events
    → Each Q events
each_weaker P Q f [] e = tt
each_weaker P Q f (event ∷ events) e = (f event e.0, each_weaker P Q f events e.1)

-- a walk over an event takes a step
pub over_taken : (g : List Node) (s t : State) (steps : List Step) (event : Event) (events : List Event)
    → Over g s t steps (event ∷ events) → 0 < length steps
over_taken g s t [] event events o = absurd o
over_taken g s t (step ∷ steps) event events o = omega arith
