-- The next goal, and what a reason makes of it.
use Rattle.std.proofs.Common.{◌≡◌, ℕ, suc, ◌+◌, ◌-◌, ◌<◌, inl, inr, Bool, true, false, ◌&&◌, ◌||◌, List, [], ◌∷◌}
use Rattle.std.proofs.Common.{Option, Some, None, slice_get, length, length-append, arith, refl, sym, ap, subst, ◌∙◌}
use Rattle.std.specs.Prelude.{nat_eq, nat_lt, nat_le}
use Rattle.std.proofs.lemmas.List.{length-map, length-reverse}
use Rattle.std.proofs.lemmas.List.Sums.{fold-append}
use Rattle.std.proofs.lemmas.Option.{slice_get_within}
use Rattle.trace_pairs.specs.Graph.{Node, Edge, IsGraph}
use Rattle.buchi_inclusion.specs.Answers.{state_limit}
use Rattle.buchi_inclusion.specs.Decide.{progresses, number_of}
use Rattle.derivations.specs.System.{after}
use Rattle.derivations.specs.Firsts.{IsIn}
use Rattle.derivations.specs.Engine.{FaresSo}
use Rattle.cyc_basics.specs.Words.{Each}
use Rattle.derivations.specs.declared.search.Tried.{Tried}
use Rattle.derivations.specs.declared.search.Tried.TheVariants.{Admitted, Refused, TooManyStates}
use Rattle.derivations.specs.Tableau.{Subgoal, Goal, Made, Calculus, grown, linked, step, at_next, with_premises, begin}
use Rattle.derivations.specs.Tableau.{replay}
use Rattle.derivations.specs.Fair.{AllOccur}
use Rattle.derivations.specs.Room.{is_nil, is_done, has_room, fits_at, fits_in}
use Rattle.derivations.specs.Search.{on_graph}
use Rattle.derivations.specs.Leaves.{without_leaf}
use Rattle.derivations.proofs.Leaves.{leaf_removed}
use Rattle.derivations.proofs.Graphs.{InOrder, graph_in_order}
use Rattle.derivations.proofs.Replays.{replayed_from}
use Rattle.derivations.proofs.Stack.{room_is, room_tells}
use Rattle.derivations.proofs.TableauSteps.{Fits, next_tableau, next_is, begins, next_in_order}
use Rattle.derivations.proofs.TableauFound.{nil_is}
use Rattle.derivations.specs.declared.derivation.Derivation.{Derivation}
use Rattle.derivations.specs.declared.logic.Effect.{Effect}
use Rattle.derivations.specs.Effects.{IsEffect}
use Rattle.derivations.specs.Fares.{GraphFares}
use Rattle.derivations.specs.Derivations.{goals_in, reasons_in, tableau_in, IsInOrder, HasEffect, search_in}
use Rattle.derivations.specs.Derivations.{IsNextEffect, IsFitting, graph_with, next_graph}

module _ {L J R : Type 0} (calculus : L → Calculus J R) (Occurs : L → J → Type 0) (Allows : L → R → Type 0)
    (s : Derivation L J R) (order : IsInOrder calculus Occurs Allows s) where
  abbrev c : Calculus J R
  c = calculus s.logic

  -- the tableau is in order
  pub in_order : InOrder c (Occurs s.logic) (Allows s.logic) s.root (tableau_in s)
  in_order =
      replayed_from c (Occurs s.logic) (Allows s.logic) order.fair s.root (reasons_in s) (begin s.root) (tableau_in s)
      (begins c (Occurs s.logic) (Allows s.logic) s.root order.occurs) order.allowed order.replayed

  pub next_occurs : (g : Goal J) (rest : List (Goal J)) → goals_in s ≡ g ∷ rest
      → AllOccur (Occurs s.logic) s.made.items g
  next_occurs g rest next = record {
    goal = in_order.open' 0 g (ap (λ gs. slice_get gs 0) next);
    made = λ i m at. (in_order.made i m at).0;
  }

  -- where no goal is open, no reason has an effect
  pub none_open : (r : R) → goals_in s ≡ [] → IsNextEffect calculus s r None
  none_open r none = ap (at_next c s.made.items s.traces r) none

  pub next_effect : (r : R) (g : Goal J) (rest : List (Goal J)) (o : Option (Effect J)) → goals_in s ≡ g ∷ rest
      → IsEffect c s.made.items g r o → IsNextEffect calculus s r o
  next_effect r g rest None next is =
      ap (at_next c s.made.items s.traces r) next ∙ ap (with_premises c s.made.items s.traces r g rest) is
  next_effect r g rest (Some e) next is = record { goal = g; rest = rest; next = next; effect = is }

  -- ---- whether it fits

  pub fits_by : (bound : ℕ) (r : R) → (search_in calculus s).fits bound (reasons_in s) r
      ≡ fits_at c s.limit bound (length (reasons_in s)) s.made.items r (goals_in s)
  fits_by bound r = ap (λ p. fits_in c s.limit bound (length (reasons_in s)) p r) order.replayed

  pub none_fits : (bound : ℕ) (r : R) → IsNextEffect calculus s r None → IsFitting calculus s bound r None
  none_fits bound r none = fits_by bound r ∙ at (goals_in s) none
    where
      room : (g : Goal J) (rest : List (Goal J)) (o : Option (List (Subgoal J)))
          → with_premises c s.made.items s.traces r g rest o ≡ None
          → has_room s.limit bound (length (reasons_in s)) g rest o ≡ false
      room g rest None e = refl
      room g rest (Some ps) e = absurd (let e' : Some (next_tableau c s.made.items s.traces g rest ps r) ≡ None = e in
          cc)

      at : (goals : List (Goal J)) → at_next c s.made.items s.traces r goals ≡ None
          → fits_at c s.limit bound (length (reasons_in s)) s.made.items r goals ≡ false
      at [] e = refl
      at (g ∷ rest) e = room g rest (c.premises s.made.items g r) e

  pub reasons_long : length (reasons_in s) ≡ length s.made.items
  reasons_long = length-map s.made.items (λ (m : Made J R). m.reason)

  pub fits_is : (r : R) (e : Effect J) (has : HasEffect calculus s r e) (bound depth made others count : ℕ) (b : Bool)
      → depth ≡ has.goal.depth → made ≡ length s.made.items → others ≡ length has.rest
      → count ≡ length e.premises.items →
      b ≡ ((nat_eq count 0 || nat_lt depth bound) && nat_le (made + 1 + (count + others)) s.limit)
      → (search_in calculus s).fits bound (reasons_in s) r ≡ b
  fits_is r e has bound depth made others count b is_depth is_made is_others is_count is_b =
      fits_by bound r
      ∙ (ap (fits_at c s.limit bound (length (reasons_in s)) s.made.items r) has.next
      ∙ (ap (has_room s.limit bound (length (reasons_in s)) has.goal has.rest) has.effect.0
      ∙ room_is s.limit bound (length (reasons_in s))
      has.goal has.rest e.premises.items depth made others count b is_depth (is_made ∙ sym reasons_long)
      is_others is_count is_b))

  -- the goal that the code sees is the next one
  pub same_goal : (r : R) (e : Effect J) (has : HasEffect calculus s r e) (g : Goal J) (rest : List (Goal J))
      → goals_in s ≡ g ∷ rest → has.goal ≡ g
  same_goal r e has g rest next = let both : has.goal ∷ has.rest ≡ g ∷ rest = sym has.next ∙ next in cc

  pub others_are : (r : R) (e : Effect J) (has : HasEffect calculus s r e) (n : ℕ) → n ≡ length s.goals.items
      → n - 1 ≡ length has.rest
  others_are r e has n number = omega (arith, number, ap length has.next, length-reverse s.goals.items)

  pub may_take : (r : R) (e : Effect J) (has : HasEffect calculus s r e) (bound depth made others count : ℕ)
      → bound < 4294967296 → depth ≡ has.goal.depth → made ≡ length s.made.items → others ≡ length has.rest
      → count ≡ length e.premises.items →
      ((nat_eq count 0 || nat_lt depth bound) && nat_le (made + 1 + (count + others)) s.limit) ≡ true
      → IsFitting calculus s bound r (Some e)
  may_take r e has bound depth made others count small is_depth is_made is_others is_count fits =
      let room = room_tells s.limit bound (length s.made.items)
      has.goal has.rest e.premises.items depth made others count small is_depth is_made is_others is_count fits in (
        fits_is r e has bound depth made others count true is_depth is_made is_others is_count (sym fits),
        record { has = has; room = room.0; depth = room.1 },
      )

  -- ---- the graph with the next goal

  pub graph_at : (back : Option Edge) (g : Goal J) (rest : List (Goal J)) → goals_in s ≡ g ∷ rest
      → next_graph calculus s back ≡ linked (length s.traces) (grown c s.traces g) back
  graph_at back g rest next =
      ap (λ gs. graph_with c s.made.items s.traces gs back) next
      ∙ ap (λ n. linked n (grown c s.traces g) back) (sym in_order.size)

  abbrev fits_at_next : (r : R) (e : Effect J) → HasEffect calculus s r e → Fits c (replay c s.root (reasons_in s)) r
  fits_at_next r e has = record {
    t = tableau_in s;
    is = order.replayed;
    g = has.goal;
    rest = has.rest;
    goals = has.next;
    ps = e.premises.items;
    has = has.effect.0;
  }

  pub replayed_next : (r : R) (e : Effect J) (has : HasEffect calculus s r e)
      → replay c s.root (after (reasons_in s) r)
      ≡ Some (next_tableau c s.made.items s.traces has.goal has.rest e.premises.items r)
  replayed_next r e has = next_is c s.root (reasons_in s) r (fits_at_next r e has)

  pub graph_is : (r : R) (e : Effect J) (has : HasEffect calculus s r e)
      → (next_tableau c s.made.items s.traces has.goal has.rest e.premises.items r).graph ≡ next_graph calculus s e.back
  graph_is r e has =
      ap (linked (length s.made.items) (grown c s.traces has.goal)) has.effect.1
      ∙ sym (ap (λ gs. graph_with c s.made.items s.traces gs e.back) has.next)

  pub next_is_graph : (r : R) (e : Effect J) → Allows s.logic r → HasEffect calculus s r e
      → IsGraph (next_graph calculus s e.back)
  next_is_graph r e allowed has =
      subst IsGraph (graph_is r e has)
      (graph_in_order c (Occurs s.logic) (Allows s.logic) order.fair s.root _
      (next_in_order c (Occurs s.logic) (Allows s.logic)
      order.fair s.root s.made.items s.traces has.goal has.rest r e.premises.items
      (subst (λ gs. InOrder c (Occurs s.logic) (Allows s.logic) s.root
      (record { nodes = s.made.items; goals = gs; graph = s.traces })) has.next in_order)
      allowed has.effect.0)
      (omega (arith, length-append s.made.items (record { goal = has.goal; reason = r } ∷ []))))

  pub traces_fit : length s.traces < 4294967296
  traces_fit = omega (arith, in_order.size, order.few, order.fits)

  -- and without it again
  pub graph_again : (back : Option Edge) (g : Goal J) (rest : List (Goal J)) → goals_in s ≡ g ∷ rest
      → without_leaf (next_graph calculus s back) g.parent ≡ s.traces
  graph_again back g rest next =
      ap (λ graph. without_leaf graph g.parent) (graph_at back g rest next)
      ∙ leaf_removed s.traces g.parent g.premise.pairs (c.positions g.premise.judgement) (length s.traces) back refl

  -- ---- how a link fares

  on_next : (r : R) (e : Effect J) → HasEffect calculus s r e → (test : List Node → Bool)
      → on_graph test (replay c s.root (after (reasons_in s) r)) ≡ test (next_graph calculus s e.back)
  on_next r e has test = ap (on_graph test) (replayed_next r e has) ∙ ap test (graph_is r e has)

  pub fares : (r : R) (e : Effect J) → HasEffect calculus s r e → (g : List Node) (t : Tried)
      → g ≡ next_graph calculus s e.back → GraphFares g t → FaresSo (search_in calculus s) (after (reasons_in s) r) t
  fares r e has g Admitted is h = (
    on_next r e has (λ x. nat_lt state_limit (number_of x))
        ∙ (ap (λ x. nat_lt state_limit (number_of x)) (sym is) ∙ h.0),
    on_next r e has progresses
        ∙ (ap progresses (sym is) ∙ h.1),
  )
  fares r e has g Refused is h = (
    on_next r e has (λ x. nat_lt state_limit (number_of x))
        ∙ (ap (λ x. nat_lt state_limit (number_of x)) (sym is) ∙ h.0),
    on_next r e has progresses
        ∙ (ap progresses (sym is) ∙ h.1),
  )
  fares r e has g TooManyStates is h = on_next r e has (λ x. nat_lt state_limit (number_of x))
      ∙ (ap (λ x. nat_lt state_limit (number_of x)) (sym is) ∙ h)

  pub none_fares : (r : R) → IsNextEffect calculus s r None
      → FaresSo (search_in calculus s) (after (reasons_in s) r) Refused
  none_fares r none = (ap (on_graph (λ x. nat_lt state_limit (number_of x))) gone, ap (on_graph progresses) gone)
    where
      gone : replay c s.root (after (reasons_in s) r) ≡ None
      gone = fold-append (step c) (Some (begin s.root)) (reasons_in s) (r ∷ [])
          ∙ (ap (λ o. step c o r) order.replayed ∙ none)

  -- ---- without open goals

  pub complete_is : (search_in calculus s).complete (reasons_in s) ≡ is_nil (goals_in s)
  complete_is = ap is_done order.replayed

  pub above_is : (g : List Node) (b : Bool) → g ≡ s.traces → nat_lt state_limit (number_of g) ≡ b
      → (search_in calculus s).above (reasons_in s) ≡ b
  above_is g b is is_b = ap (on_graph (λ x. nat_lt state_limit (number_of x))) order.replayed
      ∙ (ap (λ x. nat_lt state_limit (number_of x)) (sym is) ∙ is_b)

  pub whole_graph : is_nil (goals_in s) ≡ true → IsGraph s.traces
  whole_graph closed = graph_in_order c (Occurs s.logic) (Allows s.logic) order.fair s.root (tableau_in s)
      in_order some_node
    where
      none : goals_in s ≡ []
      none = nil_is (goals_in s) closed

      some_node : 0 < length s.made.items
      some_node =
          elim in_order.begun [
            | inl b ↦ absurd (let e : None ≡ Some b.goal = sym (ap (λ gs. slice_get gs 0) none) ∙ b.is_goal in cc)
            | inr h ↦ omega (arith, slice_get_within s.made.items 0 h.root h.is_root)
          ]

  -- ---- what is offered

  all_in : (P : R → Type 0) (xs : List R) → ((r : R) → IsIn xs r → P r) → Each P xs
  all_in P [] each = tt
  all_in P (x ∷ xs) each = (
    each x (record { place = 0; at = refl }),
    all_in P xs (λ r is. each r (record { place = suc is.place; at = is.at })),
  )

  -- what is offered may be given
  pub offered_allowed : (g : Goal J) (rest : List (Goal J)) → goals_in s ≡ g ∷ rest
      → Each (Allows s.logic) (c.links s.made.items g) × Each (Allows s.logic) (c.rules s.made.items g)
  offered_allowed g rest next =
      let occur = next_occurs g rest next in (
        all_in (Allows s.logic) (c.links s.made.items g) (λ r is. order.fair.offers s.made.items g r occur (inl is)),
        all_in (Allows s.logic) (c.rules s.made.items g) (λ r is. order.fair.offers s.made.items g r occur (inr is)),
      )
