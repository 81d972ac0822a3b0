-- The last reason is taken back.
use Rattle.std.proofs.Common.{◌≡◌, ◌+◌, ◌≤◌, List, [], ◌∷◌, ◌++◌, reverse, Some, length, length-append, arith, sym, ap}
use Rattle.std.proofs.Common.{◌∙◌}
use Rattle.std.proofs.lemmas.List.{reverse-append, length-reverse}
use Rattle.derivations.specs.Tableau.{Goal, Made, Tableau, Calculus, grown, linked, replay}
use Rattle.derivations.specs.Leaves.{without_leaf}
use Rattle.derivations.specs.Goals.{others_of}
use Rattle.derivations.proofs.Leaves.{leaf_removed}
use Rattle.derivations.proofs.TakenBack.{WasAt, Before, taken_back}
use Rattle.derivations.specs.declared.derivation.Derivation.{Derivation}
use Rattle.derivations.specs.Derivations.{goals_in, reasons_in, tableau_in, about, IsInOrder}
use Rattle.derivations.proofs.Taking.{in_order_about}

-- what is taken back
pub record Returned {L J R : Type 0} (s s' : Derivation L J R) (m : Made J R) (mid : List (Goal J)) : Type 0 where
  pub made : s.made.items ≡ s'.made.items ++ m ∷ []
  pub dropped : reverse mid ≡ others_of (length s'.made.items) (reverse s.goals.items)
  pub goals : s'.goals.items ≡ mid ++ m.goal ∷ []
  pub traces : s'.traces ≡ without_leaf s.traces m.goal.parent
  pub same : about s' ≡ about s

module _ {L J R : Type 0} (calculus : L → Calculus J R) (Occurs : L → J → Type 0) (Allows : L → R → Type 0)
    (s s' : Derivation L J R) (m : Made J R) (mid : List (Goal J))
    (order : IsInOrder calculus Occurs Allows s) (x : Returned s s' m mid) where
  abbrev c : Calculus J R
  c = calculus s.logic

  before : Before c (Occurs s.logic) (Allows s.logic) s.root s'.made.items m (tableau_in s)
  before = taken_back c (Occurs s.logic) (Allows s.logic) order.fair s.root order.occurs s'.made.items m (tableau_in s)
      x.made order.allowed order.replayed

  abbrev was : WasAt c (replay c s.root (reasons_in s')) m.reason (tableau_in s)
  was = before.was

  goals_now : goals_in s' ≡ m.goal ∷ was.rest
  goals_now = ap reverse x.goals ∙ (reverse-append mid (m.goal ∷ [])
      ∙ ap (λ gs. m.goal ∷ gs) (x.dropped ∙ before.others))

  graph_then : s.traces ≡ linked (length was.before.nodes) (grown c was.before.graph was.g)
      (c.back was.before.nodes was.g m.reason)
  graph_then = ap (λ (b : Tableau J R). b.graph) (sym was.made)

  graph_now : s'.traces ≡ was.before.graph
  graph_now =
      x.traces
      ∙ ((λ i. without_leaf (graph_then i) ((sym before.same_goal i).parent))
      ∙ leaf_removed was.before.graph was.g.parent was.g.premise.pairs (c.positions was.g.premise.judgement)
      (length was.before.nodes) (c.back was.before.nodes was.g m.reason) (sym before.in_order.size))

  is_tableau : was.before ≡ tableau_in s'
  is_tableau = λ i. record {
    nodes = before.same_nodes i;
    goals = (was.goals ∙ (ap (λ g. g ∷ was.rest) before.same_goal ∙ sym goals_now)) i;
    graph = sym graph_now i;
  }

  few_now : length s'.made.items + length s'.goals.items ≤ s.limit
  few_now = omega (
    arith,
    ap length x.made,
    length-append s'.made.items (m ∷ []),
    ap length goals_now,
    length-reverse s'.goals.items,
    before.fewer,
    length-reverse s.goals.items,
    order.few,
  )

  pub returned : IsInOrder calculus Occurs Allows s'
  returned = in_order_about calculus Occurs Allows s s' order x.same before.allowed (was.is ∙ ap Some is_tableau)
      few_now
