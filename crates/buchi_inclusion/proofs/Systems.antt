-- A proof without a faulty node is a graph in order, and its relation is local; and the answers of the inclusion
-- exclude one another.
use Rattle.std.proofs.Common.{◌≡◌, ℕ, zero, suc, ◌+◌, List, [], ◌∷◌, ◌++◌, take, Bool, arith, Some, None, slice_get}
use Rattle.std.proofs.Common.{sym, ap, ◌∙◌, subst}
use Rattle.trace_pairs.specs.Graph.{Node, Edge, IsGraph, IsLocal}
use Rattle.trace_pairs.specs.Lasso.{AllProgress}
use Rattle.trace_pairs.specs.System.{IsLocalAt, NoneFaulty, HasPositions, HasEdges}
use Rattle.buchi_core.proofs.Lists.{get_one}
use Rattle.buchi_inclusion.specs.Answers.{HasAtMost}
use Rattle.buchi_inclusion.specs.Inclusion.{IsInclusion, IsSameKind}
use Rattle.buchi_inclusion.specs.declared.Inclusion.{Inclusion}
use Rattle.buchi_inclusion.specs.declared.Inclusion.TheVariants.{Included, Counter, TooManyStates}
use Rattle.buchi_inclusion.proofs.Exact.{descends_by_lassos, not_both}

take_more : (g : List Node) (v : ℕ) (n : Node) → slice_get g v ≡ Some n → take (suc v) g ≡ take v g ++ (n ∷ [])
take_more [] v n h = absurd (let e : None ≡ Some n = h in cc)
take_more (x ∷ g) zero n h = let e : Some x ≡ Some n = h in let e' : x ≡ n = cc in ap (λ (y : Node). y ∷ []) e'
take_more (x ∷ g) (suc v) n h = ap (λ (ys : List Node). x ∷ ys) (take_more g v n h)

pub graph_more : (g graph next : List Node) (v : ℕ) (positions : List ℕ) (edges : List Edge) → graph ≡ take v g
    → next ≡ graph ++ (record { positions = positions; edges = edges } ∷ []) → HasPositions g v positions
    → HasEdges g v edges → next ≡ take (v + 1) g
graph_more g graph next v positions edges so_far push p e =
    let same : p.0 ≡ e.0 = get_one g v p.0 e.0 p.1 e.1 in
    let node : record { positions = positions; edges = edges } ≡ e.0 = λ i.
    record { positions = (p.2 ∙ ap (λ (n : Node). n.positions) same) i; edges = e.2 i } in
    let s : suc v ≡ v + 1 = omega arith in
    push ∙ ((λ i. so_far i ++ (node i ∷ [])) ∙ (sym (take_more g v e.0 e.1) ∙ ap (λ k. take k g) s))

pub local_all : (g : List Node) (faulty : ℕ → Bool) (Holds : ℕ → (ℕ → ℕ) → Type 0) → IsLocalAt g faulty Holds
    → NoneFaulty g faulty → IsLocal g Holds
local_all g faulty Holds local none v σ l h = local v σ l (none v l) h

pub accepted : (g graph : List Node) (faulty : ℕ → Bool) (Holds : ℕ → (ℕ → ℕ) → Type 0) (limit : ℕ) (answer : Inclusion)
    → graph ≡ g → answer ≡ Included → IsGraph g → IsInclusion graph limit answer → IsLocalAt g faulty Holds
    → NoneFaulty g faulty →
    NoneFaulty g faulty × AllProgress g × HasAtMost g limit × ((stages : ℕ → ℕ) → Holds 0 stages)
accepted g graph faulty Holds limit answer e is is_graph i local none =
    let i' : IsInclusion g limit Included = subst (λ a. IsInclusion g limit a) is
    (subst (λ x. IsInclusion x limit answer) e i) in
    (none, i'.0, i'.1, descends_by_lassos g is_graph i'.0 Holds (local_all g faulty Holds local none))

-- two answers that are true of one graph and limit are of one kind
pub same_kind : (g : List Node) (limit : ℕ) (a b : Inclusion) → IsInclusion g limit a → IsInclusion g limit b
    → IsSameKind a b
same_kind g limit Included Included x y = tt
same_kind g limit Included (Counter m) x y = y.1 (x.0 m y.0)
same_kind g limit Included TooManyStates x y = not_both g limit x.1 y
same_kind g limit (Counter l) Included x y = x.1 (y.0 l x.0)
same_kind g limit (Counter l) (Counter m) x y = tt
same_kind g limit (Counter l) TooManyStates x y = not_both g limit x.2 y
same_kind g limit TooManyStates Included x y = not_both g limit y.1 x
same_kind g limit TooManyStates (Counter m) x y = not_both g limit y.2 x
same_kind g limit TooManyStates TooManyStates x y = tt
