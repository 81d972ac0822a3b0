-- Each node's reason was offered to its goal.
use Rattle.std.proofs.Common.{◌≡◌, ◌⊎◌, inl, inr, arith, List, [], ◌∷◌, Some, None, sym, subst}
use Rattle.std.proofs.lemmas.List.{take-append-le}
use Rattle.std.proofs.lemmas.Option.{slice_get_within}
use Rattle.derivations.specs.Firsts.{IsIn}
use Rattle.derivations.specs.Tableau.{Subgoal, Goal, Made, Tableau, Calculus, begin}
use Rattle.derivations.specs.Nodes.{AllOffered}
use Rattle.derivations.proofs.Waiting.{get_end_cases}
use Rattle.derivations.proofs.Rows.{take_all}
use Rattle.derivations.proofs.TableauSteps.{next_tableau}

-- the reason is among the links or the rules offered to the goal over these nodes
abbrev pub IsOfferedTo : {J R : Type 0} → Calculus J R → List (Made J R) → Goal J → R → Type 0
IsOfferedTo c nodes g r = IsIn (c.links nodes g) r ⊎ IsIn (c.rules nodes g) r

-- no node is made
pub none_offered : {J R : Type 0} (c : Calculus J R) (j : J) → AllOffered c (begin j)
none_offered c j i m at = absurd (let e : None ≡ Some m = at in cc)

pub offered_next : {J R : Type 0} (c : Calculus J R) (t : Tableau J R) (g : Goal J) (rest : List (Goal J))
    (ps : List (Subgoal J)) (r : R) →
    AllOffered c t → IsOfferedTo c t.nodes g r →
    AllOffered c (next_tableau c t.nodes t.graph g rest ps r)
offered_next {J} {R} c t g rest ps r old offer i m at =
    elim (get_end_cases t.nodes (record { goal = g; reason = r }) m i at) [
      | inl before ↦
          (let less = slice_get_within t.nodes i m before in
          subst (λ (ns : List (Made J R)). IsOfferedTo c ns m.goal m.reason)
          (sym (take-append-le i t.nodes (record { goal = g; reason = r } ∷ []) (omega (arith, less))))
          (old i m before))
      | inr last ↦
          subst (λ (ns : List (Made J R)). IsOfferedTo c ns m.goal m.reason)
          (sym (take_all t.nodes (record { goal = g; reason = r } ∷ []) i last.0))
          (subst (λ (x : Made J R). IsOfferedTo c t.nodes x.goal x.reason) last.1 offer)
    ]
