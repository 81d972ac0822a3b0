-- What a reason more, or one less, makes of the nodes and goals: for those who keep something of them.
use Rattle.std.proofs.Common.{◌≡◌, ◌<◌, inl, inr, List, [], ◌∷◌, ◌++◌, Some, length, arith, sym, ap, subst, ◌∙◌}
use Rattle.std.specs.Prelude.{ℕ}
use Rattle.std.proofs.lemmas.List.{length-map}
use Rattle.std.proofs.lemmas.Option.{same_Some}
use Rattle.std.proofs.lemmas.List.Sums.{fold-append}
use Rattle.derivations.specs.Stack.{front}
use Rattle.derivations.proofs.Members.{front-after}
use Rattle.derivations.specs.Tableau.{Subgoal, Goal, Made, Tableau, Calculus, step, begin, replay}
use Rattle.derivations.specs.declared.derivation.Derivation.{Derivation}
use Rattle.derivations.specs.Derivations.{goals_in, reasons_in, tableau_in, about, IsInOrder}
use Rattle.cyc_basics.proofs.Parts.{split_last}
use Rattle.derivations.proofs.TakenBack.{WasAt, was_at}

-- the last reason's goal, and what was made before it
pub record Before {L J R : Type 0} (calculus : L → Calculus J R) (s s' : Derivation L J R) : Type 0 where
  pub goal : Goal J
  pub rest : List (Goal J)
  pub reason : R
  pub premises : List (Subgoal J)
  pub next : goals_in s' ≡ goal ∷ rest
  pub made : s.made.items ≡ s'.made.items ++ record { goal = goal; reason = reason } ∷ []
  pub has : (calculus s.logic).premises s'.made.items goal reason ≡ Some premises

module _ {L J R : Type 0} (calculus : L → Calculus J R) (Occurs : L → J → Type 0) (Allows : L → R → Type 0)
    (s s' : Derivation L J R) (order : IsInOrder calculus Occurs Allows s)
    (order' : IsInOrder calculus Occurs Allows s') (same : about s' ≡ about s) where
  replayed' : replay (calculus s.logic) s.root (reasons_in s') ≡ Some (tableau_in s')
  replayed' = subst (λ (a : L × (ℕ × J)). replay (calculus a.0) a.1.1 (reasons_in s') ≡ Some (tableau_in s'))
      same order'.replayed

  -- a reason that was taken back left its goal the next one
  pub before : reasons_in s' ≡ front (reasons_in s) → 0 < length s.made.items → Before calculus s s'
  before less some' =
      elim (split_last (reasons_in s)) [
        | inl none ↦ absurd (omega (arith, some', ap length none, length-map s.made.items (λ (m : Made J R). m.reason)))
        | inr last ↦ by_last last.0 last.1 last.2
      ]
    where
      by_last : (ds : List R) (r : R) → reasons_in s ≡ ds ++ r ∷ [] → Before calculus s s'
      by_last ds r e = record {
        goal = was.g;
        rest = was.rest;
        reason = r;
        premises = was.ps;
        next = ap (λ (t : Tableau J R). t.goals) (sym is) ∙ was.goals;
        made = ap (λ (t : Tableau J R). t.nodes) (sym was.made)
            ∙ ap (λ (ns : List (Made J R)). ns ++ record { goal = was.g; reason = r } ∷ [])
            (ap (λ (t : Tableau J R). t.nodes) is);
        has = ap (λ (ns : List (Made J R)). (calculus s.logic).premises ns was.g r)
            (sym (ap (λ (t : Tableau J R). t.nodes) is)) ∙ was.has;
      }
        where
          are : reasons_in s' ≡ ds
          are = less ∙ (ap front e ∙ front-after ds r)

          stepped : step (calculus s.logic) (replay (calculus s.logic) s.root (reasons_in s')) r ≡ Some (tableau_in s)
          stepped =
              ap (λ xs. step (calculus s.logic) (replay (calculus s.logic) s.root xs) r) are
              ∙ (sym (fold-append (step (calculus s.logic)) (Some (begin s.root)) ds (r ∷ []))
              ∙ (ap (replay (calculus s.logic) s.root) (sym e) ∙ order.replayed))

          was : WasAt (calculus s.logic) (replay (calculus s.logic) s.root (reasons_in s')) r (tableau_in s)
          was = was_at (calculus s.logic) (replay (calculus s.logic) s.root (reasons_in s')) r (tableau_in s) stepped

          is : was.before ≡ tableau_in s'
          is = same_Some was.before (tableau_in s') (sym was.is ∙ replayed')
