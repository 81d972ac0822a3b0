-- What may occur in a search is small.
use Rattle.std.proofs.Common.{◌≡◌, ℕ, ◌<◌, ◌≤◌, List, Some, slice_get, length, get_or, sym, arith}
use Rattle.fo_formula.specs.declared.theory.FoTheory.{FoTheory}
use Rattle.fo_formula.specs.Meaning.{cases_of}
use Rattle.fo_formula.specs.Small.{IsSmallSequent}
use Rattle.fo_formula.proofs.Fine.{cases_few}
use Rattle.cyc_basics.proofs.Places.{at_index}
use Rattle.derivations.specs.Fair.{AllOccur}
use Rattle.fo_search.specs.Calculus.{OpenGoal, MadeNode, sequent_of}
use Rattle.fo_search.specs.Occurring.{MayOccur}

module _ (t : FoTheory) (nodes : List MadeNode) (g : OpenGoal) (occur : AllOccur (MayOccur t) nodes g) where
  pub small_node : (v : ℕ) (m : MadeNode) → slice_get nodes v ≡ Some m → IsSmallSequent (sequent_of m)
  small_node v m at = (occur.made v m at).1.0

  pub small_at : (v : ℕ) (m : MadeNode) → v < length nodes → m ≡ get_or nodes v m → IsSmallSequent (sequent_of m)
  small_at v m within is = small_node v m (at_index nodes v m m within (sym is))

  -- a predicate has few cases
  pub few_cases : (p : ℕ) → length (cases_of t.definitions p) ≤ 65536
  few_cases p = let few = cases_few t.definitions occur.goal.0.small p in omega (arith, few)
