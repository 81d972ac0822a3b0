-- Where pairs lead from each position, as masks.
use Rattle.std.specs.Prelude.{ℕ, ◌≡◌, ◌<◌, Bool, ◌&&◌, List, [], ◌∷◌, get_or}
use Rattle.buchi_core.specs.Forest.{Pair, leads}
use Rattle.buchi_core.specs.declared.leads.Leads.{Leads}
use Rattle.cyc_basics.specs.Bits.{is_one}
use Rattle.cyc_basics.specs.declared.limits.TheConstants.{MOST_POSITIONS}

-- some pair leads from p, and its mask has q
abbrev pub leads_by : Leads → ℕ → ℕ → Bool
leads_by l p q = is_one l.sources p && is_one (get_or l.targets p 0) q

-- the masks have the positions that the pairs lead to
abbrev pub AreMoves : List Pair → Leads → Type 0
AreMoves pairs l = (p q : ℕ) → p < MOST_POSITIONS → q < MOST_POSITIONS → leads_by l p q ≡ leads pairs (p ∷ []) q
