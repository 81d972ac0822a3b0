-- The pairs of a link without a fault fit a byte.
use Rattle.std.proofs.Common.{◌≡◌, ℕ, ◌<◌, ◌≤◌, List, [], ◌∷◌, length, None, arith}
use Rattle.std.proofs.lemmas.Option.{slice_get_within}
use Rattle.cyc_basics.specs.declared.limits.TheConstants.{MOST_SPATIAL}
use Rattle.heap_formula.specs.declared.atoms.Spatial.{Spatial}
use Rattle.heap_formula.specs.declared.atoms.Spatial.TheVariants.{Pred}
use Rattle.heap_formula.specs.declared.judgements.Judgement.{Judgement}
use Rattle.heap_formula.specs.declared.judgements.Pair.{Pair}
use Rattle.heap_formula.specs.declared.proof_rules.Link.{Link}
use Rattle.heap_formula.specs.Judgements.{antecedent}
use Rattle.heap_formula.specs.Words.{Each}
use Rattle.rule_table.specs.Fits.{PairsFit}
use Rattle.rule_table.specs.LinkTable.{link_fault, link_premise}
use Rattle.rule_table.proofs.AllFit.{link_fits}

fitting_below : (olds news : List Spatial) (pairs : List Pair) → length olds ≤ MOST_SPATIAL → PairsFit olds news pairs
    → Each (λ (p : Pair). p.old < 256) pairs
fitting_below olds news [] few fit = tt
fitting_below olds news (p ∷ ps) few fit =
    let at = fit.0.0 in
    let within = slice_get_within olds p.old (Pred at.0 at.1) at.2 in
    (omega arith, fitting_below olds news ps few fit.1)

pub link_pairs_small : (bud companion : Judgement) (link : Link) (p : ℕ)
    → length (antecedent bud).spatial ≤ MOST_SPATIAL
    → link_fault bud companion link p ≡ None → Each (λ (p : Pair). p.old < 256) (link_premise companion link).pairs
link_pairs_small bud companion link p few none =
    fitting_below (antecedent bud).spatial (antecedent companion).spatial (link_premise companion link).pairs few
    (link_fits bud companion link p none)
