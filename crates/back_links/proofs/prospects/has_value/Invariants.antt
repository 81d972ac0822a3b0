use Rattle.std.proofs.Common.{◌≡◌, [], ◌∷◌, drop}
use Rattle.std.specs.List.{list_any}
use Rattle.back_links.specs.Prospects.{could_send}
use Rattle.back_links.proofs.prospects.has_value.Given as goal

abbrev pub invariant-loop-v : goal.invariant-loop-v
invariant-loop-v l = list_any (λ v. could_send l.search.bud.now l.search.companion.now l.search.variables l.places
    ((l.n, v) ∷ []) l.n) (drop l.v-index l.search.values.now)
    ≡ list_any (λ v. could_send l.search.bud.now l.search.companion.now l.search.variables l.places ((l.n, v) ∷ []) l.n)
    l.search.values.now
