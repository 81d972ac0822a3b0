use Rattle.std.proofs.Common.{◌≡◌, ◌++◌, ◌∷◌, [], map, drop}
use Rattle.general_models.proofs.stacks.push_each.Given as goal

abbrev pub invariant-loop-value : goal.invariant-loop-value
invariant-loop-value l = l.stacks.items ++ map (λ v. l.values ++ v ∷ []) (drop l.value-index l.range)
    ≡ l.initial.stacks.items ++ map (λ v. l.values ++ v ∷ []) l.range
