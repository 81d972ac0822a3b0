use Rattle.sat_pairs.proofs.orders.cost_of_terms.Goals as goal

pub returns : goal.returns
returns c =
    let a = c.count_new-new.ensures in
    let b = c.count_needed-needed.ensures in
    λ i. (a i, b i)
