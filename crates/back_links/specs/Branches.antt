-- The links that begin with choices that are made.
use Rattle.std.specs.Prelude.{ℕ, List, [], ◌∷◌, ◌++◌}
use Rattle.std.specs.List.{filter, flat_map}
use Rattle.std.specs.Option.{is_none}
use Rattle.heap_formula.specs.declared.terms.Term.{Term}
use Rattle.heap_formula.specs.declared.judgements.Judgement.{Judgement}
use Rattle.heap_formula.specs.declared.proof_rules.Link.{Link}
use Rattle.heap_formula.specs.Substitution.{Bindings}
use Rattle.rule_table.specs.Answer.{disjuncts}
use Rattle.rule_table.specs.LinkTable.{link_fault}
use Rattle.back_links.specs.Listing.{selections, number_choices, value_choices, link_of}

-- what f gives of the choices that go on from those made
abbrev pub below : {X Y : Type 0} → (List X → List Y) → List X → List (List X) → List Y
below f made rest = flat_map (λ xs. f (made ++ xs)) (selections rest)

-- the link, if it has no fault
abbrev pub if_right : Judgement → Judgement → ℕ → Link → List Link
if_right bud companion p link = filter (λ l. is_none (link_fault bud companion l p)) (link ∷ [])

-- the map and the substitution are made
abbrev pub by_entries : Judgement → Judgement → ℕ → ℕ → List ℕ → Bindings → List ℕ → List (List ℕ) → List Link
by_entries bud companion target p places s entries rest =
    below (λ ks. if_right bud companion p (link_of target places s ks)) entries rest

-- the map is made
abbrev pub by_pairs : Judgement → Judgement → ℕ → ℕ → List ℕ → Bindings → List Bindings → List Link
by_pairs bud companion target p places s rest =
    below (λ t. by_entries bud companion target p places t [] (number_choices (disjuncts bud) (disjuncts companion)))
    s rest

-- nothing but the first places of the map is made
abbrev pub by_places : Judgement → Judgement → ℕ → ℕ → List Term → List ℕ → List ℕ → List (List ℕ) → List Link
by_places bud companion target p values sources places rest =
    below (λ ms. by_pairs bud companion target p ms [] (value_choices values sources)) places rest
