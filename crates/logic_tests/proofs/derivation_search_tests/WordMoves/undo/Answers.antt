use Rattle.std.proofs.Common.{List, [], ◌∷◌, ◌≡◌, ◌++◌, ◌-◌, Option, None, Some, length, take, arith, sym, ap, subst}
use Rattle.std.proofs.Common.{◌∙◌}
use Rattle.std.specs.Option.{option_to_list}
use Rattle.std.proofs.lemmas.List.{append-nil, length-take}
use Rattle.derivations.specs.Stack.{front}
use Rattle.derivations.proofs.Members.{front-after}
use Rattle.logic_tests.proofs.derivation_search_tests.WordMoves.undo.Goals as goal

without_last : {X : Type 0} (old new : List X) (last : Option X) → old ≡ new ++ option_to_list last
    → new ≡ take (length old - 1) old → new ≡ front old
without_last [] new None is rest = rest
without_last (x ∷ xs) new None is rest =
    absurd (let same : x ∷ xs ≡ take (length (x ∷ xs) - 1) (x ∷ xs) = is ∙ (append-nil new ∙ rest) in
    let none : length (x ∷ xs) ≡ 0 = omega (arith, ap length same, length-take (length (x ∷ xs) - 1) (x ∷ xs)) in
    omega (arith, none))
without_last old new (Some x) is rest = sym (ap front is ∙ front-after new x)

pub returns-clause-made : goal.returns-clause-made
returns-clause-made c =
    without_last c.args.self.now.made.items c.pop.new.self.items c.pop.result c.pop.ensures.items
    (subst (λ n. c.pop.new.self.items ≡ take (n - 1) c.args.self.now.made.items)
    c.args.self.now.made.ok.0 c.pop.ensures.rest)
