use Rattle.std.proofs.Common.{◌≡◌, ℕ, suc, ◌+◌, ◌<◌, List, ◌∷◌, [], ◌++◌, append_assoc, add-one, drop, get_or, length}
use Rattle.std.proofs.Common.{refl, sym, ap, ◌∙◌}
use Rattle.std.proofs.lemmas.List.{at_drop_more}
use Rattle.model_check.specs.declared.known.ValueStep.TheVariants.{Field}
use Rattle.model_check.specs.Steps.{field_steps}
use Rattle.model_check.proofs.known.push_field_steps.Goals as goal

-- one more member, which is made with its place
placed : {X Y : Type 0} (F : ℕ → List X → List Y) (one : ℕ → X → Y) (xs : List X) (k : ℕ) (d : X)
    (old new whole : List Y) → ((n : ℕ) (x : X) (ys : List X) → F n (x ∷ ys) ≡ one n x ∷ F (suc n) ys) → k < length xs
    → new ≡ old ++ one k (get_or xs k d) ∷ [] → old ++ F k (drop k xs) ≡ whole
    → new ++ F (k + 1) (drop (k + 1) xs) ≡ whole
placed F one xs k d old new whole step l e was =
    let x = get_or xs k d in
    let rest = drop (k + 1) xs in
    ap (λ ys. ys ++ F (k + 1) rest) e ∙ append_assoc old (one k x ∷ []) (F (k + 1) rest)
    ∙ ap (λ n. old ++ one k x ∷ F n rest) (add-one k) ∙ ap (λ ys. old ++ ys)
    (sym (at_drop_more (F k) xs k d l ∙ step k x rest)) ∙ was

pub loop-k-preserved : goal.loop-k-preserved
loop-k-preserved c =
    placed (field_steps c.args.address) (λ n t. Field c.args.address n t)
    c.args.fields.now c.loop-k.k _ c.loop-k.steps.items c.push.new.self.items _ (λ n x ys. refl)
    c.loop-k-test.true c.in_ok-push.ensures.items c.loop-k.invariant
