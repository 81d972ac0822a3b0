-- Rewrite by an existential of the antecedent is unsound: the right side has existentials of its own.
use Rattle.std.proofs.Common.{◌≡◌, ℕ, [], ◌∷◌, refl, inl, inr}
use Rattle.heap_formula.specs.declared.terms.Term.TheVariants.{Nil, Univ, Exist}
use Rattle.heap_formula.specs.declared.atoms.Pure.TheVariants.{Eq}
use Rattle.heap_formula.specs.declared.judgements.Judgement.{Judgement}
use Rattle.heap_formula.specs.declared.judgements.Judgement.TheVariants.{Entail}
use Rattle.heap_formula.specs.Cells.{no_cells}
use Rattle.heap_formula.specs.Judgements.{IsLocallySound}
use Rattle.rule_table.specs.Answer.{one}
use Rattle.rule_table.specs.Table.{rewritten}

-- $0 = ?0 : emp |- $0 = nil : emp
abbrev claim : Judgement
claim =
    Entail (record { pure = Eq (Univ 0) (Exist 0) ∷ []; spatial = [] })
    (record { pure = Eq (Univ 0) Nil ∷ []; spatial = [] } ∷ [])

pub rewrite_needs_universals : IsLocallySound [] [] claim
    (one (rewritten 0 claim 0 (Eq (Univ 0) (Exist 0)) 0 (Exist 0))) → ⊥
rewrite_needs_universals sound =
    elim (sound (λ _. 0) ((λ below follows s h o. inl ((λ _. 0), (0 ∷ [], ((refl, tt), o.1.1)))), tt) (1 ∷ []) no_cells
    (1 ∷ [], ((refl, tt), refl))) [
      | inl t ↦ let e : ◌≡◌ {A = ℕ} 1 0 = t.1.1.0.0 in cc
      | inr bad ↦ bad
    ]
