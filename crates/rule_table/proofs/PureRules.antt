-- Rules that change the pure atoms alone are sound.
use Rattle.std.proofs.Common.{◌≡◌, ℕ, Bool, true, false, List, [], ◌∷◌, ◌++◌, refl}
use Rattle.std.specs.Prelude.{nat_eq}
use Rattle.std.proofs.lemmas.Bool.Decides.{Decides-eqb}
use Rattle.heap_formula.specs.declared.terms.Term.{Term}
use Rattle.heap_formula.specs.declared.atoms.Pure.{Pure}
use Rattle.heap_formula.specs.declared.atoms.Pure.TheVariants.{Eq, Neq}
use Rattle.heap_formula.specs.declared.commands.Command.{Command}
use Rattle.heap_formula.specs.declared.judgements.Judgement.{Judgement}
use Rattle.heap_formula.specs.declared.judgements.Judgement.TheVariants.{Entail, Term as Runs}
use Rattle.heap_formula.specs.Symbolic.{SymbolicHeap}
use Rattle.heap_formula.specs.Definitions.{Definition}
use Rattle.heap_formula.specs.Words.{Each}
use Rattle.heap_formula.specs.Values.{Stack, value}
use Rattle.heap_formula.specs.Cells.{Cells}
use Rattle.heap_formula.specs.Meaning.{PureHolds, Stages, SatisfiesAt}
use Rattle.heap_formula.specs.Judgements.{Concludes, PremiseHolds, IsLocallySound, antecedent, with_antecedent}
use Rattle.heap_formula.specs.Positions.{without}
use Rattle.rule_table.proofs.Frames.{pairs_follow}
use Rattle.rule_table.proofs.Rewrites.{Each-without}
use Rattle.rule_table.proofs.Conclusions.{use_premise}
use Rattle.heap_formula.proofs.AllMembers.{each_append}
use Rattle.rule_table.specs.Table.{with_pures}

-- the conclusion does not speak of the antecedent
pub same_conclusion : (ds : List Definition) (lines : List Command) (j : Judgement) (a : SymbolicHeap) (s : Stack)
    (h : Cells) → Concludes ds lines (with_antecedent j a) s h → Concludes ds lines j s h
same_conclusion ds lines (Entail b bs) a s h c = c
same_conclusion ds lines (Runs i b) a s h c = c

-- a state that satisfies the antecedent and the new pure atoms is claimed by the premise
pub by_pures : (ds : List Definition) (lines : List Command) (j : Judgement) (xs : List Pure) (stages : Stages)
    → PremiseHolds ds lines stages (with_pures j xs) → (s : Stack) (h : Cells)
    (o : SatisfiesAt ds stages s h (antecedent j)) → Each (PureHolds s o.0) xs → Concludes ds lines j s h
by_pures ds lines j xs stages premise s h o pures =
    let a : SymbolicHeap = record { pure = xs; spatial = (antecedent j).spatial } in
    same_conclusion ds lines j a s h (use_premise ds lines stages j a
    (premise stages (pairs_follow (λ k. k) stages 0 (antecedent j).spatial)) s h (o.0, (pures, o.1.1)))

pub weaken_sound : (ds : List Definition) (lines : List Command) (j : Judgement) (k : ℕ)
    → IsLocallySound ds lines j (with_pures j (without k (antecedent j).pure) ∷ [])
weaken_sound ds lines j k stages premises s h o =
    by_pures ds lines j (without k (antecedent j).pure) stages premises.0 s h o
    (Each-without (PureHolds s o.0) (antecedent j).pure k o.1.0)

pub split_sound : (ds : List Definition) (lines : List Command) (j : Judgement) (t u : Term)
    → IsLocallySound ds lines j (with_pures j ((antecedent j).pure ++ Eq t u ∷ [])
    ∷ with_pures j ((antecedent j).pure ++ Neq t u ∷ []) ∷ [])
split_sound ds lines j t u stages premises s h o = by (nat_eq (value s o.0 t) (value s o.0 u)) refl
  where
    by : (b : Bool) → nat_eq (value s o.0 t) (value s o.0 u) ≡ b → Concludes ds lines j s h
    by true q =
        by_pures ds lines j ((antecedent j).pure ++ Eq t u ∷ []) stages premises.0 s h o
        (each_append (PureHolds s o.0) (antecedent j).pure (Eq t u ∷ []) o.1.0 ((Decides-eqb _ _).0 q, tt))
    by false q =
        by_pures ds lines j ((antecedent j).pure ++ Neq t u ∷ []) stages premises.1.0 s h o
        (each_append (PureHolds s o.0) (antecedent j).pure (Neq t u ∷ []) o.1.0
        ((λ e. let d = (Decides-eqb _ _).1 e in cc), tt))
