-- Local soundness of rules and links.
use Rattle.std.specs.Prelude.{ℕ, List, Ok, Err}
use Rattle.heap_formula.specs.Judgements.{Follows}
use Rattle.heap_formula.specs.Meaning.{Stages}
use Rattle.heap_formula.specs.Words.{Each}
use Rattle.fo_formula.specs.declared.nodes.FoRule.{FoRule}
use Rattle.fo_formula.specs.declared.nodes.FoRule.TheVariants.{Right}
use Rattle.fo_formula.specs.declared.nodes.FoReason.{FoReason}
use Rattle.fo_formula.specs.declared.nodes.FoReason.TheVariants.{Rule, Link}
use Rattle.fo_formula.specs.declared.nodes.FoLink.{FoLink}
use Rattle.fo_formula.specs.declared.sequents.FoSequent.{FoSequent}
use Rattle.fo_formula.specs.declared.theory.Constructor.{Constructor as ConstructorValue}
use Rattle.fo_formula.specs.declared.theory.FoTheory.{FoTheory}
use Rattle.fo_formula.specs.Words.{Word}
use Rattle.fo_formula.specs.Shapes.{IsOpenTerm}
use Rattle.fo_formula.specs.Validity.{HoldsAt}
use Rattle.fo_formula.specs.declared.table.premises.FoPremise.{FoPremise}
use Rattle.fo_formula.specs.Answers.{Answer}

-- a premise holds at all stages that follow these
abbrev pub PremiseHolds : FoTheory → Stages → FoPremise → Type 0
PremiseHolds t stages premise = (below : Stages) → Follows premise.pairs stages below → HoldsAt t below premise.sequent

-- at all stages the sequent holds if each premise holds at the stages that follow
abbrev pub IsLocallySound : FoTheory → FoSequent → List FoPremise → Type 0
IsLocallySound t s premises = (stages : Stages) → Each (PremiseHolds t stages) premises → HoldsAt t stages s

-- where the answer is premises, the sequent holds if they do
abbrev pub IsSound : FoTheory → FoSequent → Answer → Type 0
IsSound t s (Ok ps) = IsLocallySound t s ps
IsSound t s (Err f) = Unit {0}

-- the terms for the locals are terms over the constructors
abbrev pub HasOpenTerms : List ConstructorValue → FoRule → Type 0
HasOpenTerms cs (Right j c terms) = Each (IsOpenTerm cs) terms
HasOpenTerms cs _ = Unit {0}

-- and so are the values of the substitution
abbrev pub HasOpenValues : List ConstructorValue → FoLink → Type 0
HasOpenValues cs link = Each (λ (pair : ℕ × Word). IsOpenTerm cs pair.1) link.substitution

abbrev pub HasOpenReason : List ConstructorValue → FoReason → Type 0
HasOpenReason cs (Rule rule) = HasOpenTerms cs rule
HasOpenReason cs (Link link) = HasOpenValues cs link
