-- Inclusions of regular expressions as a logic: what a step leaves to be shown, and along which pairs.
use Rattle.std.specs.Prelude.{true, if◌then◌else◌, List, [], ◌∷◌, Result, Ok, Err}
use Rattle.trace_pairs.specs.Graph.{Pair}
use Rattle.logics.specs.declared.premises.Subgoal.{Subgoal}
use Rattle.rule_logics.specs.Rules.{RuleValue}
use Rattle.rule_logics.specs.Moved.{moved}
use Rattle.word_inclusions.specs.declared.logic.WordRule.{WordRule}
use Rattle.word_inclusions.specs.declared.logic.WordRule.TheVariants.{Step}
use Rattle.word_inclusions.specs.declared.logic.WordFault.{WordFault}
use Rattle.word_inclusions.specs.declared.logic.WordFault.TheVariants.{NoEmptyWord}
use Rattle.word_inclusions.specs.Expressions.{Expression, Zero, One, Letter, Sum, Product, Star, nullable, derivative}
use Rattle.word_inclusions.specs.Expressions.{Sides, sides, same_sides, is_star_at}

-- the first factor goes
abbrev pub without : Expression → Expression → List (Subgoal Sides)
without k r = record { judgement = sides k r; pairs = moved 32 0 1 0 } ∷ []

-- a factor in place of the first, along these pairs
abbrev pub put_before : Expression → Expression → Expression → List Pair → Subgoal Sides
put_before e k r pairs = record { judgement = sides (Product e k) r; pairs = pairs }

-- the pairs of a star that is kept behind its own expression: it is one turn shorter
abbrev pub kept_star : List Pair
kept_star = (0, 1, true) ∷ moved 32 0 1 2

-- what the first factor leaves to be shown, with those behind it
abbrev pub unfolded : Expression → Expression → Expression → List (Subgoal Sides)
unfolded Zero k r = []
unfolded One k r = without k r
unfolded (Letter a) k r = without k (derivative a r)
unfolded (Sum e f) k r = put_before e k r (moved 32 0 1 1) ∷ put_before f k r (moved 32 0 1 1) ∷ []
unfolded (Product e f) k r = put_before e (Product f k) r (moved 32 0 1 2) ∷ []
unfolded (Star e) k r = record { judgement = sides k r; pairs = moved 32 0 1 0 }
    ∷ put_before e (Product (Star e) k) r kept_star ∷ []

-- where no factor is left, the right side has the empty word
abbrev pub step : Expression → Expression → Result (List (Subgoal Sides)) WordFault
step One r = if nullable r then Ok [] else Err NoEmptyWord
step (Product e k) r = Ok (unfolded e k r)
step e r = Ok (unfolded e One r)

-- the logic; traces follow the places of stars
abbrev pub word_rules : RuleValue Sides WordRule WordFault
word_rules = record {
  follows = λ s. is_star_at s.left;
  same = same_sides;
  premises = λ s r. step s.left s.right;
  offers = λ s. Step ∷ [];
}
