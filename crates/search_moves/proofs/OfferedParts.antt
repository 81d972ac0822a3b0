-- Rules that are some of those that are offered.
use Rattle.std.proofs.Common.{◌≡◌, ℕ, Bool, true, false, List, [], ◌∷◌, length, refl, sym, ap, ◌∙◌}
use Rattle.std.specs.Prelude.{if◌then◌else◌, ◌==◌}
use Rattle.std.specs.List.{filter}
use Rattle.std.proofs.lemmas.Bool.{both_ways}
use Rattle.heap_formula.specs.declared.atoms.Pure.{Pure}
use Rattle.heap_formula.specs.declared.atoms.Spatial.{Spatial}
use Rattle.heap_formula.specs.declared.judgements.Judgement.{Judgement}
use Rattle.heap_formula.specs.declared.judgements.Judgement.TheVariants.{Entail, Term as Runs}
use Rattle.heap_formula.specs.declared.proof_rules.Rule.{Rule}
use Rattle.heap_formula.specs.declared.proof_rules.Rule.TheVariants.{Absurd, Done}
use Rattle.rule_table.specs.Table.{are_empty}
use Rattle.search_moves.specs.Nodes.{OpenGoal, MadeNode}
use Rattle.heap_formula.specs.Programs.{program_variables}
use Rattle.search_moves.specs.Places.{first_line}
use Rattle.cyc_basics.specs.Words.{or_else}
use Rattle.search_moves.specs.Entailments.{rewrites}
use Rattle.search_moves.specs.States.{stops_that_go, state_rewrites}
use Rattle.search_moves.specs.Trying.{Theory, has_premises, is_applicable}
use Rattle.search_moves.specs.Offering.{rules_before, rules_after, rules_offered}
use Rattle.search_moves.specs.Closing.{has_no_premise, closes, CloseAlike, IsPart, OffersPart}

all_kept : (rules : List Rule) → filter (λ r. true) rules ≡ rules
all_kept [] = refl
all_kept (r ∷ rules) = ap (λ rest. r ∷ rest) (all_kept rules)

-- all of them
pub whole_part : (rules offered : List Rule) → rules ≡ offered → IsPart rules offered
whole_part rules offered same = (λ r. true, same ∙ sym (all_kept offered))

-- where each of the rules closes, and the offered ones close alike: the closing ones of these
pub closing_part : (t : Theory) (j : Judgement) (rules part offered : List Rule) → rules ≡ part
    → filter (closes t j) part ≡ part → CloseAlike t j part offered → IsPart rules offered
closing_part t j rules part offered same all alike = (closes t j, same ∙ (sym all ∙ alike))

first_offered : (rules before after : List Rule) (n : ℕ) → rules ≡ before → n ≡ length rules → (n == 0) ≡ false
    → rules ≡ or_else before after
first_offered rules [] after n same long some = absurd
    (both_ways (n == 0) some (ap (λ k. k == 0) (long ∙ ap length same)))
first_offered rules (x ∷ xs) after n same long some = same

-- where Absurd has no fault
pub absurd_first : (t : Theory) (j : Judgement) (rules : List Rule) (n : ℕ)
    → rules ≡ filter (is_applicable t j) (Absurd ∷ []) → n ≡ length rules → (n == 0) ≡ false → rules ≡ rules_before t j
absurd_first t (Entail a bs) rules n same long some = first_offered rules
    (filter (is_applicable t (Entail a bs)) (Absurd ∷ [])) (first_line (rewrites a.pure ∷ [])) n same long some
absurd_first t (Runs i a) rules n same long some = first_offered rules
    (filter (is_applicable t (Runs i a)) (Absurd ∷ [])) (first_line
    (stops_that_go t (Runs i a) i ∷ state_rewrites (program_variables t.lines) a ∷ [])) n same long some

-- where some rule goes before links
pub before_part : (t : Theory) (nodes : List MadeNode) (g : OpenGoal) (rules : List Rule) (n : ℕ)
    → rules ≡ rules_before t g.premise.judgement → n ≡ length rules → (n == 0) ≡ false → OffersPart t nodes g rules
before_part t nodes g rules n same long some =
    let j = g.premise.judgement in
    whole_part rules (rules_offered t nodes g)
    (first_offered rules (rules_before t j) (rules_after t nodes g.parent j) n same long some)

-- ---- Done

empty_closes : (xs : List Spatial) (ps : List Pure) (ys : List Spatial)
    → has_no_premise (are_empty xs ps ys) ≡ has_premises (are_empty xs ps ys)
empty_closes [] [] [] = refl
empty_closes [] [] (y ∷ ys) = refl
empty_closes [] (p ∷ ps) ys = refl
empty_closes (x ∷ xs) ps ys = refl

-- where Done has no fault it leaves no premise
done_closes : (t : Theory) (j : Judgement) → closes t j Done ≡ is_applicable t j Done
done_closes t (Entail a []) = refl
done_closes t (Entail a (b ∷ [])) = empty_closes a.spatial b.pure b.spatial
done_closes t (Entail a (b ∷ c ∷ bs)) = refl
done_closes t (Runs i a) = refl

kept_again : (closing going : Rule → Bool) (r : Rule) → closing r ≡ going r
    → filter closing (filter going (r ∷ [])) ≡ filter going (r ∷ [])
kept_again closing going r same = by (going r) same
  where
    by : (b : Bool) → closing r ≡ b → filter closing (if b then r ∷ [] else []) ≡ (if b then r ∷ [] else [])
    by true e = rw e refl
    by false e = refl

pub done_kept : (t : Theory) (j : Judgement) → filter (closes t j) (filter (is_applicable t j) (Done ∷ []))
    ≡ filter (is_applicable t j) (Done ∷ [])
done_kept t j = kept_again (closes t j) (is_applicable t j) Done (done_closes t j)
