-- Rules that leave few premises are told.
use Rattle.std.proofs.Common.{◌≡◌, ℕ, suc, ◌≤◌, Bool, true, false, cond, List, [], ◌∷◌, map, Some, None, length, refl}
use Rattle.std.proofs.Common.{sym, ap, subst, ◌∙◌, arith, inr}
use Rattle.std.specs.Prelude.{Result, Ok, Err, IfOk, is_ok}
use Rattle.std.specs.List.{filter}
use Rattle.std.proofs.lemmas.Bool.Decides.{nat_tests}
use Rattle.std.proofs.lemmas.List.{length-map}
use Rattle.heap_formula.proofs.AllMembers.{each_at}
use Rattle.fo_formula.specs.declared.nodes.FoReason.{FoReason}
use Rattle.fo_formula.specs.declared.nodes.FoReason.TheVariants.{Rule, Link}
use Rattle.fo_formula.specs.declared.nodes.FoRule.{FoRule}
use Rattle.fo_formula.specs.declared.sequents.FoSequent.{FoSequent}
use Rattle.fo_formula.specs.declared.theory.FoTheory.{FoTheory}
use Rattle.fo_formula.specs.Answers.{Answer}
use Rattle.fo_formula.specs.Table.{rule_answer}
use Rattle.fo_logic.specs.Limits.{IsReasonWithin}
use Rattle.fo_search.specs.Before.{rules_before}
use Rattle.fo_search.specs.After.{rules_after}
use Rattle.fo_search.specs.Trying.{is_applicable, has_few, is_applicable_within}
use Rattle.fo_search.proofs.Lists.{each_else}
use Rattle.fo_search.proofs.Offered.{before_goes, after_goes}
use Rattle.fo_logic.specs.FirstOrder.{traced, traced_answer}
use Rattle.proof_graph.proofs.Joined.{mapped_at}
use Rattle.cyc_basics.specs.Words.{or_else}
use Rattle.derivations.specs.Firsts.{IsIn}
use Rattle.logics.specs.declared.premises.Subgoal.{Subgoal}
use Rattle.derivations.specs.Fair.{AllOccur}
use Rattle.derivations.specs.Calculus.{answered}
use Rattle.derivations.specs.Effects.{LeavesOut}
use Rattle.fo_search.specs.Calculus.{OpenGoal, MadeNode, rules_at, calculus_of}
use Rattle.fo_search.specs.Occurring.{MayOccur}
use Rattle.fo_search.proofs.Fairness.{first_order_fair}

-- what follows of an answer that is there
pub of_answer : {X F : Type 0} (r : Result X F) (P Q : X → Type 0) → ((x : X) → P x → Q x) → IfOk r P → IfOk r Q
of_answer (Ok x) P Q f p = f x p
of_answer (Err e) P Q f p = tt

-- ---- those that leave few premises

abbrev keeps : ℕ → FoTheory → FoSequent → FoReason → Bool
keeps most t s (Rule rule) = is_applicable_within most t s rule
keeps most t s (Link link) = true

answer_few : (most : ℕ) (a : Answer) (ps : List (Subgoal FoSequent)) → answered (traced_answer a) ≡ Some ps
    → length ps ≤ most → has_few most a ≡ true
answer_few most (Err fault) ps e few = absurd (let e' : None ≡ Some ps = e in cc)
answer_few most (Ok these) ps e few =
    let same : map traced these ≡ ps = (let e' : Some (map traced these) ≡ Some ps = e in cc) in
    let long : length these ≤ most = omega (arith, few, length-map these traced, ap length same) in
    grind (arith, nat_tests, long)

kept_rules : (most : ℕ) (t : FoTheory) (s : FoSequent) (rules : List FoRule)
    → map Rule (filter (is_applicable_within most t s) rules) ≡ filter (keeps most t s) (map Rule rules)
kept_rules most t s [] = refl
kept_rules most t s (r ∷ rules) = branch (is_applicable_within most t s r) (kept_rules most t s rules)
  where
    branch : (b : Bool) → map Rule (filter (is_applicable_within most t s) rules)
        ≡ filter (keeps most t s) (map Rule rules) →
        map Rule (cond b (r ∷ filter (is_applicable_within most t s) rules)
        (filter (is_applicable_within most t s) rules)) ≡ cond b (Rule r ∷ filter (keeps most t s) (map Rule rules))
        (filter (keeps most t s) (map Rule rules))
    branch true rest = ap (λ (rs : List FoReason). Rule r ∷ rs) rest
    branch false rest = rest

module _ (t : FoTheory) (nodes : List MadeNode) (g : OpenGoal) where
  -- the rules that come where no link is admitted
  pub after_few : (most : ℕ) → rules_before t g.premise.judgement ≡ [] →
      LeavesOut (calculus_of t) nodes g most (rules_at t nodes g)
      (map Rule (filter (is_applicable_within most t g.premise.judgement) (rules_after t g.premise.judgement)))
  after_few most none =
      let s = g.premise.judgement in
      record {
        keeps = keeps most t s;
        are = kept_rules most t s (rules_after t s)
            ∙ ap (λ (bs : List FoRule). filter (keeps most t s) (map Rule (or_else bs (rules_after t s)))) (sym none);
        few = few;
      }
    where
      few : (r : FoReason) (ps : List (Subgoal FoSequent)) → (calculus_of t).premises nodes g r ≡ Some ps
          → length ps ≤ most → keeps most t g.premise.judgement r ≡ true
      few (Rule rule) ps e less = answer_few most (rule_answer t g.premise.judgement rule) ps e less
      few (Link link) ps e less = refl

  -- the rules that go before links
  pub before_are : (rules : List FoRule) → rules ≡ rules_before t g.premise.judgement → (rules ≡ [] → ⊥)
      → map Rule rules ≡ rules_at t nodes g
  before_are [] e some = absurd (some refl)
  before_are (r ∷ rules) e some = ap (λ (bs : List FoRule). map Rule (or_else bs (rules_after t g.premise.judgement))) e

  -- ---- all rules

  abbrev s : FoSequent
  s = g.premise.judgement

  abbrev rules : List FoRule
  rules = or_else (rules_before t s) (rules_after t s)

  each_in : {X : Type 0} (keep : X → Bool) (xs : List X) → ((x : X) → IsIn xs x → keep x ≡ true) → filter keep xs ≡ xs
  each_in keep [] h = refl
  each_in {X} keep (x ∷ xs) h =
      ap (λ b. cond b (x ∷ filter keep xs) (filter keep xs)) (h x (record { place = 0; at = refl }))
      ∙ ap (λ (ys : List X). x ∷ ys) (each_in keep xs (λ y is. h y (record { place = suc is.place; at = is.at })))

  pub all_few : (most : ℕ) (these : List FoReason) → AllOccur (MayOccur t) nodes g → 256 ≤ most
      → LeavesOut (calculus_of t) nodes g most (rules_at t nodes g) these → these ≡ rules_at t nodes g
  all_few most these occur many out = out.are ∙ each_in out.keeps (rules_at t nodes g) kept
    where
      by : (rule : FoRule) → IsReasonWithin t (Rule rule) → (a : Answer) → rule_answer t s rule ≡ a → is_ok a ≡ true
          → out.keeps (Rule rule) ≡ true
      by rule within (Err fault) e ok = absurd cc
      by rule within (Ok ps) e ok =
          let is = ap (λ (a : Answer). answered (traced_answer a)) e in
          let few = ((first_order_fair t).premises nodes g (Rule rule) (map traced ps) occur within is).few in
          out.few (Rule rule) (map traced ps) is (omega (arith, few, many))

      kept : (r : FoReason) → IsIn (rules_at t nodes g) r → out.keeps r ≡ true
      kept r is =
          let m = mapped_at Rule rules is.place r is.at in
          let is_applicable' = each_at (λ (rule : FoRule). is_applicable t s rule ≡ true) rules is.place m.from m.at
          (each_else (λ (rule : FoRule). is_applicable t s rule ≡ true) (rules_before t s) (rules_after t s)
          (before_goes t s) (after_goes t s)) in
          let within = subst (IsReasonWithin t) (sym m.is) ((first_order_fair t).offers nodes g r occur (inr is)) in
          subst (λ (x : FoReason). out.keeps x ≡ true) m.is
          (by m.from within (rule_answer t s m.from) refl is_applicable')
