-- Rules that leave premises may be left out where none fits.
use Rattle.std.proofs.Common.{◌≡◌, ℕ, ◌≤◌, Bool, true, false, cond, ◌||◌, List, [], ◌∷◌, map, Some, None, length, refl}
use Rattle.std.proofs.Common.{sym, ap, ◌∙◌, arith}
use Rattle.std.specs.Prelude.{Ok, Err}
use Rattle.std.specs.List.{filter}
use Rattle.heap_formula.specs.declared.judgements.Judgement.{Judgement}
use Rattle.heap_formula.specs.declared.proof_rules.Reason.{Reason}
use Rattle.heap_formula.specs.declared.proof_rules.Reason.TheVariants.{Step, Back}
use Rattle.heap_formula.specs.declared.proof_rules.Rule.{Rule}
use Rattle.rule_table.specs.Answer.{Answer}
use Rattle.rule_table.specs.RuleBook.{rule_answer}
use Rattle.rule_book.specs.SeparationLogic.{traced, traced_answer}
use Rattle.logics.specs.declared.premises.Subgoal.{Subgoal}
use Rattle.derivations.specs.Calculus.{answered}
use Rattle.derivations.specs.Effects.{LeavesOut}
use Rattle.search_moves.specs.Closing.{has_no_premise, closes, CloseAlike, IsPart}
use Rattle.search_moves.specs.Nodes.{OpenGoal, MadeNode}
use Rattle.search_moves.specs.Offering.{rules_offered}
use Rattle.search_moves.specs.Trying.{Theory}
use Rattle.proof_search.specs.Calculus.{rules_at, calculus_of}

-- ---- lists

fewer : {X : Type 0} (p q : X → Bool) (xs : List X) → length (filter p (filter q xs)) ≤ length (filter p xs)
fewer p q [] = omega arith
fewer {X} p q (x ∷ xs) = by (q x) (p x) refl refl (fewer p q xs)
  where
    by : (b c : Bool) → q x ≡ b → p x ≡ c → length (filter p (filter q xs)) ≤ length (filter p xs) →
        length (filter p (cond (q x) (x ∷ filter q xs) (filter q xs)))
        ≤ length (cond (p x) (x ∷ filter p xs) (filter p xs))
    by true true is_q is_p rest = rw (is_q, is_p) (omega (arith, rest))
    by true false is_q is_p rest = rw (is_q, is_p) rest
    by false true is_q is_p rest = rw (is_q, is_p) (omega (arith, rest))
    by false false is_q is_p rest = rw (is_q, is_p) rest

cut_head : {X : Type 0} (x : X) (xs ys : List X) → x ∷ xs ≡ x ∷ ys → xs ≡ ys
cut_head x xs ys e = cc

-- where a filter leaves out no member that closes, those that close may be told with it
with_closing : {X : Type 0} (closing kept : X → Bool) (xs : List X)
    → filter closing (filter kept xs) ≡ filter closing xs → filter (λ x. kept x || closing x) xs ≡ filter kept xs
with_closing closing kept [] e = refl
with_closing {X} closing kept (x ∷ xs) e = by (kept x) (closing x) refl refl e (with_closing closing kept xs)
  where
    by : (b c : Bool) → kept x ≡ b → closing x ≡ c →
        filter closing (cond (kept x) (x ∷ filter kept xs) (filter kept xs))
        ≡ cond (closing x) (x ∷ filter closing xs) (filter closing xs)
        → (filter closing (filter kept xs) ≡ filter closing xs
        → filter (λ y. kept y || closing y) xs ≡ filter kept xs) →
        cond (kept x || closing x) (x ∷ filter (λ y. kept y || closing y) xs) (filter (λ y. kept y || closing y) xs)
        ≡ cond (kept x) (x ∷ filter kept xs) (filter kept xs)
    by true true is_kept closes e rest =
        let same : x ∷ filter closing (filter kept xs) ≡ x ∷ filter closing xs = rw (is_kept, closes) at e in
        rw is_kept (ap (λ (ys : List X). x ∷ ys) (rest (cut_head x _ _ same)))
    by true false is_kept closes e rest =
        let same : filter closing (filter kept xs) ≡ filter closing xs = rw (is_kept, closes) at e in
        rw is_kept (ap (λ (ys : List X). x ∷ ys) (rest same))
    by false true is_kept closes e rest =
        let same : filter closing (filter kept xs) ≡ x ∷ filter closing xs = rw (is_kept, closes) at e in
        absurd (omega (arith, ap length same, fewer closing kept xs))
    by false false is_kept closes e rest =
        let same : filter closing (filter kept xs) ≡ filter closing xs = rw (is_kept, closes) at e in
        rw (is_kept, closes) (rest same)

-- ---- reasons

-- the rules that are kept, and all links
abbrev keeps_by : (Rule → Bool) → Reason → Bool
keeps_by k (Step rule) = k rule
keeps_by k (Back link) = true

kept_rules : (k : Rule → Bool) (rules : List Rule) → map Step (filter k rules) ≡ filter (keeps_by k) (map Step rules)
kept_rules k [] = refl
kept_rules k (r ∷ rules) = branch (k r) (kept_rules k rules)
  where
    branch : (b : Bool) → map Step (filter k rules) ≡ filter (keeps_by k) (map Step rules)
        → map Step (cond b (r ∷ filter k rules) (filter k rules))
        ≡ cond b (Step r ∷ filter (keeps_by k) (map Step rules)) (filter (keeps_by k) (map Step rules))
    branch true rest = ap (λ (rs : List Reason). Step r ∷ rs) rest
    branch false rest = rest

-- an answer without premises
none_left : (a : Answer) (ps : List (Subgoal Judgement)) → answered (traced_answer a) ≡ Some ps → length ps ≤ 0
    → has_no_premise a ≡ true
none_left (Err f) ps e few = absurd (let e' : None ≡ Some ps = e in cc)
none_left (Ok []) ps e few = refl
none_left (Ok (q ∷ qs)) ps e few =
    let e' : Some (traced q ∷ map traced qs) ≡ Some ps = e in
    let same : traced q ∷ map traced qs ≡ ps = cc in
    absurd (omega (arith, ap length same, few))

either_true : (b c : Bool) → c ≡ true → b || c ≡ true
either_true true c e = refl
either_true false c e = e

-- these are what is offered but for rules that leave premises
pub closing_left : (t : Theory) (nodes : List MadeNode) (g : OpenGoal) (most : ℕ) (rules : List Rule)
    (these : List Reason) → most ≤ 0 → these ≡ map Step rules
    → CloseAlike t g.premise.judgement rules (rules_offered t nodes g) → IsPart rules (rules_offered t nodes g)
    → LeavesOut (calculus_of t) nodes g most (rules_at t nodes g) these
closing_left t nodes g most rules these none is alike part = record {
  keeps = keeps_by either;
  are = is ∙ ap (map Step) (part.1 ∙ sym (with_closing (closes t g.premise.judgement) part.0 (rules_offered t nodes g)
      (ap (filter (closes t g.premise.judgement)) (sym part.1) ∙ alike)))
      ∙ kept_rules either (rules_offered t nodes g);
  few = few;
}
  where
    either : Rule → Bool
    either r = part.0 r || closes t g.premise.judgement r

    few : (r : Reason) (ps : List (Subgoal Judgement)) → (calculus_of t).premises nodes g r ≡ Some ps
        → length ps ≤ most → keeps_by either r ≡ true
    few (Step rule) ps e less = either_true (part.0 rule) _ (none_left (rule_answer t.most t.definitions t.lines
        g.premise.judgement rule) ps e (omega (arith, less, none)))
    few (Back link) ps e less = refl
