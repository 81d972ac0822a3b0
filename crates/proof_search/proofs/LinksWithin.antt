-- The links that a goal within the limits is offered are within them, and lead to nodes before the goal.
use Rattle.std.proofs.Common.{◌≡◌, ℕ, ◌+◌, ◌<◌, ◌≤◌, List, [], ◌∷◌, map, length, take, Some, refl}
use Rattle.std.proofs.Common.{arith, Bool, true, false, if◌then◌else◌}
use Rattle.std.proofs.lemmas.Option.{slice_get_within}
use Rattle.std.specs.Prelude.{slice_get}
use Rattle.std.specs.List.{flat_map, range_with_len}
use Rattle.std.specs.Option.{is_none}
use Rattle.heap_formula.specs.declared.terms.Term.{Term}
use Rattle.heap_formula.specs.declared.terms.Term.TheVariants.{Univ}
use Rattle.heap_formula.specs.declared.judgements.Judgement.{Judgement}
use Rattle.heap_formula.specs.declared.proof_rules.Link.{Link}
use Rattle.heap_formula.specs.declared.proof_rules.Reason.TheVariants.{Back}
use Rattle.heap_formula.specs.Fresh.{judgement_bound}
use Rattle.heap_formula.specs.Substitution.{Bindings}
use Rattle.heap_formula.specs.Words.{Each}
use Rattle.rule_table.specs.LinkTable.{link_fault}
use Rattle.rule_table.specs.RuleBook.{variables_of, leaves_nothing}
use Rattle.back_links.specs.Listing.{stands_in, universals, selections, value_choices, values_of, maps, substitutions}
use Rattle.back_links.specs.Listing.{covers, link_of, links, candidates as choices_of}
use Rattle.search_moves.specs.Nodes.{OpenGoal, MadeNode, judgement_of}
use Rattle.search_moves.specs.Trying.{Theory}
use Rattle.search_moves.specs.Offering.{is_companion, links_to, whole_links, candidates, rules_before}
use Rattle.search_moves.specs.Offering.{links_offered}
use Rattle.rule_book.specs.Limits.{IsJudgementWithin, IsTermWithin, IsPairWithin, IsReasonWithin}
use Rattle.proof_search.proofs.Members.{each_if, each_filter, each_unless_some, each_flat_map, each_placed}
use Rattle.proof_search.proofs.HeapTerms.{judgement_below}
use Rattle.heap_formula.proofs.AllMembers.{each_any, each_imply, each_mapped, each_made, each_take, range_below}

-- ---- the universal variables of a judgement

universals_below : (j : Judgement) → judgement_bound j ≤ 65535 → Each (λ n. n ≤ 65534) (universals j)
universals_below j le =
    each_filter (λ n. n ≤ 65534) (λ n. stands_in n j) (range_with_len 0 (judgement_bound j))
    (each_imply (λ n. n < 0 + judgement_bound j) (λ n. n ≤ 65534) (λ n lt. omega arith)
    (range_with_len 0 (judgement_bound j)) (range_below 0 (judgement_bound j)))

values_within : (bud : Judgement) → judgement_bound bud ≤ 65535 → Each IsTermWithin (values_of bud)
values_within bud le = (
  (tt, omega arith),
  each_made Univ (λ n. n ≤ 65534) IsTermWithin (λ n h. (tt, omega arith)) (universals bud)
      (universals_below bud le),
)

-- ---- substitutions

selections_each : {X : Type 0} (P : X → Type 0) (lists : List (List X)) → Each (Each P) lists
    → Each (Each P) (selections lists)
selections_each P [] a = (tt, tt)
selections_each {X} P (choices ∷ rest) a =
    each_flat_map (Each P) P (λ (x : X). map (λ (xs : List X). x ∷ xs) (selections rest)) choices a.0 (λ x p.
    each_made (λ (xs : List X). x ∷ xs) (Each P) (Each P) (λ xs q. (p, q)) (selections rest)
    (selections_each P rest a.1))

pairs_within : (values : List Term) (sources : List ℕ) → Each IsTermWithin values → Each (λ n. n ≤ 65534) sources
    → Each (Each IsPairWithin) (value_choices values sources)
pairs_within values sources v s =
    each_made (λ n. map (λ (u : Term). (n, u)) values) (λ n. n ≤ 65534) (Each IsPairWithin) (λ n le.
    each_made (λ (u : Term). (n, u)) IsTermWithin IsPairWithin (λ u w. (le, w)) values v) sources s

substitutions_within : (bud companion : Judgement) → judgement_bound bud ≤ 65535 → judgement_bound companion ≤ 65535
    → Each (Each IsPairWithin) (substitutions bud companion)
substitutions_within bud companion b c =
    selections_each IsPairWithin (value_choices (values_of bud) (universals companion))
    (pairs_within (values_of bud) (universals companion) (values_within bud b) (universals_below companion c))

-- ---- links

-- what holds of each link that a substitution makes holds of each link
pub links_each : (P : Link → Type 0) (Q : Bindings → Type 0) (bud companion : Judgement) (target p : ℕ)
    → Each Q (substitutions bud companion) → ((places : List ℕ) (s : Bindings) (entries : List ℕ) → Q s
    → P (link_of target places s entries)) → Each P (links bud companion target p)
links_each P Q bud companion target p subs h =
    each_filter P (λ (l : Link). is_none (link_fault bud companion l p)) (choices_of bud companion target)
    (each_flat_map P (λ (places : List ℕ). Unit {0})
    (λ (places : List ℕ). flat_map (λ (s : Bindings). map (λ (entries : List ℕ). link_of target places s entries)
    (covers bud companion)) (substitutions bud companion)) (maps bud companion)
    (each_any (λ (places : List ℕ). Unit {0}) (λ places. tt) (maps bud companion)) (λ places u.
    each_flat_map P Q (λ (s : Bindings). map (λ (entries : List ℕ). link_of target places s entries)
    (covers bud companion)) (substitutions bud companion) subs (λ s q.
    each_mapped P (λ (entries : List ℕ). link_of target places s entries) (covers bud companion)
    (each_any (λ (entries : List ℕ). P (link_of target places s entries)) (λ entries. h places s entries q)
    (covers bud companion)))))

-- what holds of each link to a node before the goal holds of each that is offered
offered_each : (P : Link → Type 0) (most : ℕ) (t : Theory) (nodes : List MadeNode) (j : Judgement)
    → ((k : ℕ) (node : MadeNode) → slice_get nodes k ≡ Some node → leaves_nothing t.lines j (judgement_of node) ≡ true
    → Each P (links j (judgement_of node) k (variables_of t.lines j))) → (k : ℕ) (node : MadeNode)
    → slice_get nodes k ≡ Some node → Each P (links_to most t.lines j k node)
offered_each P most t nodes j h k node e =
    each_if P (is_companion j node) (whole_links most t.lines j k (judgement_of node))
    (by (leaves_nothing t.lines j (judgement_of node)) refl)
  where
    found : List Link
    found = links j (judgement_of node) k (variables_of t.lines j)

    by : (b : Bool) → leaves_nothing t.lines j (judgement_of node) ≡ b → Each P (if b then take most found else [])
    by true whole = each_take P most found (h k node e whole)
    by false over = tt

pub all_offered : (P : Link → Type 0) (t : Theory) (nodes : List MadeNode) (g : OpenGoal)
    → ((k : ℕ) (node : MadeNode) → slice_get nodes k ≡ Some node
    → leaves_nothing t.lines g.premise.judgement (judgement_of node) ≡ true
    → Each P (links g.premise.judgement (judgement_of node) k (variables_of t.lines g.premise.judgement)))
    → Each P (links_offered t nodes g)
all_offered P t nodes g h =
    let j = g.premise.judgement in
    each_unless_some P (rules_before t j) (candidates t.lines nodes j)
    (each_placed P (links_to 1000000 t.lines j) nodes (offered_each P 1000000 t nodes j h))

pub links_within : (t : Theory) (nodes : List MadeNode) (g : OpenGoal)
    → IsJudgementWithin t.most t.definitions (length t.lines) g.premise.judgement
    → ((v : ℕ) (node : MadeNode) → slice_get nodes v ≡ Some node
    → IsJudgementWithin t.most t.definitions (length t.lines) (judgement_of node))
    → Each (λ (link : Link). IsReasonWithin t.most t.definitions (Back link)) (links_offered t nodes g)
links_within t nodes g w ws =
    let j = g.premise.judgement in
    all_offered (λ (link : Link). IsReasonWithin t.most t.definitions (Back link)) t nodes g (λ k node e whole.
    links_each (λ (link : Link). IsReasonWithin t.most t.definitions (Back link)) (Each IsPairWithin) j
    (judgement_of node) k (variables_of t.lines j)
    (substitutions_within j (judgement_of node) (judgement_below t.most t.definitions j w.heaps)
    (judgement_below t.most t.definitions (judgement_of node) (ws k node e).heaps))
    (λ places s entries q. q))

-- each leads to the node that it was made for
pub links_target : (bud companion : Judgement) (target p : ℕ)
    → Each (λ (link : Link). link.target ≡ target) (links bud companion target p)
links_target bud companion target p =
    links_each (λ (link : Link). link.target ≡ target) (λ (s : Bindings). Unit {0}) bud companion target p
    (each_any (λ (s : Bindings). Unit {0}) (λ s. tt) (substitutions bud companion))
    (λ places s entries q. refl)

pub links_back : (t : Theory) (nodes : List MadeNode) (g : OpenGoal)
    → Each (λ (link : Link). link.target < length nodes) (links_offered t nodes g)
links_back t nodes g =
    let j = g.premise.judgement in
    all_offered (λ (link : Link). link.target < length nodes) t nodes g (λ k node e whole.
    let less = slice_get_within nodes k node e in
    each_imply (λ (link : Link). link.target ≡ k) (λ (link : Link). link.target < length nodes)
    (λ link same. omega (arith, same, less)) (links j (judgement_of node) k (variables_of t.lines j))
    (links_target j (judgement_of node) k (variables_of t.lines j)))
