-- What is offered has no fault, is small, and stays within the limits of a file.
use Rattle.std.proofs.Common.{◌≡◌, ℕ, ◌+◌, ◌≤◌, Bool, true, false, ◌&&◌, List, [], ◌∷◌, ◌++◌, map, length, Option, Some}
use Rattle.std.proofs.Common.{None, refl, arith}
use Rattle.std.specs.Prelude.{is_ok, is_none, nat_le, nat_eq, slice_get}
use Rattle.std.specs.List.{filter, list_all, zip}
use Rattle.std.proofs.lemmas.Bool.Decides.{nat_tests}
use Rattle.heap_formula.specs.Words.{Each}
use Rattle.fo_formula.specs.declared.atoms.FoAtom.{FoAtom}
use Rattle.fo_formula.specs.declared.atoms.FoAtom.TheVariants.{Equation, Predicate}
use Rattle.fo_formula.specs.declared.nodes.FoLink.{FoLink}
use Rattle.fo_formula.specs.declared.nodes.FoReason.TheVariants.{Rule, Link}
use Rattle.fo_formula.specs.declared.nodes.FoRule.{FoRule}
use Rattle.fo_formula.specs.declared.nodes.FoRule.TheVariants.{Axiom, Refl, Clash, Decompose, Replace, WeakenLeft}
use Rattle.fo_formula.specs.declared.nodes.FoRule.TheVariants.{WeakenRight, Contract, Unfold, Cut, Right}
use Rattle.fo_formula.specs.declared.sequents.FoSequent.{FoSequent}
use Rattle.fo_formula.specs.declared.theory.FoTheory.{FoTheory}
use Rattle.fo_formula.specs.declared.numbers.Kind.TheVariants.{Locals}
use Rattle.fo_formula.specs.Bounds.{atoms_bound}
use Rattle.fo_formula.specs.Meaning.{cases_of}
use Rattle.fo_formula.specs.Sizes.{sequent_size, reason_size, words_size, atom_size}
use Rattle.fo_formula.specs.Words.{Word}
use Rattle.search_moves.specs.Places.{each_place, first_that}
use Rattle.fo_formula.specs.declared.table.faults.FoFault.{FoFault}
use Rattle.fo_formula.specs.declared.table.faults.FoFault.TheVariants.{NoSuchAtom, NoSuchCase, TermCount}
use Rattle.fo_formula.specs.declared.table.premises.FoPremise.{FoPremise}
use Rattle.fo_formula.specs.Answers.{Answer, needs, finds, predicate, is_short, is_small, limited}
use Rattle.fo_formula.specs.LinkTable.{link_fault}
use Rattle.fo_formula.specs.Table.{Bindings, right_premise, cut_left, cut_right}
use Rattle.fo_logic.specs.Limits.{IsSignWithin, IsTermWithin, HasAtomsWithin, IsRuleWithin, IsPairWithin}
use Rattle.fo_logic.specs.Limits.{IsReasonWithin}
use Rattle.fo_search.specs.Trying.{is_applicable}
use Rattle.fo_search.specs.Subterms.{subterms, lists_of}
use Rattle.fo_search.specs.Before.{axiom_at, axioms_with, axioms, refl_at, clash_at, decompose_at, replace_at}
use Rattle.fo_search.specs.Before.{lines_before, rules_before}
use Rattle.fo_search.specs.Links.{variables, link_by, is_fit, substitutions, links_to}
use Rattle.fo_search.specs.After.{suits, choices, rights_by, rights_at, unfold_at, rules_after}
use Rattle.fo_search.proofs.Lists.{each_kept, each_filter, each_first_kept, each_first, each_line, each_offered}
use Rattle.fo_search.proofs.Lists.{each_zipped}
use Rattle.fo_search.proofs.Terms.{lists_are}
use Rattle.fo_search.proofs.LowVariables.{variables_low}
use Rattle.heap_formula.proofs.AllMembers.{each_imply, each_append, each_mapped, each_take, each_any}
use Rattle.std.proofs.lemmas.Bool.{and_parts}
use Rattle.cyc_basics.proofs.Options.{none_is}

le_true : (m n : ℕ) → nat_le m n ≡ true → m ≤ n
le_true m n h = grind (arith, nat_tests, h)

-- ---- rules without a fault

pub before_goes : (t : FoTheory) (s : FoSequent) → Each (λ (rule : FoRule). is_applicable t s rule ≡ true)
    (rules_before t s)
before_goes t s =
    each_line (λ (rule : FoRule). is_applicable t s rule ≡ true) (lines_before t s) (
      each_first_kept (is_applicable t s) (axioms s),
      (
        each_first_kept (is_applicable t s)
            (each_place refl_at s.right),
        (
          each_first_kept (is_applicable t s) (each_place clash_at s.left),
          (
            each_first_kept (is_applicable t s) (each_place decompose_at s.left),
            (each_first_kept (is_applicable t s) (each_place replace_at s.left), tt),
          ),
        ),
      ),
    )

pub after_goes : (t : FoTheory) (s : FoSequent) → Each (λ (rule : FoRule). is_applicable t s rule ≡ true)
    (rules_after t s)
after_goes t s = each_kept (is_applicable t s) (each_place (rights_at t s) s.right ++ each_place unfold_at s.left)

-- ---- links

module _ (most number : ℕ) (bud companion : FoSequent) where
  abbrev all_links : List FoLink
  all_links = map (link_by bud companion number) (substitutions bud companion)

  fit_links : Each (λ (link : FoLink). is_fit bud companion link ≡ true) (links_to most bud companion number)
  fit_links = each_take (λ (link : FoLink). is_fit bud companion link ≡ true) most
      (filter (is_fit bud companion) all_links) (each_kept (is_fit bud companion) all_links)

  made_links : (P : FoLink → Type 0) → Each (λ (s : Bindings). P (link_by bud companion number s))
      (substitutions bud companion) → Each P (links_to most bud companion number)
  made_links P h =
      each_take P most (filter (is_fit bud companion) all_links)
      (each_filter P (is_fit bud companion) all_links (each_mapped P (link_by bud companion number)
      (substitutions bud companion) h))

  pub links_lead : Each (λ (link : FoLink). link.to ≡ number) (links_to most bud companion number)
  links_lead = made_links (λ (link : FoLink). link.to ≡ number)
      (each_any (λ (s : Bindings). number ≡ number) (λ s. refl) (substitutions bud companion))

  fit_parts : (link : FoLink) → is_fit bud companion link ≡ true
      → (is_none (link_fault bud companion link) ≡ true) × (nat_le (sequent_size bud + reason_size (Link link)) 4096
      ≡ true)
  fit_parts link h = and_parts (is_none (link_fault bud companion link))
      (nat_le (sequent_size bud + reason_size (Link link)) 4096) h

  pub links_right : Each (λ (link : FoLink). link_fault bud companion link ≡ None) (links_to most bud companion number)
  links_right =
      each_imply (λ (link : FoLink). is_fit bud companion link ≡ true)
      (λ (link : FoLink). link_fault bud companion link ≡ None)
      (λ link h. none_is (link_fault bud companion link) (fit_parts link h).0) (links_to most bud companion number)
      fit_links

  pub links_small : Each (λ (link : FoLink). sequent_size bud + reason_size (Link link) ≤ 4096)
      (links_to most bud companion number)
  links_small =
      each_imply (λ (link : FoLink). is_fit bud companion link ≡ true)
      (λ (link : FoLink). sequent_size bud + reason_size (Link link) ≤ 4096)
      (λ link h. le_true (sequent_size bud + reason_size (Link link)) 4096 (fit_parts link h).1)
      (links_to most bud companion number) fit_links

pub links_within : (t : FoTheory) (most number : ℕ) (bud companion : FoSequent) → HasAtomsWithin t bud →
    HasAtomsWithin t companion → Each (λ (link : FoLink). IsReasonWithin t (Link link))
    (links_to most bud companion number)
links_within t most number bud companion b c =
    let names = variables companion in
    let lists = lists_of (length names) (subterms bud) in
    made_links most number bud companion (λ (link : FoLink). IsReasonWithin t (Link link))
    (each_mapped (Each (IsPairWithin t)) (zip names) lists
    (each_imply (Each (IsTermWithin t)) (λ (ts : List Word). Each (IsPairWithin t) (zip names ts))
    (λ ts within. each_zipped (λ n. n ≤ 65534) (IsTermWithin t) names ts (variables_low t companion c) within) lists
    (lists_are (IsSignWithin t) t bud b.0 b.1 (length names))))

-- ---- the terms of a rule without a fault

ok_needs : (b : Bool) (f : FoFault) (rest : Answer) → is_ok (needs b f rest) ≡ true → (b ≡ true) × (is_ok rest ≡ true)
ok_needs true f rest h = (refl, h)
ok_needs false f rest h = absurd cc

small_if_ok : (s : FoSequent) (n : ℕ) (ps : List FoPremise) → is_ok (limited s n ps) ≡ true → sequent_size s + n ≤ 4096
small_if_ok s n ps h =
    let short = ok_needs (list_all (λ (p : FoPremise). is_short p.sequent) ps) _ _ h in
    let small = ok_needs (nat_le (sequent_size s + n) 4096 && list_all (λ (p : FoPremise). is_small p.sequent) ps)
    _ _ short.1 in
    let size = (and_parts (nat_le (sequent_size s + n) 4096) (list_all (λ (p : FoPremise). is_small p.sequent) ps)
    small.0).0 in
    grind (arith, nat_tests, size)

module _ (t : FoTheory) (s : FoSequent) (j c : ℕ) (terms : List Word) where
  right_case : (args : List Word) (case : Option (List FoAtom))
      → is_ok (finds case NoSuchCase (λ case. needs (nat_eq (length terms) (atoms_bound Locals case)) TermCount
      (limited s (words_size terms) (map (right_premise s j args terms) case)))) ≡ true
      → sequent_size s + words_size terms ≤ 4096
  right_case args None h = absurd cc
  right_case args (Some case) h =
      small_if_ok s (words_size terms) (map (right_premise s j args terms) case)
      (ok_needs (nat_eq (length terms) (atoms_bound Locals case)) TermCount _ h).1

  right_atom : (y : Option FoAtom) → is_ok (finds y NoSuchAtom
      (λ y. predicate y (λ p args. finds (slice_get (cases_of t.definitions p) c) NoSuchCase
      (λ case. needs (nat_eq (length terms) (atoms_bound Locals case)) TermCount
      (limited s (words_size terms) (map (right_premise s j args terms) case)))))) ≡ true
      → sequent_size s + words_size terms ≤ 4096
  right_atom None h = absurd cc
  right_atom (Some (Equation l r)) h = absurd cc
  right_atom (Some (Predicate p args)) h = right_case args (slice_get (cases_of t.definitions p) c) h

no_more : (m n : ℕ) → m ≤ n → m + 0 ≤ n
no_more m n h = omega arith

pub rule_small : (t : FoTheory) (s : FoSequent) → sequent_size s ≤ 4096 → (rule : FoRule)
    → is_applicable t s rule ≡ true → sequent_size s + reason_size (Rule rule) ≤ 4096
rule_small t s h (Axiom i j) g = no_more (sequent_size s) 4096 h
rule_small t s h (Refl j) g = no_more (sequent_size s) 4096 h
rule_small t s h (Clash i) g = no_more (sequent_size s) 4096 h
rule_small t s h (Decompose i) g = no_more (sequent_size s) 4096 h
rule_small t s h (Replace i side) g = no_more (sequent_size s) 4096 h
rule_small t s h (WeakenLeft i) g = no_more (sequent_size s) 4096 h
rule_small t s h (WeakenRight j) g = no_more (sequent_size s) 4096 h
rule_small t s h (Contract i) g = no_more (sequent_size s) 4096 h
rule_small t s h (Unfold i) g = no_more (sequent_size s) 4096 h
rule_small t s h (Cut x) g = small_if_ok s (atom_size x) (cut_right s x ∷ cut_left s x ∷ []) g
rule_small t s h (Right j c terms) g = right_atom t s j c terms (slice_get s.right j) g

pub before_small : (t : FoTheory) (s : FoSequent) → sequent_size s ≤ 4096
    → Each (λ (rule : FoRule). sequent_size s + reason_size (Rule rule) ≤ 4096) (rules_before t s)
before_small t s h = each_imply (λ (rule : FoRule). is_applicable t s rule ≡ true)
    (λ (rule : FoRule). sequent_size s + reason_size (Rule rule) ≤ 4096) (rule_small t s h) (rules_before t s)
    (before_goes t s)

pub after_small : (t : FoTheory) (s : FoSequent) → sequent_size s ≤ 4096
    → Each (λ (rule : FoRule). sequent_size s + reason_size (Rule rule) ≤ 4096) (rules_after t s)
after_small t s h = each_imply (λ (rule : FoRule). is_applicable t s rule ≡ true)
    (λ (rule : FoRule). sequent_size s + reason_size (Rule rule) ≤ 4096) (rule_small t s h) (rules_after t s)
    (after_goes t s)

-- ---- rules within the limits

module _ (t : FoTheory) (s : FoSequent) where
  -- those that carry no terms
  free : (rules : List FoRule) → Each (IsRuleWithin t) rules
      → Each (IsRuleWithin t) (first_that (is_applicable t s) rules)
  free rules h = each_first (IsRuleWithin t) (is_applicable t s) rules h

  pub before_within : Each (IsRuleWithin t) (rules_before t s)
  before_within =
      each_line (IsRuleWithin t) (lines_before t s) (
        free (axioms s) (each_offered (IsRuleWithin t) (axioms_with s.right)
            (λ i x. each_offered (IsRuleWithin t) (axiom_at i) (λ j y. (tt, tt)) s.right) s.left),
        (
          free (each_place refl_at s.right) (each_offered (IsRuleWithin t) refl_at (λ j y. (tt, tt)) s.right),
          (
            free (each_place clash_at s.left) (each_offered (IsRuleWithin t) clash_at (λ i x. (tt, tt)) s.left),
            (
              free (each_place decompose_at s.left)
                  (each_offered (IsRuleWithin t) decompose_at (λ i x. (tt, tt)) s.left),
              (
                free (each_place replace_at s.left)
                    (each_offered (IsRuleWithin t) replace_at (λ i x. (tt, (tt, tt))) s.left),
                tt,
              ),
            ),
          ),
        ),
      )

  module _ (atoms : HasAtomsWithin t s) where
    case_within : (j : ℕ) (args : List Word) (c : ℕ) (case : List FoAtom)
        → Each (IsRuleWithin t) (rights_by s j args c case)
    case_within j args c case =
        let lists = lists_of (atoms_bound Locals case) (subterms s) in
        each_mapped (IsRuleWithin t) (Right j c) (choices s args case)
        (each_filter (Each (IsTermWithin t)) (suits s.left args case) lists
        (lists_are (IsSignWithin t) t s atoms.0 atoms.1 (atoms_bound Locals case)))

    right_within : (j : ℕ) (y : FoAtom) → Each (IsRuleWithin t) (rights_at t s j y)
    right_within j (Equation l r) = tt
    right_within j (Predicate p args) = each_offered (IsRuleWithin t) (rights_by s j args) (case_within j args)
        (cases_of t.definitions p)

    unfold_within : (i : ℕ) (x : FoAtom) → Each (IsRuleWithin t) (unfold_at i x)
    unfold_within i (Equation l r) = tt
    unfold_within i (Predicate p args) = (tt, tt)

    pub after_within : Each (IsRuleWithin t) (rules_after t s)
    after_within =
        let rights = each_place (rights_at t s) s.right in
        let unfolds = each_place unfold_at s.left in
        each_filter (IsRuleWithin t) (is_applicable t s) (rights ++ unfolds)
        (each_append (IsRuleWithin t) rights unfolds (each_offered (IsRuleWithin t) (rights_at t s)
        right_within s.right) (each_offered (IsRuleWithin t) unfold_at unfold_within s.left))
