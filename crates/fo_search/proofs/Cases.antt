-- The cases of atoms on the right, and what is told of them.
use Rattle.std.proofs.Common.{◌≡◌, ℕ, suc, ◌+◌, ◌<◌, Bool, true, false, cond, ◌&&◌, List, [], ◌∷◌, ◌++◌, Option, Some}
use Rattle.std.proofs.Common.{None, map, length, drop, get_or, refl, sym, ap, ◌∙◌, arith, append_assoc, append-nil}
use Rattle.std.proofs.Common.{add-one, drop-cons}
use Rattle.std.specs.Prelude.{nat_eq, nat_le, slice_get, is_ok, Ok, Err}
use Rattle.std.specs.Option.{option_to_list}
use Rattle.std.specs.List.{filter, flat_map, list_all}
use Rattle.std.proofs.lemmas.Bool.Decides.{nat_tests}
use Rattle.std.proofs.lemmas.List.{length-map}
use Rattle.std.proofs.lemmas.List.Concat.{flat_map-append}
use Rattle.std.proofs.lemmas.List.Elements.{filter-append}
use Rattle.cyc_basics.specs.declared.limits.TheConstants.{MOST_TERMS}
use Rattle.search_moves.specs.Places.{each_from, each_place}
use Rattle.fo_formula.specs.declared.atoms.FoAtom.{FoAtom}
use Rattle.fo_formula.specs.declared.atoms.FoAtom.TheVariants.{Predicate}
use Rattle.fo_formula.specs.declared.nodes.FoRule.{FoRule}
use Rattle.fo_formula.specs.declared.nodes.FoRule.TheVariants.{Right, Unfold}
use Rattle.fo_formula.specs.declared.numbers.Kind.TheVariants.{Locals}
use Rattle.fo_formula.specs.declared.sequents.FoSequent.{FoSequent}
use Rattle.fo_formula.specs.declared.theory.FoTheory.{FoTheory}
use Rattle.fo_formula.specs.Bounds.{atoms_bound}
use Rattle.fo_formula.specs.Meaning.{cases_of}
use Rattle.fo_formula.specs.Sizes.{words_size, sequent_size}
use Rattle.fo_formula.specs.Words.{Word}
use Rattle.fo_formula.specs.declared.table.faults.FoFault.{FoFault}
use Rattle.fo_formula.specs.declared.table.faults.FoFault.TheVariants.{NoSuchAtom, NoSuchCase, TermCount, TooManyAtoms}
use Rattle.fo_formula.specs.declared.table.faults.FoFault.TheVariants.{TooManyTerms}
use Rattle.fo_formula.specs.declared.table.premises.FoPremise.{FoPremise}
use Rattle.fo_formula.specs.Answers.{Answer, needs, finds, predicate, is_short, is_small, limited}
use Rattle.fo_formula.specs.Table.{right_premise, rule_answer}
use Rattle.fo_search.specs.declared.moves.rights.CaseLeft.{CaseLeft}
use Rattle.fo_search.specs.Subterms.{subterms}
use Rattle.fo_search.specs.After.{rights_at, unfold_at, rules_after}
use Rattle.fo_search.specs.Told.{rights_left, rights_of, rights_in, rights_going}
use Rattle.fo_search.specs.Trying.{is_applicable, has_few, is_applicable_within}

-- one where something is there
abbrev pub one_if : {X : Type 0} → Option X → ℕ
one_if None = 0
one_if (Some x) = 1

-- ---- a rule that leaves too many premises

module _ (most : ℕ) where
  few_needs : (b : Bool) (fault : FoFault) (rest : Answer) → has_few most rest ≡ false
      → has_few most (needs b fault rest) ≡ false
  few_needs true fault rest h = h
  few_needs false fault rest h = refl

  many_limited : (s : FoSequent) (n : ℕ) (ps : List FoPremise) → most < length ps
      → has_few most (limited s n ps) ≡ false
  many_limited s n ps h =
      let many : nat_le (length ps) most ≡ false = grind (arith, nat_tests, h) in
      let small = nat_le (sequent_size s + n) MOST_TERMS && list_all (λ (p : FoPremise). is_small p.sequent) ps in
      few_needs (list_all (λ (p : FoPremise). is_short p.sequent) ps) TooManyAtoms (needs small TooManyTerms (Ok ps))
      (few_needs small TooManyTerms (Ok ps) many)

  module _ (t : FoTheory) (s : FoSequent) (j c p : ℕ) (args : List Word) (case : List FoAtom)
      (is_atom : slice_get s.right j ≡ Some (Predicate p args))
      (is_case : slice_get (cases_of t.definitions p) c ≡ Some case) (many : most < length case) where
    too_many : (terms : List Word) → is_applicable_within most t s (Right j c terms) ≡ false
    too_many terms =
        ap (λ (o : Option FoAtom). has_few most (finds o NoSuchAtom
        (λ y. predicate y (λ p args. finds (slice_get (cases_of t.definitions p) c) NoSuchCase
        (λ case. needs (nat_eq (length terms) (atoms_bound Locals case)) TermCount
        (limited s (words_size terms) (map (right_premise s j args terms) case))))))) is_atom
        ∙ (ap (λ (o : Option (List FoAtom)). has_few most
        (finds o NoSuchCase (λ case. needs (nat_eq (length terms) (atoms_bound Locals case)) TermCount
        (limited s (words_size terms) (map (right_premise s j args terms) case))))) is_case
        ∙ few_needs (nat_eq (length terms) (atoms_bound Locals case)) TermCount
        (limited s (words_size terms) (map (right_premise s j args terms) case))
        (many_limited s (words_size terms) (map (right_premise s j args terms) case)
        (let l = length-map case (right_premise s j args terms) in omega (arith, l, many))))

    pub none_go : (choices : List (List Word)) → filter (is_applicable_within most t s)
        (map (λ ts. Right j c ts) choices) ≡ []
    none_go [] = refl
    none_go (ts ∷ choices) =
        let rest = filter (is_applicable_within most t s) (map (λ ts. Right j c ts) choices) in
        ap (λ b. cond b (Right j c ts ∷ rest) rest) (too_many ts) ∙ none_go choices

-- ---- place by place

module _ (most : ℕ) (t : FoTheory) (s : FoSequent) where
  abbrev passes : FoRule → Bool
  passes = is_applicable_within most t s

  abbrev told : CaseLeft → List FoRule
  told = rights_left s.left (subterms s)

  -- one case more
  pub going_more : (all all' : List CaseLeft) (x : CaseLeft) (rules : List FoRule) → all' ≡ all ++ x ∷ []
      → told x ≡ rules → rights_going most t s all' ≡ rights_going most t s all ++ filter passes rules
  going_more all all' x rules e is =
      ap (rights_going most t s) e
      ∙ (ap (filter passes) (flat_map-append told all (x ∷ [])
      ∙ ap (λ (rs : List FoRule). flat_map told all ++ rs) (append-nil (told x) ∙ is))
      ∙ filter-append passes (flat_map told all) rules)

  -- no case more, where none of its rules goes
  pub going_same : (before : List FoRule) (rules : List FoRule) → filter passes rules ≡ []
      → before ≡ before ++ filter passes rules
  going_same before rules none = sym (append-nil before) ∙ ap (λ (rs : List FoRule). before ++ rs) (sym none)

  pub going_on : {X : Type 0} (F : ℕ → X → List FoRule) (k : ℕ) (xs : List X) (x d : X)
      (before after whole : List FoRule) → k < length xs → x ≡ get_or xs k d → after ≡ before ++ filter passes (F k x) →
      before ++ filter passes (each_from F k (drop k xs)) ≡ whole
      → after ++ filter passes (each_from F (k + 1) (drop (k + 1) xs)) ≡ whole
  going_on F k xs x d before after whole less at more so_far =
      let rest = each_from F (suc k) (drop (suc k) xs) in
      let cut : drop k xs ≡ x ∷ drop (suc k) xs = drop-cons xs k d less ∙ ap (λ z. z ∷ drop (suc k) xs) (sym at) in
      let split : before ++ (filter passes (F k x) ++ filter passes rest) ≡ whole =
      ap (λ (rs : List FoRule). before ++ rs) (sym (filter-append passes (F k x) rest))
      ∙ (ap (λ (zs : List _). before ++ filter passes (each_from F k zs)) (sym cut) ∙ so_far) in
      rw (add-one, more, append_assoc before (filter passes (F k x)) (filter passes rest)) split

  -- ---- all rules

  few_goes : (rule : FoRule) → passes rule ≡ true → is_applicable t s rule ≡ true
  few_goes rule h = by (rule_answer t s rule) h
    where
      by : (a : Answer) → has_few most a ≡ true → is_ok a ≡ true
      by (Ok ps) h = refl
      by (Err fault) h = cc

  kept_twice : (rules : List FoRule) → filter passes rules ≡ filter passes (filter (is_applicable t s) rules)
  kept_twice [] = refl
  kept_twice (r ∷ rules) = branch (passes r) (is_applicable t s r) refl refl (few_goes r) (kept_twice rules)
    where
      branch : (p g : Bool) → passes r ≡ p → is_applicable t s r ≡ g → (passes r ≡ true → is_applicable t s r ≡ true)
          → filter passes rules ≡ filter passes (filter (is_applicable t s) rules) →
          cond (passes r) (r ∷ filter passes rules) (filter passes rules)
          ≡ filter passes (cond (is_applicable t s r) (r ∷ filter (is_applicable t s) rules)
          (filter (is_applicable t s) rules))
      branch p true is_p is_g h rest = rw is_g (ap (λ (rs : List FoRule). cond (passes r) (r ∷ rs) rs) rest)
      branch true false is_p is_g h rest = absurd (let yes' = h is_p in cc)
      branch false false is_p is_g h rest = rw (is_p, is_g) rest

  in_all : (current : Option CaseLeft) (cases all : List CaseLeft) → all ≡ option_to_list current ++ cases
      → (0 < length all → current ≡ None → ⊥) → rights_in s.left (subterms s) current cases
      ≡ rights_of s.left (subterms s) all
  in_all None cases [] e some = refl
  in_all None cases (c ∷ all) e some = absurd (some (omega arith) refl)
  in_all (Some c) cases all e some = ap (rights_of s.left (subterms s)) (sym e)

  -- what is left at the beginning
  pub all_left : (values : List Word) (current : Option CaseLeft) (cases all : List CaseLeft) (unfolds : List ℕ)
      → values ≡ subterms s → all ≡ option_to_list current ++ cases → (0 < length all → current ≡ None → ⊥) →
      rights_going most t s all ≡ filter passes (each_place (rights_at t s) s.right)
      → map Unfold unfolds ≡ each_place unfold_at s.left →
      filter passes (rights_in s.left values current cases ++ map Unfold unfolds) ≡ filter passes (rules_after t s)
  all_left values current cases all unfolds are parts some rights are_unfolds =
      filter-append passes (rights_in s.left values current cases) (map Unfold unfolds)
      ∙ ((λ i. filter passes (rights_in s.left (are i) current cases) ++ filter passes (are_unfolds i))
      ∙ (ap (λ (rs : List FoRule). filter passes rs ++ filter passes (each_place unfold_at s.left))
      (in_all current cases all parts some)
      ∙ (ap (λ (rs : List FoRule). rs ++ filter passes (each_place unfold_at s.left)) rights
      ∙ (sym (filter-append passes (each_place (rights_at t s) s.right) (each_place unfold_at s.left))
      ∙ kept_twice (each_place (rights_at t s) s.right ++ each_place unfold_at s.left)))))
