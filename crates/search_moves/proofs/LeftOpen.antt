-- Rules that leave premises, and lists of such rules.
use Rattle.std.proofs.Common.{◌≡◌, ℕ, zero, suc, ◌+◌, Bool, true, false, List, [], ◌∷◌, ◌++◌, map, length, Option, Some}
use Rattle.std.proofs.Common.{None, slice_get, refl, sym, ap, subst, ◌∙◌, arith}
use Rattle.std.specs.Prelude.{nat_lt, nat_eq, max, if◌then◌else◌, not, Ok}
use Rattle.std.specs.List.{filter, list_all}
use Rattle.std.proofs.lemmas.Bool.{both_ways, and_parts}
use Rattle.cyc_basics.specs.declared.limits.Limits.{Limits}
use Rattle.heap_formula.specs.declared.terms.Term.{Term}
use Rattle.heap_formula.specs.declared.terms.Term.TheVariants.{Nil, Univ, Exist}
use Rattle.heap_formula.specs.declared.atoms.Pure.{Pure}
use Rattle.heap_formula.specs.declared.atoms.Pure.TheVariants.{Eq, Neq}
use Rattle.heap_formula.specs.declared.atoms.Spatial.{Spatial}
use Rattle.heap_formula.specs.declared.atoms.Spatial.TheVariants.{Cell, Pred}
use Rattle.heap_formula.specs.declared.judgements.Judgement.{Judgement}
use Rattle.heap_formula.specs.declared.judgements.Judgement.TheVariants.{Entail, Term as Runs}
use Rattle.heap_formula.specs.declared.judgements.Premise.{Premise}
use Rattle.heap_formula.specs.declared.proof_rules.Side.{Side}
use Rattle.heap_formula.specs.declared.proof_rules.RuleFault.{RuleFault}
use Rattle.heap_formula.specs.declared.proof_rules.RuleFault.TheVariants.{TooManyAtoms, NoFreshVariable}
use Rattle.heap_formula.specs.declared.proof_rules.Rule.{Rule}
use Rattle.heap_formula.specs.declared.proof_rules.Rule.TheVariants.{Absurd, Rewrite, Split, Distinct, Weaken, Unfold}
use Rattle.heap_formula.specs.declared.proof_rules.Rule.TheVariants.{Cut, Done, Choose, PureRight, Instantiate, Frame}
use Rattle.heap_formula.specs.declared.proof_rules.Rule.TheVariants.{UnfoldRight, Exec, Drop}
use Rattle.heap_formula.specs.Symbolic.{SymbolicHeap}
use Rattle.heap_formula.specs.Programs.{has_ends}
use Rattle.heap_formula.specs.Judgements.{antecedent}
use Rattle.heap_formula.specs.Meaning.{cases_of}
use Rattle.heap_formula.specs.Fresh.{heap_bound, heap_exists, fresh_number}
use Rattle.heap_formula.specs.Substitution.{in_heap}
use Rattle.heap_formula.specs.Words.{Each}
use Rattle.rule_table.specs.Answer.{Answer, needs, finds, entails, single, runs, each_heap, is_short, has_numbers}
use Rattle.rule_table.specs.Answer.{limited}
use Rattle.rule_table.specs.RuleCut.{cut_left, cut_right}
use Rattle.rule_table.specs.Table.{rewrite_side, rewrite_atom, named, unnamed, calls, with_pure, with_right, right_term}
use Rattle.rule_table.specs.RuleUnfold.{unfolded}
use Rattle.rule_table.specs.Tests.{same_term, same_spatial, is_universal_pure, is_universal_spatial, follows}
use Rattle.rule_table.specs.Tests.{address_of, ascend_from, has_number}
use Rattle.rule_table.specs.RuleBook.{variables_of}
use Rattle.search_moves.specs.Places.{each_from, each_of, first_line, first_that}
use Rattle.cyc_basics.specs.Words.{or_else}
use Rattle.search_moves.specs.Kinds.{is_cell, is_predicate}
use Rattle.search_moves.specs.declared.instances.Instance.{Instance}
use Rattle.search_moves.specs.Trying.{Theory, is_applicable}
use Rattle.search_moves.specs.Entailments.{choices, choice_at, unfolds, unfold_at, pure_rights, pure_right_at, frame_at}
use Rattle.search_moves.specs.Entailments.{frames_from, frames_if, cell_frames, predicate_frames, distinct_at}
use Rattle.search_moves.specs.Entailments.{distincts_with, distincts_for, distincts_if, distincts, argument_instances}
use Rattle.search_moves.specs.Entailments.{equation_instances, field_instances, instance_rule, right_unfold_at}
use Rattle.search_moves.specs.Entailments.{right_unfolds_of, right_unfolds, last_line, instance_lines, entailment_after}
use Rattle.search_moves.specs.Closing.{has_no_premise, closes, has_case, has_case_if, leaves, CloseAlike}

abbrev HasSome : Answer → Type 0
HasSome a = has_no_premise a ≡ false

needs_some : (b : Bool) (f : RuleFault) (rest : Answer) → HasSome rest → HasSome (needs b f rest)
needs_some true f rest h = h
needs_some false f rest h = refl

finds_some : {X : Type 0} (o : Option X) (f : RuleFault) (rest : X → Answer) → ((x : X) → o ≡ Some x → HasSome (rest x))
    → HasSome (finds o f rest)
finds_some None f rest h = refl
finds_some (Some x) f rest h = h x refl

limited_some : (most : Limits) (p : Premise) (ps : List Premise) → HasSome (limited most (p ∷ ps))
limited_some most p ps =
    needs_some (each_heap (is_short most) (p ∷ ps)) TooManyAtoms
    (needs (each_heap has_numbers (p ∷ ps)) NoFreshVariable (Ok (p ∷ ps)))
    (needs_some (each_heap has_numbers (p ∷ ps)) NoFreshVariable (Ok (p ∷ ps)) refl)

entails_some : (j : Judgement) (rest : SymbolicHeap → List SymbolicHeap → Answer)
    → ((a : SymbolicHeap) (bs : List SymbolicHeap) → HasSome (rest a bs)) → HasSome (entails j rest)
entails_some (Entail a bs) rest h = h a bs
entails_some (Runs i a) rest h = refl

single_some : (j : Judgement) (rest : SymbolicHeap → SymbolicHeap → Answer)
    → ((a b : SymbolicHeap) → HasSome (rest a b)) → HasSome (single j rest)
single_some (Entail a []) rest h = refl
single_some (Entail a (b ∷ [])) rest h = h a b
single_some (Entail a (b ∷ c ∷ bs)) rest h = refl
single_some (Runs i a) rest h = refl

runs_some : (j : Judgement) (rest : ℕ → SymbolicHeap → Answer) → ((i : ℕ) (a : SymbolicHeap) → HasSome (rest i a))
    → HasSome (runs j rest)
runs_some (Entail a bs) rest h = refl
runs_some (Runs i a) rest h = h i a

calls_some : (x : Spatial) (rest : ℕ → List Term → Answer)
    → ((q : ℕ) (ts : List Term) → x ≡ Pred q ts → HasSome (rest q ts)) → HasSome (calls x rest)
calls_some (Cell t ts) rest h = refl
calls_some (Pred q ts) rest h = h q ts refl

either_some : (b : Bool) (x y : Answer) → HasSome x → HasSome y → HasSome (if b then x else y)
either_some true x y h k = h
either_some false x y h k = k

rewrite_side_some : (p : ℕ) (j : Judgement) (k : ℕ) (x : Pure) (t u : Term) → HasSome (rewrite_side p j k x t u)
rewrite_side_some p j k x Nil u = refl
rewrite_side_some p j k x (Univ v) u = refl
rewrite_side_some p j k x (Exist n) u = refl

rewrite_some : (p : ℕ) (j : Judgement) (k : ℕ) (side : Side) (x : Pure) → HasSome (rewrite_atom p j k side x)
rewrite_some p j k side (Neq t u) = refl
rewrite_some p j k side (Eq t u) = either_some (same_term t u) _ _ refl
    (rewrite_side_some p j k (Eq t u) (named side t u) (unnamed side t u))

cases_some : {X : Type 0} (most : Limits) (f : X → Premise) (xs : List X) → nat_lt 0 (length xs) ≡ true
    → HasSome (limited most (map f xs))
cases_some most f [] h = absurd (both_ways false refl h)
cases_some most f (x ∷ xs) h = limited_some most (f x) (map f xs)

module _ (t : Theory) (j : Judgement) where
  -- a rule that leaves premises does not close the judgement
  pub left_open : (r : Rule) → leaves t.definitions j r ≡ true → closes t j r ≡ false
  left_open Absurd h = absurd (both_ways false refl h)
  left_open (Rewrite k side) h = finds_some (slice_get (antecedent j).pure k) _
      (rewrite_atom (variables_of t.lines j) j k side) (λ x at. rewrite_some (variables_of t.lines j) j k side x)
  left_open (Split u v) h = limited_some t.most (with_pure j (Eq u v)) (with_pure j (Neq u v) ∷ [])
  left_open (Distinct i k) h =
      finds_some (slice_get (antecedent j).spatial i) _ _
      (λ x at. finds_some (slice_get (antecedent j).spatial k) _ _
      (λ y at'. finds_some (address_of x) _ _ (λ u is. finds_some (address_of y) _ _
      (λ v is'. limited_some t.most (with_pure j (Neq u (if nat_eq i k then Nil else v))) []))))
  left_open (Weaken k) h = finds_some (slice_get (antecedent j).pure k) _ _ (λ x at. refl)
  left_open (Unfold k) h =
      finds_some (slice_get (antecedent j).spatial k) _ _
      (λ x at. calls_some x _ (λ q ts is. cases_some t.most _ (cases_of t.definitions q)
      (sym (ap (has_case_if t.definitions) at ∙ ap (has_case t.definitions) is) ∙ h)))
  left_open (Cut places f) h =
      needs_some (ascend_from 0 (length (antecedent j).spatial) places) _ _
      (limited_some t.most (cut_left (antecedent j) (has_number places) f)
      (cut_right j (has_number places) f (max (fresh_number (variables_of t.lines j) j) (heap_bound f)) ∷ []))
  left_open Done h = absurd (both_ways false refl h)
  left_open (Choose k) h = entails_some j _ (λ a bs. finds_some (slice_get bs k) _ _ (λ b at. refl))
  left_open (PureRight k) h = single_some j _ (λ a b. finds_some (slice_get b.pure k) _ _
      (λ x at. needs_some (is_universal_pure x) _ _ (needs_some (follows a.pure x) _ _ refl)))
  left_open (Instantiate v u) h = single_some j _ (λ a b. refl)
  left_open (Frame i k) h =
      single_some j _ (λ a b. finds_some (slice_get a.spatial i) _ _
      (λ x at. finds_some (slice_get b.spatial k) _ _ (λ y at'.
      needs_some (is_universal_spatial y) _ _ (needs_some (same_spatial x y) _ _ refl))))
  left_open (UnfoldRight k c) h =
      single_some j _ (λ a b. finds_some (slice_get b.spatial k) _ _
      (λ x at. calls_some x _ (λ q ts is. finds_some (slice_get (cases_of t.definitions q) c) _ _
      (λ case at'. limited_some t.most (with_right a (unfolded b k (in_heap (right_term ts (heap_exists b)) case)
      ∷ [])) []))))
  left_open Exec h = absurd (both_ways false refl h)
  left_open (Drop k) h =
      needs_some (not (has_ends t.lines)) _ _
      (runs_some j _ (λ i a. finds_some (slice_get a.spatial k) _ _ (λ x at. refl)))

-- ---- lists

each_append : (P : Rule → Type 0) (xs ys : List Rule) → Each P xs → Each P ys → Each P (xs ++ ys)
each_append P [] ys h k = k
each_append P (x ∷ xs) ys h k = (h.0, each_append P xs ys h.1 k)

each_map : {X : Type 0} (P : Rule → Type 0) (f : X → Rule) (xs : List X) → ((x : X) → P (f x)) → Each P (map f xs)
each_map P f [] h = tt
each_map P f (x ∷ xs) h = (h x, each_map P f xs h)

each_kept : (P : Rule → Type 0) (b : Bool) (x : Rule) (rest : List Rule) → P x → Each P rest
    → Each P (if b then x ∷ rest else rest)
each_kept P true x rest h k = (h, k)
each_kept P false x rest h k = k

each_filter : (q : Rule → Bool) (P : Rule → Type 0) (xs : List Rule) → Each P xs → Each P (filter q xs)
each_filter q P [] h = tt
each_filter q P (x ∷ xs) h = each_kept P (q x) x (filter q xs) h.0 (each_filter q P xs h.1)

each_from_all : {X : Type 0} (P : Rule → Type 0) (f : ℕ → X → List Rule) (k : ℕ) (xs : List X)
    → ((i : ℕ) (x : X) → Each P (f i x)) → Each P (each_from f k xs)
each_from_all P f k [] h = tt
each_from_all P f k (x ∷ xs) h = each_append P (f k x) (each_from f (suc k) xs) (h k x) (each_from_all P f (suc k) xs h)

-- at the places of the list
each_at_all : {X : Type 0} (P : Rule → Type 0) (f : ℕ → X → List Rule) (k : ℕ) (xs : List X)
    → ((i : ℕ) (x : X) → slice_get xs i ≡ Some x → Each P (f (k + i) x)) → Each P (each_from f k xs)
each_at_all P f k [] h = tt
each_at_all P f k (x ∷ xs) h =
    each_append P (f k x) (each_from f (suc k) xs)
    (let n : k + 0 ≡ k = omega arith in subst (λ m. Each P (f m x)) n (h 0 x refl))
    (each_at_all P f (suc k) xs (λ i y at. let n : k + suc i ≡ suc k + i = omega arith in
    subst (λ m. Each P (f m y)) n (h (suc i) y at)))

each_of_all : {X : Type 0} (P : Rule → Type 0) (f : X → List Rule) (xs : List X) → ((x : X) → Each P (f x))
    → Each P (each_of f xs)
each_of_all P f [] h = tt
each_of_all P f (x ∷ xs) h = each_append P (f x) (each_of f xs) (h x) (each_of_all P f xs h)

if_all : (P : Rule → Type 0) (b : Bool) (xs : List Rule) → Each P xs → Each P (if b then xs else [])
if_all P true xs h = h
if_all P false xs h = tt

either_all : (P : Rule → Type 0) (b : Bool) (x : Rule) (rest : List Rule) → P x → Each P rest
    → Each P (if b then x ∷ [] else rest)
either_all P true x rest h k = (h, tt)
either_all P false x rest h k = k

first_that_all : (P : Rule → Type 0) (q : Rule → Bool) (xs : List Rule) → Each P xs → Each P (first_that q xs)
first_that_all P q [] h = tt
first_that_all P q (x ∷ xs) h = either_all P (q x) x (first_that q xs) h.0 (first_that_all P q xs h.1)

or_else_all : (P : Rule → Type 0) (xs ys : List Rule) → Each P xs → Each P ys → Each P (or_else xs ys)
or_else_all P [] ys h k = k
or_else_all P (x ∷ xs) ys h k = h

none_pass : (q : Rule → Bool) (xs : List Rule) → Each (λ r. q r ≡ false) xs → filter q xs ≡ []
none_pass q [] h = refl
none_pass q (x ∷ xs) h = rw h.0 (none_pass q xs h.1)

every_at : {X : Type 0} (q : X → Bool) (xs : List X) (i : ℕ) (x : X) → list_all q xs ≡ true → slice_get xs i ≡ Some x
    → q x ≡ true
every_at q [] i x h at = absurd (let e : None ≡ Some x = at in cc)
every_at q (y ∷ xs) zero x h at = let e : Some y ≡ Some x = at in let same : y ≡ x = cc in
    ap q (sym same) ∙ (and_parts (q y) (list_all q xs) h).0
every_at q (y ∷ xs) (suc i) x h at = every_at q xs i x (and_parts (q y) (list_all q xs) h).1 at

module _ (t : Theory) (j : Judgement) where
  abbrev Open : Rule → Type 0
  Open r = closes t j r ≡ false

  pures_open : (xs : List Pure) → Each Open (pure_rights xs)
  pures_open xs = each_from_all Open pure_right_at 0 xs (λ k x. (left_open t j (PureRight k) refl, tt))

  distincts_open : (ys : List Spatial) (xs : List Pure) → Each Open (distincts ys xs)
  distincts_open ys xs =
      each_of_all Open (λ x. distincts_if ys (is_universal_pure x) x) xs
      (λ x. if_all Open (is_universal_pure x) (distincts_for ys x)
      (each_from_all Open (distincts_with x ys) 0 ys
      (λ i y. each_from_all Open (distinct_at x i y) 0 ys
      (λ k z. if_all Open _ (Distinct i k ∷ []) (left_open t j (Distinct i k) refl, tt)))))

  frames_open : (ys : List Spatial) (i : ℕ) (b : Bool) → Each Open (frames_if ys i b)
  frames_open ys i b = if_all Open b (frames_from ys i)
      (each_from_all Open (frame_at i) 0 ys (λ k y. (left_open t j (Frame i k) refl, tt)))

  instances_open : (is : List Instance) → Each Open (map instance_rule is)
  instances_open is = each_map Open instance_rule is (λ i. left_open t j (instance_rule i) refl)

  right_open : (a : SymbolicHeap) (k : ℕ) (y : Spatial) → Each Open (right_unfolds_of t j a k y)
  right_open a k (Cell u us) = tt
  right_open a k (Pred q ts) = each_from_all Open (right_unfold_at t j a k ts) 0 (cases_of t.definitions q)
      (λ c case. if_all Open _ (UnfoldRight k c ∷ []) (left_open t j (UnfoldRight k c) refl, tt))

  choices_open : (bs : List SymbolicHeap) → Each Open (choices bs)
  choices_open bs = each_from_all Open choice_at 0 bs (λ k b. (left_open t j (Choose k) refl, tt))

  module _ (a : SymbolicHeap) (same : antecedent j ≡ a) (cases : list_all (has_case t.definitions) a.spatial ≡ true)
    where
      unfold_open : (k : ℕ) (x : Spatial) → slice_get a.spatial k ≡ Some x → Each Open (unfold_at k x)
      unfold_open k x at =
          if_all Open (is_predicate x) (Unfold k ∷ []) (
            left_open t j (Unfold k) (ap (λ (b : SymbolicHeap). has_case_if t.definitions (slice_get b.spatial k)) same
                ∙ (ap (has_case_if t.definitions) at ∙ every_at (has_case t.definitions) a.spatial k x cases at)),
            tt,
          )

      unfolds_open : Each Open (unfolds a.spatial)
      unfolds_open = each_at_all Open unfold_at 0 a.spatial
          (λ k x at. let n : 0 + k ≡ k = omega arith in subst (λ m. Each Open (unfold_at m x)) (sym n)
          (unfold_open k x at))

      first_open : (xs : List Rule) → Each Open xs → Each Open (first_that (is_applicable t j) xs)
      first_open xs h = first_that_all Open (is_applicable t j) xs h

      last_open : (b : SymbolicHeap) → Each Open (last_line t j a b)
      last_open b =
          let instances = map instance_rule (argument_instances a.spatial b.spatial) in
          let rights = right_unfolds t j a b.spatial in
          each_filter (is_applicable t j) Open ((instances ++ rights) ++ unfolds a.spatial)
          (each_append Open (instances ++ rights) (unfolds a.spatial)
          (each_append Open instances rights (instances_open (argument_instances a.spatial b.spatial))
          (each_from_all Open (right_unfolds_of t j a) 0 b.spatial (right_open a)))
          unfolds_open)

      instance_open : (b : SymbolicHeap) → Each Open (first_line (instance_lines t j a b))
      instance_open b =
          let equations = map instance_rule (equation_instances b.pure) in
          let fields = map instance_rule (field_instances a.spatial b.spatial) in
          let frames = predicate_frames a.spatial b.spatial in
          let last = or_else (last_line t j a b) [] in
          or_else_all Open (first_that (is_applicable t j) equations)
          (or_else (first_that (is_applicable t j) fields) (or_else (first_that (is_applicable t j) frames) last))
          (first_open equations (instances_open (equation_instances b.pure)))
          (or_else_all Open (first_that (is_applicable t j) fields)
          (or_else (first_that (is_applicable t j) frames) last)
          (first_open fields (instances_open (field_instances a.spatial b.spatial)))
          (or_else_all Open (first_that (is_applicable t j) frames) last
          (first_open frames (each_from_all Open (λ i x. frames_if b.spatial i (is_predicate x)) 0 a.spatial
          (λ i x. frames_open b.spatial i (is_predicate x))))
          (or_else_all Open (last_line t j a b) [] (last_open b) tt)))

      -- the lines after Done
      abbrev after_done : SymbolicHeap → List Rule
      after_done b =
          or_else (first_that (is_applicable t j) (pure_rights b.pure))
          (or_else (first_that (is_applicable t j) (distincts a.spatial b.pure))
          (or_else (first_that (is_applicable t j) (cell_frames a.spatial b.spatial))
          (first_line (instance_lines t j a b))))

      after_open : (b : SymbolicHeap) → Each Open (after_done b)
      after_open b =
          let pures = pure_rights b.pure in
          let apart = distincts a.spatial b.pure in
          let frames = cell_frames a.spatial b.spatial in
          let rest = first_line (instance_lines t j a b) in
          or_else_all Open (first_that (is_applicable t j) pures)
          (or_else (first_that (is_applicable t j) apart) (or_else (first_that (is_applicable t j) frames) rest))
          (first_open pures (pures_open b.pure))
          (or_else_all Open (first_that (is_applicable t j) apart)
          (or_else (first_that (is_applicable t j) frames) rest)
          (first_open apart (distincts_open a.spatial b.pure))
          (or_else_all Open (first_that (is_applicable t j) frames) rest
          (first_open frames (each_from_all Open (λ i x. frames_if b.spatial i (is_cell x)) 0 a.spatial
          (λ i x. frames_open b.spatial i (is_cell x)))) (instance_open b)))

      first_closes : (xs ys : List Rule) → Each Open ys → filter (closes t j) xs ≡ filter (closes t j) (or_else xs ys)
      first_closes [] ys h = sym (none_pass (closes t j) ys h)
      first_closes (x ∷ xs) ys h = refl

      -- only Done may close an entailment where no link is admitted
      pub done_alone : (b : SymbolicHeap) → CloseAlike t j (filter (is_applicable t j) (Done ∷ []))
          (entailment_after t j a (b ∷ []))
      done_alone b = first_closes (filter (is_applicable t j) (Done ∷ [])) (after_done b) (after_open b)

      pub none_closes : (b c : SymbolicHeap) (bs : List SymbolicHeap)
          → CloseAlike t j [] (entailment_after t j a (b ∷ c ∷ bs))
      none_closes b c bs =
          sym (none_pass (closes t j) (filter (is_applicable t j) (choices (b ∷ c ∷ bs) ++ unfolds a.spatial))
          (each_filter (is_applicable t j) Open (choices (b ∷ c ∷ bs) ++ unfolds a.spatial)
          (each_append Open (choices (b ∷ c ∷ bs)) (unfolds a.spatial) (choices_open (b ∷ c ∷ bs)) unfolds_open)))

      pub one_closes : (bs : List SymbolicHeap) → length bs ≡ 1
          → CloseAlike t j (filter (is_applicable t j) (Done ∷ [])) (entailment_after t j a bs)
      one_closes [] h = absurd (omega (arith, h))
      one_closes (b ∷ []) h = done_alone b
      one_closes (b ∷ c ∷ bs) h = absurd (omega (arith, h))

      pub no_other_closes : (bs : List SymbolicHeap) → (length bs ≡ 1 → ⊥)
          → CloseAlike t j [] (entailment_after t j a bs)
      no_other_closes [] h = refl
      no_other_closes (b ∷ []) h = absurd (h refl)
      no_other_closes (b ∷ c ∷ bs) h = none_closes b c bs
