-- A rule's answer under limits that allow as much: the same premises, or some that pass the lesser one.
use Rattle.std.proofs.Common.{◌≡◌, ℕ, ◌≤◌, Bool, true, false, List, [], ◌∷◌, map, length, Option, Some, None, refl, sym}
use Rattle.std.proofs.Common.{subst, ◌∙◌, arith}
use Rattle.std.specs.Prelude.{Ok, Err, ◌+◌, max, nat_eq, nat_le, slice_get, if◌then◌else◌}
use Rattle.std.proofs.lemmas.Bool.{leb-true, le-leb, and_from, and_parts}
use Rattle.std.specs.List.{list_all}
use Rattle.cyc_basics.specs.Limits.{AreWithin}
use Rattle.cyc_basics.specs.declared.limits.Limits.{Limits}
use Rattle.heap_formula.specs.declared.atoms.Pure.TheVariants.{Eq, Neq}
use Rattle.heap_formula.specs.declared.atoms.Spatial.{Spatial}
use Rattle.heap_formula.specs.declared.atoms.Spatial.TheVariants.{Cell, Pred}
use Rattle.heap_formula.specs.declared.terms.Term.{Term}
use Rattle.heap_formula.specs.declared.terms.Term.TheVariants.{Nil, Univ}
use Rattle.heap_formula.specs.declared.commands.Command.{Command}
use Rattle.heap_formula.specs.declared.commands.Command.TheVariants.{Assign, Load, Store, New, Free, IfEq, IfNeq, IfAny}
use Rattle.heap_formula.specs.declared.commands.Command.TheVariants.{Goto, Stop, Ends}
use Rattle.heap_formula.specs.declared.judgements.Judgement.{Judgement}
use Rattle.heap_formula.specs.declared.judgements.Judgement.TheVariants.{Entail, Term as Runs}
use Rattle.heap_formula.specs.declared.judgements.Premise.{Premise}
use Rattle.heap_formula.specs.declared.proof_rules.Rule.{Rule}
use Rattle.heap_formula.specs.declared.proof_rules.Rule.TheVariants.{Split, Distinct, Unfold, Cut, UnfoldRight, Exec}
use Rattle.heap_formula.specs.declared.proof_rules.RuleFault.{RuleFault}
use Rattle.heap_formula.specs.declared.proof_rules.RuleFault.TheVariants.{NoSuchAtom, NoSuchCase, NoCell, TooManyAtoms}
use Rattle.heap_formula.specs.declared.proof_rules.RuleFault.TheVariants.{NoFreshVariable, WrongJudgement}
use Rattle.heap_formula.specs.Definitions.{Definition}
use Rattle.heap_formula.specs.Fresh.{fresh_number, heap_bound, heap_exists, variables_from}
use Rattle.heap_formula.specs.Judgements.{antecedent}
use Rattle.heap_formula.specs.Meaning.{cases_of}
use Rattle.heap_formula.specs.Positions.{kept_pairs}
use Rattle.heap_formula.specs.Programs.{counted_from_one, program_variables}
use Rattle.heap_formula.specs.Substitution.{in_heap}
use Rattle.heap_formula.specs.Symbolic.{SymbolicHeap}
use Rattle.rule_table.specs.Answer.{Answer, needs, finds, entails, one_heap, single, runs, heaps_of, is_short}
use Rattle.rule_table.specs.Answer.{has_numbers, each_heap, limited, one, two}
use Rattle.rule_table.specs.ExecTable.{cell_of, at_line, with_atom, with_cell, with_field, renamed, renamed_term}
use Rattle.rule_table.specs.ExecTable.{command_answer}
use Rattle.rule_table.specs.RuleBook.{variables_of, rule_answer}
use Rattle.rule_table.specs.RuleCut.{cut_left, cut_right}
use Rattle.rule_table.specs.RuleUnfold.{unfold_premise, unfolded}
use Rattle.rule_table.specs.Table.{calls, right_term, with_pure, with_right, without_spatial}
use Rattle.rule_table.specs.Tests.{address_of}
use Rattle.rule_table.specs.Tests.{ascend_from, has_number}
use Rattle.heap_reader.specs.Small.{is_short_heap}

-- ---- tests

every_both : {X : Type 0} (p q r : X → Bool) → ((x : X) → p x ≡ true → q x ≡ true → r x ≡ true) → (xs : List X)
    → list_all p xs ≡ true → list_all q xs ≡ true → list_all r xs ≡ true
every_both p q r step [] e f = refl
every_both p q r step (x ∷ xs) e f =
    let b = and_parts (p x) (list_all p xs) e in
    let c = and_parts (q x) (list_all q xs) f in and_from (r x) (list_all r xs) (step x b.0 c.0)
    (every_both p q r step xs b.1 c.1)

every_weaker : {X : Type 0} (p q : X → Bool) → ((x : X) → p x ≡ true → q x ≡ true) → (xs : List X)
    → list_all p xs ≡ true → list_all q xs ≡ true
every_weaker p q step xs e = every_both p p q (λ x h g. step x h) xs e e

short_wider : (most more : Limits) → AreWithin most more → (a : SymbolicHeap) → is_short most a ≡ true
    → is_short more a ≡ true
short_wider most more le a e =
    let b = and_parts (nat_le (length a.pure) most.pure) (nat_le (length a.spatial) most.spatial) e in
    let pures = leb-true (length a.pure) most.pure b.0 in
    let spatials = leb-true (length a.spatial) most.spatial b.1 in
    and_from (nat_le (length a.pure) more.pure) (nat_le (length a.spatial) more.spatial)
    (le-leb (length a.pure) more.pure (omega (arith, le.pure)))
    (le-leb (length a.spatial) more.spatial (omega (arith, le.spatial)))

needs_ok : (b : Bool) (f : RuleFault) (rest : Answer) (ps : List Premise) → needs b f rest ≡ Ok ps
    → (b ≡ true) × (rest ≡ Ok ps)
needs_ok true f rest ps e = (refl, e)
needs_ok false f rest ps e = absurd cc

needs_from : (b : Bool) (f : RuleFault) (rest : Answer) → b ≡ true → needs b f rest ≡ rest
needs_from true f rest e = refl
needs_from false f rest e = absurd cc

-- ---- answers

-- the second answer has the premises of the first, and the first those of the second where they have few atoms
pub record Widens (most : Limits) (answer other : Answer) : Type 0 where
  pub rises : (ps : List Premise) → answer ≡ Ok ps → other ≡ Ok ps
  pub falls : (ps : List Premise) → other ≡ Ok ps → each_heap (is_short_heap most) ps ≡ true → answer ≡ Ok ps

module _ (most more : Limits) (le : AreWithin most more) where
  same : (answer : Answer) → Widens most answer answer
  same answer = record { rises = λ ps e. e; falls = λ ps e few. e }

  needs_wide : (b : Bool) (f : RuleFault) (answer other : Answer) → Widens most answer other
      → Widens most (needs b f answer) (needs b f other)
  needs_wide true f answer other w = w
  needs_wide false f answer other w = same (Err f)

  finds_wide : {X : Type 0} (o : Option X) (f : RuleFault) (rest other : X → Answer)
      → ((x : X) → Widens most (rest x) (other x)) → Widens most (finds o f rest) (finds o f other)
  finds_wide None f rest other w = same (Err f)
  finds_wide (Some x) f rest other w = w x

  calls_wide : (x : Spatial) (rest other : ℕ → List Term → Answer)
      → ((q : ℕ) (ts : List Term) → Widens most (rest q ts) (other q ts)) → Widens most (calls x rest) (calls x other)
  calls_wide (Cell t ts) rest other w = same (Err NoSuchAtom)
  calls_wide (Pred q ts) rest other w = w q ts

  entails_wide : (j : Judgement) (rest other : SymbolicHeap → List SymbolicHeap → Answer)
      → ((a : SymbolicHeap) (bs : List SymbolicHeap) → Widens most (rest a bs) (other a bs))
      → Widens most (entails j rest) (entails j other)
  entails_wide (Entail a bs) rest other w = w a bs
  entails_wide (Runs i a) rest other w = same (Err WrongJudgement)

  one_heap_wide : (bs : List SymbolicHeap) (rest other : SymbolicHeap → Answer)
      → ((b : SymbolicHeap) → Widens most (rest b) (other b)) → Widens most (one_heap bs rest) (one_heap bs other)
  one_heap_wide [] rest other w = same (one_heap [] rest)
  one_heap_wide (b ∷ []) rest other w = w b
  one_heap_wide (b ∷ c ∷ bs) rest other w = same (one_heap (b ∷ c ∷ bs) rest)

  single_wide : (j : Judgement) (rest other : SymbolicHeap → SymbolicHeap → Answer)
      → ((a b : SymbolicHeap) → Widens most (rest a b) (other a b)) → Widens most (single j rest) (single j other)
  single_wide j rest other w = entails_wide j (λ a bs. one_heap bs (rest a)) (λ a bs. one_heap bs (other a))
      (λ a bs. one_heap_wide bs (rest a) (other a) (w a))

  runs_wide : (j : Judgement) (rest other : ℕ → SymbolicHeap → Answer)
      → ((i : ℕ) (a : SymbolicHeap) → Widens most (rest i a) (other i a)) → Widens most (runs j rest) (runs j other)
  runs_wide (Entail a bs) rest other w = same (Err WrongJudgement)
  runs_wide (Runs i a) rest other w = w i a

  limited_wide : (ps : List Premise) → Widens most (limited most ps) (limited more ps)
  limited_wide ps = record { rises = rise; falls = fall }
    where
      numbers : Answer
      numbers = needs (each_heap has_numbers ps) NoFreshVariable (Ok ps)

      rise : (qs : List Premise) → limited most ps ≡ Ok qs → limited more ps ≡ Ok qs
      rise qs e =
          let b = needs_ok (each_heap (is_short most) ps) TooManyAtoms numbers qs e in
          let short = every_weaker (λ (p : Premise). list_all (is_short most) (heaps_of p.judgement))
          (λ (p : Premise). list_all (is_short more) (heaps_of p.judgement))
          (λ p h. every_weaker (is_short most) (is_short more) (short_wider most more le) (heaps_of p.judgement) h)
          ps b.0 in
          needs_from (each_heap (is_short more) ps) TooManyAtoms numbers short ∙ b.1

      fall : (qs : List Premise) → limited more ps ≡ Ok qs → each_heap (is_short_heap most) qs ≡ true
          → limited most ps ≡ Ok qs
      fall qs e few =
          let b = needs_ok (each_heap (is_short more) ps) TooManyAtoms numbers qs e in
          let n = needs_ok (each_heap has_numbers ps) NoFreshVariable (Ok ps) qs b.1 in
          let ok : Ok ps ≡ Ok qs = n.1 in
          let is : ps ≡ qs = cc in
          let few_here : each_heap (is_short_heap most) ps
          ≡ true = subst (λ (xs : List Premise). each_heap (is_short_heap most) xs ≡ true) (sym is) few in
          let short = every_both (λ (p : Premise). list_all (is_short more) (heaps_of p.judgement))
          (λ (p : Premise). list_all (is_short_heap most) (heaps_of p.judgement))
          (λ (p : Premise). list_all (is_short most) (heaps_of p.judgement))
          (λ p h g. every_both (is_short more) (is_short_heap most) (is_short most) (λ a h g. g)
          (heaps_of p.judgement) h g) ps b.0 few_here in
          needs_from (each_heap (is_short most) ps) TooManyAtoms numbers short ∙ b.1

  -- ---- rules

  command_wide : (i : ℕ) (a : SymbolicHeap) (n : ℕ) (c : Command)
      → Widens most (command_answer most i a n c) (command_answer more i a n c)
  command_wide i a n Stop = same (Ok [])
  command_wide i a n (Ends bs) = limited_wide (one (with_right a bs))
  command_wide i a n (IfAny j) = limited_wide (two (at_line j a a) (at_line (i + 1) a a))
  command_wide i a n (Goto j) = limited_wide (one (at_line j a a))
  command_wide i a n (IfEq t u j) = limited_wide (two (at_line j a (with_atom a (Eq t u)))
      (at_line (i + 1) a (with_atom a (Neq t u))))
  command_wide i a n (IfNeq t u j) = limited_wide (two (at_line j a (with_atom a (Neq t u)))
      (at_line (i + 1) a (with_atom a (Eq t u))))
  command_wide i a n (Assign x t) = limited_wide (one (at_line (i + 1) a
      (with_atom (renamed x n a) (Eq (Univ x) (renamed_term x n t)))))
  command_wide i a n (Load x t k) =
      finds_wide (cell_of a.pure t a.spatial) NoCell _ _
      (λ c. finds_wide (counted_from_one c.fields k) NoCell _ _
      (λ f. limited_wide (one (at_line (i + 1) a (with_atom (renamed x n a) (Eq (Univ x) (renamed_term x n f)))))))
  command_wide i a n (Store t k u) =
      finds_wide (cell_of a.pure t a.spatial) NoCell _ _
      (λ c. finds_wide (counted_from_one c.fields k) NoCell _ _
      (λ f. limited_wide (one (at_line (i + 1) a (with_field a c k u)))))
  command_wide i a n (New x k) = limited_wide (one (at_line (i + 1) a
      (with_cell (renamed x n a) x (variables_from (n + 1) k))))
  command_wide i a n (Free t) = finds_wide (cell_of a.pure t a.spatial) NoCell _ _
      (λ c. limited_wide (one (record {
        judgement = Runs (i + 1) (without_spatial c.place a);
        pairs = kept_pairs c.place a.spatial;
      })))

  pub rule_wide : (ds : List Definition) (lines : List Command) (j : Judgement) (rule : Rule)
      → Widens most (rule_answer most ds lines j rule) (rule_answer more ds lines j rule)
  rule_wide ds lines j (Unfold k) =
      finds_wide (slice_get (antecedent j).spatial k) NoSuchAtom _ _
      (λ x. calls_wide x _ _ (λ q ts. limited_wide (map (unfold_premise j k ts
      (fresh_number (variables_of lines j) j)) (cases_of ds q))))
  rule_wide ds lines j (Cut places f) = needs_wide (ascend_from 0 (length (antecedent j).spatial) places) NoSuchAtom _ _
      (limited_wide (two (cut_left (antecedent j) (has_number places) f)
      (cut_right j (has_number places) f (max (fresh_number (variables_of lines j) j) (heap_bound f)))))
  rule_wide ds lines j (UnfoldRight k c) =
      single_wide j _ _ (λ a b.
      finds_wide (slice_get b.spatial k) NoSuchAtom _ _
      (λ x. calls_wide x _ _ (λ q ts. finds_wide (slice_get (cases_of ds q) c) NoSuchCase _ _
      (λ case. limited_wide (one (with_right a (unfolded b k (in_heap (right_term ts (heap_exists b)) case)
      ∷ [])))))))
  rule_wide ds lines j Exec =
      runs_wide j _ _ (λ i a. finds_wide (counted_from_one lines i) WrongJudgement _ _
      (λ c. command_wide i a (fresh_number (program_variables lines) j) c))
  rule_wide ds lines j (Split t u) = limited_wide (two (with_pure j (Eq t u)) (with_pure j (Neq t u)))
  rule_wide ds lines j (Distinct i k) =
      finds_wide (slice_get (antecedent j).spatial i) NoSuchAtom _ _
      (λ x. finds_wide (slice_get (antecedent j).spatial k) NoSuchAtom _ _
      (λ y. finds_wide (address_of x) NoCell _ _
      (λ t. finds_wide (address_of y) NoCell _ _
      (λ u. limited_wide (one (with_pure j (Neq t (if nat_eq i k then Nil else u))))))))
  rule_wide ds lines j rule = same (rule_answer most ds lines j rule)
