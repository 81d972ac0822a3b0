-- A rule has few premises where each predicate has few cases.
use Rattle.std.proofs.Common.{◌≡◌, ℕ, zero, suc, ◌+◌, ◌≤◌, Bool, true, false, cond, List, [], ◌∷◌, map, length, Option}
use Rattle.std.proofs.Common.{Some, None, Ok, Err, not, subst, arith}
use Rattle.std.specs.Prelude.{slice_get, nat_eq, max, if◌then◌else◌}
use Rattle.std.proofs.lemmas.List.{length-map}
use Rattle.cyc_basics.specs.declared.limits.Limits.{Limits}
use Rattle.cyc_basics.specs.declared.limits.TheConstants.{MOST_CASES}
use Rattle.heap_formula.specs.declared.terms.Term.{Term}
use Rattle.heap_formula.specs.declared.terms.Term.TheVariants.{Nil, Univ, Exist}
use Rattle.heap_formula.specs.declared.atoms.Pure.{Pure}
use Rattle.heap_formula.specs.declared.atoms.Pure.TheVariants.{Eq, Neq}
use Rattle.heap_formula.specs.declared.atoms.Spatial.{Spatial}
use Rattle.heap_formula.specs.declared.atoms.Spatial.TheVariants.{Cell, Pred}
use Rattle.heap_formula.specs.declared.commands.Command.{Command}
use Rattle.heap_formula.specs.declared.commands.Command.TheVariants.{Assign, Load, Store, New, Free, IfEq, IfNeq, IfAny}
use Rattle.heap_formula.specs.declared.commands.Command.TheVariants.{Goto, Stop, Ends}
use Rattle.heap_formula.specs.declared.judgements.Judgement.{Judgement}
use Rattle.heap_formula.specs.declared.judgements.Judgement.TheVariants.{Entail, Term as Runs}
use Rattle.heap_formula.specs.declared.judgements.Premise.{Premise}
use Rattle.heap_formula.specs.declared.proof_rules.Rule.{Rule}
use Rattle.heap_formula.specs.declared.proof_rules.Rule.TheVariants.{Absurd, Rewrite, Split, Distinct, Weaken, Unfold}
use Rattle.heap_formula.specs.declared.proof_rules.Rule.TheVariants.{Cut, Done, Choose, PureRight, Instantiate, Frame}
use Rattle.heap_formula.specs.declared.proof_rules.Rule.TheVariants.{UnfoldRight, Exec, Drop}
use Rattle.heap_formula.specs.Symbolic.{SymbolicHeap}
use Rattle.heap_formula.specs.Definitions.{Definition, HasFewCases}
use Rattle.heap_formula.specs.Words.{Each}
use Rattle.heap_formula.specs.Meaning.{cases_of}
use Rattle.heap_formula.specs.Programs.{counted_from_one}
use Rattle.rule_table.specs.Answer.{Answer, needs, finds, entails, one_heap, single, runs, limited, one, two, each_heap}
use Rattle.rule_table.specs.Answer.{is_short, has_numbers}
use Rattle.heap_formula.specs.declared.proof_rules.Side.{Side}
use Rattle.heap_formula.specs.declared.proof_rules.RuleFault.TheVariants.{NoSuchAtom, AtomsDiffer, HasExistential}
use Rattle.heap_formula.specs.declared.proof_rules.RuleFault.TheVariants.{NotFollowing, NotAbsurd, NoSuchCase, NoCell}
use Rattle.heap_formula.specs.declared.proof_rules.RuleFault.TheVariants.{WrongJudgement}
use Rattle.heap_formula.specs.Fresh.{heap_bound, heap_exists, fresh_number, variables_from}
use Rattle.heap_formula.specs.Judgements.{antecedent}
use Rattle.heap_formula.specs.Positions.{without, kept_pairs}
use Rattle.heap_formula.specs.Programs.{program_variables, has_ends}
use Rattle.heap_formula.specs.Substitution.{in_heap}
use Rattle.rule_table.specs.RuleUnfold.{unfold_premise, unfolded}
use Rattle.rule_table.specs.RuleCut.{cut_left, cut_right}
use Rattle.rule_table.specs.Tests.{same_term, same_spatial, is_universal_pure, is_universal_spatial, follows, is_absurd}
use Rattle.rule_table.specs.Tests.{address_of, ascend_from, has_number}
use Rattle.rule_table.specs.ExecTable.{cell_of, renamed, renamed_term, with_atom, with_cell, with_field, at_line}
use Rattle.rule_table.specs.ExecTable.{command_answer}
use Rattle.rule_table.specs.Table.{with_pures, with_pure, with_right, without_pure, without_spatial, named, unnamed}
use Rattle.rule_table.specs.Table.{rewrite_side, rewrite_atom, calls, are_empty, right_term}
use Rattle.rule_table.specs.RuleBook.{variables_of, rule_answer}
use Rattle.heap_formula.specs.declared.proof_rules.RuleFault.{RuleFault}

abbrev pub IsFew : Answer → Type 0
IsFew (Ok ps) = length ps ≤ MOST_CASES
IsFew (Err f) = Unit {0}

needs_few : (b : Bool) (f : RuleFault) (rest : Answer) → IsFew rest → IsFew (needs b f rest)
needs_few true f rest h = h
needs_few false f rest h = tt

finds_few : {X : Type 0} (o : Option X) (f : RuleFault) (rest : X → Answer) → ((x : X) → IsFew (rest x))
    → IsFew (finds o f rest)
finds_few None f rest h = tt
finds_few (Some x) f rest h = h x

limited_few : (most : Limits) (ps : List Premise) → length ps ≤ MOST_CASES → IsFew (limited most ps)
limited_few most ps h = needs_few (each_heap (is_short most) ps) _ _ (needs_few (each_heap has_numbers ps) _ _ h)

entails_few : (j : Judgement) (rest : SymbolicHeap → List SymbolicHeap → Answer)
    → ((a : SymbolicHeap) (bs : List SymbolicHeap) → IsFew (rest a bs)) → IsFew (entails j rest)
entails_few (Entail a bs) rest h = h a bs
entails_few (Runs i a) rest h = tt

one_heap_few : (bs : List SymbolicHeap) (rest : SymbolicHeap → Answer) → ((b : SymbolicHeap) → IsFew (rest b))
    → IsFew (one_heap bs rest)
one_heap_few [] rest h = tt
one_heap_few (b ∷ []) rest h = h b
one_heap_few (b ∷ c ∷ bs) rest h = tt

single_few : (j : Judgement) (rest : SymbolicHeap → SymbolicHeap → Answer) → ((a b : SymbolicHeap) → IsFew (rest a b))
    → IsFew (single j rest)
single_few (Entail a bs) rest h = one_heap_few bs (rest a) (h a)
single_few (Runs i a) rest h = tt

runs_few : (j : Judgement) (rest : ℕ → SymbolicHeap → Answer) → ((i : ℕ) (a : SymbolicHeap) → IsFew (rest i a))
    → IsFew (runs j rest)
runs_few (Entail a bs) rest h = tt
runs_few (Runs i a) rest h = h i a

calls_few : (x : Spatial) (rest : ℕ → List Term → Answer) → ((q : ℕ) (ts : List Term) → IsFew (rest q ts))
    → IsFew (calls x rest)
calls_few (Cell t ts) rest h = tt
calls_few (Pred q ts) rest h = h q ts

pub few_cases : (ds : List Definition) → Each HasFewCases ds → (q : ℕ) → length (cases_of ds q) ≤ MOST_CASES
few_cases [] h q = omega arith
few_cases (d ∷ ds) h zero = h.0
few_cases (d ∷ ds) h (suc q) = few_cases ds h.1 q

cond_few : (b : Bool) (x y : Answer) → IsFew x → IsFew y → IsFew (cond b x y)
cond_few true x y h k = h
cond_few false x y h k = k

side_few : (p : ℕ) (j : Judgement) (k : ℕ) (x : Pure) (t u : Term) → IsFew (rewrite_side p j k x t u)
side_few p j k x Nil u = tt
side_few p j k x (Exist n) u = tt
side_few p j k x (Univ v) u = omega arith

command_few : (most : Limits) (i : ℕ) (a : SymbolicHeap) (n : ℕ) (c : Command) → IsFew (command_answer most i a n c)
command_few most i a n Stop = omega arith
command_few most i a n (Ends bs) = limited_few most (one (with_right a bs)) (omega arith)
command_few most i a n (Goto j) = limited_few most (one (at_line j a a)) (omega arith)
command_few most i a n (IfEq t u j) =
    limited_few most (two (at_line j a (with_atom a (Eq t u))) (at_line (i + 1) a (with_atom a (Neq t u))))
    (omega arith)
command_few most i a n (IfNeq t u j) =
    limited_few most (two (at_line j a (with_atom a (Neq t u))) (at_line (i + 1) a (with_atom a (Eq t u))))
    (omega arith)
command_few most i a n (IfAny j) = limited_few most (two (at_line j a a) (at_line (i + 1) a a)) (omega arith)
command_few most i a n (Assign x t) =
    limited_few most (one (at_line (i + 1) a (with_atom (renamed x n a) (Eq (Univ x) (renamed_term x n t)))))
    (omega arith)
command_few most i a n (Load x t k) =
    finds_few (cell_of a.pure t a.spatial) NoCell _ (λ c.
    finds_few (counted_from_one c.fields k) NoCell _ (λ f.
    limited_few most (one (at_line (i + 1) a (with_atom (renamed x n a) (Eq (Univ x) (renamed_term x n f)))))
    (omega arith)))
command_few most i a n (Store t k u) =
    finds_few (cell_of a.pure t a.spatial) NoCell _ (λ c.
    finds_few (counted_from_one c.fields k) NoCell _ (λ f.
    limited_few most (one (at_line (i + 1) a (with_field a c k u))) (omega arith)))
command_few most i a n (New x k) =
    limited_few most (one (at_line (i + 1) a (with_cell (renamed x n a) x (variables_from (n + 1) k)))) (omega arith)
command_few most i a n (Free t) =
    finds_few (cell_of a.pure t a.spatial) NoCell _ (λ c.
    limited_few most (one (record {
      judgement = Runs (i + 1) (without_spatial c.place a);
      pairs = kept_pairs c.place a.spatial;
    })) (omega arith))

empty_few : (xs : List Spatial) (ps : List Pure) (ys : List Spatial) → IsFew (are_empty xs ps ys)
empty_few [] [] [] = omega arith
empty_few [] [] (y ∷ ys) = tt
empty_few [] (p ∷ ps) ys = tt
empty_few (x ∷ xs) ps ys = tt

atom_few : (p : ℕ) (j : Judgement) (k : ℕ) (side : Side) (x : Pure) → IsFew (rewrite_atom p j k side x)
atom_few p j k side (Neq t u) = tt
atom_few p j k side (Eq t u) =
    cond_few (same_term t u) (Ok (one (with_pures j (without k (antecedent j).pure))))
    (rewrite_side p j k (Eq t u) (named side t u) (unnamed side t u)) (omega arith)
    (side_few p j k (Eq t u) (named side t u) (unnamed side t u))

pub rule_few : (most : Limits) (ds : List Definition) (lines : List Command) → Each HasFewCases ds
    → (j : Judgement) (rule : Rule) → IsFew (rule_answer most ds lines j rule)
rule_few most ds lines h j Absurd = needs_few (is_absurd (antecedent j)) NotAbsurd (Ok []) (omega arith)
rule_few most ds lines h j (Rewrite k side) =
    finds_few (slice_get (antecedent j).pure k) NoSuchAtom (rewrite_atom (variables_of lines j) j k side)
    (atom_few (variables_of lines j) j k side)
rule_few most ds lines h j (Split t u) = limited_few most (two (with_pure j (Eq t u)) (with_pure j (Neq t u)))
    (omega arith)
rule_few most ds lines h j (Distinct i k) =
    finds_few (slice_get (antecedent j).spatial i) NoSuchAtom _ (λ x.
    finds_few (slice_get (antecedent j).spatial k) NoSuchAtom _ (λ y.
    finds_few (address_of x) NoCell _ (λ t.
    finds_few (address_of y) NoCell _ (λ u.
    limited_few most (one (with_pure j (Neq t (if nat_eq i k then Nil else u)))) (omega arith)))))
rule_few most ds lines h j (Weaken k) = finds_few (slice_get (antecedent j).pure k) NoSuchAtom _ (λ x. omega arith)
rule_few most ds lines h j (Unfold k) =
    finds_few (slice_get (antecedent j).spatial k) NoSuchAtom _ (λ x.
    calls_few x _ (λ q ts.
    limited_few most (map (unfold_premise j k ts (fresh_number (variables_of lines j) j)) (cases_of ds q))
    (let l = length-map (cases_of ds q) (unfold_premise j k ts (fresh_number (variables_of lines j) j)) in
    let c = few_cases ds h q in omega arith)))
rule_few most ds lines h j (Cut places f) =
    needs_few (ascend_from 0 (length (antecedent j).spatial) places) NoSuchAtom
    (limited most (two (cut_left (antecedent j) (has_number places) f)
    (cut_right j (has_number places) f (max (fresh_number (variables_of lines j) j) (heap_bound f)))))
    (limited_few most (two (cut_left (antecedent j) (has_number places) f)
    (cut_right j (has_number places) f (max (fresh_number (variables_of lines j) j) (heap_bound f)))) (omega arith))
rule_few most ds lines h j Done = single_few j (λ a b. are_empty a.spatial b.pure b.spatial)
    (λ a b. empty_few a.spatial b.pure b.spatial)
rule_few most ds lines h j (Choose k) = entails_few j _
    (λ a bs. finds_few (slice_get bs k) NoSuchAtom _ (λ b. omega arith))
rule_few most ds lines h j (PureRight k) =
    single_few j _ (λ a b.
    finds_few (slice_get b.pure k) NoSuchAtom _ (λ x.
    needs_few (is_universal_pure x) HasExistential
    (needs (follows a.pure x) NotFollowing (Ok (one (with_right a (without_pure k b ∷ [])))))
    (needs_few (follows a.pure x) NotFollowing (Ok (one (with_right a (without_pure k b ∷ [])))) (omega arith))))
rule_few most ds lines h j (Instantiate v t) = single_few j _ (λ a b. omega arith)
rule_few most ds lines h j (Frame i k) =
    single_few j _ (λ a b.
    finds_few (slice_get a.spatial i) NoSuchAtom _ (λ x.
    finds_few (slice_get b.spatial k) NoSuchAtom _ (λ y.
    needs_few (is_universal_spatial y) HasExistential
    (needs (same_spatial x y) AtomsDiffer (Ok (one (record
    { judgement = Entail (without_spatial i a) (without_spatial k b ∷ []); pairs = kept_pairs i a.spatial }))))
    (needs_few (same_spatial x y) AtomsDiffer (Ok (one (record
    { judgement = Entail (without_spatial i a) (without_spatial k b ∷ []); pairs = kept_pairs i a.spatial })))
    (omega arith)))))
rule_few most ds lines h j (UnfoldRight k c) =
    single_few j _ (λ a b.
    finds_few (slice_get b.spatial k) NoSuchAtom _ (λ x.
    calls_few x _ (λ q ts.
    finds_few (slice_get (cases_of ds q) c) NoSuchCase _ (λ case.
    limited_few most (one (with_right a (unfolded b k (in_heap (right_term ts (heap_exists b)) case) ∷ [])))
    (omega arith)))))
rule_few most ds lines h j Exec =
    runs_few j _ (λ i a. finds_few (counted_from_one lines i) WrongJudgement _
    (λ c. command_few most i a (fresh_number (program_variables lines) j) c))
rule_few most ds lines h j (Drop k) =
    needs_few (not (has_ends lines)) WrongJudgement _
    (runs_few j _ (λ i a. finds_few (slice_get a.spatial k) NoSuchAtom _ (λ x. omega arith)))

-- the premises that the table gives are few
pub premises_few : (answer : Answer) (ps : List Premise) → IsFew answer → answer ≡ Ok ps → length ps ≤ MOST_CASES
premises_few (Ok qs) ps h e = let same : qs ≡ ps = cc in subst (λ (xs : List Premise). length xs ≤ MOST_CASES) same h
premises_few (Err f) ps h e = absurd cc
