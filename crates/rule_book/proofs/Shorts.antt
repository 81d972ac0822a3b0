-- The numbers that a rule or a link names are short.
use Rattle.std.proofs.Common.{◌≡◌, ℕ, suc, ◌<◌, ◌≤◌, Bool, true, ◌&&◌, List, [], ◌∷◌, map, length, Some, None, subst}
use Rattle.std.proofs.Common.{arith, ltb-true, not}
use Rattle.std.proofs.lemmas.Option.{slice_get_within}
use Rattle.std.specs.Prelude.{Ok, Err, nat_eq, nat_le, nat_lt, slice_get}
use Rattle.cyc_basics.specs.declared.limits.TheConstants.{MOST_PURE}
use Rattle.cyc_basics.specs.Limits.{AreLimits}
use Rattle.cyc_basics.specs.declared.limits.Limits.{Limits}
use Rattle.heap_formula.specs.declared.atoms.Pure.{Pure}
use Rattle.heap_formula.specs.declared.atoms.Spatial.{Spatial}
use Rattle.heap_formula.specs.declared.atoms.Spatial.TheVariants.{Cell, Pred}
use Rattle.heap_formula.specs.declared.commands.Command.{Command}
use Rattle.heap_formula.specs.declared.judgements.Judgement.{Judgement}
use Rattle.heap_formula.specs.declared.judgements.Judgement.TheVariants.{Entail, Term as Runs}
use Rattle.heap_formula.specs.declared.judgements.Premise.{Premise}
use Rattle.heap_formula.specs.declared.proof_rules.Link.{Link}
use Rattle.heap_formula.specs.declared.proof_rules.Rule.{Rule}
use Rattle.heap_formula.specs.declared.proof_rules.Rule.TheVariants.{Rewrite, Distinct, Weaken, Unfold, Cut, Choose}
use Rattle.heap_formula.specs.declared.proof_rules.Rule.TheVariants.{PureRight, Frame, UnfoldRight, Drop}
use Rattle.heap_formula.specs.declared.proof_rules.RuleFault.{RuleFault}
use Rattle.heap_formula.specs.declared.proof_rules.RuleFault.TheVariants.{NoSuchAtom, NoSuchCase, LineDiffers}
use Rattle.heap_formula.specs.declared.proof_rules.RuleFault.TheVariants.{LinkProgramVariable, WrongJudgement}
use Rattle.heap_formula.specs.Definitions.{Definition}
use Rattle.heap_formula.specs.Fresh.{heap_exists}
use Rattle.heap_formula.specs.Judgements.{antecedent}
use Rattle.heap_formula.specs.Meaning.{cases_of}
use Rattle.heap_formula.specs.Substitution.{in_heap, apply_spatial, apply_heap}
use Rattle.heap_formula.specs.Programs.{has_ends}
use Rattle.heap_formula.specs.Symbolic.{SymbolicHeap}
use Rattle.heap_formula.specs.Words.{Each}
use Rattle.rule_table.specs.Answer.{Answer, finds, limited, one}
use Rattle.rule_table.specs.LinkTable.{fault_unless, keeps_below, parts_fault, link_fault}
use Rattle.rule_table.specs.RuleBook.{rule_answer}
use Rattle.rule_table.specs.RuleLink.{MapsInto, DisjunctsCover}
use Rattle.rule_table.specs.Table.{with_right, calls, right_term}
use Rattle.rule_table.specs.RuleUnfold.{unfolded}
use Rattle.rule_table.specs.Tests.{ascend_from}
use Rattle.rule_table.proofs.LinkRule.{none_of_two, parts_are}
use Rattle.rule_book.specs.Limits.{IsHeapWithin, IsJudgementWithin, IsDefinitionWithin, IsShortNumber, HasShortRule}
use Rattle.rule_book.specs.Limits.{HasShortLink}
use Rattle.rule_book.proofs.Gives.{needs_gives, finds_gives, entails_gives, single_gives, runs_gives}
use Rattle.rule_book.proofs.Heaps.{IsSmall, small}
use Rattle.rule_book.proofs.Judgements.{first_heap}
use Rattle.rule_book.proofs.Few.{are_few}
use Rattle.rule_table.proofs.FewPremises.{few_cases}
use Rattle.std.proofs.lemmas.Bool.{and_parts}

-- a place in a short list
short_at : {X : Type 0} (xs : List X) (k : ℕ) (x : X) → slice_get xs k ≡ Some x → length xs ≤ MOST_PURE
    → IsShortNumber k
short_at xs k x at few = let w = slice_get_within xs k x at in omega arith

places_short : (k n : ℕ) (places : List ℕ) → ascend_from k n places ≡ true → n ≤ MOST_PURE → Each IsShortNumber places
places_short k n [] e few = tt
places_short k n (i ∷ is) e few =
    let f = and_parts (nat_le k i && nat_lt i n) (ascend_from (suc i) n is) e in
    let below : i < n = ltb-true i n (and_parts (nat_le k i) (nat_lt i n) f.0).1 in
    (omega arith, places_short (suc i) n is f.1 few)

-- ---- rules

-- an answer with premises gives it
abbrev Gives : Type 0 → List Premise → Answer → Type 0
Gives X ps answer = answer ≡ Ok ps → X

no_answer : (X : Type 0) (ps : List Premise) (f : RuleFault) → Gives X ps (Err f)
no_answer X ps f e = cc

right_short : (most : Limits) (bounded : AreLimits most) (ds : List Definition) (ps : List Premise) (a b : SymbolicHeap)
    (k c : ℕ) (x : Spatial) → Each (IsDefinitionWithin most ds) ds → Gives (IsShortNumber c) ps
    (calls x (λ q ts. finds (slice_get (cases_of ds q) c) NoSuchCase
    (λ case. limited most (one (with_right a (unfolded b k (in_heap (right_term ts (heap_exists b)) case) ∷ []))))))
right_short most bounded ds ps a b k c (Cell t ts) d = no_answer (IsShortNumber c) ps NoSuchAtom
right_short most bounded ds ps a b k c (Pred q ts) d =
    finds_gives (Gives (IsShortNumber c) ps) (no_answer (IsShortNumber c) ps) (slice_get (cases_of ds q) c) NoSuchCase _
    (λ case at e. let few = few_cases ds (are_few most ds bounded ds d) q in
    short_at (cases_of ds q) c case at (omega arith))

module _ (most : Limits) (bounded : AreLimits most) (ds : List Definition) (lines : List Command) (j : Judgement)
    (ps : List Premise) (d : Each (IsDefinitionWithin most ds) ds) (h : IsJudgementWithin most ds (length lines) j)
  where
    s : IsSmall most ds (antecedent j)
    s = small most ds (antecedent j) (first_heap (IsHeapWithin most ds) j h.heaps)

    same : (i : Judgement) → j ≡ i → IsJudgementWithin most ds (length lines) i
    same i e = subst (λ (i : Judgement). IsJudgementWithin most ds (length lines) i) e h

    few_spatials : length (antecedent j).spatial ≤ MOST_PURE
    few_spatials = let m = s.spatials in omega (arith, bounded.spatial)

    pub rule_short : (rule : Rule) → rule_answer most ds lines j rule ≡ Ok ps → HasShortRule rule
    rule_short (Rewrite k side) =
        let X = IsShortNumber k in finds_gives (Gives X ps) (no_answer X ps) (slice_get (antecedent j).pure k)
        NoSuchAtom _ (λ x at e. short_at (antecedent j).pure k x at (let few = s.pures in omega (arith, bounded.pure)))
    rule_short (Distinct i k) =
        let X = IsShortNumber i × IsShortNumber k in
        finds_gives (Gives X ps) (no_answer X ps) (slice_get (antecedent j).spatial i) NoSuchAtom _ (λ x at_i.
        finds_gives (Gives X ps) (no_answer X ps) (slice_get (antecedent j).spatial k) NoSuchAtom _ (λ y at_k e.
        (short_at (antecedent j).spatial i x at_i few_spatials, short_at (antecedent j).spatial k y at_k few_spatials)))
    rule_short (Weaken k) =
        let X = IsShortNumber k in finds_gives (Gives X ps) (no_answer X ps) (slice_get (antecedent j).pure k)
        NoSuchAtom _ (λ x at e. short_at (antecedent j).pure k x at (let few = s.pures in omega (arith, bounded.pure)))
    rule_short (Unfold k) =
        let X = IsShortNumber k in finds_gives (Gives X ps) (no_answer X ps) (slice_get (antecedent j).spatial k)
        NoSuchAtom _ (λ x at e. short_at (antecedent j).spatial k x at few_spatials)
    rule_short (Cut places f) =
        let X = Each IsShortNumber places in
        needs_gives (Gives X ps) (no_answer X ps) (ascend_from 0 (length (antecedent j).spatial) places) NoSuchAtom _
        (λ up e. places_short 0 (length (antecedent j).spatial) places up few_spatials)
    rule_short (Choose k) =
        let X = IsShortNumber k in
        entails_gives (Gives X ps) (no_answer X ps) j _ (λ a bs is.
        finds_gives (Gives X ps) (no_answer X ps) (slice_get bs k) NoSuchAtom _ (λ b at e.
        let few = (same (Entail a bs) is).form.1 in short_at bs k b at (omega arith)))
    rule_short (PureRight k) =
        let X = IsShortNumber k in
        single_gives (Gives X ps) (no_answer X ps) j _ (λ a b is.
        finds_gives (Gives X ps) (no_answer X ps) (slice_get b.pure k) NoSuchAtom _ (λ x at e.
        let few = (small most ds b (same (Entail a (b ∷ [])) is).heaps.1.0).pures in
        short_at b.pure k x at (omega (arith, bounded.pure))))
    rule_short (Frame i k) =
        let X = IsShortNumber i × IsShortNumber k in
        single_gives (Gives X ps) (no_answer X ps) j _ (λ a b is.
        finds_gives (Gives X ps) (no_answer X ps) (slice_get a.spatial i) NoSuchAtom _ (λ x at_i.
        finds_gives (Gives X ps) (no_answer X ps) (slice_get b.spatial k) NoSuchAtom _ (λ y at_k e.
        let w = same (Entail a (b ∷ [])) is in
        let left = (small most ds a w.heaps.0).spatials in
        let right = (small most ds b w.heaps.1.0).spatials in (
          short_at a.spatial i x at_i (omega (arith, bounded.spatial)),
          short_at b.spatial k y at_k (omega (arith, bounded.spatial)),
        ))))
    rule_short (UnfoldRight k c) =
        let X = IsShortNumber k × IsShortNumber c in
        single_gives (Gives X ps) (no_answer X ps) j _ (λ a b is.
        finds_gives (Gives X ps) (no_answer X ps) (slice_get b.spatial k) NoSuchAtom _ (λ x at e.
        let few = (small most ds b (same (Entail a (b ∷ [])) is).heaps.1.0).spatials in
        (short_at b.spatial k x at (omega (arith, bounded.spatial)), right_short most bounded ds ps a b k c x d e)))
    rule_short (Drop k) =
        let X = IsShortNumber k in
        needs_gives (Gives X ps) (no_answer X ps) (not (has_ends lines)) WrongJudgement _ (λ none.
        runs_gives (Gives X ps) (no_answer X ps) j _ (λ i a is.
        finds_gives (Gives X ps) (no_answer X ps) (slice_get a.spatial k) NoSuchAtom _ (λ x at e.
        let few = (small most ds a (same (Runs i a) is).heaps.0).spatials in
        short_at a.spatial k x at (omega (arith, bounded.spatial)))))
    rule_short rule = λ e. tt

-- ---- links

map_short : (pures : List Pure) (atoms : List Spatial) (free : ℕ → Bool) (ms : List ℕ) (xs : List Spatial)
    → length atoms ≤ MOST_PURE → MapsInto pures atoms free ms xs → Each IsShortNumber ms
map_short pures atoms free [] xs few m = tt
map_short pures atoms free (k ∷ ms) [] few m = absurd m
map_short pures atoms free (k ∷ ms) (x ∷ xs) few m =
    (short_at atoms k m.0 m.1 few, map_short pures atoms _ ms xs few m.4)

disjuncts_short : (bs : List SymbolicHeap) (ms : List ℕ) (cs : List SymbolicHeap) → length bs ≤ MOST_PURE
    → DisjunctsCover bs ms cs → Each IsShortNumber ms
disjuncts_short bs [] cs few m = tt
disjuncts_short bs (k ∷ ms) [] few m = absurd m
disjuncts_short bs (k ∷ ms) (c ∷ cs) few m = (short_at bs k m.0 m.1 few, disjuncts_short bs ms cs few m.3)

parts_short : (a : SymbolicHeap) (bs : List SymbolicHeap) (b : SymbolicHeap) (cs : List SymbolicHeap) (whole : Bool)
    (link : Link) → length a.spatial ≤ MOST_PURE → length bs ≤ MOST_PURE → parts_fault a bs b cs whole link ≡ None
    → IsShortNumber link.target → HasShortLink link
parts_short a bs b cs whole link few_atoms few_disjuncts e short =
    let parts = parts_are a bs b cs whole link e in
    record {
      target = short;
      map = map_short a.pure a.spatial (λ _. true) link.map (map (apply_spatial link.subst) b.spatial)
          few_atoms parts.1;
      disjuncts = disjuncts_short bs link.disjuncts (map (apply_heap link.subst) cs) few_disjuncts parts.3;
    }

pub link_short : (most : Limits) (ds : List Definition) (count p : ℕ) (bud companion : Judgement) (link : Link)
    → AreLimits most
    → IsJudgementWithin most ds count bud → link_fault bud companion link p ≡ None → IsShortNumber link.target
    → HasShortLink link
link_short most ds count p (Entail a bs) (Entail b cs) link bounded h e short =
    let atoms = (small most ds a h.heaps.0).spatials in
    let few = h.form.1 in
    parts_short a bs b cs (nat_le (length a.spatial) (length b.spatial)) link (omega (arith, bounded.spatial)) (omega arith) e short
link_short most ds count p (Runs i a) (Runs k b) link bounded h e short =
    let f = none_of_two (fault_unless (nat_eq i k) LineDiffers) _ e in
    let g = none_of_two (fault_unless (keeps_below link.subst p) LinkProgramVariable) (parts_fault a [] b [] true link)
    f.1 in
    let atoms = (small most ds a h.heaps.0).spatials in
    parts_short a [] b [] true link (omega arith) (omega arith) g.1 short
link_short most ds count p bud companion link bounded h e short = cc
