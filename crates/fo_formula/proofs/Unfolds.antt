-- Unfold is sound: the stages of the case's atoms are lower.
use Rattle.std.proofs.Common.{◌≡◌, ℕ, zero, suc, ◌+◌, ◌<◌, ◌≤◌, List, [], ◌∷◌, ◌++◌, map, length, Some, slice_get, refl}
use Rattle.std.proofs.Common.{sym, ap, ◌∙◌, subst, arith, append-nil, inl, inr}
use Rattle.std.proofs.Math.ListN.{get_or, get_or-map}
use Rattle.heap_formula.specs.Words.{Each, OneOf}
use Rattle.heap_formula.specs.Meaning.{Stages}
use Rattle.heap_formula.specs.Judgements.{Follows}
use Rattle.heap_formula.specs.Positions.{without, before}
use Rattle.fo_formula.specs.declared.terms.Sign.{Sign}
use Rattle.fo_formula.specs.declared.terms.Sign.TheVariants.{Universal, Local, Constructor}
use Rattle.fo_formula.specs.declared.atoms.FoAtom.{FoAtom}
use Rattle.fo_formula.specs.declared.atoms.FoAtom.TheVariants.{Predicate}
use Rattle.fo_formula.specs.declared.numbers.Kind.TheVariants.{Variables, Locals}
use Rattle.fo_formula.specs.declared.sequents.FoSequent.{FoSequent}
use Rattle.fo_formula.specs.declared.theory.FoTheory.{FoTheory}
use Rattle.fo_formula.specs.Words.{Word, in_atom, first_constant}
use Rattle.fo_formula.specs.Values.{IsClosedTerm, IsValuation, entry, sign_value, value}
use Rattle.fo_formula.specs.Meaning.{Family, AtomHolds, CaseHolds, cases_of, at_stage, least}
use Rattle.fo_formula.specs.Validity.{LeftHolds}
use Rattle.fo_formula.specs.Bounds.{atoms_bound, sequent_bound}
use Rattle.fo_formula.specs.Shapes.{HasConstant}
use Rattle.fo_formula.proofs.Replacing.{InAtom, IsValued, atom-replaced, entry_closed}
use Rattle.fo_formula.specs.Traces.{kept_pairs, child_pairs}
use Rattle.fo_formula.specs.Table.{variables_from, case_body, fresh_locals, unfold_premise}
use Rattle.fo_formula.specs.Soundness.{PremiseHolds, IsLocallySound}
use Rattle.fo_formula.proofs.Lefts.{then_stages, then_stages-first, then_stages-others, left_without, left_at}
use Rattle.fo_formula.proofs.Lefts.{left_append, left_each, pairs_follow_if, children_follow}
use Rattle.fo_formula.proofs.RuleLemmas.{pairs_append}
use Rattle.fo_formula.proofs.Agreement.{IsBelow, atoms_below, in_atom_map, Agrees, value_agrees, atom_agrees}
use Rattle.fo_formula.proofs.Agreement.{tabulated-at, tabulated-after, tabulated_each}
use Rattle.cyc_basics.specs.Words.{tabulated}
use Rattle.heap_formula.proofs.AllMembers.{each_append, each_at, each_or, each_without}

-- a list of variables at a place
variables-at : (n k j : ℕ) → j < k → get_or (variables_from n k) j first_constant ≡ Universal (n + j) ∷ []
variables-at n zero j h = absurd (omega arith)
variables-at n (suc k) zero h = let z : n ≡ n + 0 = omega arith in ap (λ m. Universal m ∷ []) z
variables-at n (suc k) (suc j) h =
    let z : suc n + j ≡ n + suc j = omega arith in
    variables-at (suc n) k j (omega arith) ∙ ap (λ m. Universal m ∷ []) z

-- atoms under a valuation that agrees
left_agrees : (n : ℕ) (v w : List Word) → Agrees n v w → (P : ℕ → Family) (xs : List FoAtom)
    → Each (InAtom (IsBelow Variables n)) xs → LeftHolds P v xs → LeftHolds P w xs
left_agrees n v w g P [] q h = tt
left_agrees n v w g P (x ∷ xs) q h =
    ((atom_agrees n v w g (P 0) x q.0).0 h.0, left_agrees n v w g (λ k. P (suc k)) xs q.1 h.1)

right_agrees : (n : ℕ) (v w : List Word) → Agrees n v w → (P : Family) (xs : List FoAtom)
    → Each (InAtom (IsBelow Variables n)) xs → OneOf (AtomHolds P w []) xs → OneOf (AtomHolds P v []) xs
right_agrees n v w g P [] q o = o
right_agrees n v w g P (x ∷ xs) q (inl a) = inl ((atom_agrees n v w g P x q.0).1 a)
right_agrees n v w g P (x ∷ xs) q (inr o) = inr (right_agrees n v w g P xs q.1 o)

-- the atoms of a case at arguments and terms hold where they hold of the values
case_back : (v w e : List Word) (g : Sign → Word) (P : Family) (Q : Sign → Type 0)
    → ((x : Sign) → Q x → IsValued v [] w e g x) → (xs : List FoAtom) → Each (InAtom Q) xs → Each (AtomHolds P w e) xs
    → Each (AtomHolds P v []) (map (in_atom g) xs)
case_back v w e g P Q f [] q h = tt
case_back v w e g P Q f (x ∷ xs) q h = (
  (atom-replaced v [] w e g P x (in_atom_map Q (IsValued v [] w e g) f x q.0)).1 h.0,
  case_back v w e g P Q f xs q.1 h.1,
)

module _ (t : FoTheory) (s : FoSequent) (i p : ℕ) (args : List Word) (n : ℕ) (constant : HasConstant t)
    (left_below : Each (InAtom (IsBelow Variables n)) s.left)
    (right_below : Each (InAtom (IsBelow Variables n)) s.right) (args_below : Each (Each (IsBelow Variables n)) args)
    (stages : Stages) (v : List Word) (ok : IsValuation t.constructors v) where
  abbrev kept : List FoAtom
  kept = without i s.left

  -- the valuation goes on with the values of the locals
  abbrev continued : List Word → List Word
  continued e = tabulated (entry v) n ++ e

  agrees : (e : List Word) → Agrees n v (continued e)
  agrees e k h = tabulated-at (entry v) n e k h

  continued_ok : (e : List Word) → IsValuation t.constructors e → IsValuation t.constructors (continued e)
  continued_ok e h =
      each_append (IsClosedTerm t.constructors) (tabulated (entry v) n) e
      (tabulated_each (IsClosedTerm t.constructors) (entry v) (entry_closed t.constructors constant v ok) n) h

  -- the case's signs have the values that they have under the arguments' values and the locals
  case_valued : (e : List Word) (k : ℕ) (x : Sign) → IsBelow Locals k x
      → IsValued (continued e) [] (map (value v []) args) e (sign_value args (variables_from n k)) x
  case_valued e k (Universal j) h =
      value_agrees n v (continued e) [] (agrees e) (get_or args j first_constant)
      (each_or (Each (IsBelow Variables n)) args first_constant args_below (omega arith, tt) j)
      ∙ sym (get_or-map (value v []) args j first_constant)
  case_valued e k (Local j) h =
      ap (value (continued e) []) (variables-at n k j (omega arith)) ∙ append-nil (entry (continued e) (n + j))
      ∙ tabulated-after (entry v) n e j
  case_valued e k (Constructor c m) h = refl

  -- one case, at stage m below that of atom i
  one_case : (m : ℕ) → m < stages i → (case : List FoAtom) → PremiseHolds t stages (unfold_premise s i args n case)
      → CaseHolds t (at_stage t m) (map (value v []) args) case
      → LeftHolds (λ k. at_stage t (stages (before i k))) v kept → OneOf (AtomHolds (least t) v []) s.right
  one_case m less case premise c rest =
      let e = c.0 in
      let k = atoms_bound Locals case in
      let body = case_body args (fresh_locals n case) case in
      let w = continued e in
      let holds = case_back w (map (value v []) args) e (sign_value args (variables_from n k)) (at_stage t m)
      (IsBelow Locals k) (case_valued e k) case (atoms_below Locals k case (omega arith)) c.2 in
      let others : Stages = λ _. m in
      let below = then_stages kept (λ j. stages (before i j)) others in
      let kept_holds = left_agrees n v w (agrees e) (λ j. at_stage t (stages (before i j))) kept
      (each_without (InAtom (IsBelow Variables n)) i s.left left_below) rest in
      let left = left_append w t kept body (λ j. stages (before i j)) others kept_holds
      (left_each w (at_stage t m) body holds) in
      let kept_follow : Follows (kept_pairs i s.left) stages below =
      pairs_follow_if (before i) stages below 0 kept
      (λ j lt. let z : 0 + j ≡ j = omega arith in subst (λ q. below q ≤ stages (before i q)) (sym z)
      (let r = then_stages-first kept (λ q. stages (before i q)) others j lt in omega arith)) in
      let child_follow : Follows (child_pairs i (length kept) case) stages below =
      children_follow i stages below (length kept) case
      (λ j lt. let r = then_stages-others kept (λ q. stages (before i q)) others j in omega arith) in
      let follow = pairs_append stages below (kept_pairs i s.left) (child_pairs i (length kept) case)
      kept_follow child_follow in
      right_agrees n v w (agrees e) (least t) s.right right_below (premise below follow w (continued_ok e c.1) left)

  some_case : (m : ℕ) → m < stages i → (cases : List (List FoAtom))
      → Each (PremiseHolds t stages) (map (unfold_premise s i args n) cases)
      → OneOf (CaseHolds t (at_stage t m) (map (value v []) args)) cases
      → LeftHolds (λ k. at_stage t (stages (before i k))) v kept → OneOf (AtomHolds (least t) v []) s.right
  some_case m less [] ps o rest = absurd o
  some_case m less (c ∷ cases) ps (inl a) rest = one_case m less c ps.0 a rest
  some_case m less (c ∷ cases) ps (inr o) rest = some_case m less cases ps.1 o rest

  by_stage : (m : ℕ) → stages i ≡ m → Each (PremiseHolds t stages)
      (map (unfold_premise s i args n) (cases_of t.definitions p)) → at_stage t m p (map (value v []) args)
      → LeftHolds (λ k. at_stage t (stages (before i k))) v kept → OneOf (AtomHolds (least t) v []) s.right
  by_stage zero is ps a rest = absurd a
  by_stage (suc m) is ps a rest = some_case m (omega arith) (cases_of t.definitions p) ps a rest

pub unfold_lemma : (t : FoTheory) (s : FoSequent) (i p : ℕ) (args : List Word) → HasConstant t
    → slice_get s.left i ≡ Some (Predicate p args) → IsLocallySound t s
    (map (unfold_premise s i args (sequent_bound s)) (cases_of t.definitions p))
unfold_lemma t s i p args constant at stages premises v ok h =
    let n = sequent_bound s in
    let left_below = atoms_below Variables n s.left (omega arith) in
    let right_below = atoms_below Variables n s.right (omega arith) in
    let args_below = each_at (InAtom (IsBelow Variables n)) s.left i (Predicate p args) at left_below in
    by_stage t s i p args n constant left_below right_below args_below stages v ok (stages i) refl premises
    (left_at v (λ k. at_stage t (stages k)) s.left i (Predicate p args) at h)
    (left_without v (λ k. at_stage t (stages k)) i s.left h)
