-- Each rule of the table is sound.
use Rattle.std.proofs.Common.{◌≡◌, ℕ, List, [], ◌∷◌, map, length, Some, slice_get, sym, ap, ◌∙◌, append-nil}
use Rattle.std.specs.Prelude.{nat_eq, Ok}
use Rattle.std.specs.List.{list_all}
use Rattle.heap_formula.specs.Words.{Each}
use Rattle.heap_formula.specs.Meaning.{Stages}
use Rattle.heap_formula.specs.declared.proof_rules.Side.{Side}
use Rattle.heap_formula.specs.declared.proof_rules.Side.TheVariants.{Left as TheLeft, Right as TheRight}
use Rattle.fo_formula.specs.declared.terms.Sign.TheVariants.{Universal}
use Rattle.fo_formula.specs.declared.atoms.FoAtom.{FoAtom}
use Rattle.fo_formula.specs.declared.atoms.FoAtom.TheVariants.{Equation}
use Rattle.fo_formula.specs.declared.sequents.FoSequent.{FoSequent}
use Rattle.fo_formula.specs.declared.nodes.FoRule.{FoRule}
use Rattle.fo_formula.specs.declared.nodes.FoRule.TheVariants.{Axiom, Refl, Clash, Decompose, Replace, WeakenLeft}
use Rattle.fo_formula.specs.declared.nodes.FoRule.TheVariants.{WeakenRight, Contract, Unfold, Cut, Right}
use Rattle.fo_formula.specs.declared.theory.FoTheory.{FoTheory}
use Rattle.fo_formula.specs.declared.numbers.Kind.TheVariants.{Locals}
use Rattle.fo_formula.specs.Words.{Word}
use Rattle.fo_formula.specs.Values.{entry, value}
use Rattle.fo_formula.specs.Meaning.{cases_of, at_stage}
use Rattle.fo_formula.specs.Bounds.{atoms_bound, sequent_bound}
use Rattle.fo_formula.specs.Sizes.{words_size, atom_size}
use Rattle.fo_formula.specs.Shapes.{IsOpenAtom, IsOpenTerm, IsOpenSequent, HasConstant}
use Rattle.fo_formula.specs.Validity.{LeftHolds}
use Rattle.fo_formula.specs.declared.table.faults.FoFault.TheVariants.{NoSuchAtom, AtomsDiffer, NotAbsurd, NotVariable}
use Rattle.fo_formula.specs.declared.table.faults.FoFault.TheVariants.{NoSuchCase, NoFreshVariable, TermCount}
use Rattle.fo_formula.specs.Tests.{same_word, same_atom, only_variable, is_absurd, have_one_constructor}
use Rattle.fo_formula.specs.Table.{weakened_left, weakened_right, decomposed, with_term, named, unnamed, contracted}
use Rattle.fo_formula.specs.Table.{unfold_premise, is_numbered, right_premise, cut_right, cut_left, axiom_answer}
use Rattle.fo_formula.specs.Table.{refl_answer, clash_answer, decompose_answer, replace_answer, weaken_left_answer}
use Rattle.fo_formula.specs.Table.{weaken_right_answer, contract_answer, unfold_answer, cut_answer, right_answer}
use Rattle.fo_formula.specs.Table.{rule_answer}
use Rattle.fo_formula.specs.Soundness.{IsSound, HasOpenTerms}
use Rattle.fo_formula.proofs.Steps.{needs_sound, finds_sound, equation_sound, predicate_sound, within_sound}
use Rattle.fo_formula.proofs.Steps.{limited_sound}
use Rattle.fo_formula.proofs.Lefts.{left_at}
use Rattle.fo_formula.proofs.Reflects.{word_is, atom_is, only_is}
use Rattle.fo_formula.proofs.RuleLemmas.{axiom_lemma, refl_lemma, clash_lemma, weaken_left_lemma, weaken_right_lemma}
use Rattle.fo_formula.proofs.RuleLemmas.{decompose_lemma, replace_lemma, contract_lemma, cut_lemma}
use Rattle.fo_formula.proofs.Unfolds.{unfold_lemma}
use Rattle.fo_formula.proofs.Rights.{right_lemma}
use Rattle.heap_formula.proofs.AllMembers.{each_at}

module _ (t : FoTheory) (s : FoSequent) where
  pub axiom_is_sound : (i j : ℕ) → IsSound t s (axiom_answer s i j)
  axiom_is_sound i j =
      finds_sound t s (slice_get s.left i) NoSuchAtom _ (λ x at.
      finds_sound t s (slice_get s.right j) NoSuchAtom _ (λ y there.
      needs_sound t s (same_atom x y) AtomsDiffer _ (λ same.
      limited_sound t s 0 [] (axiom_lemma t s i j x at (there ∙ ap Some (sym (atom_is x y same)))))))

  pub refl_is_sound : (j : ℕ) → IsSound t s (refl_answer s j)
  refl_is_sound j =
      finds_sound t s (slice_get s.right j) NoSuchAtom _ (λ y at.
      equation_sound t s y _ (λ l r is.
      needs_sound t s (same_word l r) AtomsDiffer _ (λ same.
      limited_sound t s 0 [] (refl_lemma t s j l (at ∙ ap Some (is ∙ ap (Equation l) (sym (word_is l r same))))))))

  pub clash_is_sound : HasConstant t → (i : ℕ) → IsSound t s (clash_answer s i)
  clash_is_sound constant i =
      finds_sound t s (slice_get s.left i) NoSuchAtom _ (λ x at.
      equation_sound t s x _ (λ l r is.
      needs_sound t s (is_absurd l r) NotAbsurd _ (λ clash.
      limited_sound t s 0 [] (clash_lemma t s constant i l r (at ∙ ap Some is) clash))))

  pub decompose_is_sound : HasConstant t → IsOpenSequent t.constructors s → (i : ℕ) → IsSound t s (decompose_answer s i)
  decompose_is_sound constant are_open i =
      finds_sound t s (slice_get s.left i) NoSuchAtom _ (λ x at.
      equation_sound t s x _ (λ l r is.
      needs_sound t s (have_one_constructor l r) AtomsDiffer _ (λ same.
      let there = at ∙ ap Some is in
      let sides = each_at (IsOpenAtom t.constructors) s.left i (Equation l r) there are_open.0 in
      limited_sound t s 0 (decomposed s i l r ∷ [])
      (decompose_lemma t s constant i l r there same sides.0.0 sides.1.0))))

  -- the variable on the named side has the value of the other side
  by_side : (i : ℕ) (side : Side) (l r : Word) (n : ℕ) → slice_get s.left i ≡ Some (Equation l r)
      → named side l r ≡ Universal n ∷ [] → (stages : Stages) (v : List Word)
      → LeftHolds (λ k. at_stage t (stages k)) v s.left → entry v n ≡ value v [] (unnamed side l r)
  by_side i TheLeft l r n at is stages v h =
      sym (append-nil (entry v n)) ∙ ap (value v []) (sym is)
      ∙ left_at v (λ k. at_stage t (stages k)) s.left i (Equation l r) at h
  by_side i TheRight l r n at is stages v h =
      sym (append-nil (entry v n)) ∙ ap (value v []) (sym is)
      ∙ sym (left_at v (λ k. at_stage t (stages k)) s.left i (Equation l r) at h)

  pub replace_is_sound : (i : ℕ) (side : Side) → IsSound t s (replace_answer s i side)
  replace_is_sound i side =
      finds_sound t s (slice_get s.left i) NoSuchAtom _ (λ x at.
      equation_sound t s x _ (λ l r is.
      finds_sound t s (only_variable (named side l r)) NotVariable _ (λ n named_is.
      limited_sound t s 0 (with_term s i n (unnamed side l r) ∷ [])
      (replace_lemma t s i n (unnamed side l r) (by_side i side l r n (at ∙ ap Some is)
      (only_is (named side l r) n named_is))))))

  pub weaken_left_is_sound : (i : ℕ) → IsSound t s (weaken_left_answer s i)
  weaken_left_is_sound i =
      finds_sound t s (slice_get s.left i) NoSuchAtom _
      (λ x at. limited_sound t s 0 (weakened_left s i ∷ []) (weaken_left_lemma t s i))

  pub weaken_right_is_sound : (j : ℕ) → IsSound t s (weaken_right_answer s j)
  weaken_right_is_sound j =
      finds_sound t s (slice_get s.right j) NoSuchAtom _
      (λ x at. limited_sound t s 0 (weakened_right s j ∷ []) (weaken_right_lemma t s j))

  pub contract_is_sound : (i : ℕ) → IsSound t s (contract_answer s i)
  contract_is_sound i =
      finds_sound t s (slice_get s.left i) NoSuchAtom _
      (λ x at. limited_sound t s 0 (contracted s i x ∷ []) (contract_lemma t s i x at))

  pub unfold_is_sound : HasConstant t → (i : ℕ) → IsSound t s (unfold_answer t s i)
  unfold_is_sound constant i =
      finds_sound t s (slice_get s.left i) NoSuchAtom _ (λ x at.
      predicate_sound t s x _ (λ p args is.
      let premises = map (unfold_premise s i args (sequent_bound s)) (cases_of t.definitions p) in
      within_sound t s 0 premises _ (needs_sound t s (list_all (is_numbered (sequent_bound s))
      (cases_of t.definitions p)) NoFreshVariable (Ok premises)
      (λ _. unfold_lemma t s i p args constant (at ∙ ap Some is)))))

  pub cut_is_sound : (x : FoAtom) → IsSound t s (cut_answer s x)
  cut_is_sound x = limited_sound t s (atom_size x) (cut_right s x ∷ cut_left s x ∷ []) (cut_lemma t s x)

  pub right_is_sound : HasConstant t → (j c : ℕ) (terms : List Word) → Each (IsOpenTerm t.constructors) terms
      → IsSound t s (right_answer t s j c terms)
  right_is_sound constant j c terms are_open =
      finds_sound t s (slice_get s.right j) NoSuchAtom _ (λ y at.
      predicate_sound t s y _ (λ p args is.
      finds_sound t s (slice_get (cases_of t.definitions p) c) NoSuchCase _ (λ case at_case.
      needs_sound t s (nat_eq (length terms) (atoms_bound Locals case)) TermCount _ (λ _.
      limited_sound t s (words_size terms) (map (right_premise s j args terms) case)
      (right_lemma t s j p c args terms case constant are_open (at ∙ ap Some is) at_case)))))

pub rule_is_sound : (t : FoTheory) (s : FoSequent) (rule : FoRule) → HasConstant t → IsOpenSequent t.constructors s
    → HasOpenTerms t.constructors rule → IsSound t s (rule_answer t s rule)
rule_is_sound t s (Axiom i j) constant are_open terms = axiom_is_sound t s i j
rule_is_sound t s (Refl j) constant are_open terms = refl_is_sound t s j
rule_is_sound t s (Clash i) constant are_open terms = clash_is_sound t s constant i
rule_is_sound t s (Decompose i) constant are_open terms = decompose_is_sound t s constant are_open i
rule_is_sound t s (Replace i side) constant are_open terms = replace_is_sound t s i side
rule_is_sound t s (WeakenLeft i) constant are_open terms = weaken_left_is_sound t s i
rule_is_sound t s (WeakenRight j) constant are_open terms = weaken_right_is_sound t s j
rule_is_sound t s (Contract i) constant are_open terms = contract_is_sound t s i
rule_is_sound t s (Unfold i) constant are_open terms = unfold_is_sound t s constant i
rule_is_sound t s (Cut x) constant are_open terms = cut_is_sound t s x
rule_is_sound t s (Right j c ts) constant are_open terms = right_is_sound t s constant j c ts terms
