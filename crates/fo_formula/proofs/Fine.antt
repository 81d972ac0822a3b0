-- Each answer has few premises, whose pairs join predicate atoms.
use Rattle.std.proofs.Common.{◌≡◌, ℕ, zero, suc, ◌+◌, ◌≤◌, Bool, true, false, ◌&&◌, List, [], ◌∷◌, ◌++◌, map, length}
use Rattle.std.proofs.Common.{Option, Some, None, refl, ap, ◌∙◌, arith}
use Rattle.std.specs.Prelude.{Ok, Err, slice_get, slice_index, nat_eq, nat_le}
use Rattle.std.specs.List.{list_all}
use Rattle.std.proofs.lemmas.List.{length-map}
use Rattle.heap_formula.specs.declared.judgements.Pair.{Pair}
use Rattle.heap_formula.specs.Words.{Each}
use Rattle.heap_formula.specs.Positions.{without}
use Rattle.fo_formula.specs.declared.terms.Sign.{Sign}
use Rattle.fo_formula.specs.declared.atoms.FoAtom.{FoAtom}
use Rattle.fo_formula.specs.declared.atoms.FoAtom.TheVariants.{Equation, Predicate}
use Rattle.fo_formula.specs.declared.nodes.FoLink.{FoLink}
use Rattle.fo_formula.specs.declared.nodes.FoRule.{FoRule}
use Rattle.fo_formula.specs.declared.nodes.FoRule.TheVariants.{Axiom, Refl, Clash, Decompose, Replace, WeakenLeft}
use Rattle.fo_formula.specs.declared.nodes.FoRule.TheVariants.{WeakenRight, Contract, Unfold, Cut, Right}
use Rattle.fo_formula.specs.declared.sequents.FoSequent.{FoSequent}
use Rattle.fo_formula.specs.declared.theory.FoDefinition.{FoDefinition}
use Rattle.fo_formula.specs.declared.theory.FoTheory.{FoTheory}
use Rattle.fo_formula.specs.declared.numbers.Kind.TheVariants.{Locals}
use Rattle.fo_formula.specs.Bounds.{atoms_bound, sequent_bound}
use Rattle.fo_formula.specs.Meaning.{cases_of}
use Rattle.fo_formula.specs.Sizes.{sequent_size, words_size, atom_size}
use Rattle.fo_formula.specs.Values.{sign_value}
use Rattle.fo_formula.specs.Words.{Word, in_atom}
use Rattle.fo_formula.specs.declared.table.faults.FoFault.{FoFault}
use Rattle.fo_formula.specs.declared.table.faults.FoFault.TheVariants.{NoSuchAtom, AtomsDiffer, NotAbsurd, NotVariable}
use Rattle.fo_formula.specs.declared.table.faults.FoFault.TheVariants.{NoSuchCase, NoFreshVariable, TermCount}
use Rattle.fo_formula.specs.declared.table.faults.FoFault.TheVariants.{TooManyAtoms, TooManyTerms}
use Rattle.fo_formula.specs.declared.table.premises.FoPremise.{FoPremise}
use Rattle.fo_formula.specs.Answers.{Answer, needs, finds, equation, predicate, is_short, is_small, within, limited}
use Rattle.fo_formula.specs.Tests.{same_word, same_atom, only_variable, is_absurd, have_one_constructor}
use Rattle.fo_formula.specs.Traces.{pairs_from, same_pairs, kept_pairs, child_pairs}
use Rattle.fo_formula.specs.Table.{image_sign, argument_equations, weakened_left, weakened_right, decomposed, with_term}
use Rattle.fo_formula.specs.Table.{named, unnamed, contracted, fresh_locals, unfold_premise, is_numbered, right_premise}
use Rattle.fo_formula.specs.Table.{cut_right, cut_left, rule_answer}
use Rattle.fo_formula.specs.LinkTable.{link_fault, link_premise, unless_fault}
use Rattle.fo_formula.proofs.Links.{Names, link_names}
use Rattle.fo_formula.specs.Small.{IsSmallDefinition}
use Rattle.fo_formula.proofs.Fits.{IsPredAt, PairsFit, pred_front, pred_back, pred_mapped, pairs_fit, pairs_fit_0}
use Rattle.fo_formula.proofs.Fits.{same_fit, kept_fit, children_fit}
use Rattle.heap_formula.proofs.AllMembers.{each_append, each_at}

-- the pairs of a premise join left predicate atoms of the sequent and of the premise
abbrev pub PremiseFits : FoSequent → FoPremise → Type 0
PremiseFits s premise = PairsFit s.left premise.sequent.left premise.pairs

-- where the answer is premises, they are few and their pairs fit
abbrev pub IsFine : FoSequent → Answer → Type 0
IsFine s (Ok ps) = (length ps ≤ 16) × Each (PremiseFits s) ps
IsFine s (Err f) = Unit {0}

module _ (s : FoSequent) where
  needs_fine : (b : Bool) (f : FoFault) (rest : Answer) → IsFine s rest → IsFine s (needs b f rest)
  needs_fine true f rest g = g
  needs_fine false f rest g = tt

  finds_fine : {X : Type 0} (o : Option X) (f : FoFault) (rest : X → Answer)
      → ((x : X) → o ≡ Some x → IsFine s (rest x)) → IsFine s (finds o f rest)
  finds_fine None f rest g = tt
  finds_fine (Some x) f rest g = g x refl

  equation_fine : (x : FoAtom) (rest : Word → Word → Answer) → ((l r : Word) → IsFine s (rest l r))
      → IsFine s (equation x rest)
  equation_fine (Equation l r) rest g = g l r
  equation_fine (Predicate p ts) rest g = tt

  predicate_fine : (x : FoAtom) (rest : ℕ → List Word → Answer)
      → ((p : ℕ) (ts : List Word) → x ≡ Predicate p ts → IsFine s (rest p ts)) → IsFine s (predicate x rest)
  predicate_fine (Equation l r) rest g = tt
  predicate_fine (Predicate p ts) rest g = g p ts refl

  within_fine : (n : ℕ) (ps : List FoPremise) (rest : Answer) → IsFine s rest → IsFine s (within s n ps rest)
  within_fine n ps rest g =
      needs_fine (list_all (λ (p : FoPremise). is_short p.sequent) ps) TooManyAtoms
      (needs (nat_le (sequent_size s + n) 4096 && list_all (λ (p : FoPremise). is_small p.sequent) ps)
      TooManyTerms rest) (needs_fine (nat_le (sequent_size s + n) 4096 && list_all
      (λ (p : FoPremise). is_small p.sequent) ps) TooManyTerms rest g)

  limited_fine : (n : ℕ) (ps : List FoPremise) → length ps ≤ 16 → Each (PremiseFits s) ps → IsFine s (limited s n ps)
  limited_fine n ps few fit = within_fine n ps (Ok ps) (few, fit)

  -- ---- premises

  copy_fits : (i : ℕ) (x : FoAtom) → slice_get s.left i ≡ Some x → PremiseFits s (contracted s i x)
  copy_fits i x at =
      each_append (λ (p : Pair). IsPredAt s.left p.old × IsPredAt (s.left ++ x ∷ []) p.new) (same_pairs s.left)
      (pairs_from (λ _. i) (length s.left) (x ∷ [])) (same_fit s.left (s.left ++ x ∷ [])
      (λ k p. pred_front s.left (x ∷ []) k p)) (pairs_fit (λ _. i) (length s.left) (x ∷ []) s.left
      (s.left ++ x ∷ []) joined)
    where
      joined : (k : ℕ) → IsPredAt (x ∷ []) k → IsPredAt s.left i × IsPredAt (s.left ++ x ∷ []) (length s.left + k)
      joined zero p = ((p.0, p.1, at ∙ p.2), pred_back s.left (x ∷ []) 0 p)
      joined (suc k) p = let e = p.2 in absurd cc

  unfold_fits : (i p : ℕ) (args : List Word) (n : ℕ) (case : List FoAtom) → slice_get s.left i ≡ Some (Predicate p args)
      → PremiseFits s (unfold_premise s i args n case)
  unfold_fits i p args n case at =
      let kept = without i s.left in
      let f = sign_value args (fresh_locals n case) in
      let body = map (in_atom f) case in
      each_append (λ (q : Pair). IsPredAt s.left q.old × IsPredAt (kept ++ body) q.new) (kept_pairs i s.left)
      (child_pairs i (length kept) case) (kept_fit i s.left (kept ++ body) (λ k q. pred_front kept body k q))
      (children_fit i (length kept) case s.left (kept ++ body) (p, args, at)
      (λ k q. pred_back kept body k (pred_mapped f case k q)))

  unfolds_fit : (i p : ℕ) (args : List Word) (n : ℕ) (cases : List (List FoAtom))
      → slice_get s.left i ≡ Some (Predicate p args) → Each (PremiseFits s) (map (unfold_premise s i args n) cases)
  unfolds_fit i p args n [] at = tt
  unfolds_fit i p args n (c ∷ cases) at = (unfold_fits i p args n c at, unfolds_fit i p args n cases at)

  rights_fit : (j : ℕ) (args terms : List Word) (case : List FoAtom)
      → Each (PremiseFits s) (map (right_premise s j args terms) case)
  rights_fit j args terms [] = tt
  rights_fit j args terms (x ∷ case) = (same_fit s.left s.left (λ k p. p), rights_fit j args terms case)

-- ---- few cases

pub cases_few : (ds : List FoDefinition) → Each IsSmallDefinition ds → (p : ℕ) → length (cases_of ds p) ≤ 16
cases_few [] h p = omega arith
cases_few (d ∷ ds) h zero = let a = h.0.cases in omega arith
cases_few (d ∷ ds) h (suc p) = cases_few ds h.1 p

atoms_few : (ds : List FoDefinition) → Each IsSmallDefinition ds → (p : ℕ)
    → Each (λ (c : List FoAtom). length c ≤ 16) (cases_of ds p)
atoms_few [] h p = tt
atoms_few (d ∷ ds) h zero = h.0.atoms
atoms_few (d ∷ ds) h (suc p) = atoms_few ds h.1 p

module _ (t : FoTheory) (small : Each IsSmallDefinition t.definitions) (s : FoSequent) where
  pub rule_fine : (rule : FoRule) → IsFine s (rule_answer t s rule)
  rule_fine (Axiom i j) =
      finds_fine s (slice_get s.left i) NoSuchAtom _ (λ x at.
      finds_fine s (slice_get s.right j) NoSuchAtom _ (λ y there.
      needs_fine s (same_atom x y) AtomsDiffer (limited s 0 []) (limited_fine s 0 [] (omega arith) tt)))
  rule_fine (Refl j) =
      finds_fine s (slice_get s.right j) NoSuchAtom _ (λ y at.
      equation_fine s y _ (λ l r. needs_fine s (same_word l r) AtomsDiffer (limited s 0 [])
      (limited_fine s 0 [] (omega arith) tt)))
  rule_fine (Clash i) =
      finds_fine s (slice_get s.left i) NoSuchAtom _ (λ x at.
      equation_fine s x _ (λ l r. needs_fine s (is_absurd l r) NotAbsurd (limited s 0 [])
      (limited_fine s 0 [] (omega arith) tt)))
  rule_fine (Decompose i) =
      finds_fine s (slice_get s.left i) NoSuchAtom _ (λ x at.
      equation_fine s x _ (λ l r.
      needs_fine s (have_one_constructor l r) AtomsDiffer (limited s 0 (decomposed s i l r ∷ []))
      (limited_fine s 0 (decomposed s i l r ∷ []) (omega arith) (
        kept_fit i s.left (without i s.left ++ argument_equations l r)
            (λ k p. pred_front (without i s.left) (argument_equations l r) k p),
        tt,
      ))))
  rule_fine (Replace i side) =
      finds_fine s (slice_get s.left i) NoSuchAtom _ (λ x at.
      equation_fine s x _ (λ l r.
      finds_fine s (only_variable (named side l r)) NotVariable _ (λ n is.
      let w = unnamed side l r in
      let f = image_sign ((n, w) ∷ []) in
      limited_fine s 0 (with_term s i n w ∷ []) (omega arith)
      (kept_fit i s.left (map (in_atom f) (without i s.left)) (λ k p. pred_mapped f (without i s.left) k p), tt))))
  rule_fine (WeakenLeft i) =
      finds_fine s (slice_get s.left i) NoSuchAtom _ (λ x at.
      limited_fine s 0 (weakened_left s i ∷ []) (omega arith) (kept_fit i s.left (without i s.left) (λ k p. p), tt))
  rule_fine (WeakenRight j) =
      finds_fine s (slice_get s.right j) NoSuchAtom _ (λ x at.
      limited_fine s 0 (weakened_right s j ∷ []) (omega arith) (same_fit s.left s.left (λ k p. p), tt))
  rule_fine (Contract i) =
      finds_fine s (slice_get s.left i) NoSuchAtom _ (λ x at.
      limited_fine s 0 (contracted s i x ∷ []) (omega arith) (copy_fits s i x at, tt))
  rule_fine (Unfold i) =
      finds_fine s (slice_get s.left i) NoSuchAtom _ (λ x at.
      predicate_fine s x _ (λ p args is.
      let n = sequent_bound s in
      let cases = cases_of t.definitions p in
      let ps = map (unfold_premise s i args n) cases in
      let few = cases_few t.definitions small p in
      let l = length-map cases (unfold_premise s i args n) in
      within_fine s 0 ps _ (needs_fine s (list_all (is_numbered n) cases) NoFreshVariable (Ok ps)
      (omega arith, unfolds_fit s i p args n cases (at ∙ ap Some is)))))
  rule_fine (Cut x) =
      limited_fine s (atom_size x) (cut_right s x ∷ cut_left s x ∷ []) (omega arith) (
        same_fit s.left s.left (λ k p. p),
        (
          same_fit s.left (s.left ++ x ∷ [])
              (λ k p. pred_front s.left (x ∷ []) k p),
          tt,
        ),
      )
  rule_fine (Right j c terms) =
      finds_fine s (slice_get s.right j) NoSuchAtom _ (λ y at.
      predicate_fine s y _ (λ p args is.
      finds_fine s (slice_get (cases_of t.definitions p) c) NoSuchCase _ (λ case there.
      let few = each_at (λ (c : List FoAtom). length c ≤ 16) (cases_of t.definitions p) c case there
      (atoms_few t.definitions small p) in
      let ps = map (right_premise s j args terms) case in
      let l = length-map case (right_premise s j args terms) in
      needs_fine s (nat_eq (length terms) (atoms_bound Locals case)) TermCount (limited s (words_size terms) ps)
      (limited_fine s (words_size terms) ps (omega arith) (rights_fit s j args terms case)))))

-- ---- links

names_at : (f : Sign → Word) (atoms : List FoAtom) (ms : List ℕ) (xs : List FoAtom) (k : ℕ)
    → Names atoms ms (map (in_atom f) xs) → IsPredAt xs k → IsPredAt atoms (slice_index ms k)
names_at f atoms ms [] k h p = let e = p.2 in absurd cc
names_at f atoms [] (x ∷ xs) k h p = absurd h
names_at f atoms (m ∷ ms) (x ∷ xs) zero h p =
    let q = pred_mapped f (x ∷ []) 0 p in (q.0, q.1, h.0 ∙ q.2)
names_at f atoms (m ∷ ms) (x ∷ xs) (suc k) h p = names_at f atoms ms xs k h.1 p

pub link_fine : (bud companion : FoSequent) (link : FoLink)
    → IsFine bud (unless_fault (link_fault bud companion link) (link_premise companion link))
link_fine bud companion link = by_fault (link_fault bud companion link) refl
  where
    by_fault : (o : Option FoFault) → link_fault bud companion link ≡ o
        → IsFine bud (unless_fault o (link_premise companion link))
    by_fault (Some f) e = tt
    by_fault None e =
        let names = link_names bud companion link e in (
          omega arith,
          (
            pairs_fit_0 (slice_index link.left_map) companion.left bud.left companion.left
                (λ k p. (names_at (image_sign link.substitution) bud.left link.left_map companion.left k names.0 p, p)),
            tt,
          ),
        )
