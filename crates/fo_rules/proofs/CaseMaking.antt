-- The premises of Right and of Unfold, as they are made and measured.
use Rattle.std.proofs.Common.{◌≡◌, ℕ, zero, suc, ◌+◌, ◌-◌, ◌<◌, ◌≤◌, Bool, true, false, ◌&&◌, List, [], ◌∷◌, ◌++◌, map}
use Rattle.std.proofs.Common.{length, drop, get_or, refl, sym, ap, ◌∙◌, arith, length-append, append_assoc}
use Rattle.std.specs.Prelude.{nat_le, slice_set}
use Rattle.std.specs.List.{list_all}
use Rattle.std.proofs.lemmas.List.{length-map, length-set, drop_more}
use Rattle.std.proofs.lemmas.Bool.{and_from, le-leb, and_parts}
use Rattle.heap_formula.specs.Positions.{without}
use Rattle.fo_formula.specs.declared.terms.Sign.TheVariants.{Universal}
use Rattle.fo_formula.specs.declared.atoms.FoAtom.{FoAtom}
use Rattle.fo_formula.specs.declared.sequents.FoSequent.{FoSequent}
use Rattle.fo_formula.specs.declared.theory.FoDefinition.{FoDefinition}
use Rattle.fo_formula.specs.declared.numbers.Kind.TheVariants.{Locals}
use Rattle.fo_formula.specs.Words.{Word, in_atom}
use Rattle.fo_formula.specs.Values.{sign_value}
use Rattle.fo_formula.specs.Meaning.{cases_of}
use Rattle.fo_formula.specs.Bounds.{atoms_bound}
use Rattle.fo_formula.specs.Sizes.{atom_size, atoms_size, sequent_size}
use Rattle.fo_formula.specs.declared.table.premises.FoPremise.{FoPremise}
use Rattle.fo_formula.specs.Answers.{is_short}
use Rattle.fo_formula.specs.Table.{variables_from, case_body, fresh_locals, unfold_premise, right_premise}
use Rattle.fo_rules.specs.Capping.{capped}
use Rattle.fo_rules.specs.Putting.{put}
use Rattle.fo_rules.specs.Making.{right_by, unfold_by}
use Rattle.fo_rules.specs.declared.parts.changes.Change.TheVariants.{Instance}
use Rattle.fo_rules.proofs.Bounding.{all_short, all_small, short_is}
use Rattle.fo_rules.proofs.Measuring.{size-append, size-set, atoms_length, fresh_length}
use Rattle.cyc_basics.proofs.Tests.{le_same}

-- ---- the cases of a predicate

pub cases_in : (ds : List FoDefinition) (q : ℕ) (d : FoDefinition) → q < length ds
    → cases_of ds q ≡ (get_or ds q d).cases
cases_in [] q d h = absurd (omega arith)
cases_in (x ∷ ds) zero d h = refl
cases_in (x ∷ ds) (suc q) d h = cases_in ds q d (omega arith)

pub cases_past : (ds : List FoDefinition) (q : ℕ) → length ds ≤ q → cases_of ds q ≡ []
cases_past [] q h = refl
cases_past (x ∷ ds) zero h = absurd (omega arith)
cases_past (x ∷ ds) (suc q) h = cases_past ds q (omega arith)

-- ---- Right

module _ (s : FoSequent) (j : ℕ) (args terms : List Word) where
  pub rights_short : (case : List FoAtom) → length s.left ≤ 32 → length s.right ≤ 16
      → all_short (map (right_premise s j args terms) case) ≡ true
  rights_short [] l r = refl
  rights_short (x ∷ case) l r =
      let n = length-set s.right j (in_atom (sign_value args terms) x) in
      and_from (is_short (right_premise s j args terms x).sequent) (all_short (map (right_premise s j args terms) case))
      (short_is (right_premise s j args terms x).sequent l (omega arith)) (rights_short case l r)

  pub rights_small : (others : ℕ) (case : List FoAtom) → j < length s.right
      → others ≡ capped (atoms_size s.left) + capped (atoms_size (without j s.right))
      → list_all (λ (x : FoAtom). nat_le (others + atom_size (in_atom (sign_value args terms) x)) 4096) case
      ≡ all_small (map (right_premise s j args terms) case)
  rights_small others [] h e = refl
  rights_small others (x ∷ case) h e =
      let y = in_atom (sign_value args terms) x in
      let n = size-set s.right j y h in
      let one : nat_le (others + atom_size y) 4096
      ≡ nat_le (atoms_size s.left + atoms_size (slice_set s.right j y)) 4096 =
      le_same (others + atom_size y) 4096 (atoms_size s.left + atoms_size (slice_set s.right j y)) 4096
      (λ k. omega arith) (λ k. omega arith) in
      let rest = rights_small others case h e in λ i. one i && rest i

-- as the program measures and makes them
module _ (s : FoSequent) (j : ℕ) (args terms : List Word) (case : List FoAtom) (a b : List Word) (a_is : a ≡ args)
    (b_is : b ≡ terms) where
  pub rights_measured : (others : ℕ) (r : Bool) → j < length s.right
      → others ≡ capped (atoms_size s.left) + capped (atoms_size (without j s.right))
      → r ≡ list_all (λ (x : FoAtom). nat_le (others + atom_size (in_atom (put (Instance a b)) x)) 4096) case
      → all_small (map (right_premise s j args terms) case) ≡ r
  rights_measured others r h o e =
      sym (e ∙ (λ i. list_all (λ (x : FoAtom). nat_le (others + atom_size
      (in_atom (put (Instance (a_is i) (b_is i))) x)) 4096) case) ∙ rights_small s j args terms others case h o)

  pub rights_made : (ps : List FoPremise) → ps ≡ map (right_by s j (Instance a b)) case
      → ps ≡ map (right_premise s j args terms) case
  rights_made ps e = e ∙ (λ i. map (right_by s j (Instance (a_is i) (b_is i))) case)

-- ---- Unfold

module _ (s : FoSequent) (i : ℕ) (args : List Word) (n : ℕ) where
  pub unfolds_short : (cases : List (List FoAtom)) → length s.right ≤ 16
      → list_all (λ (c : List FoAtom). nat_le (length (without i s.left) + length c) 32) cases
      ≡ all_short (map (unfold_premise s i args n) cases)
  unfolds_short [] r = refl
  unfolds_short (c ∷ cases) r =
      let body = case_body args (fresh_locals n c) c in
      let a = length-append (without i s.left) body in
      let b = length-map c (in_atom (sign_value args (fresh_locals n c))) in
      let right : nat_le (length s.right) 16 ≡ true = le-leb (length s.right) 16 r in
      let left : nat_le (length (without i s.left) + length c) 32 ≡ nat_le (length (without i s.left ++ body)) 32 =
      le_same (length (without i s.left) + length c) 32 (length (without i s.left ++ body)) 32 (λ k. omega arith)
      (λ k. omega arith) in
      let one : nat_le (length (without i s.left) + length c) 32
      ≡ nat_le (length (without i s.left ++ body)) 32 && nat_le (length s.right) 16 =
      left ∙ sym (with_true (nat_le (length (without i s.left ++ body)) 32) (nat_le (length s.right) 16) right) in
      let rest = unfolds_short cases r in λ k. one k && rest k
    where
      with_true : (p q : Bool) → q ≡ true → (p && q) ≡ p
      with_true true q e = e
      with_true false q e = refl

  pub unfolds_small : (others : ℕ) (cases : List (List FoAtom))
      → others ≡ capped (atoms_size (without i s.left)) + capped (atoms_size s.right)
      → list_all (λ (c : List FoAtom). nat_le (others + atoms_size (map (in_atom (sign_value args [])) c)) 4096) cases
      ≡ all_small (map (unfold_premise s i args n) cases)
  unfolds_small others [] e = refl
  unfolds_small others (c ∷ cases) e =
      let body = case_body args (fresh_locals n c) c in
      let plain = map (in_atom (sign_value args [])) c in
      let a = size-append (without i s.left) body in
      let b = atoms_length (sign_value args (fresh_locals n c)) (sign_value args [])
      (fresh_length args n (atoms_bound Locals c)) c in
      let one : nat_le (others + atoms_size plain) 4096
      ≡ nat_le (atoms_size (without i s.left ++ body) + atoms_size s.right) 4096 =
      le_same (others + atoms_size plain) 4096 (atoms_size (without i s.left ++ body) + atoms_size s.right) 4096
      (λ k. omega arith) (λ k. omega arith) in
      let rest = unfolds_small others cases e in λ k. one k && rest k

-- one more variable is written
pub variables_step : (all more : List Word) (n k count : ℕ) (w : Word) (whole : List Word) → k < count
    → more ≡ all ++ w ∷ [] → w ≡ Universal (n + k) ∷ [] → all ++ variables_from (n + k) (count - k) ≡ whole
    → more ++ variables_from (n + (k + 1)) (count - (k + 1)) ≡ whole
variables_step all more n k count w whole h p q e =
    let m = count - (k + 1) in
    let z : count - k ≡ suc m = omega arith in
    let y : n + (k + 1) ≡ suc (n + k) = omega arith in
    let step : variables_from (n + k) (suc m) ≡ (Universal (n + k) ∷ []) ∷ variables_from (suc (n + k)) m = refl in
    (λ i. p i ++ variables_from (y i) m) ∙ append_assoc all (w ∷ []) (variables_from (suc (n + k)) m)
    ∙ (λ i. all ++ (q i ∷ variables_from (suc (n + k)) m)) ∙ sym (ap (λ (c : ℕ). all ++ variables_from (n + k) c) z)
    ∙ e

pub unfold_made : (s : FoSequent) (i : ℕ) (args : List Word) (n : ℕ) (case : List FoAtom) (a b : List Word) (count : ℕ)
    (p : FoPremise) → a ≡ args → b ≡ variables_from n count → count ≡ atoms_bound Locals case
    → p ≡ unfold_by s i (Instance a b) case → p ≡ unfold_premise s i args n case
unfold_made s i args n case a b count p a_is b_is count_is e =
    let c = b_is ∙ ap (variables_from n) count_is in e ∙ (λ k. unfold_by s i (Instance (a_is k) (c k)) case)

pub fit_is : (p q r : Bool) → p ≡ true → r ≡ q → r ≡ (p && q)
fit_is true q r e f = f
fit_is false q r e f = absurd cc

pub cases_measured : (args : List Word) (cases : List (List FoAtom)) (a b : List Word) (m others : ℕ) → a ≡ args
    → b ≡ [] → m ≡ others → list_all (λ (c : List FoAtom). nat_le
    (m + atoms_size (map (in_atom (put (Instance a b))) c)) 4096) cases
    ≡ list_all (λ (c : List FoAtom). nat_le (others + atoms_size (map (in_atom (sign_value args [])) c)) 4096) cases
cases_measured args cases a b m others p q e = λ i.
    list_all (λ (c : List FoAtom). nat_le (e i + atoms_size (map (in_atom (put (Instance (p i) (q i)))) c)) 4096) cases

-- ---- loops over cases

pub made_step : {X Y : Type 0} (f : X → Y) (done more : List Y) (xs : List X) (i : ℕ) (d : X) (y : Y) (whole : List Y)
    → i < length xs → more ≡ done ++ y ∷ [] → y ≡ f (get_or xs i d) → done ++ map f (drop i xs) ≡ whole
    → more ++ map f (drop (i + 1) xs) ≡ whole
made_step f done more xs i d y whole h p q e =
    (λ k. p k ++ map f (drop (i + 1) xs)) ∙ append_assoc done (y ∷ []) (map f (drop (i + 1) xs))
    ∙ (λ k. done ++ (q k ∷ map f (drop (i + 1) xs))) ∙ sym
    (ap (λ (ys : List _). done ++ map f ys) (drop_more xs i d h)) ∙ e

pub all_step : {X : Type 0} (p : X → Bool) (xs : List X) (i : ℕ) (d : X) → i < length xs → list_all p (drop i xs) ≡ true
    → (p (get_or xs i d) ≡ true) × (list_all p (drop (i + 1) xs) ≡ true)
all_step p xs i d h e =
    and_parts (p (get_or xs i d)) (list_all p (drop (i + 1) xs))
    (sym (list_all_cons p (get_or xs i d) (drop (i + 1) xs)) ∙ sym (ap (list_all p) (drop_more xs i d h)) ∙ e)
  where
    list_all_cons : {X : Type 0} (p : X → Bool) (x : X) (xs : List X) → list_all p (x ∷ xs) ≡ (p x && list_all p xs)
    list_all_cons p x xs = refl

pub fit_measured : (s : FoSequent) (i : ℕ) (args : List Word) (n : ℕ) (cases : List (List FoAtom)) (kept : List FoAtom)
    (r : Bool) → kept ≡ without i s.left → r ≡ (nat_le (sequent_size s + 0) 4096 && list_all
    (λ (c : List FoAtom). nat_le (capped (atoms_size kept) + capped (atoms_size s.right) + atoms_size
    (map (in_atom (sign_value args [])) c)) 4096) cases) → (nat_le (sequent_size s + 0) 4096 && all_small
    (map (unfold_premise s i args n) cases)) ≡ r
fit_measured s i args n cases kept r kept_is e =
    let small = unfolds_small s i args n (capped (atoms_size (without i s.left)) + capped (atoms_size s.right))
    cases refl in
    sym (e ∙ (λ k. nat_le (sequent_size s + 0) 4096 && list_all
    (λ (c : List FoAtom). nat_le (capped (atoms_size (kept_is k)) + capped (atoms_size s.right) + atoms_size
    (map (in_atom (sign_value args [])) c)) 4096) cases) ∙ (λ k. nat_le (sequent_size s + 0) 4096 && small k))
