-- Folding a spatial list atom by atom gives what the whole combination says.
use Rattle.std.proofs.Common.{◌≡◌, ◌≢◌, ℕ, suc, ◌≤◌, inl, inr, List, [], ◌∷◌, ◌++◌, ◌||◌, ◌&&◌, not, arith, sym, refl}
use Rattle.std.proofs.Common.{ap, ◌∙◌, subst}
use Rattle.std.specs.Prelude.{nat_eq}
use Rattle.heap_formula.specs.declared.terms.Term.{Term}
use Rattle.heap_formula.specs.declared.terms.Term.TheVariants.{Nil}
use Rattle.heap_formula.specs.declared.atoms.Spatial.{Spatial}
use Rattle.heap_formula.specs.Symbolic.{SymbolicHeap}
use Rattle.heap_formula.specs.Words.{Each}
use Rattle.pair_family.specs.BasePairs.{BasePair, parameter}
use Rattle.pair_family.specs.Classes.{class_of}
use Rattle.pair_family.specs.Combination.{Two, Choice, next, each_two, against_nil, cell_differences, upto, pairs_below}
use Rattle.pair_family.specs.Combination.{is_between, is_in_class, is_least, Facts, all_differ, both, AreConsistent}
use Rattle.pair_family.specs.Combination.{said, pure_facts, atom_facts, list_facts, combination}
use Rattle.pair_family.specs.States.{Families, IsChosenBy, GivesBy}
use Rattle.pair_family.specs.Folding.{spoken, Frame, Frames, next_frames, last_frame, IsKept, AreFrames, said_in}
use Rattle.pair_family.specs.Folding.{with_atom, FoldsTo}
use Rattle.pair_family.proofs.Lists.{upto_in, pairs_in, at_each, each_at, in_append, map_in}
use Rattle.cyc_basics.specs.Words.{IsMember}
use Rattle.pair_family.proofs.Two.{two_in}
use Rattle.pair_family.proofs.Classes.{classes_have, classes_least}
use Rattle.pair_family.proofs.Scope.{atom_equations_in, atom_differences_in, atom_addresses_in}
use Rattle.pair_family.proofs.Fold.{filter_same, any_same, both_first, whole_folded, folded_whole, said_same}
use Rattle.heap_formula.proofs.AllMembers.{each_front}
use Rattle.std.proofs.lemmas.List.{append-nil}
use Rattle.std.specs.List.{list_any}

pub append_three : {X : Type 0} (xs ys zs : List X) → xs ++ (ys ++ zs) ≡ (xs ++ ys) ++ zs
append_three [] ys zs = refl
append_three (x ∷ xs) ys zs = ap (λ us. x ∷ us) (append_three xs ys zs)

pub both_three : (x y z : Facts) → both x (both y z) ≡ both (both x y) z
both_three x y z =
    let e = append_three x.equal y.equal z.equal in
    let d = append_three x.differ y.differ z.differ in
    let c = append_three x.cells y.cells z.cells in
    λ i. record { equal = e i; differ = d i; cells = c i }

pub both_none : (x : Facts) → both x (list_facts (λ k. record { same = []; differ = []; cells = [] }) []) ≡ x
both_none x =
    let e = append-nil x.equal in
    let d = append-nil x.differ in
    let c = append-nil x.cells in
    λ i. record { equal = e i; differ = d i; cells = c i }

-- the first part of what is consistent is consistent
pub first_consistent : (x y : Facts) → AreConsistent (both x y) → AreConsistent x
first_consistent x y c =
    let f2 = class_of (x.equal ++ y.equal) in
    at_each (λ q. class_of x.equal q.0 ≢ class_of x.equal q.1) (all_differ x) (λ q i e.
    each_at (λ q. f2 q.0 ≢ f2 q.1) (all_differ (both x y)) q c (both_first x y q i)
    (classes_least f2 x.equal (each_front (λ q. f2 q.0 ≡ f2 q.1) x.equal y.equal
    (classes_have (x.equal ++ y.equal))) q.0 q.1 e))

-- an atom's facts speak of its terms and nil
module _ (Q : Term → Type 0) (nil : Q Nil) (b : BasePair) (x : Spatial) (inside : Each Q (spoken x)) where
  all_differ_in : (q : Two) → IsMember q (all_differ (atom_facts b x)) → Q q.0 × Q q.1
  all_differ_in q m =
      let cs = (atom_facts b x).cells in
      elim (in_append q (atom_facts b x).differ (cell_differences cs) m) [
        | inl i ↦ atom_differences_in Q nil x inside b q i
        | inr j ↦ elim (in_append q (against_nil cs) (each_two cs) j) [
          | inl i ↦ (let r = map_in (λ t. (t, Nil)) q cs i in
              subst (λ z. Q z.0 × Q z.1) r.2 (atom_addresses_in Q nil x inside b r.0 r.1, nil))
          | inr i ↦ (let r = two_in q cs i in (
            atom_addresses_in Q nil x inside b q.0 r.0,
            atom_addresses_in Q nil x inside b q.1 r.1,
          ))
        ]
      ]

-- one atom
module _ (frame after : Frame) (x : Facts) (c : BasePair) (a : Spatial) (consistent : AreConsistent x)
    (nil : IsKept frame Nil) (inside : Each (IsKept frame) (spoken a)) where
  abbrev stepped : Facts
  stepped = with_atom frame (said_in frame x) c a

  one_down : AreConsistent (both x (atom_facts c a)) → AreConsistent stepped
  one_down = whole_folded x (atom_facts c a) frame.count frame.at consistent nil
      (atom_equations_in (IsKept frame) nil a inside c) (all_differ_in (IsKept frame) nil c a inside)
      (atom_addresses_in (IsKept frame) nil a inside c)

  one_up : AreConsistent stepped → AreConsistent (both x (atom_facts c a))
  one_up = folded_whole x (atom_facts c a) frame.count frame.at consistent nil
      (atom_equations_in (IsKept frame) nil a inside c) (all_differ_in (IsKept frame) nil c a inside)
      (atom_addresses_in (IsKept frame) nil a inside c)

  one_said : ((i : ℕ) → i ≤ after.count → IsKept frame (after.at i))
      → said_in after (both x (atom_facts c a)) ≡ said_in after stepped
  one_said = said_same x (atom_facts c a) frame.count frame.at consistent nil
      (atom_equations_in (IsKept frame) nil a inside c) (all_differ_in (IsKept frame) nil c a inside)
      (atom_addresses_in (IsKept frame) nil a inside c) after.count after.at

abbrev pub Says : Frame → Facts → BasePair → Type 0
Says frame x d = AreConsistent x × (d ≡ said_in frame x)

-- what is folded is what the whole says
pub folds_says : (xs : List Spatial) (frames : Frames) (bs : Choice) (x : Facts) (d : BasePair) → AreFrames frames xs
    → AreConsistent x → FoldsTo frames (said_in (frames 0) x) bs xs d
    → Says (last_frame frames xs) (both x (list_facts bs xs)) d
folds_says [] frames bs x d fr c o = let e = both_none x in
    (subst AreConsistent (sym e) c, o ∙ ap (said_in (frames 0)) (sym e))
folds_says (a ∷ xs) frames bs x d fr c o =
    let step = both x (atom_facts (bs 0) a) in
    let up = one_up (frames 0) (frames 1) x (bs 0) a c fr.0 fr.1 o.0 in
    let s = one_said (frames 0) (frames 1) x (bs 0) a c fr.0 fr.1 fr.2 in
    let rest = subst (λ b. FoldsTo (next_frames frames) b (next bs) xs d) (sym s) o.1 in
    subst (λ z. Says (last_frame (next_frames frames) xs) z d)
    (sym (both_three x (atom_facts (bs 0) a) (list_facts (next bs) xs)))
    (folds_says xs (next_frames frames) (next bs) step d fr.3 up rest)

pub says_folds : (xs : List Spatial) (frames : Frames) (bs : Choice) (x : Facts) (d : BasePair) → AreFrames frames xs
    → AreConsistent x → Says (last_frame frames xs) (both x (list_facts bs xs)) d
    → FoldsTo frames (said_in (frames 0) x) bs xs d
says_folds [] frames bs x d fr c o = let e = both_none x in o.1 ∙ ap (said_in (frames 0)) e
says_folds (a ∷ xs) frames bs x d fr c o =
    let step = both x (atom_facts (bs 0) a) in
    let o' = subst (λ z. Says (last_frame (next_frames frames) xs) z d)
    (both_three x (atom_facts (bs 0) a) (list_facts (next bs) xs)) o in
    let here = first_consistent step (list_facts (next bs) xs) o'.0 in
    let down = one_down (frames 0) (frames 1) x (bs 0) a c fr.0 fr.1 here in
    let s = one_said (frames 0) (frames 1) x (bs 0) a c fr.0 fr.1 fr.2 in (
      down,
      subst (λ b. FoldsTo (next_frames frames) b (next bs) xs d) s
          (says_folds xs (next_frames frames) (next bs) step d fr.3 here o'),
    )

-- ---- cases

-- a case gives exactly what its folds lead to, from its pure atoms on, if only the parameters are kept at the end
pub record FoldGives (Fs : Families) (frames : Frames) (d : BasePair) (a : SymbolicHeap) : Type 0 where
  pub chosen : Choice
  pub from_families : IsChosenBy Fs chosen a.spatial
  pub first : AreConsistent (pure_facts a.pure)
  pub folds : FoldsTo frames (said_in (frames 0) (pure_facts a.pure)) chosen a.spatial d

-- what is said depends on the kept terms alone
pub said_at : (k : ℕ) (at to : ℕ → Term) (x : Facts) → ((i : ℕ) → i ≤ k → at i ≡ to i) → said k at x ≡ said k to x
said_at k at to x e =
    let f = class_of x.equal in
    let s = filter_same (λ q. nat_eq (f (at q.0)) (f (at q.1))) (λ q. nat_eq (f (to q.0)) (f (to q.1)))
    (pairs_below (suc k)) (λ q m. let l = pairs_in (suc k) q m in let a = e q.0 (omega arith) in
    let b = e q.1 (omega arith) in λ z. nat_eq (f (a z)) (f (b z))) in
    let d = filter_same (λ q. list_any (is_between f at q.0 q.1) (all_differ x))
    (λ q. list_any (is_between f to q.0 q.1) (all_differ x)) (pairs_below (suc k))
    (λ q m. let l = pairs_in (suc k) q m in let a = e q.0 (omega arith) in let b = e q.1 (omega arith) in
    λ z. list_any (λ p. (nat_eq (f p.0) (f (a z)) && nat_eq (f p.1) (f (b z))) ||
    (nat_eq (f p.0) (f (b z)) && nat_eq (f p.1) (f (a z)))) (all_differ x)) in
    let c = filter_same (λ i. is_least f at i && list_any (is_in_class f at i) x.cells)
    (λ i. is_least f to i && list_any (is_in_class f to i) x.cells) (upto (suc k)) (λ i m.
    let l = upto_in (suc k) i m in
    let a = e i (omega arith) in
    let least = any_same (λ j. is_in_class f at i (at j)) (λ j. is_in_class f to i (to j)) (upto i)
    (λ j n. let l' = upto_in i j n in let b = e j (omega arith) in λ z. nat_eq (f (b z)) (f (a z))) in
    λ z. not (least z) && list_any (λ t. nat_eq (f t) (f (a z))) x.cells) in
    λ z. record { same = s z; differ = d z; cells = c z }

-- a frame of nil and the first k parameters
pub record IsOfParameters (k : ℕ) (frame : Frame) : Type 0 where
  pub count : frame.count ≡ k
  pub at : (i : ℕ) → i ≤ k → frame.at i ≡ parameter i

of_parameters : (k : ℕ) (frame : Frame) (x : Facts) → IsOfParameters k frame → said_in frame x ≡ said k parameter x
of_parameters k frame x is = ap (λ n. said n frame.at x) is.count ∙ said_at k frame.at parameter x is.at

pub fold_case : (Fs : Families) (k : ℕ) (frames : Frames) (d : BasePair) (a : SymbolicHeap) → AreFrames frames a.spatial
    → IsOfParameters k (last_frame frames a.spatial) → FoldGives Fs frames d a → GivesBy Fs k d a
fold_case Fs k frames d a fr last g =
    let s = folds_says a.spatial frames g.chosen (pure_facts a.pure) d fr g.first g.folds in
    record {
      chosen = g.chosen;
      from_families = g.from_families;
      consistent = s.0;
      projected = s.1 ∙ of_parameters k (last_frame frames a.spatial) (combination g.chosen a) last;
    }

pub case_fold : (Fs : Families) (k : ℕ) (frames : Frames) (d : BasePair) (a : SymbolicHeap) → AreFrames frames a.spatial
    → IsOfParameters k (last_frame frames a.spatial) → GivesBy Fs k d a → FoldGives Fs frames d a
case_fold Fs k frames d a fr last g =
    let first = first_consistent (pure_facts a.pure) (list_facts g.chosen a.spatial) g.consistent in
    record {
      chosen = g.chosen;
      from_families = g.from_families;
      first = first;
      folds = says_folds a.spatial frames g.chosen (pure_facts a.pure) d fr first (
        g.consistent,
        g.projected ∙ sym (of_parameters k (last_frame frames a.spatial) (combination g.chosen a)
            last),
      );
    }
