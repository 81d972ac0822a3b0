-- Link is sound.
use Rattle.std.proofs.Common.{◌≡◌, ◌≢◌, ℕ, zero, suc, ◌<◌, ◌≤◌, max, Bool, true, false, not, ◌&&◌, ◌||◌, cond, List, []}
use Rattle.std.proofs.Common.{◌∷◌, ◌++◌, map, length, Option, Some, None, refl, sym, ap, ◌∙◌, subst, inl, inr, arith}
use Rattle.std.proofs.Common.{leb-true}
use Rattle.std.specs.Prelude.{slice_get, nat_eq, nat_le}
use Rattle.std.proofs.lemmas.Bool.{cases_lt, and_parts}
use Rattle.std.proofs.lemmas.Bool.Decides.{Decides-eqb}
use Rattle.heap_formula.specs.declared.terms.Term.TheVariants.{Univ}
use Rattle.heap_formula.specs.declared.atoms.Pure.{Pure}
use Rattle.heap_formula.specs.declared.atoms.Spatial.{Spatial}
use Rattle.heap_formula.specs.declared.commands.Command.{Command}
use Rattle.heap_formula.specs.declared.judgements.Judgement.{Judgement}
use Rattle.heap_formula.specs.declared.judgements.Judgement.TheVariants.{Entail, Term as Runs}
use Rattle.heap_formula.specs.declared.proof_rules.Link.{Link}
use Rattle.heap_formula.specs.declared.proof_rules.RuleFault.{RuleFault}
use Rattle.heap_formula.specs.declared.proof_rules.RuleFault.TheVariants.{LineDiffers, LinkProgramVariable, LinkPure}
use Rattle.heap_formula.specs.declared.proof_rules.RuleFault.TheVariants.{LinkSpatial, LinkDisjunct}
use Rattle.heap_formula.specs.Symbolic.{SymbolicHeap}
use Rattle.heap_formula.specs.Definitions.{Definition}
use Rattle.heap_formula.specs.Words.{Each, max_of}
use Rattle.heap_formula.specs.Fresh.{heap_bound}
use Rattle.heap_formula.specs.Programs.{program_variables}
use Rattle.heap_formula.specs.Judgements.{IsLocallySound}
use Rattle.heap_formula.specs.Closedness.{IsUniversal}
use Rattle.heap_formula.specs.Substitution.{Bindings, image, apply_pure, apply_spatial, apply_heap}
use Rattle.rule_table.specs.RuleLink.{minus, count_of, SameAtoms, Covers, DisjunctsCover, MapsInto, FollowsFrom}
use Rattle.rule_table.specs.RuleLink.{IsMatch}
use Rattle.rule_table.proofs.Multisets.{stands}
use Rattle.rule_table.proofs.LinkRuns.{link_runs_sound}
use Rattle.rule_table.proofs.LinkEntails.{link_entails_sound}
use Rattle.rule_table.specs.Answer.{one}
use Rattle.rule_table.specs.Tests.{same_term, follows, has_number}
use Rattle.rule_table.specs.LinkTable.{first_of, fault_unless, keeps_below, pure_fault, matches_some, spatial_fault}
use Rattle.rule_table.specs.LinkTable.{counts_agree, same_atoms, all_follow, covers_some, disjunct_fault, parts_fault}
use Rattle.rule_table.specs.LinkTable.{link_fault, link_premise}
use Rattle.rule_table.specs.RuleBook.{leaves_nothing}
use Rattle.std.specs.Prelude.{◌⊎◌}
use Rattle.heap_formula.specs.Programs.{has_ends}
use Rattle.rule_table.specs.Soundness.{HasVariables, AreUniversal}
use Rattle.rule_table.proofs.Reflects.{same_term_is, follows_is, matches_is}
use Rattle.heap_formula.proofs.AllMembers.{each_at}
use Rattle.heap_formula.proofs.FactTerms.{universal_choice}

pub none_of_two : (f g : Option RuleFault) → first_of f g ≡ None → (f ≡ None) × (g ≡ None)
none_of_two None g e = (refl, e)
none_of_two (Some x) g e = cc

pub no_fault : (b : Bool) (f : RuleFault) → fault_unless b f ≡ None → b ≡ true
no_fault true f e = refl
no_fault false f e = cc

pub cond_none : (b : Bool) (rest : Option RuleFault) (f : RuleFault) → cond b rest (Some f) ≡ None
    → (b ≡ true) × (rest ≡ None)
cond_none true rest f e = (refl, e)
cond_none false rest f e = cc

pub kept_below : (s : Bindings) (p : ℕ) → keeps_below s p ≡ true → (v : ℕ) → v < p → image s v ≡ Univ v
kept_below s zero e v lt = absurd (omega arith)
kept_below s (suc p) e v lt =
    let b = and_parts (same_term (image s p) (Univ p)) (keeps_below s p) e in
    elim (cases_lt v p) [
      | inl below ↦ kept_below s p b.1 v below
      | inr le ↦ let q : p ≡ v = omega arith in subst (λ m. image s m ≡ Univ m) q
          (same_term_is (image s p) (Univ p) b.0)
    ]

all_pures : (pures : List Pure) (k : ℕ) (xs : List Pure) → pure_fault pures k xs ≡ None → Each (FollowsFrom pures) xs
all_pures pures k [] e = tt
all_pures pures k (x ∷ xs) e =
    let c = cond_none (follows pures x) (pure_fault pures (suc k) xs) (LinkPure k) e in
    (follows_is pures x c.0, all_pures pures (suc k) xs c.1)

some_match : (pures : List Pure) (x : Spatial) (o : Option Spatial) → matches_some pures x o ≡ true
    → (y : Spatial) × (o ≡ Some y) × IsMatch pures x y
some_match pures x None e = cc
some_match pures x (Some y) e = (y, refl, matches_is pures x y e)

-- the places that no earlier entry names
abbrev unseen : List ℕ → ℕ → Bool
unseen seen k = not (has_number seen k)

minus_here : (m : ℕ) (p : ℕ → Bool) → minus m p m ≡ false
minus_here zero p = refl
minus_here (suc m) p = minus_here m (λ j. p (suc j))

minus_there : (m : ℕ) (p : ℕ → Bool) (k : ℕ) → k ≢ m → minus m p k ≡ p k
minus_there zero p zero ne = absurd (ne refl)
minus_there zero p (suc k) ne = refl
minus_there (suc m) p zero ne = refl
minus_there (suc m) p (suc k) ne = minus_there m (λ j. p (suc j)) k (λ e. ne (ap suc e))

minus_is : (b : Bool) (m : ℕ) (p : ℕ → Bool) (k : ℕ) → nat_eq k m ≡ b → cond b false (p k) ≡ minus m p k
minus_is true m p k e =
    let same : k ≡ m = (Decides-eqb k m).0 e in subst (λ n. false ≡ minus m p n) (sym same) (sym (minus_here m p))
minus_is false m p k e = sym (minus_there m p k (λ q. let bad = (Decides-eqb k m).1 q in cc))

unseen_more : (seen : List ℕ) (m k : ℕ) → unseen (seen ++ m ∷ []) k ≡ minus m (unseen seen) k
unseen_more seen m k = more seen ∙ minus_is (nat_eq k m) m (unseen seen) k refl
  where
    more : (seen : List ℕ) → unseen (seen ++ m ∷ []) k ≡ cond (nat_eq k m) false (unseen seen k)
    more [] = one_number (nat_eq k m)
      where
        one_number : (b : Bool) → not (b || false) ≡ cond b false true
        one_number true = refl
        one_number false = refl
    more (i ∷ is) = ap (λ b. not (nat_eq k i || b)) refl
        ∙ earlier (nat_eq k i) (has_number (is ++ m ∷ []) k) (has_number is k) (nat_eq k m) (more is)
      where
        earlier : (a b c d : Bool) → not b ≡ cond d false (not c) → not (a || b) ≡ cond d false (not (a || c))
        earlier true b c true e = refl
        earlier true b c false e = refl
        earlier false b c d e = e

all_spatials : (pures : List Pure) (atoms : List Spatial) (whole : Bool) (seen : List ℕ) (k : ℕ) (ms : List ℕ)
    (xs : List Spatial) → spatial_fault pures atoms whole seen k ms xs ≡ None
    → MapsInto pures atoms (unseen seen) ms xs × (whole ≡ true)
all_spatials pures atoms whole seen k [] [] e = (tt, no_fault whole (LinkSpatial k) e)
all_spatials pures atoms whole seen k (m ∷ ms) [] e = cc
all_spatials pures atoms whole seen k [] (x ∷ xs) e = cc
all_spatials pures atoms whole seen k (m ∷ ms) (x ∷ xs) e =
    let c = cond_none (unseen seen m && matches_some pures x (slice_get atoms m))
    (spatial_fault pures atoms whole (seen ++ m ∷ []) (suc k) ms xs) (LinkSpatial k) e in
    let b = and_parts (unseen seen m) (matches_some pures x (slice_get atoms m)) c.0 in
    let y = some_match pures x (slice_get atoms m) b.1 in
    let r = all_spatials pures atoms whole (seen ++ m ∷ []) (suc k) ms xs c.1 in
    let rest = subst (λ (p : ℕ → Bool). MapsInto pures atoms p ms xs) (λ i j. unseen_more seen m j i) r.0 in
    ((y.0, y.1, b.0, y.2, rest), r.1)

counts_are : (xs ys zs : List Spatial) → counts_agree xs ys zs ≡ true → Each (λ z. count_of z xs ≡ count_of z ys) zs
counts_are xs ys [] e = tt
counts_are xs ys (z ∷ zs) e =
    let b = and_parts (nat_eq (count_of z xs) (count_of z ys)) (counts_agree xs ys zs) e in
    ((Decides-eqb (count_of z xs) (count_of z ys)).0 b.0, counts_are xs ys zs b.1)

atoms_are : (xs ys : List Spatial) → same_atoms xs ys ≡ true → SameAtoms xs ys
atoms_are xs ys e x =
    elim (cases_lt 0 (count_of x xs)) [
      | inl some ↦ let at = stands x xs some in each_at (λ z. count_of z xs ≡ count_of z ys) xs at.place x at.at
          (counts_are xs ys xs b.0)
      | inr none ↦ elim (cases_lt 0 (count_of x ys)) [
        | inl some ↦ let at = stands x ys some in each_at (λ z. count_of z xs ≡ count_of z ys) ys at.place x at.at
            (counts_are xs ys ys b.1)
        | inr none' ↦ omega arith
      ]
    ]
  where
    b : (counts_agree xs ys xs ≡ true) × (counts_agree xs ys ys ≡ true)
    b = and_parts (counts_agree xs ys xs) (counts_agree xs ys ys) e

all_follow_are : (pures xs : List Pure) → all_follow pures xs ≡ true → Each (FollowsFrom pures) xs
all_follow_are pures [] e = tt
all_follow_are pures (x ∷ xs) e =
    let b = and_parts (follows pures x) (all_follow pures xs) e in (follows_is pures x b.0, all_follow_are pures xs b.1)

some_covered : (c : SymbolicHeap) (o : Option SymbolicHeap) → covers_some c o ≡ true
    → (b : SymbolicHeap) × (o ≡ Some b) × Covers c b
some_covered c None e = cc
some_covered c (Some b) e =
    let t = and_parts (same_atoms b.spatial c.spatial) (all_follow c.pure b.pure) e in
    (b, refl, record { spatial = atoms_are b.spatial c.spatial t.0; pure = all_follow_are c.pure b.pure t.1 })

all_disjuncts : (bs : List SymbolicHeap) (k : ℕ) (ms : List ℕ) (cs : List SymbolicHeap)
    → disjunct_fault bs k ms cs ≡ None → DisjunctsCover bs ms cs
all_disjuncts bs k [] [] e = tt
all_disjuncts bs k (m ∷ ms) [] e = cc
all_disjuncts bs k [] (c ∷ cs) e = cc
all_disjuncts bs k (m ∷ ms) (c ∷ cs) e =
    let t = cond_none (covers_some c (slice_get bs m)) (disjunct_fault bs (suc k) ms cs) (LinkDisjunct k) e in
    let b = some_covered c (slice_get bs m) t.0 in
    (b.0, b.1, b.2, all_disjuncts bs (suc k) ms cs t.1)

image_universal : (s : Bindings) → AreUniversal s → (v : ℕ) → IsUniversal (image s v)
image_universal [] u v = tt
image_universal (p ∷ s) u v = universal_choice (nat_eq v p.0) p.1 (image s v) u.0 (image_universal s u.1 v)

pub parts_are : (a : SymbolicHeap) (bs : List SymbolicHeap) (b : SymbolicHeap) (cs : List SymbolicHeap) (whole : Bool)
    (link : Link) → parts_fault a bs b cs whole link ≡ None → Each (FollowsFrom a.pure)
    (map (apply_pure link.subst) b.pure) × MapsInto a.pure a.spatial (λ _. true) link.map
    (map (apply_spatial link.subst) b.spatial) × (whole ≡ true)
    × DisjunctsCover bs link.disjuncts (map (apply_heap link.subst) cs)
parts_are a bs b cs whole link e =
    let f = none_of_two (pure_fault a.pure 0 (map (apply_pure link.subst) b.pure)) _ e in
    let g = none_of_two (spatial_fault a.pure a.spatial whole [] 0 link.map (map (apply_spatial link.subst) b.spatial))
    (disjunct_fault bs 0 link.disjuncts (map (apply_heap link.subst) cs)) f.1 in
    let s = all_spatials a.pure a.spatial whole [] 0 link.map (map (apply_spatial link.subst) b.spatial) g.0 in (
      all_pures a.pure 0 (map (apply_pure link.subst) b.pure) f.0,
      s.0,
      s.1,
      all_disjuncts bs 0 link.disjuncts (map (apply_heap link.subst) cs) g.1,
    )

module _ (ds : List Definition) (lines : List Command) where
  pub link_is_sound : (bud companion : Judgement) (link : Link) (p : ℕ) → AreUniversal link.subst
      → HasVariables lines p bud → leaves_nothing lines bud companion ≡ true → link_fault bud companion link p ≡ None
      → IsLocallySound ds lines bud (one (link_premise companion link))
  link_is_sound (Entail a bs) (Runs i b) link p u v whole e = cc
  link_is_sound (Runs i a) (Entail b cs) link p u v whole e = cc
  link_is_sound (Entail a bs) (Entail b cs) link p u v whole e =
      let f = parts_are a bs b cs (nat_le (length a.spatial) (length b.spatial)) link e in
      let n = max (heap_bound b) (max_of (map heap_bound cs)) in
      link_entails_sound ds lines a b bs cs link.subst link.map link.disjuncts n (omega arith) (omega arith)
      (image_universal link.subst u) f.0 f.1 (leb-true _ _ f.2) f.3
  link_is_sound (Runs i a) (Runs k b) link p u v whole e =
      let f = none_of_two (fault_unless (nat_eq i k) LineDiffers) _ e in
      let g = none_of_two (fault_unless (keeps_below link.subst p) LinkProgramVariable)
      (parts_fault a [] b [] true link) f.1 in
      let h = parts_are a [] b [] true link g.1 in
      let same : i ≡ k = (Decides-eqb i k).0 (no_fault (nat_eq i k) LineDiffers f.0) in
      let kept = kept_below link.subst p (no_fault (keeps_below link.subst p) LinkProgramVariable g.0) in
      let w : program_variables lines ≤ p = v in
      let n = max (heap_bound b) (program_variables lines) in
      subst (λ m. IsLocallySound ds lines (Runs i a) (one (link_premise (Runs m b) link))) same
      (link_runs_sound ds lines i a b link.subst link.map n (omega arith) (omega arith)
      (λ q lt. kept q (omega arith)) h.0 h.1 (none_or_whole (has_ends lines) whole))
    where
      none_or_whole : (ends : Bool) → (not ends || nat_le (length a.spatial) (length b.spatial)) ≡ true
          → (ends ≡ false) ⊎ (length a.spatial ≤ length b.spatial)
      none_or_whole false e = inl refl
      none_or_whole true e = inr (leb-true _ _ e)
