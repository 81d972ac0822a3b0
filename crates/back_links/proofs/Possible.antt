-- A link without a fault meets what its first choices must.
use Rattle.std.proofs.Common.{◌≡◌, ℕ, suc, ◌<◌, Bool, true, false, not, ◌&&◌, ◌||◌, ◌⊎◌, cond, List, [], ◌∷◌, ◌++◌, map}
use Rattle.std.proofs.Common.{length, get_or, Option, Some, None, refl, sym, ap, ◌∙◌, subst, inl, inr, arith}
use Rattle.std.proofs.Common.{append_assoc}
use Rattle.std.specs.Prelude.{slice_get, nat_eq, nat_le}
use Rattle.std.specs.List.{list_all}
use Rattle.std.proofs.lemmas.List.{append-nil}
use Rattle.std.proofs.lemmas.Bool.{leb-true, leb-false, and_from as both_true, and_parts}
use Rattle.std.proofs.lemmas.Bool.Decides.{Decides-eqb}
use Rattle.heap_formula.specs.declared.terms.Term.{Term}
use Rattle.heap_formula.specs.declared.terms.Term.TheVariants.{Nil, Univ, Exist}
use Rattle.heap_formula.specs.declared.atoms.Pure.{Pure}
use Rattle.heap_formula.specs.declared.atoms.Pure.TheVariants.{Eq, Neq}
use Rattle.heap_formula.specs.declared.atoms.Spatial.{Spatial}
use Rattle.heap_formula.specs.declared.atoms.Spatial.TheVariants.{Cell, Pred}
use Rattle.heap_formula.specs.declared.judgements.Judgement.{Judgement}
use Rattle.heap_formula.specs.declared.judgements.Judgement.TheVariants.{Entail, Term as Runs}
use Rattle.heap_formula.specs.declared.proof_rules.Link.{Link}
use Rattle.heap_formula.specs.declared.proof_rules.RuleFault.TheVariants.{LineDiffers, LinkProgramVariable, LinkPure}
use Rattle.heap_formula.specs.declared.proof_rules.RuleFault.TheVariants.{LinkSpatial, LinkDisjunct}
use Rattle.heap_formula.specs.Symbolic.{SymbolicHeap}
use Rattle.heap_formula.specs.Words.{OneOf}
use Rattle.heap_formula.specs.Judgements.{antecedent}
use Rattle.heap_formula.specs.Substitution.{Bindings, image, apply_term, apply_pure, apply_spatial, apply_heap}
use Rattle.rule_table.specs.Answer.{disjuncts}
use Rattle.rule_table.specs.Tests.{same_term, equated, follows, has_number}
use Rattle.rule_table.specs.RuleLink.{MapsInto, DisjunctsCover}
use Rattle.rule_table.specs.LinkTable.{first_of, fault_unless, keeps_below, pure_fault, all_equated, matches}
use Rattle.rule_table.specs.LinkTable.{matches_some, spatial_fault, covers_some, disjunct_fault, parts_fault}
use Rattle.rule_table.specs.LinkTable.{link_fault}
use Rattle.rule_table.proofs.LinkRule.{none_of_two, no_fault, parts_are}
use Rattle.back_links.specs.Listing.{value_choices, stands_in_pure, stands_in_spatial}
use Rattle.back_links.specs.Shapes.{has_shapes, same_shapes, some_has_shapes}
use Rattle.back_links.specs.Prospects.{lookup, known, could_equal, could_equal_all, could_match, could_match_some}
use Rattle.back_links.specs.Prospects.{could_match_those, both_known, known_pure, could_follow, could_follow_those}
use Rattle.back_links.specs.Prospects.{could_keep, kept_variables, could_send, has_value, have_values, could_stand}
use Rattle.back_links.specs.Prospects.{could_take, are_alike, has_cover, have_covers}
use Rattle.back_links.proofs.AlikeShapes.{mapped_shapes, mapped_whole, covered_shapes}
use Rattle.back_links.proofs.Selecting.{IsSelection, every_true, any_true, any_in_range}
pub use Rattle.rule_table.proofs.LinkRule.{cond_none, kept_below}
use Rattle.cyc_basics.proofs.Places.{tested_within}

-- the pairs say of a variable what the whole substitution says
abbrev pub Agrees : Bindings → Bindings → Type 0
Agrees s whole = (n : ℕ) (v : Term) → lookup s n ≡ Some v → image whole n ≡ v

pub or_right : (a : Bool) {b : Bool} → b ≡ true → a || b ≡ true
or_right true e = refl
or_right false e = e

module _ (s whole : Bindings) (agrees : Agrees s whole) (pures : List Pure) where
  known_is : (t u : Term) → known s t ≡ Some u → apply_term whole t ≡ u
  known_is Nil u e = cc
  known_is (Univ n) u e = agrees n u e
  known_is (Exist n) u e = cc

  equal_ok : (o : Option Term) (t u : Term) → ((v : Term) → o ≡ Some v → apply_term whole t ≡ v)
      → equated pures (apply_term whole t) u ≡ true → could_equal pures o u ≡ true
  equal_ok None t u k e = refl
  equal_ok (Some v) t u k e = subst (λ (w : Term). equated pures w u ≡ true) (k v refl) e

  all_equal_ok : (ts us : List Term) → all_equated pures (map (apply_term whole) ts) us ≡ true
      → could_equal_all pures s ts us ≡ true
  all_equal_ok [] [] e = refl
  all_equal_ok [] (u ∷ us) e = e
  all_equal_ok (t ∷ ts) [] e = e
  all_equal_ok (t ∷ ts) (u ∷ us) e =
      let b = and_parts (equated pures (apply_term whole t) u) (all_equated pures (map (apply_term whole) ts) us) e in
      both_true (could_equal pures (known s t) u) (could_equal_all pures s ts us)
      (equal_ok (known s t) t u (known_is t) b.0) (all_equal_ok ts us b.1)

  pub match_ok : (x y : Spatial) → matches pures (apply_spatial whole x) y ≡ true → could_match pures s x y ≡ true
  match_ok (Cell t ts) (Cell u us) e =
      let b = and_parts (equated pures (apply_term whole t) u) (all_equated pures (map (apply_term whole) ts) us) e in
      both_true (could_equal pures (known s t) u) (could_equal_all pures s ts us)
      (equal_ok (known s t) t u (known_is t) b.0) (all_equal_ok ts us b.1)
  match_ok (Pred p ts) (Pred q us) e =
      let b = and_parts (nat_eq p q) (all_equated pures (map (apply_term whole) ts) us) e in
      both_true (nat_eq p q) (could_equal_all pures s ts us) b.0 (all_equal_ok ts us b.1)
  match_ok (Cell t ts) (Pred q us) e = e
  match_ok (Pred p ts) (Cell u us) e = e

  pub match_some_ok : (x : Spatial) (o : Option Spatial) → matches_some pures (apply_spatial whole x) o ≡ true
      → could_match_some pures s x o ≡ true
  match_some_ok x None e = e
  match_some_ok x (Some y) e = match_ok x y e

  pub match_those_ok : (n : ℕ) (atoms : List Spatial) (all : Bool) (seen : List ℕ) (k : ℕ) (ms rest : List ℕ)
      (xs : List Spatial) → spatial_fault pures atoms all seen k (ms ++ rest) (map (apply_spatial whole) xs) ≡ None
      → could_match_those n pures atoms s ms xs ≡ true
  match_those_ok n atoms all seen k [] rest xs e = refl
  match_those_ok n atoms all seen k (m ∷ ms) rest [] e = refl
  match_those_ok n atoms all seen k (m ∷ ms) rest (x ∷ xs) e =
      let c = cond_none (not (has_number seen m) && matches_some pures (apply_spatial whole x) (slice_get atoms m))
      (spatial_fault pures atoms all (seen ++ m ∷ []) (suc k) (ms ++ rest) (map (apply_spatial whole) xs))
      (LinkSpatial k) e in
      let b = and_parts (not (has_number seen m)) (matches_some pures (apply_spatial whole x) (slice_get atoms m)) c.0
      in
      both_true (not (stands_in_spatial n x) || could_match_some pures s x (slice_get atoms m))
      (could_match_those n pures atoms s ms xs) (or_right (not (stands_in_spatial n x))
      (match_some_ok x (slice_get atoms m) b.1)) (match_those_ok n atoms all (seen ++ m ∷ []) (suc k)
      ms rest xs c.1)

  both_ok : (f : Term → Term → Pure) (o q : Option Term) (t u : Term)
      → ((v : Term) → o ≡ Some v → apply_term whole t ≡ v) → ((v : Term) → q ≡ Some v → apply_term whole u ≡ v)
      → follows pures (f (apply_term whole t) (apply_term whole u)) ≡ true
      → could_follow pures (both_known f o q) ≡ true
  both_ok f None q t u h k e = refl
  both_ok f (Some v) None t u h k e = refl
  both_ok f (Some v) (Some w) t u h k e = subst (λ (y : Term). follows pures (f v y) ≡ true) (k w refl)
      (subst (λ (y : Term). follows pures (f y (apply_term whole u)) ≡ true) (h v refl) e)

  pub follow_ok : (x : Pure) → follows pures (apply_pure whole x) ≡ true → could_follow pures (known_pure s x) ≡ true
  follow_ok (Eq t u) e = both_ok Eq (known s t) (known s u) t u (known_is t) (known_is u) e
  follow_ok (Neq t u) e = both_ok Neq (known s t) (known s u) t u (known_is t) (known_is u) e

  pub follow_those_ok : (n k : ℕ) (xs : List Pure) → pure_fault pures k (map (apply_pure whole) xs) ≡ None
      → could_follow_those n pures s xs ≡ true
  follow_those_ok n k [] e = refl
  follow_those_ok n k (x ∷ xs) e =
      let c = cond_none (follows pures (apply_pure whole x)) (pure_fault pures (suc k) (map (apply_pure whole) xs))
      (LinkPure k) e in
      both_true (not (stands_in_pure n x) || could_follow pures (known_pure s x)) (could_follow_those n pures s xs)
      (or_right (not (stands_in_pure n x)) (follow_ok x c.0)) (follow_those_ok n (suc k) xs c.1)

  pub keep_ok : (kept n : ℕ) → ((v : ℕ) → v < kept → image whole v ≡ Univ v)
      → nat_le kept n || could_keep (lookup s n) n ≡ true
  keep_ok kept n h = one (nat_le kept n) refl
    where
      stays : (o : Option Term) → lookup s n ≡ o → n < kept → could_keep o n ≡ true
      stays None e lt = refl
      stays (Some v) e lt =
          let same : v ≡ Univ n = sym (agrees n v e) ∙ h n lt in
          subst (λ (w : Term). same_term w (Univ n) ≡ true) (sym same) ((Decides-eqb n n).1 refl)

      one : (b : Bool) → nat_le kept n ≡ b → b || could_keep (lookup s n) n ≡ true
      one true e = refl
      one false e = stays (lookup s n) refl (leb-false kept n e)

-- ---- pairs that agree with a substitution

pub none_agree : (whole : Bindings) → Agrees [] whole
none_agree whole n v e = cc

pub one_agrees : (whole : Bindings) (n : ℕ) → Agrees ((n, image whole n) ∷ []) whole
one_agrees whole n m v e = same (nat_eq m n) refl e
  where
    same : (b : Bool) → nat_eq m n ≡ b → cond b (Some (image whole n)) None ≡ Some v → image whole m ≡ v
    same true t e = let q : m ≡ n = (Decides-eqb m n).0 t in ap (image whole) q ∙ cc
    same false t e = cc

pub front_agrees : (s rest : Bindings) → Agrees s (s ++ rest)
front_agrees [] rest n v e = cc
front_agrees (p ∷ ps) rest n v e = same (nat_eq n p.0) (front_agrees ps rest n v) e
  where
    same : (b : Bool) → (lookup ps n ≡ Some v → image (ps ++ rest) n ≡ v) → cond b (Some p.1) (lookup ps n) ≡ Some v
        → cond b p.1 (image (ps ++ rest) n) ≡ v
    same true h e = cc
    same false h e = h e

-- ---- what a link without a fault has

-- the parts of the bud's antecedent, and the companion's
pub record Fits (bud companion : Judgement) (p : ℕ) (ms : List ℕ) (s : Bindings) (ks : List ℕ) : Type 0 where
  pub all : Bool
  pub pure : pure_fault (antecedent bud).pure 0 (map (apply_pure s) (antecedent companion).pure) ≡ None
  pub spatial : spatial_fault (antecedent bud).pure (antecedent bud).spatial all [] 0 ms
      (map (apply_spatial s) (antecedent companion).spatial) ≡ None
  pub disjunct : disjunct_fault (disjuncts bud) 0 ks (map (apply_heap s) (disjuncts companion)) ≡ None
  pub keeps : (v : ℕ) → v < kept_variables companion p → image s v ≡ Univ v
  pub alike : are_alike bud companion ≡ true
  pub taken : MapsInto (antecedent bud).pure (antecedent bud).spatial (λ _. true) ms
      (map (apply_spatial s) (antecedent companion).spatial)
  pub covers : DisjunctsCover (disjuncts bud) ks (map (apply_heap s) (disjuncts companion))

parts_fit : (a : SymbolicHeap) (bs : List SymbolicHeap) (b : SymbolicHeap) (cs : List SymbolicHeap) (all : Bool)
    (link : Link) → parts_fault a bs b cs all link ≡ None → (pure_fault a.pure 0 (map (apply_pure link.subst) b.pure)
    ≡ None) × (spatial_fault a.pure a.spatial all [] 0 link.map (map (apply_spatial link.subst) b.spatial) ≡ None)
    × (disjunct_fault bs 0 link.disjuncts (map (apply_heap link.subst) cs) ≡ None)
parts_fit a bs b cs all link e =
    let f = none_of_two (pure_fault a.pure 0 (map (apply_pure link.subst) b.pure))
    (first_of (spatial_fault a.pure a.spatial all [] 0 link.map (map (apply_spatial link.subst) b.spatial))
    (disjunct_fault bs 0 link.disjuncts (map (apply_heap link.subst) cs))) e in
    let g = none_of_two (spatial_fault a.pure a.spatial all [] 0 link.map (map (apply_spatial link.subst) b.spatial))
    (disjunct_fault bs 0 link.disjuncts (map (apply_heap link.subst) cs)) f.1 in
    (f.0, g.0, g.1)

pub fits : (bud companion : Judgement) (p : ℕ) (link : Link) → link_fault bud companion link p ≡ None
    → Fits bud companion p link.map link.subst link.disjuncts
fits (Entail a bs) (Runs i b) p link e = cc
fits (Runs i a) (Entail b cs) p link e = cc
fits (Entail a bs) (Entail b cs) p link e =
    let all = nat_le (length a.spatial) (length b.spatial) in
    let f = parts_fit a bs b cs all link e in
    let h = parts_are a bs b cs all link e in
    let alike = both_true (same_shapes a.spatial b.spatial) (list_all (some_has_shapes bs) cs)
    (mapped_whole a.pure a.spatial link.map link.subst b.spatial (leb-true _ _ h.2) h.1)
    (covered_shapes link.subst bs link.disjuncts cs h.3) in
    record {
      all = all;
      pure = f.0;
      spatial = f.1;
      disjunct = f.2;
      keeps = λ v lt. absurd (omega arith);
      alike = alike;
      taken = h.1;
      covers = h.3;
    }
fits (Runs i a) (Runs k b) p link e =
    let f = none_of_two (fault_unless (nat_eq i k) LineDiffers)
    (first_of (fault_unless (keeps_below link.subst p) LinkProgramVariable) (parts_fault a [] b [] true link)) e in
    let g = none_of_two (fault_unless (keeps_below link.subst p) LinkProgramVariable) (parts_fault a [] b [] true link)
    f.1 in
    let h = parts_fit a [] b [] true link g.1 in
    let m = parts_are a [] b [] true link g.1 in
    let alike = both_true (nat_eq i k) (has_shapes a.spatial b.spatial) (no_fault (nat_eq i k) LineDiffers f.0)
    (mapped_shapes a.pure a.spatial link.map link.subst b.spatial m.1) in
    record {
      all = true;
      pure = h.0;
      spatial = h.1;
      disjunct = h.2;
      keeps = kept_below link.subst p (no_fault (keeps_below link.subst p) LinkProgramVariable g.0);
      alike = alike;
      taken = m.1;
      covers = m.3;
    }

module _ (bud companion : Judgement) (p : ℕ) where
  pub send_ok : (places rest : List ℕ) (s whole : Bindings) (n : ℕ) (ks : List ℕ) → Agrees s whole
      → Fits bud companion p (places ++ rest) whole ks → could_send bud companion p places s n ≡ true
  send_ok places rest s whole n ks agrees f =
      let a = antecedent bud in
      let b = antecedent companion in
      both_true (nat_le (kept_variables companion p) n || could_keep (lookup s n) n)
      (could_match_those n a.pure a.spatial s places b.spatial && could_follow_those n a.pure s b.pure)
      (keep_ok s whole agrees a.pure (kept_variables companion p) n f.keeps)
      (both_true (could_match_those n a.pure a.spatial s places b.spatial) (could_follow_those n a.pure s b.pure)
      (match_those_ok s whole agrees a.pure n a.spatial f.all [] 0 places rest b.spatial f.spatial)
      (follow_those_ok s whole agrees a.pure n 0 b.pure f.pure))

  module _ (values : List Term) where
    among : (n : ℕ) (m : ℕ) (q : ℕ × Term) (vs : List Term) → OneOf (λ r. r ≡ q) (map (λ v. (m, v)) vs)
        → (m ≡ q.0) × OneOf (λ v. v ≡ q.1) vs
    among n m q [] o = absurd o
    among n m q (v ∷ vs) (inl e) = (ap (λ (r : ℕ × Term). r.0) e, inl (ap (λ (r : ℕ × Term). r.1) e))
    among n m q (v ∷ vs) (inr o) = let r = among n m q vs o in (r.0, inr r.1)

    first_or : {A : Type 0} (b : Bool) (m : ℕ) (q : ℕ × Term) (s : Bindings) (n : ℕ) → nat_eq n q.0 ≡ b
        → (m ≡ q.0) × OneOf (λ v. v ≡ q.1) values → (m ≡ n) ⊎ A → (A → OneOf (λ v. v ≡ image s n) values)
        → OneOf (λ v. v ≡ cond b q.1 (image s n)) values
    first_or true m q s n t here o rest = here.1
    first_or false m q s n t here (inl e) rest = let bad = (Decides-eqb n q.0).1 (sym e ∙ here.0) in cc
    first_or false m q s n t here (inr r) rest = rest r

    -- a source's term is one of the values
    pub sent : (sources : List ℕ) (s : Bindings) → IsSelection (value_choices values sources) s → (n : ℕ)
        → OneOf (λ m. m ≡ n) sources → OneOf (λ v. v ≡ image s n) values
    sent [] s i n o = absurd o
    sent (m ∷ ms) [] i n o = absurd i
    sent (m ∷ ms) (q ∷ s) i n o = first_or (nat_eq n q.0) m q s n refl (among n m q values i.0) o (sent ms s i.1 n)

    pub values_ok : (sources places rest : List ℕ) (x : Spatial) (s : Bindings) (ks : List ℕ)
        → IsSelection (value_choices values sources) s → Fits bud companion p (places ++ rest) s ks
        → have_values bud companion p values places x sources ≡ true
    values_ok sources places rest x s ks i f =
        every_true (λ n. not (stands_in_spatial n x) || has_value bud companion p values places n) sources
        (λ n o. or_right (not (stands_in_spatial n x)) (any_true
        (λ v. could_send bud companion p places ((n, v) ∷ []) n) (image s n) values (sent sources s i n o)
        (send_ok places rest ((n, image s n) ∷ []) s n ks (one_agrees s n) f)))

-- ---- the map's and the list's entries

-- no entry is named twice
pub not_twice : (pures : List Pure) (atoms : List Spatial) (all : Bool) (seen : List ℕ) (k : ℕ) (ms : List ℕ) (m : ℕ)
    (rest : List ℕ) (xs : List Spatial) → spatial_fault pures atoms all seen k (ms ++ m ∷ rest) xs ≡ None
    → has_number (seen ++ ms) m ≡ false
not_twice pures atoms all seen k [] m rest [] e = cc
not_twice pures atoms all seen k (n ∷ ms) m rest [] e = cc
not_twice pures atoms all seen k [] m rest (x ∷ xs) e =
    let c = cond_none (not (has_number seen m) && matches_some pures x (slice_get atoms m))
    (spatial_fault pures atoms all (seen ++ m ∷ []) (suc k) rest xs) (LinkSpatial k) e in
    let b = and_parts (not (has_number seen m)) (matches_some pures x (slice_get atoms m)) c.0 in
    ap (λ (ns : List ℕ). has_number ns m) (append-nil seen) ∙ unset (has_number seen m) b.0
  where
    unset : (b : Bool) → not b ≡ true → b ≡ false
    unset true e = cc
    unset false e = refl
not_twice pures atoms all seen k (n ∷ ms) m rest (x ∷ xs) e =
    let c = cond_none (not (has_number seen n) && matches_some pures x (slice_get atoms n))
    (spatial_fault pures atoms all (seen ++ n ∷ []) (suc k) (ms ++ m ∷ rest) xs) (LinkSpatial k) e in
    ap (λ (ns : List ℕ). has_number ns m) (sym (append_assoc seen (n ∷ []) ms))
    ∙ not_twice pures atoms all (seen ++ n ∷ []) (suc k) ms m rest xs c.1

-- the atom at the next place matches what its entry names
stand_ok : (whole : Bindings) (pures : List Pure) (atoms : List Spatial) (all : Bool) (seen : List ℕ) (k : ℕ)
    (ms : List ℕ) (m : ℕ) (rest : List ℕ) (xs : List Spatial)
    → spatial_fault pures atoms all seen k (ms ++ m ∷ rest) (map (apply_spatial whole) xs) ≡ None
    → could_stand pures atoms m (slice_get xs (length ms)) ≡ true
stand_ok whole pures atoms all seen k [] m rest [] e = refl
stand_ok whole pures atoms all seen k (n ∷ ms) m rest [] e = refl
stand_ok whole pures atoms all seen k [] m rest (x ∷ xs) e =
    let c = cond_none (not (has_number seen m) && matches_some pures (apply_spatial whole x) (slice_get atoms m))
    (spatial_fault pures atoms all (seen ++ m ∷ []) (suc k) rest (map (apply_spatial whole) xs)) (LinkSpatial k) e
    in
    let b = and_parts (not (has_number seen m)) (matches_some pures (apply_spatial whole x) (slice_get atoms m)) c.0 in
    match_some_ok [] whole (none_agree whole) pures x (slice_get atoms m) b.1
stand_ok whole pures atoms all seen k (n ∷ ms) m rest (x ∷ xs) e =
    let c = cond_none (not (has_number seen n) && matches_some pures (apply_spatial whole x) (slice_get atoms n))
    (spatial_fault pures atoms all (seen ++ n ∷ []) (suc k) (ms ++ m ∷ rest) (map (apply_spatial whole) xs))
    (LinkSpatial k) e in
    stand_ok whole pures atoms all (seen ++ n ∷ []) (suc k) ms m rest xs c.1

pub take_ok : (bud companion : Judgement) (p : ℕ) (places : List ℕ) (m : ℕ) (rest : List ℕ) (s : Bindings) (ks : List ℕ)
    → Fits bud companion p (places ++ m ∷ rest) s ks → could_take bud companion places m ≡ true
take_ok bud companion p places m rest s ks f =
    let a = antecedent bud in
    let xs = (antecedent companion).spatial in
    both_true (not (has_number places m)) (could_stand a.pure a.spatial m (slice_get xs (length places)))
    (ap not (not_twice a.pure a.spatial f.all [] 0 places m rest (map (apply_spatial s) xs) f.spatial))
    (stand_ok s a.pure a.spatial f.all [] 0 places m rest xs f.spatial)

pub entry_covers : (bs : List SymbolicHeap) (s : Bindings) (k : ℕ) (ms : List ℕ) (m : ℕ) (rest : List ℕ)
    (cs : List SymbolicHeap) (c : SymbolicHeap) → length ms < length cs → get_or cs (length ms) c ≡ c
    → disjunct_fault bs k (ms ++ m ∷ rest) (map (apply_heap s) cs) ≡ None
    → covers_some (apply_heap s c) (slice_get bs m) ≡ true
entry_covers bs s k ms m rest [] c lt at e = absurd (omega arith)
entry_covers bs s k [] m rest (d ∷ cs) c lt at e =
    let t = cond_none (covers_some (apply_heap s d) (slice_get bs m))
    (disjunct_fault bs (suc k) rest (map (apply_heap s) cs)) (LinkDisjunct k) e in
    subst (λ (y : SymbolicHeap). covers_some (apply_heap s y) (slice_get bs m) ≡ true) at t.0
entry_covers bs s k (n ∷ ms) m rest (d ∷ cs) c lt at e =
    let t = cond_none (covers_some (apply_heap s d) (slice_get bs n))
    (disjunct_fault bs (suc k) (ms ++ m ∷ rest) (map (apply_heap s) cs)) (LinkDisjunct k) e in
    entry_covers bs s (suc k) ms m rest cs c (omega arith) at t.1

pub covers_ok : (bs : List SymbolicHeap) (s : Bindings) (k : ℕ) (ms : List ℕ) (cs : List SymbolicHeap)
    → disjunct_fault bs k ms (map (apply_heap s) cs) ≡ None → have_covers bs s cs ≡ true
covers_ok bs s k ms [] e = refl
covers_ok bs s k [] (c ∷ cs) e = cc
covers_ok bs s k (m ∷ ms) (c ∷ cs) e =
    let t = cond_none (covers_some (apply_heap s c) (slice_get bs m))
    (disjunct_fault bs (suc k) ms (map (apply_heap s) cs)) (LinkDisjunct k) e in
    both_true (has_cover bs s c) (have_covers bs s cs)
    (any_in_range (λ i. covers_some (apply_heap s c) (slice_get bs i)) 0 (length bs) m (omega arith)
    (let l = tested_within (covers_some (apply_heap s c)) bs m refl t.0 in omega (arith, l)) t.0)
    (covers_ok bs s (suc k) ms cs t.1)
