-- The rules that change the right side are sound.
use Rattle.std.proofs.Common.{◌≡◌, ◌≢◌, ℕ, zero, suc, Bool, true, false, cond, List, [], ◌∷◌, ◌++◌, drop, get_or-drop}
use Rattle.std.proofs.Common.{Some, refl, sym, ap, ◌∙◌, subst, inl, inr}
use Rattle.std.specs.Prelude.{slice_get, slice_index, nat_eq}
use Rattle.std.proofs.lemmas.Bool.Decides.{Decides-eqb}
use Rattle.std.proofs.Math.ListN.{get_or-map}
use Rattle.cyc_basics.specs.declared.limits.Limits.{Limits}
use Rattle.heap_formula.specs.declared.terms.Term.{Term}
use Rattle.heap_formula.specs.declared.terms.Term.TheVariants.{Nil, Univ, Exist}
use Rattle.heap_formula.specs.declared.atoms.Pure.{Pure}
use Rattle.heap_formula.specs.declared.atoms.Pure.TheVariants.{Eq, Neq}
use Rattle.heap_formula.specs.declared.atoms.Spatial.{Spatial}
use Rattle.heap_formula.specs.declared.atoms.Spatial.TheVariants.{Cell, Pred}
use Rattle.heap_formula.specs.declared.commands.Command.{Command}
use Rattle.heap_formula.specs.declared.judgements.Judgement.{Judgement}
use Rattle.heap_formula.specs.declared.judgements.Judgement.TheVariants.{Entail}
use Rattle.heap_formula.specs.declared.proof_rules.RuleFault.TheVariants.{NoSuchAtom, AtomsDiffer, HasExistential}
use Rattle.heap_formula.specs.declared.proof_rules.RuleFault.TheVariants.{NotFollowing, NoSuchCase}
use Rattle.heap_formula.specs.Symbolic.{SymbolicHeap}
use Rattle.heap_formula.specs.Definitions.{Definition}
use Rattle.heap_formula.specs.Words.{Each}
use Rattle.heap_formula.specs.Values.{Stack, value, values}
use Rattle.heap_formula.specs.Cells.{Cells, Star}
use Rattle.heap_formula.specs.Meaning.{Family, PureHolds, SpatialHolds, Holds, CaseHolds, Stages, SatisfiesAt}
use Rattle.heap_formula.specs.Meaning.{Satisfies, SatisfiesOne, at_stage, cases_of, least}
use Rattle.heap_formula.specs.Judgements.{IsLocallySound}
use Rattle.heap_formula.specs.Positions.{without}
use Rattle.heap_formula.specs.Closedness.{InPure, IsUniversal}
use Rattle.heap_formula.specs.Substitution.{in_heap}
use Rattle.rule_table.proofs.Substitutes.{holds_same, along}
use Rattle.heap_formula.proofs.StageLaws.{spatial_within, one_stage, least-IsClosed}
use Rattle.rule_table.proofs.Frames.{value_universal, pairs_follow, done_sound, frame_sound, put_in}
use Rattle.rule_table.proofs.Rewrites.{AnyTerm, any_heap}
use Rattle.heap_formula.proofs.Unions.{empty_star, star_map, star_assoc_back, union_comm}
use Rattle.rule_table.proofs.Links.{follows_holds}
use Rattle.rule_table.specs.Answer.{finds, limited, one}
use Rattle.rule_table.specs.Tests.{same_spatial, is_universal_pure, is_universal_spatial, follows}
use Rattle.heap_formula.specs.Fresh.{heap_exists}
use Rattle.rule_table.specs.Table.{with_right, without_pure, calls, are_empty, instance_term, right_term, done_answer}
use Rattle.rule_table.specs.Table.{choose_answer, pure_right_answer, instantiate_answer, frame_answer}
use Rattle.rule_table.specs.Table.{unfold_right_answer}
use Rattle.rule_table.specs.RuleUnfold.{unfolded}
use Rattle.rule_table.specs.Soundness.{IsSound}
use Rattle.rule_table.proofs.Steps.{needs_sound, finds_sound, limited_sound, entails_sound, single_sound}
use Rattle.rule_table.proofs.Reflects.{universal_pure_is, universal_spatial_is, same_spatial_is, follows_is}
use Rattle.heap_formula.proofs.SomeMember.{one_at}
use Rattle.heap_formula.proofs.AllMembers.{each_front, each_back}

-- a pure atom put back
pub Each-put : {X : Type 0} (P : X → Type 0) (xs : List X) (k : ℕ) (x : X) → slice_get xs k ≡ Some x → P x
    → Each P (without k xs) → Each P xs
Each-put P [] k x at p e = tt
Each-put P (y ∷ xs) zero x at p e = let same : x ≡ y = cc in (subst P same p, e)
Each-put P (y ∷ xs) (suc k) x at p e = (e.0, Each-put P xs k x at p e.1)

pub pure_universal : (s e f : Stack) (x : Pure) → InPure IsUniversal x → PureHolds s e x → PureHolds s f x
pure_universal s e f (Eq t u) q h = sym (value_universal s e f t q.0) ∙ h ∙ value_universal s e f u q.1
pure_universal s e f (Neq t u) q h = λ same. h (value_universal s e f t q.0 ∙ same ∙ sym (value_universal s e f u q.1))

module _ (ds : List Definition) (lines : List Command) where
  are_empty_sound : (a b : SymbolicHeap) (xs : List Spatial) (ps : List Pure) (ys : List Spatial) → a.spatial ≡ xs
      → b.pure ≡ ps → b.spatial ≡ ys → IsSound ds lines (Entail a (b ∷ [])) (are_empty xs ps ys)
  are_empty_sound a b [] [] [] ea ep es = done_sound ds lines a b ea ep es
  are_empty_sound a b [] [] (y ∷ ys) ea ep es = tt
  are_empty_sound a b [] (p ∷ ps) ys ea ep es = tt
  are_empty_sound a b (x ∷ xs) ps ys ea ep es = tt

  pub done_is_sound : (j : Judgement) → IsSound ds lines j (done_answer j)
  done_is_sound j = single_sound ds lines j _ (λ a b. are_empty_sound a b a.spatial b.pure b.spatial refl refl refl)

  -- the premise's disjuncts, where each is as good as one of the judgement's
  by_right : (a : SymbolicHeap) (bs cs : List SymbolicHeap)
      → ((stages : Stages) (s : Stack) (h : Cells) (o : SatisfiesAt ds stages s h a) → SatisfiesOne ds s h cs
      → SatisfiesOne ds s h bs) → IsLocallySound ds lines (Entail a bs) (one (with_right a cs))
  by_right a bs cs f stages premises s h o =
      f stages s h o (premises.0 stages (pairs_follow (λ k. k) stages 0 a.spatial) s h o)

  one_only : (s : Stack) (h : Cells) (c : SymbolicHeap) → SatisfiesOne ds s h (c ∷ []) → Satisfies ds s h c
  one_only s h c (inl t) = t
  one_only s h c (inr o) = absurd o

  pub choose_is_sound : (j : Judgement) (k : ℕ) → IsSound ds lines j (choose_answer j k)
  choose_is_sound j k =
      entails_sound ds lines j _ (λ a bs.
      finds_sound ds lines (Entail a bs) (slice_get bs k) NoSuchAtom _ (λ b at.
      by_right a bs (b ∷ []) (λ stages s h o r. one_at (Satisfies ds s h) bs k b at (one_only s h b r))))

  pub pure_right_is_sound : (j : Judgement) (k : ℕ) → IsSound ds lines j (pure_right_answer j k)
  pure_right_is_sound j k =
      single_sound ds lines j _ (λ a b.
      finds_sound ds lines (Entail a (b ∷ [])) (slice_get b.pure k) NoSuchAtom _ (λ x at.
      needs_sound ds lines (Entail a (b ∷ [])) (is_universal_pure x) HasExistential _ (λ universal.
      needs_sound ds lines (Entail a (b ∷ [])) (follows a.pure x) NotFollowing _ (λ follow.
      by_right a (b ∷ []) (without_pure k b ∷ []) (λ stages s h o r.
      let t = one_only s h (without_pure k b) r in
      let holds = follows_holds a.pure s o.0 o.1.0 x (follows_is a.pure x follow) in
      let here = pure_universal s o.0 t.1.0 x (universal_pure_is x universal) holds in
      inl (t.0, (t.1.0, (Each-put (PureHolds s t.1.0) b.pure k x at here t.1.1.0, t.1.1.1))))))))

  -- ---- Instantiate

  -- the values of the existentials, variable v having another
  set_value : ℕ → ℕ → Stack → Stack
  set_value zero n [] = n ∷ []
  set_value zero n (x ∷ e) = n ∷ e
  set_value (suc v) n [] = 0 ∷ set_value v n []
  set_value (suc v) n (x ∷ e) = x ∷ set_value v n e

  set_value-same : (v n : ℕ) (e : Stack) → slice_index (set_value v n e) v ≡ n
  unfolding set_value
  set_value-same zero n [] = refl
  set_value-same zero n (x ∷ e) = refl
  set_value-same (suc v) n [] = set_value-same v n []
  set_value-same (suc v) n (x ∷ e) = set_value-same v n e

  set_value-other : (v n : ℕ) (e : Stack) (i : ℕ) → i ≢ v → slice_index (set_value v n e) i ≡ slice_index e i
  unfolding set_value
  set_value-other zero n [] zero ne = absurd (ne refl)
  set_value-other zero n [] (suc i) ne = refl
  set_value-other zero n (x ∷ e) zero ne = absurd (ne refl)
  set_value-other zero n (x ∷ e) (suc i) ne = refl
  set_value-other (suc v) n [] zero ne = refl
  set_value-other (suc v) n [] (suc i) ne = set_value-other v n [] i (λ q. ne (ap suc q))
  set_value-other (suc v) n (x ∷ e) zero ne = refl
  set_value-other (suc v) n (x ∷ e) (suc i) ne = set_value-other v n e i (λ q. ne (ap suc q))

  instance_exist : (b : Bool) (s e : Stack) (v i : ℕ) (t : Term) → nat_eq i v ≡ b
      → value s e (cond b t (Exist i)) ≡ slice_index (set_value v (value s e t) e) i
  instance_exist true s e v i t q =
      sym (set_value-same v (value s e t) e) ∙ ap (slice_index (set_value v (value s e t) e))
      (sym ((Decides-eqb i v).0 q))
  instance_exist false s e v i t q =
      sym (set_value-other v (value s e t) e i (λ same. let bad = (Decides-eqb i v).1 same in cc))

  instance_value : (s e : Stack) (v : ℕ) (t : Term) (u : Term) → AnyTerm u
      → value s e (instance_term v t u) ≡ value s (set_value v (value s e t) e) u
  instance_value s e v t Nil q = refl
  instance_value s e v t (Univ i) q = refl
  instance_value s e v t (Exist i) q = instance_exist (nat_eq i v) s e v i t refl

  pub instantiate_is_sound : (j : Judgement) (v : ℕ) (t : Term) → IsSound ds lines j (instantiate_answer j v t)
  instantiate_is_sound j v t =
      single_sound ds lines j _ (λ a b.
      by_right a (b ∷ []) (in_heap (instance_term v t) b ∷ []) (λ stages s h o r.
      let w = one_only s h (in_heap (instance_term v t) b) r in
      let e = w.1.0 in
      let f = set_value v (value s e t) e in
      inl (
        w.0,
        (
          f,
          along (holds_same AnyTerm (instance_term v t) s e s f (instance_value s e v t)
              (λ m. at_stage ds (w.0 m)) b (any_heap b) h) w.1.1,
        ),
      )))

  pub frame_is_sound : (j : Judgement) (i k : ℕ) → IsSound ds lines j (frame_answer j i k)
  frame_is_sound j i k =
      single_sound ds lines j _ (λ a b.
      finds_sound ds lines (Entail a (b ∷ [])) (slice_get a.spatial i) NoSuchAtom _ (λ x at_i.
      finds_sound ds lines (Entail a (b ∷ [])) (slice_get b.spatial k) NoSuchAtom _ (λ y at_k.
      needs_sound ds lines (Entail a (b ∷ [])) (is_universal_spatial y) HasExistential _ (λ universal.
      needs_sound ds lines (Entail a (b ∷ [])) (same_spatial x y) AtomsDiffer _ (λ same.
      frame_sound ds lines a b i k y (at_i ∙ ap Some (same_spatial_is x y same)) at_k
      (universal_spatial_is y universal))))))

  -- ---- UnfoldRight

  split_holds : (L : Family) (s e : Stack) (xs ys : List Spatial) (h : Cells) → SpatialHolds (λ _. L) s e (xs ++ ys) h
      → Star (SpatialHolds (λ _. L) s e xs) (SpatialHolds (λ _. L) s e ys) h
  split_holds L s e [] ys h a = empty_star a
  split_holds L s e (x ∷ xs) ys h a = star_assoc_back (star_map (λ g b. b) (λ g b. split_holds L s e xs ys g b) a)

  right_value : (s e : Stack) (args : List Term) (n : ℕ) (t : Term) → AnyTerm t
      → value s e (right_term args n t) ≡ value (values s e args) (drop n e) t
  right_value s e args n Nil q = refl
  right_value s e args n (Univ i) q = sym (get_or-map (value s e) args i Nil)
  right_value s e args n (Exist i) q = sym (get_or-drop n e i 0)

  unfold_right_sound : (a b : SymbolicHeap) (k c q : ℕ) (ts : List Term) (case : SymbolicHeap) (n : ℕ)
      → slice_get b.spatial k ≡ Some (Pred q ts) → slice_get (cases_of ds q) c ≡ Some case
      → IsLocallySound ds lines (Entail a (b ∷ [])) (one (with_right a
      (unfolded b k (in_heap (right_term ts n) case) ∷ [])))
  unfold_right_sound a b k c q ts case n at_k at_c =
      by_right a (b ∷ []) (unfolded b k (in_heap (right_term ts n) case) ∷ []) (λ stages s h o r.
      let body = in_heap (right_term ts n) case in
      let w = one_only s h (unfolded b k body) r in
      let e = w.1.0 in
      let all = spatial_within (λ m. at_stage ds (w.0 m)) (λ _. least ds) (λ m p vs g x. (w.0 m, x)) s e
      (without k b.spatial ++ body.spatial) h w.1.1.1 in
      let parts = split_holds (least ds) s e (without k b.spatial) body.spatial h all in
      let case_holds : Holds (λ _. least ds) (values s e ts) (drop n e) case parts.rest =
      along (holds_same AnyTerm (right_term ts n) s e (values s e ts) (drop n e) (right_value s e ts n) (λ _. least ds)
      case (any_heap case) parts.rest) (each_back (PureHolds s e) b.pure body.pure w.1.1.0, parts.others) in
      let call : least ds q (values s e ts) parts.rest =
      least-IsClosed ds q (values s e ts) parts.rest
      (one_at (CaseHolds (least ds) (values s e ts) parts.rest) (cases_of ds q) c case at_c (drop n e, case_holds))
      in
      let whole : SpatialHolds (λ _. least ds) s e b.spatial h =
      put_in (λ _. least ds) s e b.spatial k (Pred q ts) 0 (λ _. 0) h at_k
      (record {
        part = parts.rest;
        rest = parts.part;
        union = union_comm parts.union;
        first = call;
        others = parts.first;
      }) in
      let m = one_stage ds s e b.spatial h whole in
      inl (λ _. m.0, (e, (each_front (PureHolds s e) b.pure body.pure w.1.1.0, m.1))))

  unfold_right_call_sound : (most : Limits) (a b : SymbolicHeap) (k c : ℕ) (x : Spatial)
      → slice_get b.spatial k ≡ Some x
      → IsSound ds lines (Entail a (b ∷ [])) (calls x (λ q ts.
      finds (slice_get (cases_of ds q) c) NoSuchCase (λ case.
      limited most (one (with_right a (unfolded b k (in_heap (right_term ts (heap_exists b)) case) ∷ []))))))
  unfold_right_call_sound most a b k c (Cell t ts) at = tt
  unfold_right_call_sound most a b k c (Pred q ts) at =
      finds_sound ds lines (Entail a (b ∷ [])) (slice_get (cases_of ds q) c) NoSuchCase _ (λ case at_c.
      limited_sound ds lines most (Entail a (b ∷ []))
      (one (with_right a (unfolded b k (in_heap (right_term ts (heap_exists b)) case) ∷ [])))
      (unfold_right_sound a b k c q ts case (heap_exists b) at at_c))

  pub unfold_right_is_sound : (most : Limits) (j : Judgement) (k c : ℕ)
      → IsSound ds lines j (unfold_right_answer most ds j k c)
  unfold_right_is_sound most j k c =
      single_sound ds lines j _ (λ a b.
      finds_sound ds lines (Entail a (b ∷ [])) (slice_get b.spatial k) NoSuchAtom _
      (λ x at. unfold_right_call_sound most a b k c x at))
