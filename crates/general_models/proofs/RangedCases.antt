-- The rules of a case whose open locals are parameters are those of the case, for locals of the range.
use Rattle.std.proofs.Common.{◌≡◌, ℕ, zero, suc, ◌+◌, ◌<◌, ◌≤◌, List, [], ◌∷◌, ◌++◌, length, append_assoc, take, get_or}
use Rattle.std.proofs.Common.{map, refl, sym, ap, ◌∙◌, subst, inl, inr, arith}
use Rattle.std.specs.Prelude.{slice_index}
use Rattle.std.proofs.lemmas.List.{take_more}
use Rattle.heap_formula.specs.declared.terms.Term.{Term}
use Rattle.heap_formula.specs.declared.terms.Term.TheVariants.{Nil, Univ, Exist}
use Rattle.heap_formula.specs.Symbolic.{SymbolicHeap}
use Rattle.heap_formula.specs.Fresh.{univ_bound, heap_bound}
use Rattle.heap_formula.specs.Words.{Each, OneOf}
use Rattle.heap_formula.specs.Values.{Stack, value}
use Rattle.heap_formula.specs.Meaning.{PureHolds}
use Rattle.heap_formula.specs.Cells.{Cells}
use Rattle.heap_formula.specs.Closedness.{InHeap}
use Rattle.heap_formula.proofs.StageLaws.{OneOf-map}
use Rattle.heap_formula.proofs.AllMembers.{each_imply, each_any, each_last, each_append, each_front, each_mapped}
use Rattle.heap_formula.proofs.SomeMember.{one_front, one_last}
use Rattle.cyc_basics.specs.Words.{IsMember, tabulated}
use Rattle.cyc_basics.proofs.Places.{tabulated-at}
use Rattle.model_check.specs.declared.ground.GroundRule.{GroundRule}
use Rattle.model_check.specs.Questions.{Question}
use Rattle.model_check.specs.Constructive.{Fits}
use Rattle.model_check.specs.Grounding.{PiecesFit, HasRule, Extends, GroundedCase, IsCaseRule}
use Rattle.model_check.proofs.OnlyLocals.{member_each}
use Rattle.model_check.proofs.KnownTerms.{in_heap_map}
use Rattle.model_check.proofs.Asking.{extends_all, extends_trans, pieces_kept}
use Rattle.model_check.proofs.CaseLists.{has_kept}
use Rattle.model_check.proofs.Fitting.{fits_moved}
use Rattle.model_check.proofs.Rounds.{each_one, some_of, pieces_agree}
use Rattle.general_models.specs.RangedGrounding.{IsAnsweredOver, GroundedOver, IsStackRule, GroundedStacks}
use Rattle.general_models.specs.RangedGrounding.{choice_atoms, opened, front, with_each, with_values}
use Rattle.general_models.proofs.Narrowing.{heap_most, length_tabulated}

pub append_nil : {X : Type 0} (xs : List X) → xs ++ [] ≡ xs
append_nil [] = refl
append_nil (x ∷ xs) = ap (λ ys. x ∷ ys) (append_nil xs)

-- ---- one case at several lists of values

module _ (h : Cells) (ns : List ℕ) (head : ℕ) (b : SymbolicHeap) where
  stack_rule_kept : (qs qs' : List Question) (ss : List Stack) (s : Stack) → Extends qs qs' → (r : GroundRule)
      → IsStackRule h ns qs head b ss r → IsStackRule h ns qs' head b (ss ++ s ∷ []) r
  stack_rule_kept qs qs' ss s x r k = (
    k.0,
    one_front (λ vs. (e : Stack) × Fits h vs e b × PiecesFit ns qs' vs e b.spatial r.pieces) ss (s ∷ [])
        (OneOf-map (λ vs. (e : Stack) × Fits h vs e b × PiecesFit ns qs vs e b.spatial r.pieces)
        (λ vs. (e : Stack) × Fits h vs e b × PiecesFit ns qs' vs e b.spatial r.pieces)
        (λ vs o. (o.0, o.1, pieces_kept ns qs qs' x vs o.0 b.spatial r.pieces o.2)) ss k.1),
  )

  pub no_stack : (qs : List Question) (rules : List GroundRule) → GroundedStacks h ns qs qs rules rules head b []
  no_stack qs rules = record { extends = extends_all qs; added = []; more = sym (append_nil rules); are = tt; has = tt }

  stack_more : (q0 q1 q2 : List Question) (r0 r1 r2 more : List GroundRule) (ss : List Stack) (s : Stack)
      → GroundedStacks h ns q0 q1 r0 r1 head b ss → Extends q1 q2 → r2 ≡ r1 ++ more
      → Each (IsStackRule h ns q2 head b (ss ++ s ∷ [])) more
      → ((e : Stack) → Fits h s e b → HasRule ns q2 r2 head s e b.spatial)
      → GroundedStacks h ns q0 q2 r0 r2 head b (ss ++ s ∷ [])
  stack_more q0 q1 q2 r0 r1 r2 more ss s g x w are k = record {
    extends = extends_trans q0 q1 q2 g.extends x;
    added = g.added ++ more;
    more = w ∙ ap (λ rs. rs ++ more) g.more ∙ append_assoc r0 g.added more;
    are = each_append (IsStackRule h ns q2 head b (ss ++ s ∷ [])) g.added more
        (each_imply (IsStackRule h ns q1 head b ss) (IsStackRule h ns q2 head b (ss ++ s ∷ []))
        (stack_rule_kept q1 q2 ss s x) g.added g.are) are;
    has = each_last (λ vs. (e : Stack) → Fits h vs e b → HasRule ns q2 r2 head vs e b.spatial) ss s
        (each_imply (λ vs. (e : Stack) → Fits h vs e b → HasRule ns q1 r1 head vs e b.spatial)
        (λ vs. (e : Stack) → Fits h vs e b → HasRule ns q2 r2 head vs e b.spatial)
        (λ vs k. subst (λ rs. (e : Stack) → Fits h vs e b → HasRule ns q2 rs head vs e b.spatial) (sym w)
        (has_kept h ns head vs q1 q2 r1 more x b k)) ss g.has) k;
  }

  next_stack : (q0 q1 q2 : List Question) (r0 r1 r2 : List GroundRule) (ss : List Stack) (s : Stack)
      → GroundedStacks h ns q0 q1 r0 r1 head b ss → GroundedCase h ns q1 q2 r1 r2 head s b
      → GroundedStacks h ns q0 q2 r0 r2 head b (ss ++ s ∷ [])
  next_stack q0 q1 q2 r0 r1 r2 ss s g k = elim k.more [
    | inl w ↦ stack_more q0 q1 q2 r0 r1 r2 [] ss s g k.extends (w ∙ sym (append_nil r1)) tt k.has
    | inr o ↦ stack_more q0 q1 q2 r0 r1 r2 (o.0 ∷ []) ss s g k.extends o.1
        ((o.2, one_last (λ vs. (e : Stack) × Fits h vs e b × PiecesFit ns q2 vs e b.spatial o.0.pieces) ss s o.3), tt)
        k.has
  ]

  pub next_stack_at : (q0 q1 q2 : List Question) (r0 r1 r2 : List GroundRule) (ss : List Stack) (i : ℕ) (s v : Stack)
      → i < length ss → s ≡ get_or ss i s → v ≡ s → GroundedStacks h ns q0 q1 r0 r1 head b (take i ss)
      → GroundedCase h ns q1 q2 r1 r2 head v b → GroundedStacks h ns q0 q2 r0 r2 head b (take (i + 1) ss)
  next_stack_at q0 q1 q2 r0 r1 r2 ss i s v l is e g k =
      let k' = subst (λ u. GroundedCase h ns q1 q2 r1 r2 head u b) e k in
      subst (GroundedStacks h ns q0 q2 r0 r2 head b) (sym (take_more ss i s l ∙ ap (λ x. take i ss ++ x ∷ []) (sym is)))
      (next_stack q0 q1 q2 r0 r1 r2 (take i ss) s g k')

-- ---- the lists of values

each_extension : (P : Stack → Type 0) (range : List ℕ) (ss : List Stack) → Each (λ s. (v : ℕ) → P (s ++ v ∷ [])) ss
    → Each P (with_each range ss)
each_extension P range [] e = tt
each_extension P range (s ∷ ss) e = each_append P (map (λ v. s ++ v ∷ []) range) (with_each range ss)
    (each_mapped P (λ v. s ++ v ∷ []) range (each_any (λ v. P (s ++ v ∷ [])) e.0 range)) (each_extension P range ss e.1)

map_member : (f : ℕ → Stack) (v : ℕ) (range : List ℕ) → IsMember v range → IsMember (f v) (map f range)
map_member f v [] m = absurd m
map_member f v (u ∷ us) (inl e) = inl (ap f e)
map_member f v (u ∷ us) (inr m) = inr (map_member f v us m)

one_back : {X : Type 0} (P : X → Type 0) (xs ys : List X) → OneOf P ys → OneOf P (xs ++ ys)
one_back P [] ys o = o
one_back P (x ∷ xs) ys o = inr (one_back P xs ys o)

extension_member : (range : List ℕ) (ss : List Stack) (s : Stack) (v : ℕ) → IsMember s ss → IsMember v range
    → IsMember (s ++ v ∷ []) (with_each range ss)
extension_member range [] s v m r = absurd m
extension_member range (t ∷ ss) s v (inl e) r =
    one_front (λ u. u ≡ s ++ v ∷ []) (map (λ v. t ++ v ∷ []) range) (with_each range ss)
    (subst (λ u. IsMember (u ++ v ∷ []) (map (λ w. t ++ w ∷ []) range)) e (map_member (λ w. t ++ w ∷ []) v range r))
extension_member range (t ∷ ss) s v (inr m) r =
    one_back (λ u. u ≡ s ++ v ∷ []) (map (λ v. t ++ v ∷ []) range) (with_each range ss)
    (extension_member range ss s v m r)

-- each begins with the first values
begin_same : (range : List ℕ) (s : Stack) (n : ℕ) → Each (λ t. (us : Stack) × (t ≡ s ++ us)) (with_values range s n)
begin_same range s zero = (([], sym (append_nil s)), tt)
begin_same range s (suc n) =
    each_extension (λ t. (us : Stack) × (t ≡ s ++ us)) range (with_values range s n)
    (each_imply (λ t. (us : Stack) × (t ≡ s ++ us)) (λ t. (v : ℕ) → (us : Stack) × (t ++ v ∷ [] ≡ s ++ us))
    (λ t k v. (k.0 ++ v ∷ [], ap (λ u. u ++ v ∷ []) k.1 ∙ append_assoc s k.0 (v ∷ []))) (with_values range s n)
    (begin_same range s n))

-- all lists of values of the range stand at the end of one
all_ends : (range : List ℕ) (s : Stack) (f : ℕ → ℕ) (n : ℕ) → ((i : ℕ) → i < n → IsMember (f i) range)
    → IsMember (s ++ tabulated f n) (with_values range s n)
all_ends range s f zero k = inl (sym (append_nil s))
all_ends range s f (suc n) k =
    let m = all_ends range s f n (λ i l. k i (omega arith)) in
    let e : (s ++ tabulated f n) ++ f n ∷ [] ≡ s ++ tabulated f (suc n) = append_assoc s (tabulated f n) (f n ∷ [])
    ∙ ap (λ u. s ++ u) (sym (one_more f n)) in
    subst (λ u. IsMember u (with_each range (with_values range s n))) e
    (extension_member range (with_values range s n) (s ++ tabulated f n) (f n) m (k n (omega arith)))
  where
    one_more : (f : ℕ → ℕ) (n : ℕ) → tabulated f (suc n) ≡ tabulated f n ++ f n ∷ []
    one_more f zero = refl
    one_more f (suc n) = ap (λ u. f zero ∷ u) (one_more (λ i. f (suc i)) n)

index_left : (s us : Stack) (n : ℕ) → n < length s → slice_index (s ++ us) n ≡ slice_index s n
index_left [] us n l = absurd (omega arith)
index_left (v ∷ s) us zero l = refl
index_left (v ∷ s) us (suc n) l = index_left s us n (omega arith)

index_right : (s us : Stack) (n : ℕ) → slice_index (s ++ us) (length s + n) ≡ slice_index us n
index_right [] us n = let e : 0 + n ≡ n = omega arith in ap (slice_index us) e
index_right (v ∷ s) us n = let e : length (v ∷ s) + n ≡ suc (length s + n) = omega arith in
    ap (slice_index (v ∷ (s ++ us))) e ∙ index_right s us n

-- ---- a case and the case with its chosen locals as parameters

module _ (b : SymbolicHeap) (first : ℕ) (bound : heap_bound b ≤ first) (vs us : Stack) where
  same_at : (e : Stack) (t : Term) → univ_bound t ≤ first → value (front first vs ++ us) e t ≡ value vs e t
  same_at e Nil l = refl
  same_at e (Exist n) l = refl
  same_at e (Univ n) l =
      let k = length_tabulated (slice_index vs) first in
      index_left (front first vs) us n (omega arith) ∙ tabulated-at (slice_index vs) first n (omega arith)

  pub same_values : (e : Stack) → InHeap (λ t. value (front first vs ++ us) e t ≡ value vs e t) b
  same_values e = in_heap_map (λ t. univ_bound t ≤ first) (λ t. value (front first vs ++ us) e t ≡ value vs e t)
      (same_at e) b (heap_most univ_bound first b bound)

  back_values : (e : Stack) → InHeap (λ t. value vs e t ≡ value (front first vs ++ us) e t) b
  back_values e = in_heap_map (λ t. value (front first vs ++ us) e t ≡ value vs e t)
      (λ t. value vs e t ≡ value (front first vs ++ us) e t) (λ t k. sym k) b (same_values e)

  -- what fits the opened case fits the case
  pub fits_closed : (h : Cells) (chosen : List ℕ) (e : Stack) → Fits h (front first vs ++ us) e (opened b first chosen)
      → Fits h vs e b
  fits_closed h chosen e f =
      fits_moved h (front first vs ++ us) e vs e b (same_values e)
      (record {
        pure = each_front (PureHolds (front first vs ++ us) e) b.pure (choice_atoms first chosen) f.pure;
        cells = f.cells;
      })

  fits_open : (h : Cells) (chosen : List ℕ) (e : Stack)
      → Each (PureHolds (front first vs ++ us) e) (choice_atoms first chosen) → Fits h vs e b
      → Fits h (front first vs ++ us) e (opened b first chosen)
  fits_open h chosen e c f =
      let g = fits_moved h vs e (front first vs ++ us) e b (back_values e) f in
      record {
        pure = each_append (PureHolds (front first vs ++ us) e) b.pure (choice_atoms first chosen) g.pure c;
        cells = g.cells;
      }

-- the choices hold where the parameters have the locals' values
choices_hold : (s e : Stack) (chosen : List ℕ) (first : ℕ)
    → ((i : ℕ) → i < length chosen → slice_index s (first + i) ≡ slice_index e (get_or chosen i 0))
    → Each (PureHolds s e) (choice_atoms first chosen)
choices_hold s e [] first k = tt
choices_hold s e (n ∷ chosen) first k =
    let z : first + 0 ≡ first = omega arith in (
      sym (ap (slice_index s) (sym z) ∙ k 0 (omega arith)),
      choices_hold s e chosen (suc first) (λ i l. ap (slice_index s)
          (let w : suc first + i ≡ first + suc i = omega arith in w) ∙ k (suc i) (omega arith)),
    )

module _ (h : Cells) (ns : List ℕ) (qs qs' : List Question) (rules rules' : List GroundRule) (head : ℕ) (range : List ℕ)
    (vs : Stack) (b : SymbolicHeap) (first : ℕ) (chosen : List ℕ) (bound : heap_bound b ≤ first)
    (g : GroundedStacks h ns qs qs' rules rules' head (opened b first chosen)
    (with_values range (front first vs) (length chosen))) where
  abbrev Begins : Stack → Type 0
  Begins t = (us : Stack) × (t ≡ front first vs ++ us)

  rule_closed : (r : GroundRule) → IsStackRule h ns qs' head (opened b first chosen)
      (with_values range (front first vs) (length chosen)) r → IsCaseRule h ns qs' head vs (b ∷ []) r
  rule_closed r k =
      let o = some_of (λ t. Begins t × ((e : Stack) × Fits h t e (opened b first chosen)
      × PiecesFit ns qs' t e b.spatial r.pieces)) (with_values range (front first vs) (length chosen))
      (each_one Begins (λ t. (e : Stack) × Fits h t e (opened b first chosen)
      × PiecesFit ns qs' t e b.spatial r.pieces) (with_values range (front first vs) (length chosen))
      (begin_same range (front first vs) (length chosen)) k.1) in
      let us = o.1.0.0 in
      let e = o.1.1.0 in
      let fits = subst (λ t. Fits h t e (opened b first chosen)) o.1.0.1 o.1.1.1 in
      let pieces = subst (λ t. PiecesFit ns qs' t e b.spatial r.pieces) o.1.0.1 o.1.1.2 in (
        k.0,
        inl (
          e,
          fits_closed b first bound vs us h chosen e fits,
          pieces_agree ns qs' (front first vs ++ us) e vs e b.spatial r.pieces
              (back_values b first bound vs us e).1 pieces,
        ),
      )

  pub all_ranged : GroundedOver range h ns qs qs' rules rules' head vs (b ∷ [])
  all_ranged = record {
    extends = g.extends;
    added = g.added;
    more = g.more;
    are = each_imply (IsStackRule h ns qs' head (opened b first chosen)
        (with_values range (front first vs) (length chosen))) (IsCaseRule h ns qs' head vs (b ∷ []))
        rule_closed g.added g.are;
    has = (answered, tt);
  }
    where
      answered : IsAnsweredOver range h ns qs' rules' head vs b
      answered e within f =
          let entry : ℕ → ℕ = λ i. slice_index e (get_or chosen i 0) in
          let us = tabulated entry (length chosen) in
          let m = all_ends range (front first vs) entry (length chosen) (λ i l. within (get_or chosen i 0)) in
          let k = length_tabulated (slice_index vs) first in
          let holds = choices_hold (front first vs ++ us) e chosen first
          (λ i l. ap (λ n. slice_index (front first vs ++ us) (n + i)) (sym k) ∙ index_right (front first vs) us i
          ∙ tabulated-at entry (length chosen) i l) in
          let fo = fits_open b first bound vs us h chosen e holds f in
          let has = member_each (λ t. (e : Stack) → Fits h t e (opened b first chosen)
          → HasRule ns qs' rules' head t e b.spatial) (front first vs ++ us)
          (with_values range (front first vs) (length chosen)) m g.has in
          OneOf-map (λ r. (r.head ≡ head) × PiecesFit ns qs' (front first vs ++ us) e b.spatial r.pieces)
          (λ r. (r.head ≡ head) × PiecesFit ns qs' vs e b.spatial r.pieces)
          (λ r z. (
            z.0,
            pieces_agree ns qs' (front first vs ++ us) e vs e b.spatial r.pieces
                (back_values b first bound vs us e).1 z.1,
          )) rules' (has e fo)

pub opened_result : (h : Cells) (ns : List ℕ) (q0 q1 : List Question) (r0 r1 : List GroundRule) (head : ℕ)
    (range : List ℕ) (vs : Stack) (b b' : SymbolicHeap) (first n : ℕ) (chosen : List ℕ) (start : Stack)
    (stacks view : List Stack) → first ≡ heap_bound b → b' ≡ opened b first chosen → start ≡ front first vs
    → n ≡ length chosen → stacks ≡ with_values range start n → view ≡ stacks
    → GroundedStacks h ns q0 q1 r0 r1 head b' view → GroundedOver range h ns q0 q1 r0 r1 head vs (b ∷ [])
opened_result h ns q0 q1 r0 r1 head range vs b b' first n chosen start stacks view fe be se ne we ve g =
    let all : view ≡ with_values range (front first vs) (length chosen) = ve ∙ we ∙ ap (λ s. with_values range s n) se
    ∙ ap (with_values range (front first vs)) ne in
    let g1 = subst (λ c. GroundedStacks h ns q0 q1 r0 r1 head c view) be g in
    let g2 = subst (GroundedStacks h ns q0 q1 r0 r1 head (opened b first chosen)) all g1 in
    all_ranged h ns q0 q1 r0 r1 head range vs b first chosen (let e : first ≡ heap_bound b = fe in omega arith) g2
