-- What is kept of a node that is read is its front.
use Rattle.std.proofs.Common.{◌≡◌, ℕ, Bool, true, false, List, Ok, Err, refl, inl, inr, ◌⊎◌}
use Rattle.cyc_grammar.specs.Syntax.{Reading, ◌>>=◌, read_class, one, seq, after, told, headed, is_one}
use Rattle.cyc_grammar.specs.Classes.{number}
use Rattle.heap_syntax.specs.declared.keep.Keep.{Keep}
use Rattle.heap_syntax.specs.declared.keep.Keep.TheVariants.{All}
use Rattle.heap_syntax.specs.Grammar as shared
use Rattle.heap_syntax.proofs.Fronts.{mapped, Fronts, same-front, seq-front, both, alt-front, shaped-front, after-front}
use Rattle.heap_syntax.proofs.Fronts.{before-front}
use Rattle.heap_syntax.proofs.DefinitionFronts.{heap-front, heaps-front}
use Rattle.proof_syntax.specs.declared.reason_word.ReasonWord.{ReasonWord}
use Rattle.proof_syntax.specs.declared.reason_word.ReasonWord.TheVariants as words
use Rattle.proof_syntax.specs.Trees.{Heap, Entailment, Judgement, Reason}
use Rattle.proof_syntax.specs.Keeping.{heap_front, heaps_front, entailment_front, judgement_front, reason_front}
use Rattle.proof_syntax.specs.Keeping.{node_front}
use Rattle.proof_syntax.specs.Grammar.{Any, or_word, by_word, turnstile, from_word, given_word, node_word, terms, heap}
use Rattle.proof_syntax.specs.Grammar.{kept_heap, to_entailment, from_entailment, disjuncts, kept_disjuncts}
use Rattle.proof_syntax.specs.Grammar.{entailment_over, entailment, kept_entailment, state_over, state, kept_state}
use Rattle.proof_syntax.specs.Grammar.{to_judgement, from_judgement, judgement_over, judgement, kept_judgement}
use Rattle.proof_syntax.specs.Grammar.{bracketed, cut, kept_cut, Parts, parts_over, parts, kept_parts, made_of}
use Rattle.proof_syntax.specs.Grammar.{to_reason, from_reason, reason_word, reason_over, reason, kept_reason, premises}
use Rattle.proof_syntax.specs.Grammar.{to_node, from_node, node_over, node, kept_node}

disjuncts-front : (k : Keep) → Fronts (heaps_front k) disjuncts (kept_disjuncts k)
unfolding disjuncts kept_disjuncts
disjuncts-front k = heaps-front k or_word by_word

entailment-front : (k : Keep) → Fronts (entailment_front k) entailment (kept_entailment k)
unfolding entailment kept_entailment
entailment-front k =
    shaped-front {A = Heap × List Heap} {C = Heap × List Heap} (λ x. (heap_front k x.0, heaps_front k x.1))
    (entailment_front k) to_entailment from_entailment Any to_entailment from_entailment Any _ _ (λ x. refl)
    (seq-front (heap_front k) (heaps_front k) (heap (terms true)) (after turnstile disjuncts) (kept_heap k (terms true))
    (after turnstile (kept_disjuncts k)) (heap-front k true)
    (after-front turnstile (heaps_front k) disjuncts (kept_disjuncts k) (disjuncts-front k)))

abbrev state_front : Keep → ℕ × Heap → ℕ × Heap
state_front k x = (x.0, heap_front k x.1)

state-front : (k : Keep) → Fronts (state_front k) state (kept_state k)
unfolding state kept_state
state-front k =
    after-front from_word (state_front k) _ _
    (seq-front (λ n. n) (heap_front k) (one number) _ (one number) _ (same-front (one number))
    (after-front given_word (heap_front k) _ _ (before-front by_word (heap_front k) (heap (terms true))
    (kept_heap k (terms true)) (heap-front k true))))

judgement-front : (k : Keep) → Fronts (judgement_front k) judgement (kept_judgement k)
unfolding judgement kept_judgement
judgement-front k =
    shaped-front {A = (ℕ × Heap) ⊎ Entailment} {C = (ℕ × Heap) ⊎ Entailment} (both (state_front k) (entailment_front k))
    (judgement_front k) to_judgement from_judgement Any to_judgement from_judgement Any _ _ same
    (alt-front (is_one from_word) (state_front k) (entailment_front k) state entailment (kept_state k)
    (kept_entailment k) (state-front k) (entailment-front k))
  where
    same : (x : (ℕ × Heap) ⊎ Entailment) → to_judgement (both (state_front k) (entailment_front k) x)
        ≡ judgement_front k (to_judgement x)
    same (inl p) = refl
    same (inr e) = refl

-- ---- reasons

abbrev cut_front : Keep → List ℕ × Heap → List ℕ × Heap
cut_front k x = (x.0, heap_front k x.1)

cut-front : (k : Keep) → Fronts (cut_front k) cut (kept_cut k)
unfolding cut kept_cut
cut-front k = seq-front (λ ns. ns) (heap_front k) bracketed (heap (terms false)) bracketed (kept_heap k (terms false))
    (same-front bracketed) (heap-front k false)

abbrev parts_front : Keep → (w : ReasonWord) → Parts w → Parts w
parts_front k words.Absurd p = p
parts_front k words.Rewrite p = p
parts_front k words.Split p = p
parts_front k words.Distinct p = p
parts_front k words.Weaken p = p
parts_front k words.Unfold p = p
parts_front k words.Cut p = cut_front k p
parts_front k words.Done p = p
parts_front k words.Choose p = p
parts_front k words.PureRight p = p
parts_front k words.Instantiate p = p
parts_front k words.Frame p = p
parts_front k words.UnfoldRight p = p
parts_front k words.Exec p = p
parts_front k words.Drop p = p
parts_front k words.Link p = p

parts-front : (k : Keep) (w : ReasonWord) → Fronts (parts_front k w) (parts w) (kept_parts k w)
unfolding parts kept_parts
parts-front k words.Absurd = same-front _
parts-front k words.Rewrite = same-front _
parts-front k words.Split = same-front _
parts-front k words.Distinct = same-front _
parts-front k words.Weaken = same-front _
parts-front k words.Unfold = same-front _
parts-front k words.Cut = cut-front k
parts-front k words.Done = same-front _
parts-front k words.Choose = same-front _
parts-front k words.PureRight = same-front _
parts-front k words.Instantiate = same-front _
parts-front k words.Frame = same-front _
parts-front k words.UnfoldRight = same-front _
parts-front k words.Exec = same-front _
parts-front k words.Drop = same-front _
parts-front k words.Link = same-front _

abbrev Headed : Type 0
Headed = (w : ReasonWord) × Parts w

abbrev headed_front : Keep → Headed → Headed
headed_front k x = (x.0, parts_front k x.0 x.1)

headed-front : (k : Keep) → Fronts (headed_front k) (headed reason_word parts) (headed reason_word (kept_parts k))
headed-front k = record { reads = λ ws. by (read_class reason_word ws) }
  where
    one_word : (w : ReasonWord) (r : Reading (Parts w))
        → told {T = ReasonWord} {A = Parts} w (r >>= mapped (parts_front k w))
        ≡ (told {T = ReasonWord} {A = Parts} w r >>= mapped (headed_front k))
    one_word w (Ok y) = refl
    one_word w (Err left) = refl

    by : (r : Reading ReasonWord) → (r >>= λ x. told {T = ReasonWord} {A = Parts} x.0 ((kept_parts k x.0).read x.1))
        ≡ ((r >>= λ x. told {T = ReasonWord} {A = Parts} x.0 ((parts x.0).read x.1)) >>= mapped (headed_front k))
    by (Ok x) = rw ((parts-front k x.0).reads x.1) (one_word x.0 ((parts x.0).read x.1))
    by (Err left) = refl

reason-front : (k : Keep) → Fronts (reason_front k) reason (kept_reason k)
unfolding reason kept_reason
reason-front k = shaped-front {A = Headed} {C = Headed} (headed_front k) (reason_front k)
    to_reason from_reason Any to_reason from_reason Any (headed reason_word parts) (headed reason_word (kept_parts k))
    (λ x. same x.0 x.1) (headed-front k)
  where
    same : (w : ReasonWord) (p : Parts w) → made_of w (parts_front k w p) ≡ reason_front k (made_of w p)
    same words.Absurd p = refl
    same words.Rewrite p = refl
    same words.Split p = refl
    same words.Distinct p = refl
    same words.Weaken p = refl
    same words.Unfold p = refl
    same words.Cut p = refl
    same words.Done p = refl
    same words.Choose p = refl
    same words.PureRight p = refl
    same words.Instantiate p = refl
    same words.Frame p = refl
    same words.UnfoldRight p = refl
    same words.Exec p = refl
    same words.Drop p = refl
    same words.Link p = refl

pub node-front : (k : Keep) → Fronts (node_front k) node (kept_node k)
unfolding node kept_node
node-front k =
    shaped-front {A = Judgement × (Reason × List ℕ)} {C = Judgement × (Reason × List ℕ)}
    (λ x. (judgement_front k x.0, (reason_front k x.1.0, x.1.1))) (node_front k)
    to_node from_node Any to_node from_node Any _ _ (λ x. refl)
    (after-front node_word (λ x. (judgement_front k x.0, (reason_front k x.1.0, x.1.1))) _ _
    (seq-front (judgement_front k) (λ y. (reason_front k y.0, y.1)) judgement (seq reason premises) (kept_judgement k)
    (seq (kept_reason k) premises) (judgement-front k)
    (seq-front (reason_front k) (λ ns. ns) reason premises (kept_reason k) premises (reason-front k)
    (same-front premises))))

-- ---- where all is kept

whole-heap : (b : Bool) → kept_heap All (terms b) ≡ heap (terms b)
unfolding shared.heap shared.kept_heap shared.pures shared.pures1 shared.kept_pures shared.listed shared.kept_listed
    shared.spatials shared.spatials1 shared.kept_spatials
whole-heap b = refl

whole-disjuncts : kept_disjuncts All ≡ disjuncts
unfolding disjuncts kept_disjuncts shared.heap shared.kept_heap shared.pures shared.pures1 shared.kept_pures
    shared.listed shared.kept_listed shared.spatials shared.spatials1 shared.kept_spatials
whole-disjuncts = refl

whole-entailment : kept_entailment All ≡ entailment
unfolding entailment kept_entailment
whole-entailment = λ i. entailment_over (whole-heap true i) (whole-disjuncts i)

whole-state : kept_state All ≡ state
unfolding state kept_state
whole-state = λ i. state_over (whole-heap true i)

whole-judgement : kept_judgement All ≡ judgement
unfolding judgement kept_judgement
whole-judgement = λ i. judgement_over (whole-state i) (whole-entailment i)

whole-cut : kept_cut All ≡ cut
unfolding cut kept_cut
whole-cut = λ i. seq bracketed (whole-heap false i)

whole-parts : kept_parts All ≡ parts
unfolding parts kept_parts
whole-parts = λ i w. parts_over (whole-cut i) w

whole-reason : kept_reason All ≡ reason
unfolding reason kept_reason
whole-reason = λ i. reason_over (whole-parts i)

pub whole-node : kept_node All ≡ node
unfolding node kept_node
whole-node = λ i. node_over (whole-judgement i) (whole-reason i)
