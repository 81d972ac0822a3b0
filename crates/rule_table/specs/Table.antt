-- The rules but Exec: the first fault, or the premises with their trace pairs.
use Rattle.std.specs.Prelude.{ℕ, ◌+◌, max, List, [], ◌∷◌, ◌++◌, map, length, nat_eq, nat_le, if◌then◌else◌, Ok, Err}
use Rattle.std.specs.Prelude.{slice_get, slice_set, slice_index_or}
use Rattle.cyc_basics.specs.declared.limits.Limits.{Limits}
use Rattle.heap_formula.specs.declared.terms.Term.{Term}
use Rattle.heap_formula.specs.declared.terms.Term.TheVariants.{Nil, Univ, Exist}
use Rattle.heap_formula.specs.declared.atoms.Pure.{Pure}
use Rattle.heap_formula.specs.declared.atoms.Pure.TheVariants.{Eq, Neq}
use Rattle.heap_formula.specs.declared.atoms.Spatial.{Spatial}
use Rattle.heap_formula.specs.declared.atoms.Spatial.TheVariants.{Cell, Pred}
use Rattle.heap_formula.specs.declared.judgements.Judgement.{Judgement}
use Rattle.heap_formula.specs.declared.judgements.Judgement.TheVariants.{Entail, Term as Runs}
use Rattle.heap_formula.specs.declared.judgements.Premise.{Premise}
use Rattle.heap_formula.specs.declared.proof_rules.Side.{Side}
use Rattle.heap_formula.specs.declared.proof_rules.Side.TheVariants.{Left, Right}
use Rattle.heap_formula.specs.declared.proof_rules.RuleFault.TheVariants.{NoSuchAtom, NotEquation, AtomsDiffer}
use Rattle.heap_formula.specs.declared.proof_rules.RuleFault.TheVariants.{HasExistential, NotFollowing, NotAbsurd}
use Rattle.heap_formula.specs.declared.proof_rules.RuleFault.TheVariants.{NotEmpty, NoSuchCase, NoCell}
use Rattle.heap_formula.specs.Symbolic.{SymbolicHeap}
use Rattle.heap_formula.specs.Definitions.{Definition}
use Rattle.heap_formula.specs.Meaning.{cases_of}
use Rattle.heap_formula.specs.Fresh.{heap_bound, heap_exists, fresh_number}
use Rattle.heap_formula.specs.Judgements.{antecedent, with_antecedent}
use Rattle.heap_formula.specs.Positions.{without, same_pairs, kept_pairs}
use Rattle.heap_formula.specs.Substitution.{in_heap, apply_pure, apply_spatial, apply_judgement}
use Rattle.rule_table.specs.RuleUnfold.{unfold_premise, unfolded}
use Rattle.rule_table.specs.RuleCut.{cut_left, cut_right}
use Rattle.rule_table.specs.Answer.{Answer, needs, finds, entails, single, runs, limited, one, two}
use Rattle.rule_table.specs.Tests.{same_term, same_spatial, is_universal_pure, is_universal_spatial, follows, is_absurd}
use Rattle.rule_table.specs.Tests.{address_of, ascend_from, has_number}

-- ---- premises that keep most of the judgement

-- other pure atoms on the left
abbrev pub with_pures : Judgement → List Pure → Premise
with_pures j xs =
    record {
      judgement = with_antecedent j (record { pure = xs; spatial = (antecedent j).spatial });
      pairs = same_pairs (antecedent j).spatial;
    }

-- one more pure atom on the left
abbrev pub with_pure : Judgement → Pure → Premise
with_pure j x = with_pures j ((antecedent j).pure ++ x ∷ [])

-- other disjuncts
abbrev pub with_right : SymbolicHeap → List SymbolicHeap → Premise
with_right a bs = record { judgement = Entail a bs; pairs = same_pairs a.spatial }

-- the heap without a pure atom
abbrev pub without_pure : ℕ → SymbolicHeap → SymbolicHeap
without_pure k a = record { pure = without k a.pure; spatial = a.spatial }

-- the heap without a spatial atom
abbrev pub without_spatial : ℕ → SymbolicHeap → SymbolicHeap
without_spatial k a = record { pure = a.pure; spatial = without k a.spatial }

-- ---- both sides, or the left

-- Absurd: no premise, where no state satisfies the antecedent as it stands
abbrev pub absurd_answer : Judgement → Answer
absurd_answer j = needs (is_absurd (antecedent j)) NotAbsurd (Ok [])

-- the term on the named side
abbrev pub named : Side → Term → Term → Term
named Left t u = t
named Right t u = u

-- the term on the other side
abbrev pub unnamed : Side → Term → Term → Term
unnamed Left t u = u
unnamed Right t u = t

-- the pure atoms with u for v outside atom k, which goes, or stays where v is a program variable
abbrev pub rewritten_pures : ℕ → ℕ → Pure → ℕ → Term → List Pure → List Pure
rewritten_pures p k x v u xs =
    if nat_le p v then map (apply_pure ((v, u) ∷ [])) (without k xs) else slice_set (map (apply_pure ((v, u) ∷ [])) xs)
    k x

-- the judgement with u for v outside pure atom k, which is x
abbrev pub rewritten : ℕ → Judgement → ℕ → Pure → ℕ → Term → Premise
rewritten p j k x v u =
    record {
      judgement = with_antecedent (apply_judgement ((v, u) ∷ []) j)
          (record {
            pure = rewritten_pures p k x v u (antecedent j).pure;
            spatial = map (apply_spatial ((v, u) ∷ [])) (antecedent j).spatial;
          });
      pairs = same_pairs (antecedent j).spatial;
    }

-- the named side is t, the other one u
abbrev pub rewrite_side : ℕ → Judgement → ℕ → Pure → Term → Term → Answer
rewrite_side p j k x Nil u = Err NotEquation
rewrite_side p j k x (Exist n) u = Err NotEquation
rewrite_side p j k x (Univ v) u = Ok (one (rewritten p j k x v u))

-- Rewrite by this atom: an equation of a term with itself is dropped
abbrev pub rewrite_atom : ℕ → Judgement → ℕ → Side → Pure → Answer
rewrite_atom p j k side (Neq t u) = Err NotEquation
rewrite_atom p j k side (Eq t u) =
    if same_term t u then Ok (one (with_pures j (without k (antecedent j).pure))) else rewrite_side p j k (Eq t u)
    (named side t u) (unnamed side t u)

-- Rewrite k: pure atom k of the antecedent is an equation, and its named side gives way to the other
abbrev pub rewrite_answer : ℕ → Judgement → ℕ → Side → Answer
rewrite_answer p j k side = finds (slice_get (antecedent j).pure k) NoSuchAtom (rewrite_atom p j k side)

-- Split: `t = u` is appended, and `t != u`
abbrev pub split_answer : Limits → Judgement → Term → Term → Answer
split_answer most j t u = limited most (two (with_pure j (Eq t u)) (with_pure j (Neq t u)))

-- Distinct i k: cells i and k have different addresses; where i is k, its address is not `nil`
abbrev pub distinct_answer : Limits → Judgement → ℕ → ℕ → Answer
distinct_answer most j i k =
    finds (slice_get (antecedent j).spatial i) NoSuchAtom (λ x.
    finds (slice_get (antecedent j).spatial k) NoSuchAtom (λ y.
    finds (address_of x) NoCell (λ t.
    finds (address_of y) NoCell (λ u.
    limited most (one (with_pure j (Neq t (if nat_eq i k then Nil else u))))))))

-- Weaken k: pure atom k is dropped
abbrev pub weaken_answer : Judgement → ℕ → Answer
weaken_answer j k =
    finds (slice_get (antecedent j).pure k) NoSuchAtom (λ x. Ok (one (with_pures j (without k (antecedent j).pure))))

-- what follows for a predicate atom
abbrev pub calls : Spatial → (ℕ → List Term → Answer) → Answer
calls (Cell t ts) rest = Err NoSuchAtom
calls (Pred q ts) rest = rest q ts

-- Unfold k: one premise for each case of the predicate at spatial atom k of the antecedent
abbrev pub unfold_answer : Limits → List Definition → ℕ → Judgement → ℕ → Answer
unfold_answer most ds p j k =
    finds (slice_get (antecedent j).spatial k) NoSuchAtom (λ x.
    calls x (λ q ts. limited most (map (unfold_premise j k ts (fresh_number p j)) (cases_of ds q))))

-- Cut: the atoms at the places, which ascend strictly, entail f, and f stands in their place
abbrev pub cut_answer : Limits → ℕ → Judgement → List ℕ → SymbolicHeap → Answer
cut_answer most p j places f =
    needs (ascend_from 0 (length (antecedent j).spatial) places) NoSuchAtom
    (limited most (two (cut_left (antecedent j) (has_number places) f)
    (cut_right j (has_number places) f (max (fresh_number p j) (heap_bound f)))))

-- Drop k: spatial atom k of a symbolic state is dropped
abbrev pub drop_answer : Judgement → ℕ → Answer
drop_answer j k =
    runs j (λ i a.
    finds (slice_get a.spatial k) NoSuchAtom (λ x.
    Ok (one (record { judgement = Runs i (without_spatial k a); pairs = kept_pairs k a.spatial }))))

-- ---- the right

-- no premise where the three lists are empty
abbrev pub are_empty : List Spatial → List Pure → List Spatial → Answer
are_empty [] [] [] = Ok []
are_empty [] [] (y ∷ ys) = Err NotEmpty
are_empty [] (p ∷ ps) ys = Err NotEmpty
are_empty (x ∷ xs) ps ys = Err NotEmpty

-- Done: no spatial atom on either side, and no pure atom on the right
abbrev pub done_answer : Judgement → Answer
done_answer j = single j (λ a b. are_empty a.spatial b.pure b.spatial)

-- Choose k: disjunct k alone is kept
abbrev pub choose_answer : Judgement → ℕ → Answer
choose_answer j k = entails j (λ a bs. finds (slice_get bs k) NoSuchAtom (λ b. Ok (one (with_right a (b ∷ [])))))

-- PureRight k: pure atom k of the right side, which has no existential and follows, is dropped
abbrev pub pure_right_answer : Judgement → ℕ → Answer
pure_right_answer j k =
    single j (λ a b.
    finds (slice_get b.pure k) NoSuchAtom (λ x.
    needs (is_universal_pure x) HasExistential (needs (follows a.pure x) NotFollowing
    (Ok (one (with_right a (without_pure k b ∷ [])))))))

-- t for the existential variable v
abbrev pub instance_term : ℕ → Term → Term → Term
instance_term v t Nil = Nil
instance_term v t (Univ n) = Univ n
instance_term v t (Exist n) = if nat_eq n v then t else Exist n

-- Instantiate: t for the existential variable v in the right side
abbrev pub instantiate_answer : Judgement → ℕ → Term → Answer
instantiate_answer j v t = single j (λ a b. Ok (one (with_right a (in_heap (instance_term v t) b ∷ []))))

-- Frame i k: atom i of the left and atom k of the right, which are one and have no existential, are removed
abbrev pub frame_answer : Judgement → ℕ → ℕ → Answer
frame_answer j i k =
    single j (λ a b.
    finds (slice_get a.spatial i) NoSuchAtom (λ x.
    finds (slice_get b.spatial k) NoSuchAtom (λ y.
    needs (is_universal_spatial y) HasExistential (needs (same_spatial x y) AtomsDiffer
    (Ok (one (record {
      judgement = Entail (without_spatial i a) (without_spatial k b ∷ []);
      pairs = kept_pairs i a.spatial;
    })))))))

-- a case's term at these arguments: parameter i is argument i, and local i is the existential e + i
abbrev pub right_term : List Term → ℕ → Term → Term
right_term args e Nil = Nil
right_term args e (Univ i) = slice_index_or args i Nil
right_term args e (Exist i) = Exist (e + i)

-- UnfoldRight k c: case c of the predicate at spatial atom k of the right side, with fresh existentials
abbrev pub unfold_right_answer : Limits → List Definition → Judgement → ℕ → ℕ → Answer
unfold_right_answer most ds j k c =
    single j (λ a b.
    finds (slice_get b.spatial k) NoSuchAtom (λ x.
    calls x (λ q ts.
    finds (slice_get (cases_of ds q) c) NoSuchCase (λ case.
    limited most (one (with_right a (unfolded b k (in_heap (right_term ts (heap_exists b)) case) ∷ [])))))))
