-- Two lists that are gone through side by side.
use Rattle.std.proofs.Common.{◌≡◌, ℕ, ◌+◌, add-one, ◌<◌, ◌≤◌, List, [], ◌∷◌, length, drop, drop-cons, true, None}
use Rattle.std.proofs.Common.{slice_index_or, refl}
use Rattle.std.proofs.lemmas.List.{drop_all}
use Rattle.heap_formula.specs.declared.terms.Term.{Term}
use Rattle.heap_formula.specs.declared.terms.Term.TheVariants.{Nil}
use Rattle.search_moves.specs.Entailments.{instance_at, first_instance, agree}

no_other : (ts : List Term) → first_instance ts [] ≡ None
no_other [] = refl
no_other (t ∷ ts) = refl

agree_with_none : (ts : List Term) → agree ts [] ≡ true
agree_with_none [] = refl
agree_with_none (t ∷ ts) = refl

pub others_end : (ts us : List Term) (k : ℕ) → length us ≤ k → first_instance (drop k ts) (drop k us) ≡ None
others_end ts us k h = rw (drop_all k us h) (no_other (drop k ts))

pub terms_end : (ts us : List Term) (k : ℕ) → length ts ≤ k → first_instance (drop k ts) (drop k us) ≡ None
terms_end ts us k h = rw (drop_all k ts h) refl

pub agree_to_end : (ts us : List Term) (k : ℕ) → length us ≤ k → agree (drop k ts) (drop k us) ≡ true
agree_to_end ts us k h = rw (drop_all k us h) (agree_with_none (drop k ts))

pub agreed : (ts us : List Term) (k : ℕ) → length ts ≤ k → agree (drop k ts) (drop k us) ≡ true
agreed ts us k h = rw (drop_all k ts h) refl

-- where there is no instance at a place, it is looked for after it
pub goes_on : (ts us : List Term) (k : ℕ) → k < length ts → k < length us
    → instance_at (slice_index_or ts k Nil) (slice_index_or us k Nil) ≡ None
    → first_instance (drop k ts) (drop k us) ≡ first_instance (drop (k + 1) ts) (drop (k + 1) us)
goes_on ts us k l m none = rw (add-one, drop-cons ts k Nil l, drop-cons us k Nil m, none) refl
