-- Depth after depth.
use Rattle.std.proofs.Common.{ℕ, suc, ◌≡◌, List, refl, sym, ap, subst, ◌∙◌, Option, Some, None}
use Rattle.derivations.specs.System.{System, partial, Going, status_after, stream, Outcome, IsFound}
use Rattle.derivations.specs.System.{HasTooManyDerivations, HasTooManyStates, stopped_or, search_from}
use Rattle.derivations.specs.declared.search.Stop.{Stop}
use Rattle.derivations.specs.declared.search.Stop.TheVariants as stop
use Rattle.derivations.specs.Engine.{status_of, IsDepthSearched}

abbrev pub outcome_at : {R : Type 0} → Stop → List R → Outcome R
outcome_at stop.Found d = IsFound d
outcome_at stop.TooManyDerivations d = HasTooManyDerivations
outcome_at stop.TooManyStates d = HasTooManyStates

stopped : {R : Type 0} (why : Stop) (d : List R) (next : Outcome R)
    → stopped_or (status_of why d) next ≡ outcome_at why d
stopped stop.Found d next = refl
stopped stop.TooManyDerivations d next = refl
stopped stop.TooManyStates d next = refl

pub deeper : {R : Type 0} (s : System R) (most e e' n n' c : ℕ) → n ≡ suc n' → e' ≡ suc e
    → status_after s most 0 (stream s (partial s e)) ≡ Going c → search_from s most e' n' ≡ search_from s most e n
deeper s most e e' n n' c nn ee h =
    ap (λ k. search_from s most k n') ee ∙ (ap (λ st. stopped_or st (search_from s most (suc e) n')) (sym h)
    ∙ ap (search_from s most e) (sym nn))

pub stops_at : {R : Type 0} (s : System R) (most e n n' : ℕ) (why : Stop) (d : List R) → n ≡ suc n'
    → status_after s most 0 (stream s (partial s e)) ≡ status_of why d → outcome_at why d ≡ search_from s most e n
stops_at s most e n n' why d nn h =
    sym (stopped why d (search_from s most (suc e) n'))
    ∙ (ap (λ st. stopped_or st (search_from s most (suc e) n')) (sym h) ∙ ap (search_from s most e) (sym nn))

-- a depth was searched, and the search stops there
pub answers_at : {R : Type 0} (s : System R) (most e n n' : ℕ) (why : Stop) (d : List R) (o : Option Stop) → n ≡ suc n'
    → IsDepthSearched s most e d o → o ≡ Some why → outcome_at why d ≡ search_from s most e n
answers_at s most e n n' why d o nn h oo = stops_at s most e n n' why d nn (subst (IsDepthSearched s most e d) oo h)

pub goes_deeper : {R : Type 0} (s : System R) (most e e' n n' : ℕ) (d : List R) (o : Option Stop) → n ≡ suc n'
    → e' ≡ suc e → IsDepthSearched s most e d o → o ≡ None → search_from s most e' n' ≡ search_from s most e n
goes_deeper s most e e' n n' d o nn ee h oo = let x = subst (IsDepthSearched s most e d) oo h in
    deeper s most e e' n n' x.0 nn ee x.1
