-- Whether choices that are made leave a link possible.
use Rattle.std.specs.Prelude.{ℕ, List, [], ◌∷◌, ◌++◌, length, Bool, true, false, ◌&&◌, ◌||◌, not, nat_eq, nat_le}
use Rattle.std.specs.Prelude.{if◌then◌else◌, Option, Some, None, slice_get}
use Rattle.std.specs.List.{list_any, list_all}
use Rattle.heap_formula.specs.declared.terms.Term.{Term}
use Rattle.heap_formula.specs.declared.terms.Term.TheVariants.{Nil, Univ, Exist}
use Rattle.heap_formula.specs.declared.atoms.Pure.{Pure}
use Rattle.heap_formula.specs.declared.atoms.Pure.TheVariants.{Eq, Neq}
use Rattle.heap_formula.specs.declared.atoms.Spatial.{Spatial}
use Rattle.heap_formula.specs.declared.atoms.Spatial.TheVariants.{Cell, Pred}
use Rattle.heap_formula.specs.declared.judgements.Judgement.{Judgement}
use Rattle.heap_formula.specs.declared.judgements.Judgement.TheVariants.{Entail, Term as Runs}
use Rattle.heap_formula.specs.Symbolic.{SymbolicHeap}
use Rattle.heap_formula.specs.Judgements.{antecedent}
use Rattle.heap_formula.specs.Substitution.{Bindings, apply_heap}
use Rattle.rule_table.specs.Tests.{same_term, equated, follows, has_number}
use Rattle.rule_table.specs.LinkTable.{covers_some}
use Rattle.back_links.specs.Listing.{stands_in_pure, stands_in_spatial, numbers}
use Rattle.back_links.specs.Shapes.{has_shapes, same_shapes, some_has_shapes}

-- the term of the first pair for a variable, if there is one
abbrev pub lookup : Bindings → ℕ → Option Term
lookup [] n = None
lookup (p ∷ ps) n = if nat_eq n p.0 then Some p.1 else lookup ps n

-- the term that will stand for a term, where the pairs say it
abbrev pub known : Bindings → Term → Option Term
known s Nil = Some Nil
known s (Univ n) = lookup s n
known s (Exist n) = Some (Exist n)

abbrev pub could_equal : List Pure → Option Term → Term → Bool
could_equal pures None u = true
could_equal pures (Some t) u = equated pures t u

abbrev pub could_equal_all : List Pure → Bindings → List Term → List Term → Bool
could_equal_all pures s [] [] = true
could_equal_all pures s [] (u ∷ us) = false
could_equal_all pures s (t ∷ ts) [] = false
could_equal_all pures s (t ∷ ts) (u ∷ us) = could_equal pures (known s t) u && could_equal_all pures s ts us

-- the atom matches another under some substitution that begins with these pairs
abbrev pub could_match : List Pure → Bindings → Spatial → Spatial → Bool
could_match pures s (Cell t ts) (Cell u us) = could_equal pures (known s t) u && could_equal_all pures s ts us
could_match pures s (Pred p ts) (Pred q us) = nat_eq p q && could_equal_all pures s ts us
could_match pures s (Cell t ts) (Pred q us) = false
could_match pures s (Pred p ts) (Cell u us) = false

abbrev pub could_match_some : List Pure → Bindings → Spatial → Option Spatial → Bool
could_match_some pures s x None = false
could_match_some pures s x (Some y) = could_match pures s x y

-- each atom with the variable n that has a place could match the one there
abbrev pub could_match_those : ℕ → List Pure → List Spatial → Bindings → List ℕ → List Spatial → Bool
could_match_those n pures atoms s [] xs = true
could_match_those n pures atoms s (m ∷ ms) [] = true
could_match_those n pures atoms s (m ∷ ms) (x ∷ xs) =
    (not (stands_in_spatial n x) || could_match_some pures s x (slice_get atoms m))
    && could_match_those n pures atoms s ms xs

abbrev pub both_known : (Term → Term → Pure) → Option Term → Option Term → Option Pure
both_known f None u = None
both_known f (Some t) None = None
both_known f (Some t) (Some u) = Some (f t u)

abbrev pub known_pure : Bindings → Pure → Option Pure
known_pure s (Eq t u) = both_known Eq (known s t) (known s u)
known_pure s (Neq t u) = both_known Neq (known s t) (known s u)

abbrev pub could_follow : List Pure → Option Pure → Bool
could_follow pures None = true
could_follow pures (Some x) = follows pures x

-- the variable is sent to itself, or has no pair yet
abbrev pub could_keep : Option Term → ℕ → Bool
could_keep None n = true
could_keep (Some t) n = same_term t (Univ n)

-- the variables that a link must send to themselves
abbrev pub kept_variables : Judgement → ℕ → ℕ
kept_variables (Entail a bs) p = 0
kept_variables (Runs i a) p = p

-- each pure atom with the variable n could follow
abbrev pub could_follow_those : ℕ → List Pure → Bindings → List Pure → Bool
could_follow_those n pures s xs = list_all (λ x. not (stands_in_pure n x) || could_follow pures (known_pure s x)) xs

-- for these places of the companion's first spatial atoms the pairs, one of which is for n, send n to a term that fits
abbrev pub could_send : Judgement → Judgement → ℕ → List ℕ → Bindings → ℕ → Bool
could_send bud companion p places s n =
    (nat_le (kept_variables companion p) n || could_keep (lookup s n) n)
    && (could_match_those n (antecedent bud).pure (antecedent bud).spatial s places (antecedent companion).spatial
    && could_follow_those n (antecedent bud).pure s (antecedent companion).pure)

-- some value for a variable is left
abbrev pub has_value : Judgement → Judgement → ℕ → List Term → List ℕ → ℕ → Bool
has_value bud companion p values places n = list_any (λ v. could_send bud companion p places ((n, v) ∷ []) n) values

-- each variable of the atom has a value left
abbrev pub have_values : Judgement → Judgement → ℕ → List Term → List ℕ → Spatial → List ℕ → Bool
have_values bud companion p values places x sources =
    list_all (λ n. not (stands_in_spatial n x) || has_value bud companion p values places n) sources

-- the term of the second list at the first place where the first has the variable n
abbrev pub opposite_in : ℕ → List Term → List Term → Option Term
opposite_in n [] us = None
opposite_in n (t ∷ ts) [] = None
opposite_in n (t ∷ ts) (u ∷ us) = if same_term t (Univ n) then Some u else opposite_in n ts us

-- the term of the second atom where the first has the variable n first, if both are cells or both predicates
abbrev pub opposite : ℕ → Spatial → Spatial → Option Term
opposite n (Cell t ts) (Cell u us) = if same_term t (Univ n) then Some u else opposite_in n ts us
opposite n (Pred p ts) (Pred q us) = opposite_in n ts us
opposite n (Cell t ts) (Pred q us) = None
opposite n (Pred p ts) (Cell u us) = None

-- the value is not the term that it has to equal
abbrev pub is_ruled_out : List Pure → Option Term → Option Term → Bool
is_ruled_out pures None u = false
is_ruled_out pures (Some v) None = false
is_ruled_out pures (Some v) (Some u) = not (equated pures v u)

-- an atom that may be missing could match the one at a place
abbrev pub could_stand : List Pure → List Spatial → ℕ → Option Spatial → Bool
could_stand pures atoms m None = true
could_stand pures atoms m (Some x) = could_match_some pures [] x (slice_get atoms m)

-- place m is free, and fits the companion's next atom
abbrev pub could_take : Judgement → Judgement → List ℕ → ℕ → Bool
could_take bud companion places m =
    not (has_number places m) && could_stand (antecedent bud).pure (antecedent bud).spatial m
    (slice_get (antecedent companion).spatial (length places))

-- and the variables of the atom x have values left then
abbrev pub could_place : Judgement → Judgement → ℕ → List Term → List ℕ → ℕ → Spatial → List ℕ → Bool
could_place bud companion p values places m x sources =
    could_take bud companion places m && have_values bud companion p values (places ++ m ∷ []) x sources

-- two entailments have the same shapes on the left, and each disjunct of the companion has those of some disjunct of
-- the bud; two judgements on runs are of one line, and the bud has the companion's shapes
abbrev pub are_alike : Judgement → Judgement → Bool
are_alike (Entail a bs) (Entail b cs) = same_shapes a.spatial b.spatial && list_all (some_has_shapes bs) cs
are_alike (Entail a bs) (Runs k b) = false
are_alike (Runs i a) (Entail b cs) = false
are_alike (Runs i a) (Runs k b) = nat_eq i k && has_shapes a.spatial b.spatial

-- some disjunct of the bud is covered
abbrev pub has_cover : List SymbolicHeap → Bindings → SymbolicHeap → Bool
has_cover bs s c = list_any (λ m. covers_some (apply_heap s c) (slice_get bs m)) (numbers bs)

abbrev pub have_covers : List SymbolicHeap → Bindings → List SymbolicHeap → Bool
have_covers bs s cs = list_all (has_cover bs s) cs
