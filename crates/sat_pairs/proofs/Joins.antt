-- Atoms in the order of a join.
use Rattle.std.proofs.Common.{◌≡◌, ℕ, suc, ◌+◌, ◌<◌, List, [], ◌∷◌, ◌++◌, map, length, get_or, take, drop, arith}
use Rattle.std.proofs.Common.{true, false, sym, refl, ap, ◌∙◌, subst, append_assoc}
use Rattle.std.specs.List.{remove}
use Rattle.std.proofs.lemmas.List.{append-nil}
use Rattle.std.proofs.lemmas.List.Edits.{length-remove}
use Rattle.heap_formula.specs.declared.atoms.Spatial.{Spatial}
use Rattle.heap_formula.specs.declared.atoms.Spatial.TheVariants.{Pred}
use Rattle.heap_formula.specs.Words.{Each}
use Rattle.pair_family.specs.JoinOrder.{Cost, cost_of, is_less, first_least, cheapest, atom_at, order_after, join_order}
use Rattle.pair_family.specs.Reordering.{Reorders}
use Rattle.sat_pairs.specs.Joins.{IsJoined}
use Rattle.sat_pairs.proofs.TakenOut.{read_at, taken_out}

-- ---- the cheapest

pub cheapest_first : (k : ℕ) (taken xs : List Spatial) (x : Spatial) → 0 < length xs → get_or xs 0 x ≡ x
    → first_least (cost_of k taken xs x) 0 0 (map (cost_of k taken xs) xs) ≡ cheapest k taken xs
cheapest_first k taken [] x l e = absurd (omega arith)
cheapest_first k taken (y ∷ xs) x l e =
    ap (λ z. first_least (cost_of k taken (y ∷ xs) z) 0 0 (map (cost_of k taken (y ∷ xs)) (y ∷ xs))) (sym e)

pub less_next : (c least : Cost) (best i : ℕ) (cs : List Cost) → is_less c least ≡ true
    → first_least least best i (c ∷ cs) ≡ first_least c i (suc i) cs
less_next c least best i cs e = rw e refl

pub more_next : (c least : Cost) (best i : ℕ) (cs : List Cost) → is_less c least ≡ false
    → first_least least best i (c ∷ cs) ≡ first_least least best (suc i) cs
more_next c least best i cs e = rw e refl

-- ---- one atom after the other

pub joined_none : (k : ℕ) (taken left : List Spatial) → left ≡ [] → IsJoined k taken left taken
joined_none k taken left e = subst (λ z. IsJoined k taken z taken) (sym e)
    (record { rest = []; atoms = sym (append-nil taken); all = refl; order = refl })

pub joined_more : (k : ℕ) (taken new left after out : List Spatial) (i : ℕ) (x : Spatial) → i ≡ cheapest k taken left
    → i < length left → x ≡ get_or left i x → after ≡ take i left ++ drop (i + 1) left → new ≡ taken ++ (x ∷ [])
    → IsJoined k new after out → IsJoined k taken left out
joined_more k taken new left after out i x c l e f n j =
    let s : i + 1 ≡ suc i = omega arith in
    let rest : remove left i ≡ after = sym (f ∙ ap (λ z. take i left ++ drop z left) s) in
    let long : length left ≡ suc (length after) =
    (let a = length-remove left i l in let b = ap length rest in omega arith) in
    let here : atom_at left i ≡ x = sym (read_at left i x (Pred 0 []) l (sym e)) in
    let more : taken ++ (atom_at left i ∷ []) ≡ new = ap (λ z. taken ++ (z ∷ [])) here ∙ sym n in
    let next : order_after (suc (length after)) k taken left ≡ x ∷ order_after (length after) k new after =
    ap (λ z. atom_at left z ∷ order_after (length after) k (taken ++ (atom_at left z ∷ [])) (remove left z)) (sym c)
    ∙ (λ z. here z ∷ order_after (length after) k (more z) (rest z)) in
    record {
      rest = x ∷ j.rest;
      atoms = j.atoms ∙ (ap (λ z. z ++ j.rest) n ∙ append_assoc taken (x ∷ []) j.rest);
      all = (after, taken_out left after i x l e f, j.all);
      order = ap (λ z. x ∷ z) j.order ∙ (sym next ∙ ap (λ z. order_after z k taken left) (sym long));
    }

-- from none taken
pub join_is : (k : ℕ) (none xs out : List Spatial) → none ≡ [] → IsJoined k none xs out → out ≡ join_order k xs
join_is k none xs out e j =
    let j' = subst (λ z. IsJoined k z xs out) e j in j'.atoms ∙ j'.order

pub join_reorders : (k : ℕ) (none xs out : List Spatial) → none ≡ [] → IsJoined k none xs out → Reorders out xs
join_reorders k none xs out e j =
    let j' = subst (λ z. IsJoined k z xs out) e j in subst (λ z. Reorders z xs) (sym j'.atoms) j'.all

-- ---- what is true of all entries

append_each : {X : Type 0} (P : X → Type 0) (us vs : List X) (x : X) → Each P (us ++ (x ∷ vs)) → P x × Each P (us ++ vs)
append_each P [] vs x a = a
append_each P (u ∷ us) vs x a = let r = append_each P us vs x a.1 in (r.0, (a.0, r.1))

pub reordered_each : {X : Type 0} (P : X → Type 0) (xs ys : List X) → Reorders xs ys → Each P ys → Each P xs
reordered_each P [] ys r a = tt
reordered_each P (x ∷ xs) ys r a =
    let t = r.1 in
    let s = append_each P t.0 t.1 x (subst (Each P) t.2 a) in
    (s.0, reordered_each P xs r.0 r.2 (subst (Each P) (sym t.3) s.1))
