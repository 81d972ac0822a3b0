-- Offsets of trees are those of tokens.
use Rattle.std.proofs.Common.{◌≡◌, ◌∙◌, ◌⊎◌, ◌+◌, ◌-◌, ◌==◌, ℕ, zero, suc, Bool, true, false, List, [], ◌∷◌, ◌++◌}
use Rattle.std.proofs.Common.{length, Contains, Option, Some, None, Result, Ok, Err, IfErr, slice_get, nat_lt}
use Rattle.std.proofs.Common.{if◌then◌else◌}
use Rattle.std.proofs.Common.{refl, sym, ap, subst, inl, inr, arith}
use Rattle.std.proofs.lemmas.List.{map-append}
use Rattle.std.proofs.lemmas.List.Elements.{Contains-append_cases, Contains-append_left, Contains-append_right}
use Rattle.std.proofs.lemmas.Option.{get_or_from_slice_get, slice_get_within}
use Rattle.script_reader.specs.declared.trees.kinds.TokenKind.TheVariants.{Open, Close, Atom}
use Rattle.script_reader.specs.declared.trees.kinds.NodeKind.TheVariants as tree
use Rattle.script_reader.specs.declared.trees.trees.Node.{Node}
use Rattle.script_reader.specs.declared.trees.trees.Trees.{Trees}
use Rattle.script_reader.specs.declared.trees.reading.TreeFault.{TreeFault}
use Rattle.script_reader.specs.declared.trees.reading.TreeFault.TheVariants as faults
use Rattle.script_reader.specs.declared.faults.ScriptFault.{ScriptFault}
use Rattle.script_reader.specs.declared.faults.ScriptFault.TheVariants as script
use Rattle.script_reader.specs.Tokens.{Placed, first_broken, first_stray, tokens_of}
use Rattle.script_reader.specs.Faults.{ReadsOr, after, earlier, lexical_fault, or_here, unfit_from}
use Rattle.script_reader.specs.Forests.{Forest, IsSpelled, atom, list, nodes_in, none, tokens_in}
use Rattle.script_reader.specs.Telling.{IsPlace, IsTokenPlace, StandsAtToken, StandsIn, Tells, TellsToken}
use Rattle.script_reader.specs.Telling.{begin_of}
use Rattle.script_reader.specs.Telling.{last_of, last_token, offsets, told}

pub begin_place : (trees : Trees) (tree at : ℕ)
    → at ≡ begin_of (length trees.bytes.now) (slice_get trees.nodes.items tree) → IsPlace trees at
unfolding IsPlace
begin_place trees tree at is = (tree, inl is)

pub last_place : (trees : Trees) (tree at : ℕ)
    → at ≡ last_of (length trees.bytes.now) (slice_get trees.nodes.items tree) → IsPlace trees at
unfolding IsPlace
last_place trees tree at is = (tree, inr is)

-- ---- members of lists

head_of : {X : Type 0} (x : X) (xs : List X) → Contains (x ∷ xs) x
head_of x xs = (0, omega arith, refl)

in_tail : {X : Type 0} (x : X) (xs : List X) (y : X) → Contains xs y → Contains (x ∷ xs) y
in_tail x xs y h = Contains-append_right (x ∷ []) xs y h

one_only : {X : Type 0} (x y : X) → Contains (x ∷ []) y → x ≡ y
one_only x y (zero, within, is) = is
one_only x y (suc k, within, is) = absurd (omega (arith, within))

cons_cases : {X : Type 0} (x : X) (xs : List X) (y : X) → Contains (x ∷ xs) y → (x ≡ y) ⊎ Contains xs y
cons_cases x xs y h =
    elim (Contains-append_cases (x ∷ []) xs y h) [ inl a ↦ inl (one_only x y a) | inr b ↦ inr b ]

-- ---- trees and their tokens

record IsPlaced (tokens : List Placed) (n : Node) : Type 0 where
  begins : Contains (offsets tokens) n.from
  ends : Contains (offsets tokens) (last_token n.kind n.from n.to)

later : (t : Placed) (ts : List Placed) (n : Node) → IsPlaced ts n → IsPlaced (t ∷ ts) n
later t ts n p = record {
  begins = in_tail t.from (offsets ts) n.from p.begins;
  ends = in_tail t.from (offsets ts) _ p.ends;
}

before : (ts us : List Placed) (n : Node) → IsPlaced ts n → IsPlaced (ts ++ us) n
before ts us n p =
    let e : offsets (ts ++ us) ≡ offsets ts ++ offsets us = map-append (λ (t : Placed). t.from) ts us in
    record {
      begins = subst (λ (l : List ℕ). Contains l n.from) (sym e)
          (Contains-append_left (offsets ts) (offsets us) n.from p.begins);
      ends = subst (λ (l : List ℕ). Contains l (last_token n.kind n.from n.to)) (sym e)
          (Contains-append_left (offsets ts) (offsets us) _ p.ends);
    }

behind : (ts us : List Placed) (n : Node) → IsPlaced us n → IsPlaced (ts ++ us) n
behind ts us n p =
    let e : offsets (ts ++ us) ≡ offsets ts ++ offsets us = map-append (λ (t : Placed). t.from) ts us in
    record {
      begins = subst (λ (l : List ℕ). Contains l n.from) (sym e)
          (Contains-append_right (offsets ts) (offsets us) n.from p.begins);
      ends = subst (λ (l : List ℕ). Contains l (last_token n.kind n.from n.to)) (sym e)
          (Contains-append_right (offsets ts) (offsets us) _ p.ends);
    }

placed : (f : Forest) (n : Node) → Contains (nodes_in f) n → IsPlaced (tokens_in f) n
placed none n (k, within, is) = absurd (omega (arith, within))
placed (atom kind from to rest) n h =
    let t : Placed = record { kind = Atom kind; from = from; to = to } in
    let here : Node = record { kind = tree.Atom kind; from = from; to = to; below = 0 } in
    let first : IsPlaced (t ∷ tokens_in rest) here =
    record { begins = head_of from (offsets (tokens_in rest)); ends = head_of from (offsets (tokens_in rest)) } in
    elim (cons_cases here (nodes_in rest) n h) [
      | inl is ↦ subst (λ (m : Node). IsPlaced (t ∷ tokens_in rest) m) is first
      | inr others ↦ later t (tokens_in rest) n (placed rest n others)
    ]
placed (list from behind_first inner last to rest) n h =
    let o : Placed = record { kind = Open; from = from; to = behind_first } in
    let c : Placed = record { kind = Close; from = last; to = to } in
    let all : List Placed = tokens_in inner ++ c ∷ tokens_in rest in
    let here : Node = record { kind = tree.List; from = from; to = last + 1; below = length (nodes_in inner) } in
    let e : offsets all ≡ offsets (tokens_in inner) ++ last ∷ offsets (tokens_in rest) =
    map-append (λ (t : Placed). t.from) (tokens_in inner) (c ∷ tokens_in rest) in
    let at_last : Contains (offsets all) last =
    subst (λ (l : List ℕ). Contains l last) (sym e)
    (Contains-append_right (offsets (tokens_in inner)) (last ∷ offsets (tokens_in rest)) last
    (head_of last (offsets (tokens_in rest)))) in
    let is_last : last ≡ last + 1 - 1 = omega arith in
    let first : IsPlaced (o ∷ all) here =
    record {
      begins = head_of from (offsets all);
      ends = in_tail from (offsets all) (last + 1 - 1) (subst (λ (k : ℕ). Contains (offsets all) k) is_last at_last);
    } in
    elim (cons_cases here (nodes_in inner ++ nodes_in rest) n h) [
      | inl is ↦ subst (λ (m : Node). IsPlaced (o ∷ all) m) is first
      | inr others ↦
          later o all n (elim (Contains-append_cases (nodes_in inner) (nodes_in rest) n others) [
            | inl a ↦ before (tokens_in inner) (c ∷ tokens_in rest) n (placed inner n a)
            | inr b ↦ behind (tokens_in inner) (c ∷ tokens_in rest) n (later c (tokens_in rest) n (placed rest n b))
          ])
    ]

listed : (nodes : List Node) (k : ℕ) (n : Node) → slice_get nodes k ≡ Some n → Contains nodes n
listed nodes k n h = (k, slice_get_within nodes k n h, get_or_from_slice_get nodes k n n h)

module _ (bytes : List ℕ) (nodes : List Node) (spelled : IsSpelled bytes nodes) where
  placed_in : (n : Node) → Contains nodes n → IsPlaced (tokens_of bytes) n
  placed_in n h =
      subst (λ (ts : List Placed). IsPlaced ts n) spelled.is_tokens
      (placed spelled.forest n (subst (λ (l : List Node). Contains l n) spelled.is_nodes h))

  at_begin : (o : Option Node) (k at : ℕ) → slice_get nodes k ≡ o → at ≡ begin_of (length bytes) o
      → IsTokenPlace bytes at
  at_begin None k at found is = inl is
  at_begin (Some n) k at found is =
      inr (subst (λ (a : ℕ). Contains (offsets (tokens_of bytes)) a) (sym is)
      (placed_in n (listed nodes k n found)).begins)

  at_last_token : (o : Option Node) (k at : ℕ) → slice_get nodes k ≡ o → at ≡ last_of (length bytes) o
      → IsTokenPlace bytes at
  at_last_token None k at found is = inl is
  at_last_token (Some n) k at found is =
      inr (subst (λ (a : ℕ). Contains (offsets (tokens_of bytes)) a) (sym is)
      (placed_in n (listed nodes k n found)).ends)

-- an offset of the trees that tokens spell is that of a token
pub token_place : (bytes : List ℕ) (trees : Trees) (at : ℕ) → IsSpelled bytes trees.nodes.items
    → trees.bytes.now ≡ bytes → IsPlace trees at → IsTokenPlace bytes at
unfolding IsPlace
token_place bytes trees at spelled same (k, is) =
    let nodes = trees.nodes.items in
    elim is [
      | inl a ↦ at_begin bytes nodes spelled (slice_get nodes k) k at refl
          (a ∙ ap (λ (l : List ℕ). begin_of (length l) (slice_get nodes k)) same)
      | inr b ↦ at_last_token bytes nodes spelled (slice_get nodes k) k at refl
          (b ∙ ap (λ (l : List ℕ). last_of (length l) (slice_get nodes k)) same)
    ]

-- ---- faults

stands : (bytes : List ℕ) (trees : Trees) (fault : ScriptFault) → IsSpelled bytes trees.nodes.items
    → trees.bytes.now ≡ bytes → StandsIn trees fault → StandsAtToken bytes fault
stands bytes trees (script.Byte at) spelled same h = tt
stands bytes trees (script.Utf8 at) spelled same h = tt
stands bytes trees (script.Syntax at) spelled same h = token_place bytes trees at spelled same h
stands bytes trees (script.IllFormed what at) spelled same h = token_place bytes trees at spelled same h
stands bytes trees (script.Limit what at) spelled same h = token_place bytes trees at spelled same h
stands bytes trees (script.Unsupported what at) spelled same h = token_place bytes trees at spelled same h
stands bytes trees script.OutOfMemory spelled same h = tt

-- what is told of commands is told at a token
pub tells_token : (X : Type 0) (bytes : List ℕ) (trees : Trees) (r : Result X ScriptFault)
    → IsSpelled bytes trees.nodes.items → trees.bytes.now ≡ bytes → Tells trees r → TellsToken bytes r
tells_token X bytes trees (Ok x) spelled same h = tt
tells_token X bytes trees (Err fault) spelled same h = stands bytes trees fault spelled same h

-- out of memory stands anywhere
pub memory_told : (X : Type 0) (trees : Trees) (r : Result X ScriptFault) → IfErr r (λ e. e ≡ script.OutOfMemory)
    → Tells trees r
memory_told X trees (Ok x) h = tt
memory_told X trees (Err e) h = subst (λ (f : ScriptFault). StandsIn trees f) (sym h) tt

unfit_end : (end at : ℕ) (empty : Bool) → (if empty then None else Some end) ≡ Some at → at ≡ end
unfit_end end at true h = absurd (let e : None ≡ Some at = h in cc)
unfit_end end at false h = let e : Some end ≡ Some at = h in cc

unfit_here : (end at from : ℕ) (s : Option (ℕ × Bool)) (ts : List Placed) (later : ℕ → Bool → Option ℕ)
    → ((d : ℕ) (b : Bool) → later d b ≡ Some at → (at ≡ end) ⊎ Contains (offsets ts) at)
    → or_here s from later ≡ Some at
    → (at ≡ end) ⊎ Contains (from ∷ offsets ts) at
unfit_here end at from None ts later known h =
    inr (subst (λ (a : ℕ). Contains (from ∷ offsets ts) a)
    (let e : Some from ≡ Some at = h in let e' : from ≡ at = cc in e') (head_of from (offsets ts)))
unfit_here end at from (Some s) ts later known h =
    elim (known s.0 s.1 h) [ inl a ↦ inl a | inr b ↦ inr (in_tail from (offsets ts) at b) ]

unfit_place : (end depth at : ℕ) (begun : Bool) (ts : List Placed) → unfit_from end depth begun ts ≡ Some at
    → (at ≡ end) ⊎ Contains (offsets ts) at
unfolding unfit_from
unfit_place end depth at begun [] h = inl (unfit_end end at (depth == 0) h)
unfit_place end depth at begun (t ∷ ts) h =
    unfit_here end at t.from (after t.kind depth begun) ts (λ d b. unfit_from end d b ts)
    (λ d b g. unfit_place end d at b ts g) h

lexical_stands : (bytes : List ℕ) (stray broken : Option ℕ) (fault : TreeFault) → earlier stray broken ≡ Some fault
    → StandsAtToken bytes (told fault)
lexical_stands bytes stray broken (faults.Byte at) h = tt
lexical_stands bytes stray broken (faults.Utf8 at) h = tt
lexical_stands bytes stray broken faults.OutOfMemory h = tt
lexical_stands bytes None None (faults.Syntax at) h = absurd (let e : None ≡ Some (faults.Syntax at) = h in cc)
lexical_stands bytes (Some s) None (faults.Syntax at) h =
    absurd (let e : Some (faults.Byte s) ≡ Some (faults.Syntax at) = h in cc)
lexical_stands bytes None (Some b) (faults.Syntax at) h =
    absurd (let e : Some (faults.Utf8 b) ≡ Some (faults.Syntax at) = h in cc)
lexical_stands bytes (Some s) (Some b) (faults.Syntax at) h = absurd (either (nat_lt s b) h)
  where
    either : (less : Bool) → (if less then Some (faults.Byte s) else Some (faults.Utf8 b)) ≡ Some (faults.Syntax at)
        → ⊥
    either true g = let e : Some (faults.Byte s) ≡ Some (faults.Syntax at) = g in cc
    either false g = let e : Some (faults.Utf8 b) ≡ Some (faults.Syntax at) = g in cc

tree_fault : (X : Type 0) (bytes : List ℕ) (first : Option TreeFault) (fault : TreeFault) → lexical_fault bytes ≡ first
    → ReadsOr {X = X} bytes first (Err fault) → StandsAtToken bytes (told fault)
tree_fault X bytes (Some f) fault is r =
    subst (λ (x : TreeFault). StandsAtToken bytes (told x)) (sym r)
    (lexical_stands bytes (first_stray bytes) (first_broken bytes) f is)
tree_fault X bytes None (faults.Syntax at) is r = unfit_place (length bytes) 0 at false (tokens_of bytes) r
tree_fault X bytes None faults.OutOfMemory is r = tt
tree_fault X bytes None (faults.Byte at) is r = absurd r
tree_fault X bytes None (faults.Utf8 at) is r = absurd r

-- a fault of the tokens or of the parentheses stands at a token, or is a bad byte
pub stands_tree : (X : Type 0) (bytes : List ℕ) (fault : TreeFault) (e : ScriptFault)
    → ReadsOr {X = X} bytes (lexical_fault bytes) (Err fault) → e ≡ told fault → StandsAtToken bytes e
stands_tree X bytes fault e r is =
    subst (λ (x : ScriptFault). StandsAtToken bytes x) (sym is)
    (tree_fault X bytes (lexical_fault bytes) fault refl r)
