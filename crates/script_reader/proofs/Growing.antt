-- Trees grow token by token.
use Rattle.std.proofs.Common.{◌≡◌, ◌∙◌, ◌<◌, ℕ, ◌+◌, ◌-◌, ap, sym, refl, arith, List, [], ◌∷◌, ◌++◌, length, reverse}
use Rattle.std.proofs.Common.{append_assoc, length-append, slice_set, drop, Bool, true, false, ◌==◌}
use Rattle.std.proofs.Math.Dec.{eqb-suc-zero}
use Rattle.std.proofs.Math.Seq.{set-append_seam}
use Rattle.std.proofs.lemmas.List.{append-nil, append_cancel_right, reverse-append}
use Rattle.script_reader.specs.declared.trees.kinds.AtomKind.{AtomKind}
use Rattle.script_reader.specs.declared.trees.kinds.TokenKind.TheVariants.{Open, Close, Atom}
use Rattle.script_reader.specs.declared.trees.kinds.NodeKind.TheVariants as tree
use Rattle.script_reader.specs.declared.trees.trees.Node.{Node}
use Rattle.script_reader.specs.declared.trees.reading.OpenList.{OpenList}
use Rattle.script_reader.specs.Tokens.{Placed, tokens_from, tokens_of}
use Rattle.script_reader.specs.Forests.{Forest, IsSpelled, atom, list, nodes_in, none, tokens_in}
use Rattle.script_reader.specs.Partials.{Adds, IsPartial, Partial, ended, nodes_so_far, open_lists, outermost}
use Rattle.script_reader.specs.Partials.{tokens_so_far, within}

-- ---- lists with a last member

snoc_right : {X : Type 0} (xs ys : List X) (x y : X) → xs ++ x ∷ [] ≡ ys ++ y ∷ [] → x ≡ y
snoc_right xs ys x y h =
    let l : x ∷ reverse xs ≡ y ∷ reverse ys = sym (reverse-append xs (x ∷ []))
    ∙ (ap reverse h ∙ reverse-append ys (y ∷ [])) in
    cc

snoc_left : {X : Type 0} (xs ys : List X) (x y : X) → xs ++ x ∷ [] ≡ ys ++ y ∷ [] → xs ≡ ys
snoc_left xs ys x y h =
    append_cancel_right xs ys (x ∷ []) (h ∙ ap (λ z. ys ++ z ∷ []) (sym (snoc_right xs ys x y h)))

no_last : {X : Type 0} (xs : List X) (x : X) → xs ++ x ∷ [] ≡ [] → ⊥
no_last xs x h = let e = length-append xs (x ∷ []) in let n = ap length h in omega (arith, e, n)

pub none_listed : {X : Type 0} (xs : List X) (n : ℕ) (empty : Bool) → n ≡ length xs → empty ≡ (n == 0) → empty ≡ true
    → xs ≡ []
none_listed [] n empty l e t = refl
none_listed (x ∷ xs) n empty l e t =
    absurd (let f : (n == 0) ≡ false = ap (λ k. k == 0) l ∙ eqb-suc-zero (length xs) in
    let g : false ≡ true = sym f ∙ sym e ∙ t in cc)

-- ---- trees behind others

beside : Forest → Forest → Forest
beside none g = g
beside (atom kind from to rest) g = atom kind from to (beside rest g)
beside (list from behind inner last to rest) g = list from behind inner last to (beside rest g)

nodes-beside : (f g : Forest) → nodes_in (beside f g) ≡ nodes_in f ++ nodes_in g
unfolding beside
nodes-beside none g = refl
nodes-beside (atom kind from to rest) g =
    let n : Node = record { kind = tree.Atom kind; from = from; to = to; below = 0 } in
    ap (λ l. n ∷ l) (nodes-beside rest g)
nodes-beside (list from behind inner last to rest) g =
    let n : Node = record { kind = tree.List; from = from; to = last + 1; below = length (nodes_in inner) } in
    ap (λ l. n ∷ (nodes_in inner ++ l)) (nodes-beside rest g)
    ∙ ap (λ l. n ∷ l) (sym (append_assoc (nodes_in inner) (nodes_in rest) (nodes_in g)))

tokens-beside : (f g : Forest) → tokens_in (beside f g) ≡ tokens_in f ++ tokens_in g
unfolding beside
tokens-beside none g = refl
tokens-beside (atom kind from to rest) g =
    let t : Placed = record { kind = Atom kind; from = from; to = to } in
    ap (λ l. t ∷ l) (tokens-beside rest g)
tokens-beside (list from behind inner last to rest) g =
    let o : Placed = record { kind = Open; from = from; to = behind } in
    let c : Placed = record { kind = Close; from = last; to = to } in
    ap (λ l. o ∷ (tokens_in inner ++ c ∷ l)) (tokens-beside rest g)
    ∙ ap (λ l. o ∷ l) (sym (append_assoc (tokens_in inner) (c ∷ tokens_in rest) (tokens_in g)))

grown : Partial → Forest → Partial
grown (outermost f) g = outermost (beside f g)
grown (within p from behind f) g = within p from behind (beside f g)

nodes-grown : (p : Partial) (g : Forest) → nodes_so_far (grown p g) ≡ nodes_so_far p ++ nodes_in g
unfolding grown
nodes-grown (outermost f) g = nodes-beside f g
nodes-grown (within p from behind f) g =
    let o : Node = record { kind = tree.List; from = from; to = from; below = 0 } in
    ap (λ l. nodes_so_far p ++ o ∷ l) (nodes-beside f g)
    ∙ sym (append_assoc (nodes_so_far p) (o ∷ nodes_in f) (nodes_in g))

tokens-grown : (p : Partial) (g : Forest) → tokens_so_far (grown p g) ≡ tokens_so_far p ++ tokens_in g
unfolding grown
tokens-grown (outermost f) g = tokens-beside f g
tokens-grown (within p from behind f) g =
    let o : Placed = record { kind = Open; from = from; to = behind } in
    ap (λ l. tokens_so_far p ++ o ∷ l) (tokens-beside f g)
    ∙ sym (append_assoc (tokens_so_far p) (o ∷ tokens_in f) (tokens_in g))

open-grown : (p : Partial) (g : Forest) → open_lists (grown p g) ≡ open_lists p
unfolding grown
open-grown (outermost f) g = refl
open-grown (within p from behind f) g = refl

-- ---- one more token

-- a list is opened
pub opens : (nodes nodes' : List Node) (lists lists' : List OpenList) (count from behind : ℕ) → count ≡ length nodes
    → nodes' ≡ nodes ++ record { kind = tree.List; from = from; to = from; below = 0 } ∷ []
    → lists' ≡ lists ++ record { place = count; from = from } ∷ []
    → Adds nodes lists (record { kind = Open; from = from; to = behind }) nodes' lists'
opens nodes nodes' lists lists' count from behind n ns ls tokens p =
    let o : Node = record { kind = tree.List; from = from; to = from; below = 0 } in
    let t : Placed = record { kind = Open; from = from; to = behind } in
    let opening : ℕ → OpenList = λ k. record { place = k; from = from } in
    record {
      trees = within p.trees from behind none;
      is_nodes = ns ∙ ap (λ l. l ++ o ∷ []) p.is_nodes;
      is_open = ls ∙ ap (λ k. lists ++ opening k ∷ []) (n ∙ ap length p.is_nodes)
          ∙ ap (λ l. l ++ opening (length (nodes_so_far p.trees)) ∷ []) p.is_open;
      is_tokens = ap (λ l. l ++ t ∷ []) p.is_tokens;
    }

-- an atom comes
pub atom_comes : (nodes nodes' : List Node) (lists lists' : List OpenList) (kind : AtomKind) (from to : ℕ)
    → nodes' ≡ nodes ++ record { kind = tree.Atom kind; from = from; to = to; below = 0 } ∷ [] → lists' ≡ lists
    → Adds nodes lists (record { kind = Atom kind; from = from; to = to }) nodes' lists'
atom_comes nodes nodes' lists lists' kind from to ns ls tokens p =
    let n : Node = record { kind = tree.Atom kind; from = from; to = to; below = 0 } in
    let t : Placed = record { kind = Atom kind; from = from; to = to } in
    let g = atom kind from to none in
    record {
      trees = grown p.trees g;
      is_nodes = ns ∙ ap (λ l. l ++ n ∷ []) p.is_nodes ∙ sym (nodes-grown p.trees g);
      is_open = ls ∙ p.is_open ∙ sym (open-grown p.trees g);
      is_tokens = ap (λ l. l ++ t ∷ []) p.is_tokens ∙ sym (tokens-grown p.trees g);
    }

module _ (nodes' : List Node) (lists' : List OpenList) (opening : OpenList) (count last to : ℕ) where
  end_inner : (q : Partial) (from behind : ℕ) (f : Forest) (tokens : List Placed)
      → count ≡ length (nodes_so_far (within q from behind f))
      → open_lists (within q from behind f) ≡ lists' ++ opening ∷ []
      → (opening.place < count → nodes' ≡ slice_set (nodes_so_far (within q from behind f)) opening.place
      (ended count opening last))
      → tokens ≡ tokens_so_far (within q from behind f)
      → IsPartial nodes' lists' (tokens ++ record { kind = Close; from = last; to = to } ∷ [])
  end_inner q from behind f tokens n ls ns ts =
      let before = nodes_so_far q in
      let o : Node = record { kind = tree.List; from = from; to = from; below = 0 } in
      let all : List Node = before ++ o ∷ nodes_in f in
      let t : Placed = record { kind = Open; from = from; to = behind } in
      let c : Placed = record { kind = Close; from = last; to = to } in
      let g = list from behind f last to none in
      let was : OpenList = record { place = length before; from = from } in
      let same : was ≡ opening = snoc_right (open_lists q) lists' was opening ls in
      let others : open_lists q ≡ lists' = snoc_left (open_lists q) lists' was opening ls in
      let here : length before ≡ opening.place = ap (λ (r : OpenList). r.place) same in
      let e = length-append before (o ∷ nodes_in f) in
      let within_all : opening.place < count = omega (arith, e, here, n) in
      let inner_count : count - length before - 1 ≡ length (nodes_in f) = omega (arith, e, n) in
      let new : ℕ → Node = λ k. record { kind = tree.List; from = from; to = last + 1; below = k } in
      let is_new : ended count opening last ≡ new (length (nodes_in f)) =
      ap (λ (r : OpenList). ended count r last) (sym same) ∙ ap new inner_count in
      record {
        trees = grown q g;
        is_nodes = ns within_all ∙ ap (slice_set all opening.place) is_new
            ∙ ap (λ k. slice_set all k (new (length (nodes_in f)))) (sym here)
            ∙ set-append_seam before o (nodes_in f) (new (length (nodes_in f)))
            ∙ ap (λ l. before ++ new (length (nodes_in f)) ∷ l) (sym (append-nil (nodes_in f)))
            ∙ sym (nodes-grown q g);
        is_open = sym others ∙ sym (open-grown q g);
        is_tokens = ap (λ l. l ++ c ∷ []) ts
            ∙ append_assoc (tokens_so_far q) (t ∷ tokens_in f) (c ∷ []) ∙ sym (tokens-grown q g);
      }

  end_at : (q : Partial) (tokens : List Placed) → count ≡ length (nodes_so_far q)
      → open_lists q ≡ lists' ++ opening ∷ []
      → (opening.place < count → nodes' ≡ slice_set (nodes_so_far q) opening.place (ended count opening last))
      → tokens ≡ tokens_so_far q
      → IsPartial nodes' lists' (tokens ++ record { kind = Close; from = last; to = to } ∷ [])
  end_at (outermost f) tokens n ls ns ts =
      absurd (no_last lists' opening (sym ls))
  end_at (within q from behind f) tokens n ls ns ts = end_inner q from behind f tokens n ls ns ts

-- the innermost open list ends
pub closes : (nodes nodes' : List Node) (lists lists' : List OpenList) (opening : OpenList) (count last to : ℕ)
    → count ≡ length nodes → lists ≡ lists' ++ opening ∷ []
    → (opening.place < count → nodes' ≡ slice_set nodes opening.place (ended count opening last))
    → Adds nodes lists (record { kind = Close; from = last; to = to }) nodes' lists'
closes nodes nodes' lists lists' opening count last to n ls ns tokens p =
    end_at nodes' lists' opening count last to p.trees tokens (n ∙ ap length p.is_nodes) (sym p.is_open ∙ ls)
    (λ h. ns h ∙ ap (λ l. slice_set l opening.place (ended count opening last)) p.is_nodes) p.is_tokens

-- ---- a whole text

-- the tokens up to an offset are taken
pub record IsBuilding (bytes : List ℕ) (nodes : List Node) (lists : List OpenList) (at : ℕ) : Type 0 where
  pub taken : List Placed
  pub partial : IsPartial nodes lists taken
  pub others : taken ++ tokens_from at 0 (drop at bytes) ≡ tokens_of bytes

pub building_begun : (bytes : List ℕ) (nodes : List Node) (lists : List OpenList) → nodes ≡ [] → lists ≡ []
    → IsBuilding bytes nodes lists 0
building_begun bytes nodes lists ns ls =
    record {
      taken = [];
      partial = record { trees = outermost none; is_nodes = ns; is_open = ls; is_tokens = refl };
      others = refl;
    }

-- a token more
pub building_more : (bytes : List ℕ) (nodes nodes' : List Node) (lists lists' : List OpenList)
    (at behind : ℕ) (t : Placed)
    → tokens_from at 0 (drop at bytes) ≡ t ∷ tokens_from behind 0 (drop behind bytes)
    → Adds nodes lists t nodes' lists' → IsBuilding bytes nodes lists at → IsBuilding bytes nodes' lists' behind
building_more bytes nodes nodes' lists lists' at behind t here adds b =
    record {
      taken = b.taken ++ t ∷ [];
      partial = adds b.taken b.partial;
      others = append_assoc b.taken (t ∷ []) (tokens_from behind 0 (drop behind bytes))
          ∙ ap (λ l. b.taken ++ l) (sym here) ∙ b.others;
    }

-- no token more
pub building_same : (bytes : List ℕ) (nodes : List Node) (lists : List OpenList) (at behind : ℕ)
    → tokens_from at 0 (drop at bytes) ≡ tokens_from behind 0 (drop behind bytes)
    → IsBuilding bytes nodes lists at → IsBuilding bytes nodes lists behind
building_same bytes nodes lists at behind here b =
    record { taken = b.taken; partial = b.partial; others = ap (λ l. b.taken ++ l) (sym here) ∙ b.others }

spelled_whole : (bytes : List ℕ) (nodes : List Node) (p : Partial) (tokens : List Placed) → open_lists p ≡ []
    → nodes ≡ nodes_so_far p → tokens ≡ tokens_so_far p → tokens ≡ tokens_of bytes → IsSpelled bytes nodes
spelled_whole bytes nodes (outermost f) tokens ls ns ts all =
    record { forest = f; is_tokens = sym ts ∙ all; is_nodes = ns }
spelled_whole bytes nodes (within p from behind f) tokens ls ns ts all =
    absurd (no_last (open_lists p) (record { place = length (nodes_so_far p); from = from }) ls)

-- at the end no list is open
pub building_ended : (bytes : List ℕ) (nodes : List Node) (lists : List OpenList) (at : ℕ) → lists ≡ []
    → tokens_from at 0 (drop at bytes) ≡ [] → IsBuilding bytes nodes lists at → IsSpelled bytes nodes
building_ended bytes nodes lists at ls none_left b =
    spelled_whole bytes nodes b.partial.trees b.taken (sym b.partial.is_open ∙ ls) b.partial.is_nodes
    b.partial.is_tokens
    (sym (append-nil b.taken) ∙ ap (λ l. b.taken ++ l) (sym none_left) ∙ b.others)
