-- The ring's file has no flaw.
use Rattle.std.proofs.Common.{◌≡◌, ℕ, zero, suc, ◌+◌, ◌*◌, ◌<◌, ◌≤◌, List, [], ◌∷◌, arith, None, take, map, refl, ap}
use Rattle.std.proofs.Common.{◌∙◌}
use Rattle.std.specs.Fmt.{decimal}
use Rattle.std.proofs.lemmas.Bool.{le-ltb, lt-leb}
use Rattle.std.proofs.lemmas.Option.{slice_get_within}
use Rattle.heap_formula.specs.declared.terms.Term.{Term}
use Rattle.heap_formula.specs.declared.terms.Term.TheVariants.{Nil, Univ, Exist}
use Rattle.heap_formula.specs.declared.judgements.Judgement.TheVariants.{Entail}
use Rattle.heap_formula.specs.declared.proof_rules.Reason.{Reason}
use Rattle.heap_formula.specs.declared.proof_rules.Reason.TheVariants.{Step, Back}
use Rattle.heap_formula.specs.declared.proof_rules.Rule.TheVariants.{Rewrite, Unfold, Done, PureRight, Instantiate}
use Rattle.heap_formula.specs.declared.proof_rules.Rule.TheVariants.{Frame, UnfoldRight}
use Rattle.heap_formula.specs.declared.proof_rules.Side.TheVariants.{Left}
use Rattle.heap_formula.specs.Definitions.{Definition}
use Rattle.heap_formula.specs.Symbolic.{SymbolicHeap}
use Rattle.heap_syntax.specs.Versions.{limits}
use Rattle.rule_book.specs.Graphs.{Node}
use Rattle.cyc_lex.specs.declared.fault.What.TheVariants.{Variable}
use Rattle.heap_reader.specs.Trees.{Heading}
use Rattle.heap_reader.specs.Flaws.{Found, over_if, or_later, listed_flaw, arity_in, heap_flaw}
use Rattle.heap_reader.specs.declared.definitions.scope.Scope.TheVariants.{Outside as InNode}
use Rattle.proof_file.specs.Spans.{term_span, definition_span, node_span}
use Rattle.heap_syntax.specs.declared.version.Version.TheVariants.{One}
use Rattle.proof_file.specs.Flaws.{term_flaw, definition_flaw, reason_flaw, node_flaw, file_flaw, first_node}
use Rattle.proof_file.specs.Written.{term_tree, heap_tree, definition_tree, reason_tree, node_tree, tree_of}
use Rattle.ring_family.specs.Ring.{emp, is_nil, holds, cell_then, after, list_of, definitions_from, ring_definitions}
use Rattle.ring_family.specs.Ring.{ring_block, ring_bud, ring_nodes, file_node}
use Rattle.ring_family.proofs.Blocks.{EachFrom, blocks_long}
use Rattle.ring_family.proofs.Members.{from_members, each_node, known, after_within, new_p, new_q, heads}

-- a list of no flawed member has none
none_listed : {X Y : Type 0} (flaw : ℕ → ℕ → Y → Found) (span : Y → ℕ) (f : X → Y) (n k : ℕ) (xs : List X)
    → EachFrom (λ i x. (t : ℕ) → flaw i t (f x) ≡ None) n xs → listed_flaw flaw span n k (map f xs) ≡ None
none_listed flaw span f n k [] h = refl
none_listed flaw span f n k (x ∷ xs) h =
    ap (λ (o : Found). or_later o (listed_flaw flaw span (suc n) (k + span (f x)) (map f xs))) (h.0 k)
    ∙ none_listed flaw span f (suc n) (k + span (f x)) xs h.1

none_listed_twice : {X Y Z : Type 0} (flaw : ℕ → ℕ → Z → Found) (span : Z → ℕ) (f : Y → Z) (g : X → Y) (n k : ℕ)
    (xs : List X) → EachFrom (λ i x. (t : ℕ) → flaw i t (f (g x)) ≡ None) n xs
    → listed_flaw flaw span n k (map f (map g xs)) ≡ None
none_listed_twice flaw span f g n k [] h = refl
none_listed_twice flaw span f g n k (x ∷ xs) h =
    ap (λ (o : Found). or_later o (listed_flaw flaw span (suc n) (k + span (f (g x))) (map f (map g xs)))) (h.0 k)
    ∙ none_listed_twice flaw span f g (suc n) (k + span (f (g x))) xs h.1

-- a term outside cases, and a heap, without a flaw
abbrev IsGoodTerm : Term → Type 0
IsGoodTerm t = (s : ℕ) → term_flaw InNode s (term_tree t) ≡ None

nil_good : IsGoodTerm Nil
nil_good s = refl

univ_good : (n : ℕ) → n ≤ 2001 → IsGoodTerm (Univ n)
univ_good n b s = ap (λ t. over_if t Variable (s + 1)) (le-ltb 65534 n (omega arith))

open_good : IsGoodTerm (Exist 0)
open_good s = refl

module _ (k : ℕ) (one : 1 ≤ k) (few : k ≤ 2000) where
  abbrev ds : List Definition
  ds = ring_definitions k

  abbrev hs : List Heading
  hs = heads ds ds

  abbrev IsGoodHeap : SymbolicHeap → Type 0
  IsGoodHeap h = (s : ℕ) → heap_flaw (term_flaw InNode) term_span (limits One) hs s (heap_tree ds h) ≡ None

  emp_good : IsGoodHeap emp
  emp_good s = refl

  is_nil_good : (t : Term) → IsGoodTerm t → IsGoodHeap (is_nil t)
  is_nil_good t g s = rw (g s)

  holds_good : (p : ℕ) (t : Term) → p ≤ k → IsGoodTerm t → IsGoodHeap (holds p t)
  holds_good p t b g s = rw (known k one few p b) (simp g)

  cell_good : (t u : Term) (p : ℕ) → p ≤ k → IsGoodTerm t → IsGoodTerm u → IsGoodHeap (cell_then t u p)
  cell_good t u p b g h s = rw (known k one few p b) (simp (g, h))

  -- ---- definitions

  definition_good : (j : ℕ) (name : List ℕ) (p : ℕ) → j < 4096 → p ≤ k → arity_in (take j hs) name ≡ None → (t : ℕ)
      → definition_flaw (limits One) hs j t (definition_tree ds (list_of name p)) ≡ None
  definition_good j name p b within new t = rw (lt-leb 4096 j b, new, known k one few p within)

  definitions_good : (i n : ℕ) → i + n ≡ k → EachFrom (λ j d. (t : ℕ)
      → definition_flaw (limits One) hs j t (definition_tree ds d) ≡ None) i (definitions_from k i n)
  definitions_good i zero e = (
    definition_good i (113 ∷ []) k (omega arith) (omega arith)
        (new_q ds k 0 k i (omega arith)),
    tt,
  )
  definitions_good i (suc n) e = (
    definition_good i (112 ∷ decimal i) (after k i) (omega arith) (after_within k one few i (omega arith))
        (new_p ds k 0 k i i (omega arith) (omega arith) (omega arith)),
    definitions_good (suc i) n (omega arith),
  )

  -- ---- nodes

  abbrev IsGoodNode : Node → Type 0
  IsGoodNode x = (i : ℕ) → i < 20000 → (t : ℕ) → node_flaw (limits One) hs 0 i t (node_tree ds (file_node x)) ≡ None

  node_good : (a b : SymbolicHeap) (reason : Reason) (us : List ℕ) → IsGoodHeap a → IsGoodHeap b
      → ((t : ℕ) → reason_flaw (limits One) hs t (reason_tree ds reason) ≡ None)
      → IsGoodNode (record { judgement = Entail a (b ∷ []); reason = reason; premises = us })
  node_good a b reason us g h r i within t = rw (lt-leb 20000 i within) (simp (g, h, r))

  block_good : (m : ℕ) → m < k → EachFrom (λ _ x. IsGoodNode x) 0 (ring_block k m)
  block_good m b =
      let v = univ_good m (omega arith) in
      let u = univ_good (m + 1) (omega arith) in
      let next = after_within k one few m b in
      let qv = holds_good k (Univ m) (omega arith) v in
      let cell = cell_good (Univ m) (Univ (m + 1)) (after k m) next v u in
      let open' = cell_good (Univ m) (Exist 0) k (omega arith) v open_good in
      let shut = cell_good (Univ m) (Univ (m + 1)) k (omega arith) v u in (
        node_good (holds m (Univ m)) (holds k (Univ m)) (Step (Unfold 0)) ((8 * m + 1) ∷ (8 * m + 5) ∷ [])
            (holds_good m (Univ m) (omega arith) v) qv (λ t. refl),
        (
          node_good (is_nil (Univ m)) (holds k (Univ m)) (Step (Rewrite 0 Left)) ((8 * m + 2) ∷ [])
              (is_nil_good (Univ m) v) qv (λ t. refl),
          (
            node_good emp (holds k Nil) (Step (UnfoldRight 0 0)) ((8 * m + 3) ∷ []) emp_good
                (holds_good k Nil (omega arith) nil_good) (λ t. refl),
            (
              node_good emp (is_nil Nil) (Step (PureRight 0)) ((8 * m + 4) ∷ []) emp_good (is_nil_good Nil nil_good)
                  (λ t. refl),
              (
                node_good emp emp (Step Done) [] emp_good emp_good (λ t. refl),
                (
                  node_good (cell_then (Univ m) (Univ (m + 1)) (after k m)) (holds k (Univ m)) (Step (UnfoldRight 0 1))
                      ((8 * m + 6) ∷ []) cell qv (λ t. refl),
                  (
                    node_good (cell_then (Univ m) (Univ (m + 1)) (after k m)) (cell_then (Univ m) (Exist 0) k)
                        (Step (Instantiate 0 (Univ (m + 1)))) ((8 * m + 7) ∷ []) cell open' (λ t. u (t + 3)),
                    (
                      node_good (cell_then (Univ m) (Univ (m + 1)) (after k m)) (cell_then (Univ m) (Univ (m + 1)) k)
                          (Step (Frame 0 0)) ((8 * m + 8) ∷ []) cell shut (λ t. refl),
                      tt,
                    ),
                  ),
                ),
              ),
            ),
          ),
        ),
      )

  bud_good : IsGoodNode (ring_bud k)
  bud_good =
      let u = univ_good k (omega arith) in
      node_good (holds 0 (Univ k)) (holds k (Univ k))
      (Back (record { target = 0; subst = (0, Univ k) ∷ []; map = 0 ∷ []; disjuncts = 0 ∷ [] })) []
      (holds_good 0 (Univ k) (omega arith) u) (holds_good k (Univ k) (omega arith) u) (λ t. rw (u (t + 3 + 3)))

  pub no_flaw : file_flaw (tree_of One ds [] (map file_node (ring_nodes k))) ≡ None
  no_flaw =
      let file = tree_of One ds [] (map file_node (ring_nodes k)) in
      let nodes = from_members (λ i x. (t : ℕ) → node_flaw (limits One) hs 0 i t (node_tree ds (file_node x)) ≡ None) 0
      (ring_nodes k) (λ i v x e h t. (
      let within = slice_get_within (ring_nodes k) v x h in
      each_node IsGoodNode k block_good bud_good v x h i
      (omega (arith, within, e, blocks_long (ring_block k) (ring_bud k) (λ j. refl) 0 k)) t)) in
      let rest = none_listed_twice (node_flaw (limits One) hs 0) node_span (node_tree ds) file_node 0 (first_node file)
      (ring_nodes k) nodes in
      ap (λ (o : Found). or_later o (listed_flaw (node_flaw (limits One) hs 0) node_span 0
      (first_node file) file.nodes))
      (none_listed (definition_flaw (limits One) hs) definition_span (definition_tree ds) 0 4 ds
      (definitions_good 0 k (omega arith))) ∙ rest
