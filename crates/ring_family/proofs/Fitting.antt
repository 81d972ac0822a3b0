-- The ring's file has a text.
use Rattle.std.proofs.Common.{◌≡◌, ℕ, zero, suc, ◌+◌, ◌*◌, ◌^◌, ◌<◌, ◌≤◌, List, [], ◌∷◌, arith, Bool, true, false, Some}
use Rattle.std.proofs.Common.{length, map, refl}
use Rattle.std.specs.Prelude.{slice_get}
use Rattle.std.specs.Fmt.{decimal}
use Rattle.std.proofs.lemmas.List.{length-map}
use Rattle.heap_formula.specs.declared.terms.Term.{Term}
use Rattle.heap_formula.specs.declared.terms.Term.TheVariants.{Nil, Univ, Exist}
use Rattle.heap_formula.specs.declared.judgements.Judgement.TheVariants.{Entail}
use Rattle.heap_formula.specs.declared.proof_rules.Reason.{Reason}
use Rattle.heap_formula.specs.declared.proof_rules.Reason.TheVariants.{Step, Back}
use Rattle.heap_formula.specs.declared.proof_rules.Rule.TheVariants.{Rewrite, Unfold, Done, PureRight, Instantiate}
use Rattle.heap_formula.specs.declared.proof_rules.Rule.TheVariants.{Frame, UnfoldRight}
use Rattle.heap_formula.specs.declared.proof_rules.Side.TheVariants.{Left}
use Rattle.heap_formula.specs.Definitions.{Definition}
use Rattle.heap_formula.specs.Symbolic.{SymbolicHeap}
use Rattle.rule_book.specs.Graphs.{Node}
use Rattle.cyc_grammar.specs.Syntax.{fits_many}
use Rattle.cyc_grammar.specs.Classes.{is_free_name}
use Rattle.heap_syntax.specs.Words.{reserved}
use Rattle.heap_syntax.specs.Grammar as shared
use Rattle.heap_syntax.specs.LineGrammar as commands
use Rattle.heap_syntax.specs.EndGrammar as end_grammar
use Rattle.proof_syntax.specs.Trees.{Node as NodeTree}
use Rattle.proof_syntax.specs.Grammar as grammar
use Rattle.heap_syntax.specs.declared.version.Version.TheVariants.{One}
use Rattle.heap_reader.specs.Written.{TermFits}
use Rattle.proof_file.specs.Written.{heap_tree, definition_tree, reason_tree, node_tree, tree_of}
use Rattle.ring_family.specs.Ring.{emp, is_nil, holds, cell_then, after, list_of, definitions_from, ring_definitions}
use Rattle.ring_family.specs.Ring.{ring_block, ring_bud, ring_nodes, file_node}
use Rattle.ring_family.proofs.Blocks.{EachFrom, blocks_long}
use Rattle.ring_family.proofs.Names.{p_free, q_free}
use Rattle.ring_family.proofs.Members.{each_node, free, after_within}

nil_fits : (universal : Bool) → TermFits universal Nil
unfolding grammar.terms grammar.uterm grammar.term
nil_fits true = (tt, tt)
nil_fits false = (tt, tt)

univ_fits : (universal : Bool) (n : ℕ) → n ≤ 2001 → TermFits universal (Univ n)
unfolding grammar.terms grammar.uterm grammar.term
univ_fits true n b = (tt, omega arith)
univ_fits false n b = (tt, omega arith)

open_fits : TermFits false (Exist 0)
unfolding grammar.terms grammar.term
open_fits = (tt, omega arith)

module _ (k : ℕ) (one : 1 ≤ k) (few : k ≤ 2000) where
  abbrev ds : List Definition
  ds = ring_definitions k

  abbrev HeapFits : Bool → SymbolicHeap → Type 0
  HeapFits universal h = (grammar.heap (grammar.terms universal)).fits (heap_tree ds h)

  emp_fits : (universal : Bool) → HeapFits universal emp
  unfolding shared.heap shared.pures shared.spatials
  emp_fits universal = (tt, ((tt, tt), (tt, tt)))

  is_nil_fits : (universal : Bool) (t : Term) → TermFits universal t → HeapFits universal (is_nil t)
  unfolding shared.heap shared.pures shared.pures1 shared.listed shared.pure shared.sign shared.spatials
  is_nil_fits universal t f = (tt, ((tt, (omega arith, ((tt, (f, ((tt, tt), nil_fits universal))), tt))), (tt, tt)))

  holds_fits : (universal : Bool) (p : ℕ) (t : Term) → p ≤ k → TermFits universal t → HeapFits universal (holds p t)
  unfolding shared.heap shared.pures shared.spatials shared.spatials1 shared.spatial shared.predicate shared.arguments
      shared.fields shared.listed
  holds_fits universal p t b f = (
    tt,
    (
      (tt, tt),
      (
        tt,
        (
          omega arith,
          ((tt, (free k one few p b, (tt, (omega arith, (f, tt))))), tt),
        ),
      ),
    ),
  )

  cell_fits : (universal : Bool) (t u : Term) (p : ℕ) → p ≤ k → TermFits universal t → TermFits universal u
      → HeapFits universal (cell_then t u p)
  unfolding shared.heap shared.pures shared.spatials shared.spatials1 shared.spatial shared.predicate shared.cell
      shared.arguments shared.fields shared.listed
  cell_fits universal t u p b f g = (
    tt,
    (
      (tt, tt),
      (
        tt,
        (
          omega arith,
          (
            (tt, (f, (omega arith, (g, tt)))),
            ((tt, (free k one few p b, (tt, (omega arith, (g, tt))))), tt),
          ),
        ),
      ),
    ),
  )

  -- ---- definitions

  definition_fits : (name : List ℕ) (p : ℕ) → is_free_name reserved name ≡ true → p ≤ k
      → grammar.definition.fits (definition_tree ds (list_of name p))
  unfolding grammar.definition grammar.cases shared.listed
  definition_fits name p named b = (
    tt,
    (
      named,
      (
        omega arith,
        (
          omega arith,
          (
            is_nil_fits false (Univ 0) (univ_fits false 0 (omega arith)),
            (cell_fits false (Univ 0) (Exist 0) p b (univ_fits false 0 (omega arith)) open_fits, tt),
          ),
        ),
      ),
    ),
  )

  definitions_fit : (i n : ℕ) → i + n ≡ k → fits_many grammar.definition
      (map (definition_tree ds) (definitions_from k i n))
  definitions_fit i zero e = (definition_fits (113 ∷ []) k q_free (omega arith), tt)
  definitions_fit i (suc n) e = (
    definition_fits (112 ∷ decimal i) (after k i) (p_free i (omega arith))
        (after_within k one few i (omega arith)),
    definitions_fit (suc i) n (omega arith),
  )

  -- ---- nodes

  abbrev NodeFits : Node → Type 0
  NodeFits x = grammar.node.fits (node_tree ds (file_node x))

  abbrev ReasonFits : Reason → Type 0
  ReasonFits r = grammar.reason.fits (reason_tree ds r)

  none_fit : grammar.premises.fits []
  unfolding grammar.premises
  none_fit = (tt, tt)

  one_fits : (u : ℕ) → u < 10 ^ 9 → grammar.premises.fits (u ∷ [])
  unfolding grammar.premises grammar.numbers
  one_fits u b = (tt, (b, tt))

  two_fit : (u w : ℕ) → u < 10 ^ 9 → w < 10 ^ 9 → grammar.premises.fits (u ∷ w ∷ [])
  unfolding grammar.premises grammar.numbers
  two_fit u w b c = (tt, (b, (c, tt)))

  node_fits : (a b : SymbolicHeap) (reason : Reason) (us : List ℕ) → HeapFits true a → HeapFits false b
      → ReasonFits reason → grammar.premises.fits us → NodeFits
      (record { judgement = Entail a (b ∷ []); reason = reason; premises = us })
  unfolding grammar.node grammar.judgement grammar.entailment grammar.disjuncts shared.listed
  node_fits a b reason us f g r p = (tt, ((tt, (tt, (f, (omega arith, (g, tt))))), (r, p)))

  number_fits : 0 < 10 ^ 9
  number_fits = omega arith

  unfold_fits : ReasonFits (Step (Unfold 0))
  unfolding grammar.reason grammar.parts
  unfold_fits = (tt, (tt, number_fits))

  rewrite_fits : ReasonFits (Step (Rewrite 0 Left))
  unfolding grammar.reason grammar.parts grammar.rewrite grammar.side
  rewrite_fits = (tt, (tt, (number_fits, tt)))

  unfold_right_fits : (c : ℕ) → c ≤ 1 → ReasonFits (Step (UnfoldRight 0 c))
  unfolding grammar.reason grammar.parts grammar.two_numbers
  unfold_right_fits c b = (tt, (tt, (number_fits, omega arith)))

  pure_right_fits : ReasonFits (Step (PureRight 0))
  unfolding grammar.reason grammar.parts
  pure_right_fits = (tt, (tt, number_fits))

  done_fits : ReasonFits (Step Done)
  unfolding grammar.reason grammar.parts
  done_fits = (tt, (tt, tt))

  instantiate_fits : (t : Term) → TermFits true t → ReasonFits (Step (Instantiate 0 t))
  unfolding grammar.reason grammar.parts grammar.instantiate grammar.terms
  instantiate_fits t f = (tt, (tt, (number_fits, f)))

  frame_fits : ReasonFits (Step (Frame 0 0))
  unfolding grammar.reason grammar.parts grammar.two_numbers
  frame_fits = (tt, (tt, (number_fits, number_fits)))

  link_fits : (t : Term) → TermFits true t → ReasonFits (Back
      (record { target = 0; subst = (0, t) ∷ []; map = 0 ∷ []; disjuncts = 0 ∷ [] }))
  unfolding grammar.reason grammar.parts grammar.link grammar.pairs grammar.pairs1 grammar.pair grammar.bracketed
      grammar.numbers grammar.terms
  link_fits t f = (
    tt,
    (
      tt,
      (
        tt,
        (
          number_fits,
          (
            (tt, (omega arith, ((tt, (number_fits, f)), tt))),
            ((number_fits, tt), (number_fits, tt)),
          ),
        ),
      ),
    ),
  )

  block_fits : (m : ℕ) → m < k → EachFrom (λ _ x. NodeFits x) 0 (ring_block k m)
  block_fits m b =
      let v = (λ (universal : Bool). univ_fits universal m (omega arith)) in
      let u = (λ (universal : Bool). univ_fits universal (m + 1) (omega arith)) in
      let qv = holds_fits false k (Univ m) (omega arith) (v false) in
      let cell = cell_fits true (Univ m) (Univ (m + 1)) (after k m) (after_within k one few m b) (v true) (u true) in
      let open' = cell_fits false (Univ m) (Exist 0) k (omega arith) (v false) open_fits in
      let shut = cell_fits false (Univ m) (Univ (m + 1)) k (omega arith) (v false) (u false) in (
        node_fits (holds m (Univ m)) (holds k (Univ m)) (Step (Unfold 0)) ((8 * m + 1) ∷ (8 * m + 5) ∷ [])
            (holds_fits true m (Univ m) (omega arith) (v true)) qv unfold_fits
            (two_fit (8 * m + 1) (8 * m + 5) (omega arith) (omega arith)),
        (
          node_fits (is_nil (Univ m)) (holds k (Univ m)) (Step (Rewrite 0 Left)) ((8 * m + 2) ∷ [])
              (is_nil_fits true (Univ m) (v true)) qv rewrite_fits (one_fits (8 * m + 2) (omega arith)),
          (
            node_fits emp (holds k Nil) (Step (UnfoldRight 0 0)) ((8 * m + 3) ∷ []) (emp_fits true)
                (holds_fits false k Nil (omega arith) (nil_fits false)) (unfold_right_fits 0 (omega arith))
                (one_fits (8 * m + 3) (omega arith)),
            (
              node_fits emp (is_nil Nil) (Step (PureRight 0)) ((8 * m + 4) ∷ []) (emp_fits true)
                  (is_nil_fits false Nil (nil_fits false)) pure_right_fits (one_fits (8 * m + 4) (omega arith)),
              (
                node_fits emp emp (Step Done) [] (emp_fits true) (emp_fits false) done_fits none_fit,
                (
                  node_fits (cell_then (Univ m) (Univ (m + 1)) (after k m)) (holds k (Univ m)) (Step (UnfoldRight 0 1))
                      ((8 * m + 6) ∷ []) cell qv (unfold_right_fits 1 (omega arith))
                      (one_fits (8 * m + 6) (omega arith)),
                  (
                    node_fits (cell_then (Univ m) (Univ (m + 1)) (after k m)) (cell_then (Univ m) (Exist 0) k)
                        (Step (Instantiate 0 (Univ (m + 1)))) ((8 * m + 7) ∷ []) cell open'
                        (instantiate_fits (Univ (m + 1)) (u true)) (one_fits (8 * m + 7) (omega arith)),
                    (
                      node_fits (cell_then (Univ m) (Univ (m + 1)) (after k m)) (cell_then (Univ m) (Univ (m + 1)) k)
                          (Step (Frame 0 0)) ((8 * m + 8) ∷ []) cell shut frame_fits
                          (one_fits (8 * m + 8) (omega arith)),
                      tt,
                    ),
                  ),
                ),
              ),
            ),
          ),
        ),
      )

  bud_fits : NodeFits (ring_bud k)
  bud_fits =
      let v = (λ (universal : Bool). univ_fits universal k (omega arith)) in
      node_fits (holds 0 (Univ k)) (holds k (Univ k))
      (Back (record { target = 0; subst = (0, Univ k) ∷ []; map = 0 ∷ []; disjuncts = 0 ∷ [] })) []
      (holds_fits true 0 (Univ k) (omega arith) (v true)) (holds_fits false k (Univ k) (omega arith) (v false))
      (link_fits (Univ k) (v true)) none_fit

  many_fit : (xs : List Node) → ((v : ℕ) (x : Node) → slice_get xs v ≡ Some x → NodeFits x)
      → fits_many grammar.node (map (node_tree ds) (map file_node xs))
  many_fit [] h = tt
  many_fit (x ∷ xs) h = (h 0 x refl, many_fit xs (λ v y is. h (suc v) y is))

  some_fit : (ys : List NodeTree) → 0 < length ys → fits_many grammar.node ys → grammar.nodes.fits ys
  unfolding grammar.nodes grammar.more_nodes
  some_fit [] some h = absurd (omega (arith, some))
  some_fit (y ∷ ys) some h = (some, (h.0, h.1))

  pub file_fits : grammar.file.fits (tree_of One ds [] (map file_node (ring_nodes k)))
  unfolding grammar.file grammar.body grammar.definitions commands.lines end_grammar.ends
  file_fits =
      let long = blocks_long (ring_block k) (ring_bud k) (λ j. refl) 0 k in
      let nodes = many_fit (ring_nodes k) (each_node NodeFits k block_fits bud_fits) in (
        tt,
        (
          tt,
          (
            definitions_fit 0 k (omega arith),
            (
              tt,
              (
                (tt, tt),
                some_fit (map (node_tree ds) (map file_node (ring_nodes k)))
                    (omega (
                      arith,
                      long,
                      length-map (ring_nodes k) file_node,
                      length-map (map file_node (ring_nodes k)) (node_tree ds),
                    )) nodes,
              ),
            ),
          ),
        ),
      )
