-- The text of the ring's file is short: each definition and each node has few words, and none is long.
use Rattle.std.proofs.Common.{◌≡◌, ℕ, zero, suc, ◌+◌, ◌*◌, ◌^◌, ◌<◌, ◌≤◌, inl, inr, List, [], ◌∷◌, ◌++◌, arith, Some}
use Rattle.std.proofs.Common.{length, map, refl, ap}
use Rattle.std.specs.Prelude.{slice_get}
use Rattle.std.specs.Fmt.{decimal}
use Rattle.std.proofs.lemmas.Bool.{cases_eq}
use Rattle.std.proofs.lemmas.Fmt.{length-decimal-le}
use Rattle.std.proofs.lemmas.List.{length-map}
use Rattle.std.proofs.lemmas.List.Sums.{sum_by-append}
use Rattle.heap_formula.specs.Definitions.{Definition}
use Rattle.rule_book.specs.Graphs.{Node}
use Rattle.cyc_lex.specs.Word.{Word}
use Rattle.ring_family.proofs.TextSizes.{spaced_word, spaced_words, text_short}
use Rattle.cyc_grammar.specs.Syntax.{words_many}
use Rattle.heap_syntax.specs.Grammar as shared
use Rattle.heap_syntax.specs.LineGrammar as commands
use Rattle.heap_syntax.specs.EndGrammar as end_grammar
use Rattle.proof_syntax.specs.Trees.{Definition as DefinitionTree, Node as NodeTree}
use Rattle.proof_syntax.specs.Grammar as grammar
use Rattle.heap_syntax.specs.declared.version.Version.TheVariants.{One}
use Rattle.proof_file.specs.Written.{name_of, definition_tree, node_tree, tree_of, text_of_file}
use Rattle.ring_family.specs.Ring.{after, list_of, definitions_from, ring_definitions, ring_block, ring_bud, ring_nodes}
use Rattle.ring_family.specs.Ring.{file_node, file_nodes}
use Rattle.ring_family.proofs.Blocks.{EachFrom, blocks_long}
use Rattle.ring_family.proofs.Members.{each_node, after_within, name_from, last_name}

-- ---- numbers and names

number_short : (n : ℕ) → n < 10 ^ 5 → length (decimal n) ≤ 5
number_short n b = length-decimal-le 5 n (omega arith) b (omega arith)

-- the words of two parts
joined : (ws vs : List Word) → spaced_words (ws ++ vs) ≡ spaced_words ws + spaced_words vs
joined ws vs = sum_by-append spaced_word ws vs

module _ (k : ℕ) (one : 1 ≤ k) (few : k ≤ 2000) where
  abbrev ds : List Definition
  ds = ring_definitions k

  name_short : (p : ℕ) → p ≤ k → length (name_of ds p) ≤ 6
  name_short p b =
      elim (cases_eq p k) [
        | inl same ↦ (let e = ap (λ (s : List ℕ). length s) (last_name k 0 k p same) in omega (arith, e))
        | inr other ↦ (let e = ap (λ (s : List ℕ). length s) (name_from k 0 k p p (omega arith) (omega arith)) in
            omega (arith, e, number_short p (omega arith)))
      ]

  -- ---- definitions

  definition_short : (name : List ℕ) (p : ℕ) → length name ≤ 6 → p ≤ k
      → spaced_words (grammar.definition.words (definition_tree ds (list_of name p))) ≤ 200
  unfolding grammar.definition grammar.cases grammar.terms grammar.term shared.listed shared.heap shared.pures
      shared.pures1 shared.pure shared.sign shared.spatials shared.spatials1 shared.spatial shared.predicate shared.cell
      shared.arguments shared.fields
  definition_short name p few_bytes b = omega (
    arith,
    number_short 0 (omega arith),
    number_short 1 (omega arith),
    name_short p b,
    few_bytes,
  )

  definitions_short : (i n : ℕ) → i + n ≡ k → spaced_words (words_many grammar.definition
      (map (definition_tree ds) (definitions_from k i n))) ≤ 200 * n + 200
  definitions_short i zero e =
      let d = list_of (113 ∷ []) k in
      omega (
        arith,
        joined (grammar.definition.words (definition_tree ds d)) [],
        definition_short (113 ∷ []) k (omega arith) (omega arith),
      )
  definitions_short i (suc n) e =
      let d = list_of (112 ∷ decimal i) (after k i) in
      let digits = number_short i (omega arith) in
      omega (
        arith,
        joined (grammar.definition.words (definition_tree ds d))
            (words_many grammar.definition (map (definition_tree ds) (definitions_from k (suc i) n))),
        definition_short (112 ∷ decimal i) (after k i) (omega (arith, digits)) (after_within k one few i (omega arith)),
        definitions_short (suc i) n (omega arith),
      )

  -- ---- nodes

  abbrev IsShortNode : Node → Type 0
  IsShortNode x = spaced_words (grammar.node.words (node_tree ds (file_node x))) ≤ 200

  block_short : (m : ℕ) → m < k → EachFrom (λ _ x. IsShortNode x) 0 (ring_block k m)
  unfolding grammar.node grammar.judgement grammar.entailment grammar.disjuncts grammar.reason grammar.parts
      grammar.rewrite grammar.side grammar.two_numbers grammar.instantiate grammar.premises grammar.numbers
      grammar.terms grammar.term grammar.uterm shared.listed shared.heap shared.pures shared.pures1 shared.pure
      shared.sign shared.spatials shared.spatials1 shared.spatial shared.predicate shared.cell shared.arguments
      shared.fields
  block_short m b =
      let z = number_short 0 (omega arith) in
      let o = number_short 1 (omega arith) in
      let v = number_short m (omega arith) in
      let u = number_short (m + 1) (omega arith) in
      let p = name_short m (omega arith) in
      let q = name_short k (omega arith) in
      let next = name_short (after k m) (after_within k one few m b) in (
        omega (arith, z, v, p, q, number_short (8 * m + 1) (omega arith), number_short (8 * m + 5) (omega arith)),
        (
          omega (arith, z, v, q, number_short (8 * m + 2) (omega arith)),
          (
            omega (arith, z, q, number_short (8 * m + 3) (omega arith)),
            (
              omega (arith, z, number_short (8 * m + 4) (omega arith)),
              (
                omega arith,
                (
                  omega (arith, z, o, v, u, q, next, number_short (8 * m + 6) (omega arith)),
                  (
                    omega (arith, z, v, u, q, next, number_short (8 * m + 7) (omega arith)),
                    (
                      omega (arith, z, v, u, q, next, number_short (8 * m + 8) (omega arith)),
                      tt,
                    ),
                  ),
                ),
              ),
            ),
          ),
        ),
      )

  bud_short : IsShortNode (ring_bud k)
  unfolding grammar.node grammar.judgement grammar.entailment grammar.disjuncts grammar.reason grammar.parts
      grammar.link grammar.pairs grammar.pairs1 grammar.pair grammar.bracketed grammar.premises grammar.numbers
      grammar.terms grammar.term grammar.uterm shared.listed shared.heap shared.pures shared.spatials shared.spatials1
      shared.spatial shared.predicate shared.arguments shared.fields
  bud_short = omega (
    arith,
    number_short 0 (omega arith),
    number_short k (omega arith),
    name_short 0 (omega arith),
    name_short k (omega arith),
  )

  many_short : (xs : List Node) → ((v : ℕ) (x : Node) → slice_get xs v ≡ Some x → IsShortNode x)
      → spaced_words (words_many grammar.node (map (node_tree ds) (map file_node xs))) ≤ 200 * length xs
  many_short [] h = omega arith
  many_short (x ∷ xs) h =
      omega (
        arith,
        joined (grammar.node.words (node_tree ds (file_node x)))
            (words_many grammar.node (map (node_tree ds) (map file_node xs))),
        h 0 x refl,
        many_short xs (λ v y is. h (suc v) y is),
      )

  -- ---- the file

  some_short : (ys : List NodeTree) → 0 < length ys
      → spaced_words (grammar.nodes.words ys) ≡ spaced_words (words_many grammar.node ys) + 4
  unfolding grammar.nodes grammar.more_nodes
  some_short [] some = absurd (omega (arith, some))
  some_short (y ∷ ys) some =
      omega (
        arith,
        joined (grammar.node.words y) (words_many grammar.node ys ++ grammar.last_word.word tt ∷ []),
        joined (words_many grammar.node ys) (grammar.last_word.word tt ∷ []),
        joined (grammar.node.words y) (words_many grammar.node ys),
      )

  body_short : (defs : List DefinitionTree) (ns : List NodeTree) → 0 < length ns
      → spaced_words (grammar.body.words (record { version = One; definitions = defs; lines = []; ends = []; nodes = ns }))
      ≡ spaced_words (words_many grammar.definition defs) + spaced_words (words_many grammar.node ns) + 24
  unfolding grammar.body grammar.definitions commands.lines end_grammar.ends
  body_short defs ns some =
      let front = grammar.cyclist_word.word tt ∷ grammar.proof_word.word tt ∷ grammar.version.word One
      ∷ grammar.semicolon.word tt ∷ [] in
      let end = grammar.semicolon.word tt ∷ [] in
      omega (
        arith,
        joined front (words_many grammar.definition defs ++ (grammar.nodes.words ns ++ end)),
        joined (words_many grammar.definition defs) (grammar.nodes.words ns ++ end),
        joined (grammar.nodes.words ns) end,
        some_short ns some,
      )

  pub ring_text_short : length (text_of_file One ds [] (file_nodes (ring_nodes k))) < 16777216
  ring_text_short =
      let defs = map (definition_tree ds) ds in
      let ns = map (node_tree ds) (file_nodes (ring_nodes k)) in
      let long = blocks_long (ring_block k) (ring_bud k) (λ j. refl) 0 k in
      let some : 0 < length ns = omega (
        arith,
        long,
        length-map (ring_nodes k) file_node,
        length-map (file_nodes (ring_nodes k)) (node_tree ds),
      ) in
      omega (
        arith,
        text_short (grammar.body.words (tree_of One ds [] (file_nodes (ring_nodes k)))),
        body_short defs ns some,
        definitions_short 0 k (omega arith),
        many_short (ring_nodes k) (each_node IsShortNode k block_short bud_short),
        long,
      )
