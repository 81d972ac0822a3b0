-- What is kept of statements tells their flaws, and is all of them where they have none.
use Rattle.std.proofs.Common.{◌≡◌, ℕ, ◌≤◌, List, [], ◌∷◌, Some, None, Ok, Err, refl, sym, ap, subst}
use Rattle.std.proofs.Common.{◌∙◌, arith, inl, inr, ◌⊎◌}
use Rattle.std.specs.Prelude.{map}
use Rattle.cyc_basics.specs.declared.limits.TheConstants.{MOST_DISJUNCTS, MOST_PURE}
use Rattle.cyc_lex.specs.Word.{Word}
use Rattle.cyc_grammar.specs.Syntax.{Reading, ◌>>=◌}
use Rattle.heap_syntax.specs.declared.version.Version.{Version}
use Rattle.heap_syntax.specs.Versions.{limits}
use Rattle.heap_syntax.proofs.Fronts.{mapped}
use Rattle.heap_reader.specs.Trees.{Heading, defined_headings}
use Rattle.heap_reader.specs.Flaws.{Found, or_later, listed_flaw}
use Rattle.heap_reader.proofs.Fitting.{most_fits}
use Rattle.heap_reader.proofs.NoFlaw.{neither}
use Rattle.heap_reader.proofs.DefinitionFlaws.{definitions_flaw, definitions_whole, same_headings}
use Rattle.proof_syntax.specs.Trees.{Definition, Line, End, Node}
use Rattle.proof_syntax.specs.Keeping.{definition_front, end_front, node_front}
use Rattle.proof_syntax.specs.Left.{Part, Preds, Lines as AtLines, Ends as AtEnds, Nodes, Statement, statement_of}
use Rattle.proof_syntax.specs.Left.{kept_statement, end_or_node_front, line_or_later_front, statement_front, joined}
use Rattle.proof_syntax.proofs.StatementFronts.{from-kept, kept-front}
use Rattle.proof_file.specs.Flaws.{heading, headings, term_flaw, definition_flaw, program_flaw, program_ends_flaw}
use Rattle.proof_file.specs.Flaws.{node_flaw, first_line, first_end, file_flaw}
use Rattle.heap_reader.specs.declared.definitions.scope.Scope.TheVariants.{End as InEnd}
use Rattle.heap_reader.specs.EndFlaws.{stops_at}
use Rattle.heap_reader.proofs.EndFronts.{ends_same, ends_whole}
use Rattle.proof_file.specs.Spans.{definition_span, term_span}
use Rattle.proof_file.specs.Values.{definition_value, node_value}
use Rattle.proof_file.proofs.NodeFlaws.{node_same, node_whole}
use Rattle.file_reader.specs.Steps.{tree_of}
use Rattle.file_reader.specs.declared.part.Behind.{Behind}
use Rattle.file_reader.specs.declared.part.Behind.TheVariants.{Definitions, Lines, Ends}
use Rattle.file_reader.specs.Fronts.{PartTree, IsPart, kept, kept_part}

-- ---- statements

apart : {A B : Type 0} (s : A ⊎ B) (x : A) (y : B) → s ≡ inl x → s ≡ inr y → ⊥
apart s x y e f = cc

abbrev left_in : {A B : Type 0} → A → A ⊎ B → A
left_in d (inl x) = x
left_in d (inr y) = d

abbrev right_in : {A B : Type 0} → B → A ⊎ B → B
right_in d (inl x) = d
right_in d (inr y) = y

module _ (ws rest : List Word) where
  abbrev KeptNode : Node → Type 0
  KeptNode tree = (x : Node) × ((statement_of Nodes).read ws ≡ Ok (inl x, rest)) × (tree ≡ node_front kept x)

  pub later-kept : (tree : Node) → (kept_statement kept Nodes).read ws ≡ Ok (inl tree, rest) → KeptNode tree
  later-kept tree e = let t = from-kept kept Nodes ws rest (inl tree) e in by t.0 t.1 t.2
    where
      by : (t : Node ⊎ Unit {0}) → (statement_of Nodes).read ws ≡ Ok (t, rest) → statement_front kept Nodes t ≡ inl tree
          → KeptNode tree
      by (inl x) read same = (x, read, sym (ap (left_in tree) same))
      by (inr u) read same = absurd (apart (statement_front kept Nodes (inr u)) tree u same refl)

  pub end-kept : (kept_statement kept Nodes).read ws ≡ Ok (inr tt, rest)
      → (statement_of Nodes).read ws ≡ Ok (inr tt, rest)
  end-kept e = let t = from-kept kept Nodes ws rest (inr tt) e in by t.0 t.1 t.2
    where
      by : (t : Node ⊎ Unit {0}) → (statement_of Nodes).read ws ≡ Ok (t, rest) → statement_front kept Nodes t ≡ inr tt
          → (statement_of Nodes).read ws ≡ Ok (inr tt, rest)
      by (inl x) read same = absurd (apart (statement_front kept Nodes (inl x)) (node_front kept x) tt refl same)
      by (inr u) read same = read

-- a fault of what is kept is the statement's
pub dead-kept : (p : Part) (ws : List Word) (left : ℕ) → (kept_statement kept p).read ws ≡ Err left
    → (statement_of p).read ws ≡ Err left
dead-kept p ws left e = by ((statement_of p).read ws) (sym ((kept-front kept p).reads ws) ∙ e)
  where
    by : (q : Reading (Statement p)) → (q >>= mapped (statement_front kept p)) ≡ Err left → q ≡ Err left
    by (Ok x) is = absurd cc
    by (Err n) is = cc

-- ---- before the nodes

module _ (b : Behind) (v : Version) (ws rest : List Word) where
  abbrev KeptPart : PartTree → Type 0
  KeptPart s = (t : PartTree) × IsPart b v ws rest t × (statement_front kept (Preds v) t ≡ s)

-- what is read with something made of it
joined-read : {A B : Type 0} (g : A → B) (q : Reading A) (rest : List Word) (s : B) → joined g q ≡ Ok (s, rest)
    → (t : A) × (q ≡ Ok (t, rest)) × (g t ≡ s)
joined-read g (Err n) rest s e = absurd cc
joined-read {B = B} g (Ok x) rest s e =
    let is : (g x.0, x.1) ≡ (s, rest) = cc in
    (x.0, (λ i. Ok (x.0, (is i).1)), ap (λ (y : B × List Word). y.0) is)

-- after lines no definition is read, and after ends no line
pub part-kept : (b : Behind) (v : Version) (ws rest : List Word) (s : PartTree)
    → kept_part b v ws ≡ Ok (s, rest) → KeptPart b v ws rest s
part-kept Definitions v ws rest s e = from-kept kept (Preds v) ws rest s e
part-kept Lines v ws rest s e =
    let x = joined-read {B = PartTree} (λ (y : Line ⊎ (End ⊎ Node)). inr y) ((kept_statement kept (AtLines v)).read ws)
    rest s e in
    let t = from-kept kept (AtLines v) ws rest x.0 x.1 in
    (inr t.0, t.1, ap (λ (y : Line ⊎ (End ⊎ Node)). inr y) t.2 ∙ x.2)
part-kept Ends v ws rest s e =
    let x = joined-read {B = PartTree} (λ (y : End ⊎ Node). inr (inr y)) ((kept_statement kept (AtEnds v)).read ws)
    rest s e in
    let t = from-kept kept (AtEnds v) ws rest x.0 x.1 in
    (inr (inr t.0), t.1, ap (λ (y : End ⊎ Node). inr (inr y)) t.2 ∙ x.2)

module _ (b : Behind) (v : Version) (ws rest : List Word) where
  abbrev KeptPred : Definition → Type 0
  KeptPred tree = (x : Definition) × IsPart b v ws rest (inl x) × (tree ≡ definition_front kept x)

  pub pred-kept : (tree : Definition) → kept_part b v ws ≡ Ok (inl tree, rest) → KeptPred tree
  pred-kept tree e = let t = part-kept b v ws rest (inl tree) e in by t.0 t.1 t.2
    where
      by : (t : PartTree) → IsPart b v ws rest t → statement_front kept (Preds v) t ≡ inl tree → KeptPred tree
      by (inl x) read same = (x, read, sym (ap (left_in tree) same))
      by (inr s) read same = absurd (apart (statement_front kept (Preds v) (inr s)) tree (line_or_later_front kept s)
          same refl)

  later-part : (s : Line ⊎ (End ⊎ Node)) → kept_part b v ws ≡ Ok (inr s, rest)
      → (t : Line ⊎ (End ⊎ Node)) × IsPart b v ws rest (inr t) × (line_or_later_front kept t ≡ s)
  later-part s e = let t = part-kept b v ws rest (inr s) e in by t.0 t.1 t.2
    where
      by : (t : PartTree) → IsPart b v ws rest t → statement_front kept (Preds v) t ≡ inr s
          → (t : Line ⊎ (End ⊎ Node)) × IsPart b v ws rest (inr t) × (line_or_later_front kept t ≡ s)
      by (inl x) read same = absurd (apart (statement_front kept (Preds v) (inl x)) (definition_front kept x)
          s refl same)
      by (inr t) read same = (t, read, ap (right_in s) same)

  pub line-kept : (l : Line) → kept_part b v ws ≡ Ok (inr (inl l), rest) → IsPart b v ws rest (inr (inl l))
  line-kept l e = let t = later-part (inl l) e in by t.0 t.1 t.2
    where
      by : (t : Line ⊎ (End ⊎ Node)) → IsPart b v ws rest (inr t) → line_or_later_front kept t ≡ inl l
          → IsPart b v ws rest (inr (inl l))
      by (inl x) read same = subst (λ (x : Line). IsPart b v ws rest (inr (inl x))) (ap (left_in l) same) read
      by (inr x) read same = absurd (apart (line_or_later_front kept (inr x)) l (end_or_node_front kept x) same refl)

  last-part : (s : End ⊎ Node) → kept_part b v ws ≡ Ok (inr (inr s), rest)
      → (t : End ⊎ Node) × IsPart b v ws rest (inr (inr t)) × (end_or_node_front kept t ≡ s)
  last-part s e = let t = later-part (inr s) e in by t.0 t.1 t.2
    where
      by : (t : Line ⊎ (End ⊎ Node)) → IsPart b v ws rest (inr t) → line_or_later_front kept t ≡ inr s
          → (t : End ⊎ Node) × IsPart b v ws rest (inr (inr t)) × (end_or_node_front kept t ≡ s)
      by (inl x) read same = absurd (apart (line_or_later_front kept (inl x)) x s refl same)
      by (inr t) read same = (t, read, ap (right_in s) same)

  pub end-part-kept : (tree : End) → kept_part b v ws ≡ Ok (inr (inr (inl tree)), rest)
      → (x : End) × IsPart b v ws rest (inr (inr (inl x))) × (tree ≡ end_front kept x)
  end-part-kept tree e = let t = last-part (inl tree) e in by t.0 t.1 t.2
    where
      by : (t : End ⊎ Node) → IsPart b v ws rest (inr (inr t)) → end_or_node_front kept t ≡ inl tree
          → (x : End) × IsPart b v ws rest (inr (inr (inl x))) × (tree ≡ end_front kept x)
      by (inl x) read same = (x, read, sym (ap (left_in tree) same))
      by (inr x) read same = absurd (apart (end_or_node_front kept (inr x)) tree (node_front kept x) same refl)

  pub node-kept : (tree : Node) → kept_part b v ws ≡ Ok (inr (inr (inr tree)), rest)
      → (x : Node) × IsPart b v ws rest (inr (inr (inr x))) × (tree ≡ node_front kept x)
  node-kept tree e = let t = last-part (inr tree) e in by t.0 t.1 t.2
    where
      by : (t : End ⊎ Node) → IsPart b v ws rest (inr (inr t)) → end_or_node_front kept t ≡ inr tree
          → (x : Node) × IsPart b v ws rest (inr (inr (inr x))) × (tree ≡ node_front kept x)
      by (inl x) read same = absurd (apart (end_or_node_front kept (inl x)) (end_front kept x) tree refl same)
      by (inr x) read same = (x, read, sym (ap (right_in tree) same))

-- ---- flaws

few-within : MOST_DISJUNCTS ≤ MOST_PURE
few-within = omega arith

module _ (v : Version) where
  pures-within : (limits v).pure ≤ MOST_PURE
  pures-within = (most_fits v).pure

  spatials-within : (limits v).spatial ≤ MOST_PURE
  spatials-within = let few = (most_fits v).spatial in omega (arith, few)

  cases-within : (limits v).cases ≤ MOST_PURE
  cases-within = let few = (most_fits v).cases in omega (arith, few)

module _ (v : Version) (hs : List Heading) where
  abbrev flaw_of : ℕ → ℕ → ℕ → Node → Found
  flaw_of = node_flaw (limits v) hs

  module _ (count n k : ℕ) (tree x : Node) (is : tree ≡ node_front kept x) where
    pub same-flaw : flaw_of count n k tree ≡ flaw_of count n k x
    same-flaw = ap (flaw_of count n k) is ∙ node_same (limits v)
        MOST_PURE (pures-within v) (spatials-within v) few-within hs count n k x

    pub same-node : flaw_of count n k tree ≡ None → tree ≡ x
    same-node none = is ∙ node_whole (limits v) MOST_PURE (pures-within v) (spatials-within v) few-within hs count n k x
        (sym same-flaw ∙ none)

    -- behind what was found before
    pub same-found : (old found : Found) → found ≡ or_later old (flaw_of count n k tree)
        → found ≡ or_later old (flaw_of count n k x)
    same-found old found e = e ∙ ap (or_later old) same-flaw

    pub same-value : (old found : Found) → found ≡ or_later old (flaw_of count n k tree) → found ≡ None
        → node_value hs tree ≡ node_value hs x
    same-value old found e none = ap (node_value hs) (same-node (neither old (flaw_of count n k tree) (sym e ∙ none)).1)

-- ---- flaws of what stands before the nodes

pub values-headings : (hs : List Heading) (ds : List Definition)
    → defined_headings (map (definition_value hs) ds) ≡ headings ds
values-headings hs [] = refl
values-headings hs (d ∷ ds) = ap (λ (xs : List Heading). heading d ∷ xs) (values-headings hs ds)

pub kept-headings : (ds : List Definition) → headings (map (definition_front kept) ds) ≡ headings ds
kept-headings ds = same_headings MOST_PURE ds

module _ (v : Version) (ds : List Definition) (ls : List Line) (es : List End) where
  abbrev trees : List Definition
  trees = map (definition_front kept) ds

  abbrev left : List End
  left = map (end_front kept) es

  abbrev defs_found : List Definition → Found
  defs_found xs = listed_flaw (definition_flaw (limits v) (headings ds)) definition_span 0 4 xs

  -- of ends behind these definitions, whose uses are compared with the whole ones
  abbrev ends_found : List Definition → List End → Found
  ends_found xs ys = program_ends_flaw (limits v) (headings ds) ls (first_end (tree_of v xs ls [] [])) ys

  abbrev rest_found : List Definition → List End → Found
  rest_found xs ys = or_later (program_flaw (limits v) (first_line (tree_of v xs ls [] [])) ls)
      (or_later (ends_found xs ys) None)

  defs-same : defs_found trees ≡ defs_found ds
  defs-same = definitions_flaw (limits v) MOST_PURE (pures-within v) (spatials-within v) (cases-within v)
      (headings ds) 0 4 ds

  defs-whole : defs_found ds ≡ None → trees ≡ ds
  defs-whole none = definitions_whole (limits v) MOST_PURE (pures-within v) (spatials-within v) (cases-within v)
      (headings ds) 0 4 ds none

  ends-same : (xs : List Definition) → ends_found xs left ≡ ends_found xs es
  ends-same xs = ends_same (term_flaw InEnd) term_span (limits v) (headings ds) (stops_at ls) MOST_PURE
      (pures-within v) (spatials-within v) few-within 0 (first_end (tree_of v xs ls [] [])) es

  ends-whole : ends_found ds es ≡ None → left ≡ es
  ends-whole none = ends_whole (term_flaw InEnd) term_span (limits v) (headings ds) (stops_at ls) MOST_PURE
      (pures-within v) (spatials-within v) few-within 0 (first_end (tree_of v ds ls [] [])) es none

  both-found : (o : Found) → defs_found ds ≡ o → or_later (defs_found trees) (rest_found trees left)
      ≡ or_later (defs_found ds) (rest_found ds es)
  both-found None e =
      (λ i. or_later (defs-same i) (rest_found (defs-whole e i) left))
      ∙ ap (λ (o : Found). or_later (defs_found ds)
      (or_later (program_flaw (limits v) (first_line (tree_of v ds ls [] [])) ls) (or_later o None))) (ends-same ds)
  both-found (Some flaw) e = ap (λ o. or_later o (rest_found trees left)) (defs-same ∙ e)
      ∙ sym (ap (λ o. or_later o (rest_found ds es)) e)

  -- with the headings of what is kept
  abbrev told_found : List Heading → Found
  told_found hs = or_later (listed_flaw (definition_flaw (limits v) hs) definition_span 0 4 trees)
      (or_later (program_flaw (limits v) (first_line (tree_of v trees ls [] [])) ls)
      (or_later (program_ends_flaw (limits v) hs ls (first_end (tree_of v trees ls [] [])) left) None))

  -- the first flaw before the nodes shows in what is kept
  pub kept-flaw : file_flaw (tree_of v trees ls left []) ≡ file_flaw (tree_of v ds ls es [])
  kept-flaw = ap told_found (kept-headings ds) ∙ both-found (defs_found ds) refl

  pub whole-front : file_flaw (tree_of v ds ls es []) ≡ None → (trees ≡ ds) × (left ≡ es)
  whole-front none =
      let defs = neither (defs_found ds) (rest_found ds es) none in
      let lines = neither (program_flaw (limits v) (first_line (tree_of v ds ls [] [])) ls)
      (or_later (ends_found ds es) None) defs.1 in
      (defs-whole defs.0, ends-whole (neither (ends_found ds es) None lines.1).0)
