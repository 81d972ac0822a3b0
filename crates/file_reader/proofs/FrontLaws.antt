-- What stands before the nodes of a file, statement by statement.
use Rattle.std.proofs.Common.{◌≡◌, ℕ, ◌+◌, ◌-◌, ◌≤◌, ◌<◌, List, [], ◌∷◌, ◌++◌, length, None, Ok, Err}
use Rattle.std.proofs.Common.{refl, sym, ap, subst, ◌∙◌, arith, append_assoc, inl, inr, ◌⊎◌}
use Rattle.std.proofs.lemmas.List.{append-nil, length-map, map_push}
use Rattle.cyc_basics.specs.declared.limits.TheConstants.{MOST_PURE}
use Rattle.cyc_lex.specs.Word.{Word}
use Rattle.cyc_grammar.specs.Syntax.{Reading}
use Rattle.cyc_grammar.specs.Giving.{Fails}
use Rattle.cyc_grammar.specs.declared.cursor.Refusal.{Refusal}
use Rattle.cyc_grammar.specs.declared.cursor.Refusal.TheVariants as refusals
use Rattle.heap_syntax.specs.declared.version.Version.{Version}
use Rattle.heap_syntax.specs.Versions.{limits}
use Rattle.heap_reader.specs.Trees.{Heading}
use Rattle.heap_reader.specs.Flaws.{or_later, listed_flaw}
use Rattle.heap_reader.specs.Spans.{total}
use Rattle.heap_reader.specs.LineSpans.{line_span}
use Rattle.heap_reader.specs.EndSpans.{end_span}
use Rattle.heap_reader.proofs.EndFronts.{ends-span}
use Rattle.heap_reader.proofs.Fitting.{most_fits}
use Rattle.heap_reader.proofs.NoFlaw.{neither}
use Rattle.proof_syntax.specs.Trees.{Definition, Line, End, Node, File, node_of}
use Rattle.proof_syntax.specs.Grammar.{node, ends as ends_syntax, file}
use Rattle.proof_syntax.specs.Keeping.{definition_front, end_front}
use Rattle.proof_syntax.proofs.FrontFits.{node-fits}
use Rattle.proof_syntax.specs.Left.{Part, First, Preds, Lines as AtLines, Ends as AtEnds, Nodes, At, Left, Statement}
use Rattle.proof_syntax.specs.Left.{statement_of, kept_statement, next, join, joined, line_or_later, end_or_node}
use Rattle.proof_syntax.proofs.LeftLaws.{statement-law}
use Rattle.heap_reader.proofs.DefinitionFitting.{definitions_small}
use Rattle.heap_reader.proofs.DefinitionFrontSpans.{definitions-span}
use Rattle.proof_file.specs.Flaws.{heading, headings, definition_flaw, program_flaw, file_ends_flaw, nodes_flaw}
use Rattle.proof_file.specs.Flaws.{first_line, file_flaw}
use Rattle.proof_file.specs.Spans.{definition_span, variable_span, term_span, node_span}
use Rattle.proof_file.proofs.FrontSpans.{node-span}
use Rattle.file_reader.specs.declared.front.Front.{Front}
use Rattle.file_reader.specs.Steps.{tree_of, span_of}
use Rattle.file_reader.specs.declared.part.Behind.{Behind}
use Rattle.file_reader.specs.declared.part.Behind.TheVariants.{Definitions, Lines, Ends}
use Rattle.file_reader.specs.Fronts.{PartTree, IsPart, kept, kept_part, LeadsTo, LeadsFront, front_size, IsFront}
use Rattle.file_reader.specs.Fronts.{front_defs, front_ends, IsBegun}
use Rattle.file_reader.proofs.Beginning.{lead-more, lead-none as none-leads}
use Rattle.file_reader.proofs.EndFits.{ends-none, ends-more, ends-kept, later-node}
use Rattle.file_reader.proofs.KeptParts.{dead-kept, part-kept, pred-kept, line-kept, end-part-kept, node-kept}
use Rattle.file_reader.proofs.StatementLaws.{left-dead, statement-size}

-- ---- one statement after others

pub lead-none : (ws : List Word) → LeadsTo ws (At First) (λ x. x) ws
lead-none ws = record { front = []; all = refl; leads = none-leads }

pub lead-step : (p : Part) (ws vs rest : List Word) (f : Left (At p) → File) (t : Statement p) → LeadsTo ws (At p) f vs
    → (statement_of p).read vs ≡ Ok (t, rest) → LeadsTo ws (next p t) (λ x. f (join p t x)) rest
lead-step p ws vs rest f t h e =
    let k = (statement-law p).takes vs (t, rest) e in
    let us = (statement_of p).words t in
    let again : (statement_of p).read us ≡ Ok (t, []) = ap (statement_of p).read (sym (append-nil us))
    ∙ (statement-law p).again t [] k.2 tt in
    record {
      front = h.front ++ us;
      all = h.all ∙ ap (λ (x : List Word). h.front ++ x) k.0 ∙ sym (append_assoc h.front us rest);
      leads = lead-more p h.front us f t h.leads again;
    }

pub lead-dead : (p : Part) (ws vs : List Word) (f : Left (At p) → File) (left : ℕ) → LeadsTo ws (At p) f vs
    → (statement_of p).read vs ≡ Err left → file.read ws ≡ Err left
lead-dead p ws vs f left h e = ap file.read h.all ∙ h.leads vs
    ∙ ap (λ (q : Reading (Left (At p))). joined f q) (left-dead p vs left e)

pub step-fails : (p : Part) (ws vs : List Word) (f : Left (At p) → File) (e : Refusal) → LeadsTo ws (At p) f vs
    → Fails e ((statement_of p).read vs) → Fails e (file.read ws)
step-fails p ws vs f refusals.OutOfMemory leads h = tt
step-fails p ws vs f (refusals.Dead left) leads h = lead-dead p ws vs f left leads h

-- ---- before the nodes

part-size : (b : Behind) (v : Version) (vs rest : List Word) (s : PartTree) → IsPart b v vs rest s
    → length vs ≡ span_of (Preds v) s + length rest
part-size Definitions v vs rest s e = statement-size (Preds v) vs rest s e
part-size Lines v vs rest (inl d) e = absurd e
part-size Lines v vs rest (inr s) e = statement-size (AtLines v) vs rest s e
part-size Ends v vs rest (inl d) e = absurd e
part-size Ends v vs rest (inr (inl l)) e = absurd e
part-size Ends v vs rest (inr (inr s)) e = statement-size (AtEnds v) vs rest s e

-- an end or a node fits
later-fits : (b : Behind) (v : Version) (vs rest : List Word) (s : End ⊎ Node) → IsPart b v vs rest (inr (inr s))
    → (end_or_node v).fits s
unfolding line_or_later
later-fits Definitions v vs rest s e = ((statement-law (Preds v)).takes vs (inr (inr s), rest) e).2
later-fits Lines v vs rest s e = ((statement-law (AtLines v)).takes vs (inr s, rest) e).2
later-fits Ends v vs rest s e = ((statement-law (AtEnds v)).takes vs (s, rest) e).2

pub part-fits : (b : Behind) (v : Version) (vs rest : List Word) (n : Node) → IsPart b v vs rest (inr (inr (inr n)))
    → node.fits n
part-fits b v vs rest n e = later-node v n (later-fits b v vs rest (inr n) e)

-- ---- what was read so far, and one statement more

abbrev AfterPreds : Version → List Definition → List Word → List Word → Type 0
AfterPreds v ds ws rest = LeadsTo ws (At (Preds v)) (λ x. tree_of v (ds ++ x.0) x.1.0 x.1.1.0 x.1.1.1) rest

abbrev AfterLines : Version → List Definition → List Line → List Word → List Word → Type 0
AfterLines v ds ls ws rest = LeadsTo ws (At (AtLines v)) (λ x. tree_of v ds (ls ++ x.0) x.1.0 x.1.1) rest

abbrev AfterEnds : Version → List Definition → List Line → List End → List Word → List Word → Type 0
AfterEnds v ds ls es ws rest = LeadsTo ws (At (AtEnds v)) (λ x. tree_of v ds ls (es ++ x.0) x.1) rest

abbrev AfterNode : Version → List Definition → List Line → List End → Node → List Word → List Word → Type 0
AfterNode v ds ls es n ws rest = LeadsTo ws (At Nodes) (λ ns. tree_of v ds ls es (n ∷ ns)) rest

module _ (v : Version) (ds : List Definition) (ls : List Line) (es : List End) (ws vs rest : List Word) where
  abbrev preds : Left (At (Preds v)) → File
  preds x = tree_of v (ds ++ x.0) x.1.0 x.1.1.0 x.1.1.1

  abbrev lines : Left (At (AtLines v)) → File
  lines x = tree_of v ds (ls ++ x.0) x.1.0 x.1.1

  abbrev ends : Left (At (AtEnds v)) → File
  ends x = tree_of v ds ls (es ++ x.0) x.1

  pub part-pred : (b : Behind) (d : Definition) → LeadsFront b v ds ls es ws vs → IsPart b v vs rest (inl d)
      → LeadsFront b v (ds ++ d ∷ []) ls es ws rest
  part-pred Lines d h e = absurd e
  part-pred Ends d h e = absurd e
  part-pred Definitions d h e = (
    h.0,
    h.1,
    subst (λ (g : Left (At (Preds v)) → File). LeadsTo ws (At (Preds v)) g rest)
        (λ i x. tree_of v (sym (append_assoc ds (d ∷ []) x.0) i) x.1.0 x.1.1.0 x.1.1.1)
        (lead-step (Preds v) ws vs rest preds (inl d) h.2 e),
  )

  pub part-line : (b : Behind) (l : Line) → LeadsFront b v ds ls es ws vs → IsPart b v vs rest (inr (inl l))
      → LeadsFront Lines v ds (ls ++ l ∷ []) es ws rest
  part-line Ends l h e = absurd e
  part-line Lines l h e = (
    h.0,
    subst (λ (g : Left (At (AtLines v)) → File). LeadsTo ws (At (AtLines v)) g rest)
        (λ i x. tree_of v ds (sym (append_assoc ls (l ∷ []) x.0) i) x.1.0 x.1.1)
        (lead-step (AtLines v) ws vs rest lines (inl l) h.1 e),
  )
  part-line Definitions l h e = (
    h.1,
    subst (λ (g : Left (At (AtLines v)) → File). LeadsTo ws (At (AtLines v)) g rest)
        (λ i x. tree_of v (append-nil ds i) ((sym h.0 i ++ l ∷ []) ++ x.0) x.1.0 x.1.1)
        (lead-step (Preds v) ws vs rest preds (inr (inl l)) h.2 e),
  )

  pub part-end : (b : Behind) (x : End) → LeadsFront b v ds ls es ws vs → IsPart b v vs rest (inr (inr (inl x)))
      → LeadsFront Ends v ds ls (es ++ x ∷ []) ws rest
  part-end Ends x h e =
      subst (λ (g : Left (At (AtEnds v)) → File). LeadsTo ws (At (AtEnds v)) g rest)
      (λ i y. tree_of v ds ls (sym (append_assoc es (x ∷ []) y.0) i) y.1)
      (lead-step (AtEnds v) ws vs rest ends (inl x) h e)
  part-end Lines x h e =
      subst (λ (g : Left (At (AtEnds v)) → File). LeadsTo ws (At (AtEnds v)) g rest)
      (λ i y. tree_of v ds (append-nil ls i) ((sym h.0 i ++ x ∷ []) ++ y.0) y.1)
      (lead-step (AtLines v) ws vs rest lines (inr (inl x)) h.1 e)
  part-end Definitions x h e =
      subst (λ (g : Left (At (AtEnds v)) → File). LeadsTo ws (At (AtEnds v)) g rest)
      (λ i y. tree_of v (append-nil ds i) (sym h.0 i) ((sym h.1 i ++ x ∷ []) ++ y.0) y.1)
      (lead-step (Preds v) ws vs rest preds (inr (inr (inl x))) h.2 e)

  pub part-node : (b : Behind) (n : Node) → LeadsFront b v ds ls es ws vs → IsPart b v vs rest (inr (inr (inr n)))
      → AfterNode v ds ls es n ws rest
  part-node Ends n h e =
      subst (λ (g : Left (At Nodes) → File). LeadsTo ws (At Nodes) g rest)
      (λ i x. tree_of v ds ls (append-nil es i) (n ∷ x)) (lead-step (AtEnds v) ws vs rest ends (inr n) h e)
  part-node Lines n h e =
      subst (λ (g : Left (At Nodes) → File). LeadsTo ws (At Nodes) g rest)
      (λ i x. tree_of v ds (append-nil ls i) (sym h.0 i) (n ∷ x))
      (lead-step (AtLines v) ws vs rest lines (inr (inr n)) h.1 e)
  part-node Definitions n h e =
      subst (λ (g : Left (At Nodes) → File). LeadsTo ws (At Nodes) g rest)
      (λ i x. tree_of v (append-nil ds i) (sym h.0 i) (sym h.1 i) (n ∷ x))
      (lead-step (Preds v) ws vs rest preds (inr (inr (inr n))) h.2 e)

total-more : {X : Type 0} (span : X → ℕ) (xs : List X) (x : X) → total span (xs ++ x ∷ []) ≡ total span xs + span x
total-more span [] x = omega arith
total-more span (y ∷ ys) x = let more = total-more span ys x in omega arith

module _ (b : Behind) (v : Version) (ds : List Definition) (ls : List Line) (es : List End) (vs rest : List Word) where
  pub size-pred : (d : Definition) → IsPart b v vs rest (inl d)
      → front_size ds ls es + length vs ≡ front_size (ds ++ d ∷ []) ls es + length rest
  size-pred d e = omega (arith, part-size b v vs rest (inl d) e, total-more definition_span ds d)

  pub size-line : (l : Line) → IsPart b v vs rest (inr (inl l))
      → front_size ds ls es + length vs ≡ front_size ds (ls ++ l ∷ []) es + length rest
  size-line l e = omega (arith, part-size b v vs rest (inr (inl l)) e, total-more (line_span variable_span) ls l)

  pub size-end : (x : End) → IsPart b v vs rest (inr (inr (inl x)))
      → front_size ds ls es + length vs ≡ front_size ds ls (es ++ x ∷ []) + length rest
  size-end x e = omega (arith, part-size b v vs rest (inr (inr (inl x))) e, total-more (end_span term_span) es x)

  pub size-node : (n : Node) → IsPart b v vs rest (inr (inr (inr n))) → length vs ≡ node_span n + length rest
  size-node n e = part-size b v vs rest (inr (inr (inr n))) e

-- what was read before, where a statement is not read
joined-err : {A B : Type 0} (f : A → B) (q : Reading A) (left : ℕ) → joined f q ≡ Err left → q ≡ Err left
joined-err f (Ok x) left e = absurd cc
joined-err f (Err n) left e = cc

pub part-fails : (b : Behind) (v : Version) (ds : List Definition) (ls : List Line) (es : List End)
    (ws vs : List Word) (e : Refusal) → LeadsFront b v ds ls es ws vs → Fails e (kept_part b v vs)
    → Fails e (file.read ws)
part-fails b v ds ls es ws vs refusals.OutOfMemory h k = tt
part-fails Definitions v ds ls es ws vs (refusals.Dead left) h k =
    lead-dead (Preds v) ws vs (preds v ds ls es ws vs vs) left h.2 (dead-kept (Preds v) vs left k)
part-fails Lines v ds ls es ws vs (refusals.Dead left) h k =
    lead-dead (AtLines v) ws vs (lines v ds ls es ws vs vs) left h.1
    (dead-kept (AtLines v) vs left (joined-err {B = PartTree} (λ (s : Line ⊎ (End ⊎ Node)). inr s)
    ((kept_statement kept (AtLines v)).read vs) left k))
part-fails Ends v ds ls es ws vs (refusals.Dead left) h k =
    lead-dead (AtEnds v) ws vs (ends v ds ls es ws vs vs) left h
    (dead-kept (AtEnds v) vs left (joined-err {B = PartTree} (λ (s : End ⊎ Node). inr (inr s))
    ((kept_statement kept (AtEnds v)).read vs) left k))

some-span : (v : Version) (s : PartTree) → 0 < span_of (Preds v) s
some-span v (inl d) = omega arith
some-span v (inr (inl l)) = omega arith
some-span v (inr (inr (inl e))) = omega arith
some-span v (inr (inr (inr n))) = omega arith

pub part-shrinks : (b : Behind) (v : Version) (vs rest : List Word) (s : PartTree) → kept_part b v vs ≡ Ok (s, rest)
    → length rest < length vs
part-shrinks b v vs rest s e =
    let t = part-kept b v vs rest s e in
    omega (arith, part-size b v vs rest t.0 t.1, some-span v t.0)

-- ---- what is kept of a front

pub front-open : (ws vs : List Word) (v : Version) → (statement_of First).read ws ≡ Ok (v, vs)
    → IsFront Definitions v [] [] [] ws vs
front-open ws vs v e = record {
  definitions = [];
  ends = [];
  are = refl;
  ends_are = refl;
  leads = (refl, refl, lead-step First ws ws vs (λ x. x) v (lead-none ws) e);
  size = omega (arith, statement-size First ws vs v e);
  ends_fit = ends-none v;
}

module _ (b : Behind) (v : Version) (trees : List Definition) (ls : List Line) (left : List End)
    (ws vs rest : List Word) (f : IsFront b v trees ls left ws vs) where
  pub front-pred : (tree : Definition) → kept_part b v vs ≡ Ok (inl tree, rest)
      → IsFront b v (trees ++ tree ∷ []) ls left ws rest
  front-pred tree e =
      let d = pred-kept b v vs rest tree e in
      record {
        definitions = f.definitions ++ d.0 ∷ [];
        ends = f.ends;
        are = (λ i. f.are i ++ d.2 i ∷ []) ∙ sym (map_push (definition_front kept) f.definitions d.0);
        ends_are = f.ends_are;
        leads = part-pred v f.definitions ls f.ends ws vs rest b d.0 f.leads d.1;
        size = omega (arith, f.size, size-pred b v f.definitions ls f.ends vs rest d.0 d.1);
        ends_fit = f.ends_fit;
      }

  pub front-line : (l : Line) → kept_part b v vs ≡ Ok (inr (inl l), rest)
      → IsFront Lines v trees (ls ++ l ∷ []) left ws rest
  front-line l e =
      let k = line-kept b v vs rest l e in
      record {
        definitions = f.definitions;
        ends = f.ends;
        are = f.are;
        ends_are = f.ends_are;
        leads = part-line v f.definitions ls f.ends ws vs rest b l f.leads k;
        size = omega (arith, f.size, size-line b v f.definitions ls f.ends vs rest l k);
        ends_fit = f.ends_fit;
      }

  pub front-end : (tree : End) → kept_part b v vs ≡ Ok (inr (inr (inl tree)), rest)
      → IsFront Ends v trees ls (left ++ tree ∷ []) ws rest
  front-end tree e =
      let x = end-part-kept b v vs rest tree e in
      record {
        definitions = f.definitions;
        ends = f.ends ++ x.0 ∷ [];
        are = f.are;
        ends_are = (λ i. f.ends_are i ++ x.2 i ∷ []) ∙ sym (map_push (end_front kept) f.ends x.0);
        leads = part-end v f.definitions ls f.ends ws vs rest b x.0 f.leads x.1;
        size = omega (arith, f.size, size-end b v f.definitions ls f.ends vs rest x.0 x.1);
        ends_fit = ends-more v f.ends x.0 f.ends_fit (later-fits b v vs rest (inl x.0) x.1);
      }

  pub front-node : (g : Front) → g.version ≡ v → front_defs g ≡ trees → g.lines.items ≡ ls → front_ends g ≡ left
      → g.before ≡ length ws - length vs → kept_part b v vs ≡ Ok (inr (inr (inr (node_of g.first))), rest)
      → IsBegun ws g rest
  front-node g version defs lines left_is before e =
      let x = node-kept b v vs rest (node_of g.first) e in
      let as_lines = ap (λ (ks : List Line). front_size f.definitions ks f.ends) lines in
      record {
        definitions = f.definitions;
        ends = f.ends;
        first = x.0;
        are = defs ∙ f.are;
        ends_are = left_is ∙ f.ends_are;
        is = x.2;
        leads = subst (λ (w : Version). AfterNode w f.definitions g.lines.items f.ends x.0 ws rest) (sym version)
            (subst (λ (ks : List Line). AfterNode v f.definitions ks f.ends x.0 ws rest) (sym lines)
            (part-node v f.definitions ls f.ends ws vs rest b x.0 f.leads x.1));
        before = omega (arith, before, f.size, as_lines);
        size = omega (arith, f.size, size-node b v f.definitions ls f.ends vs rest x.0 x.1, as_lines);
        fits = part-fits b v vs rest x.0 x.1;
        ends_fit = subst (λ (w : Version). (ends_syntax w).fits f.ends) (sym version) f.ends_fit;
      }

-- definitions of a front without a flaw are few
pub front-few : (v : Version) (ds : List Definition) (ls : List Line) (es : List End)
    → file_flaw (tree_of v ds ls es []) ≡ None → length ds ≤ 4096
front-few v ds ls es none =
    let t = tree_of v ds ls es [] in
    let defs = neither (listed_flaw (definition_flaw (limits v) (headings ds)) definition_span 0 4 ds)
    (or_later (program_flaw (limits v) (first_line t) ls) (or_later (file_ends_flaw t) (nodes_flaw t))) none in
    (definitions_small (limits v) (most_fits v) (headings ds) 4 ds defs.0).1

-- the first node, as it is kept
module _ (ws : List Word) (f : Front) (rest : List Word) (b : IsBegun ws f rest) where
  pub begun-fits : node.fits (node_of f.first)
  begun-fits = subst (λ (x : Node). node.fits x) (sym b.is) (node-fits MOST_PURE b.first b.fits)

  pub begun-span : f.before + node_span (node_of f.first) ≤ length ws
  begun-span = omega (arith, b.before, b.size, ap node_span b.is, node-span MOST_PURE b.first)

  pub begun-size : front_size (front_defs f) f.lines.items (front_ends f) ≤ f.before
  begun-size = omega (
    arith,
    b.before,
    ap (total definition_span) b.are,
    definitions-span MOST_PURE b.definitions,
    ap (total (end_span term_span)) b.ends_are,
    ends-span term_span MOST_PURE b.ends,
  )

  pub begun-ends : (ends_syntax f.version).fits (front_ends f)
  begun-ends = subst (λ (es : List End). (ends_syntax f.version).fits es) (sym b.ends_are)
      (ends-kept f.version MOST_PURE b.ends b.ends_fit)

  pub begun-few : (hs : List Heading) → hs ≡ headings (front_defs f)
      → file_flaw (tree_of f.version (front_defs f) f.lines.items (front_ends f) []) ≡ None → length hs ≤ 4096
  begun-few hs known none = omega (
    arith,
    ap length known,
    length-map (front_defs f) heading,
    front-few f.version (front_defs f) f.lines.items (front_ends f) none,
  )
