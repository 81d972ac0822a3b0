-- What stands before the nodes of a text, and its first node: what is held of them says the same.
use Rattle.std.proofs.Common.{◌≡◌, ℕ, ◌+◌, ◌-◌, ◌<◌, false, List, [], ◌∷◌, ◌++◌, length, map, Some, None, refl, sym, ap}
use Rattle.std.proofs.Common.{subst, ◌∙◌, arith, length-append}
use Rattle.std.proofs.lemmas.List.{length-map}
use Rattle.cyc_lex.specs.Placed.{Placed}
use Rattle.cyc_lex.specs.Word.{Word, word_of}
use Rattle.heap_syntax.specs.declared.version.Version.{Version}
use Rattle.heap_syntax.specs.Versions.{limits}
use Rattle.heap_reader.specs.Trees.{Heading, defined_headings}
use Rattle.heap_reader.specs.Spans.{total}
use Rattle.heap_reader.specs.Flaws.{Found as Flaws, or_later}
use Rattle.heap_reader.specs.EndValues.{ended_value}
use Rattle.heap_reader.specs.declared.flaw.Flaw.{Flaw}
use Rattle.heap_reader.proofs.NoFlaw.{neither}
use Rattle.heap_reader.proofs.WithinSpans.{Before, flaw_within}
use Rattle.proof_syntax.specs.Trees.{Definition, Line, End, Node, node_of}
use Rattle.proof_syntax.specs.Left.{Nodes as Among, At}
use Rattle.proof_file.specs.Flaws.{headings, node_flaw, first_node, file_flaw}
use Rattle.proof_file.specs.Spans.{node_span}
use Rattle.proof_file.specs.Values.{definition_value, term_value, node_value}
use Rattle.proof_file.specs.FileNodes.{FileNode}
use Rattle.proof_file.proofs.WithinSpans.{file_before}
use Rattle.file_reader.specs.declared.first_node.Beginning.{Beginning}
use Rattle.file_reader.specs.declared.front.Front.{Front}
use Rattle.file_reader.specs.declared.known.Found.{Found}
use Rattle.file_reader.specs.Outcomes.{or_else, told_flaw}
use Rattle.file_reader.specs.Stages.{Begun, Head, Nodes}
use Rattle.file_reader.specs.Steps.{Takes, Leads, tree_of, Spell, begun_of}
use Rattle.file_reader.specs.Fronts.{front_size, front_defs, front_ends, IsBegun}
use Rattle.file_reader.specs.Knowns.{defs_in, program_in, begun_in, HasValues, IsSteady, IsAdded}
use Rattle.file_reader.specs.Beginnings.{IsOpen, IsBeginning}
use Rattle.file_reader.proofs.Beginning.{told-later, told-front, file-flaws, begun-step}
use Rattle.file_reader.proofs.KeptParts.{same-found, same-value, values-headings, kept-headings, kept-flaw, whole-front}
use Rattle.file_reader.proofs.SameBegun.{begun-same}
use Rattle.file_reader.proofs.StepLaws.{head-step}

-- ---- the tokens of words that stand in front of others

pub record Cut (ts : List Placed) (ws rest : List Word) : Type 0 where
  pub taken : List Placed
  pub left : List Placed
  pub all : ts ≡ taken ++ left
  pub words : map word_of taken ≡ ws
  pub others : rest ≡ map word_of left

cut : (ts : List Placed) (ws rest : List Word) → map word_of ts ≡ ws ++ rest → Cut ts ws rest
cut ts [] rest e = record { taken = []; left = ts; all = refl; words = refl; others = sym e }
cut [] (w ∷ ws) rest e = absurd cc
cut (t ∷ ts) (w ∷ ws) rest e =
    let head : word_of t ≡ w = cc in
    let tail : map word_of ts ≡ ws ++ rest = cc in
    let c = cut ts ws rest tail in
    record {
      taken = t ∷ c.taken;
      left = c.left;
      all = ap (λ (us : List Placed). t ∷ us) c.all;
      words = λ i. head i ∷ c.words i;
      others = c.others;
    }

-- ---- flaws

later-none : (o : Flaws) → or_later o None ≡ o
later-none None = refl
later-none (Some flaw) = refl

pub told-none : (ts : List Placed) (o : Flaws) → told_flaw 0 ts o ≡ None → o ≡ None
told-none ts None e = refl
told-none ts (Some flaw) e = absurd cc

-- a flaw of what stands before the nodes stands at a token of it
pub front-within : (v : Version) (ds : List Definition) (ls : List Line) (es : List End) (flaw : Flaw)
    → file_flaw (tree_of v ds ls es []) ≡ Some flaw → flaw.token < first_node (tree_of v ds ls es [])
front-within v ds ls es flaw is =
    let t = tree_of v ds ls es [] in
    let within = flaw_within (file_flaw t) (first_node t + total node_span t.nodes) flaw (file_before t) is in
    omega (arith, within)

-- ---- values

module _ (ts : List Placed) (f : Front) (rest : List Word) (b : IsBegun (map word_of ts) f rest) where
  abbrev v : Version
  v = f.version

  abbrev ds : List Definition
  ds = b.definitions

  abbrev ls : List Line
  ls = f.lines.items

  abbrev es : List End
  es = b.ends

  abbrev x : Node
  x = b.first

  abbrev front : Flaws
  front = file_flaw (tree_of v ds ls es [])

  -- of the first node
  abbrev first : Flaws
  first = node_flaw (limits v) (headings ds) (length ls) 0 (front_size ds ls es) x

  abbrev all : Flaws
  all = file_flaw (tree_of v ds ls es (x ∷ []))

  all-is : all ≡ or_later front first
  all-is =
      file-flaws v ds ls es [] (x ∷ [])
      ∙ ap (or_later front) (later-none (node_flaw (limits v) (headings ds) (length ls) 0 (front_size ds ls es + 0)
      x) ∙ ap (λ (k : ℕ). node_flaw (limits v) (headings ds) (length ls) 0 k x) none)
    where
      none : front_size ds ls es + 0 ≡ front_size ds ls es
      none = omega arith

  parted : Cut ts b.leads.front rest
  parted = cut ts b.leads.front rest b.leads.all

  abbrev taken : List Placed
  taken = parted.taken

  count : length ts ≡ length taken + length rest
  count = omega (
    arith,
    ap length parted.all,
    length-append taken parted.left,
    ap length parted.others,
    length-map parted.left word_of,
  )

  spell : Spell taken v ds ls es (x ∷ [])
  spell = record {
    leads = subst (λ (ws : List Word). Leads ws (At Among) (λ ns. tree_of v ds ls es (x ∷ ns))) (sym parted.words)
        b.leads.leads;
    size = omega (arith, b.size, length-map ts word_of, count);
  }

  within : Before all (length taken)
  within = subst (λ (k : ℕ). Before all k) (sym spell.size) (file_before (tree_of v ds ls es (x ∷ [])))

  module _ (old : Beginning) (o : IsOpen ts f old) (hs : List Heading) (known : hs ≡ headings (front_defs f))
      (before : ℕ) (zero : before ≡ 0) (new : Found) (a : IsAdded old.known hs before ts (node_of f.first)
      old.found new) where
    hs-is : hs ≡ headings ds
    hs-is = known ∙ ap headings b.are ∙ kept-headings ds

    front-is : old.found.flaw ≡ told_flaw 0 ts front
    front-is = o.flaw ∙ ap (told_flaw 0 ts) ((λ i. file_flaw (tree_of v (b.are i) ls (b.ends_are i) []))
        ∙ kept-flaw v ds ls es)

    -- of the first node as it is kept
    abbrev kept_first : Flaws
    kept_first = node_flaw (limits v) (headings ds) (length ls) 0 (front_size ds ls es) (node_of f.first)

    kept-is : node_flaw (limits old.known.version) hs old.known.lines (length old.found.nodes.items)
        old.found.tokens (node_of f.first) ≡ kept_first
    kept-is = λ i. node_flaw (limits (o.opened.version i)) (hs-is i) (o.opened.lines i)
        (length (o.opened.nodes i)) ((o.opened.tokens ∙ b.before) i) (node_of f.first)

    first-is : kept_first ≡ first
    first-is = same-found v (headings ds) (length ls) 0 (front_size ds ls es) (node_of f.first) x b.is None kept_first refl

    flaw-is : new.flaw ≡ told_flaw 0 taken all
    flaw-is =
        a.flaw
        ∙ (λ i. or_else (front-is i) (told_flaw (zero i) ts ((kept-is ∙ first-is) i)))
        ∙ sym (told-later 0 ts front first)
        ∙ ap (told_flaw 0 ts) (sym all-is)
        ∙ ap (λ (us : List Placed). told_flaw 0 us all) parted.all
        ∙ told-front taken parted.left all within

    module _ (clean : new.flaw ≡ None) where
      all-none : all ≡ None
      all-none = told-none taken all (sym flaw-is ∙ clean)

      parts-none : (front ≡ None) × (first ≡ None)
      parts-none = neither front first (sym all-is ∙ all-none)

      whole : front_defs f ≡ ds
      whole = b.are ∙ (whole-front v ds ls es parts-none.0).0

      whole_ends : front_ends f ≡ es
      whole_ends = b.ends_are ∙ (whole-front v ds ls es parts-none.0).1

      values : HasValues old.known ds ls es
      values = subst (λ (ys : List End). HasValues old.known ds ls ys) whole_ends
          (subst (λ (xs : List Definition). HasValues old.known xs ls (front_ends f)) whole
          (o.values (front-is ∙ ap (told_flaw 0 ts) parts-none.0)))

      nodes-are : new.nodes.items ≡ map (node_value (headings ds)) (x ∷ [])
      nodes-are =
          a.nodes clean
          ∙ (λ i. o.opened.nodes i ++ node_value (hs-is i) (node_of f.first) ∷ [])
          ∙ ap (λ (y : FileNode). y ∷ []) (same-value v (headings ds) (length ls) 0 (front_size ds ls es) (node_of f.first)
          x b.is None kept_first refl (first-is ∙ parts-none.1))

      defs-are : defs_in old.known.front ≡ map (definition_value (headings ds)) ds
      defs-are = ap defs_in values.is ∙ values.definitions

      program-is : program_in old.known.front ≡ ended_value term_value (headings ds) ls es
      program-is = ap program_in values.is ∙ values.program

    -- what is held in the end
    module _ (last : Found) (flaw : last.flaw ≡ new.flaw) (nodes : last.nodes.items ≡ new.nodes.items)
        (tokens : last.tokens ≡ length ts - length rest) (ended : last.ended ≡ new.ended) where
      abbrev held : Begun
      held = begun_in old.known last

      abbrev told : Begun
      told = begun_of taken v ds ls es (x ∷ [])

      tokens-are : last.tokens ≡ length taken
      tokens-are = omega (arith, tokens, count)

      ended-is : last.ended ≡ false
      ended-is = ended ∙ a.ended ∙ o.opened.ended

      same : told.flaw ≡ None → held ≡ told
      same none =
          let clean : new.flaw ≡ None = flaw-is ∙ none in
          let ns = nodes ∙ nodes-are clean in
          let vs = defs-are clean in
          let hd = ap defined_headings vs ∙ values-headings (headings ds) ds in
          let ps = program-is clean in
          let fl = flaw ∙ flaw-is in
          λ i. record {
            version = o.opened.version i;
            headings = hd i;
            lines = o.opened.lines i;
            definitions = vs i;
            program = ps i;
            nodes = ns i;
            count = length (ns i);
            tokens = tokens-are i;
            flaw = fl i;
            ended = ended-is i;
          }

      takes : Takes (Head []) taken (Nodes held)
      takes us =
          head-step [] taken us
          ∙ begun-step taken v ds ls es (x ∷ []) spell us
          ∙ sym (begun-same held told (flaw ∙ flaw-is) tokens-are ended-is same us)

      steady : IsSteady old.known last
      steady none =
          let clean : new.flaw ≡ None = sym flaw ∙ none in
          record {
            tokens = taken;
            definitions = ds;
            program = ls;
            ends = es;
            trees = x ∷ [];
            spell = subst (λ (w : Version). Spell taken w ds ls es (x ∷ [])) (sym o.opened.version) spell;
            clean = ap (λ (w : Version). file_flaw (tree_of w ds ls es (x ∷ []))) o.opened.version ∙ all-none clean;
            values = values clean;
            lines = o.opened.lines;
            nodes = nodes ∙ nodes-are clean;
            count = λ going. tokens-are;
          }

      pub begins : IsBeginning ts rest (record { known = old.known; found = last })
      begins = record {
        taken = taken;
        left = parted.left;
        all = parted.all;
        words = parted.others;
        takes = takes;
        tokens = tokens-are;
        ended = ended-is;
        steady = steady;
      }
