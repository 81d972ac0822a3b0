-- Nodes as they come.
use Rattle.std.proofs.Common.{◌≡◌, ℕ, suc, ◌+◌, ◌-◌, ◌≤◌, ◌<◌, true, false, List, [], ◌∷◌, ◌++◌, length, take, drop}
use Rattle.std.proofs.Common.{Option, Some, None, Ok, refl, sym, ap, subst, ◌∙◌, arith, length-append, append_assoc}
use Rattle.std.proofs.Common.{inl, inr, ◌⊎◌}
use Rattle.std.specs.Prelude.{map, slice_get}
use Rattle.std.proofs.lemmas.List.{append-nil, take-append-drop, take-map, drop-map, take_at, drop_at, length-map}
use Rattle.std.proofs.lemmas.List.{map_push, map-append}
use Rattle.cyc_basics.specs.declared.limits.TheConstants.{MOST_PURE}
use Rattle.cyc_lex.specs.declared.fault.ReadFault.{ReadFault}
use Rattle.cyc_lex.specs.Placed.{Placed}
use Rattle.cyc_lex.specs.Word.{Word, word_of}
use Rattle.heap_syntax.specs.Versions.{limits}
use Rattle.heap_reader.specs.Trees.{Heading, defined_headings}
use Rattle.heap_reader.specs.Spans.{total}
use Rattle.heap_reader.specs.Flaws.{Found as Flaws, or_later}
use Rattle.heap_reader.proofs.WithinSpans.{Before}
use Rattle.proof_syntax.specs.Trees.{Definition, Line, End, Node, File}
use Rattle.proof_syntax.specs.Grammar.{node}
use Rattle.proof_syntax.specs.Keeping.{node_front}
use Rattle.proof_syntax.proofs.FrontFits.{node-fits}
use Rattle.proof_syntax.specs.Left.{Part, Nodes as Among, At, Left, Statement, statement_of, kept_statement}
use Rattle.proof_syntax.proofs.LeftLaws.{statement-law}
use Rattle.proof_file.specs.Flaws.{headings, node_flaw, file_flaw}
use Rattle.proof_file.specs.Spans.{node_span}
use Rattle.proof_file.specs.Values.{node_value}
use Rattle.proof_file.proofs.FrontSpans.{node-span}
use Rattle.proof_file.proofs.WithinSpans.{node_before}
use Rattle.heap_reader.specs.Told.{item_fault}
use Rattle.file_reader.specs.declared.known.KnownFront.{KnownFront}
use Rattle.file_reader.specs.declared.known.Found.{Found}
use Rattle.file_reader.specs.Outcomes.{at_token, told_flaw, or_else}
use Rattle.file_reader.specs.Stages.{Begun, Nodes, ahead}
use Rattle.file_reader.specs.Steps.{Takes, Leads, tree_of, span_of, with_node, with_end}
use Rattle.file_reader.specs.Fronts.{kept}
use Rattle.file_reader.specs.Knowns.{defs_in, program_in, begun_in, IsHeads, HasValues, IsTold, IsSteady, IsAdded}
use Rattle.file_reader.proofs.After.{After, node_after}
use Rattle.file_reader.proofs.Beginning.{lead-more, file-flaws}
use Rattle.file_reader.proofs.KeptParts.{later-kept, end-kept, values-headings, same-flaw, same-node}
use Rattle.file_reader.proofs.SameBegun.{begun-same}
use Rattle.file_reader.proofs.Sizes.{statement-words}
use Rattle.file_reader.proofs.StatementLaws.{statement-size}
use Rattle.file_reader.proofs.StepLaws.{node-step, end-step}
use Rattle.file_reader.proofs.Tokens.{slice-drop, slice-take}

pub later-fits : (vs rest : List Word) (tree : Node) → (kept_statement kept Among).read vs ≡ Ok (inl tree, rest)
    → node.fits tree
later-fits vs rest tree e =
    let x = later-kept vs rest tree e in
    subst (λ (y : Node). node.fits y) (sym x.2) (node-fits MOST_PURE x.0
    ((statement-law Among).takes vs (inl x.0, rest) x.1).2)

pub later-span : (vs rest : List Word) (tree : Node) → (kept_statement kept Among).read vs ≡ Ok (inl tree, rest)
    → node_span tree ≤ length vs
later-span vs rest tree e =
    let x = later-kept vs rest tree e in
    omega (arith, statement-size Among vs rest (inl x.0) x.1, ap node_span x.2, node-span MOST_PURE x.0)

later-shrinks : (vs rest : List Word) (tree : Node) → (kept_statement kept Among).read vs ≡ Ok (inl tree, rest)
    → length rest < length vs
later-shrinks vs rest tree e =
    let x = later-kept vs rest tree e in
    omega (arith, statement-size Among vs rest (inl x.0) x.1)

-- ---- the tokens of a statement at the front of others

module _ (p : Part) (us : List Placed) (ws : List Word) (t : Statement p)
    (e : (statement_of p).read (map word_of us) ≡ Ok (t, ws)) where
  abbrev front_of : List Placed
  front_of = take (span_of p t) us

  abbrev rest_of : List Placed
  rest_of = drop (span_of p t) us

  abbrev said : List Word
  said = (statement_of p).words t

  said-all : map word_of us ≡ said ++ ws
  said-all = ((statement-law p).takes (map word_of us) (t, ws) e).0

  said-fits : (statement_of p).fits t
  said-fits = ((statement-law p).takes (map word_of us) (t, ws) e).2

  said-size : length said ≡ span_of p t
  said-size = statement-words p t said-fits

  front-said : map word_of front_of ≡ said
  front-said = sym (take-map word_of (span_of p t) us) ∙ ap (take (span_of p t)) said-all
      ∙ take_at said ws (span_of p t) said-size

  front-rest : us ≡ front_of ++ rest_of
  front-rest = sym (take-append-drop (span_of p t) us)

  rest-words : ws ≡ map word_of rest_of
  rest-words = sym (sym (drop-map word_of (span_of p t) us) ∙ ap (drop (span_of p t)) said-all
      ∙ drop_at said ws (span_of p t) said-size)

  front-read : (statement_of p).read (map word_of front_of) ≡ Ok (t, [])
  front-read = ap (λ (v : List Word). (statement_of p).read v) (front-said ∙ sym (append-nil said))
      ∙ (statement-law p).again t [] said-fits tt

  front-size : length front_of ≡ span_of p t
  front-size = omega (arith, length-map front_of word_of, ap length front-said, said-size)

  all-size : length us ≡ span_of p t + length ws
  all-size = omega (arith, length-map us word_of, ap length said-all, length-append said ws, said-size)

-- ---- flaws

none-else : (a b : Option ReadFault) → or_else a b ≡ None → (a ≡ None) × (b ≡ None)
none-else None b e = (refl, e)
none-else (Some f) b e = absurd cc

none-told : (before : ℕ) (ts : List Placed) (o : Flaws) → told_flaw before ts o ≡ None → o ≡ None
none-told before ts None e = refl
none-told before ts (Some f) e = absurd cc

-- a flaw of some tokens among others
told-within : (base before span : ℕ) (ts us : List Placed) (o : Flaws) → base ≤ before → us ≡ drop (before - base) ts
    → After o before → Before o (before + span) → told_flaw base ts o ≡ told_flaw before (take span us) o
told-within base before span ts us None le is lo hi = refl
told-within base before span ts us (Some f) le is lo hi = ap (λ t. Some (at_token (item_fault f.item) f.token t))
    (sym (here ∙ there ∙ same))
  where
    here : slice_get (take span us) (f.token - before) ≡ slice_get us (f.token - before)
    here = slice-take span (f.token - before) us (omega (arith, lo, hi))

    there : slice_get us (f.token - before) ≡ slice_get ts ((before - base) + (f.token - before))
    there = ap (λ (v : List Placed). slice_get v (f.token - before)) is
        ∙ slice-drop (before - base) (f.token - before) ts

    same : slice_get ts ((before - base) + (f.token - before)) ≡ slice_get ts (f.token - base)
    same = ap (slice_get ts) (omega (arith, lo, le))

-- ---- values of definitions

known-headings : (k : KnownFront) (ds : List Definition) (ls : List Line) (es : List End) → HasValues k ds ls es
    → defined_headings (defs_in k.front) ≡ headings ds
known-headings k ds ls es v = ap (λ o. defined_headings (defs_in o)) v.is ∙ ap defined_headings v.definitions
    ∙ values-headings (headings ds) ds

total-more : (xs : List Node) (x : Node) → total node_span (xs ++ x ∷ []) ≡ total node_span xs + node_span x
total-more [] x = omega arith
total-more (y ∷ ys) x = let more = total-more ys x in omega arith

-- ---- a node, or the last statement, was taken

pub record NodeTaken (k : KnownFront) (us : List Placed) (ws : List Word) (old new : Found) : Type 0 where
  pub front : List Placed
  pub rest : List Placed
  pub all : us ≡ front ++ rest
  pub words : ws ≡ map word_of rest
  pub takes : Takes (Nodes (begun_in k old)) front (Nodes (begun_in k new))
  pub tokens : new.tokens ≡ old.tokens + length front
  pub steady : IsSteady k new
  pub size : length us ≡ length front + length ws

module _ (k : KnownFront) (hs : List Heading) (h : IsHeads k hs) (before : ℕ) (ts us : List Placed) (ws : List Word)
    (tree x : Node) (is : tree ≡ node_front kept x) (old mid new : Found) (later : before ≤ old.tokens)
    (at : us ≡ drop (old.tokens - before) ts) (e : (statement_of Among).read (map word_of us) ≡ Ok (inl x, ws))
    (added : IsAdded k hs before ts tree old mid) (steady : IsSteady k old) (going : old.ended ≡ false)
    (flaw-same : new.flaw ≡ mid.flaw) (nodes-same : new.nodes ≡ mid.nodes) (ended-same : new.ended ≡ mid.ended)
    (tokens-raised : new.tokens ≡ old.tokens + (length us - length ws)) where
  abbrev front : List Placed
  front = take (node_span x) us

  abbrev flaw_among : List Heading → Node → Flaws
  flaw_among gs y = node_flaw (limits k.version) gs k.lines (length old.nodes.items) old.tokens y

  abbrev own : List Heading
  own = defined_headings (defs_in k.front)

  size : length front ≡ node_span x
  size = front-size Among us ws (inl x) e

  raised : new.tokens ≡ old.tokens + length front
  raised = omega (arith, tokens-raised, size, all-size Among us ws (inl x) e)

  told : told_flaw before ts (flaw_among hs tree) ≡ told_flaw old.tokens front (flaw_among own x)
  told =
      ap (told_flaw before ts) (same-flaw k.version hs k.lines (length old.nodes.items) old.tokens tree x is
      ∙ ap (λ (gs : List Heading). flaw_among gs x) h.value)
      ∙ told-within before old.tokens (node_span x) ts us (flaw_among own x) later at
      (node_after (limits k.version) own k.lines (length old.nodes.items) old.tokens x)
      (node_before (limits k.version) own k.lines (length old.nodes.items) old.tokens x)

  flaw : or_else old.flaw (told_flaw old.tokens front (flaw_among own x)) ≡ new.flaw
  flaw = sym (flaw-same ∙ added.flaw ∙ ap (or_else old.flaw) told)

  module _ (none : new.flaw ≡ None) where
    parts : (old.flaw ≡ None) × (told_flaw before ts (flaw_among hs tree) ≡ None)
    parts = none-else old.flaw (told_flaw before ts (flaw_among hs tree)) (sym (flaw-same ∙ added.flaw) ∙ none)

    clear : flaw_among hs tree ≡ None
    clear = none-told before ts (flaw_among hs tree) parts.1

    whole : tree ≡ x
    whole = same-node k.version hs k.lines (length old.nodes.items) old.tokens tree x is clear

    values : new.nodes.items ≡ old.nodes.items ++ node_value hs x ∷ []
    values = (λ i. (nodes-same i).items) ∙ added.nodes (sym flaw-same ∙ none)
        ∙ (λ i. old.nodes.items ++ node_value hs (whole i) ∷ [])

    own-values : old.nodes.items ++ node_value own x ∷ [] ≡ new.nodes.items
    own-values = sym (values ∙ (λ i. old.nodes.items ++ node_value (h.value i) x ∷ []))

    count : suc (length old.nodes.items) ≡ length new.nodes.items
    count = omega (arith, ap length own-values, length-append old.nodes.items (node_value own x ∷ []))

    same : with_node (begun_in k old) front x ≡ begun_in k new
    same = λ i. record {
      version = k.version;
      headings = own;
      lines = k.lines;
      definitions = defs_in k.front;
      program = program_in k.front;
      nodes = own-values i;
      count = count i;
      tokens = sym raised i;
      flaw = flaw i;
      ended = sym (ended-same ∙ added.ended) i;
    }

    module _ (t : IsTold k old) where
      abbrev ts0 : List Placed
      ts0 = t.tokens

      abbrev ds : List Definition
      ds = t.definitions

      abbrev ls : List Line
      ls = t.program

      abbrev es : List End
      es = t.ends

      abbrev xs : List Node
      xs = t.trees

      hs-is : hs ≡ headings ds
      hs-is = h.value ∙ known-headings k ds ls es t.values

      read : (statement_of Among).read (map word_of front) ≡ Ok (inl x, [])
      read = front-read Among us ws (inl x) e

      leads-words : Leads (map word_of ts0 ++ map word_of front) (At Among)
          (λ ns. tree_of k.version ds ls es (xs ++ x ∷ ns))
      leads-words = lead-more Among (map word_of ts0) (map word_of front) (λ ns. tree_of k.version ds ls es (xs ++ ns))
          (inl x) t.spell.leads read

      leads-tokens : Leads (map word_of (ts0 ++ front)) (At Among) (λ ns. tree_of k.version ds ls es (xs ++ x ∷ ns))
      leads-tokens = subst (λ (vs : List Word). Leads vs (At Among) (λ ns. tree_of k.version ds ls es (xs ++ x ∷ ns)))
          (sym (map-append word_of ts0 front)) leads-words

      leads-on : Leads (map word_of (ts0 ++ front)) (At Among) (λ ns. tree_of k.version ds ls es ((xs ++ x ∷ []) ++ ns))
      leads-on = subst (λ (g : Left (At Among) → File). Leads (map word_of (ts0 ++ front)) (At Among) g)
          (λ i ns. tree_of k.version ds ls es (sym (append_assoc xs (x ∷ []) ns) i)) leads-tokens

      place : old.tokens ≡ length ts0
      place = t.count going

      number : length old.nodes.items ≡ length xs
      number = omega (arith, ap length t.nodes, length-map xs (node_value (headings ds)))

      alone : node_flaw (limits k.version) (headings ds) (length ls) (length xs) (length ts0) x ≡ None
      alone = sym (λ i. node_flaw (limits k.version) (hs-is i) (t.lines i) (number i) (place i) x)
          ∙ sym (same-flaw k.version hs k.lines (length old.nodes.items) old.tokens tree x is) ∙ clear

      clean : file_flaw (tree_of k.version ds ls es (xs ++ x ∷ [])) ≡ None
      clean =
          file-flaws k.version ds ls es xs (x ∷ [])
          ∙ ap (λ (n : ℕ). or_later (file_flaw (tree_of k.version ds ls es xs))
          (or_later (node_flaw (limits k.version) (headings ds) (length ls) (length xs) n x) None))
          (sym t.spell.size)
          ∙ (λ i. or_later (t.clean i) (or_later (alone i) None))

      more : IsTold k new
      more = record {
        tokens = ts0 ++ front;
        definitions = ds;
        program = ls;
        ends = es;
        trees = xs ++ x ∷ [];
        spell = record {
          leads = leads-on;
          size = omega (arith, t.spell.size, length-append ts0 front, size, total-more xs x);
        };
        clean = clean;
        values = t.values;
        lines = t.lines;
        nodes = values ∙ (λ i. t.nodes i ++ node_value (hs-is i) x ∷ [])
            ∙ sym (map_push (node_value (headings ds)) xs x);
        count = λ still. omega (arith, raised, place, length-append ts0 front);
      }

  node-taken : NodeTaken k us ws old new
  node-taken = record {
    front = front;
    rest = drop (node_span x) us;
    all = front-rest Among us ws (inl x) e;
    words = rest-words Among us ws (inl x) e;
    takes = λ vs. node-step (begun_in k old) front x going (front-read Among us ws (inl x) e) vs
        ∙ begun-same (with_node (begun_in k old) front x) (begun_in k new) flaw (sym raised)
        (sym (ended-same ∙ added.ended)) same vs;
    tokens = raised;
    steady = λ none. more none (steady (parts none).0);
    size = omega (arith, size, all-size Among us ws (inl x) e);
  }

pub node-comes : (k : KnownFront) (hs : List Heading) (h : IsHeads k hs) (before : ℕ) (ts us : List Placed)
    (ws : List Word) (tree : Node) (old mid new : Found)
    → before ≤ old.tokens → us ≡ drop (old.tokens - before) ts
    → (kept_statement kept Among).read (map word_of us) ≡ Ok (inl tree, ws) → IsAdded k hs before ts tree old mid
    → IsSteady k old → old.ended ≡ false
    → new.flaw ≡ mid.flaw → new.nodes ≡ mid.nodes → new.ended ≡ mid.ended
    → new.tokens ≡ old.tokens + (length us - length ws) → NodeTaken k us ws old new
node-comes k hs h before ts us ws tree old mid new later at e added steady going flaw nodes ended tokens =
    let x = later-kept (map word_of us) ws tree e in
    node-taken k hs h before ts us ws tree x.0 x.2 old mid new later at x.1 added steady going flaw nodes ended tokens

module _ (k : KnownFront) (us : List Placed) (ws : List Word) (old new : Found)
    (e : (statement_of Among).read (map word_of us) ≡ Ok (inr tt, ws)) (steady : IsSteady k old)
    (going : old.ended ≡ false) (flaw-same : new.flaw ≡ old.flaw) (nodes-same : new.nodes ≡ old.nodes)
    (over : new.ended ≡ true) (tokens-raised : new.tokens ≡ old.tokens + (length us - length ws)) where
  abbrev last : List Placed
  last = take 2 us

  last-size : length last ≡ 2
  last-size = front-size Among us ws (inr tt) e

  last-raised : new.tokens ≡ old.tokens + length last
  last-raised = omega (arith, tokens-raised, last-size, all-size Among us ws (inr tt) e)

  last-same : with_end (begun_in k old) last ≡ begun_in k new
  last-same = λ i. record {
    version = k.version;
    headings = defined_headings (defs_in k.front);
    lines = k.lines;
    definitions = defs_in k.front;
    program = program_in k.front;
    nodes = (sym nodes-same i).items;
    count = length (sym nodes-same i).items;
    tokens = sym last-raised i;
    flaw = sym flaw-same i;
    ended = sym over i;
  }

  still-told : IsTold k old → IsTold k new
  still-told t = record {
    tokens = t.tokens;
    definitions = t.definitions;
    program = t.program;
    ends = t.ends;
    trees = t.trees;
    spell = t.spell;
    clean = t.clean;
    values = t.values;
    lines = t.lines;
    nodes = (λ i. (nodes-same i).items) ∙ t.nodes;
    count = λ still. absurd (differ (sym over ∙ still));
  }
    where
      differ : true ≡ false → ⊥
      differ f = cc

  end-taken : NodeTaken k us ws old new
  end-taken = record {
    front = last;
    rest = drop 2 us;
    all = front-rest Among us ws (inr tt) e;
    words = rest-words Among us ws (inr tt) e;
    takes = λ vs. end-step (begun_in k old) last going (front-read Among us ws (inr tt) e) vs
        ∙ ap (λ (b : Begun). ahead (Nodes b) vs) last-same;
    tokens = last-raised;
    steady = λ none. still-told (steady (sym flaw-same ∙ none));
    size = omega (arith, last-size, all-size Among us ws (inr tt) e);
  }

pub end-comes : (k : KnownFront) (us : List Placed) (ws : List Word) (old new : Found)
    → (kept_statement kept Among).read (map word_of us) ≡ Ok (inr tt, ws) → IsSteady k old → old.ended ≡ false
    → new.flaw ≡ old.flaw → new.nodes ≡ old.nodes → new.ended ≡ true → new.tokens ≡ old.tokens + (length us - length ws)
    → NodeTaken k us ws old new
end-comes k us ws old new e steady going flaw nodes ended tokens =
    end-taken k us ws old new (end-kept (map word_of us) ws e) steady going flaw nodes ended tokens

end-shrinks : (vs rest : List Word) → (kept_statement kept Among).read vs ≡ Ok (inr tt, rest) → length rest < length vs
end-shrinks vs rest e = omega (arith, statement-size Among vs rest (inr tt) (end-kept vs rest e))

pub statement-shrinks : (vs rest : List Word) (x : Node ⊎ Unit {0}) → (kept_statement kept Among).read vs ≡ Ok (x, rest)
    → length rest < length vs
statement-shrinks vs rest (inl tree) e = later-shrinks vs rest tree e
statement-shrinks vs rest (inr u) e = end-shrinks vs rest e
