-- The last statements of a text, and its end.
use Rattle.std.proofs.Common.{◌≡◌, ℕ, ◌+◌, ◌-◌, ◌≤◌, ◌<◌, Bool, true, false, List, [], ◌∷◌, ◌++◌, length, take, drop}
use Rattle.std.proofs.Common.{Some, None, Option, Result, Ok, Err, refl, sym, ap, subst, ◌∙◌, arith, length-append}
use Rattle.std.proofs.Common.{length-take-le, ◌⊎◌}
use Rattle.std.specs.Prelude.{map}
use Rattle.std.proofs.lemmas.List.{append-nil, length-drop, length-map, drop-drop, drop_at, take_all, take_at}
use Rattle.std.proofs.lemmas.List.{take-append-drop}
use Rattle.cyc_lex.specs.declared.fault.ReadFault.{ReadFault}
use Rattle.cyc_lex.specs.Lexing.{start}
use Rattle.cyc_lex.specs.Placed.{Placed}
use Rattle.cyc_lex.specs.Word.{Word, word_of}
use Rattle.cyc_grammar.specs.Syntax.{Reading, ◌>>=◌, all_taken, one, read_class}
use Rattle.cyc_grammar.specs.Classes.{the_end}
use Rattle.cyc_grammar.specs.Giving.{Fails}
use Rattle.cyc_grammar.specs.declared.cursor.Refusal.{Refusal}
use Rattle.cyc_grammar.specs.declared.cursor.Refusal.TheVariants as refusals
use Rattle.cyc_grammar.proofs.Laws.{one-law}
use Rattle.cyc_grammar.proofs.ClassLaws.{the_end-law}
use Rattle.piecewise_lex.specs.Feeding.{tokens_from}
use Rattle.proof_syntax.specs.Trees.{Node, File}
use Rattle.proof_syntax.specs.Grammar.{file, more_nodes}
use Rattle.proof_syntax.proofs.GrammarLaws.{file-law}
use Rattle.proof_syntax.specs.Left.{Nodes as Among, At, left_of, statement_of, kept_statement, joined}
use Rattle.proof_syntax.proofs.LeftLaws.{statement-law}
use Rattle.proof_file.specs.declared.building.FileFront.{FileFront}
use Rattle.proof_file.specs.Building.{AreSaid}
use Rattle.file_reader.specs.declared.first_node.Beginning.{Beginning}
use Rattle.file_reader.specs.declared.held.Running.{Running}
use Rattle.file_reader.specs.declared.held.Held.TheVariants as kinds
use Rattle.file_reader.specs.declared.known.KnownFront.{KnownFront}
use Rattle.file_reader.specs.declared.known.Found.{Found}
use Rattle.file_reader.specs.declared.stretch.Stretch.{Stretch}
use Rattle.file_reader.specs.Fronts.{kept}
use Rattle.file_reader.specs.Knowns.{begun_in, IsTold}
use Rattle.file_reader.specs.Beginnings.{IsBeginning}
use Rattle.file_reader.specs.Helds.{parts_of}
use Rattle.file_reader.specs.Lasts.{left_from, StandsIn, comes_to, DiesAt, AreRead, IsLastStretch, LastStretches}
use Rattle.file_reader.specs.Outcomes.{Outcome, Faulty, or_else, settled, syntax_fault}
use Rattle.file_reader.specs.Pieces.{Tells, parts, IsOpen}
use Rattle.file_reader.specs.Stages.{Head, Nodes, Parts, behind, outcome, nodes_left, nodes_outcome, said_with, ahead}
use Rattle.file_reader.specs.Runs.{IsStepTaken}
use Rattle.file_reader.specs.Steps.{Takes, tree_of}
use Rattle.file_reader.specs.Stretches.{IsStretch, tokens_of}
use Rattle.file_reader.proofs.KeptParts.{dead-kept}
use Rattle.file_reader.proofs.NodeLaws.{NodeTaken}
use Rattle.file_reader.proofs.StatementLaws.{left-dead}
use Rattle.file_reader.proofs.StepLaws.{nodes-lawful, fault-within}
use Rattle.file_reader.proofs.Tokens.{syntax-later}

-- ---- where reading stands

pub stretch-size : (s : Stretch) → IsStretch s → length (tokens_of s) ≡ s.count
stretch-size s h = length-take-le s.count _ h.within

-- after others
pub stands-after : (s : Stretch) (n : ℕ) (ws : List Word) (front left : List Placed) → IsStretch s
    → tokens_of s ≡ front ++ left → n ≡ s.before + length front → ws ≡ map word_of left → StandsIn s n ws
stands-after s n ws front left h all count words = record {
  later = omega (arith, count);
  within = omega (arith, count, ap length all, length-append front left, stretch-size s h);
  words = words ∙ ap (map word_of) (sym (drop-front (n - s.before) (omega (arith, count))));
}
  where
    drop-front : (k : ℕ) → k ≡ length front → drop k (tokens_of s) ≡ left
    drop-front k e = ap (drop k) all ∙ drop_at front left k (sym e)

module _ (s : Stretch) (h : IsStretch s) (n : ℕ) (ws : List Word) (stands : StandsIn s n ws) where
  pub left-size : length (left_from s n) + (n - s.before) ≡ s.count
  left-size = omega (arith, length-drop (n - s.before) (tokens_of s), stretch-size s h, stands.later, stands.within)

  pub words-size : length ws + (n - s.before) ≡ s.count
  words-size = omega (arith, left-size, ap length stands.words, length-map (left_from s n) word_of)

-- what is read of the words is read of the tokens
pub read-words : (s : Stretch) (n : ℕ) (ws : List Word) → StandsIn s n ws → (q : Reading (Node ⊎ Unit {0}))
    → (kept_statement kept Among).read ws ≡ q → (kept_statement kept Among).read (map word_of (left_from s n)) ≡ q
read-words s n ws stands q e = ap (λ (vs : List Word). (kept_statement kept Among).read vs) (sym stands.words) ∙ e

-- ---- statements

pub left-stands : (s : Stretch) (n : ℕ) → s.before ≤ n → n ≤ s.before + s.count
    → StandsIn s n (map word_of (left_from s n))
left-stands s n later within = record { later = later; within = within; words = refl }

-- one was read of the tokens that are left
module _ (k : KnownFront) (s : Stretch) (h : IsStretch s) (old new : Found) (ws : List Word)
    (later : s.before ≤ old.tokens) (within : old.tokens ≤ s.before + s.count)
    (t : NodeTaken k (left_from s old.tokens) ws old new) where
  abbrev here : ℕ
  here = old.tokens - s.before

  sizes : length (left_from s old.tokens) + here ≡ s.count
  sizes = left-size s h old.tokens (map word_of (left_from s old.tokens)) (left-stands s old.tokens later within)

  pub step-taken : IsStepTaken k (take (new.tokens - old.tokens) (left_from s old.tokens)) old new
  step-taken = record {
    takes = subst (λ (us : List Placed). Takes (Nodes (begun_in k old)) us (Nodes (begun_in k new))) (sym front)
        t.takes;
    tokens = omega (arith, t.tokens, ap length front);
    steady = t.steady;
  }
    where
      front : take (new.tokens - old.tokens) (left_from s old.tokens) ≡ t.front
      front = ap (take (new.tokens - old.tokens)) t.all
          ∙ take_at t.front t.rest (new.tokens - old.tokens) (omega (arith, t.tokens))

  pub step-stands : StandsIn s new.tokens ws
  step-stands = record {
    later = omega (arith, t.tokens, later);
    within = omega (arith, t.tokens, t.size, sizes, later);
    words = t.words ∙ ap (map word_of) rest;
  }
    where
      rest : t.rest ≡ left_from s new.tokens
      rest = sym (drop_at t.front t.rest (length t.front) refl) ∙ ap (drop (length t.front)) (sym t.all)
          ∙ drop-drop (length t.front) here (tokens_of s) ∙ ap (λ (n : ℕ). drop n (tokens_of s))
          (omega (arith, t.tokens, later))

-- one more was read
pub step-read : (k : KnownFront) (s : Stretch) (old mid new : Found) (vs ws : List Word) → AreRead k s old mid vs
    → IsStepTaken k (take (new.tokens - mid.tokens) (left_from s mid.tokens)) mid new → StandsIn s new.tokens ws
    → AreRead k s old new ws
step-read k s old mid new vs ws read step stands = record {
  same = read.same ∙ ap (ahead (Nodes (begun_in k mid))) (sym (take-append-drop count us)) ∙ step.takes (drop count us)
      ∙ ap (ahead (Nodes (begun_in k new))) rest;
  stands = stands;
  steady = step.steady;
}
  where
    count : ℕ
    count = new.tokens - mid.tokens

    us : List Placed
    us = left_from s mid.tokens

    rest : drop count us ≡ left_from s new.tokens
    rest = drop-drop count (mid.tokens - s.before) (tokens_of s)
        ∙ ap (λ (n : ℕ). drop n (tokens_of s)) (omega (arith, step.tokens, read.stands.later))

-- where none is left, all tokens were taken
pub all-taken : (k : KnownFront) (s : Stretch) → IsStretch s → (old new : Found) (ws : List Word)
    → s.before ≡ old.tokens → length ws ≡ 0 → IsStepTaken k (take (new.tokens - old.tokens) (left_from s old.tokens))
    old new → StandsIn s new.tokens ws → IsStepTaken k (tokens_of s) old new
all-taken k s h old new ws at none step stands = subst (λ (us : List Placed). IsStepTaken k us old new) all step
  where
    first : old.tokens - s.before ≡ 0
    first = omega (arith, at)

    all : take (new.tokens - old.tokens) (left_from s old.tokens) ≡ tokens_of s
    all =
        ap (λ (n : ℕ). take (new.tokens - old.tokens) (drop n (tokens_of s))) first
        ∙ take_all (new.tokens - old.tokens) (tokens_of s)
        (omega (arith, stretch-size s h, words-size s h new.tokens ws stands, at, none))

-- the first dead token
module _ (k : KnownFront) (s : Stretch) (h : IsStretch s) (f : Found) (ws : List Word) (stands : StandsIn s f.tokens ws)
  where
    abbrev us : List Placed
    us = left_from s f.tokens

    counted : s.before + length (take (f.tokens - s.before) (tokens_of s)) ≡ f.tokens
    counted = omega (
      arith,
      length-take-le (f.tokens - s.before) (tokens_of s)
          (omega (arith, stands.within, stands.later, stretch-size s h)),
      stands.later,
    )

    -- a token among those that are left is one of all
    dead-later : (left : ℕ) → left ≤ length us
        → syntax_fault f.tokens us left ≡ syntax_fault s.before (tokens_of s) left
    dead-later left within =
        ap (λ (n : ℕ). syntax_fault n us left) (sym counted)
        ∙ sym (syntax-later s.before left (take (f.tokens - s.before) (tokens_of s)) us within)
        ∙ ap (λ (ts : List Placed). syntax_fault s.before ts left) (take-append-drop (f.tokens - s.before) (tokens_of s))

    dies : (left : ℕ) → left ≤ length us → nodes_left f.ended (map word_of us) ≡ Err left
        → DiesAt s (comes_to k f s) (refusals.Dead left)
    dies left within e = (
      omega (arith, within, left-size s h f.tokens ws stands),
      ap (λ (q : Result (List Node) ℕ). nodes_outcome (begun_in k f) us q) e
          ∙ ap (λ x. Faulty x) (dead-later left within),
    )

    pub node-dies : (e : Refusal) → f.ended ≡ false → Fails e ((kept_statement kept Among).read ws)
        → DiesAt s (comes_to k f s) e
    node-dies refusals.OutOfMemory going x = tt
    node-dies (refusals.Dead left) going x =
        let read = dead-kept Among ws left x in
        let all : (left_of (At Among)).read (map word_of us) ≡ Err left = ap (left_of (At Among)).read (sym stands.words)
        ∙ left-dead Among ws left read in
        dies left (omega (
          arith,
          fault-within (statement_of Among) (statement-law Among) ws left read,
          ap length stands.words,
          length-map us word_of,
        ))
        (ap (λ (b : Bool). nodes_left b (map word_of us)) going
        ∙ ap (λ (q : Reading (List Node)). q >>= λ y. all_taken y.0 y.1) all)

    -- after the last statement
    abbrev ended_left : Reading (Unit {0}) → Result (List Node) ℕ
    ended_left q = (q >>= λ y. all_taken y.0 y.1) >>= λ u. Ok []

    module _ (ended : f.ended ≡ true) where
      after-end : (q : Reading (Unit {0})) → read_class the_end ws ≡ q
          → nodes_left f.ended (map word_of us) ≡ ended_left q
      after-end q e = ap (λ (b : Bool). nodes_left b (map word_of us)) ended
          ∙ ap ended_left (ap (read_class the_end) (sym stands.words) ∙ e)

      pub end-dies : (e : Refusal) → Fails e (read_class the_end ws) → DiesAt s (comes_to k f s) e
      end-dies refusals.OutOfMemory x = tt
      end-dies (refusals.Dead left) x =
          dies left (omega (
            arith,
            fault-within (one the_end) (one-law the_end the_end-law) ws left x,
            ap length stands.words,
            length-map us word_of,
          )) (after-end (Err left) x)

      pub rest-dies : (rest : List Word) → read_class the_end ws ≡ Ok (tt, rest) → 0 < length rest
          → DiesAt s (comes_to k f s) (refusals.Dead (length rest))
      rest-dies rest e some =
          dies (length rest) (omega (
            arith,
            ap length ((one-law the_end the_end-law).takes ws (tt, rest) e).0,
            ap length stands.words,
            length-map us word_of,
            length-append ((one the_end).words tt) rest,
          ))
          (after-end (Ok (tt, rest)) e ∙ by rest some)
        where
          by : (r : List Word) → 0 < length r → ended_left (Ok (tt, r)) ≡ Err (length r)
          by [] h = absurd (omega (arith, h))
          by (d ∷ r) h = refl

      pub end-comes-to : (rest : List Word) → read_class the_end ws ≡ Ok (tt, rest) → length rest ≡ 0
          → comes_to k f s ≡ settled f.flaw (said_with (begun_in k f) [])
      end-comes-to rest e none = ap (λ (q : Result (List Node) ℕ). nodes_outcome (begun_in k f) us q)
          (after-end (Ok (tt, rest)) e ∙ by rest none) ∙ ap (λ (o : Option ReadFault). settled o
          (said_with (begun_in k f) [])) (later f.flaw)
        where
          by : (r : List Word) → length r ≡ 0 → ended_left (Ok (tt, r)) ≡ Ok []
          by [] h = refl
          by (d ∷ r) h = absurd (omega (arith, h))

          later : (o : Option ReadFault) → or_else o None ≡ o
          later (Some x) = refl
          later None = refl

pub dies-same : (s : Stretch) (a b : Outcome) (e : Refusal) → a ≡ b → DiesAt s b e → DiesAt s a e
dies-same s a b e same h = subst (λ (o : Outcome). DiesAt s o e) (sym same) h

-- ---- all tokens that are left of a text

left-after : (s : Stretch) (n : ℕ) (front left : List Placed) → tokens_of s ≡ front ++ left
    → n ≡ s.before + length front → left ≡ left_from s n
left-after s n front left all count = sym (ap (drop (n - s.before)) all
    ∙ drop_at front left (n - s.before) (omega (arith, count)))

pub opening-stands : (bytes : List ℕ) (s : Stretch) (ws : List Word) (b : Beginning)
    → IsLastStretch start false bytes 0 s → IsBeginning (tokens_of s) ws b → StandsIn s b.found.tokens ws
opening-stands bytes s ws b h begun = stands-after s b.found.tokens ws begun.taken begun.left h.stretch begun.all
    (omega (arith, begun.tokens, h.before)) begun.words

pub opening-comes : (bytes : List ℕ) (s : Stretch) (ws : List Word) (b : Beginning)
    → IsLastStretch start false bytes 0 s → IsBeginning (tokens_of s) ws b
    → outcome (parts (Head []) start false bytes) [] ≡ comes_to b.known b.found s
opening-comes bytes s ws b h begun =
    ap (λ (w : List ℕ). behind (Head []) (tokens_from start false w)) (append-nil bytes)
    ∙ ap (behind (Head [])) h.tokens
    ∙ ap (ahead (Head [])) begun.all
    ∙ begun.takes begun.left
    ∙ ap (ahead (Nodes (begun_in b.known b.found)))
    (left-after s b.found.tokens begun.taken begun.left begun.all (omega (arith, begun.tokens, h.before)))

pub running-comes : (r : Running) (s : Stretch) → IsLastStretch r.place r.comment r.waiting.items r.found.tokens s
    → outcome (parts_of (kinds.Running r)) [] ≡ comes_to r.known r.found s
running-comes r s h =
    ap (λ (w : List ℕ). behind (Nodes (begun_in r.known r.found)) (tokens_from r.place r.comment w))
    (append-nil r.waiting.items)
    ∙ ap (behind (Nodes (begun_in r.known r.found))) h.tokens
    ∙ ap (ahead (Nodes (begun_in r.known r.found)))
    (left-after s r.found.tokens [] (tokens_of s) refl (omega (arith, h.before)))

-- a first bad place
pub stops-outcome : (s : Parts) (fault : ReadFault) → IsOpen s.stage
    → LastStretches s.place s.comment s.pending 0 (Err fault) → Tells (outcome s []) (Err fault)
stops-outcome s fault going h = subst (λ (w : List ℕ). Tells (behind s.stage (tokens_from s.place s.comment w))
    (Err fault)) (sym (append-nil s.pending)) (h s.stage going)

-- ---- what the file says

module _ (k : KnownFront) (f : Found) (t : IsTold k f) where
  abbrev tree : File
  tree = tree_of k.version t.definitions t.program t.ends t.trees

  fits : file.fits tree
  unfolding more_nodes
  fits =
      let ends = nodes-lawful.again [] [] tt tt in
      subst (λ (xs : List Node). file.fits (tree_of k.version t.definitions t.program t.ends xs)) (append-nil t.trees)
      (file-law.takes _ (tree_of k.version t.definitions t.program t.ends (t.trees ++ []), [])
      (t.spell.leads ((left_of (At Among)).words [] ++ [])
      ∙ ap (λ (q : Reading (List Node)). joined (λ ns. tree_of k.version t.definitions t.program t.ends (t.trees ++ ns)) q)
      ends)).2

  pub told-said : (front : FileFront) → k.front ≡ Some front → AreSaid k.version front.defs front.program f.nodes.items
  told-said front is =
      let same : t.values.front ≡ front = cc in (
        tree,
        fits,
        t.clean,
        record {
          version = refl;
          most = ap (λ (x : FileFront). x.defs.most) (sym same) ∙ t.values.most;
          definitions = ap (λ (x : FileFront). x.defs.list) (sym same) ∙ t.values.definitions;
          program = ap (λ (x : FileFront). x.program) (sym same) ∙ t.values.program;
          nodes = t.nodes;
        },
      )
