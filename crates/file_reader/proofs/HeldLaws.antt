-- What a reader holds keeps what the text comes to.
use Rattle.std.proofs.Common.{◌≡◌, ℕ, zero, suc, ◌+◌, ◌-◌, ◌^◌, ◌<◌, Bool, true, false, List, [], ◌∷◌, ◌++◌, length}
use Rattle.std.proofs.Common.{Option, Err, refl, sym, ap, subst, ◌∙◌, arith, length-append, append_assoc}
use Rattle.std.specs.Prelude.{map}
use Rattle.std.specs.Global.{Vec}
use Rattle.std.specs.Str.{chars, IsUtf8}
use Rattle.std.proofs.lemmas.List.{append-nil}
use Rattle.std.proofs.lemmas.Str.{encodes-chars}
use Rattle.cyc_lex.specs.declared.fault.ReadFault.{ReadFault}
use Rattle.cyc_lex.specs.declared.place.Bad.{Bad}
use Rattle.cyc_lex.specs.declared.place.Place.{Place}
use Rattle.cyc_lex.specs.declared.place.Stop.{Stop}
use Rattle.cyc_lex.specs.declared.place.Stop.TheVariants as stops
use Rattle.cyc_lex.specs.Answer.{fault_of}
use Rattle.cyc_lex.specs.Lexing.{Stops, start, lex, comment_len, with_tokens}
use Rattle.cyc_lex.specs.Placed.{Placed}
use Rattle.cyc_lex.specs.Word.{word_of}
use Rattle.piecewise_lex.specs.declared.spans.Span.{Span}
use Rattle.piecewise_lex.specs.declared.valid.Valid.{Valid}
use Rattle.piecewise_lex.specs.Feeding.{tokens_from}
use Rattle.piecewise_lex.specs.Spans.{IsFront, front_tokens}
use Rattle.piecewise_lex.specs.Taking.{reading, tokens_in, HasTaken}
use Rattle.piecewise_lex.specs.Valid.{IsValid}
use Rattle.piecewise_lex.proofs.TakingBytes.{taken-law, taken-count}
use Rattle.proof_syntax.specs.Grammar.{file}
use Rattle.file_reader.specs.declared.first_node.Beginning.{Beginning}
use Rattle.file_reader.specs.declared.held.Running.{Running}
use Rattle.file_reader.specs.declared.held.Faulty.{Faulty}
use Rattle.file_reader.specs.declared.held.Held.{Held}
use Rattle.file_reader.specs.declared.held.Held.TheVariants as kinds
use Rattle.file_reader.specs.declared.known.Found.{Found}
use Rattle.file_reader.specs.declared.nodes.Ran.{Ran}
use Rattle.file_reader.specs.declared.passing.Passed.{Passed}
use Rattle.file_reader.specs.Beginnings.{IsBeginning}
use Rattle.file_reader.specs.Helds.{parts_of, IsAfter, IsKept, IsStopped}
use Rattle.file_reader.specs.Knowns.{begun_in, IsSteady}
use Rattle.file_reader.specs.Outcomes.{Faulty as Bears, syntax_fault}
use Rattle.file_reader.specs.Passing.{IsPassed}
use Rattle.file_reader.specs.Pieces.{parts, bytes_fed, Comes, IsBad, IsOpen}
use Rattle.file_reader.specs.Runs.{stage_in, IsRun}
use Rattle.file_reader.specs.Stages.{Stage, Head, Nodes, Dead, Parts, outcome}
use Rattle.file_reader.specs.Steps.{Takes}
use Rattle.file_reader.specs.Stretches.{IsStretch}
use Rattle.file_reader.proofs.PieceLaws.{tokens-taken, bad-place, statement-comes, statement-bad, bytes-bad}
use Rattle.file_reader.proofs.RunLaws.{span-size}
use Rattle.file_reader.proofs.StepLaws.{head-step, head-fault-step, dead-step}

-- ---- bytes that were fed

-- piece by piece
pub kept-on : (old : Parts) (done now : List ℕ) (mid new : Held) → IsKept old done mid → IsKept (parts_of mid) now new
    → IsKept old (done ++ now) new
kept-on old done now mid new h k = record {
  held = k.held;
  law = λ rest. ap (outcome old) (append_assoc done now rest) ∙ h.law (now ++ rest) ∙ k.law rest;
  count = omega (arith, h.count, k.count, length-append done now);
}

-- ---- a bad place

unlexed : (old : Parts) (bad : Bad) (p : Place) (n : ℕ) → IsOpen old.stage → n ≡ bytes_fed old → IsBad old bad p
    → IsKept old [] (kinds.Unlexed (fault_of bad p) n)
unlexed old bad p n from size is = record {
  held = tt;
  law = bad-place old (parts_of (kinds.Unlexed (fault_of bad p) n)) bad p from is refl;
  count = omega (arith, size);
}

-- what is found of the bytes that wait: a byte that begins no character, or a bad place of the text before it
abbrev FirstBad : Place → Bool → Valid → Stop → Type 0
FirstBad p c v e = Stops e (lex false p (comment_len c (chars v.text.now)) (chars v.text.now))

abbrev TextBad : Place → Bool → Valid → Stop → Type 0
TextBad p c v e = Stops e (tokens_in (reading p c v.text.now))

module _ (old : Parts) (from : IsOpen old.stage) (v : Valid) (valid : IsValid old.pending v) (n : ℕ)
    (size : n ≡ bytes_fed old) (new : Held) where
  pub bad-first : (e : Stop) → v.cut ≡ false → FirstBad old.place old.comment v e → IsStopped e n new
      → IsKept old [] new
  bad-first stops.OutOfMemory whole bad stopped = absurd stopped
  bad-first (stops.At b p) whole bad stopped =
      subst (IsKept old []) (sym stopped) (unlexed old b p n from size
      (bytes-bad old.stage old.place p old.comment old.pending v.text.now b valid.text (sym valid.cut ∙ whole) bad))

  pub bad-text : (e : Stop) → v.cut ≡ true → TextBad old.place old.comment v e → IsStopped e n new → IsKept old [] new
  bad-text stops.OutOfMemory cut bad stopped = absurd stopped
  bad-text (stops.At b p) cut bad stopped =
      subst (IsKept old []) (sym stopped) (unlexed old b p n from size
      (statement-bad old.stage old.place p old.comment old.pending v.text.now b valid.text (sym valid.cut ∙ cut)
      bad))

-- ---- tokens that are taken

comes-on : (stage after : Stage) (p q : Place) (c d : Bool) (bytes : List ℕ) (v : Valid) (rest new : List ℕ)
    (ts : List Placed) → v.text.now ++ v.tail.now ≡ bytes → new ≡ rest ++ v.tail.now
    → ((more : List ℕ) → tokens_from p c (v.text.now ++ more) ≡ with_tokens ts (tokens_from q d (rest ++ more)))
    → Comes (parts stage p c bytes) ts (parts after q d new)
comes-on stage after p q c d bytes v rest new ts whole is law more =
    ap (λ (b : List ℕ). tokens_from p c (b ++ more)) (sym whole)
    ∙ statement-comes stage after p q c d v.text.now rest v.tail.now ts law more
    ∙ ap (λ (b : List ℕ). with_tokens ts (tokens_from q d (b ++ more))) (sym is)

-- the first of the tokens of the text were taken, and these bytes are left
module _ (stage : Stage) (p q : Place) (c d : Bool) (v : Valid) (rest new : List ℕ) (ts : List Placed)
    (utf8 : IsUtf8 v.text.now) (left : IsUtf8 rest) (taken : HasTaken (reading p c v.text.now) ts (reading q d rest))
    (is : new ≡ rest ++ v.tail.now) where
  front-taken : (after : Stage) → IsOpen stage → IsOpen after → Takes stage ts after → (more : List ℕ)
      → outcome (parts stage p c (v.text.now ++ v.tail.now)) more ≡ outcome (parts after q d new) more
  front-taken after from to takes =
      tokens-taken (parts stage p c (v.text.now ++ v.tail.now)) (parts after q d new) ts from to takes
      (comes-on stage after p q c d (v.text.now ++ v.tail.now) v rest new ts refl is
      (taken-law p q c d v.text.now rest ts utf8 left taken))

  front-count : q.offset + length new ≡ p.offset + length (v.text.now ++ v.tail.now)
  front-count = omega (
    arith,
    taken-count p q c d v.text.now rest ts utf8 left taken,
    ap length is,
    length-append rest v.tail.now,
    length-append v.text.now v.tail.now,
  )

-- ---- the first node

pub front-stretch : (v : Valid) (s : Span) → IsUtf8 v.text.now → IsFront (reading start false v.text.now) s
    → length v.text.now + length v.tail.now < 2 ^ 32 - 1 → IsStretch
    (record { before = 0; place = start; comment = false; text = v.text; count = s.tokens })
front-stretch v s utf8 h room = record {
  room = record { offset = omega (arith, room); line = omega arith; column = omega arith };
  within = h.within;
  few = omega (arith, room, h.count, ap length (encodes-chars v.text.now utf8));
}

module _ (v : Valid) (s : Span) (utf8 : IsUtf8 v.text.now) (h : IsFront (reading start false v.text.now) s)
    (bytes : Vec ℕ) (is : bytes.items ≡ s.rest.now ++ v.tail.now) where
  abbrev us : List Placed
  us = front_tokens s.tokens (reading start false v.text.now)

  abbrev before : Parts
  before = parts (Head []) start false (v.text.now ++ v.tail.now)

  front-size : length us ≡ s.tokens
  front-size = span-size (reading start false v.text.now) s h

  pub begins-running : (b : Beginning) (enough : ℕ) → IsBeginning us [] b
      → IsKept before [] (kinds.Running (record {
        known = b.known;
        found = b.found;
        place = s.place;
        comment = s.comment;
        waiting = bytes;
        enough = enough;
      }))
  begins-running b enough begun = record {
    held = record {
      few = omega (
        arith,
        begun.tokens,
        ap length all,
        front-size,
        h.count,
        ap length (encodes-chars v.text.now utf8),
        taken-count start s.place false s.comment v.text.now s.rest.now us utf8 h.utf8 h.taken,
      );
      small = (h.room.line, h.room.column);
      steady = begun.steady;
    };
    law = front-taken (Head []) start s.place false s.comment v s.rest.now bytes.items us utf8 h.utf8 h.taken is
        (Nodes (begun_in b.known b.found)) tt tt (subst (λ (ts : List Placed). Takes (Head []) ts
        (Nodes (begun_in b.known b.found))) all begun.takes);
    count = omega
        (arith, front-count (Head []) start s.place false s.comment v s.rest.now bytes.items us utf8 h.utf8 h.taken is);
  }
    where
      none : (ts : List Placed) → [] ≡ map word_of ts → ts ≡ []
      none [] e = refl
      none (t ∷ ts) e = absurd cc

      all : begun.taken ≡ us
      all = sym (append-nil begun.taken) ∙ ap (λ (ts : List Placed). begun.taken ++ ts)
          (sym (none begun.left begun.words)) ∙ sym begun.all

  dead-takes : (left : ℕ) (fault : ReadFault) → 0 < left → file.read (map word_of us) ≡ Err left
      → syntax_fault 0 us left ≡ fault → Takes (Head []) us (Dead fault)
  dead-takes zero fault some e told ts = absurd (omega (arith, some))
  dead-takes (suc left) fault some e told ts = head-step [] us ts ∙ head-fault-step us left e ts
      ∙ ap (λ f. Bears f) told

  pub begins-faulty : (left : ℕ) (fault : ReadFault) (enough : ℕ) → 0 < left → file.read (map word_of us) ≡ Err left
      → fault ≡ syntax_fault 0 us left → IsKept before [] (kinds.Faulty
      (record { fault = fault; place = s.place; comment = s.comment; waiting = bytes; enough = enough }))
  begins-faulty left fault enough some e told = record {
    held = (h.room.line, h.room.column);
    law = front-taken (Head []) start s.place false s.comment v s.rest.now bytes.items us utf8 h.utf8 h.taken is
        (Dead fault) tt tt (dead-takes left fault some e (sym told));
    count = omega
        (arith, front-count (Head []) start s.place false s.comment v s.rest.now bytes.items us utf8 h.utf8 h.taken is);
  }

-- ---- nodes

module _ (r : Running) (v : Valid) (x : Ran) (f : Found) (bytes : List ℕ) (utf8 : IsUtf8 v.text.now)
    (whole : v.text.now ++ v.tail.now ≡ r.waiting.items) (h : IsRun r.place r.comment v.text.now r.known r.found f x)
    (is : bytes ≡ x.rest.now ++ v.tail.now) where
  abbrev old : Parts
  old = parts_of (kinds.Running r)

  law-to : (after : Stage) → IsOpen after → Takes (Nodes (begun_in r.known r.found)) h.tokens after → (more : List ℕ)
      → outcome old more ≡ outcome (parts after x.place x.comment bytes) more
  law-to after going takes more =
      ap (λ (b : List ℕ). outcome (parts (Nodes (begun_in r.known r.found)) r.place r.comment b) more) (sym whole)
      ∙ front-taken (Nodes (begun_in r.known r.found))
      r.place x.place r.comment x.comment v x.rest.now bytes h.tokens utf8 h.utf8 h.taken is after tt going takes
      more

  pub runs-count : x.place.offset + length bytes ≡ r.place.offset + length r.waiting.items
  runs-count = omega (
    arith,
    front-count (Nodes (begun_in r.known r.found))
        r.place x.place r.comment x.comment v x.rest.now bytes h.tokens utf8 h.utf8 h.taken is,
    ap length whole,
  )

  pub runs-on : (new : Held) → IsAfter r.known f x bytes new → IsKept old [] new
  runs-on (kinds.Opening o) a = absurd a
  runs-on (kinds.Unlexed fault n) a = absurd a
  runs-on (kinds.Lost n) a = absurd a
  runs-on (kinds.Running y) a = record {
    held = record {
      few = omega (arith, h.few, ap (λ (g : Found). g.tokens) found, ap (λ (p : Place). p.offset) place);
      small = (
        omega (arith, h.room.line, ap (λ (p : Place). p.line) place, ap (λ (p : Place). p.offset) place),
        omega (arith, h.room.column, ap (λ (p : Place). p.column) place, ap (λ (p : Place). p.offset) place),
      );
      steady = subst (λ (g : Found). IsSteady y.known g) (sym found) (subst (λ k. IsSteady k f) (sym a.1) h.steady);
    };
    law = λ more. law-to (Nodes (begun_in r.known f)) tt (subst
        (λ (d : Option ReadFault). Takes (Nodes (begun_in r.known r.found)) h.tokens (stage_in r.known f d))
        a.0 h.takes) more ∙ (λ i. outcome (parts (Nodes (begun_in (sym a.1 i) (sym found i))) (sym place i) (sym a.4 i)
        (sym a.5 i)) more);
    count = omega (arith, runs-count, ap length a.5, ap (λ (p : Place). p.offset) place);
  }
    where
      found : y.found ≡ f
      found = a.2

      place : y.place ≡ x.place
      place = a.3
  runs-on (kinds.Faulty y) a = record {
    held = (
      omega (arith, h.room.line, ap (λ (p : Place). p.line) a.1, ap (λ (p : Place). p.offset) a.1),
      omega (arith, h.room.column, ap (λ (p : Place). p.column) a.1, ap (λ (p : Place). p.offset) a.1),
    );
    law = λ more. law-to (Dead y.fault) tt (subst (λ (d : Option ReadFault). Takes (Nodes (begun_in r.known r.found))
        h.tokens (stage_in r.known f d)) a.0 h.takes) more ∙
        (λ i. outcome (parts (Dead y.fault) (sym a.1 i) (sym a.2 i) (sym a.3 i)) more);
    count = omega (arith, runs-count, ap length a.3, ap (λ (p : Place). p.offset) a.1);
  }

-- ---- tokens that are passed

pub faulty-passes : (f : Faulty) (v : Valid) (to : Passed) (new : Vec ℕ) (enough : ℕ) → IsValid f.waiting.items v
    → IsPassed f.place f.comment v.text.now to → new.items ≡ to.rest.now ++ v.tail.now
    → IsKept (parts_of (kinds.Faulty f)) [] (kinds.Faulty (record
    { fault = f.fault; place = to.place; comment = to.comment; waiting = new; enough = enough }))
faulty-passes f v to new enough valid h is = record {
  held = (h.room.line, h.room.column);
  law = tokens-taken (parts_of (kinds.Faulty f)) (parts (Dead f.fault) to.place to.comment new.items) h.tokens tt tt
      (dead-step f.fault h.tokens) (comes-on (Dead f.fault) (Dead f.fault)
      f.place to.place f.comment to.comment f.waiting.items v to.rest.now new.items h.tokens valid.whole is h.law);
  count = omega (
    arith,
    h.size,
    ap length (sym valid.whole) ∙ length-append v.text.now v.tail.now,
    ap length is
        ∙ length-append to.rest.now v.tail.now,
  );
}
