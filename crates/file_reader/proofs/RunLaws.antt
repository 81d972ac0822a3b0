-- Statement by statement from the first node on.
use Rattle.std.proofs.Common.{◌≡◌, ℕ, zero, suc, ◌+◌, ◌≤◌, ◌<◌, ◌^◌, Bool, true, false, List, [], ◌∷◌, ◌++◌, length}
use Rattle.std.proofs.Common.{Option, Some, None, Result, Ok, Err, refl, sym, ap, subst, ◌∙◌, arith, length-append}
use Rattle.std.proofs.Common.{append_assoc}
use Rattle.std.specs.Prelude.{map, IfOk}
use Rattle.std.specs.Borrow.{Bor}
use Rattle.std.specs.Str.{IsUtf8}
use Rattle.std.proofs.lemmas.List.{length-map, length-take-le}
use Rattle.std.proofs.lemmas.Str.{encodes-chars}
use Rattle.cyc_lex.specs.declared.fault.ReadFault.{ReadFault}
use Rattle.cyc_lex.specs.declared.place.Place.{Place}
use Rattle.cyc_lex.specs.Lexing.{HasRoom}
use Rattle.cyc_lex.specs.Placed.{Placed}
use Rattle.cyc_lex.specs.Word.{Word, word_of, is_lexeme, are_lexemes}
use Rattle.cyc_lex.proofs.BoolParts.{and-parts}
use Rattle.cyc_grammar.specs.Syntax.{read_one, read_class}
use Rattle.cyc_grammar.specs.Classes.{the_end, are_tokens}
use Rattle.cyc_grammar.specs.Giving.{Fails}
use Rattle.cyc_grammar.specs.declared.cursor.Refusal.{Refusal}
use Rattle.cyc_grammar.specs.declared.cursor.Refusal.TheVariants as refusals
use Rattle.piecewise_lex.specs.declared.spans.Span.{Span}
use Rattle.piecewise_lex.specs.Spans.{Ends, IsFront, front_tokens}
use Rattle.piecewise_lex.specs.Taking.{Reading as Text, reading, cut_in, HasTaken}
use Rattle.piecewise_lex.proofs.TakingBytes.{taken-count}
use Rattle.piecewise_lex.proofs.TakingLaws.{taken-none, taken-more}
use Rattle.proof_syntax.specs.Left.{Nodes as Among, statement_of, kept_statement}
use Rattle.proof_syntax.proofs.LeftLaws.{statement-law}
use Rattle.file_reader.specs.declared.known.KnownFront.{KnownFront}
use Rattle.file_reader.specs.declared.known.Found.{Found}
use Rattle.file_reader.specs.declared.nodes.NodeStep.{NodeStep}
use Rattle.file_reader.specs.declared.nodes.NodeStep.TheVariants as steps
use Rattle.file_reader.specs.Outcomes.{syntax_fault}
use Rattle.file_reader.specs.Stages.{Stage, Nodes, Dead, ahead}
use Rattle.file_reader.specs.Steps.{Takes}
use Rattle.file_reader.specs.Fronts.{kept}
use Rattle.file_reader.specs.Knowns.{begun_in, IsSteady}
use Rattle.file_reader.specs.Runs.{IsStep, IsStepTaken, IsStepDead, IsRefused, IsRun}
use Rattle.file_reader.specs.Stretches.{IsStretch}
use Rattle.file_reader.proofs.KeptParts.{dead-kept}
use Rattle.file_reader.proofs.StepLaws.{fault-within, node-fault-step, ended-step}

-- ---- one statement

-- a dead token
node-dies : (k : KnownFront) (ts : List Placed) (old : Found) (left : ℕ) → old.ended ≡ false
    → (statement_of Among).read (map word_of ts) ≡ Err left → 0 < left → IsStepDead k ts old old left
node-dies k ts old zero going e some = absurd (omega (arith, some))
node-dies k ts old (suc left) going e some = record {
  same = refl;
  within = omega (
    arith,
    fault-within (statement_of Among) (statement-law Among) (map word_of ts) (suc left) e,
    length-map ts word_of,
  );
  takes = node-fault-step (begun_in k old) ts left going e;
}

pub node-refused : {E : Type 0} (k : KnownFront) (ts : List Placed) (old : Found) (e : Refusal)
    (result : Result NodeStep E) → old.ended ≡ false → Fails e ((kept_statement kept Among).read (map word_of ts))
    → IfOk result (IsRefused e) → IfOk result (IsStep k ts old old)
node-refused k ts old e (Err x) going h r = tt
node-refused k ts old refusals.OutOfMemory (Ok s) going h r = absurd r
node-refused k ts old (refusals.Dead n) (Ok steps.Open) going h r = refl
node-refused k ts old (refusals.Dead n) (Ok steps.Taken) going h r = absurd r
node-refused k ts old (refusals.Dead n) (Ok (steps.Dead left)) going h r =
    node-dies k ts old left going (dead-kept Among (map word_of ts) n h ∙ ap (λ m. Err m) (sym r.0)) r.1

abbrev dead_at : {A : Type 0} → Result A ℕ → ℕ
dead_at (Ok x) = 0
dead_at (Err n) = n

end-dies : (k : KnownFront) (ts : List Placed) (old : Found) (left : ℕ) → old.ended ≡ true
    → read_class the_end (map word_of ts) ≡ Err left → 0 < left → IsStepDead k ts old old left
end-dies k [] old left over e some = absurd (omega (arith, some, ap dead_at e))
end-dies k (t ∷ ts) old left over e some = by (the_end.value (word_of t)) refl e
  where
    by : (o : Option (Unit {0})) → the_end.value (word_of t) ≡ o → read_one o (word_of t) (map word_of ts) ≡ Err left
        → IsStepDead k (t ∷ ts) old old left
    by (Some u) is h = absurd cc
    by None is h =
        let all : left ≡ suc (length ts) = omega (arith, ap dead_at h, length-map ts word_of) in
        record {
          same = refl;
          within = omega (arith, all);
          takes = subst (λ (n : ℕ). Takes (Nodes (begun_in k old)) (t ∷ ts) (Dead (syntax_fault old.tokens (t ∷ ts) n)))
              (sym all) (ended-step (begun_in k old) t ts over is);
        }

pub end-refused : {E : Type 0} (k : KnownFront) (ts : List Placed) (old : Found) (e : Refusal)
    (result : Result NodeStep E) → old.ended ≡ true → Fails e (read_class the_end (map word_of ts))
    → IfOk result (IsRefused e) → IfOk result (IsStep k ts old old)
end-refused k ts old e (Err x) over h r = tt
end-refused k ts old refusals.OutOfMemory (Ok s) over h r = absurd r
end-refused k ts old (refusals.Dead n) (Ok steps.Open) over h r = refl
end-refused k ts old (refusals.Dead n) (Ok steps.Taken) over h r = absurd r
end-refused k ts old (refusals.Dead n) (Ok (steps.Dead left)) over h r =
    end-dies k ts old left over (h ∙ ap (λ m. Err m) (sym r.0)) r.1

-- ---- lexemes are tokens

pub tokens-of-lexemes : (ws : List Word) → are_lexemes ws ≡ true → are_tokens ws ≡ true
tokens-of-lexemes [] h = refl
tokens-of-lexemes (w ∷ ws) h = let t = and-parts (is_lexeme w) (are_lexemes ws) h in
    rw (t.0, tokens-of-lexemes ws t.1) refl

-- ---- many statements

pub ended-some : (ts : List Placed) (ended : Bool) (left : Text) → Ends ended ts left → ended ≡ true → 0 < length ts
ended-some ts false left ends is = absurd cc
ended-some ts true left ends is = omega (arith, ap length ends.all, length-append ends.body (ends.last ∷ []))

-- a statement has so many tokens
pub span-size : (r : Text) (s : Span) → IsFront r s → length (front_tokens s.tokens r) ≡ s.tokens
span-size r s k = length-take-le s.tokens (cut_in r) k.within

takes-more : (a b c : Stage) (ts us : List Placed) → Takes a ts b → Takes b us c → Takes a (ts ++ us) c
takes-more a b c ts us h k vs = ap (ahead a) (append_assoc ts us vs) ∙ h (us ++ vs) ∙ k vs

-- what was read so far of a text, where no token was dead
pub record SoFar (p : Place) (comment : Bool) (text : List ℕ) (k : KnownFront) (old new : Found) (q : Place) (d : Bool)
    (rest : List ℕ) : Type 0 where
  pub tokens : List Placed
  pub taken : HasTaken (reading p comment text) tokens (reading q d rest)
  pub room : HasRoom q (length rest)
  pub utf8 : IsUtf8 rest
  pub few : new.tokens ≤ q.offset
  pub takes : Takes (Nodes (begun_in k old)) tokens (Nodes (begun_in k new))
  pub steady : IsSteady k new

module _ (p : Place) (comment : Bool) (text : List ℕ) (k : KnownFront) (old : Found) where
  pub run-none : HasRoom p (length text) → IsUtf8 text → old.tokens ≤ p.offset → IsSteady k old
      → SoFar p comment text k old old p comment text
  run-none room utf8 few steady = record {
    tokens = [];
    taken = taken-none (reading p comment text);
    room = room;
    utf8 = utf8;
    few = few;
    takes = λ us. refl;
    steady = steady;
  }

  -- all that is told of it
  pub run-told : (new : Found) (q : Place) (d : Bool) (rest : Bor (List ℕ))
      → SoFar p comment text k old new q d rest.now → IsRun p comment text k old new
      (record { dead = None; place = q; comment = d; rest = rest })
  run-told new q d rest h = record {
    tokens = h.tokens;
    taken = h.taken;
    room = h.room;
    utf8 = h.utf8;
    few = h.few;
    takes = h.takes;
    steady = h.steady;
  }

  module _ (mid : Found) (q : Place) (d : Bool) (rest : List ℕ) (h : SoFar p comment text k old mid q d rest) (s : Span)
      (f : IsFront (reading q d rest) s) where
    abbrev here : Text
    here = reading q d rest

    abbrev us : List Placed
    us = front_tokens s.tokens here

    far : s.place.offset + length s.rest.now ≡ q.offset + length rest
    far = taken-count q s.place d s.comment rest s.rest.now us h.utf8 f.utf8 f.taken

    pub span-bytes : s.tokens + length s.rest.now ≤ length rest
    span-bytes = omega (arith, f.count, ap length (encodes-chars rest h.utf8))

    span-few : mid.tokens + s.tokens < 2 ^ 32
    span-few = omega (arith, h.few, span-bytes, h.room.offset)

    taken-on : HasTaken (reading p comment text) (h.tokens ++ us) (reading s.place s.comment s.rest.now)
    taken-on = taken-more (reading p comment text) here (reading s.place s.comment s.rest.now)
        h.tokens us h.taken f.taken

    pub run-on : (new : Found) → IsStepTaken k us mid new → SoFar p comment text k old new s.place s.comment s.rest.now
    run-on new step = record {
      tokens = h.tokens ++ us;
      taken = taken-on;
      room = f.room;
      utf8 = f.utf8;
      few = omega (arith, h.few, step.tokens, far, span-bytes, span-size here s f);
      takes = takes-more (Nodes (begun_in k old)) (Nodes (begun_in k mid)) (Nodes (begun_in k new))
          h.tokens us h.takes step.takes;
      steady = step.steady;
    }

    pub run-dies : (new : Found) (left : ℕ) (fault : ReadFault) → fault ≡ syntax_fault mid.tokens us left
        → IsStepDead k us mid new left → IsRun p comment text k old new
        (record { dead = Some fault; place = s.place; comment = s.comment; rest = s.rest })
    run-dies new left fault is step = record {
      tokens = h.tokens ++ us;
      taken = taken-on;
      room = f.room;
      utf8 = f.utf8;
      few = omega (arith, h.few, ap (λ (x : Found). x.tokens) step.same, far, span-bytes);
      takes = subst (λ (e : ReadFault). Takes (Nodes (begun_in k old)) (h.tokens ++ us) (Dead e)) (sym is)
          (takes-more (Nodes (begun_in k old)) (Nodes (begun_in k mid)) (Dead (syntax_fault mid.tokens us left))
          h.tokens us h.takes step.takes);
      steady = subst (λ (x : Found). IsSteady k x) (sym step.same) h.steady;
    }

  -- the tokens of the next statement
  pub run-stretch : (mid : Found) (q : Place) (d : Bool) (rest : Bor (List ℕ))
      (h : SoFar p comment text k old mid q d rest.now) (s : Span) → IsFront (reading q d rest.now) s
      → IsStretch (record { before = mid.tokens; place = q; comment = d; text = rest; count = s.tokens })
  run-stretch mid q d rest h s f = record { room = h.room; within = f.within; few = span-few mid q d rest.now h s f }
