-- What a loop over tokens keeps.
use Rattle.std.proofs.Common.{◌≡◌, ℕ, ◌+◌, ◌≤◌, Bool, true, false, List, [], ◌∷◌, ◌++◌, length, take, map, Some, None}
use Rattle.std.proofs.Common.{Option, refl, sym, ap, subst, ◌∙◌, arith, length-append, append_assoc}
use Rattle.std.specs.List.{list_any}
use Rattle.std.specs.Str.{encode_utf8_all, IsUtf8}
use Rattle.std.proofs.lemmas.List.{take_at, map-append}
use Rattle.std.proofs.lemmas.Str.{encodes-chars}
use Rattle.cyc_lex.specs.declared.place.Place.{Place}
use Rattle.cyc_lex.specs.declared.token.Token.{Token}
use Rattle.cyc_lex.specs.Placed.{Placed, placed}
use Rattle.cyc_lex.specs.Word.{word_of, are_lexemes}
use Rattle.cyc_lex.specs.Lexing.{HasRoom}
use Rattle.piecewise_lex.specs.declared.taking.Taken.{Taken}
use Rattle.piecewise_lex.specs.declared.spans.Span.{Span}
use Rattle.piecewise_lex.specs.Taking.{Reading, reading, cut_in, HasTaken, Waits, listed, IsTaken}
use Rattle.piecewise_lex.specs.Spans.{is_semicolon, Ends, IsFront, IsSpan, front_tokens}
use Rattle.piecewise_lex.proofs.TakingLaws.{taken-none}
use Rattle.piecewise_lex.proofs.FrontLaws.{one-more, lexeme-one, fewer-bytes-left, none-left, all-wait, none-more-left}
use Rattle.piecewise_lex.proofs.FrontLaws.{lexemes-more}

-- these tokens, so many, were passed
pub record ArePassed (r : Reading) (ts : List Placed) (n : ℕ) (p : Place) (comment : Bool) (rest : List ℕ)
    : Type 0 where
  pub taken : HasTaken r ts (reading p comment rest)
  pub cut : cut_in r ≡ ts ++ cut_in (reading p comment rest)
  pub size : length ts ≡ n
  pub room : HasRoom p (length rest)
  pub utf8 : IsUtf8 rest
  pub lexemes : are_lexemes (map word_of ts) ≡ true
  pub count : n + length rest ≤ length (encode_utf8_all r.chars)

-- at most so many are kept, and where so many are, they are all
pub record AreKept (ts : List Placed) (n : ℕ) (kept : List Token) : Type 0 where
  pub few : length kept ≤ n
  pub all : length kept ≡ n → map placed kept ≡ ts

-- some tokens, so many, were passed
pub record IsOn (r : Reading) (n : ℕ) (p : Place) (comment : Bool) (rest : List ℕ) (held : List Token) : Type 0 where
  pub ts : List Placed
  pub passed : ArePassed r ts n p comment rest
  pub kept : AreKept ts n held

-- none of them is a ';'
pub record IsPassing (r : Reading) (n : ℕ) (p : Place) (comment : Bool) (rest : List ℕ) (held : List Token)
    : Type 0 where
  pub ts : List Placed
  pub passed : ArePassed r ts n p comment rest
  pub none : list_any is_semicolon ts ≡ false
  pub kept : AreKept ts n held

none-passed-yet : (p : Place) (comment : Bool) (text : List ℕ) → HasRoom p (length text) → IsUtf8 text
    → ArePassed (reading p comment text) [] 0 p comment text
none-passed-yet p comment text room utf8 = record {
  taken = taken-none (reading p comment text);
  cut = refl;
  size = refl;
  room = room;
  utf8 = utf8;
  lexemes = refl;
  count = omega (arith, ap length (encodes-chars text utf8));
}

none-kept : (kept : List Token) → kept ≡ [] → AreKept [] 0 kept
none-kept kept empty = record { few = omega (arith, ap length empty); all = λ _. ap (map placed) empty }

pub on-start : (p : Place) (comment : Bool) (text : List ℕ) (kept : List Token) → HasRoom p (length text) → IsUtf8 text
    → kept ≡ [] → IsOn (reading p comment text) 0 p comment text kept
on-start p comment text kept room utf8 empty = record
    { ts = []; passed = none-passed-yet p comment text room utf8; kept = none-kept kept empty }

pub passing-start : (p : Place) (comment : Bool) (text : List ℕ) (kept : List Token) → HasRoom p (length text)
    → IsUtf8 text → kept ≡ [] → IsPassing (reading p comment text) 0 p comment text kept
passing-start p comment text kept room utf8 empty = record {
  ts = [];
  passed = none-passed-yet p comment text room utf8;
  none = refl;
  kept = none-kept kept empty;
}

-- a token more, which is kept or not
pub kept-more : (ts : List Placed) (token : Token) (n : ℕ) (kept new : List Token) → AreKept ts n kept
    → new ≡ kept ++ token ∷ [] → AreKept (ts ++ placed token ∷ []) (n + 1) new
kept-more ts token n kept new h is =
    let size : length new ≡ length kept + 1 = ap length is ∙ length-append kept (token ∷ []) in
    record {
      few = omega (arith, h.few, size);
      all = λ whole. ap (map placed) is ∙ map-append placed kept (token ∷ [])
          ∙ ap (λ (us : List Placed). us ++ placed token ∷ []) (h.all (omega (arith, size, whole)));
    }

pub kept-no-more : (ts : List Placed) (token : Token) (n : ℕ) (kept : List Token) → AreKept ts n kept
    → AreKept (ts ++ placed token ∷ []) (n + 1) kept
kept-no-more ts token n kept h = record {
  few = omega (arith, h.few);
  all = λ whole. absurd (omega (arith, h.few, whole));
}

module _ (r : Reading) (ts : List Placed) (n : ℕ) (p : Place) (comment : Bool) (rest : List ℕ) (t : Taken)
    (h : ArePassed r ts n p comment rest) (step : IsTaken p comment rest t) where
  abbrev before : Reading
  before = reading p comment rest

  abbrev after : Reading
  after = reading t.place t.comment t.rest.now

  pub one-passed : (token : Token) → t.token ≡ Some token
      → ArePassed r (ts ++ placed token ∷ []) (n + 1) t.place t.comment t.rest.now
  one-passed token is = record {
    taken = one-more r before rest t ts h.taken step.taken step.nearer token is;
    cut = h.cut ∙ ap (λ us. ts ++ us) (step.cut ∙ ap (λ (o : Option Token). listed o ++ cut_in after) is)
        ∙ sym (append_assoc ts (placed token ∷ []) (cut_in after));
    size = omega (arith, h.size, length-append ts (placed token ∷ []));
    room = step.room;
    utf8 = step.utf8;
    lexemes = lexemes-more ts (placed token) h.lexemes
        (lexeme-one r before rest t ts h.taken step.taken step.nearer token is);
    count = omega (
      arith,
      h.count,
      ap length (encodes-chars rest h.utf8),
      fewer-bytes-left r before rest t ts h.taken step.taken step.nearer token is,
    );
  }

  pub none-passed : t.token ≡ None → ArePassed r ts n t.place t.comment t.rest.now × Waits after
  none-passed is = (
    record {
      taken = none-left r before rest t ts h.taken step.taken step.nearer is;
      cut = h.cut ∙ ap (λ us. ts ++ us) (step.cut ∙ ap (λ (o : Option Token). listed o ++ cut_in after) is);
      size = h.size;
      room = step.room;
      utf8 = step.utf8;
      lexemes = h.lexemes;
      count = omega (
        arith,
        h.count,
        ap length (encodes-chars rest h.utf8),
        none-more-left r before rest t ts h.taken step.taken step.nearer step.utf8 is,
      );
    },
    all-wait r before rest t ts h.taken step.taken step.nearer is,
  )

front-is : (r : Reading) (ts : List Placed) (s : Span) → ArePassed r ts s.tokens s.place s.comment s.rest.now
    → ts ≡ front_tokens s.tokens r
front-is r ts s h = sym (ap (take s.tokens) h.cut ∙ take_at ts (cut_in (reading s.place s.comment s.rest.now))
    s.tokens h.size)

-- what was passed is the front of all the tokens
pub is-front : (r : Reading) (ts : List Placed) (s : Span) → ArePassed r ts s.tokens s.place s.comment s.rest.now
    → IsFront r s
is-front r ts s h =
    let front = front-is r ts s h in
    record {
      within = omega (arith, h.size, ap length h.cut, length-append ts (cut_in (reading s.place s.comment s.rest.now)));
      taken = subst (λ (us : List Placed). HasTaken r us (reading s.place s.comment s.rest.now)) front h.taken;
      room = h.room;
      utf8 = h.utf8;
      lexemes = subst (λ (us : List Placed). are_lexemes (map word_of us) ≡ true) front h.lexemes;
      count = h.count;
    }

pub is-span : (r : Reading) (ts : List Placed) (s : Span) → ArePassed r ts s.tokens s.place s.comment s.rest.now
    → Ends s.ended ts (reading s.place s.comment s.rest.now) → IsSpan r s
is-span r ts s h ends = record {
  front = is-front r ts s h;
  ends = subst (λ (us : List Placed). Ends s.ended us (reading s.place s.comment s.rest.now)) (front-is r ts s h) ends;
}
