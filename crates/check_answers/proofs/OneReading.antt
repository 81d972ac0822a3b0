-- A format reads each text in one way.
use Rattle.std.proofs.Common.{◌≡◌, ◌⊎◌, inl, inr, ℕ, List, Result, Ok, Err, refl, sym, ap, subst}
use Rattle.cyc_lex.specs.declared.fault.LexFault.{LexFault}
use Rattle.cyc_lex.specs.declared.fault.ReadFault.{ReadFault}
use Rattle.cyc_lex.specs.declared.fault.ReadFault.TheVariants as faults
use Rattle.cyc_lex.specs.Lexing.{tokens_of}
use Rattle.cyc_lex.specs.Placed.{Placed}
use Rattle.cyc_grammar.proofs.Laws.{Lawful}
use Rattle.heap_reader.specs.declared.flaw.Item.TheVariants.{Ill, Over}
use Rattle.heap_reader.specs.Reading.{Format, IsLexFault, IsRead, IsReadFrom}
use Rattle.heap_reader.proofs.Readings.{no_tokens, ok_tokens, no_syntax_fault, no_flaw, one_flaw, one_value}
use Rattle.check_answers.specs.Alike.{AreAlike}
use Rattle.check_answers.proofs.OneFault.{one_first_flaw, one_lex_fault, one_syntax_fault}

module _ {T V : Type 0} (format : Format T V) (law : Lawful format.syntax) (Same : V → V → Type 0)
    (says_one : (t : T) (v w : V) → format.Says t v → format.Says t w → Same v w) where
  -- a place without a token, or what the tokens say
  ReadsBytes : List ℕ → Result V ReadFault → Type 0
  ReadsBytes bytes r =
      ((fault : LexFault) × (r ≡ Err (faults.Lex fault)) × IsLexFault bytes fault)
      ⊎ ((ts : List Placed) × (tokens_of bytes ≡ Ok ts) × IsReadFrom format ts r)

  parted : (bytes : List ℕ) (r : Result V ReadFault) → IsRead format bytes r → ReadsBytes bytes r
  unfolding ReadsBytes
  parted bytes (Ok v) h = inr h
  parted bytes (Err (faults.Lex fault)) h = inl (fault, refl, h)
  parted bytes (Err (faults.Syntax k l c)) h = inr h
  parted bytes (Err (faults.IllFormed a k l c)) h = inr h
  parted bytes (Err (faults.Limit a k l c)) h = inr h
  parted bytes (Err faults.OutOfMemory) h = absurd h

  -- tokens are read in one way
  tokens_alike : (ts : List Placed) (r s : Result V ReadFault) → IsReadFrom format ts r → IsReadFrom format ts s
      → AreAlike Same r s
  tokens_alike ts (Err (faults.Lex a)) s first second = absurd first
  tokens_alike ts (Err faults.OutOfMemory) s first second = absurd first
  tokens_alike ts r (Err (faults.Lex b)) first second = absurd second
  tokens_alike ts r (Err faults.OutOfMemory) first second = absurd second
  tokens_alike ts (Ok v) (Ok w) first second = one_value format law Same says_one ts v w first second
  tokens_alike ts (Ok v) (Err (faults.Syntax k l c))
      first second = no_syntax_fault format law ts first.0 k l c first.1 second
  tokens_alike ts (Ok v) (Err (faults.IllFormed b k l c)) first second = no_flaw format law ts v (Ill b)
      k l c first second
  tokens_alike ts (Ok v) (Err (faults.Limit b k l c)) first second = no_flaw format law ts v (Over b) k l c first second
  tokens_alike ts (Err (faults.Syntax k l c)) (Ok w)
      first second = no_syntax_fault format law ts second.0 k l c second.1 first
  tokens_alike ts (Err (faults.Syntax k l c)) (Err (faults.Syntax k' l' c')) first second =
      one_syntax_fault format.syntax ts k l c k' l' c' first second
  tokens_alike ts (Err (faults.Syntax k l c)) (Err (faults.IllFormed b k' l' c')) first second = absurd
      (no_syntax_fault format law ts second.0 k l c second.1 first)
  tokens_alike ts (Err (faults.Syntax k l c)) (Err (faults.Limit b k' l' c')) first second = absurd
      (no_syntax_fault format law ts second.0 k l c second.1 first)
  tokens_alike ts (Err (faults.IllFormed a k l c)) (Ok w) first second = no_flaw format law ts w (Ill a)
      k l c second first
  tokens_alike ts (Err (faults.IllFormed a k l c)) (Err (faults.Syntax k' l' c')) first second = absurd
      (no_syntax_fault format law ts first.0 k' l' c' first.1 second)
  tokens_alike ts (Err (faults.IllFormed a k l c)) (Err (faults.IllFormed b k' l' c')) first second =
      one_first_flaw format law ts (Ill a) (Ill b) k l c k' l' c' first second
  tokens_alike ts (Err (faults.IllFormed a k l c)) (Err (faults.Limit b k' l' c')) first second =
      absurd (let e : Ill a ≡ Over b = one_flaw format law ts (Ill a) (Over b) k l c k' l' c' first second in cc)
  tokens_alike ts (Err (faults.Limit a k l c)) (Ok w) first second = no_flaw format law ts w (Over a) k l c second first
  tokens_alike ts (Err (faults.Limit a k l c)) (Err (faults.Syntax k' l' c')) first second = absurd
      (no_syntax_fault format law ts first.0 k' l' c' first.1 second)
  tokens_alike ts (Err (faults.Limit a k l c)) (Err (faults.IllFormed b k' l' c')) first second =
      absurd (let e : Over a ≡ Ill b = one_flaw format law ts (Over a) (Ill b) k l c k' l' c' first second in cc)
  tokens_alike ts (Err (faults.Limit a k l c)) (Err (faults.Limit b k' l' c')) first second =
      one_first_flaw format law ts (Over a) (Over b) k l c k' l' c' first second

  bytes_alike : (bytes : List ℕ) (r s : Result V ReadFault) → ReadsBytes bytes r → ReadsBytes bytes s
      → AreAlike Same r s
  unfolding ReadsBytes
  bytes_alike bytes r s (inl a) (inl b) =
      subst (λ q. AreAlike Same q s) (sym a.1) (subst (λ q. AreAlike Same (Err (faults.Lex a.0)) q) (sym b.1)
      (ap faults.Lex (one_lex_fault bytes a.0 b.0 a.2 b.2)))
  bytes_alike bytes r s (inl a) (inr b) = absurd (no_tokens bytes a.0 b.0 a.2 b.1)
  bytes_alike bytes r s (inr a) (inl b) = absurd (no_tokens bytes b.0 a.0 b.2 a.1)
  bytes_alike bytes r s (inr a) (inr b) =
      tokens_alike a.0 r s a.2 (subst (λ ts. IsReadFrom format ts s) (ok_tokens a.0 b.0 bytes a.1 b.1) b.2)

  -- bytes are read in one way
  pub one_reading : (bytes : List ℕ) (r s : Result V ReadFault) → IsRead format bytes r → IsRead format bytes s
      → AreAlike Same r s
  one_reading bytes r s first second = bytes_alike bytes r s (parted bytes r first) (parted bytes s second)
