-- Reading a part of a text.
use Rattle.std.proofs.Common.{◌≡◌, ℕ, zero, suc, ◌+◌, ◌-◌, ◌<◌, ◌≤◌, true, List, [], ◌∷◌, ◌++◌, length, take, drop, Ok}
use Rattle.std.proofs.Common.{Err, refl, sym, ap, subst, ◌∙◌, arith, length-append, append_assoc}
use Rattle.std.specs.Prelude.{map}
use Rattle.std.proofs.lemmas.List.{take_at, append-nil, length-drop, length-map, take_all, drop-drop, drop_at}
use Rattle.std.proofs.lemmas.List.{nil_from_length}
use Rattle.cyc_lex.specs.declared.fault.ReadFault.{ReadFault}
use Rattle.cyc_lex.specs.declared.fault.ReadFault.TheVariants as faults
use Rattle.cyc_lex.specs.declared.token.Token.{Token}
use Rattle.cyc_lex.specs.Placed.{Placed, placed}
use Rattle.cyc_grammar.specs.declared.cursor.Refusal.{Refusal}
use Rattle.cyc_grammar.specs.declared.cursor.Refusal.TheVariants.{Dead, OutOfMemory}
use Rattle.cyc_grammar.specs.Giving.{words, Fails, IsTold, IsWithin}
use Rattle.cyc_grammar.proofs.Ends.{Inner}
use Rattle.cyc_grammar.proofs.WholeTexts.{words-placed, all-tokens}
use Rattle.cyc_lex.proofs.BoolParts.{and-parts}
use Rattle.cyc_lex.specs.Word.{Word, word, word_of, end_word, is_lexeme, are_lexemes, EndsOnce}
use Rattle.cyc_grammar.specs.Syntax.{Syntax}
use Rattle.cyc_grammar.specs.Classes.{is_token, are_tokens}
use Rattle.cyc_grammar.specs.Faults.{BeginsText, IsFirstDead}
use Rattle.cyc_grammar.proofs.Laws.{Lawful, Faults}
use Rattle.heap_reader.specs.Items.{SpellsPart, IsReadPart}

-- the words after a place are those of tokens too
pub tokens_behind : (ws : List Word) (n : ℕ) → are_tokens ws ≡ true → are_tokens (drop n ws) ≡ true
tokens_behind ws zero e = e
tokens_behind [] (suc n) e = refl
tokens_behind (w ∷ ws) (suc n) e = tokens_behind ws n (and-parts (is_token w) (are_tokens ws) e).1

-- the first dead word of a part
pub first_dead : {T : Type 0} (s : Syntax T) → Lawful s → (ws : List Word) (left : ℕ) → s.read ws ≡ Err left → 0 < left
    → IsFirstDead s ws (length ws - left)
first_dead {T = T} s law ws left e some = by_rest f.rest refl
  where
    f : Faults s ws left
    f = law.fault ws left e

    by_rest : (rest : List Word) → f.rest ≡ rest → IsFirstDead s ws (length ws - left)
    by_rest [] g = absurd (omega (arith, f.size, ap length g, some))
    by_rest (d ∷ r) g =
        let k = length ws - left in
        let whole : ws ≡ f.front ++ d ∷ r = f.parts ∙ ap (λ x. f.front ++ x) g in
        let size : length f.front ≡ k = omega (arith, f.size, ap length f.parts, length-append f.front f.rest) in
        let front : take k ws ≡ f.front = ap (take k) whole ∙ take_at f.front (d ∷ r) k size in
        let longer : f.front ++ d ∷ r ≡ (f.front ++ d ∷ []) ++ r = sym (append_assoc f.front (d ∷ []) r) in
        let next : take (k + 1) ws ≡ f.front ++ d ∷ [] = ap (take (k + 1)) (whole ∙ longer)
        ∙ take_at (f.front ++ d ∷ []) r (k + 1) (omega (arith, size, length-append f.front (d ∷ []))) in
        record {
          within = omega (arith, f.size, ap length f.parts, length-append f.front f.rest, some);
          alive = subst (BeginsText s) (sym front) (f.value, f.tail, f.fits, f.begins);
          dead = λ b.
              let words : s.words b.0 ≡ f.front ++ d ∷ b.1 = b.3 ∙ ap (λ x. x ++ b.1) next
              ∙ append_assoc f.front (d ∷ []) b.1 in
              let read : s.read (s.words b.0) ≡ Ok (b.0, []) = ap s.read (sym (append-nil (s.words b.0)))
              ∙ law.again b.0 [] b.2 tt in
              let clash : Ok (b.0, []) ≡ Err (suc (length b.1)) = sym read ∙ ap s.read words ∙ f.stays d r b.1 g in
              cc;
        }

-- ---- where the words end once, a fault of lexemes stands at one of them

end_inside : (xs tail : List Word) → are_lexemes ((xs ++ end_word ∷ []) ++ tail) ≡ true → ⊥
end_inside [] tail h = absurd cc
end_inside (x ∷ xs) tail h = end_inside xs tail (and-parts (is_lexeme x) (are_lexemes ((xs ++ end_word ∷ []) ++ tail))
    h).1

behind_ends : (body : List Word) (n : ℕ) → n < length (body ++ end_word ∷ [])
    → (xs : List Word) × (drop n (body ++ end_word ∷ []) ≡ xs ++ end_word ∷ [])
behind_ends body zero lt = (body, refl)
behind_ends [] (suc n) lt = absurd (omega arith)
behind_ends (w ∷ body) (suc n) lt = behind_ends body n (omega arith)

some_left : {T : Type 0} (s : Syntax T) → Lawful s → Inner s → (W : List Word) (n left : ℕ) → EndsOnce W → n < length W
    → s.read (drop n W) ≡ Err left → (0 < left) × (left ≤ length (drop n W))
some_left {T = T} s law inner W n left ends lt e =
    (by_left left refl, omega (arith, f.size, ap length f.parts, length-append f.front f.rest))
  where
    f : Faults s (drop n W) left
    f = law.fault (drop n W) left e

    by_left : (k : ℕ) → left ≡ k → 0 < k
    by_left (suc k) is = omega arith
    by_left zero is =
        let none : f.rest ≡ [] = nil_from_length f.rest (f.size ∙ is) in
        let tail : (xs : List Word) × (drop n W ≡ xs ++ end_word ∷ []) =
        let lt' : n < length (ends.0 ++ end_word ∷ []) = omega (arith, lt, ap length ends.2) in
        let got = behind_ends ends.0 n lt' in
        (got.0, ap (drop n) ends.2 ∙ got.1) in
        let front : f.front ≡ tail.0 ++ end_word ∷ [] = sym (append-nil f.front) ∙ ap (λ r. f.front ++ r) (sym none)
        ∙ sym f.parts ∙ tail.1 in
        absurd (end_inside tail.0 f.tail (ap are_lexemes (sym (f.begins ∙ ap (λ x. x ++ f.tail) front))
        ∙ inner.inner f.value f.fits))

-- ---- what the function gives

pub part_within : {T : Type 0} (s : Syntax T) → Lawful s → Inner s → (W : List Word) (n m : ℕ) (k : Refusal)
    → EndsOnce W → n < length W → length W ≡ m → Fails k (s.read (drop n W)) → IsWithin k m
part_within s law inner W n m OutOfMemory ends lt size fails = tt
part_within s law inner W n m (Dead left) ends lt size fails =
    let both = some_left s law inner W n left ends lt fails in
    (both.0, omega (arith, both.1, size, length-drop n W))

pub part_fault : {T Y : Type 0} (s : Syntax T) → Lawful s → Inner s
    → (is : T → Y → Type 0) (ts : List Placed) (place : ℕ) (k : Refusal) (fault : ReadFault) → EndsOnce (map word_of ts)
    → place < length ts → Fails k (s.read (drop place (map word_of ts))) → IsTold ts k fault
    → IsReadPart s is ts place (Err fault)
part_fault s law inner is ts place OutOfMemory faults.OutOfMemory ends lt fails told = tt
part_fault s law inner is ts place OutOfMemory (faults.Syntax token line column) ends lt fails told = absurd cc
part_fault s law inner is ts place OutOfMemory (faults.Lex fault) ends lt fails told = absurd cc
part_fault s law inner is ts place OutOfMemory (faults.IllFormed fault token line column) ends lt fails told = absurd cc
part_fault s law inner is ts place OutOfMemory (faults.Limit what token line column) ends lt fails told = absurd cc
part_fault s law inner is ts place (Dead left) faults.OutOfMemory ends lt fails told = absurd told
part_fault s law inner is ts place (Dead left) (faults.Lex fault) ends lt fails told = absurd told
part_fault s law inner is ts place (Dead left) (faults.IllFormed fault token line column)
    ends lt fails told = absurd told
part_fault s law inner is ts place (Dead left) (faults.Limit what token line column) ends lt fails told = absurd told
part_fault s law inner is ts place (Dead left) (faults.Syntax token line column) ends lt fails told =
    let W = map word_of ts in
    let size = length-map ts word_of in
    let both = some_left s law inner W place left ends (omega (arith, lt, size)) fails in
    let behind = length-drop place W in
    let first = first_dead s law (drop place W) left fails both.0 in
    let same : length (drop place W) - left ≡ token - place = omega (arith, told.0, both.1, behind, size, lt) in (
      omega (arith, told.0, both.1, behind, size, lt),
      subst (λ (n : ℕ). IsFirstDead s (drop place W) n) same first,
      told.1,
    )

pub part_spelled : {T : Type 0} (s : Syntax T) → Lawful s
    → (ts : List Placed) (place behind count left : ℕ) (tree : T) (rest : List Word)
    → s.read (drop place (map word_of ts)) ≡ Ok (tree, rest) → place < length ts → count ≡ length ts
    → left ≡ length rest → behind ≡ count - left → SpellsPart s ts place behind tree
part_spelled s law ts place behind count left tree rest e lt all own is =
    let W = map word_of ts in
    let taken = law.takes (drop place W) (tree, rest) e in
    let size = length-map ts word_of in
    let length_left = length-drop place W in
    let parts = ap length taken.0 ∙ length-append (s.words tree) rest in
    let here : behind ≡ place + length (s.words tree) = omega (arith, is, all, own, size, length_left, parts, lt) in
    let same : rest ≡ drop behind W = sym (ap (λ (n : ℕ). drop n W) here
    ∙ sym (drop-drop (length (s.words tree)) place W) ∙ ap (drop (length (s.words tree))) taken.0
    ∙ drop_at (s.words tree) rest (length (s.words tree)) refl) in
    (taken.2, taken.0 ∙ ap (λ r. s.words tree ++ r) same, here)

pub behind_fits : {T : Type 0} (s : Syntax T) → Lawful s → (ts : List Placed) (place : ℕ) (tree : T) (rest : List Word)
    → s.read (drop place (map word_of ts)) ≡ Ok (tree, rest) → place < length ts
    → s.fits tree × (place + length (s.words tree) ≤ length ts) × (length rest ≤ length ts)
behind_fits s law ts place tree rest e lt =
    let W = map word_of ts in
    let taken = law.takes (drop place W) (tree, rest) e in
    let size = length-map ts word_of in
    let length_left = length-drop place W in
    let parts = ap length taken.0 ∙ length-append (s.words tree) rest in
    (taken.2, omega (arith, size, length_left, parts, lt), omega (arith, size, length_left, parts, lt))

-- the words of a slice of tokens
drop_mapped : {X Y : Type 0} (g : X → Y) (n : ℕ) (xs : List X) → map g (drop n xs) ≡ drop n (map g xs)
drop_mapped g zero xs = refl
drop_mapped g (suc n) [] = refl
drop_mapped g (suc n) (x ∷ xs) = drop_mapped g n xs

pub slice_words : (ts : List Token) (ps : List Placed) (n : ℕ) → map placed ts ≡ ps
    → words (take (length ts - n) (drop n ts)) ≡ drop n (map word_of ps)
slice_words ts ps n e =
    let behind = length-drop n ts in
    ap words (take_all (length ts - n) (drop n ts) (omega (arith, behind))) ∙ drop_mapped word n ts
    ∙ ap (drop n) (words-placed ts ps e)

pub slice_tokens : (ps : List Placed) (n : ℕ) → EndsOnce (map word_of ps) → are_tokens (drop n (map word_of ps)) ≡ true
slice_tokens ps n ends = tokens_behind (map word_of ps) n (all-tokens (map word_of ps) ends)
