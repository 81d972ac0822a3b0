-- How words are laid out in pieces and lines.
use Rattle.std.specs.Prelude.{ℕ, ◌+◌, Bool, true, false, ◌&&◌, ◌||◌, not, nat_lt, List, [], ◌∷◌, ◌++◌, length, codes}
use Rattle.std.specs.Prelude.{if◌then◌else◌}
use Rattle.std.specs.Str.{bytes_eq}
use Rattle.cyc_lex.specs.declared.token.Kind.TheVariants.{Name, Symbol}
use Rattle.cyc_lex.specs.Word.{Word, is_name}
use Rattle.cyc_lex.specs.Writing.{Written, blank, write}
use Rattle.proof_picture.specs.declared.spot.Gap.{Gap}
use Rattle.proof_picture.specs.declared.spot.Gap.TheVariants as gaps
use Rattle.proof_picture.specs.Pieces.{LabelPart, Words, Space, Line}

-- a line begins at the succedent, at each further disjunct, and at the reason; the words are reserved, so no names
abbrev pub begins_line : List ℕ → Bool
begins_line text = bytes_eq text (codes "|-") || (bytes_eq text (codes "or") || bytes_eq text (codes "by"))

-- how far the words have come: whether the spatial atoms of the antecedent have begun; for the atom that is next or has
-- begun, and for each after it, whether it stands out; how many bytes the words of the line have, counted up to a
-- hundred or so; and whether the last word is a comma
pub record Place : Type 0 where
  pub inside : Bool
  pub flags : List Bool
  pub signs : ℕ
  pub comma : Bool

abbrev pub start : List Bool → Place
start flags = record { inside = false; flags = flags; signs = 0; comma = false }

abbrev pub first_flag : List Bool → Bool
first_flag [] = false
first_flag (flag ∷ flags) = flag

abbrev pub other_flags : List Bool → List Bool
other_flags [] = []
other_flags (flag ∷ flags) = flags

abbrev pub signs_with : ℕ → List ℕ → ℕ
signs_with signs text = if nat_lt signs 100 then signs + length text else signs

-- whether the word that comes next is of an atom that stands out
abbrev pub stands_out : Place → List ℕ → Bool
stands_out place text = place.inside && (not (bytes_eq text (codes "*") || begins_line text) && first_flag place.flags)

-- a long line ends before the next star, and one that is longer after the next comma
abbrev pub ends_line : Place → List ℕ → Bool
ends_line place text =
    begins_line text || ((nat_lt 34 place.signs && bytes_eq text (codes "*")) || (nat_lt 52 place.signs && place.comma))

abbrev pub same : Bool → Bool → Bool
same true b = b
same false b = not b

-- a prime belongs to the name before it, as in a problem
abbrev pub is_prime : List ℕ → Bool
is_prime text = bytes_eq text (codes "'")

-- what stands before the word that comes next, where the words before it stand out or not
abbrev pub gap_before : Place → Bool → List ℕ → Gap
gap_before place bold text =
    if ends_line place text then gaps.Line
    else (if is_prime text then gaps.Joined else (if same (stands_out place text)
    bold then gaps.Within else gaps.Space))

abbrev pub signs_behind : Place → Gap → ℕ
signs_behind place gaps.Line = 0
signs_behind place gaps.Within = place.signs
signs_behind place gaps.Joined = place.signs
signs_behind place gaps.Space = place.signs

-- a star leads to the next atom, and a line after the antecedent has none
abbrev pub flags_behind : Place → List ℕ → List Bool
flags_behind place text =
    if begins_line text then [] else (if place.inside && bytes_eq text (codes "*")
    then other_flags place.flags else place.flags)

abbrev pub after_word : Place → Gap → List ℕ → Place
after_word place gap text = record {
  inside = place.inside || bytes_eq text (codes ":");
  flags = flags_behind place text;
  signs = signs_with (signs_behind place gap) text;
  comma = bytes_eq text (codes ",");
}

-- the word as it is written: a number as a symbol is, since none stands before a parenthesis
abbrev pub plain : Word → Word
plain w = record { kind = if is_name w.kind then Name else Symbol; text = w.text }

-- the pieces so far, the words of the next piece, whether these stand out, and how far the words have come
pub record Laid : Type 0 where
  pub pieces : List LabelPart
  pub written : Written
  pub bold : Bool
  pub place : Place

abbrev pub blank_layout : List Bool → Laid
blank_layout flags = record { pieces = []; written = blank; bold = false; place = start flags }

-- the pieces and the words of the next one, before a word
abbrev pub pieces_behind : Laid → Gap → List LabelPart
pieces_behind l gaps.Within = l.pieces
pieces_behind l gaps.Joined = l.pieces ++ Words l.bold l.written.bytes ∷ []
pieces_behind l gaps.Space = (l.pieces ++ Words l.bold l.written.bytes ∷ []) ++ Space ∷ []
pieces_behind l gaps.Line = (l.pieces ++ Words l.bold l.written.bytes ∷ []) ++ Line ∷ []

abbrev pub written_behind : Laid → Gap → Written
written_behind l gaps.Within = l.written
written_behind l gaps.Joined = blank
written_behind l gaps.Space = blank
written_behind l gaps.Line = blank

-- one more word
abbrev pub step : Laid → Word → Laid
step l w =
    let gap = gap_before l.place l.bold w.text in
    record {
      pieces = pieces_behind l gap;
      written = write (written_behind l gap) (plain w);
      bold = stands_out l.place w.text;
      place = after_word l.place gap w.text;
    }

abbrev pub steps : Laid → List Word → Laid
steps l [] = l
steps l (w ∷ ws) = steps (step l w) ws

abbrev pub finished : Laid → List LabelPart
finished l = l.pieces ++ Words l.bold l.written.bytes ∷ []

-- the words in pieces and lines; the flags say of each spatial atom of the antecedent whether it stands out
abbrev pub label : List Bool → List Word → List LabelPart
label flags ws = finished (steps (blank_layout flags) ws)
