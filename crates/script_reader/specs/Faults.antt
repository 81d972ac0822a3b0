-- The first fault of a text.
use Rattle.std.specs.Prelude.{◌≡◌, ℕ, zero, suc, Bool, true, false, not, ◌==◌, nat_lt, List, [], ◌∷◌, length, Option}
use Rattle.std.specs.Prelude.{Some, None, Result, Ok, Err, if◌then◌else◌}
use Rattle.script_reader.specs.declared.trees.kinds.AtomKind.{AtomKind}
use Rattle.script_reader.specs.declared.trees.kinds.AtomKind.TheVariants.{Symbol, Quoted}
use Rattle.script_reader.specs.declared.trees.kinds.TokenKind.{TokenKind}
use Rattle.script_reader.specs.declared.trees.kinds.TokenKind.TheVariants.{Open, Close, Atom}
use Rattle.script_reader.specs.declared.trees.reading.TreeFault.{TreeFault}
use Rattle.script_reader.specs.declared.trees.reading.TreeFault.TheVariants as faults
use Rattle.script_reader.specs.Tokens.{Placed, first_broken, first_stray, tokens_of}

-- a byte that begins no token, and one that begins no whole character: the first of the two counts
abbrev pub earlier : Option ℕ → Option ℕ → Option TreeFault
earlier None None = None
earlier (Some stray) None = Some (faults.Byte stray)
earlier None (Some broken) = Some (faults.Utf8 broken)
earlier (Some stray) (Some broken) = if nat_lt stray broken then Some (faults.Byte stray) else Some (faults.Utf8 broken)

abbrev pub lexical_fault : List ℕ → Option TreeFault
lexical_fault bytes = earlier (first_stray bytes) (first_broken bytes)

-- a list begins with a symbol
abbrev pub is_symbol : TokenKind → Bool
is_symbol (Atom Symbol) = true
is_symbol (Atom Quoted) = true
is_symbol other = false

-- an atom may not come next: a list begins with another one, or none is open
abbrev pub refuses_atom : ℕ → Bool → AtomKind → Bool
refuses_atom depth true kind = not (is_symbol (Atom kind))
refuses_atom depth false kind = depth == 0

-- how many parentheses are open after a token, where so many were, and whether the outermost has just been opened; None
-- where no script has this token there
abbrev pub after : TokenKind → ℕ → Bool → Option (ℕ × Bool)
after kind depth true = if is_symbol kind then Some (depth, false) else None
after Open zero false = Some (1, true)
after Open (suc depth) false = Some (suc (suc depth), false)
after Close zero false = None
after Close (suc depth) false = Some (depth, false)
after (Atom kind) zero false = None
after (Atom kind) (suc depth) false = Some (suc depth, false)

abbrev pub or_here : Option (ℕ × Bool) → ℕ → (ℕ → Bool → Option ℕ) → Option ℕ
or_here None from later = Some from
or_here (Some s) from later = later s.0 s.1

-- tokens behind others, after which so many parentheses are open, the outermost of them just now or not: the offset of
-- the first with which no script goes on, scripts being lists that begin with a symbol, one after the other; of the
-- end, where one is open there
unfoldable pub unfit_from : ℕ → ℕ → Bool → List Placed → Option ℕ
unfit_from end depth begun [] = if depth == 0 then None else Some end
unfit_from end depth begun (t ∷ ts) = or_here (after t.kind depth begun) t.from (λ d b. unfit_from end d b ts)

abbrev pub first_unfit : List ℕ → Option ℕ
first_unfit bytes = unfit_from (length bytes) 0 false (tokens_of bytes)

-- a token is taken where so many parentheses are open, and then so many are
abbrev pub Takes : ℕ → Bool → Placed → Result (Unit {0}) TreeFault → ℕ → Bool → Type 0
Takes depth begun t (Ok done) depth' begun' = (end : ℕ) (ts : List Placed)
    → unfit_from end depth begun (t ∷ ts) ≡ unfit_from end depth' begun' ts
Takes depth begun t (Err (faults.Syntax at)) depth' begun' = (end : ℕ) (ts : List Placed)
    → unfit_from end depth begun (t ∷ ts) ≡ Some at
Takes depth begun t (Err faults.OutOfMemory) depth' begun' = Unit {0}
Takes depth begun t (Err (faults.Byte at)) depth' begun' = ⊥
Takes depth begun t (Err (faults.Utf8 at)) depth' begun' = ⊥

-- the text, which has no bad byte, has this fault; out of memory is free
abbrev pub IsUnfit : List ℕ → TreeFault → Type 0
IsUnfit bytes (faults.Syntax at) = first_unfit bytes ≡ Some at
IsUnfit bytes faults.OutOfMemory = Unit {0}
IsUnfit bytes (faults.Byte at) = ⊥
IsUnfit bytes (faults.Utf8 at) = ⊥

abbrev pub IsBuilt : {X : Type 0} → List ℕ → Result X TreeFault → Type 0
IsBuilt bytes (Ok trees) = first_unfit bytes ≡ None
IsBuilt bytes (Err fault) = IsUnfit bytes fault

-- a script, or the first fault of a text; out of memory is free
abbrev pub ReadsOr : {X : Type 0} → List ℕ → Option TreeFault → Result X TreeFault → Type 0
ReadsOr bytes (Some fault) (Ok trees) = ⊥
ReadsOr bytes (Some fault) (Err e) = e ≡ fault
ReadsOr bytes None r = IsBuilt bytes r
