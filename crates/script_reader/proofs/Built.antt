-- A text of which all tokens were taken, or one was not.
use Rattle.std.proofs.Common.{◌≡◌, ◌∙◌, ◌==◌, ap, sym, refl, ℕ, Bool, true, false, List, [], ◌∷◌, length}
use Rattle.std.specs.Prelude.{Some, None, Err, if◌then◌else◌}
use Rattle.script_reader.specs.declared.trees.reading.TreeFault.{TreeFault}
use Rattle.script_reader.specs.declared.trees.reading.TreeFault.TheVariants as faults
use Rattle.script_reader.specs.Tokens.{Placed}
use Rattle.script_reader.specs.Faults.{IsUnfit, Takes, first_unfit, unfit_from}

-- a token that was not taken is where the text is unfit
pub refused_built : (bytes : List ℕ) (d d' : ℕ) (b b' : Bool) (t : Placed) (rest : List Placed) (fault : TreeFault)
    → Takes d b t (Err fault) d' b' → unfit_from (length bytes) d b (t ∷ rest) ≡ first_unfit bytes → IsUnfit bytes fault
refused_built bytes d d' b b' t rest (faults.Syntax at) takes same = sym same ∙ takes (length bytes) rest
refused_built bytes d d' b b' t rest faults.OutOfMemory takes same = tt
refused_built bytes d d' b b' t rest (faults.Byte at) takes same = absurd takes
refused_built bytes d d' b b' t rest (faults.Utf8 at) takes same = absurd takes

-- at the end no list may be open
pub unfit_ended : (end d : ℕ) (b : Bool) → unfit_from end d b [] ≡ (if d == 0 then None else Some end)
unfolding unfit_from
unfit_ended end d b = refl

pub none_open : (end d : ℕ) (b empty : Bool) → empty ≡ (d == 0) → empty ≡ true → unfit_from end d b [] ≡ None
none_open end d b empty is full = unfit_ended end d b ∙ ap (λ (q : Bool). if q then None else Some end) (sym is ∙ full)

pub some_open : (end d : ℕ) (b empty : Bool) → empty ≡ (d == 0) → empty ≡ false → unfit_from end d b [] ≡ Some end
some_open end d b empty is other = unfit_ended end d b
    ∙ ap (λ (q : Bool). if q then None else Some end) (sym is ∙ other)
