-- Whether a companion is as long as a link wants.
use Rattle.std.specs.Prelude.{length, Bool, true, nat_eq}
use Rattle.heap_formula.specs.declared.judgements.Judgement.{Judgement}
use Rattle.heap_formula.specs.declared.judgements.Judgement.TheVariants.{Entail, Term as Runs}

-- the antecedents of two entailments have equally many spatial atoms
abbrev pub is_as_long : Judgement → Judgement → Bool
is_as_long (Entail a bs) (Entail b cs) = nat_eq (length a.spatial) (length b.spatial)
is_as_long (Entail a bs) (Runs k b) = true
is_as_long (Runs i a) companion = true
