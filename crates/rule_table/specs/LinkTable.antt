-- Link: the first fault, and the premise with its trace pairs.
use Rattle.std.specs.Prelude.{ℕ, zero, suc, List, [], ◌∷◌, ◌++◌, map, length, Bool, true, false, ◌&&◌, not, nat_eq}
use Rattle.std.specs.Prelude.{nat_le, cond, Option, Some, None, slice_get, slice_index}
use Rattle.heap_formula.specs.declared.terms.Term.{Term}
use Rattle.heap_formula.specs.declared.terms.Term.TheVariants.{Univ}
use Rattle.heap_formula.specs.declared.atoms.Pure.{Pure}
use Rattle.heap_formula.specs.declared.atoms.Spatial.{Spatial}
use Rattle.heap_formula.specs.declared.atoms.Spatial.TheVariants.{Cell, Pred}
use Rattle.heap_formula.specs.declared.judgements.Judgement.{Judgement}
use Rattle.heap_formula.specs.declared.judgements.Judgement.TheVariants.{Entail, Term as Runs}
use Rattle.heap_formula.specs.declared.judgements.Premise.{Premise}
use Rattle.heap_formula.specs.declared.proof_rules.Link.{Link}
use Rattle.heap_formula.specs.declared.proof_rules.RuleFault.{RuleFault}
use Rattle.heap_formula.specs.declared.proof_rules.RuleFault.TheVariants.{WrongJudgement, LineDiffers}
use Rattle.heap_formula.specs.declared.proof_rules.RuleFault.TheVariants.{LinkProgramVariable, LinkPure, LinkSpatial}
use Rattle.heap_formula.specs.declared.proof_rules.RuleFault.TheVariants.{LinkDisjunct}
use Rattle.heap_formula.specs.Symbolic.{SymbolicHeap}
use Rattle.heap_formula.specs.Positions.{pairs_from}
use Rattle.heap_formula.specs.Judgements.{antecedent}
use Rattle.heap_formula.specs.Substitution.{Bindings, image, apply_pure, apply_spatial, apply_heap}
use Rattle.rule_table.specs.RuleLink.{count_of}
use Rattle.rule_table.specs.Tests.{same_term, equated, follows, has_number}

-- the first fault of two
abbrev pub first_of : Option RuleFault → Option RuleFault → Option RuleFault
first_of None g = g
first_of (Some f) g = Some f

-- the fault where the test does not hold
abbrev pub fault_unless : Bool → RuleFault → Option RuleFault
fault_unless true f = None
fault_unless false f = Some f

-- each variable below p is sent to itself
abbrev pub keeps_below : Bindings → ℕ → Bool
keeps_below s zero = true
keeps_below s (suc p) = same_term (image s p) (Univ p) && keeps_below s p

-- the first pure atom that does not follow; the list begins at place k
abbrev pub pure_fault : List Pure → ℕ → List Pure → Option RuleFault
pure_fault pures k [] = None
pure_fault pures k (x ∷ xs) = cond (follows pures x) (pure_fault pures (suc k) xs) (Some (LinkPure k))

-- equally many terms, and each two in one place are one or equated by the list
abbrev pub all_equated : List Pure → List Term → List Term → Bool
all_equated pures [] [] = true
all_equated pures [] (u ∷ us) = false
all_equated pures (t ∷ ts) [] = false
all_equated pures (t ∷ ts) (u ∷ us) = equated pures t u && all_equated pures ts us

-- both are cells, or both have one predicate, and their terms are equated
abbrev pub matches : List Pure → Spatial → Spatial → Bool
matches pures (Cell t ts) (Cell u us) = equated pures t u && all_equated pures ts us
matches pures (Pred p ts) (Pred q us) = nat_eq p q && all_equated pures ts us
matches pures (Cell t ts) (Pred q us) = false
matches pures (Pred p ts) (Cell u us) = false

-- an atom that may be missing matches
abbrev pub matches_some : List Pure → Spatial → Option Spatial → Bool
matches_some pures x None = false
matches_some pures x (Some y) = matches pures x y

-- the first atom whose entry names no atom, or one that an earlier entry names, or one that it does not match;
-- both lists begin at place k, `seen` are the earlier entries, and `whole` is that no atom is left
abbrev pub spatial_fault : List Pure → List Spatial → Bool → List ℕ → ℕ → List ℕ → List Spatial → Option RuleFault
spatial_fault pures atoms whole seen k [] [] = fault_unless whole (LinkSpatial k)
spatial_fault pures atoms whole seen k (m ∷ ms) [] = Some (LinkSpatial k)
spatial_fault pures atoms whole seen k [] (x ∷ xs) = Some (LinkSpatial k)
spatial_fault pures atoms whole seen k (m ∷ ms) (x ∷ xs) =
    cond (not (has_number seen m) && matches_some pures x (slice_get atoms m))
    (spatial_fault pures atoms whole (seen ++ m ∷ []) (suc k) ms xs) (Some (LinkSpatial k))

-- each atom of the list stands as often in xs as in ys
abbrev pub counts_agree : List Spatial → List Spatial → List Spatial → Bool
counts_agree xs ys [] = true
counts_agree xs ys (z ∷ zs) = nat_eq (count_of z xs) (count_of z ys) && counts_agree xs ys zs

-- the same atoms with the same multiplicities
abbrev pub same_atoms : List Spatial → List Spatial → Bool
same_atoms xs ys = counts_agree xs ys xs && counts_agree xs ys ys

-- each atom of the second list follows from the first
abbrev pub all_follow : List Pure → List Pure → Bool
all_follow pures [] = true
all_follow pures (x ∷ xs) = follows pures x && all_follow pures xs

-- c says at least what a heap says that may be missing
abbrev pub covers_some : SymbolicHeap → Option SymbolicHeap → Bool
covers_some c None = false
covers_some c (Some b) = same_atoms b.spatial c.spatial && all_follow c.pure b.pure

-- the first disjunct whose entry names none, or one that it does not cover; both lists begin at place k
abbrev pub disjunct_fault : List SymbolicHeap → ℕ → List ℕ → List SymbolicHeap → Option RuleFault
disjunct_fault bs k [] [] = None
disjunct_fault bs k (m ∷ ms) [] = Some (LinkDisjunct k)
disjunct_fault bs k [] (c ∷ cs) = Some (LinkDisjunct k)
disjunct_fault bs k (m ∷ ms) (c ∷ cs) =
    cond (covers_some c (slice_get bs m)) (disjunct_fault bs (suc k) ms cs) (Some (LinkDisjunct k))

-- the bud's antecedent and disjuncts, and the companion's
abbrev pub parts_fault : SymbolicHeap → List SymbolicHeap → SymbolicHeap → List SymbolicHeap → Bool → Link
    → Option RuleFault
parts_fault a bs b cs whole link =
    first_of (pure_fault a.pure 0 (map (apply_pure link.subst) b.pure))
    (first_of (spatial_fault a.pure a.spatial whole [] 0 link.map (map (apply_spatial link.subst) b.spatial))
    (disjunct_fault bs 0 link.disjuncts (map (apply_heap link.subst) cs)))

-- the bud, the companion, and the number of program variables
abbrev pub link_fault : Judgement → Judgement → Link → ℕ → Option RuleFault
link_fault (Entail a bs) (Entail b cs) link p =
    parts_fault a bs b cs (nat_le (length a.spatial) (length b.spatial)) link
link_fault (Entail a bs) (Runs i b) link p = Some WrongJudgement
link_fault (Runs i a) (Entail b cs) link p = Some WrongJudgement
link_fault (Runs i a) (Runs k b) link p =
    first_of (fault_unless (nat_eq i k) LineDiffers)
    (first_of (fault_unless (keeps_below link.subst p) LinkProgramVariable) (parts_fault a [] b [] true link))

-- the companion, its predicate atoms being those that the map names
abbrev pub link_premise : Judgement → Link → Premise
link_premise companion link =
    record { judgement = companion; pairs = pairs_from (λ k. slice_index link.map k) 0 (antecedent companion).spatial }
